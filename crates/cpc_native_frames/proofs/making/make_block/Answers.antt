use Rattle.std.proofs.Common.{◌+◌, [], ap, sym, ◌∙◌}
use Rattle.cpc_tree.specs.Erase.{Names}
use Rattle.cpc_native_frames.proofs.Rising.{next_made}
use Rattle.cpc_store.specs.declared.values.Block.{Block}
use Rattle.cpc_store.specs.Store.{save}
use Rattle.cpc_store.specs.Seen.{seen}
use Rattle.cpc_native_frames.proofs.Blocks.{block_made}
use Rattle.cpc_native_frames.proofs.making.make_block.Goals as goal

pub returns-clause-store : goal.returns-clause-store
returns-clause-store c = λ names.
    let is = c.in_ok-block.ensures.block in
    block_made names c.args.cells c.in_ok-block.block.number c.args.first c.args.store.now c.alloc.new.self c.save.new.self c.save.result c.in_ok-block.ensures.ok
    (ap (λ (b : Block). b.number) is)
    (c.save.ensures.value ∙ ap (λ k. save k c.in_ok-block.block.number 0 (seen c.args.first) c.alloc.new.self) (ap (λ (b : Block). b.class) is))
    c.save.ensures.err

pub returns-clause-next : goal.returns-clause-next
returns-clause-next c =
    let is = c.in_ok-block.ensures.block in
    let number = ap (λ (b : Block). b.number) is in
    let names : Names = λ x. [] in
    next_made names _ c.args.store.now c.save.new.self
    (block_made names c.args.cells c.in_ok-block.block.number c.args.first c.args.store.now c.alloc.new.self c.save.new.self c.save.result c.in_ok-block.ensures.ok number
    (c.save.ensures.value ∙ ap (λ k. save k c.in_ok-block.block.number 0 (seen c.args.first) c.alloc.new.self) (ap (λ (b : Block). b.class) is))
    c.save.ensures.err)
    ∙ ap (λ n. n + 1) (sym number)
