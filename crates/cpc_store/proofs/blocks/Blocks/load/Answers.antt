use Rattle.std.proofs.Common.{◌≡◌, map, ap, sym, ◌∙◌, Some, None}
use Rattle.std.specs.Prelude.{nat_eq, slice_get}
use Rattle.std.specs.HashMap as hash
use Rattle.cpc_store.specs.Store as S
use Rattle.cpc_store.specs.Seen.{seen}
use Rattle.cpc_store.specs.Blocks.{seen_block}
use Rattle.cpc_store.proofs.BlockLemmas.{live_is}
use Rattle.cpc_store.proofs.blocks.Blocks.load.Goals as goal

pub returns-in-Some-clause-value : goal.returns-in-Some-clause-value
returns-in-Some-clause-value c =
    let l : S.live (slice_get c.args.self.now c.args.number) ≡ Some (map seen c.in-Some.cells.now.items) = live_is c.self.inside.made (hash.get nat_eq c.self.inside.live) c.args.self.now c.args.number c.self.view_is c.self.invariant ∙ ap seen_block (sym c.in-Some.ensures.value) in
    c.load_cell.ensures.value ∙ ap (λ cells. S.load_block c.args.wanted cells c.args.offset) (sym l)

pub returns-in-None-clause-value : goal.returns-in-None-clause-value
returns-in-None-clause-value c =
    let l : S.live (slice_get c.args.self.now c.args.number) ≡ None = live_is c.self.inside.made (hash.get nat_eq c.self.inside.live) c.args.self.now c.args.number c.self.view_is c.self.invariant ∙ ap seen_block (sym c.in-None.ensures.value) in
    ap (λ cells. S.load_block c.args.wanted cells c.args.offset) (sym l)
