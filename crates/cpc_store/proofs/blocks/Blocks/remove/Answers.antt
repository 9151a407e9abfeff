use Rattle.std.proofs.Common.{◌≡◌, length, map, ap, sym, ◌∙◌, Some, None}
use Rattle.std.proofs.lemmas.List.{length-map}
use Rattle.std.specs.Prelude.{nat_eq, slice_get}
use Rattle.std.specs.HashMap as hash
use Rattle.std.specs.Option.{option_map}
use Rattle.cpc_store.specs.Store as S
use Rattle.cpc_store.specs.Seen.{seen}
use Rattle.cpc_store.specs.Blocks.{seen_block}
use Rattle.cpc_store.proofs.BlockLemmas.{live_is, blocks_seen-put}
use Rattle.cpc_store.proofs.blocks.Blocks.remove.Goals as goal
use Rattle.cpc_store.proofs.blocks.Blocks.remove.Goals.{in-Some, in-None}

pub returns-clause-size : goal.returns-clause-size
returns-clause-size c =
    let l = live_is c.self.inside.made (hash.get nat_eq c.self.inside.live) c.args.self.now c.args.number c.self.view_is c.self.invariant in
    elim c.match-remove.branch [
      | in-Some w ↦ (let e : S.live (slice_get c.args.self.now c.args.number) ≡ Some (map seen w.in-Some.cells.items) = l ∙ ap seen_block (sym w.in-Some.ensures.value) in
          w.result-is ∙ ap Some (w.len.ensures ∙ w.in-Some.cells.ok.0 ∙ sym (length-map w.in-Some.cells.items seen)) ∙ ap (option_map length) (sym e))
      | in-None w ↦ w.result-is ∙ ap (option_map length) (sym (l ∙ ap seen_block (sym w.in-None.ensures.value)))
    ]

pub returns-clause-freed : goal.returns-clause-freed
returns-clause-freed c = blocks_seen-put c.self.inside.made (hash.get nat_eq c.self.inside.live) (hash.get nat_eq c.remove.new.self) c.args.self.now c.args.number None c.self.view_is c.remove.ensures.updates.0
