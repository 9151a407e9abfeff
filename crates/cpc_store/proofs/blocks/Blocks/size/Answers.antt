use Rattle.std.proofs.Common.{◌≡◌, length, map, ap, sym, ◌∙◌, Some, None}
use Rattle.std.proofs.lemmas.List.{length-map}
use Rattle.std.specs.Prelude.{nat_eq, slice_get}
use Rattle.std.specs.HashMap as hash
use Rattle.std.specs.Option.{option_map}
use Rattle.cpc_store.specs.Store as S
use Rattle.cpc_store.specs.Seen.{seen}
use Rattle.cpc_store.specs.Blocks.{seen_block}
use Rattle.cpc_store.proofs.BlockLemmas.{live_is}
use Rattle.cpc_store.proofs.blocks.Blocks.size.Goals as goal

pub returns-in-Some : goal.returns-in-Some
returns-in-Some c =
    let l : S.live (slice_get c.args.self.now c.args.number) ≡ Some (map seen c.in-Some.cells.now.items) = live_is c.self.inside.made (hash.get nat_eq c.self.inside.live) c.args.self.now c.args.number c.self.view_is c.self.invariant ∙ ap seen_block (sym c.in-Some.ensures.value) in
    ap Some (c.len.ensures ∙ c.in-Some.cells.now.ok.0 ∙ sym (length-map c.in-Some.cells.now.items seen)) ∙ ap (option_map length) (sym l)

pub returns-in-None : goal.returns-in-None
returns-in-None c =
    let l : S.live (slice_get c.args.self.now c.args.number) ≡ None = live_is c.self.inside.made (hash.get nat_eq c.self.inside.live) c.args.self.now c.args.number c.self.view_is c.self.invariant ∙ ap seen_block (sym c.in-None.ensures.value) in
    ap (option_map length) (sym l)
