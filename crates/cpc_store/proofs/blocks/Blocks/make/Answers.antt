use Rattle.std.proofs.Common.{◌≡◌, arith, length, map, ap, ◌∙◌, ◌++◌, [], ◌∷◌, Some}
use Rattle.std.specs.Prelude.{nat_eq}
use Rattle.std.specs.HashMap as hash
use Rattle.cpc_store.specs.declared.values.Value.TheVariants as V
use Rattle.cpc_store.specs.Store as S
use Rattle.cpc_store.specs.Seen.{seen}
use Rattle.cpc_store.proofs.BlockLemmas.{made_is, blocks_seen-more}
use Rattle.cpc_store.proofs.ListLemmas.{map-replicate}
use Rattle.cpc_store.proofs.blocks.Blocks.make.Goals as goal

pub overflow_add-self : goal.overflow_add-self
overflow_add-self c = let e : c.self.inside.made ≡ length c.args.self.now = made_is c.self.inside.made (hash.get nat_eq c.self.inside.live) c.args.self.now c.self.view_is in omega arith

pub returns-clause-number : goal.returns-clause-number
returns-clause-number c = made_is c.self.inside.made (hash.get nat_eq c.self.inside.live) c.args.self.now c.self.view_is

pub returns-clause-ok : goal.returns-clause-ok
returns-clause-ok c =
    let e : map seen c.in_ok-unset.unset.items ≡ S.unset_cells c.args.cells = ap (map seen) (c.in_ok-unset.ensures.items_if_clones_equal (λ v e. e)) ∙ map-replicate seen c.args.cells V.Unset in
    blocks_seen-more c.self.inside.made (hash.get nat_eq c.self.inside.live) (hash.get nat_eq c.insert.new.self) c.args.self.now (Some c.in_ok-unset.unset) c.self.view_is c.in_ok-insert.ensures.updates.0
    ∙ ap (λ cells. c.args.self.now ++ Some cells ∷ []) e
