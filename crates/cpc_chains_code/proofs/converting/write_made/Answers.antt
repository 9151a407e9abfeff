use Rattle.std.proofs.Common.{◌≡◌, ◌∙◌, ◌++◌, List, map, sym, ap, subst}
use Rattle.cpc_tree.specs.Erase.{in_table, item_of, program_of}
use Rattle.cpc_tree.specs.declared.program.Item as GItem
use Rattle.cpc_convert_routines.specs.Kept.{kept_items}
use Rattle.cpc_chains_items.specs.Listed.{listed}
use Rattle.cpc_chains_code.specs.Given.{routines_by}
use Rattle.cpc_chains_code.specs.Made.{made_before, made_behind}
use Rattle.cpc_chains_code.proofs.Meant.{three_parts}
use Rattle.cpc_chains_code.proofs.converting.write_made.Goals as goal

pub returns : goal.returns
returns c = λ from to g same.
    let p = program_of c.args.source.now in
    let rs = routines_by from p c.args.book.now in
    three_parts _ (made_before p rs) (kept_items p) (made_behind p rs) _ _ _ (c.in_ok-write_before.ensures from to g)
    (c.in_ok-keep.ensures c.args.source.now.names to g.book (subst (λ (l : List GItem.Item). map (item_of (in_table c.args.source.now.names)) l ≡ map (item_of to) l) (sym c.deref.ensures.value) same)
    ∙ ap (λ (l : List GItem.Item). listed to c.write_before.new.items ++ kept_items (map (item_of to) l)) c.deref.ensures.value ∙ ap (λ u. listed to c.write_before.new.items ++ kept_items u) (sym same)) (c.in_ok-write_behind.ensures from to g)
