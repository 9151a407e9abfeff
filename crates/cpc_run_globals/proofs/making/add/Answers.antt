use Rattle.std.proofs.Common.{◌≡◌, None, Some, reverse, option_map, refl, sym, ap, ◌∙◌}
use Rattle.cpc_store.specs.declared.values.Class.TheVariants.{Static}
use Rattle.cpc_store.specs.Store.{alloc}
use Rattle.cpc_tree.specs.Erase.{type_of, expr_of}
use Rattle.cpc_meaning.specs.Start as M
use Rattle.cpc_eval_values.specs.Shown.{values_of, store_of}
use Rattle.cpc_run_globals.specs.Rows.{type_layout}
use Rattle.cpc_run_globals.proofs.making.add.Goals as goal

pub returns-in-None : goal.returns-in-None
returns-in-None c = λ names p rest are.
    let none : type_layout (reverse p) (type_of names c.in-Global.of) ≡ None = sym (rw c.in-None.is at (c.in_ok-row-in-Global.ensures names (reverse p) are)) in
    rw (c.in-Global.is, none) refl

pub returns-in_ok-make_block-in-Some : goal.returns-in_ok-make_block-in-Some
returns-in_ok-make_block-in-Some c = λ names p rest are.
    let row = c.in-Some.row.items in
    let old = store_of names c.args.store.now in
    let some : type_layout (reverse p) (type_of names c.in-Global.of) ≡ Some row = sym (rw c.in-Some.is at (c.in_ok-row-in-Global.ensures names (reverse p) are)) in
    let cells : values_of names c.in_ok-cells-in-Some.cells.items ≡ M.start_cells (option_map (expr_of names) c.in-Global.start) row = rw (← c.deref.ensures.value) (c.in_ok-cells-in-Some.ensures.value names) in
    let made : store_of names c.make_block.new.store ≡ alloc Static (values_of names c.in_ok-cells-in-Some.cells.items) old = rw (← c.deref-in-Some.ensures.value) (c.in_ok-make_block-in-Some.ensures.made names) in
    rw (c.in-Global.is, some) (ap (M.make_globals p rest) (ap (λ v. alloc Static v old) (sym cells) ∙ sym made))
