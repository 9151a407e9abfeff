use Rattle.std.proofs.Common.{◌≡◌, cond, length, Some, None, map, sym, ap, ◌∙◌, arith}
use Rattle.std.specs.Prelude.{slice_get}
use Rattle.std.proofs.lemmas.List.{drop_all}
use Rattle.std.proofs.lemmas.Result.{IfOk-weaker}
use Rattle.cpc_tree.specs.Erase.{type_of, field_of}
use Rattle.cpc_eval_index.specs.Ends.{items_before, declared_cells}
use Rattle.cpc_eval_index.specs.Indexed.{program_items}
use Rattle.cpc_run_globals.specs.Rows.{held, type_layout, fields_layout, element_layout, joined}
use Rattle.cpc_run_globals.proofs.Held.{times_put, times_absent, field_held, field_absent, joined_end}
use Rattle.cpc_run_globals.proofs.layouts.Layouts.+put.Goals as goal

pub put-returns-then-not-branch : goal.put-returns-then-not-branch
put-returns-then-not-branch t c = λ names items are.
    let b = items_before names (program_items c.args.self.now.index) c.args.before in
    let p = c.in_ok-peeled.peeled in
    times_absent c.args.row.now.items p.times (element_layout names b p.element) (type_layout b (type_of names c.args.of.now)) (c.in_ok-peeled.ensures names b)
    (c.in_ok-put_element.ensures names items are ∙ ap (λ there. cond there (Some c.put_element.new.row.items) None) c.if-not-branch.true)

pub put-returns : goal.put-returns
put-returns t c = λ names items are.
    let b = items_before names (program_items c.args.self.now.index) c.args.before in
    let p = c.in_ok-peeled.peeled in
    let at : length c.args.row.now.items ≡ c.len-start.result = omega (arith, c.len-start.ensures, c.args.row.now.ok.0) in
    times_put c.args.row.now.items p.times (element_layout names b p.element) (type_layout b (type_of names c.args.of.now)) (c.in_ok-peeled.ensures names b) c.put_element.new.row.items c.repeat.new.row.items c.len-start.result
    (c.in_ok-put_element.ensures names items are ∙ ap (λ there. cond there (Some c.put_element.new.row.items) None) c.if-not-branch.false) at c.in_ok-repeat.ensures

pub put_element-returns-in-Some : goal.put_element-returns-in-Some
put_element-returns-in-Some t c = IfOk-weaker c.put_fields.result _ _
    (λ there so names items are.
    let b = items_before names (program_items c.args.self.now.index) c.args.before in
    ap (λ e. joined (Some c.args.row.now.items) (element_layout names b e)) c.in-Struct.is ∙ ap (joined (Some c.args.row.now.items)) (sym (ap held (c.in-Some.ensures.cells names are.apart))) ∙ so names items are)
    c.put_fields.ensures

pub put_element-returns-in-None : goal.put_element-returns-in-None
put_element-returns-in-None t c = λ names items are.
    let b = items_before names (program_items c.args.self.now.index) c.args.before in
    ap (λ e. joined (Some c.args.row.now.items) (element_layout names b e)) c.in-Struct.is ∙ ap (joined (Some c.args.row.now.items)) (sym (ap held (c.in-None.ensures.cells names are.apart)))

pub put_fields-returns-then-not-branch : goal.put_fields-returns-then-not-branch
put_fields-returns-then-not-branch t c = λ names items are.
    let b = items_before names (program_items c.args.self.now.index) c.args.place in
    ap (joined (Some c.args.row.now.items)) (ap (λ ys. held (declared_cells names b (slice_get ys c.args.place))) (sym c.items.ensures) ∙ c.in-Some.ensures names b)
    ∙ c.loop-field.invariant names items are
    ∙ field_absent names b c.in-Some.fields.now c.loop-field.field-index c.field-item.result c.loop-field.row.items c.loop-field-test.true c.field-item.is
    (c.in_ok-put.ensures names items are ∙ ap (λ there. cond there (Some c.put.new.row.items) None) c.if-not-branch.true)

pub put_fields-loop-field-preserved : goal.put_fields-loop-field-preserved
put_fields-loop-field-preserved t c = λ names items are.
    let b = items_before names (program_items c.args.self.now.index) c.args.place in
    c.loop-field.invariant names items are
    ∙ field_held names b c.in-Some.fields.now c.loop-field.field-index c.field-item.result c.loop-field.row.items c.put.new.row.items c.loop-field-test.true c.field-item.is
    (c.in_ok-put.ensures names items are ∙ ap (λ there. cond there (Some c.put.new.row.items) None) c.if-not-branch.false)

pub put_fields-returns : goal.put_fields-returns
put_fields-returns t c = λ names items are.
    let b = items_before names (program_items c.args.self.now.index) c.args.place in
    ap (joined (Some c.args.row.now.items)) (ap (λ ys. held (declared_cells names b (slice_get ys c.args.place))) (sym c.items.ensures) ∙ c.in-Some.ensures names b)
    ∙ c.loop-field.invariant names items are
    ∙ ap (λ gs. joined (Some c.loop-field.row.items) (fields_layout b (map (field_of names) gs))) (drop_all c.loop-field.field-index c.in-Some.fields.now c.loop-field-test.false)
    ∙ joined_end c.loop-field.row.items
