use Rattle.std.proofs.Common.{◌≡◌, None, Some, Ok, map, reverse, sym, ap, subst, ◌∙◌}
use Rattle.cpc_base.proofs.Lists.{some_is}
use Rattle.cpc_store.specs.declared.values.Value.TheVariants as V
use Rattle.cpc_tree.specs.Erase.{type_of, item_of, function_of}
use Rattle.cpc_tree.specs.Syntax.{Function}
use Rattle.cpc_tree.specs.Typing.{function_named}
use Rattle.cpc_meaning.specs.Copies as C
use Rattle.cpc_meaning.specs.Layout.{layout}
use Rattle.cpc_eval_values.specs.Meets.{Meets}
use Rattle.cpc_eval_values.specs.Shown.{value_of, values_of, store_of}
use Rattle.cpc_native.specs.Stops.{MeetsOr, row_shown}
use Rattle.cpc_native_sections.proofs.Pointing.{row_pointed, none_pointed}
use Rattle.cpc_native_sections.proofs.copies.copy_of.Goals as goal

pub returns-in-Some-2-clause-value : goal.returns-in-Some-2-clause-value
returns-in-Some-2-clause-value c = λ names apart are g is.
    let p = map (item_of names) c.args.program.now.items.items in
    let s = store_of names c.args.store.now in
    let b = c.in-At.block in
    let f = function_of names c.in-Some.function.now in
    let found : Some f ≡ function_named p (names c.args.function) = c.in-Some.ensures names apart ∙ ap (λ xs. function_named (map (item_of names) xs) (names c.args.function)) c.deref.ensures.value in
    let one : g ≡ f = some_is g f (sym is ∙ sym found) in
    let row : Some c.in-Some-2.row.items ≡ layout p (type_of names c.in-Some-pointed_type.of.now) = rw c.in-Some-2.is at (c.in_ok-row.ensures names (reverse p) are) in
    subst (MeetsOr (row_shown names c.copied.result))
    (sym (ap (λ v. C.copy_of p g (value_of names v) s) c.in-At.is
    ∙ ap (λ h. C.copy_of p h (value_of names (V.At b c.in-At.offset)) s) one
    ∙ row_pointed p f (type_of names c.in-Some-pointed_type.of.now) (c.in-Some-pointed_type.ensures names) b.class b.number c.in-At.offset s c.in-Some-2.row.items row
    ∙ ap (λ r. C.copied r b.class b.number c.in-At.offset s) (sym c.deref-in-Some-2.ensures.value)))
    (c.copied.ensures.value names)

pub returns-in-None-clause-value : goal.returns-in-None-clause-value
returns-in-None-clause-value c = λ names apart are g is.
    let p = map (item_of names) c.args.program.now.items.items in
    let s = store_of names c.args.store.now in
    let b = c.in-At.block in
    let f = function_of names c.in-Some.function.now in
    let found : Some f ≡ function_named p (names c.args.function) = c.in-Some.ensures names apart ∙ ap (λ xs. function_named (map (item_of names) xs) (names c.args.function)) c.deref.ensures.value in
    let one : g ≡ f = some_is g f (sym is ∙ sym found) in
    let row : None ≡ layout p (type_of names c.in-Some-pointed_type.of.now) = rw c.in-None.is at (c.in_ok-row.ensures names (reverse p) are) in
    subst (Meets (Ok (values_of names c.new-in-None.result.items)))
    (sym (ap (λ v. C.copy_of p g (value_of names v) s) c.in-At.is
    ∙ ap (λ h. C.copy_of p h (value_of names (V.At b c.in-At.offset)) s) one
    ∙ none_pointed p f (type_of names c.in-Some-pointed_type.of.now) (c.in-Some-pointed_type.ensures names) b.class b.number c.in-At.offset s row))
    tt
