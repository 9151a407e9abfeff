use Rattle.std.proofs.Common.{◌≡◌, true, false, bytes_eq, sym, ap, ◌∙◌}
use Rattle.cpc_base.proofs.Truth.{eq_holds, eq_fails}
use Rattle.cpc_convert_names.specs.Called.{function_in, name_in}
use Rattle.cpc_convert_names.proofs.Finding.{found_here, found_later, found_none}
use Rattle.cpc_convert_names.proofs.book.Book.find.Goals as goal

pub returns-then-function-name : goal.returns-then-function-name
returns-then-function-name c = λ from apart.
    let item = c.called-item.result in
    let same = sym (ap (λ f. f.word.name.0) c.function.ensures) ∙ c.if-function-name.true in
    let e : bytes_eq (name_in from item.lifted.now) (from c.args.name) ≡ true = apart.told (function_in item.lifted.now).word.name c.args.name ∙ eq_holds _ _ same in
    sym (c.loop-called.invariant from apart ∙ found_here from c.deref-called-items.result.now c.loop-called.called-index item (from c.args.name) c.loop-called-test.true c.called-item.is e)

pub loop-called-preserved : goal.loop-called-preserved
loop-called-preserved c = λ from apart.
    let item = c.called-item.result in
    let other : (function_in item.lifted.now).word.name.0 ≡ c.args.name.0 → ⊥ = λ h. c.if-function-name.false (ap (λ f. f.word.name.0) c.function.ensures ∙ h) in
    let e : bytes_eq (name_in from item.lifted.now) (from c.args.name) ≡ false = apart.told (function_in item.lifted.now).word.name c.args.name ∙ eq_fails _ _ other in
    c.loop-called.invariant from apart ∙ found_later from c.deref-called-items.result.now c.loop-called.called-index item (from c.args.name) c.loop-called-test.true c.called-item.is e

pub returns : goal.returns
returns c = λ from apart. sym (c.loop-called.invariant from apart ∙ found_none from c.deref-called-items.result.now c.loop-called.called-index (from c.args.name) c.loop-called-test.false)
