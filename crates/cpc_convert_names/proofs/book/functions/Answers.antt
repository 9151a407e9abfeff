use Rattle.std.proofs.Common.{◌≡◌, ◌∙◌, ◌++◌, List, ◌∷◌, [], map, ap, sym, subst, take, length, add-one, arith, All}
use Rattle.std.proofs.lemmas.List.{take_all, map-append}
use Rattle.std.proofs.lemmas.List.Elements.{All-get_or}
use Rattle.std.proofs.Math.Seq.{take-suc}
use Rattle.cpc_forms_code.specs.declared.lifted.LiftedFunction.{LiftedFunction}
use Rattle.cpc_convert_names.proofs.Growing.{grown_none, grown_more, spells_before}
use Rattle.cpc_convert_names.specs.Called.{AreCalled, IsNamed}
use Rattle.cpc_convert_names.specs.declared.called.Called.{Called}
use Rattle.cpc_convert_names.proofs.Finding.{all_more}
use Rattle.cpc_convert_names.proofs.book.functions.Goals as goal

pub loop-function-init : goal.loop-function-init
loop-function-init c =
    let none : length c.new-all.result.items ≡ 0 = ap length c.new-all.ensures.items in
    record { grown = grown_none _; lifted = ap (map (λ (x : Called). x.lifted.now)) c.new-all.ensures.items; are = λ source to g s all k d lt. absurd (omega (arith, lt, none)) }

pub loop-function-preserved : goal.loop-function-preserved
loop-function-preserved c =
    let items = c.deref-function-items.result.now in
    let i = c.loop-function.function-index in
    let item = c.function-item.result in
    let more = take-suc items i item c.loop-function-test.true in
    record {
      grown = grown_more _ _ _ c.loop-function.invariant.grown c.in_ok-called.ensures.grown;
      lifted = ap (map (λ (x : Called). x.lifted.now)) c.in_ok-push.ensures.items ∙ (map-append (λ (x : Called). x.lifted.now) c.loop-function.all.items (c.in_ok-called.called ∷ [])
          ∙ (ap (λ (l : List LiftedFunction). l ++ c.in_ok-called.called.lifted.now ∷ []) c.loop-function.invariant.lifted ∙ (ap (λ (x : LiftedFunction). take i items ++ x ∷ []) (c.in_ok-called.ensures.lifted ∙ c.function-item.is) ∙ rw add-one (sym more))));
      are = λ source to g s all.
          let named = subst (IsNamed source to) (sym c.function-item.is) (All-get_or (IsNamed source to) items i item c.loop-function-test.true all) in
          all_more (AreCalled to) _ _ c.in_ok-called.called c.in_ok-push.ensures.items (c.loop-function.invariant.are source to g (spells_before _ _ to c.in_ok-called.ensures.grown s) all) (c.in_ok-called.ensures.are source to (grown_more _ _ _ g c.loop-function.invariant.grown) s named);
    }

pub returns-clause-grown : goal.returns-clause-grown
returns-clause-grown c = c.loop-function.invariant.grown

pub returns-clause-lifted : goal.returns-clause-lifted
returns-clause-lifted c = c.loop-function.invariant.lifted ∙ (take_all _ c.deref-function-items.result.now c.loop-function-test.false ∙ c.deref-function-items.ensures.value)

pub returns-clause-are : goal.returns-clause-are
returns-clause-are c = λ source to g s all. c.loop-function.invariant.are source to g s (subst (All (IsNamed source to)) (sym c.deref-function-items.ensures.value) all)
