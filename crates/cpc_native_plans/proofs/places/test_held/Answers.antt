use Rattle.std.proofs.Common.{Option, option_map, ap, sym, subst}
use Rattle.std.specs.Borrow.{Bor}
use Rattle.cpc_tree.specs.declared.program.Expr.{Expr}
use Rattle.cpc_tree.specs.Syntax as Y
use Rattle.cpc_tree.specs.Erase.{expr_of}
use Rattle.cpc_meaning.specs.Eval as E
use Rattle.cpc_eval_values.specs.Shown.{value_of}
use Rattle.cpc_eval_index.specs.Indexed.{items_of}
use Rattle.cpc_eval.specs.Around.{context_of}
use Rattle.cpc_eval.specs.Numbers.{MaybeNumbers}
use Rattle.cpc_native_plans.specs.Parts.{test_held}
use Rattle.cpc_eval_values.proofs.Meeting.{meets_then}
use Rattle.cpc_native_plans.proofs.Stopping.{meets_by}
use Rattle.cpc_native_plans.proofs.places.test_held.Goals as goal

pub returns-in_ok-value-in-Some : goal.returns-in_ok-value-in-Some
returns-in_ok-value-in-Some c = record {
  value = λ names told n.
      let around = context_of names c.args.around.now in
      let view : Option (Bor Expr) → Option Y.Expr = λ o. option_map (λ (e : Bor Expr). expr_of names e.now) o in
      let N : Option (Bor Expr) → Type 0 = λ o. MaybeNumbers (items_of names c.args.around.now.index.now) (view o) in
      meets_by _ _ _ (ap (λ o. test_held around (view o)) (sym c.in-Some.is))
      (meets_then (value_of names c.in_ok-value-in-Some.value) (E.value around (expr_of names c.in-Some.test.now)) E.holds _ (c.in_ok-value-in-Some.ensures.value names told (subst N c.in-Some.is n)) (c.holds.ensures names));
}
