use Rattle.std.proofs.Common.{Ok, refl, sym, option_map}
use Rattle.std.specs.Borrow.{Bor}
use Rattle.cpc_tree.specs.Erase.{expr_of}
use Rattle.cpc_tree.specs.declared.program.Expr.{Expr}
use Rattle.cpc_meaning.specs.Answer.{◌>>=◌}
use Rattle.cpc_meaning.specs.Act as M
use Rattle.cpc_eval.specs.Around.{context_of}
use Rattle.cpc_native_plans.specs.Parts.{test_held}
use Rattle.cpc_native_plans.specs.declared.plan.Plan.TheVariants as L
use Rattle.cpc_native_plans.proofs.Laying.{lays_by, lays_then, lays_through}
use Rattle.cpc_native_plans.proofs.Doing.{test_parts}
use Rattle.cpc_native_plans.proofs.plan.tests.Goals as goal

pub returns-in_err-holds-clause-value : goal.returns-in_err-holds-clause-value
returns-in_err-holds-clause-value c = λ names told h.
    let k = context_of names c.args.around.now in
    let o = option_map (λ (e : Bor Expr). expr_of names e.now) c.args.test in
    let r = c.from_residual.result in
    lays_by names k r (test_held k o >>= M.passes k) (M.test_act k o) (sym (test_parts k o)) (lays_through names k r _ (test_held k o) (M.passes k) c.from_residual.ensures.1 (c.in_err-holds.ensures.value names told h))

pub returns-clause-value : goal.returns-clause-value
returns-clause-value c = λ names told h.
    let k = context_of names c.args.around.now in
    let o = option_map (λ (e : Bor Expr). expr_of names e.now) c.args.test in
    let plan = L.Passes c.in_ok-holds.holds in
    lays_by names k (Ok plan) (test_held k o >>= M.passes k) (M.test_act k o) (sym (test_parts k o))
    (lays_then names k c.in_ok-holds.holds (test_held k o) (M.passes k) plan tt (c.in_ok-holds.ensures.value names told h) refl)
