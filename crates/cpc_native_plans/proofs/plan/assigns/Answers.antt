use Rattle.std.proofs.Common.{sym}
use Rattle.cpc_tree.specs.Erase.{expr_of}
use Rattle.cpc_meaning.specs.Answer.{◌>>=◌}
use Rattle.cpc_meaning.specs.Eval as E
use Rattle.cpc_meaning.specs.Act as M
use Rattle.cpc_eval_values.specs.Shown.{value_of}
use Rattle.cpc_eval.specs.Around.{context_of}
use Rattle.cpc_eval.specs.Spots.{spot_of}
use Rattle.cpc_native_plans.specs.Parts.{aimed}
use Rattle.cpc_native_plans.proofs.Laying.{lays_by, lays_after, lays_through}
use Rattle.cpc_native_plans.proofs.Doing.{wrote, assigns_parts}
use Rattle.cpc_native_plans.proofs.Planning.{assigned_stands}
use Rattle.cpc_native_plans.proofs.plan.assigns.Goals as goal

pub returns-in_err-spot-clause-value : goal.returns-in_err-spot-clause-value
returns-in_err-spot-clause-value c = λ names told ht hr.
    let k = context_of names c.args.around.now in
    let x = expr_of names c.args.target.now in
    let v = M.right_side c.args.op x (expr_of names c.args.right.now) in
    let r = c.from_residual-in_err-spot.result in
    let w = value_of names c.in_ok-given.given in
    lays_by names k r (E.value k v >>= (λ y. aimed k x y >>= wrote k)) (M.assigns k x v) (sym (assigns_parts k x v))
    (lays_after names k w (E.value k v) (λ y. aimed k x y >>= wrote k) r (c.in_ok-given.ensures.value names told ht hr)
    (lays_through names k r _ (aimed k x w) (wrote k) c.from_residual-in_err-spot.ensures.1 (c.in_err-spot.ensures.value names told ht)))

pub returns-clause-value : goal.returns-clause-value
returns-clause-value c = λ names told ht hr.
    let k = context_of names c.args.around.now in
    let x = expr_of names c.args.target.now in
    let v = M.right_side c.args.op x (expr_of names c.args.right.now) in (
      tt,
      assigned_stands k x v (value_of names c.in_ok-given.given) (spot_of c.in_ok-spot.spot, value_of names c.in_ok-spot.written) (c.in_ok-given.ensures.value names told ht hr)
          (c.in_ok-spot.ensures.value names told ht),
    )
