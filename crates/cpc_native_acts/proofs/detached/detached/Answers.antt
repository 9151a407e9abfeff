use Rattle.std.proofs.Common.{◌≡◌, List, ◌++◌, length, take, drop, Result, Ok, sym, ap, subst, ◌∙◌, arith}
use Rattle.std.proofs.Math.Seq.{take-append_seam}
use Rattle.std.specs.Result.{result_map_both}
use Rattle.cpc_base.specs.declared.stop.Stop.{Stop}
use Rattle.cpc_num.specs.declared.kinds.Fault.{Fault}
use Rattle.cpc_tree.specs.Erase.{exprs_of}
use Rattle.cpc_tree.specs.Primitives as P
use Rattle.cpc_store.specs.Store.{Value}
use Rattle.cpc_store.specs.declared.values.Value as V
use Rattle.cpc_meaning.specs.Answer.{Answer, ◌>>=◌}
use Rattle.cpc_meaning.specs.Eval as E
use Rattle.cpc_meaning.specs.Requests as R
use Rattle.cpc_eval.specs.Around.{context_of}
use Rattle.cpc_eval_values.specs.Meets.{Meets}
use Rattle.cpc_eval_values.specs.Shown.{values_of}
use Rattle.cpc_eval_values.proofs.Meeting.{meets_then}
use Rattle.cpc_native_plans.specs.Stops.{MeetsOr, seen_as}
use Rattle.cpc_native_plans.proofs.Stopping.{or_stopped}
use Rattle.cpc_native_acts.proofs.detached.detached.Goals as goal

pub returns-clause-value : goal.returns-clause-value
returns-clause-value c = λ names told n.
    let k = context_of names c.args.around.now in
    let f : List Value → Answer (List Value) = λ vs. R.all_taken (R.takes k.program P.RtDetach vs) vs in
    let vs = values_of names c.in_ok-row.row.items in
    let ws = values_of names c.take_detached.new.values in
    let Q : Result (Unit {0}) (Stop Fault) → Type 0 = λ r. MeetsOr (seen_as (λ _. ws) r) (f vs) in
    let T : List V.Value → Type 0 = λ row. Meets (result_map_both (λ _. ws) (λ fault. fault) c.take_detached.result) (f (values_of names row)) in
    let taken : MeetsOr (seen_as (λ _. ws) c.stopped.result) (f vs) = or_stopped (λ _. ws) c.take_detached.result c.stopped.result (f vs) c.stopped.ensures (subst T c.deref_mut.ensures.value (c.take_detached.ensures.value names told.apart)) in
    let whole : Meets (Ok ws) (E.values k (exprs_of names c.args.arguments.now) >>= f) =
    meets_then vs (E.values k (exprs_of names c.args.arguments.now)) f (Ok ws) (c.in_ok-row.ensures.value names told n) (subst Q c.in_ok-stopped.was taken) in
    let new = c.take_detached.new.values in
    let long : c.in_ok-row.row.len ≡ length new = omega (arith, c.take_detached.auto.values, c.deref_mut.ensures.len) in
    let back : take c.in_ok-row.row.len (new ++ drop (length new) c.in_ok-row.row.items) ≡ new = ap (λ n. take n (new ++ drop (length new) c.in_ok-row.row.items)) long ∙ take-append_seam new (drop (length new) c.in_ok-row.row.items) in
    let B : List V.Value → Type 0 = λ row. Meets (Ok (values_of names row)) (E.values k (exprs_of names c.args.arguments.now) >>= f) in
    subst B (sym back) whole
