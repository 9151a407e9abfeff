use Rattle.std.proofs.Common.{sym, subst}
use Rattle.cpc_meaning.specs.Act as M
use Rattle.cpc_eval_values.specs.Shown.{value_of}
use Rattle.cpc_eval.specs.Spots.{spot_of}
use Rattle.cpc_native_plans.specs.Stops.{IsGiven}
use Rattle.cpc_native_plans.specs.Plans.{planned}
use Rattle.cpc_native_plans.specs.declared.plan.Plan.{Plan}
use Rattle.cpc_native_changes.proofs.Looking.{goes_given}
use Rattle.cpc_native_changes.proofs.looked.is_done.Goals as goal

pub returns-in-Writes : goal.returns-in-Writes
returns-in-Writes c = λ names k store.
    let P : Plan → Type 0 = λ plan. IsGiven c.is_written.result (planned names k plan) in
    subst P (sym c.in-Writes.is) (goes_given c.is_written.result (M.write k (spot_of c.in-Writes.spot) (value_of names _)) (c.is_written.ensures names k _ store))
