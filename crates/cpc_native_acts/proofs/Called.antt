-- A function is entered, and memory is wanted, where a call stands alone.
use Rattle.std.proofs.Common.{◌≡◌, true, false, Result, Ok, Err, sym, ◌∙◌}
use Rattle.std.specs.Prelude.{IfOk}
use Rattle.std.specs.Result.{IsErrAnd}
use Rattle.std.proofs.lemmas.Result.{err_from_is_err_and}
use Rattle.cpc_base.specs.declared.stop.Stop.{Stop}
use Rattle.cpc_base.specs.declared.stop.Stop.TheVariants.{Memory, Fault as Faulted}
use Rattle.cpc_num.specs.declared.kinds.Fault.{Fault}
use Rattle.cpc_native_acts.specs.Acts.{called, enters_act}
use Rattle.cpc_native_acts.specs.Deeds.{enters_deed, takes_call}
use Rattle.cpc_native_plans.specs.Stops.{wants_memory}
use Rattle.cpc_native_acts.specs.declared.act.Act.{Act}
use Rattle.cpc_native_acts.specs.declared.deeds.Deed.{Deed}

-- a stop of the plan
pub called_through : (x : Result Act (Stop Fault)) (s : Stop Fault) (P : Type 0) → IsErrAnd x (λ e. e ≡ s) → (takes_call (Err s) ≡ true → P) → called x ≡ true → P
called_through x s P i h = let p = err_from_is_err_and x i in rw (p.1, p.2) (go s h)
  where
    go : (s : Stop Fault) → (takes_call (Err s) ≡ true → P) → called (Err s) ≡ true → P
    go Memory h e = h e
    go (Faulted fault) h e = absurd cc

-- what was done by a plan
pub called_done : (r : Result Act (Stop Fault)) (d : Deed) (P : Type 0) → wants_memory r ≡ false → IfOk r (λ act. enters_act act ≡ enters_deed d) → (takes_call (Ok d) ≡ true → P) → called r ≡ true → P
called_done (Ok act) d P m k h e = h (sym k ∙ e)
called_done (Err Memory) d P m k h e = absurd cc
called_done (Err (Faulted fault)) d P m k h e = absurd cc
