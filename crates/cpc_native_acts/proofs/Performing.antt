-- What is done meets what a deed does.
use Rattle.std.proofs.Common.{◌≡◌, Bool, true, List, Option, Ok, Err, refl}
use Rattle.cpc_base.specs.declared.stop.Stop.{Stop}
use Rattle.cpc_base.specs.declared.names.Name.{Name}
use Rattle.cpc_num.specs.declared.kinds.Fault.{Fault}
use Rattle.cpc_tree.specs.Erase.{Names}
use Rattle.cpc_tree.specs.Syntax.{Function}
use Rattle.cpc_store.specs.Store as S
use Rattle.cpc_store.specs.Store.{Value, StoreOf}
use Rattle.cpc_meaning.specs.Answer.{Answer, Gives, ◌>>=◌, needed}
use Rattle.cpc_meaning.specs.Eval as E
use Rattle.cpc_meaning.specs.Act as M
use Rattle.cpc_meaning.specs.Slots.{free_slots}
use Rattle.cpc_eval_values.specs.Meets.{Meets}
use Rattle.cpc_eval_values.specs.Shown.{store_of}
use Rattle.cpc_eval_values.proofs.Meeting.{meets_then}
use Rattle.cpc_eval.specs.declared.around.Slot.{Slot}
use Rattle.cpc_native_frames.specs.Made.{slots_of}
use Rattle.cpc_native_acts.specs.declared.act.Act.{Act}
use Rattle.cpc_native_acts.specs.declared.act.Act.TheVariants as A
use Rattle.cpc_native_acts.specs.Acts.{Keeps}
use Rattle.cpc_native_plans.specs.Stops.{MeetsOr}
use Rattle.cpc_native_plans.specs.Parts.{goes_on}
use Rattle.cpc_native_plans.proofs.Stopping.{or_fault}

module _ (names : Names) (c : E.Context) (slots : List Slot) (s : StoreOf Name) (slots_are : c.slots ≡ slots_of names slots) (store_is : c.store ≡ store_of names s) where
  pub passes_done : (h : Bool) → Meets (Ok (M.GoesOn h (store_of names s) (slots_of names slots))) (M.passes c h)
  passes_done h = rw (slots_are, store_is) refl

  pub leaves_done : (v : Value) (t : S.Store) → Meets (Ok t) (free_slots (slots_of names slots) (store_of names s)) → Meets (Ok (M.Leaves v t)) (M.leaves c v)
  leaves_done v t h = rw (slots_are, store_is) (meets_then t (free_slots (slots_of names slots) (store_of names s)) (λ u. Gives (M.Leaves v u)) (Ok (M.Leaves v t)) h refl)

  pub leaves_not : (v : Value) (st : Stop Fault) → MeetsOr {A = S.Store} (Err st) (free_slots (slots_of names slots) (store_of names s)) → MeetsOr {A = M.Act} (Err st) (M.leaves c v)
  leaves_not v st h = rw (slots_are, store_is) (or_fault st (free_slots (slots_of names slots) (store_of names s)) (λ u. Gives (M.Leaves v u)) h)

pub writes_done : (a : Answer (List E.Slot × S.Store)) (new : List E.Slot) (t : S.Store) → Meets (Ok (new, t)) a → Meets (Ok (M.GoesOn true t new)) (goes_on a)
writes_done a new t h = meets_then (new, t) a (λ p. Gives (M.GoesOn true p.1 p.0)) (Ok (M.GoesOn true t new)) h refl

pub enters_done : (o : Option Function) (f : Function) (vs : List Value) → Meets (Ok f) (needed o) → Meets (Ok (M.Enters f vs)) (needed o >>= (λ g. Gives (M.Enters g vs)))
enters_done o f vs h = meets_then f (needed o) (λ g. Gives (M.Enters g vs)) (Ok (M.Enters f vs)) h refl

pub keeps_same : {X : Type 0} (act : Act) (x : X) → Keeps act x x
keeps_same (A.GoesOn h) x = tt
keeps_same (A.Enters f vs) x = refl
keeps_same (A.Leaves v) x = tt
keeps_same (A.Asks b vs) x = refl
