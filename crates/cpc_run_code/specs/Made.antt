-- States of the event machine whose pointers lead into blocks that were made. Of results that are due nothing is said: what takes one takes an int.
use Rattle.std.specs.Prelude.{◌≡◌, Some}
use Rattle.cpc_store.specs.Store.{Value}
use Rattle.cpc_meaning.specs.Events.{Callback}
use Rattle.cpc_meaning.specs.Machine.{State}
use Rattle.cpc_meaning.specs.Plain.{Stack}
use Rattle.cpc_meaning_laws.specs.Pointer.Made.{IsMadeCallback, IsMadeStore, IsMadeCode}
use Rattle.cpc_check_laws.specs.Kept.Kept.{KeptAgenda}

-- any value
abbrev pub IsValue : Value → Type 0
IsValue v = Unit {0}

-- the pointers of the store, of the code that runs and of callbacks
pub record IsMadeRun {P : Type 0} (s : State P Callback) : Type 0 where
  pub store : IsMadeStore s.store
  pub running : (k : Stack P) → s.running ≡ Some k → IsMadeCode s.store k
  pub agenda : KeptAgenda (IsMadeCallback s.store) IsValue s.agenda
