-- What holds of a machine between its steps, and what a step changes.
use Rattle.std.specs.Prelude.{◌≡◌, true, List, [], ◌∷◌, ◌++◌, None}
use Rattle.std.specs.List.{All}
use Rattle.cpc_tree.specs.Erase.{Names}
use Rattle.cpc_store.specs.Seen.{seen, IsLawful}
use Rattle.cpc_eval_index.specs.declared.index.Index.{Index}
use Rattle.cpc_native_builtins.specs.Served.{IsServedCall}
use Rattle.cpc_eval_values.specs.Shown.{store_of}
use Rattle.cpc_native_frames.specs.declared.frame.Frame.{Frame}
use Rattle.cpc_native_frames.specs.Back.{IsAsBefore}
use Rattle.cpc_native_frames.specs.Frames.{IsWellFrame}
use Rattle.cpc_native_acts.specs.Acts.{IsLawfulIf, is_call_stood}
use Rattle.cpc_native_acts.specs.Stood.{stood_of}
use Rattle.cpc_native_acts.specs.Taken.{IsCalledWith}
use Rattle.cpc_native_acts.specs.declared.act.Act.{Act}
use Rattle.cpc_native_acts.specs.declared.act.Act.TheVariants as A
use Rattle.cpc_native.specs.declared.machine.Machine.{Machine}
use Rattle.cpc_native.specs.declared.machine.Stepped.{Stepped}
use Rattle.cpc_native.specs.declared.machine.Stepped.TheVariants as S
use Rattle.cpc_native.specs.Stacks.{stack_of}

abbrev pub AreWell : Index → List Frame → Type 0
AreWell index frames = All (IsWellFrame index) frames

-- its frames are calls of functions of the program, and what arrives is lawful
pub record IsWell (m : Machine) : Type 0 where
  pub calls : AreWell m.index m.calls.frames.items
  pub arriving : IsLawfulIf m.arriving

-- another state of the same machine whose store alone may differ
pub record IsSameBut (old new : Machine) : Type 0 where
  pub index : new.index ≡ old.index
  pub texts : new.texts ≡ old.texts
  pub calls : new.calls.frames.items ≡ old.calls.frames.items
  pub arriving : new.arriving ≡ old.arriving

-- the frame was put back upon the others, and nothing else changed
pub record IsBack (top : Frame) (old new : Machine) : Type 0 where
  pub calls : new.calls.frames.items ≡ old.calls.frames.items ++ top ∷ []
  pub store : new.store ≡ old.store
  pub arriving : new.arriving ≡ old.arriving

-- the frame was put back upon the others, and what arrives is as it was
pub record StandsAgain (top : Frame) (old new : Machine) : Type 0 where
  pub calls : new.calls.frames.items ≡ old.calls.frames.items ++ top ∷ []
  pub arriving : new.arriving ≡ old.arriving

-- the calls below the innermost one stand as they were, and so does what arrives
pub record StandsBelow (old new : Machine) : Type 0 where
  pub below : List Frame
  pub top : Frame
  pub upon : List Frame
  pub was : old.calls.frames.items ≡ below ++ top ∷ []
  pub calls : new.calls.frames.items ≡ below ++ upon
  pub arriving : new.arriving ≡ old.arriving

-- the calls are as they were, and so is what arrives
pub record SameCalls (old new : Machine) : Type 0 where
  pub calls : new.calls.frames.items ≡ old.calls.frames.items
  pub arriving : new.arriving ≡ old.arriving

-- the store is as it was, but for the numbers of blocks that were made and freed since
abbrev pub IsStoreAsBefore : (old new : Machine) → Type 0
IsStoreAsBefore old new = (names : Names) → IsAsBefore (store_of names old.store) (store_of names new.store)

-- where the innermost call is, a call stands whose arguments are to be evaluated
abbrev pub StandsAtCall : Machine → Type 0
StandsAtCall m = (names : Names) (below : List Frame) (top : Frame) → m.calls.frames.items ≡ below ++ top ∷ [] → is_call_stood (stood_of names top) ≡ true

-- nothing runs
pub record IsIdle (m : Machine) : Type 0 where
  pub calls : m.calls.frames.items ≡ []
  pub arriving : m.arriving ≡ None

-- after a request and a fault
abbrev pub BackAfter : Stepped → Frame → (old new : Machine) → Type 0
BackAfter (S.Asked r) frame old new = IsBack frame old new
BackAfter (S.Faulted fault x) frame old new = IsBack frame old new
BackAfter _ frame old new = Unit {0}

-- the function that a request or a fault tells is that of the frame
abbrev pub TellsFunction : Stepped → Frame → Type 0
TellsFunction (S.Asked r) frame = r.function ≡ frame.function.now.word.name
TellsFunction (S.Faulted fault x) frame = x ≡ frame.function.now.word.name
TellsFunction _ frame = Unit {0}

-- another state of the same machine in which nothing changed
pub record IsSame (old new : Machine) : Type 0 where
  pub stack : (names : Names) → stack_of names new ≡ stack_of names old
  pub store : new.store ≡ old.store

-- a request and a fault change nothing
abbrev pub Unchanged : Stepped → (old new : Machine) → Type 0
Unchanged (S.Asked r) old new = IsSame old new
Unchanged (S.Faulted fault x) old new = IsSame old new
Unchanged _ old new = Unit {0}

-- what is asked for is what the loop answers
abbrev pub AsksServed : Stepped → Type 0
AsksServed (S.Asked r) = IsServedCall r.call
AsksServed _ = Unit {0}

-- its arguments are what it takes
abbrev pub AsksTaken : Stepped → Type 0
AsksTaken (S.Asked r) = IsCalledWith r.call r.args.items
AsksTaken _ = Unit {0}

-- code goes on, or its outermost call was left
abbrev pub IsOver : Stepped → Type 0
IsOver S.Went = Unit {0}
IsOver (S.Returned v) = Unit {0}
IsOver _ = ⊥

-- an act that does not ask comes to no request
abbrev pub AskedBy : Act → Stepped → Type 0
AskedBy (A.Asks b vs) stepped = Unit {0}
AskedBy act stepped = IsOver stepped

-- nothing runs once the outermost call was left
abbrev pub EndsEmpty : Stepped → Machine → Type 0
EndsEmpty (S.Returned v) new = new.calls.frames.items ≡ []
EndsEmpty _ new = Unit {0}

-- its values are lawful
abbrev pub IsLawfulStep : Stepped → Type 0
IsLawfulStep (S.Returned v) = IsLawful (seen v)
IsLawfulStep (S.Asked r) = All (λ v. IsLawful (seen v)) r.args.items
IsLawfulStep _ = Unit {0}
