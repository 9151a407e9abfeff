-- What is known of each state of the lifted run of an accepted program, as statements: what its values are, what its frames keep, which
-- threads wait and which are to begin.
use Rattle.std.specs.Prelude.{◌≡◌, ℕ, true, false, List, [], ◌∷◌, length, slice_get, Some}
use Rattle.std.specs.List.{All}
use Rattle.cpc_base.specs.Bytes.{Text}
use Rattle.cpc_store.specs.declared.values.Scalar.{Scalar}
use Rattle.cpc_store.specs.Store.{Value, Unset, suits}
use Rattle.cpc_tree.specs.Registers.{variables, is_register}
use Rattle.cpc_tree.specs.Syntax.{Ty, Variable, Function, Program}
use Rattle.cpc_tree.specs.Typing.{is_scalar, item_named, function_named, parameter_types}
use Rattle.cpc_meaning.specs.Eval.{Slot, Register, Boxed}
use Rattle.cpc_meaning.specs.History.{History}
use Rattle.cpc_meaning.specs.Layout.{scalar_of}
use Rattle.cpc_meaning.specs.Machine.{State}
use Rattle.cpc_meaning.specs.Plain.{Frame, Stack}
use Rattle.cpc_meaning.specs.Section.{Job}
use Rattle.cpc_meaning.specs.Threads.{Thread, Pending, Suspended}
use Rattle.cpc_forms.specs.Split.{Position}
use Rattle.cpc_convert_common.specs.Marks.{has_marks}
use Rattle.cpc_convert_routines.specs.ClosureLaws.{lifting}
use Rattle.cpc_convert_image_laws.specs.Held.{IsHeld, IsHeldSlot, IsHeldStore}
use Rattle.cpc_convert_image_laws.specs.InPlace.{is_cps}
use Rattle.cpc_convert_image_laws.specs.Native.{IsHeldIf}
use Rattle.cpc_check_laws.specs.Kept.Codes.{IsNative}
use Rattle.cpc_check_laws.specs.Kept.Fits.{types_of, Fits, FitAll, FitSlots, IsInt}
use Rattle.cpc_check_laws.specs.Kept.Kept.{KeptAgenda}
use Rattle.cpc_check_laws.specs.Kept.Layers.{AllCps, IsLayered, IsLayeredThread}
use Rattle.cpc_lifted_laws.specs.Accepted.Accepted.{OfAccepted}
use Rattle.cpc_lifted_laws.specs.Accepted.Lifted.{kept_of, lifted_after}

-- a name that means in the event program what it means in the program: it is not marked, and no cps function's
pub record Stays (p : Program) (x : Text) : Type 0 where
  pub unmarked : has_marks x ≡ false
  pub not_cps : is_cps (item_named 0 p x) ≡ false

-- it holds of the names of native and detached functions, which are the codes that values may be
abbrev pub HoldsOfNatives : Program → (Text → Type 0) → Type 0
HoldsOfNatives p C = (x : Text) → IsNative (item_named 0 p x) → C x

abbrev pub AcceptedCodesStay : Type 0
AcceptedCodesStay = OfAccepted (λ p. HoldsOfNatives p (Stays p))

-- a variable in its slot: a register holds a value that fits its type and the one cell of it, or it is a box
pub data KeptSlot (C : Text → Type 0) (f : Function) (k : ℕ) (x : Variable) : Slot → Type 0 where
  IsRegister : (v : Value) (wanted : Scalar) → is_register f k x ≡ true → scalar_of x.type ≡ Some wanted → Fits x.type v → suits wanted v ≡ true → IsHeld C v → KeptSlot C f k x (Register v)
  IsBox : (n : ℕ) → is_register f k x ≡ false → KeptSlot C f k x (Boxed n)

-- a frame that runs: its function is there, and code may stand where it does; each variable that it keeps is in its slot, and the slots of the
-- others are unset registers; no value leads into a frame, and codes are known; a value that arrives is such a value too
pub record FineFrame (p : Program) (C : Text → Type 0) (frame : Frame Position) : Type 0 where
  pub function : Function
  pub named : function_named p frame.function ≡ Some function
  pub there : (lifting p).there frame.function frame.point ≡ true
  pub number : length frame.slots ≡ length (variables function)
  pub kept : (k : ℕ) (x : Variable) → slice_get (variables function) k ≡ Some x → kept_of p frame.function frame.point k ≡ true → (slot : Slot) × (slice_get frame.slots k ≡ Some slot) × KeptSlot C function k x slot
  pub cleared : (k : ℕ) (slot : Slot) → slice_get frame.slots k ≡ Some slot → kept_of p frame.function frame.point k ≡ false → slot ≡ Register Unset
  pub fits : FitSlots (types_of function) frame.slots
  pub held : All (IsHeldSlot C) frame.slots

-- the running stack: each frame is fine, native frames stand above cps ones, and the value that arrives is held
pub record FineStack (p : Program) (C : Text → Type 0) (k : Stack Position) : Type 0 where
  pub frames : All (FineFrame p C) k.frames
  pub layered : IsLayered p k.frames
  pub arriving : IsHeldIf C k.arriving

-- these types are scalar
abbrev pub AreScalar : List Ty → Type 0
AreScalar [] = Unit {0}
AreScalar (t ∷ ts) = (is_scalar t ≡ true) × AreScalar ts

-- a call that is to begin has an argument for each parameter, which fits its type, and these are scalar
abbrev pub BeginsWell : {P : Type 0} → Program → Thread P → Type 0
BeginsWell p (Pending f vs) = (g : Function) → function_named p f ≡ Some g → FitAll (parameter_types g) vs × AreScalar (parameter_types g)
BeginsWell p (Suspended k) = Unit {0}

-- a thread: the arguments of a call that is to begin fit its parameters and are held, and the call is of `main` or of a cps function; a stack
-- that waits has frames of cps functions alone
abbrev pub FineThread : Program → (Text → Type 0) → Thread Position → Type 0
FineThread p C (Pending f vs) = BeginsWell {P = Position} p (Pending f vs) × All (IsHeld C) vs × IsLayeredThread {P = Position} p (Pending f vs)
FineThread p C (Suspended k) = AllCps p k.frames

-- a section that is out holds such values
pub record FineJob (C : Text → Type 0) (j : Job) : Type 0 where
  pub arguments : All (IsHeld C) j.arguments
  pub cells : All (IsHeld C) j.cells
  pub pointer : IsHeld C j.pointer

-- a state
pub record FineState (p : Program) (C : Text → Type 0) (s : State Position (Thread Position)) : Type 0 where
  pub no_frames : s.store.frames ≡ []
  pub store : IsHeldStore C s.store
  pub running : (k : Stack Position) → s.running ≡ Some k → FineStack p C k
  pub agenda : KeptAgenda (FineThread p C) IsInt s.agenda
  pub jobs : All (FineJob C) s.jobs

-- so it is after any number of steps, where the codes are names that stay
abbrev pub AcceptedIsFine : Type 0
AcceptedIsFine = OfAccepted (λ p. (h : History) (n : ℕ) → FineState p (Stays p) (lifted_after p h n))
