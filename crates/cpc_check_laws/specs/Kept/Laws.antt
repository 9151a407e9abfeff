-- Laws of the states of threaded runs, as statements.
use Rattle.std.specs.Prelude.{◌≡◌, ◌⊎◌, ℕ, true, false, List, [], ◌∷◌, slice_get, Some, Ok, ◌<◌}
use Rattle.std.specs.List.{All}
use Rattle.cpc_base.specs.Bytes.{Text}
use Rattle.cpc_base.specs.declared.stop.Dialect.TheVariants as D
use Rattle.cpc_base.specs.declared.stop.Place.{Place}
use Rattle.cpc_tree.specs.Syntax.{Ty, Variable, Function, Program}
use Rattle.cpc_tree.specs.declared.program.Mode.TheVariants.{Native, Detached}
use Rattle.cpc_tree.specs.Typing.{function_named}
use Rattle.cpc_tree.specs.Tokens.{Placed}
use Rattle.cpc_tree.specs.Located.{LProgram, bare}
use Rattle.cpc_tree.specs.Grammar.{IsProgram}
use Rattle.cpc_tree.specs.Registers.{variables, is_register}
use Rattle.cpc_store.specs.declared.values.Class.{Class}
use Rattle.cpc_store.specs.declared.values.Scalar.{Scalar}
use Rattle.cpc_store.specs.declared.values.Class.TheVariants.{Auto, Frame as FrameClass}
use Rattle.cpc_store.specs.Store.{Value, Unset, At, Code, Store, suits, load, save, next_block}
use Rattle.cpc_meaning_matching.specs.Systems.{run}
use Rattle.cpc_meaning.specs.Answer.{Gives}
use Rattle.cpc_meaning.specs.Layout.{scalar_of}
use Rattle.cpc_meaning.specs.Eval.{Slot, Register, assigned, Boxed}
use Rattle.cpc_meaning.specs.Plain.{Form}
use Rattle.cpc_meaning.specs.Trees.{trees}
use Rattle.cpc_meaning.specs.Ways.{ways}
use Rattle.cpc_meaning.specs.History.{History}
use Rattle.cpc_meaning.specs.Machine.{State}
use Rattle.cpc_meaning.specs.Threads.{Thread}
use Rattle.cpc_meaning.specs.Matching.{thread_system}
use Rattle.cpc_meaning_laws.specs.Pointer.Made.{IsMade, IsMadeSlot}
use Rattle.cpc_check_rules.specs.Rules.{breaks}
use Rattle.cpc_check_laws.specs.Sound.Typed.{TypedProgram}
use Rattle.cpc_check_laws.specs.Kept.Codes.{IsCode, IsCodeSlot}
use Rattle.cpc_check_laws.specs.Kept.Fits.{Fits, FitSlots, FitsCall}
use Rattle.cpc_check_laws.specs.Kept.Layers.{KeepsModes, Layered, Holds}
use Rattle.cpc_check_laws.specs.Kept.Kept.{IsSteady, SectionsGive, NoFrames, Kept}

-- ---- runs

-- it holds where the threads of steady code begin, and each step keeps it
pub record StepsKeep {P : Type 0} (p : Form P) (h : History) : Type 0 where
  pub opens : Kept p.program (thread_system p h).opening
  pub goes : (s t : State P (Thread P)) → Kept p.program s → (thread_system p h).next s ≡ Some t → Kept p.program t

-- for every history
abbrev pub ThreadsKeep : (P : Type 0) → Type 0
ThreadsKeep P = (p : Form P) → IsSteady p → (h : History) → StepsKeep p h

-- so it holds of each state of their runs
abbrev pub RunsKeep : (P : Type 0) → Type 0
RunsKeep P = (p : Form P) → IsSteady p → (h : History) (n : ℕ) → Kept p.program (run (thread_system p h) n)

-- over code that keeps modes, stacks are layered where threads begin, and each step of a state of which the rest holds keeps it
pub record StepsLayer {P : Type 0} (p : Form P) (h : History) : Type 0 where
  pub opens : Layered p.program (thread_system p h).opening
  pub goes : (s t : State P (Thread P)) → Kept p.program s → Layered p.program s → (thread_system p h).next s ≡ Some t → Layered p.program t

abbrev pub LayersStay : (P : Type 0) → Type 0
LayersStay P = (p : Form P) → KeepsModes p → (h : History) → StepsLayer p h

-- the code of an accepted program keeps modes
abbrev pub AcceptedKeepsModes : Type 0
AcceptedKeepsModes = (list : List Placed) (end : Place) (p : LProgram) → IsProgram D.Cpc list end p → breaks D.Cpc p ≡ [] → KeepsModes (trees (bare p)) × KeepsModes (ways (bare p))

-- the code of a program whose sections give ints is steady, as it is written and with the ways that are taken: nothing more is asked of it
abbrev pub TreesAreSteady : Type 0
TreesAreSteady = (p : Program) → SectionsGive p → IsSteady (trees p) × IsSteady (ways p)

-- a typed program is one of these
abbrev pub TypedSectionsGive : Type 0
TypedSectionsGive = (p : Program) → TypedProgram D.Cpc p → SectionsGive p

-- so is the code of a program that is read from tokens and breaks no rule of the dialect Cpc
abbrev pub AcceptedIsSteady : Type 0
AcceptedIsSteady = (list : List Placed) (end : Place) (p : LProgram) → IsProgram D.Cpc list end p → breaks D.Cpc p ≡ [] → IsSteady (trees (bare p)) × IsSteady (ways (bare p))

-- ---- all of it

-- all of it holds where the threads begin, and each step keeps it
pub record StepsHold {P : Type 0} (p : Form P) (h : History) : Type 0 where
  pub opens : Holds p.program (thread_system p h).opening
  pub goes : (s t : State P (Thread P)) → Holds p.program s → (thread_system p h).next s ≡ Some t → Holds p.program t

-- over steady code that keeps modes
abbrev pub ThreadsHold : (P : Type 0) → Type 0
ThreadsHold P = (p : Form P) → IsSteady p → KeepsModes p → (h : History) → StepsHold p h

-- so over that of an accepted program
abbrev pub AcceptedHold : Type 0
AcceptedHold =
    (list : List Placed) (end : Place) (p : LProgram) → IsProgram D.Cpc list end p → breaks D.Cpc p ≡ []
    → (h : History) → StepsHold (trees (bare p)) h × StepsHold (ways (bare p)) h

-- it passes from code to code that meets it, of which nothing else is known: so from all ways to those that are taken
abbrev pub WaysHold : Type 0
WaysHold = (p : Program) → IsSteady (trees p) → KeepsModes (trees p) → (h : History) (n : ℕ) → Holds p (run (thread_system (ways p) h) n)

-- ---- what it says

-- no value points to a heap frame
abbrev pub NothingPointsToFrames : Type 0
NothingPointsToFrames = (s : Store) (n k : ℕ) → NoFrames s → ¬ IsMade s (At FrameClass n k)

-- a code that such a value may be calls a native or detached function, where the program is accepted
abbrev pub CodesAreNative : Type 0
CodesAreNative =
    (list : List Placed) (end : Place) (p : LProgram) → IsProgram D.Cpc list end p → breaks D.Cpc p ≡ [] → (x : Text) → IsCode (bare p) (Code x)
    → (g : Function) × (function_named (bare p) x ≡ Some g) × ((g.mode ≡ Native) ⊎ (g.mode ≡ Detached))

-- a register of a call holds a value that fits its variable's type, and a variable has a slot that is a register where the variable is one
pub record CallFits (f : Function) (slots : List Slot) : Type 0 where
  pub there : (k : ℕ) (x : Variable) → slice_get (variables f) k ≡ Some x → (slot : Slot) × (slice_get slots k ≡ Some slot)
  pub no_more : (k : ℕ) (slot : Slot) → slice_get slots k ≡ Some slot → (x : Variable) × (slice_get (variables f) k ≡ Some x)
  pub fits : (k : ℕ) (x : Variable) (v : Value) → slice_get (variables f) k ≡ Some x → slice_get slots k ≡ Some (Register v) → Fits x.type v
  pub register : (k : ℕ) (x : Variable) → slice_get (variables f) k ≡ Some x → is_register f k x ≡ true → (v : Value) × (slice_get slots k ≡ Some (Register v))
  pub box : (k : ℕ) (x : Variable) (v : Value) → slice_get (variables f) k ≡ Some x → is_register f k x ≡ false → ¬ (slice_get slots k ≡ Some (Register v))

-- what the slots of a call are, by number
abbrev pub CallsFit : Type 0
CallsFit = (f : Function) (slots : List Slot) → FitsCall f slots → CallFits f slots

-- a value that fits a scalar type can be copied to a cell and back: it is assigned as it is, and loaded as it was saved
pub record ComesBack (t : Ty) (v : Value) (wanted : Scalar) : Type 0 where
  pub assigned : assigned t v ≡ Gives v
  pub suits : suits wanted v ≡ true
  pub loaded : (c : Class) (n k : ℕ) (s u : Store) → save c n k v s ≡ Ok u → load wanted c n k u ≡ Ok v

abbrev pub CopiesComeBack : Type 0
CopiesComeBack = (t : Ty) (v : Value) (wanted : Scalar) → Fits t v → scalar_of t ≡ Some wanted → ComesBack t v wanted

-- slots of which some were cleared
abbrev pub Cleared : List Slot → List Slot → Type 0
Cleared [] [] = Unit {0}
Cleared (x ∷ xs) (y ∷ ys) = ((y ≡ x) ⊎ (y ≡ Register Unset)) × Cleared xs ys
Cleared _ _ = ⊥

-- they fit their types as before, lead into blocks that were made, and are codes of native functions; what is no register may have become one
pub record StillFit (ts : List Ty) (s : Store) (slots new : List Slot) : Type 0 where
  pub fits : FitSlots ts slots → FitSlots ts new
  pub made : All (IsMadeSlot s) slots → All (IsMadeSlot s) new
  pub codes : (p : Program) → All (IsCodeSlot p) slots → All (IsCodeSlot p) new

abbrev pub ClearedFit : Type 0
ClearedFit = (ts : List Ty) (s : Store) (slots new : List Slot) → Cleared slots new → StillFit ts s slots new

-- what is known of the slot of the variable of this number: a register holds a value that suits the one cell of its scalar type, and a box has a block that was made
pub data Slotted (s : Store) (f : Function) (k : ℕ) (x : Variable) : Slot → Type 0 where
  IsRegister : (v : Value) (wanted : Scalar) → is_register f k x ≡ true → scalar_of x.type ≡ Some wanted → Fits x.type v → suits wanted v ≡ true → IsMade s v → Slotted s f k x (Register v)
  IsBox : (n : ℕ) → is_register f k x ≡ false → n < next_block Auto s → Slotted s f k x (Boxed n)

abbrev pub SlotsAreKnown : Type 0
SlotsAreKnown =
    (s : Store) (f : Function) (slots : List Slot) → FitsCall f slots → All (IsMadeSlot s) slots → (k : ℕ) (x : Variable) → slice_get (variables f) k ≡ Some x
    → (slot : Slot) × (slice_get slots k ≡ Some slot) × Slotted s f k x slot
