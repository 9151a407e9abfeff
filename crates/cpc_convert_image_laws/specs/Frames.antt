-- The frame of a source and the frame of a target in which its images are evaluated, with all that is known of them.
use Rattle.std.specs.Prelude.{◌≡◌, ℕ, Bool, true, List}
use Rattle.std.specs.List.{All}
use Rattle.cpc_base.specs.Bytes.{Text}
use Rattle.cpc_tree.specs.Syntax.{Ty, Function, Program}
use Rattle.cpc_tree.specs.Typing.{Scope, named}
use Rattle.cpc_store.specs.Store.{Value, Store, Blocks}
use Rattle.cpc_meaning.specs.Eval.{Slot, Context}
use Rattle.cpc_meaning.specs.Act.{Act}
use Rattle.cpc_convert_image_laws.specs.Images.{Readings}
use Rattle.cpc_convert_image_laws.specs.Held.{IsHeld, IsHeldSlot, IsHeldStore, BoxesLive, beside}
use Rattle.cpc_convert_image_laws.specs.Relations.{Common, Means, SameAct}
use Rattle.cpc_convert_image_laws.specs.Native.{KeptName}

-- what a test holds of
abbrev pub IsIn : {A : Type 0} → (A → Bool) → A → Type 0
IsIn test x = test x ≡ true

-- the same of two things
abbrev pub AreIn : {A B : Type 0} → (A → B → Bool) → A → B → Type 0
AreIn test x y = test x y ≡ true

-- the same of a variable, its type and a local
abbrev pub StandsIn : (ℕ → Ty → ℕ → Bool) → ℕ → Ty → ℕ → Type 0
StandsIn test k t k' = test k t k' ≡ true

-- a source and a target: the codes that may be values, and which function stands for which
pub record TwoPrograms : Type 0 where
  pub source : Program
  pub target : Program
  pub codes : Text → Bool
  pub pairs : Function → Function → Bool
  pub common : Common (IsIn codes) (AreIn pairs) source target

-- a frame of each: the names that are used and how they are read, and in which local each variable stands. The boxes of the frame are live
pub record TwoFrames : Type 0 where
  pub programs : TwoPrograms
  pub used : Text → Bool
  pub readings : Readings
  pub stands : ℕ → Ty → ℕ → Bool
  pub scope : Scope
  pub scope' : Scope
  pub slots : List Slot
  pub slots' : List Slot
  pub store : Store
  pub frames : Blocks
  pub is_source : IsHeldStore (IsIn programs.codes) store
  pub held : All (IsHeldSlot (IsIn programs.codes)) slots
  pub live : BoxesLive store slots
  pub names : (x : Text) → IsIn used x → Means (IsIn programs.codes) (StandsIn stands) programs.target scope' slots slots' x (readings x) (named programs.source scope x)

-- where an expression of the source is evaluated, and its image
abbrev pub here : TwoFrames → Context
here t = record { program = t.programs.source; scope = t.scope; slots = t.slots; store = t.store }

-- where its image is
abbrev pub there : TwoFrames → Context
there t = record { program = t.programs.target; scope = t.scope'; slots = t.slots'; store = beside t.frames t.store }

-- a value that is held in the source
abbrev pub Holds : TwoFrames → Value → Type 0
Holds t v = IsHeld (IsIn t.programs.codes) v

-- two acts that do the same
abbrev pub DoSame : TwoFrames → Act → Act → Type 0
DoSame t a b = SameAct (IsIn t.programs.codes) (AreIn t.programs.pairs) (StandsIn t.stands) t.frames t.slots t.slots' a b

-- a frame of native code, which is the same in both
pub record NativeFrame : Type 0 where
  pub programs : TwoPrograms
  pub used : Text → Bool
  pub scope : Scope
  pub slots : List Slot
  pub store : Store
  pub frames : Blocks
  pub is_source : IsHeldStore (IsIn programs.codes) store
  pub held : All (IsHeldSlot (IsIn programs.codes)) slots
  pub names : (x : Text) → IsIn used x → KeptName (IsIn programs.codes) x (named programs.source scope x) (named programs.target scope x)

-- where native code is evaluated in the source
abbrev pub native_here : NativeFrame → Context
native_here t = record { program = t.programs.source; scope = t.scope; slots = t.slots; store = t.store }

-- and in the target
abbrev pub native_there : NativeFrame → Context
native_there t = record { program = t.programs.target; scope = t.scope; slots = t.slots; store = beside t.frames t.store }
