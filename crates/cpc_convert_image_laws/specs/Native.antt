-- Native code, which stays: the same statements over the same variables.
use Rattle.std.specs.Prelude.{◌≡◌, ℕ, List, Option, Some, None}
use Rattle.cpc_base.specs.Bytes.{Text}
use Rattle.cpc_tree.specs.declared.program.Mode.{Mode}
use Rattle.cpc_tree.specs.declared.program.Mode.TheVariants.{Cps}
use Rattle.cpc_tree.specs.Syntax.{Ty, Stmt, Call, Detach, Return}
use Rattle.cpc_tree.specs.Points.{Found, Simple}
use Rattle.cpc_tree.specs.Typing.{Meant, ALocal, AGlobal, AFunction, NotMeant}
use Rattle.cpc_store.specs.Store.{Value}
use Rattle.cpc_meaning.specs.Eval.{Context}
use Rattle.cpc_meaning.specs.Act.{Stood, AtStatement, AtArrival, AtEnd}
use Rattle.cpc_convert_image_laws.specs.Images.{Readings}
use Rattle.cpc_convert_image_laws.specs.Held.{IsHeld}
use Rattle.cpc_convert_image_laws.specs.InPlace.{IsInPlace, IsWrittenIf}

-- no name is read otherwise
abbrev pub stays : Readings
stays x = None

-- each variable stands in the same slot
abbrev pub IsSelf : ℕ → Ty → ℕ → Type 0
IsSelf k t k' = k ≡ k'

-- an item means what it meant; a cps function may be left out
pub data KeptItem (C : Text → Type 0) (x : Text) : Meant → Meant → Type 0 where
  KeptGlobal : (n : ℕ) (t : Ty) → KeptItem C x (AGlobal n t) (AGlobal n t)
  KeptFunction : (mode : Mode) (r : Ty) (ps : List Ty) → C x → KeptItem C x (AFunction mode r ps) (AFunction mode r ps)
  LeftOut : (r : Ty) (ps : List Ty) (m : Meant) → KeptItem C x (AFunction Cps r ps) m
  KeptNothing : KeptItem C x NotMeant NotMeant

-- a name means what it meant: the same variable, or the same item
pub data KeptName (C : Text → Type 0) (x : Text) : Meant → Meant → Type 0 where
  KeptLocal : (k : ℕ) (t : Ty) → KeptName C x (ALocal k t) (ALocal k t)
  KeptAsItem : (m m' : Meant) → KeptItem C x m m' → KeptName C x m m'

-- a statement in place, or a return
abbrev pub IsNative : Context → Stmt → Type 0
IsNative c (Return e) = Unit {0}
IsNative c s = IsInPlace c s

-- the value that arrives is not written to an array
abbrev pub IsArrival : Context → Found → Type 0
IsArrival c (Simple (Call to f es)) = IsWrittenIf c to
IsArrival c (Simple (Detach to f es)) = IsWrittenIf c to
IsArrival c f = Unit {0}

-- what stands where a native frame is, apart from sections and spawns
abbrev pub IsNativeStood : Context → Stood → Type 0
IsNativeStood c (AtStatement (Simple s)) = IsNative c s
IsNativeStood c (AtStatement f) = Unit {0}
IsNativeStood c (AtArrival f) = IsArrival c f
IsNativeStood c AtEnd = Unit {0}

-- a value that may be arriving is held
abbrev pub IsHeldIf : (Text → Type 0) → Option Value → Type 0
IsHeldIf C None = Unit {0}
IsHeldIf C (Some v) = IsHeld C v
