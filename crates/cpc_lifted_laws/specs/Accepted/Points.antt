-- What stands at the positions of an accepted program, as statements: it is typed, its names mean variables or what stays, what it writes is
-- no array, and native code asks for nothing that waits.
use Rattle.std.specs.Prelude.{◌≡◌, ◌⊎◌, true, false, List, ◌∷◌, ℕ, Option, Some}
use Rattle.cpc_base.specs.Bytes.{Text}
use Rattle.cpc_base.specs.declared.stop.Dialect.TheVariants as D
use Rattle.cpc_store.specs.Store.{Value, Store}
use Rattle.cpc_tree.specs.Points.{Found, Simple, Test, Nothing}
use Rattle.cpc_tree.specs.Syntax.{Ty, ENamed, Exprs, Stmt, Declare, Assign, Call, Detach, Spawn, Function, Program}
use Rattle.cpc_tree.specs.Typing.{Scope, ALocal, named, item_named, function_named}
use Rattle.cpc_meaning.specs.Act.{Stood, AtStatement, AtArrival}
use Rattle.cpc_meaning.specs.Answer.{Gives}
use Rattle.cpc_meaning.specs.Eval.{Slot, Context}
use Rattle.cpc_meaning.specs.Plain.{Frame, Asks, frames_step}
use Rattle.cpc_meaning.specs.Requests.{Request, Asked, Builtin, Host, ToSpawn, Section}
use Rattle.cpc_check_rules.specs.Calls.{gives_up}
use Rattle.cpc_check_rules.specs.Operators as O
use Rattle.cpc_check_laws.specs.Sound.Typed.{is_for, FoundTyped}
use Rattle.cpc_forms.specs.Split.{Position, split_form}
use Rattle.cpc_convert_image_laws.specs.InPlace.{is_cps, IsWritten, IsWrittenIf}
use Rattle.cpc_meaning.specs.Names.{AllNamesIf, AllNamesAmong, AllNamesOf}
use Rattle.cpc_convert_image_laws.specs.Native.{IsNative}
pub use Rattle.cpc_convert_flat_laws.specs.Locals.{at as in_scope}
use Rattle.cpc_lifted_laws.specs.Accepted.Accepted.{OfAccepted}
use Rattle.cpc_lifted_laws.specs.Accepted.Known.{Stays}

-- ---- names

-- a name that occurs in code that stays: of a variable, or of an item that stays
pub data UsedName (p : Program) (scope : Scope) (x : Text) : Type 0 where
  IsVariable : (k : ℕ) (t : Ty) → named p scope x ≡ ALocal k t → UsedName p scope x
  IsItem : named p scope x ≡ item_named 0 p x → Stays p x → UsedName p scope x

-- the names of a statement, but for that of a function that it calls by its name, spawns or submits
abbrev pub AllNamesBeside : (Text → Type 0) → Stmt → Type 0
AllNamesBeside L (Call to (ENamed x) es) = AllNamesIf L to × AllNamesAmong L es
AllNamesBeside L (Detach to f es) = AllNamesIf L to × AllNamesAmong L es
AllNamesBeside L (Spawn f es) = AllNamesAmong L es
AllNamesBeside L s = AllNamesOf L s

-- a statement that calls no cps function by its name, and neither spawns nor submits
abbrev pub StaysItself : Program → Scope → Stmt → Type 0
StaysItself p scope (Call to (ENamed x) es) = is_cps (named p scope x) ≡ false
StaysItself p scope (Detach to f es) = true ≡ false
StaysItself p scope (Spawn f es) = true ≡ false
StaysItself p scope s = Unit {0}

-- what a statement writes, or what its value is written to, is no array
abbrev pub IsWrittenBy : Context → Stmt → Type 0
IsWrittenBy c (Declare x t (Some e)) = IsWritten c (ENamed x)
IsWrittenBy c (Assign e op v) = IsWritten c e
IsWrittenBy c (Call to f es) = IsWrittenIf c to
IsWrittenBy c (Detach to f es) = IsWrittenIf c to
IsWrittenBy c s = Unit {0}

-- ---- statements

pub record StatementKnown (p : Program) (scope : Scope) (s : Stmt) : Type 0 where
  pub beside : AllNamesBeside (UsedName p scope) s
  pub names : StaysItself p scope s → AllNamesOf (UsedName p scope) s
  pub native : (slots : List Slot) (t : Store) → StaysItself p scope s → IsNative (in_scope p scope slots t) s
  pub written : (slots : List Slot) (t : Store) → IsWrittenBy (in_scope p scope slots t) s

-- a statement or a test
abbrev pub FoundKnown : Program → Scope → Found → Type 0
FoundKnown p scope (Simple s) = StatementKnown p scope s
FoundKnown p scope (Test t) = AllNamesIf (UsedName p scope) t
FoundKnown p scope Nothing = Unit {0}

-- a spawn
abbrev pub IsSpawn : Stmt → Type 0
IsSpawn s = (f : Text) × (es : Exprs) × (s ≡ Spawn f es)

-- what native code asks for where this stands: primitives of both machines that do not wait, the host, and at a spawn a thread
abbrev pub IsAskedByNative : Stood → Asked → Type 0
IsAskedByNative stood (Builtin prim) = (is_for D.Cpc prim ≡ true) × (gives_up prim ≡ false)
IsAskedByNative stood (Host x) = Unit {0}
IsAskedByNative stood (ToSpawn f) = (es : Exprs) × (stood ≡ AtStatement (Simple (Spawn f es)))
IsAskedByNative stood (Section f) = ⊥

-- ---- programs

-- of each function of a program and each position: what stands there is typed and known, also where its value arrives; in a native or
-- detached function a statement is a spawn or stays itself, and asks for nothing that waits
pub record PositionsKnown (p : Program) : Type 0 where
  pub typed : (x : Text) (f : Function) (a : Position) (s : Found) → function_named p x ≡ Some f → (split_form p).code.stood x a ≡ AtStatement s → FoundTyped D.Cpc p f ((split_form p).code.scope x a) s
  pub arrived : (x : Text) (f : Function) (a : Position) (s : Found) → function_named p x ≡ Some f → (split_form p).code.stood x a ≡ AtArrival s → FoundTyped D.Cpc p f ((split_form p).code.scope x a) s
  pub known : (x : Text) (f : Function) (a : Position) (s : Found) → function_named p x ≡ Some f → (split_form p).code.stood x a ≡ AtStatement s → FoundKnown p ((split_form p).code.scope x a) s
  pub arriving : (x : Text) (f : Function) (a : Position) (s : Found) → function_named p x ≡ Some f → (split_form p).code.stood x a ≡ AtArrival s → FoundKnown p ((split_form p).code.scope x a) s
  pub native : (x : Text) (f : Function) (a : Position) (s : Stmt) → function_named p x ≡ Some f → O.is_cps f.mode ≡ false → (split_form p).code.stood x a ≡ AtStatement (Simple s)
      → IsSpawn s ⊎ StaysItself p ((split_form p).code.scope x a) s
  pub asks : (frame : Frame Position) (f : Function) (s : Store) (o : Option Value) (below : List (Frame Position)) (r : Request)
      → function_named p frame.function ≡ Some f → O.is_cps f.mode ≡ false → frames_step (split_form p) s o (frame ∷ below) ≡ Gives (Asks r)
      → IsAskedByNative ((split_form p).code.stood frame.function frame.point) r.asked

abbrev pub AcceptedPositionsKnown : Type 0
AcceptedPositionsKnown = OfAccepted PositionsKnown
