-- Stacks in which cps functions call native ones, and never the other way round: a thread that waits has frames of cps functions alone.
use Rattle.std.specs.Prelude.{◌≡◌, ◌⊎◌, Bool, true, false, List, [], ◌∷◌, Option, Some}
use Rattle.std.specs.List.{All}
use Rattle.cpc_base.specs.Bytes.{Text}
use Rattle.cpc_tree.specs.Syntax.{Ty, Expr, ENamed, Exprs, Call, Detach, Spawn, Function, Program}
use Rattle.cpc_tree.specs.Points.{Simple}
use Rattle.cpc_tree.specs.Primitives.{Primitive, primitive_named}
use Rattle.cpc_tree.specs.Typing.{AFunction, NotMeant, named, item_named, function_named}
use Rattle.cpc_tree.specs.declared.program.Mode.{Mode}
use Rattle.cpc_store.specs.Store.{Value}
use Rattle.cpc_meaning.specs.Act.{AtStatement}
use Rattle.cpc_meaning.specs.Plain.{Form, Frame, Stack}
use Rattle.cpc_meaning.specs.Machine.{State}
use Rattle.cpc_meaning.specs.Start.{main_name}
use Rattle.cpc_meaning.specs.Threads.{Thread, Pending, Suspended}
use Rattle.cpc_check_rules.specs.Operators.{is_cps}
use Rattle.cpc_check_rules.specs.Calls.{gives_up}
use Rattle.cpc_check_laws.specs.Sound.Typed.{is_own}
use Rattle.cpc_check_laws.specs.Kept.Codes.{IsNative}
use Rattle.cpc_check_laws.specs.Kept.Kept.{KeptAgenda, Kept}

-- ---- what is asked of code

-- Cps functions are called by cps functions alone, and only they wait or submit sections; what is spawned is one; and the function of
-- a code is none.
pub record KeepsModes {P : Type 0} (p : Form P) : Type 0 where
  pub calls : (x : Text) (f : Function) (point : P) (to : Option Expr) (y : Text) (es : Exprs) (mode : Mode) (r : Ty) (ps : List Ty) (g : Function)
      → function_named p.program x ≡ Some f → p.code.stood x point ≡ AtStatement (Simple (Call to (ENamed y) es))
      → named p.program (p.code.scope x point) y ≡ AFunction mode r ps → is_own mode ≡ true → function_named p.program y ≡ Some g → is_cps g.mode ≡ true → is_cps f.mode ≡ true
  pub waits : (x : Text) (f : Function) (point : P) (to : Option Expr) (y : Text) (es : Exprs) (prim : Primitive)
      → function_named p.program x ≡ Some f → p.code.stood x point ≡ AtStatement (Simple (Call to (ENamed y) es))
      → named p.program (p.code.scope x point) y ≡ NotMeant → primitive_named y ≡ Some prim → gives_up prim ≡ true → is_cps f.mode ≡ true
  pub sections : (x : Text) (f : Function) (point : P) (to : Option Expr) (y : Text) (es : Exprs)
      → function_named p.program x ≡ Some f → p.code.stood x point ≡ AtStatement (Simple (Detach to y es)) → is_cps f.mode ≡ true
  pub spawns : (x : Text) (f : Function) (point : P) (y : Text) (es : Exprs) (g : Function)
      → function_named p.program x ≡ Some f → p.code.stood x point ≡ AtStatement (Simple (Spawn y es)) → function_named p.program y ≡ Some g → is_cps g.mode ≡ true
  pub codes : (x : Text) (g : Function) → IsNative (item_named 0 p.program x) → function_named p.program x ≡ Some g → is_cps g.mode ≡ false

-- ---- states

-- the frame of a cps function, or of another one
abbrev pub IsOfMode : {P : Type 0} → Program → Bool → Frame P → Type 0
IsOfMode p cps frame = (f : Function) × (function_named p frame.function ≡ Some f) × (is_cps f.mode ≡ cps)

-- frames of cps functions alone
abbrev pub AllCps : {P : Type 0} → Program → List (Frame P) → Type 0
AllCps p frames = All (IsOfMode p true) frames

-- frames of other functions, and below them frames of cps functions
abbrev pub IsLayered : {P : Type 0} → Program → List (Frame P) → Type 0
IsLayered p [] = Unit {0}
IsLayered p (frame ∷ below) = (IsOfMode p false frame × IsLayered p below) ⊎ (IsOfMode p true frame × AllCps p below)

-- a thread that is to begin is a call of a cps function, but for `main`; one that waits has frames of cps functions alone
abbrev pub IsLayeredThread : {P : Type 0} → Program → Thread P → Type 0
IsLayeredThread p (Pending f vs) = (f ≡ main_name) ⊎ ((g : Function) → function_named p f ≡ Some g → is_cps g.mode ≡ true)
IsLayeredThread p (Suspended k) = AllCps p k.frames

-- a state of the threads of a program
pub record Layered {P : Type 0} (p : Program) (s : State P (Thread P)) : Type 0 where
  pub running : (k : Stack P) → s.running ≡ Some k → IsLayered p k.frames
  pub agenda : KeptAgenda (IsLayeredThread p) (λ (v : Value). Unit {0}) s.agenda

-- ---- all that is known of a state

pub record Holds {P : Type 0} (p : Program) (s : State P (Thread P)) : Type 0 where
  pub kept : Kept p s
  pub layered : Layered p s
