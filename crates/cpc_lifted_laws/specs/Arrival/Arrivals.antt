-- Values that arrive: what is asked of code, so that each is one that the position at which it arrives takes; and what then holds of stacks,
-- of threads and of states.
use Rattle.std.specs.Prelude.{◌≡◌, true, List, [], ◌∷◌, Option, Some}
use Rattle.cpc_base.specs.Bytes.{Text}
use Rattle.cpc_tree.specs.declared.program.Mode.{Mode}
use Rattle.cpc_tree.specs.Points.{Simple}
use Rattle.cpc_tree.specs.Primitives.{Primitive, primitive_named}
use Rattle.cpc_tree.specs.Syntax.{Ty, Expr, ENamed, Exprs, Call, Detach, Function}
use Rattle.cpc_tree.specs.Typing.{AFunction, NotMeant, named, function_named}
use Rattle.cpc_store.specs.Store.{Value}
use Rattle.cpc_meaning.specs.Act.{AtStatement}
use Rattle.cpc_meaning.specs.Machine.{State}
use Rattle.cpc_meaning.specs.Plain.{Form, Frame, Stack}
use Rattle.cpc_meaning.specs.Threads.{Thread, Pending, Suspended}
use Rattle.cpc_meaning.specs.Ways.{AsCps, manner_of}
use Rattle.cpc_check_rules.specs.Calls.{gives_up}
use Rattle.cpc_check_laws.specs.Kept.Fits.{Fits, IsInt}
use Rattle.cpc_check_laws.specs.Kept.Kept.{KeptAgenda}

-- any value
abbrev pub AnyValue : Value → Type 0
AnyValue v = Unit {0}

-- `Takes` says which values a position of a function takes
module _ {P : Type 0} (p : Form P) (Takes : Text → P → Value → Type 0) where
  -- ---- what is asked of code

  -- where the value of what stands there arrives, such values are taken
  abbrev pub TakesAt : Text → P → (Value → Type 0) → Type 0
  TakesAt x point Good = (back : P) → p.code.arrival x point ≡ Some back → (v : Value) → Good v → Takes x back v

  -- the value of a call of a function by its name is one of its result's type; that of any other call that is no cps statement may be any
  -- value; a wait and a section give ints
  pub record CodeTakes : Type 0 where
    pub called : (x : Text) (f : Function) (point : P) (to : Option Expr) (y : Text) (es : Exprs) (mode : Mode) (r : Ty) (ps : List Ty) (g : Function) → function_named p.program x ≡ Some f
        → p.code.stood x point ≡ AtStatement (Simple (Call to (ENamed y) es)) → named p.program (p.code.scope x point) y ≡ AFunction mode r ps → function_named p.program y ≡ Some g → TakesAt x point (Fits g.result)
    pub valued : (x : Text) (f : Function) (point : P) (to : Option Expr) (e : Expr) (es : Exprs) → function_named p.program x ≡ Some f
        → p.code.stood x point ≡ AtStatement (Simple (Call to e es)) → ¬ (manner_of p.program (p.code.scope x point) (Simple (Call to e es)) ≡ AsCps) → TakesAt x point AnyValue
    pub waits : (x : Text) (f : Function) (point : P) (to : Option Expr) (y : Text) (es : Exprs) (prim : Primitive) → function_named p.program x ≡ Some f
        → p.code.stood x point ≡ AtStatement (Simple (Call to (ENamed y) es)) → named p.program (p.code.scope x point) y ≡ NotMeant → primitive_named y ≡ Some prim → gives_up prim ≡ true → TakesAt x point IsInt
    pub sections : (x : Text) (f : Function) (point : P) (to : Option Expr) (y : Text) (es : Exprs) → function_named p.program x ≡ Some f
        → p.code.stood x point ≡ AtStatement (Simple (Detach to y es)) → TakesAt x point IsInt

  -- ---- states

  -- the first of these frames takes what a function of this name gives
  abbrev pub TakesFrom : Text → List (Frame P) → Type 0
  TakesFrom y [] = Unit {0}
  TakesFrom y (frame ∷ below) = (g : Function) → function_named p.program y ≡ Some g → (v : Value) → Fits g.result v → Takes frame.function frame.point v

  -- each frame takes what the function of the frame above it gives
  abbrev pub Linked : List (Frame P) → Type 0
  Linked [] = Unit {0}
  Linked (frame ∷ below) = TakesFrom frame.function below × Linked below

  -- the first frame takes the value that arrives at it
  abbrev pub TakesFirst : List (Frame P) → Option Value → Type 0
  TakesFirst (frame ∷ below) (Some v) = Takes frame.function frame.point v
  TakesFirst frames o = Unit {0}

  -- or ints
  abbrev pub TakesInts : List (Frame P) → Type 0
  TakesInts [] = Unit {0}
  TakesInts (frame ∷ below) = (v : Value) → IsInt v → Takes frame.function frame.point v

  -- a stack that runs
  pub record StackTakes (k : Stack P) : Type 0 where
    pub linked : Linked k.frames
    pub arriving : TakesFirst k.frames k.arriving

  -- a thread: one that waits is to be given an int
  abbrev pub ThreadTakes : Thread P → Type 0
  ThreadTakes (Pending f vs) = Unit {0}
  ThreadTakes (Suspended k) = Linked k.frames × TakesInts k.frames

  -- a state
  pub record StateTakes (s : State P (Thread P)) : Type 0 where
    pub running : (k : Stack P) → s.running ≡ Some k → StackTakes k
    pub agenda : KeptAgenda ThreadTakes AnyValue s.agenda
