-- What holds of all states of a threaded run: pointers lead into blocks that were made, none of them is a frame, codes are of native or detached functions, and variables fit their types.
use Rattle.std.specs.Prelude.{◌≡◌, [], Option, Some}
use Rattle.std.specs.List.{All}
use Rattle.cpc_base.specs.Bytes.{Text}
use Rattle.cpc_tree.specs.Syntax.{Expr, Exprs, Detach, Function, Program}
use Rattle.cpc_tree.specs.Points.{Path, Simple, found}
use Rattle.cpc_tree.specs.Typing.{function_named}
use Rattle.cpc_store.specs.Store.{Value, Store}
use Rattle.cpc_meaning.specs.Act.{AtStatement}
use Rattle.cpc_meaning.specs.Agenda.{Agenda, Due, OnCondition, OnDescriptor, Timer, OnSection}
use Rattle.cpc_meaning.specs.Plain.{Form, Stack}
use Rattle.cpc_meaning.specs.Section.{Job}
use Rattle.cpc_meaning.specs.Threads.{Thread, Pending, Suspended}
use Rattle.cpc_meaning.specs.Machine.{State}
use Rattle.cpc_meaning_laws.specs.Pointer.Made.{IsMade, IsMadeStore, IsMadeCode}
use Rattle.cpc_check_laws.specs.Sound.Suits.{ScopeOf}
use Rattle.cpc_check_laws.specs.Kept.Codes.{IsCode, IsCodeStore, IsCodeStack}
use Rattle.cpc_check_laws.specs.Kept.Fits.{types_of, FitsFrame, FitsPending, GivesInt, IsInt}

-- ---- what is asked of code

-- each local in scope is the variable of its number, and a section gives an int
pub record IsSteady {P : Type 0} (p : Form P) : Type 0 where
  pub scopes : (x : Text) (f : Function) (point : P) → function_named p.program x ≡ Some f → ScopeOf (types_of f) (p.code.scope x point)
  pub sections : (x : Text) (f : Function) (point : P) (to : Option Expr) (y : Text) (es : Exprs) (g : Function)
      → function_named p.program x ≡ Some f → p.code.stood x point ≡ AtStatement (Simple (Detach to y es)) → function_named p.program y ≡ Some g → GivesInt g

-- wherever a body of the program submits a section, the section's function gives an int
pub record SectionsGive (p : Program) : Type 0 where
  pub int : (x : Text) (f : Function) (path : Path) (to : Option Expr) (y : Text) (es : Exprs) (g : Function)
      → function_named p x ≡ Some f → found f.body path ≡ Simple (Detach to y es) → function_named p y ≡ Some g → GivesInt g

-- ---- states

-- the stack of code that runs or waits
pub record KeptStack {P : Type 0} (p : Program) (s : Store) (k : Stack P) : Type 0 where
  pub code : IsMadeCode s k
  pub fits : All (FitsFrame p) k.frames
  pub codes : IsCodeStack p k

-- a thread
abbrev pub KeptThread : {P : Type 0} → Program → Store → Thread P → Type 0
KeptThread p s (Pending f vs) = All (IsMade s) vs × All (IsCode p) vs × FitsPending p f vs
KeptThread p s (Suspended k) = KeptStack p s k

-- the items on all lists of an agenda, and the results that are due
pub record KeptAgenda {T : Type 0} (Fine : T → Type 0) (Good : Value → Type 0) (a : Agenda T) : Type 0 where
  pub ready : All (λ (d : Due T). Fine d.item × Good d.result) a.ready
  pub round : All (λ (d : Due T). Fine d.item × Good d.result) a.round
  pub waiters : All (λ (w : OnCondition T). Fine w.item) a.waiters
  pub descriptors : All (λ (w : OnDescriptor T). Fine w.item) a.descriptors
  pub timers : All (λ (w : Timer T). Fine w.item) a.timers
  pub sections : All (λ (w : OnSection T). Fine w.item) a.sections

-- a section that was submitted: it gives an int
pub record KeptJob (p : Program) (s : Store) (j : Job) : Type 0 where
  pub arguments : All (IsMade s) j.arguments
  pub cells : All (IsMade s) j.cells
  pub pointer : IsMade s j.pointer
  pub gives : (f : Function) → function_named p j.function ≡ Some f → GivesInt f

-- no block of a heap frame was made
abbrev pub NoFrames : Store → Type 0
NoFrames s = s.frames ≡ []

-- a state of the threads of a program, over positions of any type: it does not speak of them
pub record Kept {P : Type 0} (p : Program) (s : State P (Thread P)) : Type 0 where
  pub no_frames : NoFrames s.store
  pub store : IsMadeStore s.store
  pub codes : IsCodeStore p s.store
  pub running : (k : Stack P) → s.running ≡ Some k → KeptStack p s.store k
  pub agenda : KeptAgenda (KeptThread p s.store) IsInt s.agenda
  pub jobs : All (KeptJob p s.store) s.jobs
