-- The machine of code, as the definitions have it.
use Rattle.std.specs.Prelude.{◌≡◌, Result, Ok, Err, [], true}
use Rattle.cpc_base.specs.declared.stop.NoMemory.{NoMemory}
use Rattle.cpc_num.specs.declared.kinds.Fault.{Fault}
use Rattle.cpc_tree.specs.Erase.{Names, program_of}
use Rattle.cpc_tree.specs.Syntax.{Program}
use Rattle.cpc_tree.specs.Points.{Point}
use Rattle.cpc_tree.specs.declared.program.Program as GProgram
use Rattle.cpc_store.specs.Store.{Store}
use Rattle.cpc_meaning.specs.Answer.{Answer}
use Rattle.cpc_meaning.specs.Plain as P
use Rattle.cpc_native_builtins.specs.Served.{is_served_program}
use Rattle.cpc_eval_values.specs.Meets.{Meets}
use Rattle.cpc_eval_values.specs.Shown.{value_of, store_of}
use Rattle.cpc_eval_index.specs.Indexed.{items_of}
use Rattle.cpc_eval.specs.Numbers.{ProgramNumbers}
use Rattle.cpc_native.specs.declared.machine.Stepped.{Stepped}
use Rattle.cpc_native.specs.declared.machine.Stepped.TheVariants as X
use Rattle.cpc_native.specs.Runs.{Runs as RunsOf}
use Rattle.cpc_native.specs.Stacks.{stack_of, request_of}
use Rattle.cpc_native.specs.Well.{IsWell as IsWellMachine, StandsAtCall as StandsAtCallMachine}
use Rattle.cpc_native_laws.specs.Laws.{IsSpelling, AreOthers}
use Rattle.cpc_run_code.specs.declared.code.Code.{Code}

-- the program whose code runs
unfoldable pub items_in : Names → Code → Program
items_in names m = items_of names m.machine.index

-- its store
unfoldable pub store_in : Names → Code → Store
store_in names m = store_of names m.machine.store

-- its stack
unfoldable pub stack_in : Names → Code → P.Stack Point
stack_in names m = stack_of names m.machine

-- nothing runs
unfoldable pub IsIdle : Code → Type 0
IsIdle m = m.machine.calls.frames.items ≡ []

-- what the code keeps
unfoldable pub IsWell : Code → Type 0
IsWell m = IsWellMachine m.machine

-- the innermost call stands at a call
unfoldable pub StandsAtCall : Code → Type 0
StandsAtCall m = StandsAtCallMachine m.machine

-- what the texts of names and the program of a machine have to be
unfoldable pub Runs : Names → Code → Type 0
Runs names m = RunsOf names m.machine.texts.now (items_of names m.machine.index)

-- what the texts of names and a program have to be
pub record Given (names : Names) (p : GProgram.Program) : Type 0 where
  pub spelled : IsSpelling names p
  pub served : is_served_program (program_of p) ≡ true
  pub numbers : ProgramNumbers (program_of p)

-- the same of two spellings, which differ at each name that the table does not have
pub record GivenTwice (p : GProgram.Program) : Type 0 where
  pub names : Names
  pub other : Names
  pub first : Given names p
  pub second : Given other p
  pub others : AreOthers p.names names other

-- what a step of the code comes to, with the machine after it
abbrev pub done_of : Names → Code → Stepped → Result (P.Done Point) Fault
done_of names m X.Went = Ok (P.Went (store_in names m) (stack_in names m))
done_of names m (X.Returned v) = Ok (P.Returned (value_of names v) (store_in names m))
done_of names m (X.Asked r) = Ok (P.Asks (request_of names r))
done_of names m (X.Faulted fault f) = Err fault

-- the same, or nothing where no rule fits
abbrev pub Same : {A : Type 0} → Result A Fault → Answer A → Type 0
Same r a = Meets r a

-- a step of the code is the step of the definition; nothing is said of want of memory
abbrev pub StepIs : Names → Code → Result Stepped NoMemory → Answer (P.Done Point) → Type 0
StepIs names m (Ok x) a = Same (done_of names m x) a
StepIs names m (Err e) a = Unit {0}

-- an answered request goes on, or fails, as the definition says
abbrev pub AnswerIs : {A : Type 0} → Names → Code → Result A Fault → Answer (P.Done Point) → Type 0
AnswerIs names m (Ok u) a = Same (Ok (P.Went (store_in names m) (stack_in names m))) a
AnswerIs names m (Err fault) a = Same (Err fault) a

-- a request leaves stack and store as they were; its name, and that of a fault, is the running function's
abbrev pub AskedIn : Names → Code → Code → Stepped → Type 0
AskedIn names old new (X.Asked r) = (stack_in names new ≡ stack_in names old) × (store_in names new ≡ store_in names old) × (names r.function ≡ P.running_function (stack_in names old))
AskedIn names old new (X.Faulted fault f) = names f ≡ P.running_function (stack_in names old)
AskedIn names old new _ = Unit {0}

-- a step that faults leaves stack and store as they were
abbrev pub FaultsIn : Names → Code → Code → Stepped → Type 0
FaultsIn names old new (X.Faulted fault f) = (stack_in names new ≡ stack_in names old) × (store_in names new ≡ store_in names old)
FaultsIn names old new _ = Unit {0}

-- nothing runs once the outermost call was left
abbrev pub EndsIdle : Stepped → Code → Type 0
EndsIdle (X.Returned v) new = IsIdle new
EndsIdle _ new = Unit {0}
