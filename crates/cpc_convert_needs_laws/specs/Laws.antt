-- The lifted functions of an accepted program are what the definitions compute, its routines, one for one, as statements.
use Rattle.std.specs.Prelude.{◌≡◌, List, map, is_some, All}
use Rattle.cpc_base.specs.Bytes.{Text}
use Rattle.cpc_tree.specs.Erase.{Names, program_of, function_of}
use Rattle.cpc_tree.specs.Syntax.{Program}
use Rattle.cpc_tree.specs.Typing.{function_named}
use Rattle.cpc_tree.specs.declared.program.Program as G
use Rattle.cpc_meaning.specs.Threads.{is_cps}
use Rattle.cpc_convert_names.specs.Tables as T
use Rattle.cpc_convert_names.specs.Tables.{AreWithin}
use Rattle.cpc_lifted_laws.specs.Accepted.Names.{HasNames}
use Rattle.cpc_convert_routines.specs.Routines.{Routine, routine_of}
use Rattle.cpc_convert_routines.specs.Kept.{routines}
use Rattle.cpc_forms_code.specs.Programs.{IsSpelling}
use Rattle.cpc_forms_code.specs.declared.lifted.LiftedFunction.{LiftedFunction}
use Rattle.cpc_forms_code.specs.declared.lifted.LiftedProgram.{LiftedProgram}
use Rattle.cpc_convert_names.specs.Book.{find}
use Rattle.cpc_convert_names.specs.Called.{function_in, IsNamed}
use Rattle.cpc_convert_names.specs.declared.called.Called.{Called}
use Rattle.cpc_convert_needs.specs.Known.{IsAlike, IsRoutine}
use Rattle.cpc_convert_needs.specs.Whole.{IsCps, IsComplete}

-- ---- what is given

-- texts that tell the names of a program, all of which are in its table, and texts that have those of the table
pub record AreTexts (source : G.Program) (from to : Names) : Type 0 where
  pub spelling : IsSpelling from source
  pub within : AreWithin source
  pub has : T.Spells source.names to

-- each lifted function is one of the program
abbrev pub AreOf : LiftedProgram → Type 0
AreOf l = All (λ (f : LiftedFunction). f.split.now.graph.now.boxed.now.source.now ≡ l.source.now) l.functions.items

-- ---- what is so

-- the lifted functions are read alike by these texts, and by the table of their program
pub record AreAlike (l : LiftedProgram) (from to : Names) : Type 0 where
  pub named : All (IsNamed l.source.now.names to) l.functions.items
  pub alike : All (IsAlike from to) l.functions.items

abbrev pub LiftedAreAlike : Type 0
LiftedAreAlike = (l : LiftedProgram) (from to : Names) → AreTexts l.source.now from to → AreOf l → ∥ AreAlike l from to ∥₁

-- the routine of a lifted function
abbrev pub routine_in : Names → Program → LiftedFunction → Routine
routine_in from p l = routine_of p (function_of from (function_in l))

-- the routines of a program are those of its lifted functions, each of which is what the definitions compute
pub record AreRoutines (l : LiftedProgram) (from to : Names) (cs : List Called) : Type 0 where
  pub routines : routines (program_of l.source.now) ≡ map (routine_in from (program_of l.source.now)) l.functions.items
  pub each : All (λ (f : LiftedFunction). IsRoutine l.source.now.names from to (program_of l.source.now) cs f (routine_in from (program_of l.source.now) f)) l.functions.items

-- so it is where the names of the program are as in accepted ones, beside the names of what is made of these functions
abbrev pub LiftedAreRoutines : Type 0
LiftedAreRoutines =
    (l : LiftedProgram) (from to : Names) (cs : List Called) → AreTexts l.source.now from to → AreOf l → HasNames (program_of l.source.now)
    → map (λ (c : Called). c.lifted.now) cs ≡ l.functions.items → ∥ AreRoutines l from to cs ∥₁

-- each of them has what its pieces ask, and is a cps function; and a name stands for a cps function just where one of these is found
pub record AreComplete (l : LiftedProgram) (from : Names) (cs : List Called) : Type 0 where
  pub each : All (λ (f : LiftedFunction). IsComplete from (program_of l.source.now) f (routine_in from (program_of l.source.now) f)) l.functions.items
  pub cps : All IsCps l.functions.items
  pub entries : (x : Text) → is_cps (function_named (program_of l.source.now) x) ≡ is_some (find from cs x)

abbrev pub LiftedAreComplete : Type 0
LiftedAreComplete =
    (l : LiftedProgram) (from to : Names) (cs : List Called) → AreTexts l.source.now from to → AreOf l → HasNames (program_of l.source.now)
    → map (λ (c : Called). c.lifted.now) cs ≡ l.functions.items → ∥ AreComplete l from cs ∥₁
