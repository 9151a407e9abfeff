-- Sections that are out: they run functions for that, on integers.
use Rattle.std.specs.Prelude.{◌≡◌, true, List, [], ◌∷◌, Option, Some}
use Rattle.cpc_base.specs.Bytes.{Text}
use Rattle.cpc_check_rules.specs.Calls as C
use Rattle.cpc_store.specs.Store.{Value, Code}
use Rattle.cpc_tree.specs.Points.{Simple}
use Rattle.cpc_tree.specs.Syntax.{Ty, TyPointer, Expr, Exprs, Detach, Function, Program}
use Rattle.cpc_tree.specs.Typing.{cells, function_named, parameter_types}
use Rattle.cpc_meaning.specs.Act.{AtStatement}
use Rattle.cpc_meaning.specs.Plain.{Form}
use Rattle.cpc_meaning.specs.Section.{Job, all_integers}

-- the first type points to cells that are all integers, and the others are integers
pub data TakesSection (p : Program) : List Ty → Type 0 where
  ForSection : (t : Ty) (ts : List Ty) → ((us : List Ty) → cells p t ≡ Some us → C.all_integers us ≡ true) → C.all_integers ts ≡ true → TakesSection p (TyPointer t ∷ ts)

-- wherever code submits a section its function is one of these, and takes such arguments
pub record SectionsTake {P : Type 0} (p : Form P) (sections : Text → Type 0) : Type 0 where
  pub takes : (x : Text) (f : Function) (point : P) → function_named p.program x ≡ Some f → (to : Option Expr) (y : Text) (es : Exprs) (g : Function)
      → p.code.stood x point ≡ AtStatement (Simple (Detach to y es)) → function_named p.program y ≡ Some g → TakesSection p.program (parameter_types g)
  pub named : (x : Text) (f : Function) (point : P) → function_named p.program x ≡ Some f → (to : Option Expr) (y : Text) (es : Exprs)
      → p.code.stood x point ≡ AtStatement (Simple (Detach to y es)) → sections y

-- a value that is no code
abbrev pub IsNoCode : Value → Type 0
IsNoCode (Code f) = ⊥
IsNoCode _ = Unit {0}

-- a section that is out
pub record JobFine (sections : Text → Type 0) (j : Job) : Type 0 where
  pub function : sections j.function
  pub arguments : all_integers j.arguments ≡ true
  pub cells : all_integers j.cells ≡ true
  pub pointer : IsNoCode j.pointer

-- all of these are
abbrev pub JobsFine : (Text → Type 0) → List Job → Type 0
JobsFine sections [] = Unit {0}
JobsFine sections (j ∷ js) = JobFine sections j × JobsFine sections js
