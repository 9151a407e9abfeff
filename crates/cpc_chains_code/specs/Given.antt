-- What has to be known of all functions of a conversion, where the items that are made of them are written.
use Rattle.std.specs.Prelude.{◌≡◌, List, map, is_some, All}
use Rattle.cpc_base.specs.Bytes.{Text}
use Rattle.cpc_tree.specs.Erase.{Names, Table}
use Rattle.cpc_tree.specs.Syntax.{Program}
use Rattle.cpc_tree.specs.Typing.{function_named}
use Rattle.cpc_meaning.specs.Threads.{is_cps}
use Rattle.cpc_check_rules.specs.Apart.{Spells}
use Rattle.cpc_forms_code.specs.declared.lifted.LiftedFunction.{LiftedFunction}
use Rattle.cpc_convert_routines.specs.Routines.{Routine}
use Rattle.cpc_convert_names.specs.Called.{IsNamed}
use Rattle.cpc_convert_names.specs.Book.{IsBook, find}
use Rattle.cpc_convert_names.specs.declared.called.Called.{Called}
use Rattle.cpc_convert_names.specs.declared.book.Book.{Book}
use Rattle.cpc_convert_needs_laws.specs.Known.{IsAlike, IsRoutine}
use Rattle.cpc_convert_needs_laws.specs.Whole.{IsComplete}
use Rattle.cpc_convert_needs_laws.specs.Laws.{routine_in}

-- the lifted functions of a book
abbrev pub lifted_by : Book → List LiftedFunction
lifted_by b = map (λ (c : Called). c.lifted.now) b.functions.items

-- the routine of a function of a book
abbrev pub routine_by : Names → Program → Called → Routine
routine_by from p c = routine_in from p c.lifted.now

-- those of all its functions, in their order
abbrev pub routines_by : Names → Program → Book → List Routine
routines_by from p b = map (routine_by from p) b.functions.items

-- by the table of the source, texts that tell its names, and those of the event program
pub record AreGiven (source : Table) (from to : Names) (p : Program) (b : Book) : Type 0 where
  pub spells : Spells source from
  pub book : IsBook source to b
  pub named : All (IsNamed source to) (lifted_by b)
  pub alike : All (IsAlike from to) (lifted_by b)
  pub routines : All (λ (c : Called). IsRoutine source from to p b.functions.items c.lifted.now (routine_by from p c)) b.functions.items
  pub complete : All (λ (c : Called). IsComplete from p c.lifted.now (routine_by from p c)) b.functions.items
  pub entries : (x : Text) → is_cps (function_named p x) ≡ is_some (find from b.functions.items x)
