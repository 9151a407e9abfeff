-- What has to be known of a function whose pieces are made, beside what its lines ask.
use Rattle.std.specs.Prelude.{◌≡◌, List, ℕ, is_some}
use Rattle.cpc_base.specs.Bytes.{Text}
use Rattle.cpc_tree.specs.Erase.{Names}
use Rattle.cpc_tree.specs.Syntax.{Program}
use Rattle.cpc_tree.specs.Typing.{function_named}
use Rattle.cpc_meaning.specs.Threads.{is_cps}
use Rattle.cpc_convert_routines.specs.Routines.{Routine}
use Rattle.cpc_convert_names.specs.Book.{find}
use Rattle.cpc_chains_lines.specs.declared.around.Around.{Around}
use Rattle.cpc_convert_rows.specs.Steps.{IsStepped}
use Rattle.cpc_convert_rows.specs.declared.stepped.Stepped.{Stepped}
use Rattle.cpc_chains_lines.specs.Whole.{IsComplete, rows_of}

-- the closures of the owners of a function
abbrev pub rows_in : Around → List (List ℕ)
rows_in a = rows_of a.called.now.lifted.now

-- a name stands for a cps function just where one of the book is found
abbrev pub AreEntries : (from : Names) → Program → Around → Type 0
AreEntries from p a = (x : Text) → is_cps (function_named p x) ≡ is_some (find from a.book.now.functions.items x)

-- a routine has these steps, and all is known of it and of which names call cps functions
pub record IsWhole (from : Names) (p : Program) (r : Routine) (a : Around) (s : Stepped) : Type 0 where
  pub stepped : IsStepped r s
  pub of : s.split.now ≡ a.called.now.lifted.now.split.now
  pub complete : IsComplete from p a.called.now.lifted.now r
  pub entries : AreEntries from p a
