-- What has to be known where lines are written.
use Rattle.std.specs.Prelude.{◌≡◌, ◌<◌, ℕ, length, map, All, Option, Some}
use Rattle.cpc_tree.specs.Erase.{Names, Table}
use Rattle.cpc_tree.specs.Syntax.{Program}
use Rattle.cpc_check_rules.specs.Apart.{Spells}
use Rattle.cpc_forms_code.specs.Seen.{scope_seen}
use Rattle.cpc_convert_image_laws.specs.Images.{Readings}
use Rattle.cpc_convert_routines.specs.Routines.{Routine, readings_of}
use Rattle.cpc_convert_names.specs.Called.{AreCalled, variables_in, nodes_in}
use Rattle.cpc_convert_names.specs.Book.{IsBook}
use Rattle.cpc_forms_code.specs.declared.graph.Node.{Node}
use Rattle.cpc_convert_needs.specs.Known.{IsAlike, IsKnown, IsRoutine}
use Rattle.cpc_chains_lines.specs.declared.around.Around.{Around}

-- by the table of the source, texts that tell its names, and those of the event program
pub record Stands (source : Table) (from to : Names) (p : Program) (r : Routine) (a : Around) : Type 0 where
  pub texts : a.texts.now ≡ source
  pub spells : Spells source from
  pub book : IsBook source to a.book.now
  pub functions : All (IsAlike from to) (map (λ c. c.lifted.now) a.book.now.functions.items)
  pub called : AreCalled to a.called.now
  pub routine : IsRoutine source from to p a.book.now.functions.items a.called.now.lifted.now r

-- how names are read where this variable is the innermost one in scope
abbrev pub reads : Names → Routine → Around → Option ℕ → Readings
reads from r a scope = readings_of r (scope_seen from (variables_in a.called.now.lifted.now) scope)

-- a way leads to a node, where there is one
abbrev pub Leads : Around → Option ℕ → Type 0
Leads a o = (n : ℕ) → o ≡ Some n → n < length (nodes_in a.called.now.lifted.now)

-- a variable of the function
abbrev pub IsVariable : Around → ℕ → Type 0
IsVariable a k = k < length (variables_in a.called.now.lifted.now)

-- a node of the function
abbrev pub IsNode : Around → ℕ → Type 0
IsNode a n = n < length (nodes_in a.called.now.lifted.now)

-- what has to be known of a node
abbrev pub Knows : (source : Table) (from to : Names) → Program → Around → Node → Type 0
Knows source from to p a n = IsKnown source from to p a.book.now.functions.items (length (nodes_in a.called.now.lifted.now)) n
