-- The ways of a node are those of its lines, as statements.
use Rattle.std.specs.Prelude.{◌≡◌, ℕ, Option}
use Rattle.cpc_tree.specs.Syntax.{Program}
use Rattle.cpc_forms.specs.Graph.{Node}
use Rattle.cpc_convert_routines.specs.Routines.{Routine}
use Rattle.cpc_chains_event.specs.Lines.{node_lines}
use Rattle.cpc_chains_event.specs.Rows.{falls, put_lines, any_leads}
use Rattle.cpc_convert_rows.specs.Ways.{test_of, falls_of, ways_lead}

-- where control falls behind the lines of a node
abbrev pub FallsAreOfLines : Type 0
FallsAreOfLines = (p : Program) (r : Routine) (node : Node) → falls (node_lines p r node) ≡ falls_of r node

-- where its lines lead, before the row of a number
abbrev pub WaysAreOfLines : Type 0
WaysAreOfLines =
    (p : Program) (r : Routine) (node : Node) (k : ℕ) (following : Option ℕ)
    → any_leads k (put_lines following (node_lines p r node)) ≡ ways_lead k following (test_of node.stood node.yes) (falls_of r node)
