use Rattle.std.proofs.Common.{◌≡◌, ◌++◌, [], drop, length}
use Rattle.cpc_tree.specs.Syntax.{Program}
use Rattle.cpc_forms.specs.Flow.{Place}
use Rattle.cpc_convert_routines.specs.Routines.{Routine}
use Rattle.cpc_convert_routines.specs.Nodes.{rows_nodes}
use Rattle.cpc_chains_event.specs.Rows.{stubs_of, numbers_from}
use Rattle.cpc_convert_rows.specs.Marks.{AreMarked}
use Rattle.cpc_convert_rows.specs.Steps.{IsStepped}
use Rattle.cpc_convert_rows.proofs.numbers.row_numbers.Given as goal

-- with the nodes that are left, all are there
abbrev pub invariant-loop-node : goal.invariant-loop-node
invariant-loop-node l = record {
  long : length l.placed.marks.items ≡ length l.stepped.steps.items;
  marks : AreMarked l.placed.marks.items l.placed.all.items;
  all : (p : Program) (r : Routine) (o : Place) → IsStepped r l.stepped → l.nodes ≡ rows_nodes r.split o → l.leaders ≡ stubs_of r o
      → l.placed.all.items ++ numbers_from p r o (stubs_of r o) l.placed.all.items (drop l.node-index l.nodes) ≡ numbers_from p r o (stubs_of r o) [] l.nodes;
}
