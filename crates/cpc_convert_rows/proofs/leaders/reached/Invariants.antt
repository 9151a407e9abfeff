use Rattle.std.proofs.Common.{◌≡◌, ◌∷◌, take, length}
use Rattle.cpc_forms.specs.Pieces.{first_of}
use Rattle.cpc_forms_code.specs.Splits.{place_of}
use Rattle.cpc_convert_routines.specs.Routines.{Routine}
use Rattle.cpc_chains_event.specs.Rows.{onwards_all}
use Rattle.cpc_convert_rows.specs.Marks.{AreMarked}
use Rattle.cpc_convert_rows.specs.Steps.{IsStepped}
use Rattle.cpc_convert_rows.proofs.leaders.reached.Given as goal

-- what the nodes so far lead to is marked
abbrev pub invariant-loop-node : goal.invariant-loop-node
invariant-loop-node l = record {
  long : length l.marks.items ≡ length l.stepped.steps.items;
  marks : (r : Routine) → IsStepped r l.stepped → AreMarked l.marks.items (first_of r.split (place_of l.fn.owner) ∷ onwards_all r (take l.node-index l.nodes));
}
