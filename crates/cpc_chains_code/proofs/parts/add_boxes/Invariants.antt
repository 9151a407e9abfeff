use Rattle.std.proofs.Common.{◌≡◌, ◌++◌, map, drop}
use Rattle.cpc_tree.specs.Erase.{Names}
use Rattle.cpc_tree.specs.Syntax.{Program}
use Rattle.cpc_chains_event.specs.Converted.{all_boxes}
use Rattle.cpc_chains_items.specs.Listed.{listed}
use Rattle.cpc_chains_code.specs.Given.{AreGiven, routine_by}
use Rattle.cpc_chains_code.proofs.parts.add_boxes.Given as goal

-- with the functions that are left, all are there
abbrev pub invariant-loop-called : goal.invariant-loop-called
invariant-loop-called l = (from to : Names) (p : Program) → AreGiven l.texts from to p l.book
    → listed to l.items ++ all_boxes (map (routine_by from p) (drop l.called-index l.called-items)) ≡ listed to l.initial.items ++ all_boxes (map (routine_by from p) l.called-items)
