use Rattle.std.proofs.Common.{◌≡◌, ◌++◌, map, drop}
use Rattle.cpc_tree.specs.Erase.{Names}
use Rattle.cpc_tree.specs.Syntax.{Program}
use Rattle.cpc_convert_common.specs.Converted.{prototype}
use Rattle.cpc_chains_event.specs.Converted.{all_made}
use Rattle.cpc_chains_items.specs.Listed.{listed}
use Rattle.cpc_chains_code.specs.Given.{AreGiven, routine_by}
use Rattle.cpc_chains_code.proofs.parts.add_prototypes.Given as goal

-- with the functions that are left, all are there
abbrev pub invariant-loop-called : goal.invariant-loop-called
invariant-loop-called l = (from to : Names) (p : Program) → AreGiven l.texts from to p l.book
    → listed to l.items ++ map prototype (all_made p (map (routine_by from p) (drop l.called-index l.called-items))) ≡ listed to l.initial.items ++ map prototype (all_made p (map (routine_by from p) l.called-items))
