use Rattle.std.proofs.Common.{◌≡◌, ◌++◌, ◌&&◌, not, drop}
use Rattle.cpc_tree.specs.Lists.{holds_number}
use Rattle.cpc_forms_code.specs.Splits.{place_of}
use Rattle.cpc_convert_routines.specs.Routines.{Routine, chosen}
use Rattle.cpc_chains_event.specs.Rows.{reached}
use Rattle.cpc_convert_routines.specs.Nodes.{is_own, rows_nodes}
use Rattle.cpc_convert_rows.specs.Steps.{IsStepped}
use Rattle.cpc_convert_rows.proofs.leaders.other_leaders.Given as goal

-- with those that are left, all are there
abbrev pub invariant-loop-leader : goal.invariant-loop-leader
invariant-loop-leader l = (r : Routine) → IsStepped r l.stepped → l.nodes ≡ rows_nodes r.split (place_of l.owner)
    → l.all.items ++ chosen (λ n. holds_number (reached r (place_of l.owner)) n && not (is_own r.split (place_of l.owner) n)) (drop l.leader-index l.stepped.split.now.leaders.items)
    ≡ chosen (λ n. holds_number (reached r (place_of l.owner)) n && not (is_own r.split (place_of l.owner) n)) l.stepped.split.now.leaders.items
