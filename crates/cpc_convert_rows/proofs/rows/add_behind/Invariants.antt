use Rattle.std.proofs.Common.{◌≡◌, ◌++◌, ◌&&◌, nat_lt, drop}
use Rattle.cpc_convert_routines.specs.Routines.{Routine, chosen}
use Rattle.cpc_convert_routines.specs.Nodes.{has_row}
use Rattle.cpc_convert_rows.specs.Steps.{IsStepped}
use Rattle.cpc_convert_rows.proofs.rows.add_behind.Given as goal

-- with those that are left, all are there
abbrev pub invariant-loop-node : goal.invariant-loop-node
invariant-loop-node l = (r : Routine) → IsStepped r l.stepped
    → l.all.items ++ chosen (λ n. nat_lt l.first n && has_row r.split n) (drop l.node-index l.owned) ≡ l.initial.all.items ++ chosen (λ n. nat_lt l.first n && has_row r.split n) l.owned
