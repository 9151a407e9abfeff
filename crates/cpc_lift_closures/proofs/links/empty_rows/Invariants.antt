use Rattle.std.proofs.Common.{◌≡◌, [], map, replicate}
use Rattle.cpc_lift_closures.proofs.links.empty_rows.Given as goal

-- so many as were pushed
abbrev pub invariant-loop : goal.invariant-loop
invariant-loop l = map (λ row. row.items) l.rows.items ≡ replicate l.counter []
