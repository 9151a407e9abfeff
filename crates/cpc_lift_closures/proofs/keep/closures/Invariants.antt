use Rattle.std.proofs.Common.{◌≡◌, ◌<◌, ℕ, [], map, length, get_or}
use Rattle.cpc_lift_laws.specs.Search as S
use Rattle.cpc_lift_closures.specs.Rows.{links_of}
use Rattle.cpc_lift_closures.proofs.keep.closures.Given as goal

-- the rows have the closures as far as the variables so far
abbrev pub invariant-loop-variable : goal.invariant-loop-variable
invariant-loop-variable l = record {
  long : length l.rows.items ≡ l.owners;
  rows : (k : ℕ) → k < l.owners → get_or (map (λ row. row.items) l.rows.items) k [] ≡ S.closure (links_of l.ways) (links_of l.uses) l.variable k;
}
