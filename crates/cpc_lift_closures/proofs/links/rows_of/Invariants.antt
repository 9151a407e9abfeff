use Rattle.std.proofs.Common.{◌≡◌, ◌<◌, ◌++◌, ℕ, [], map, length, get_or, drop}
use Rattle.cpc_lift_laws.specs.Search as S
use Rattle.cpc_lift_closures.specs.Rows.{links_of}
use Rattle.cpc_lift_closures.proofs.links.rows_of.Given as goal

-- with the links that are left, all are in their rows
abbrev pub invariant-loop-link : goal.invariant-loop-link
invariant-loop-link l = record {
  length : length l.rows.items ≡ l.count;
  rows : (m : ℕ) → m < l.count → get_or (map (λ row. row.items) l.rows.items) m [] ++ S.before (links_of (drop l.link-index l.links)) m ≡ S.before (links_of l.links) m;
}
