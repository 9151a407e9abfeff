use Rattle.std.proofs.Common.{◌≡◌, ◌<◌, ◌≤◌, ℕ, [], false, map, length, get_or}
use Rattle.cpc_lift_closures.specs.Added.{with_variable}
use Rattle.cpc_lift_closures.proofs.keep.add_kept.Given as goal

-- the rows of the owners so far have the variable where they are marked, the others are as they were
abbrev pub invariant-loop-owner : goal.invariant-loop-owner
invariant-loop-owner l = record {
  long : length l.rows.items ≡ length l.initial.rows.items;
  done : (k : ℕ) → k < l.owner → k < length l.marks → get_or (map (λ row. row.items) l.rows.items) k [] ≡ with_variable (get_or l.marks k false) l.variable (get_or (map (λ row. row.items) l.initial.rows.items) k []);
  left : (k : ℕ) → l.owner ≤ k → get_or (map (λ row. row.items) l.rows.items) k [] ≡ get_or (map (λ row. row.items) l.initial.rows.items) k [];
}
