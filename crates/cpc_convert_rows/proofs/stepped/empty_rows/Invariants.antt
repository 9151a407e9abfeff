use Rattle.std.proofs.Common.{◌≡◌, ℕ, suc, [], map, length, get_or}
use Rattle.cpc_convert_rows.proofs.stepped.empty_rows.Given as goal

-- one more than were pushed, all empty
abbrev pub invariant-loop : goal.invariant-loop
invariant-loop l = record {
  long : length l.rows.items ≡ suc l.counter;
  rows : (k : ℕ) → get_or (map (λ row. row.items) l.rows.items) k [] ≡ [];
}
