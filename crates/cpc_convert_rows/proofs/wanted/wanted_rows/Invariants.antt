use Rattle.std.proofs.Common.{◌≡◌, ℕ, ◌<◌, ◌||◌, drop, map, length}
use Rattle.cpc_tree.specs.Syntax.{Program}
use Rattle.cpc_forms_code.specs.Splits.{place_of}
use Rattle.cpc_convert_routines.specs.Routines.{Routine}
use Rattle.cpc_chains_event.specs.Rows.{row_of, put_rows, is_wanted}
use Rattle.cpc_convert_rows.specs.Marks.{is_set}
use Rattle.cpc_convert_rows.specs.Steps.{IsStepped}
use Rattle.cpc_convert_rows.proofs.wanted.wanted_rows.Given as goal

-- with what the rows that are left lead to, all is marked
abbrev pub invariant-loop-place : goal.invariant-loop-place
invariant-loop-place l = record {
  long : length l.marks.items ≡ length l.stepped.steps.items;
  marks : (p : Program) (r : Routine) (k : ℕ) → IsStepped r l.stepped → k < length l.marks.items
      → (is_set l.marks.items k || is_wanted k (put_rows (map (row_of p r (place_of l.fn.owner)) (drop l.place l.numbers)))) ≡ is_wanted k (put_rows (map (row_of p r (place_of l.fn.owner)) l.numbers));
}
