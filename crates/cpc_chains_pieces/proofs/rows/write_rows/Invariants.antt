use Rattle.std.proofs.Common.{◌≡◌, ◌<◌, ◌++◌, ℕ, None, All, drop, map, length}
use Rattle.cpc_tree.specs.Erase.{Names, Table}
use Rattle.cpc_tree.specs.Syntax.{Program}
use Rattle.cpc_forms_code.specs.Splits.{place_of}
use Rattle.cpc_convert_routines.specs.Routines.{Routine}
use Rattle.cpc_chains_event.specs.Rows.{row_of, put_rows, is_wanted, rows_statements}
use Rattle.cpc_chains_lines.specs.Called.{nodes_in}
use Rattle.cpc_chains_lines.specs.Around.{Stands, IsNode}
use Rattle.cpc_chains_lines.specs.Written.{written}
use Rattle.cpc_convert_rows.specs.Marks.{is_set}
use Rattle.cpc_convert_rows.specs.Steps.{IsStepped}
use Rattle.cpc_chains_pieces.proofs.rows.write_rows.Given as goal

-- with the rows that are left, all are written
abbrev pub invariant-loop-place : goal.invariant-loop-place
invariant-loop-place l = (source : Table) (from to : Names) (p : Program) (r : Routine) → Stands source from to p r l.fn.around → IsStepped r l.stepped → All (IsNode l.fn.around) l.numbers
    → length l.marks ≡ length (nodes_in l.fn.around.called.now.lifted.now) → ((k : ℕ) → k < length l.marks → is_set l.marks k ≡ is_wanted k (put_rows (map (row_of p r (place_of l.fn.owner)) l.numbers)))
    → (written to l.initial.out).label ≡ None
    → ((written to l.out).label ≡ None) × ((written to l.out).done ++ rows_statements (put_rows (map (row_of p r (place_of l.fn.owner)) l.numbers)) (put_rows (map (row_of p r (place_of l.fn.owner)) (drop l.place l.numbers)))
    ≡ (written to l.initial.out).done ++ rows_statements (put_rows (map (row_of p r (place_of l.fn.owner)) l.numbers)) (put_rows (map (row_of p r (place_of l.fn.owner)) l.numbers)))
