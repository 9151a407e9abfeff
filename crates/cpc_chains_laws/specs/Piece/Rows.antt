-- Where the row of a number stands among the statements of a piece.
use Rattle.std.specs.Prelude.{◌≡◌, ℕ, ◌+◌, List, [], ◌∷◌, ◌++◌, length, Option, Some, None}
use Rattle.cpc_tree.specs.Syntax.{Stmts, NoStmt, Program}
use Rattle.cpc_tree.specs.Points.{Point}
use Rattle.cpc_forms.specs.Flow.{Place}
use Rattle.cpc_convert_flat_laws.specs.Flat.{before, point_at}
use Rattle.cpc_convert_routines.specs.Routines.{Routine}
use Rattle.cpc_convert_routines.specs.Nodes.{is_own}
use Rattle.cpc_chains_event.specs.Rows.{lines_by, put_lines, PutRow, rows_statements}
use Rattle.cpc_chains_event.specs.FlatLaws.{opening}
use Rattle.cpc_chains_event.specs.LabelLaws.{put_in}

-- the number of the first of these rows
abbrev pub next_number : List PutRow → Option ℕ
next_number [] = None
next_number (x ∷ xs) = Some x.number

-- the row of a number before these rows
abbrev pub put_row : Program → Routine → Place → ℕ → (back : List PutRow) → PutRow
put_row p r l n back = record { number = n; puts = put_lines (next_number back) (lines_by (is_own r.split l n) p r n) }

-- the row of a number stands between these rows of a piece
pub record RowAt (p : Program) (r : Routine) (l : Place) (n : ℕ) : Type 0 where
  pub front : List PutRow
  pub back : List PutRow
  pub is_split : put_in p r l ≡ front ++ put_row p r l n back ∷ back

-- how many statements of the piece stand before it
abbrev pub row_index : (p : Program) (r : Routine) (l : Place) (n : ℕ) → RowAt p r l n → ℕ
row_index p r l n at = opening p r l + length (rows_statements (put_in p r l) at.front)

-- the statements from it on
abbrev pub row_rest : (p : Program) (r : Routine) (l : Place) (n : ℕ) → RowAt p r l n → Stmts
row_rest p r l n at = before (rows_statements (put_in p r l) (put_row p r l n at.back ∷ at.back)) NoStmt

-- its point
abbrev pub row_point : (p : Program) (r : Routine) (l : Place) (n : ℕ) → RowAt p r l n → Point
row_point p r l n at = point_at (row_index p r l n at) (row_rest p r l n at)
