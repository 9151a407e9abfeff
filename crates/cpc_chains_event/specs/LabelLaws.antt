-- The rows of a piece, each once, and where their labels lead, as statements.
use Rattle.std.specs.Prelude.{◌≡◌, ℕ, ◌+◌, ◌<◌, ◌^◌, true, List, ◌∷◌, ◌++◌, length, Some}
use Rattle.cpc_tree.specs.Lists.{holds_number}
use Rattle.cpc_tree.specs.Syntax.{Function, Program}
use Rattle.cpc_forms.specs.Graph.{graph_of}
use Rattle.cpc_forms.specs.Flow.{Place}
use Rattle.cpc_forms.specs.Pieces.{Once}
use Rattle.cpc_convert_flat_laws.specs.Flat.{label_in}
use Rattle.cpc_convert_routines.specs.Names.{node_label}
use Rattle.cpc_convert_routines.specs.Routines.{Routine, routine_of}
use Rattle.cpc_convert_routines.specs.Nodes.{rows_nodes}
use Rattle.cpc_chains_event.specs.Rows.{stubs_of, numbers_of, rows_of, Put, PutRow, put_rows, is_wanted, rows_statements}
use Rattle.cpc_chains_event.specs.Pieces.{piece_body}
use Rattle.cpc_chains_event.specs.FlatLaws.{opening}

-- the rows of a piece, with their ways
abbrev pub put_in : Program → Routine → Place → List PutRow
put_in p r l = put_rows (rows_of p r l)

-- each node with a row, and each leader to which a piece goes, has one row
pub record RowsStandOnce (p : Program) (r : Routine) (l : Place) : Type 0 where
  pub once : Once (numbers_of p r l)
  pub nodes : (n : ℕ) → holds_number (rows_nodes r.split l) n ≡ true → holds_number (numbers_of p r l) n ≡ true
  pub leaders : (n : ℕ) → holds_number (stubs_of r l) n ≡ true → holds_number (numbers_of p r l) n ≡ true

abbrev pub AllRowsStandOnce : Type 0
AllRowsStandOnce = (p : Program) (f : Function) (l : Place) → RowsStandOnce p (routine_of p f) l

-- the label of a row to which some line goes leads to its first statement: behind the opening, and the statements of the rows before it
abbrev pub LabelsLead : Type 0
LabelsLead =
    (p : Program) (f : Function) (l : Place) → length (graph_of p f).nodes < 2 ^ 63 → (front back : List PutRow) (n : ℕ) (x : Put) (xs : List Put)
    → put_in p (routine_of p f) l ≡ front ++ record { number = n; puts = x ∷ xs } ∷ back → is_wanted n (put_in p (routine_of p f) l) ≡ true
    → label_in (node_label n) (piece_body p (routine_of p f) l) ≡ Some (opening p (routine_of p f) l + length (rows_statements (put_in p (routine_of p f) l) front))
