-- Where pieces begin, as a statement.
use Rattle.std.specs.Prelude.{◌≡◌, ℕ, true, List, [], ◌∷◌}
use Rattle.cpc_tree.specs.Syntax.{Function, Program}
use Rattle.cpc_forms.specs.Flow.{Place, Start, flow_of, is_leader}
use Rattle.cpc_forms.specs.Graph.{graph_of}
use Rattle.cpc_forms.specs.Pieces.{first_of}
use Rattle.cpc_convert_routines.specs.Routines.{routine_of}
use Rattle.cpc_convert_routines.specs.Nodes.{is_own, has_row}
use Rattle.cpc_chains_event.specs.Rows.{numbers_of}

-- the first row of a piece is that of its first node; where the first node of a function leads, the start has one row, which goes to it
pub record PieceBegins (p : Program) (f : Function) : Type 0 where
  pub own : (l : Place) → is_own (routine_of p f).split l (first_of (routine_of p f).split l) ≡ true → has_row (routine_of p f).split (first_of (routine_of p f).split l) ≡ true
      → (ns : List ℕ) × (numbers_of p (routine_of p f) l ≡ first_of (routine_of p f).split l ∷ ns)
  pub way : is_leader (flow_of (graph_of p f)) (graph_of p f).entry ≡ true → numbers_of p (routine_of p f) Start ≡ (graph_of p f).entry ∷ []

abbrev pub PiecesBegin : Type 0
PiecesBegin = (p : Program) (f : Function) → PieceBegins p f
