-- What the pieces of a graph hold, as statements.
use Rattle.std.specs.Prelude.{◌≡◌, ◌↔◌, ℕ, true, slice_get, Some}
use Rattle.cpc_tree.specs.Syntax.{Function, Program}
use Rattle.cpc_tree.specs.Lists.{holds_number}
use Rattle.cpc_forms.specs.Graph.{graph_of}
use Rattle.cpc_forms.specs.Flow.{Place, owner_of}
use Rattle.cpc_forms.specs.Split.{Split, split_of}
use Rattle.cpc_forms.specs.Pieces.{first_of, piece_nodes, Once}
use Rattle.cpc_graph_laws.specs.Laws.{flow_in}

-- the split graph of a function
abbrev pub split_in : Program → Function → Split
split_in p f = split_of (graph_of p f)

-- a piece holds what its owner owns, and nothing else
abbrev pub PiecesHoldTheirs : Type 0
PiecesHoldTheirs = (p : Program) (f : Function) (l : Place) (n : ℕ) → (holds_number (piece_nodes (split_in p f) l) n ≡ true) ↔ (owner_of (flow_in p f) n ≡ Some l)

-- each of it once
abbrev pub PiecesHoldOnce : Type 0
PiecesHoldOnce = (p : Program) (f : Function) (l : Place) → Once (piece_nodes (split_in p f) l)

-- its first node first, where it owns that
abbrev pub PiecesBegin : Type 0
PiecesBegin = (p : Program) (f : Function) (l : Place) → owner_of (flow_in p f) (first_of (split_in p f) l) ≡ Some l → slice_get (piece_nodes (split_in p f) l) 0 ≡ Some (first_of (split_in p f) l)
