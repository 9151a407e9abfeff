-- The nodes of a piece: those that its owner owns, and those of them that have rows.
use Rattle.std.specs.Prelude.{ℕ, Bool, true, false, not, List, ◌++◌, slice_get, nat_le, nat_lt}
use Rattle.cpc_meaning.specs.Act.{Stood, AtArrival}
use Rattle.cpc_meaning.specs.Ways.{Manner, ByFrame}
use Rattle.cpc_forms.specs.Graph.{at_node}
use Rattle.cpc_forms.specs.Flow.{Place}
use Rattle.cpc_forms.specs.Split.{Split}
use Rattle.cpc_forms.specs.Pieces.{is_owned_by, piece_nodes, first_of}
pub use Rattle.cpc_forms.specs.Spread.{known as owner_at}
use Rattle.cpc_convert_routines.specs.Routines.{chosen}

-- whether l owns a node
abbrev pub is_own : Split → Place → ℕ → Bool
is_own s l n = is_owned_by l (owner_at (slice_get s.owners n))

-- the arrival of a call that is left over a frame, which stands with its call
abbrev pub stands_with : Stood → Manner → Bool
stands_with (AtArrival x) ByFrame = true
stands_with stood manner = false

-- the other nodes
abbrev pub has_row : Split → ℕ → Bool
has_row s n = at_node true (λ node. not (stands_with node.stood node.manner)) (slice_get s.graph.nodes n)

-- these numbers from this one on, and then those below it
abbrev pub turned : ℕ → List ℕ → List ℕ
turned m ns = chosen (λ n. nat_le m n) ns ++ chosen (λ n. nat_lt n m) ns

-- the nodes of a piece that have rows: from its first one on, and then those that stand before it in the text
abbrev pub rows_nodes : Split → Place → List ℕ
rows_nodes s l = turned (first_of s l) (chosen (has_row s) (piece_nodes s l))
