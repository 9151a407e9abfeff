-- Split graphs with the closures of their owners.
use Rattle.std.specs.Prelude.{◌≡◌, ℕ, zero, suc, ◌<◌, Bool, true, false, List, [], ◌∷◌, map, length, get_or}
use Rattle.cpc_tree.specs.Erase.{Names, function_of}
use Rattle.cpc_tree.specs.Syntax.{Function, Program}
use Rattle.cpc_tree.specs.Registers.{variables}
use Rattle.cpc_meaning.specs.Ways.{ways}
use Rattle.cpc_forms.specs.Graph.{graph_of}
use Rattle.cpc_forms.specs.Split.{Split, split_of}
pub use Rattle.cpc_forms.specs.Split.{owner_number, position_owner, positions_from, code_of}
use Rattle.cpc_lift_laws.specs.Search.{Link, closure}
use Rattle.cpc_lift_laws.specs.Nodes.{ways_of_nodes, uses_of_nodes}
use Rattle.cpc_forms_code.specs.declared.split.SplitFunction.{SplitFunction}
use Rattle.cpc_forms_code.specs.Points.{Marked, marked}
use Rattle.cpc_forms_code.specs.Programs.{program_by, IsSpelled}

-- a number before others, where it is not so
abbrev pub unless : Bool → ℕ → List ℕ → List ℕ
unless true k ks = ks
unless false k ks = k ∷ ks

-- the boxes among variables, from the number k on
abbrev pub boxes_among : (k : ℕ) → List Marked → List ℕ
boxes_among k [] = []
boxes_among k (v ∷ vs) = unless v.register k (boxes_among (suc k) vs)

-- the boxes of a function
abbrev pub boxes_of : Function → List ℕ
boxes_of f = boxes_among 0 (marked f)

-- the ways between the owners of a function, and the variables that they use
abbrev pub ways_in : Program → Function → List Link
ways_in p f = ways_of_nodes (code_of p (split_of (graph_of p f))) f.called position_owner (positions_from 0 (split_of (graph_of p f)).owners)

abbrev pub uses_in : Program → Function → List Link
uses_in p f = uses_of_nodes (code_of p (split_of (graph_of p f))) f.called position_owner (boxes_of f) (positions_from 0 (split_of (graph_of p f)).owners)

-- the closure of the owner that has this number: the variables that it has to keep, in order
abbrev pub closure_by : Program → Function → ℕ → List ℕ
closure_by p f l = closure (ways_in p f) (uses_in p f) (length (variables f)) l

-- these are the closures of the start and of the nodes, by any texts that tell the names of the program
pub record IsLifted (s : SplitFunction) (rows : List (List ℕ)) : Type 0 where
  pub long : length rows ≡ suc (length s.graph.now.nodes.items)
  pub closures : (names : Names) → IsSpelled names s.graph.now.boxed.now.source.now s.graph.now.boxed.now.function.now → (l : ℕ) → l < length rows
      → get_or rows l [] ≡ closure_by (program_by names s.graph.now.boxed.now.source.now) (function_of names s.graph.now.boxed.now.function.now) l
