-- Nodes, from boxed points and the ways from there.
use Rattle.std.specs.Prelude.{ℕ, ◌+◌, Bool, true, false, List, [], ◌∷◌, Option, Some, None}
use Rattle.cpc_tree.specs.Typing.{Scope}
use Rattle.cpc_meaning.specs.Act.{Stood, AtStatement, AtArrival, AtEnd}
use Rattle.cpc_meaning.specs.Ways.{Manner, goes_in_step, arrives_later, only_if}
use Rattle.cpc_forms.specs.Graph.{Node}
use Rattle.cpc_forms_code.specs.Points.{BoxedPoint}
use Rattle.cpc_graph.specs.declared.onward.Way.{Way}

-- whether control goes on in a step where this stands, as a test holds or not
abbrev pub goes_at : Stood → Manner → (test : Bool) → Bool
goes_at (AtStatement x) m h = goes_in_step m x h
goes_at (AtArrival x) m h = arrives_later m
goes_at AtEnd m h = false

-- the arrival of what stands there, which would have this number
abbrev pub arrival_at : Stood → Manner → ℕ → Option ℕ
arrival_at (AtStatement x) m a = only_if (arrives_later m) (Some a)
arrival_at (AtArrival x) m a = None
arrival_at AtEnd m a = None

-- the node at which this stands, where control would go on these ways, and to this number where a value arrives
abbrev pub node_on : Stood → Scope → Manner → Way → (arrival : ℕ) → Node
node_on stood scope m w a = record {
  stood = stood;
  scope = scope;
  manner = m;
  yes = only_if (goes_at stood m true) w.yes;
  no = only_if (goes_at stood m false) w.no;
  arrival = arrival_at stood m a;
}

-- the nodes of these points, from the number n on
abbrev pub joined : (n : ℕ) → List BoxedPoint → List Way → List Node
joined n [] ws = []
joined n (b ∷ bs) [] = []
joined n (b ∷ bs) (w ∷ ws) = node_on b.stood b.scope b.manner w (n + 1) ∷ joined (n + 1) bs ws
