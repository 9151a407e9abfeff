-- Which nodes of a piece take the value that arrives, and which give one.
use Rattle.std.specs.Prelude.{ℕ, Bool, true, false, ◌||◌, List, [], ◌∷◌, slice_get, Option, Some}
use Rattle.cpc_tree.specs.Syntax.{Expr, Return}
use Rattle.cpc_tree.specs.Points.{Simple}
use Rattle.cpc_meaning.specs.Act.{Stood, AtStatement, AtArrival, target_of}
use Rattle.cpc_meaning.specs.Ways.{Manner, AsCps}
use Rattle.cpc_forms.specs.Graph.{Node, at_node}
use Rattle.cpc_forms.specs.Flow.{Place, Start, At}
use Rattle.cpc_convert_routines.specs.Routines.{Routine}

-- whether a value that arrives at a place is put somewhere
abbrev pub has_place : Option (Option Expr) → Bool
has_place (Some (Some e)) = true
has_place o = false

-- whether a value that arrives at a node is
abbrev pub takes_stood : Manner → Stood → Bool
takes_stood AsCps (AtArrival x) = has_place (target_of x)
takes_stood manner stood = false

-- whether a value that arrives at an owner is
abbrev pub takes_value : Routine → Place → Bool
takes_value r Start = false
takes_value r (At n) = at_node false (λ node. takes_stood node.manner node.stood) (slice_get r.split.graph.nodes n)

-- whether one of these nodes is so
abbrev pub any_node : Routine → (Node → Bool) → List ℕ → Bool
any_node r test [] = false
any_node r test (n ∷ ns) = at_node false test (slice_get r.split.graph.nodes n) || any_node r test ns

-- a return of a value
abbrev pub is_result : Stood → Bool
is_result (AtStatement (Simple (Return (Some e)))) = true
is_result stood = false
