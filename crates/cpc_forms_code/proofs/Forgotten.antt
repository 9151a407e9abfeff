-- A node without its ways is a boxed point.
use Rattle.std.proofs.Common.{◌≡◌, List, [], ◌∷◌, map, refl, ap, ◌∙◌}
use Rattle.cpc_tree.specs.Syntax.{Function, Program}
use Rattle.cpc_tree.specs.Points.{Point, Here, Arrival, End}
use Rattle.cpc_forms.specs.Order.{points}
use Rattle.cpc_forms.specs.Graph.{Node, node_of, graph_of}
use Rattle.cpc_forms_code.specs.Points.{BoxedPoint, boxed_point, boxed_points}

abbrev pub point_of : Node → BoxedPoint
point_of n = record { stood = n.stood; scope = n.scope; manner = n.manner }

node_point : (p : Program) (f : Function) (x : Point) → boxed_point p f x ≡ point_of (node_of p f x)
node_point p f (Here path) = refl
node_point p f (Arrival path) = refl
node_point p f End = refl

map_points : (p : Program) (f : Function) (xs : List Point) → map (boxed_point p f) xs ≡ map point_of (map (node_of p f) xs)
map_points p f [] = refl
map_points p f (x ∷ xs) = ap (λ z. z ∷ map (boxed_point p f) xs) (node_point p f x) ∙ ap (λ zs. point_of (node_of p f x) ∷ zs) (map_points p f xs)

pub points_forgotten : (p : Program) (f : Function) → boxed_points p f ≡ map point_of (graph_of p f).nodes
points_forgotten p f = map_points p f (points f.body)
