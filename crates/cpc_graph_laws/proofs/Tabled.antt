-- The graph of a function is the one that is made by recursion over its statements.
use Rattle.std.proofs.Common.{◌≡◌, ℕ, ◌+◌, Bool, true, false, List, [], ◌∷◌, ◌++◌, map, Option, Some, None, option_map, refl, sym, ◌∙◌, ap, arith}
use Rattle.std.proofs.lemmas.List.{map-append}
use Rattle.cpc_tree.specs.Syntax.{Function, Program}
use Rattle.cpc_tree.specs.Typing.{Scope}
use Rattle.cpc_tree.specs.Points.{Path, Point, Here, Arrival, End, found, Move, Into, Out, ToLabel, Broken, Continued, NoMove, labelled, at_label, arrived, after, next_point}
use Rattle.cpc_tree.specs.Registers.{scope_in_function}
use Rattle.cpc_meaning.specs.Act.{Stood}
use Rattle.cpc_meaning.specs.Ways.{Manner, goes_in_step, arrives_later, only_if, manner_at}
use Rattle.cpc_forms.specs.Order.{points_of, number, number_of}
use Rattle.cpc_forms.specs.Graph.{Node, Graph, node_of, graph_of}
use Rattle.cpc_forms.specs.Table.{end_node, from_body, nodes_of}
use Rattle.cpc_graph_laws.specs.Laws.{TablesAreGraphs}
use Rattle.cpc_graph_laws.proofs.MoreFacts.{enter_number}
use Rattle.cpc_graph_laws.proofs.Labels.{from, label_number}
use Rattle.cpc_graph_laws.proofs.Moves.{led_to}
use Rattle.cpc_graph_laws.proofs.Tables.{node_by, Made, tabled}

mapped_only : {A B : Type 0} (f : A → B) (b : Bool) (o : Option A) → option_map f (only_if b o) ≡ only_if b (option_map f o)
mapped_only f true o = refl
mapped_only f false o = refl

map_same : {A B : Type 0} (f g : A → B) (xs : List A) → ((x : A) → f x ≡ g x) → map f xs ≡ map g xs
map_same f g [] h = refl
map_same f g (x ∷ xs) h = ap (λ y. y ∷ map f xs) (h x) ∙ ap (λ ys. g x ∷ ys) (map_same f g xs h)

abbrev node : Stood → Scope → Manner → (yes no arrival : Option ℕ) → Node
node stood scope manner y n a = record { stood = stood; scope = scope; manner = manner; yes = y; no = n; arrival = a }

node_same : (stood : Stood) (scope : Scope) (manner : Manner) (y y' n n' a a' : Option ℕ) → y ≡ y' → n ≡ n' → a ≡ a' → node stood scope manner y n a ≡ node stood scope manner y' n' a'
node_same stood scope manner y y' n n' a a' e f g =
    ap (λ z. node stood scope manner z n a) e ∙ ap (λ z. node stood scope manner y' z a) f ∙ ap (node stood scope manner y' n') g

module _ (p : Program) (f : Function) where
  abbrev to : Path → Bool → Option ℕ
  to path h = option_map (number_of f.body) (next_point f.body (Here path) h)

  abbrev back : Path → ℕ
  back path = number f.body path true

  node_made : (point : Point) → node_of p f point ≡ node_by p (found f.body) (scope_in_function f) to back point
  node_made (Here path) =
      node_same _ _ _ _ _ _ _ _ _
      (mapped_only (number_of f.body) (goes_in_step (manner_at p f path) (found f.body path) true) (next_point f.body (Here path) true))
      (mapped_only (number_of f.body) (goes_in_step (manner_at p f path) (found f.body path) false) (next_point f.body (Here path) false))
      (mapped_only (number_of f.body) (arrives_later (manner_at p f path)) (Some (Arrival path)))
  node_made (Arrival path) =
      node_same _ _ _ _ _ _ _ _ _
      (mapped_only (number_of f.body) (arrives_later (manner_at p f path)) (next_point f.body (Here path) true))
      (mapped_only (number_of f.body) (arrives_later (manner_at p f path)) (next_point f.body (Here path) false))
      refl
  node_made End = refl

  label_to : (o : Option Path) → option_map (number_of f.body) (at_label o) ≡ option_map (λ path. number f.body path false) o
  label_to None = refl
  label_to (Some path) = refl

  move_to : (m : Move) → option_map (number_of f.body) (arrived f.body m) ≡ led_to (from f.body 0) (from_body f.body) m
  move_to (Into path) = ap (λ n. Some n) (let e : number f.body path false ≡ 0 + number f.body path false = omega arith in e)
  move_to Out = refl
  move_to (ToLabel l) = label_to (labelled l f.body) ∙ sym (label_number l f.body)
  move_to Broken = refl
  move_to Continued = refl
  move_to NoMove = refl

  body_made : Made p f.body (found f.body) to back 0 (from_body f.body)
  body_made = record {
    stands = λ q. refl;
    leads = λ q h. move_to (after f.body q h);
    arrives = λ q. let e : number f.body q true ≡ 0 + number f.body q true = omega arith in e;
  }

  pub nodes_made : (graph_of p f).nodes ≡ nodes_of p f
  nodes_made =
      map-append (node_of p f) (points_of f.body) (End ∷ [])
      ∙ ap (λ ns. ns ++ (end_node ∷ []))
      (map_same (node_of p f) (node_by p (found f.body) (scope_in_function f) to back) (points_of f.body) node_made
      ∙ tabled p f.body (found f.body) (scope_in_function f) to back 0 (from_body f.body) body_made)

abbrev graph : ℕ → List Node → Graph
graph n nodes = record { entry = n; nodes = nodes }

pub tables_are_graphs : TablesAreGraphs
tables_are_graphs p f = ap (λ n. graph n (graph_of p f).nodes) (enter_number f.body) ∙ ap (graph 0) (nodes_made p f)
