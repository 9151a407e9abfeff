-- A test has a way where it holds.
use Rattle.std.proofs.Common.{◌≡◌, ℕ, true, slice_get, Some, option_map, sym, ◌∙◌, ap, subst}
use Rattle.cpc_tree.specs.Points.{Path, Point, Here, Arrival, End, Test, found, next_point}
use Rattle.cpc_tree.specs.Registers.{scope_in_function}
use Rattle.cpc_tree.specs.Syntax.{Expr, Function, Program}
use Rattle.cpc_meaning.specs.Act.{AtStatement}
use Rattle.cpc_meaning.specs.Ways.{manner_of, goes_in_step, only_if, way_from}
use Rattle.cpc_forms.specs.Graph.{Node, node_of, graph_of}
use Rattle.cpc_forms.specs.Order.{number_of}
use Rattle.cpc_graph_laws.proofs.Formed.{node_comes}
use Rattle.cpc_check_laws.specs.Sound.Control.{StaysIn, GoesOnward}
use Rattle.cpc_check_laws.proofs.Sound.Control.{goes_next}
use Rattle.cpc_chains_laws.proofs.Piece.Filled.{what_stands, no_arrival, no_end}

module _ (p : Program) (f : Function) (stays : StaysIn f.body) (e : Expr) where
  here_goes : (path : Path) → found f.body path ≡ Test (Some e) → (m : ℕ) × (option_map (number_of f.body) (way_from p (Some f) (Here path) true) ≡ Some m)
  here_goes path is =
      let next = goes_next f.body path true stays (subst GoesOnward (sym is) tt) in
      let way : way_from p (Some f) (Here path) true ≡ Some next.0 =
      ap (λ x. only_if (goes_in_step (manner_of p (scope_in_function f path) x) x true) (next_point f.body (Here path) true)) is ∙ next.1 in
      (number_of f.body next.0, ap (option_map (number_of f.body)) way)

  point_goes : (point : Point) → (node_of p f point).stood ≡ AtStatement (Test (Some e)) → (m : ℕ) × ((node_of p f point).yes ≡ Some m)
  point_goes (Here path) i = here_goes path (ap what_stands i)
  point_goes (Arrival path) i = absurd (no_arrival (found f.body path) (Test (Some e)) i)
  point_goes End i = absurd (no_end (Test (Some e)) i)

  pub test_goes : (n : ℕ) (node : Node) → slice_get (graph_of p f).nodes n ≡ Some node → node.stood ≡ AtStatement (Test (Some e)) → (m : ℕ) × (node.yes ≡ Some m)
  test_goes n node there stood =
      let from = node_comes p f n node there in
      subst (λ (k : Node). k.stood ≡ AtStatement (Test (Some e)) → (m : ℕ) × (k.yes ≡ Some m)) from.2 (point_goes from.0) stood
