-- The graph of a function is well formed: control leads to nodes alone, and a cps statement's value arrives where control resumes.
use Rattle.std.proofs.Common.{◌≡◌, ℕ, ◌<◌, ◌==◌, ◌||◌, ◌⊎◌, inl, inr, ⊎_elim, Bool, true, false, List, [], ◌∷◌, ◌++◌, length, slice_get, Option, Some, None, option_map, refl, sym, ◌∙◌, ap, subst}
use Rattle.std.proofs.lemmas.Option.{slice_get-map, slice_get_within}
use Rattle.cpc_base.proofs.Truth.{or_by_second, eq_means, eq_reflexive}
use Rattle.cpc_tree.specs.Syntax.{Function, Program}
use Rattle.cpc_tree.specs.Points.{Path, Point, Here, Arrival, End, begin}
use Rattle.cpc_tree.specs.Lists.{holds_number}
use Rattle.cpc_meaning.specs.Ways.{Manner, InPlace, ByFrame, AsCps, is_cps_statement, arrives_later, only_if, manner_at, way_from, arrival_from}
use Rattle.cpc_forms.specs.Order.{is_in, points, number_of}
use Rattle.cpc_forms.specs.Graph.{Node, Graph, manner_from, node_of, graph_of, way, at_node}
use Rattle.cpc_forms.specs.Flow.{Inside, Place, Start, At, as_list, by_arrival, exits, resumes_at, flow_of, goes_to}
use Rattle.cpc_graph_laws.proofs.Standing.{IsIn, begin_is_in, way_is_in, arrival_is_in}
use Rattle.cpc_graph_laws.proofs.Graphs.{node_found}

-- control leads to nodes, and the value of a cps statement arrives where control resumes
pub record Formed (g : Graph) : Type 0 where
  pub entry : g.entry < length g.nodes
  pub exit : (n m : ℕ) (node : Node) → slice_get g.nodes n ≡ Some node → holds_number (exits node) m ≡ true → m < length g.nodes
  pub back : (n m : ℕ) (node : Node) → slice_get g.nodes n ≡ Some node → is_cps_statement node.manner ≡ true → node.arrival ≡ Some m → ((flow_of g).resumes m ≡ true) × (m < length g.nodes)

-- ---- lists of numbers

-- a number of two lists is in one of them
pub in_either : (m : ℕ) (ms ns : List ℕ) → holds_number (ms ++ ns) m ≡ true → (holds_number ms m ≡ true) ⊎ (holds_number ns m ≡ true)
in_either m [] ns e = inr e
in_either m (k ∷ ms) ns e = go (k == m) _ _ _ (in_either m ms ns) e
  where
    go : (c u v w : Bool) → (v ≡ true → (u ≡ true) ⊎ (w ≡ true)) → (c || v) ≡ true → ((c || u) ≡ true) ⊎ (w ≡ true)
    go true u v w h e = inl refl
    go false u v w h e = h e

left_case : (b c d : Bool) → (c ≡ true → d ≡ true) → (b || c) ≡ true → (b || d) ≡ true
left_case true c d f e = refl
left_case false c d f e = f e

pub in_left : (m : ℕ) (ms ns : List ℕ) → holds_number ms m ≡ true → holds_number (ms ++ ns) m ≡ true
in_left m [] ns e = absurd (cc)
in_left m (k ∷ ms) ns e = left_case (k == m) _ _ (in_left m ms ns) e

pub in_right : (m : ℕ) (ms ns : List ℕ) → holds_number ns m ≡ true → holds_number (ms ++ ns) m ≡ true
in_right m [] ns e = e
in_right m (k ∷ ms) ns e = or_by_second (k == m) _ (in_right m ms ns e)

pub is_that : (m : ℕ) (o : Option ℕ) → holds_number (as_list o) m ≡ true → o ≡ Some m
is_that m None e = absurd (cc)
is_that m (Some n) e = ap (λ k. Some k) (eq_means n m (go (n == m) e))
  where
    go : (b : Bool) → (b || false) ≡ true → b ≡ true
    go true h = refl
    go false h = h

pub that_is : (m : ℕ) (o : Option ℕ) → o ≡ Some m → holds_number (as_list o) m ≡ true
that_is m None e = absurd (cc)
that_is m (Some n) e = let f : n ≡ m = cc in left_case (n == m) false false (λ x. x) (subst (λ k. ((n == k) || false) ≡ true) f (left_case (n == n) false false (λ x. x) (ap (λ b. b || false) (eq_reflexive n))))

-- ---- exits

-- by which way control goes from a node
pub data Leaves (node : Node) (m : ℕ) : Type 0 where
  ByWay : (h : Bool) → way node h ≡ Some m → Leaves node m
  ByCall : is_cps_statement node.manner ≡ false → node.arrival ≡ Some m → Leaves node m

by_call : (node : Node) (m : ℕ) (manner : Manner) → node.manner ≡ manner → holds_number (by_arrival manner node.arrival) m ≡ true → Leaves node m
by_call node m InPlace i e = ByCall (ap is_cps_statement i) (is_that m node.arrival e)
by_call node m ByFrame i e = ByCall (ap is_cps_statement i) (is_that m node.arrival e)
by_call node m AsCps i e = absurd (cc)

pub leaves : (node : Node) (m : ℕ) → holds_number (exits node) m ≡ true → Leaves node m
leaves node m e =
    ⊎_elim (λ a. ByWay true (is_that m node.yes a))
    (λ b. ⊎_elim (λ c. ByWay false (is_that m node.no c)) (λ c. by_call node m node.manner refl c) (in_either m (as_list node.no) _ b))
    (in_either m (as_list node.yes) _ e)

not_cps : (manner : Manner) (o : Option ℕ) (m : ℕ) → is_cps_statement manner ≡ false → o ≡ Some m → holds_number (by_arrival manner o) m ≡ true
not_cps InPlace o m i e = that_is m o e
not_cps ByFrame o m i e = that_is m o e
not_cps AsCps o m i e = absurd (cc)

pub exits_way : (node : Node) (h : Bool) (m : ℕ) → way node h ≡ Some m → holds_number (exits node) m ≡ true
exits_way node true m e = in_left m (as_list node.yes) _ (that_is m node.yes e)
exits_way node false m e = in_right m (as_list node.yes) _ (in_left m (as_list node.no) _ (that_is m node.no e))

pub exits_arrival : (node : Node) (m : ℕ) → is_cps_statement node.manner ≡ false → node.arrival ≡ Some m → holds_number (exits node) m ≡ true
exits_arrival node m c e = in_right m (as_list node.yes) _ (in_right m (as_list node.no) _ (not_cps node.manner node.arrival m c e))

-- ---- the graph of a function

-- the image of what is there is there
pub mapped : {A B : Type 0} (f : A → B) (o : Option A) (y : B) → option_map f o ≡ Some y → (x : A) × (o ≡ Some x) × (f x ≡ y)
mapped f None y e = absurd (cc)
mapped f (Some x) y e = (x, refl, cc)

module _ (p : Program) (f : Function) where
  abbrev g : Graph
  g = graph_of p f

  pub number_below : (point : Point) → is_in f.body point ≡ true → number_of f.body point < length g.nodes
  number_below point e = slice_get_within g.nodes (number_of f.body point) (node_of p f point) (node_found p f point e)

  -- a node is that of a point
  pub node_comes : (n : ℕ) (node : Node) → slice_get g.nodes n ≡ Some node → (point : Point) × (slice_get (points f.body) n ≡ Some point) × (node_of p f point ≡ node)
  node_comes n node e = mapped (node_of p f) (slice_get (points f.body) n) node (sym (slice_get-map (node_of p f) (points f.body) n) ∙ e)

  target_below : (o : Option Point) (m : ℕ) → IsIn f.body o → option_map (number_of f.body) o ≡ Some m → m < length g.nodes
  target_below None m i e = absurd (cc)
  target_below (Some point) m i e = let z : number_of f.body point ≡ m = cc in subst (λ k. k < length g.nodes) z (number_below point i)

  pub way_numbers : (point : Point) (h : Bool) → way (node_of p f point) h ≡ option_map (number_of f.body) (way_from p (Some f) point h)
  way_numbers point true = refl
  way_numbers point false = refl

  leaves_below : (point : Point) (m : ℕ) → Leaves (node_of p f point) m → m < length g.nodes
  leaves_below point m (ByWay h e) = target_below (way_from p (Some f) point h) m (way_is_in p f point h) (sym (way_numbers point h) ∙ e)
  leaves_below point m (ByCall c e) = target_below (arrival_from p (Some f) point) m (arrival_is_in p f point) e

  -- where control resumes
  pub resumes_there : (path : Path) → is_in f.body (Arrival path) ≡ true → is_cps_statement (manner_at p f path) ≡ true → (flow_of g).resumes (number_of f.body (Arrival path)) ≡ true
  resumes_there path i c = ap (at_node false (λ node. resumes_at node.stood node.manner)) (node_found p f (Arrival path) i) ∙ c

  abbrev Back : ℕ → Type 0
  Back m = ((flow_of g).resumes m ≡ true) × (m < length g.nodes)

  back_later : (path : Path) (later : Bool) → arrives_later (manner_at p f path) ≡ later → is_cps_statement (manner_at p f path) ≡ true → (m : ℕ) → IsIn f.body (only_if later (Some (Arrival path)))
      → option_map (number_of f.body) (only_if later (Some (Arrival path))) ≡ Some m → Back m
  back_later path true l c m i e = let x : number_of f.body (Arrival path) ≡ m = cc in subst Back x (resumes_there path i c, number_below (Arrival path) i)
  back_later path false l c m i e = absurd (cc)

  back_point : (point : Point) → is_cps_statement (manner_from p f point) ≡ true → (m : ℕ) → option_map (number_of f.body) (arrival_from p (Some f) point) ≡ Some m → Back m
  back_point (Here path) c m e = back_later path (arrives_later (manner_at p f path)) refl c m (arrival_is_in p f (Here path)) e
  back_point (Arrival path) c m e = absurd (cc)
  back_point End c m e = absurd (cc)

  pub formed_graph : Formed g
  formed_graph = record {
    entry = number_below (begin f.body) (begin_is_in f.body);
    exit = λ n m node e h. let x = node_comes n node e in leaves_below x.0 m (leaves (node_of p f x.0) m (subst (λ k. holds_number (exits k) m ≡ true) (sym x.2) h));
    back = λ n m node e c a. let x = node_comes n node e in back_point x.0 (ap (λ k. is_cps_statement k.manner) x.2 ∙ c) m (ap (λ k. k.arrival) x.2 ∙ a);
  }

-- ---- the flow of a graph that is well formed

module _ (g : Graph) where
  exits_inside : (m n : ℕ) (o : Option Node) → slice_get g.nodes m ≡ o → holds_number (at_node [] exits o) n ≡ true → m < length g.nodes
  exits_inside m n None e h = absurd (cc)
  exits_inside m n (Some node) e h = slice_get_within g.nodes m node e

  module _ (formed : Formed g) where
    exits_target : (m n : ℕ) (o : Option Node) → slice_get g.nodes m ≡ o → holds_number (at_node [] exits o) n ≡ true → n < length g.nodes
    exits_target m n None e h = absurd (cc)
    exits_target m n (Some node) e h = formed.exit m n node e h

    target : (a : Place) (n : ℕ) → goes_to (flow_of g) a n ≡ true → n < length g.nodes
    target Start n e = let h : Some g.entry ≡ Some n = is_that n (Some g.entry) e in let k : g.entry ≡ n = cc in subst (λ j. j < length g.nodes) k formed.entry
    target (At m) n e = exits_target m n (slice_get g.nodes m) refl e

    resumes_inside : (n : ℕ) (o : Option Node) → slice_get g.nodes n ≡ o → at_node false (λ node. resumes_at node.stood node.manner) o ≡ true → n < length g.nodes
    resumes_inside n None e h = absurd (cc)
    resumes_inside n (Some node) e h = slice_get_within g.nodes n node e

    pub flow_inside : Inside (flow_of g)
    flow_inside = record { inside = λ m n e. exits_inside m n (slice_get g.nodes m) refl e; target = target; resumes = λ n e. resumes_inside n (slice_get g.nodes n) refl e }

  pub goes_from_node : (n m : ℕ) (node : Node) → slice_get g.nodes n ≡ Some node → holds_number (exits node) m ≡ true → goes_to (flow_of g) (At n) m ≡ true
  goes_from_node n m node e h = ap (λ o. holds_number (at_node [] exits o) m) e ∙ h

  pub goes_from_start : goes_to (flow_of g) Start g.entry ≡ true
  goes_from_start = that_is g.entry (Some g.entry) refl
