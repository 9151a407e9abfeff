-- Control goes along the ways of a graph just as it goes through the function.
use Rattle.std.proofs.Common.{◌≡◌, ℕ, Bool, true, false, [], slice_get, Option, Some, None, option_map, refl, sym, ◌∙◌, ap, subst}
use Rattle.cpc_tree.specs.Syntax.{Function, Program}
use Rattle.cpc_tree.specs.Points.{Path, Point, Here, Arrival, End, Found, Simple, Test, Nothing, found, begin}
use Rattle.cpc_tree.specs.Lists.{holds_number}
use Rattle.cpc_tree.specs.Registers.{scope_in_function}
use Rattle.cpc_meaning.specs.Ways.{Manner, InPlace, ByFrame, AsCps, is_cps_statement, arrives_later, only_if, manner_at, way_from, arrival_from}
use Rattle.cpc_forms.specs.Order.{is_there, is_call, is_in, number_of}
use Rattle.cpc_forms.specs.Graph.{Node, manner_from, node_of, graph_of, at_node}
use Rattle.cpc_forms.specs.Flow.{Place, Start, At, exits, goes_to}
use Rattle.cpc_forms.specs.Control as C
use Rattle.cpc_forms.proofs.Numbers.{one_node, same_point}
use Rattle.cpc_graph_laws.specs.Laws.{place_of, is_node, flow_in, WaysAreWays}
use Rattle.cpc_graph_laws.proofs.Standing.{begin_is_in, later_is_call, IsIn, way_is_in, arrival_is_in}
use Rattle.cpc_graph_laws.proofs.Graphs.{node_found}
use Rattle.cpc_graph_laws.proofs.Formed.{is_that, exits_way, exits_arrival, leaves, Leaves, ByWay, ByCall, mapped, node_comes, way_numbers, goes_from_node, goes_from_start}

-- ---- what stands

there_is : (x : Found) → ¬ (x ≡ Nothing) → is_there x ≡ true
there_is (Simple s) n = refl
there_is (Test t) n = refl
there_is Nothing n = absurd (n refl)

pub is_not_nothing : (x : Found) → is_there x ≡ true → ¬ (x ≡ Nothing)
is_not_nothing x e n = let h : false ≡ true = sym (ap is_there n) ∙ e in absurd (cc)

pub call_not_nothing : (x : Found) → is_call x ≡ true → ¬ (x ≡ Nothing)
call_not_nothing x e n = let h : false ≡ true = sym (ap is_call n) ∙ e in absurd (cc)

only_holds : {A : Type 0} (b : Bool) (o : Option A) (x : A) → only_if b o ≡ Some x → b ≡ true
only_holds true o x e = refl
only_holds false o x e = absurd (cc)

-- how what arrives later and is no cps statement is left
pub by_frame : (m : Manner) → arrives_later m ≡ true → is_cps_statement m ≡ false → m ≡ ByFrame
by_frame InPlace a c = absurd (cc)
by_frame ByFrame a c = refl
by_frame AsCps a c = absurd (cc)

pub as_cps : (m : Manner) → is_cps_statement m ≡ true → m ≡ AsCps
as_cps InPlace c = absurd (cc)
as_cps ByFrame c = absurd (cc)
as_cps AsCps c = refl

-- a place is that of one node
pub same_node : (f : Function) (a b : C.Node) → is_node f.body a ≡ true → is_node f.body b ≡ true → place_of f.body a ≡ place_of f.body b → a ≡ b
same_node f C.Entry C.Entry i j e = refl
same_node f C.Entry (C.At v) i j e = absurd (cc)
same_node f (C.At u) C.Entry i j e = absurd (cc)
same_node f (C.At u) (C.At v) i j e = let n : number_of f.body u ≡ number_of f.body v = cc in ap (λ x. C.At x) (same_point f.body u v i j n)

module _ (p : Program) (f : Function) where
  pub there_in : (path : Path) → C.IsThere f path → is_in f.body (Here path) ≡ true
  there_in path n = there_is (found f.body path) n

  pub later_in : (path : Path) → arrives_later (manner_at p f path) ≡ true → is_in f.body (Arrival path) ≡ true
  later_in path a = later_is_call p (scope_in_function f path) (found f.body path) a

  -- ---- from control to the flow

  abbrev Leads : C.Node → Point → Type 0
  Leads a b = (is_node f.body a ≡ true) × (is_in f.body b ≡ true) × (goes_to (flow_in p f) (place_of f.body a) (number_of f.body b) ≡ true)

  by_way : (u : Point) (h : Bool) (to : Point) → is_in f.body u ≡ true → way_from p (Some f) u h ≡ Some to → Leads (C.At u) to
  by_way u h to i e = (
    i,
    subst (IsIn f.body) e (way_is_in p f u h),
    goes_from_node (graph_of p f) (number_of f.body u) (number_of f.body to) (node_of p f u) (node_found p f u i)
        (exits_way (node_of p f u) h (number_of f.body to) (way_numbers p f u h ∙ ap (option_map (number_of f.body)) e)),
  )

  by_arrival : (path : Path) → is_in f.body (Here path) ≡ true → manner_at p f path ≡ ByFrame → Leads (C.At (Here path)) (Arrival path)
  by_arrival path i m = (
    i,
    later_in path (ap arrives_later m),
    goes_from_node (graph_of p f) (number_of f.body (Here path)) (number_of f.body (Arrival path)) (node_of p f (Here path)) (node_found p f (Here path) i)
        (exits_arrival (node_of p f (Here path)) (number_of f.body (Arrival path)) (ap is_cps_statement m)
        (ap (λ k. option_map (number_of f.body) (only_if (arrives_later k) (Some (Arrival path)))) m)),
  )

  pub leads : (a : C.Node) (b : Point) → C.Goes p f a b → Leads a b
  leads _ _ C.First = (refl, begin_is_in f.body, goes_from_start (graph_of p f))
  leads _ _ (C.InStep path test to n e) = by_way (Here path) test to (there_in path n) e
  leads _ _ (C.Arrives path n m) = by_arrival path (there_in path n) m
  leads _ _ (C.Arrived path test to n e) = by_way (Arrival path) test to (later_in path (only_holds (arrives_later (manner_at p f path)) _ to e)) e

  -- ---- from the flow to control

  -- a way of control from a place to a number
  pub data Led (a : Place) (n : ℕ) : Type 0 where
    IsLed : (from : C.Node) (to : Point) → is_node f.body from ≡ true → is_in f.body to ≡ true → place_of f.body from ≡ a → number_of f.body to ≡ n → C.Goes p f from to → Led a n

  led_way : (u : Point) (h : Bool) (to : Point) → is_in f.body u ≡ true → way_from p (Some f) u h ≡ Some to → C.Goes p f (C.At u) to
  led_way (Here path) h to i e = C.InStep path h to (is_not_nothing (found f.body path) i) e
  led_way (Arrival path) h to i e = C.Arrived path h to (call_not_nothing (found f.body path) i) e
  led_way End h to i e = absurd (cc)

  led_later : (path : Path) (later : Bool) → arrives_later (manner_at p f path) ≡ later → is_in f.body (Here path) ≡ true → is_cps_statement (manner_at p f path) ≡ false → (to : Point)
      → only_if later (Some (Arrival path)) ≡ Some to → C.Goes p f (C.At (Here path)) to
  led_later path true a i c to e =
      let x : Arrival path ≡ to = cc in
      subst (λ y. C.Goes p f (C.At (Here path)) y) x (C.Arrives path (is_not_nothing (found f.body path) i) (by_frame (manner_at p f path) a c))
  led_later path false a i c to e = absurd (cc)

  led_arrival : (u : Point) (to : Point) → is_in f.body u ≡ true → is_cps_statement (manner_from p f u) ≡ false → arrival_from p (Some f) u ≡ Some to → C.Goes p f (C.At u) to
  led_arrival (Here path) to i c e = led_later path (arrives_later (manner_at p f path)) refl i c to e
  led_arrival (Arrival path) to i c e = absurd (cc)
  led_arrival End to i c e = absurd (cc)

  led_point : (u : Point) (n : ℕ) → is_in f.body u ≡ true → Leaves (node_of p f u) n → Led (At (number_of f.body u)) n
  led_point u n i (ByWay h e) =
      let x = mapped (number_of f.body) (way_from p (Some f) u h) n (sym (way_numbers p f u h) ∙ e) in
      IsLed (C.At u) x.0 i (subst (IsIn f.body) x.1 (way_is_in p f u h)) refl x.2 (led_way u h x.0 i x.1)
  led_point u n i (ByCall c e) =
      let x = mapped (number_of f.body) (arrival_from p (Some f) u) n e in
      IsLed (C.At u) x.0 i (subst (IsIn f.body) x.1 (arrival_is_in p f u)) refl x.2 (led_arrival u x.0 i c x.1)

  led_node : (m n : ℕ) (o : Option Node) → slice_get (graph_of p f).nodes m ≡ o → holds_number (at_node [] exits o) n ≡ true → Led (At m) n
  led_node m n None e h = absurd (cc)
  led_node m n (Some node) e h =
      let x = node_comes p f m node e in
      let y = one_node f.body m x.0 x.1 in
      subst (λ k. Led (At k) n) y.1 (led_point x.0 n y.0 (leaves (node_of p f x.0) n (subst (λ k. holds_number (exits k) n ≡ true) (sym x.2) h)))

  pub led : (a : Place) (n : ℕ) → goes_to (flow_in p f) a n ≡ true → Led a n
  led Start n e =
      let h : Some (number_of f.body (begin f.body)) ≡ Some n = is_that n (Some (number_of f.body (begin f.body))) e in
      let k : number_of f.body (begin f.body) ≡ n = cc in
      IsLed C.Entry (begin f.body) refl (begin_is_in f.body) refl k C.First
  led (At m) n e = led_node m n (slice_get (graph_of p f).nodes m) refl e

  led_goes : (a : C.Node) (b : Point) (x : Place) (n : ℕ) → is_node f.body a ≡ true → is_in f.body b ≡ true → place_of f.body a ≡ x → number_of f.body b ≡ n → Led x n → C.Goes p f a b
  led_goes a b x n i j ex en (IsLed from to k l fx tn goes) =
      let same : from ≡ a = same_node f from a k i (fx ∙ sym ex) in
      let also : to ≡ b = same_point f.body to b l j (tn ∙ sym en) in
      subst (λ z. C.Goes p f z b) same (subst (C.Goes p f from) also goes)

  pub goes_back : (a : C.Node) (b : Point) → is_node f.body a ≡ true → is_in f.body b ≡ true → goes_to (flow_in p f) (place_of f.body a) (number_of f.body b) ≡ true → C.Goes p f a b
  goes_back a b i j e = led_goes a b _ _ i j refl refl (led (place_of f.body a) (number_of f.body b) e)

pub ways_are_ways : WaysAreWays
ways_are_ways p f a b i j = (goes_back p f a b i j, λ g. (leads p f a b g).2)
