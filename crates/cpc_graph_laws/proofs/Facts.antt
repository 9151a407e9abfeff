-- What later passes ask of graphs: of arrivals, of cps statements, of ways from what is owned, of the entry, and of owners.
use Rattle.std.proofs.Common.{◌≡◌, ℕ, ◌||◌, Bool, true, false, slice_get, Option, Some, None, refl, sym, ◌∙◌, ap, subst}
use Rattle.cpc_tree.specs.Syntax.{Function, Program}
use Rattle.cpc_tree.specs.Points.{Path, Point, Here, Arrival, End, found}
use Rattle.cpc_tree.specs.Registers.{scope_in_function}
use Rattle.cpc_meaning.specs.Ways.{ByFrame, is_cps_statement, arrives_later, only_if, manner_at, way_from, arrival_from}
use Rattle.cpc_forms.specs.Order.{is_in, number_of}
use Rattle.cpc_forms.specs.Graph.{Node, manner_from, node_of, graph_of, way, at_node}
use Rattle.cpc_forms.specs.Flow.{Place, At, Flow, resumes_at, goes_to, sources, two_or_more, is_leader, is_owner, Owns, Itself, Onwards, owner_of, owner_by}
use Rattle.cpc_forms.specs.Control as C
use Rattle.cpc_forms.proofs.Numbers.{one_node, same_point}
use Rattle.cpc_graph_laws.specs.Laws.{place_of, flow_in}
use Rattle.cpc_graph_laws.proofs.Standing.{IsNoArrival, way_no_arrival, later_is_call}
use Rattle.cpc_graph_laws.proofs.Graphs.{node_found}
use Rattle.cpc_graph_laws.proofs.Owners.{owner_found, owner_owns}
use Rattle.cpc_graph_laws.proofs.Formed.{mapped, node_comes, exits_arrival, goes_from_node}
use Rattle.cpc_graph_laws.proofs.Splits.{owner_next}
use Rattle.cpc_graph_laws.proofs.Controls.{Led, IsLed, led}
use Rattle.cpc_graph_laws.proofs.Leaders.{inside, two_sources}

only_one_way : (n : ℕ) → ¬ (Some n ≡ None)
only_one_way n e = absurd (cc)

module _ (p : Program) (f : Function) where
  abbrev flow : Flow
  flow = flow_in p f

  -- ---- arrivals

  no_way_to : (u : Point) (h : Bool) (path : Path) → way_from p (Some f) u h ≡ Some (Arrival path) → ⊥
  no_way_to u h path e = subst IsNoArrival e (way_no_arrival p f u h)

  -- to an arrival control goes from its call alone
  call_alone : (a : C.Node) (to : Point) (path : Path) → to ≡ Arrival path → C.Goes p f a to → (a ≡ C.At (Here path)) × (manner_at p f path ≡ ByFrame)
  call_alone _ _ path e C.First = absurd (cc)
  call_alone _ _ path e (C.InStep from h to there way) = absurd (no_way_to (Here from) h path (way ∙ ap (λ x. Some x) e))
  call_alone _ _ path e (C.Arrives from there m) = let i : from ≡ path = cc in (ap (λ x. C.At (Here x)) i, subst (λ x. manner_at p f x ≡ ByFrame) i m)
  call_alone _ _ path e (C.Arrived from h to there way) = absurd (no_way_to (Arrival from) h path (way ∙ ap (λ x. Some x) e))

  -- the arrival of what stands at a point
  abbrev TheArrival : Point → Point → Type 0
  TheArrival u to = (path : Path) × (u ≡ Here path) × (to ≡ Arrival path) × (is_in f.body to ≡ true)

  later_case : (path : Path) (later : Bool) → arrives_later (manner_at p f path) ≡ later → (to : Point) → only_if later (Some (Arrival path)) ≡ Some to → TheArrival (Here path) to
  later_case path true a to e = let i : Arrival path ≡ to = cc in (path, refl, sym i, subst (λ x. is_in f.body x ≡ true) i (later_is_call p (scope_in_function f path) (found f.body path) a))
  later_case path false a to e = absurd (cc)

  the_arrival : (u to : Point) → arrival_from p (Some f) u ≡ Some to → TheArrival u to
  the_arrival (Here path) to e = later_case path (arrives_later (manner_at p f path)) refl to e
  the_arrival (Arrival path) to e = absurd (cc)
  the_arrival End to e = absurd (cc)

  -- control goes to the number of an arrival from its call alone
  pub led_arrival : (a : Place) (path : Path) (m : ℕ) → is_in f.body (Arrival path) ≡ true → number_of f.body (Arrival path) ≡ m → Led p f a m → (a ≡ At (number_of f.body (Here path))) × (manner_at p f path ≡ ByFrame)
  led_arrival a path m i e (IsLed from to fi ti fx tn goes) =
      let x = call_alone from to path (same_point f.body to (Arrival path) ti i (tn ∙ sym e)) goes in
      (sym fx ∙ ap (place_of f.body) x.0, x.1)

  -- ---- calls that are left over a frame

  no_resume : (u : Point) → is_in f.body u ≡ true → is_cps_statement (manner_from p f u) ≡ false → flow.resumes (number_of f.body u) ≡ false
  no_resume u i c = ap (at_node false (λ node. resumes_at node.stood node.manner)) (node_found p f u i) ∙ go u c
    where
      go : (x : Point) → is_cps_statement (manner_from p f x) ≡ false → resumes_at (node_of p f x).stood (node_of p f x).manner ≡ false
      go (Here path) e = refl
      go (Arrival path) e = e
      go End e = refl

  not_two : (m n : ℕ) → ((a : Place) → goes_to flow a m ≡ true → a ≡ At n) → (b : Bool) → two_or_more (sources flow m) ≡ b → b ≡ false
  not_two m n alone true e = let t = two_sources flow m e in absurd (t.apart (alone t.one t.from_one ∙ sym (alone t.other t.from_other)))
  not_two m n alone false e = refl

  -- what is come to from one node alone has its owner
  one_owner : (m n : ℕ) → ((a : Place) → goes_to flow a m ≡ true → a ≡ At n) → goes_to flow (At n) m ≡ true → is_leader flow m ≡ false → owner_of flow m ≡ owner_of flow n
  one_owner m n alone g unled = go (owner_of flow n) (owner_of flow m) refl refl
    where
      back : (l x : Place) (d : ℕ) → Owns flow l d x → x ≡ At m → owner_of flow n ≡ Some l
      back l _ _ (Itself own) e = let h : is_leader flow m ≡ true = subst (λ y. is_owner flow y ≡ true) e own in let z : false ≡ true = sym unled ∙ h in absurd (cc)
      back l _ _ (Onwards d a k h w nl) e =
          let i : k ≡ m = cc in
          let j : a ≡ At n = alone a (subst (λ y. goes_to flow a y ≡ true) i w) in
          owner_found flow (inside p f) l d n (subst (Owns flow l d) j h)

      go : (u w : Option Place) → owner_of flow n ≡ u → owner_of flow m ≡ w → owner_of flow m ≡ owner_of flow n
      go (Some l) w e i =
          let h = owner_owns flow l n e in
          owner_next flow (inside p f) l h.0 (At n) m h.1 g ∙ ap (λ b. Some (owner_by b l m)) unled ∙ sym e
      go None (Some l) e i = let h = owner_owns flow l m i in let x = back l (At m) h.0 h.1 refl in let z : Some l ≡ None = sym x ∙ e in absurd (cc)
      go None None e i = i ∙ sym e

  call_point : (n m : ℕ) (u to : Point) → TheArrival u to → number_of f.body u ≡ n → number_of f.body to ≡ m → manner_from p f u ≡ ByFrame → goes_to flow (At n) m ≡ true
      → ((a : Place) → goes_to flow a m ≡ true → a ≡ At n) × (is_leader flow m ≡ false) × (owner_of flow m ≡ owner_of flow n)
  call_point n m u to (path, eu, et, i) nu nt frame g =
      let ia : is_in f.body (Arrival path) ≡ true = subst (λ x. is_in f.body x ≡ true) et i in
      let na : number_of f.body (Arrival path) ≡ m = ap (number_of f.body) (sym et) ∙ nt in
      let nh : number_of f.body (Here path) ≡ n = ap (number_of f.body) (sym eu) ∙ nu in
      let manner : manner_at p f path ≡ ByFrame = ap (manner_from p f) (sym eu) ∙ frame in
      let alone : (a : Place) → goes_to flow a m ≡ true → a ≡ At n = λ a w. (led_arrival a path m ia na (led p f a m w)).0 ∙ ap (λ k. At k) nh in
      let unled : is_leader flow m ≡ false = ap (λ b. b || two_or_more (sources flow m)) (ap flow.resumes (sym na) ∙ no_resume (Arrival path) ia (ap is_cps_statement manner)) ∙ not_two m n alone (two_or_more (sources flow m)) refl in
      (alone, unled, one_owner m n alone g unled)

  pub arrival_stays : (n m : ℕ) (node : Node) → slice_get (graph_of p f).nodes n ≡ Some node → node.manner ≡ ByFrame → node.arrival ≡ Some m
      → ((a : Place) → goes_to flow a m ≡ true → a ≡ At n) × (is_leader flow m ≡ false) × (owner_of flow m ≡ owner_of flow n)
  arrival_stays n m node e frame a =
      let x = node_comes p f n node e in
      let y = one_node f.body n x.0 x.1 in
      let z = mapped (number_of f.body) (arrival_from p (Some f) x.0) m (ap (λ k. k.arrival) x.2 ∙ a) in
      call_point n m x.0 z.0 (the_arrival x.0 z.0 z.1) y.1 z.2 (ap (λ k. k.manner) x.2 ∙ frame)
      (goes_from_node (graph_of p f) n m node e (exits_arrival node m (ap is_cps_statement frame) a))
