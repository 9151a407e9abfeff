-- Where pieces begin: at a leader, or at a first node of the start's own; and that these have rows.
use Rattle.std.proofs.Common.{◌≡◌, ℕ, ◌<◌, true, false, not, ◌||◌, length, slice_get, Option, Some, None, refl, sym, ◌∙◌, ap, subst, arith}
use Rattle.std.proofs.lemmas.Option.{slice_get_within}
use Rattle.cpc_base.proofs.Truth.{eq_means}
use Rattle.cpc_base.proofs.Lists.{found_within}
use Rattle.cpc_tree.specs.Points.{Path, Point, Here, Arrival, End, begin}
use Rattle.cpc_tree.specs.Syntax.{Function, Program}
use Rattle.cpc_meaning.specs.Ways.{Manner, InPlace, ByFrame, AsCps, is_cps_statement, manner_at}
use Rattle.cpc_convert_common.specs.Members.{Has}
use Rattle.cpc_forms.specs.Flow.{Place, Start, At, Flow, resumes_at, goes_to, sources, two_or_more, is_leader, owner_of, owner_by}
use Rattle.cpc_forms.specs.Graph.{Node, node_of, graph_of, at_node}
use Rattle.cpc_forms.specs.Order.{is_in, number_of}
use Rattle.cpc_forms.specs.Pieces.{is_owned_by}
use Rattle.cpc_forms.proofs.Numbers.{one_node}
use Rattle.cpc_forms.proofs.Owners.{owners_long}
use Rattle.cpc_graph_laws.specs.Laws.{flow_in}
use Rattle.cpc_graph_laws.proofs.Controls.{led}
use Rattle.cpc_graph_laws.proofs.Facts.{led_arrival}
use Rattle.cpc_graph_laws.proofs.Formed.{node_comes}
use Rattle.cpc_graph_laws.proofs.Graphs.{node_found}
use Rattle.cpc_graph_laws.proofs.Leaders.{inside, two_sources}
use Rattle.cpc_graph_laws.proofs.Marked.{leaders_are_listed}
use Rattle.cpc_graph_laws.proofs.MoreFacts.{entries_are_first, owners_lead}
use Rattle.cpc_graph_laws.proofs.Splits.{owner_there}
use Rattle.cpc_graph_laws.proofs.Standing.{begin_is_in}
use Rattle.cpc_convert_routines.specs.Named.{ALeader}
use Rattle.cpc_convert_routines.specs.Routines.{Routine, routine_of}
use Rattle.cpc_chains_event.specs.Rows.{owner_at}
use Rattle.cpc_convert_routines.specs.Nodes.{is_own, stands_with, has_row}
use Rattle.cpc_chains_event.proofs.Boxing.{held_has}
use Rattle.cpc_chains_laws.specs.Piece.Stood.{NodeAt}
use Rattle.cpc_chains_laws.specs.Entry.Laws.{LeadersHaveRows}

owned_is : (n : ℕ) (o : Option (Option Place)) → is_owned_by (At n) (owner_at o) ≡ true → o ≡ Some (Some (At n))
owned_is n None h = absurd (cc)
owned_is n (Some None) h = absurd (cc)
owned_is n (Some (Some Start)) h = absurd (cc)
owned_is n (Some (Some (At m))) h = ap (λ k. Some (Some (At k))) (eq_means m n h)

module _ (p : Program) (f : Function) where
  abbrev r : Routine
  r = routine_of p f

  abbrev flow : Flow
  flow = flow_in p f

  -- ---- rows

  plain_row : (path : Path) (m : Manner) → manner_at p f path ≡ m → ((m ≡ ByFrame) → ⊥) → not (stands_with (node_of p f (Arrival path)).stood (node_of p f (Arrival path)).manner) ≡ true
  plain_row path InPlace e h = ap (λ m. not (stands_with (node_of p f (Arrival path)).stood m)) e
  plain_row path ByFrame e h = absurd (h refl)
  plain_row path AsCps e h = ap (λ m. not (stands_with (node_of p f (Arrival path)).stood m)) e

  -- a leader is no arrival to which control goes from its call alone
  no_call : (path : Path) (n : ℕ) → slice_get (graph_of p f).nodes n ≡ Some (node_of p f (Arrival path)) → is_leader flow n ≡ true → ((a : Place) → goes_to flow a n ≡ true → a ≡ At (number_of f.body (Here path))) → manner_at p f path ≡ ByFrame → ⊥
  no_call path n e leads alone frame =
      let none : flow.resumes n ≡ false = ap (at_node false (λ node. resumes_at node.stood node.manner)) e ∙ ap is_cps_statement frame in
      let two : two_or_more (sources flow n) ≡ true = sym (ap (λ b. b || two_or_more (sources flow n)) none) ∙ leads in
      let t = two_sources flow n two in
      absurd (t.apart (alone t.one t.from_one ∙ sym (alone t.other t.from_other)))

  row_at : (point : Point) (n : ℕ) → slice_get (graph_of p f).nodes n ≡ Some (node_of p f point) → is_leader flow n ≡ true
      → ((path : Path) → point ≡ Arrival path → (a : Place) → goes_to flow a n ≡ true → a ≡ At (number_of f.body (Here path))) → not (stands_with (node_of p f point).stood (node_of p f point).manner) ≡ true
  row_at (Here path) n e leads alone = refl
  row_at (Arrival path) n e leads alone = plain_row path (manner_at p f path) refl (λ frame. no_call path n e leads (alone path refl) frame)
  row_at End n e leads alone = refl

  leader_row : (n : ℕ) (node : Node) → slice_get (graph_of p f).nodes n ≡ Some node → is_leader flow n ≡ true → has_row r.split n ≡ true
  leader_row n node e leads =
      let from = node_comes p f n node e in
      let one = one_node f.body n from.0 from.1 in
      let there : slice_get (graph_of p f).nodes n ≡ Some (node_of p f from.0) = e ∙ ap (λ k. Some k) (sym from.2) in
      ap (at_node true (λ k. not (stands_with k.stood k.manner))) there
      ∙ row_at from.0 n there leads (λ path i a g. (led_arrival p f a path n (subst (λ x. is_in f.body x ≡ true) i one.0) (ap (number_of f.body) (sym i) ∙ one.1) (led p f a n g)).0)

  -- ---- leaders

  -- a node that owns itself, which is a leader
  pub record LeaderAt (n : ℕ) : Type 0 where
    pub leads : Has n r.split.leaders
    pub node : NodeAt p f (At n) n
    pub has : has_row r.split n ≡ true

  pub leader_at : (n : ℕ) → is_own r.split (At n) n ≡ true → LeaderAt n
  leader_at n h =
      let owned = owned_is n (slice_get r.split.owners n) h in
      let within = slice_get_within r.split.owners n (Some (At n)) owned in
      let number = owners_long flow 0 (length (graph_of p f).nodes) in
      let node = found_within (graph_of p f).nodes n (let z : n < length (graph_of p f).nodes = omega (arith, within, number) in z) in
      let owns : Some (owner_of flow n) ≡ Some (Some (At n)) = sym (owner_there (graph_of p f) n node.0 node.1) ∙ owned in
      let is : owner_of flow n ≡ Some (At n) = cc in
      let led : is_leader flow n ≡ true = (owners_lead p f).0 n (At n) is in
      let has = held_has r.split.leaders n (leaders_are_listed flow (inside p f) n ∙ led) in
      record { leads = has; node = record { owner = ALeader n has; keeps = refl; owned = owned; node = node.0; is_node = node.1 }; has = leader_row n node.0 node.1 led }

  -- ---- the start

  abbrev pub entry : ℕ
  entry = (graph_of p f).entry

  -- the first node, with its owner
  pub record EntryAt (l : Place) : Type 0 where
    pub node : Node
    pub is_node : slice_get (graph_of p f).nodes entry ≡ Some node
    pub owned : slice_get r.split.owners entry ≡ Some (Some l)

  pub entry_at : EntryAt (owner_by (is_leader flow entry) Start entry)
  entry_at =
      let first = entries_are_first p f in
      let node = found_within (graph_of p f).nodes entry (let e = first.0 in let h = first.1 in let z : entry < length (graph_of p f).nodes = omega (arith, e, h) in z) in
      let own : owner_of flow entry ≡ Some (owner_by (is_leader flow entry) Start entry) = subst (λ n. owner_of flow n ≡ Some (owner_by (is_leader flow n) Start n)) (sym first.0) first.3 in
      record { node = node.0; is_node = node.1; owned = owner_there (graph_of p f) entry node.0 node.1 ∙ ap (λ o. Some o) own }

  pub entry_row : has_row r.split entry ≡ true
  entry_row = ap (at_node true (λ k. not (stands_with k.stood k.manner))) (node_found p f (begin f.body) (begin_is_in f.body))

pub leaders_have_rows : LeadersHaveRows
leaders_have_rows p f n h = (leader_at p f n h).has
