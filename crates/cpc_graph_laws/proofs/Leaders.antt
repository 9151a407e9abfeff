-- The leaders that are computed are those of control.
use Rattle.std.proofs.Common.{◌≡◌, ℕ, zero, suc, ◌<◌, ◌⊎◌, inl, inr, Bool, true, false, List, [], ◌∷◌, map, length, refl, sym, ◌∙◌, ap, subst, arith}
use Rattle.cpc_base.proofs.Truth.{or_either}
use Rattle.cpc_tree.specs.Syntax.{Function, Program}
use Rattle.cpc_tree.specs.Points.{Point, Here, Arrival, End, found}
use Rattle.cpc_meaning.specs.Ways.{is_cps_statement, arrives_later, manner_at}
use Rattle.cpc_forms.specs.Order.{is_in, number_of}
use Rattle.cpc_forms.specs.Graph.{node_of, graph_of, at_node}
use Rattle.cpc_forms.specs.Flow.{Place, Start, At, Flow, Inside, resumes_at, goes_to, below, kept_if, coming, sources, two_or_more, is_leader}
use Rattle.cpc_forms.specs.Control as C
use Rattle.cpc_forms.proofs.Numbers.{same_point}
use Rattle.cpc_graph_laws.specs.Laws.{place_of, flow_in, LeadersAreLeaders}
use Rattle.cpc_graph_laws.proofs.Graphs.{node_found}
use Rattle.cpc_graph_laws.proofs.Formed.{formed_graph, flow_inside, resumes_there}
use Rattle.cpc_graph_laws.proofs.Owners.{one_source}
use Rattle.cpc_graph_laws.proofs.Splits.{resumes_leader}
use Rattle.cpc_graph_laws.proofs.Controls.{as_cps, same_node, later_in, call_not_nothing, leads, Led, IsLed, led}

-- ---- two sources

-- control goes to a node from two places
pub record TwoSources (flow : Flow) (n : ℕ) : Type 0 where
  pub one : Place
  pub other : Place
  pub from_one : goes_to flow one n ≡ true
  pub from_other : goes_to flow other n ≡ true
  pub apart : ¬ (one ≡ other)

-- a source among the nodes below k
pub record Below (flow : Flow) (n k : ℕ) : Type 0 where
  pub node : ℕ
  pub less : node < k
  pub goes : goes_to flow (At node) n ≡ true

node_number : (i j : ℕ) → At i ≡ At j → i ≡ j
node_number i j e = cc

module _ (flow : Flow) (n : ℕ) where
  abbrev coming_below : ℕ → List Place
  coming_below k = coming flow n (map (λ m. At m) (below k))

  head_case : (k : ℕ) (b : Bool) (rest : List Place) (q : Place) (qs : List Place) → goes_to flow (At k) n ≡ b → kept_if b (At k) rest ≡ q ∷ qs → (rest ≡ q ∷ qs → Below flow n k) → Below flow n (suc k)
  head_case k true rest q qs g e h = record { node = k; less = omega arith; goes = g }
  head_case k false rest q qs g e h = let x = h e in record { node = x.node; less = let l = x.less in omega arith; goes = x.goes }

  first_below : (k : ℕ) (q : Place) (qs : List Place) → coming_below k ≡ q ∷ qs → Below flow n k
  first_below zero q qs e = absurd (cc)
  first_below (suc k) q qs e = head_case k (goes_to flow (At k) n) (coming_below k) q qs refl e (first_below k q qs)

  some_below : (k : ℕ) (rest : List Place) → coming_below k ≡ rest → (a : Place) → two_or_more (a ∷ rest) ≡ true → Below flow n k
  some_below k [] e a t = absurd (cc)
  some_below k (q ∷ qs) e a t = first_below k q qs e

  two_case : (k : ℕ) (b : Bool) → goes_to flow (At k) n ≡ b → two_or_more (kept_if b (At k) (coming_below k)) ≡ true → (two_or_more (coming_below k) ≡ true → TwoSources flow n) → TwoSources flow n
  two_case k true g t h =
      let x = some_below k (coming_below k) refl (At k) t in
      record { one = At k; other = At x.node; from_one = g; from_other = x.goes; apart = λ e. let i : k ≡ x.node = node_number k x.node e in let l = x.less in absurd (omega arith) }
  two_case k false g t h = h t

  two_below : (k : ℕ) → two_or_more (coming_below k) ≡ true → TwoSources flow n
  two_below zero t = absurd (cc)
  two_below (suc k) t = two_case k (goes_to flow (At k) n) refl t (two_below k)

  start_case : (b : Bool) → goes_to flow Start n ≡ b → two_or_more (kept_if b Start (coming_below flow.size)) ≡ true → TwoSources flow n
  start_case true g t =
      let x = some_below flow.size (coming_below flow.size) refl Start t in
      record { one = Start; other = At x.node; from_one = g; from_other = x.goes; apart = λ e. absurd (cc) }
  start_case false g t = two_below flow.size t

  -- where there are two sources or more, two are apart
  pub two_sources : two_or_more (sources flow n) ≡ true → TwoSources flow n
  two_sources t = start_case (goes_to flow Start n) refl t

-- ---- leaders

module _ (p : Program) (f : Function) where
  pub inside : Inside (flow_in p f)
  inside = flow_inside (graph_of p f) (formed_graph p f)

  -- a node at which control resumes is the arrival of a cps statement
  at_resume : (point : Point) → is_in f.body point ≡ true → resumes_at (node_of p f point).stood (node_of p f point).manner ≡ true → C.IsLeader p f point
  at_resume (Here path) i e = absurd (cc)
  at_resume (Arrival path) i e = C.AfterWait path (call_not_nothing (found f.body path) i) (as_cps (manner_at p f path) e)
  at_resume End i e = absurd (cc)

  resume_leads : (point : Point) → is_in f.body point ≡ true → (flow_in p f).resumes (number_of f.body point) ≡ true → C.IsLeader p f point
  resume_leads point i e = at_resume point i (sym (ap (at_node false (λ node. resumes_at node.stood node.manner)) (node_found p f point i)) ∙ e)

  joined_by : (point : Point) → is_in f.body point ≡ true → (a b : Place) (n : ℕ) → ¬ (a ≡ b) → number_of f.body point ≡ n → Led p f a n → Led p f b n → C.IsLeader p f point
  joined_by point i a b n apart e (IsLed from to fi ti fx tn goes) (IsLed from' to' fi' ti' fx' tn' goes') =
      C.Joined from from' point
      (subst (C.Goes p f from) (same_point f.body to point ti i (tn ∙ sym e)) goes)
      (subst (C.Goes p f from') (same_point f.body to' point ti' i (tn' ∙ sym e)) goes')
      (λ same. apart (sym fx ∙ ap (place_of f.body) same ∙ fx'))

  joined_leads : (point : Point) → is_in f.body point ≡ true → TwoSources (flow_in p f) (number_of f.body point) → C.IsLeader p f point
  joined_leads point i t = joined_by point i t.one t.other _ t.apart refl (led p f t.one _ t.from_one) (led p f t.other _ t.from_other)

  pub leader_is : (point : Point) → is_in f.body point ≡ true → is_leader (flow_in p f) (number_of f.body point) ≡ true → C.IsLeader p f point
  leader_is point i e = go (or_either ((flow_in p f).resumes (number_of f.body point)) _ e)
    where
      go : ((flow_in p f).resumes (number_of f.body point) ≡ true) ⊎ (two_or_more (sources (flow_in p f) (number_of f.body point)) ≡ true) → C.IsLeader p f point
      go (inl r) = resume_leads point i r
      go (inr t) = joined_leads point i (two_sources (flow_in p f) (number_of f.body point) t)

  -- something stands at a leader
  pub leader_in : (point : Point) → C.IsLeader p f point → is_in f.body point ≡ true
  leader_in _ (C.AfterWait path there cps) = later_in p f path (ap arrives_later cps)
  leader_in _ (C.Joined a b to g h apart) = (leads p f a to g).1

  two_lead : (a b : C.Node) (to : Point) → C.Goes p f a to → C.Goes p f b to → ¬ (a ≡ b) → (x : Bool) → is_leader (flow_in p f) (number_of f.body to) ≡ x → x ≡ true
  two_lead a b to g h apart true e = refl
  two_lead a b to g h apart false e =
      let u = leads p f a to g in
      let v = leads p f b to h in
      absurd (apart (same_node f a b u.0 v.0 (one_source (flow_in p f) inside (place_of f.body a) (place_of f.body b) (number_of f.body to) e u.2 v.2)))

  pub is_leading : (point : Point) → C.IsLeader p f point → is_leader (flow_in p f) (number_of f.body point) ≡ true
  is_leading _ (C.AfterWait path there cps) =
      resumes_leader (flow_in p f) inside (number_of f.body (Arrival path)) (resumes_there p f path (later_in p f path (ap arrives_later cps)) (ap is_cps_statement cps))
  is_leading _ (C.Joined a b to g h apart) = two_lead a b to g h apart (is_leader (flow_in p f) (number_of f.body to)) refl

-- a leader is a node
pub leader_below : (flow : Flow) → Inside flow → (n : ℕ) → is_leader flow n ≡ true → n < flow.size
leader_below flow within n e = go (or_either (flow.resumes n) _ e)
  where
    go : (flow.resumes n ≡ true) ⊎ (two_or_more (sources flow n) ≡ true) → n < flow.size
    go (inl r) = within.resumes n r
    go (inr t) = let x = two_sources flow n t in within.target x.one n x.from_one

pub leader_place : (p : Program) (f : Function) (n : ℕ) → is_leader (flow_in p f) n ≡ true → n < length (graph_of p f).nodes
leader_place p f n e = leader_below (flow_in p f) (inside p f) n e

pub leaders_are_leaders : LeadersAreLeaders
leaders_are_leaders p f point i = (leader_is p f point i, is_leading p f point)
