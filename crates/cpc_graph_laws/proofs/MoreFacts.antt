-- What later passes ask of graphs: of cps statements, of ways from what is owned, of the entry, and of owners.
use Rattle.std.proofs.Common.{◌≡◌, ℕ, ◌<◌, Bool, true, false, List, [], ◌∷◌, ◌++◌, length, Option, Some, None, option_map, refl, sym, ◌∙◌, ap, subst}
use Rattle.cpc_tree.specs.Syntax.{Stmt, Block, If, While, DoWhile, For, Label, NoStmt, AndStmt, Function, Program}
use Rattle.cpc_tree.specs.Points.{Path, Point, Here, Arrival, End, Found, Simple, Test, Nothing, found, enter, begin, next_point}
use Rattle.cpc_meaning.specs.Act.{AtStatement}
use Rattle.cpc_meaning.specs.Ways.{Manner, InPlace, ByFrame, AsCps, is_cps_statement, goes_in_step, arrives_later, only_if, manner_of, manner_at, way_from}
use Rattle.cpc_forms.specs.Order.{number, number_of}
use Rattle.cpc_forms.specs.Graph.{Node, manner_from, node_of, graph_of}
use Rattle.cpc_forms.specs.Flow.{Place, Start, At, Flow, as_list, by_arrival, exits, goes_to, places, sources, is_leader, is_owner, Owns, Itself, Onwards, owner_of}
use Rattle.cpc_graph_laws.specs.Laws.{flow_in, ArrivalsStay, CpsStatementsWait, WaysStayOrLead, EntriesAreFirst, OwnersLead}
use Rattle.cpc_graph_laws.proofs.Standing.{begin_is_in}
use Rattle.cpc_graph_laws.proofs.Owners.{coming_leads, owner_found, owner_owns}
use Rattle.cpc_graph_laws.proofs.Formed.{is_that, formed_graph, node_comes, number_below, resumes_there, goes_from_start}
use Rattle.cpc_graph_laws.proofs.Splits.{owner_next, owner_back, resumes_leader, exit_owner}
use Rattle.cpc_graph_laws.proofs.Controls.{led, later_in}
use Rattle.cpc_graph_laws.proofs.Leaders.{inside, leader_place}
use Rattle.cpc_graph_laws.proofs.Facts.{led_arrival, arrival_stays}

pub arrivals_stay : ArrivalsStay
arrivals_stay p f n m node e frame a = arrival_stays p f n m node e frame a

-- ---- cps statements

module _ (p : Program) (f : Function) where
  abbrev flow : Flow
  flow = flow_in p f

  cps_stops : (x : Found) (h : Bool) (m : Manner) → m ≡ AsCps → (¬ (x ≡ Test None)) → {A : Type 0} → (o : Option A) → only_if (goes_in_step m x h) o ≡ None
  cps_stops (Simple s) h m e n o = ap (λ k. only_if (goes_in_step k (Simple s) h) o) e
  cps_stops (Test None) h m e n o = absurd (n refl)
  cps_stops (Test (Some t)) h m e n o = ap (λ k. only_if (goes_in_step k (Test (Some t)) h) o) e
  cps_stops Nothing h m e n o = ap (λ k. only_if (goes_in_step k Nothing h) o) e

  no_test : (path : Path) → manner_at p f path ≡ AsCps → ¬ (found f.body path ≡ Test None)
  no_test path e t = let h : InPlace ≡ AsCps = sym (ap (manner_of p _) t) ∙ e in absurd (cc)

  cps_way : (path : Path) (h : Bool) → manner_at p f path ≡ AsCps → way_from p (Some f) (Here path) h ≡ None
  cps_way path h e = cps_stops (found f.body path) h (manner_at p f path) e (no_test path e) (next_point f.body (Here path) h)

  cps_exits : (path : Path) → manner_at p f path ≡ AsCps → exits (node_of p f (Here path)) ≡ []
  cps_exits path e =
      ap (λ o. as_list (option_map (number_of f.body) o) ++ (as_list (node_of p f (Here path)).no ++ by_arrival (manner_at p f path) (node_of p f (Here path)).arrival)) (cps_way path true e)
      ∙ ap (λ o. as_list (option_map (number_of f.body) o) ++ by_arrival (manner_at p f path) (node_of p f (Here path)).arrival) (cps_way path false e)
      ∙ ap (λ m. by_arrival m (node_of p f (Here path)).arrival) e

  no_sources : (m : ℕ) → ((a : Place) → goes_to flow a m ≡ true → ⊥) → (found : List Place) → sources flow m ≡ found → found ≡ []
  no_sources m none [] e = refl
  no_sources m none (a ∷ rest) e = absurd (none a (coming_leads flow m (places flow) a rest e))

  abbrev Waits : Node → Type 0
  Waits node =
      (node.yes ≡ None) × (node.no ≡ None) × (exits node ≡ [])
      × ((m : ℕ) × (node.arrival ≡ Some m) × (sources flow m ≡ []) × (is_leader flow m ≡ true) × (owner_of flow m ≡ Some (At m)))

  not_both : (m : Manner) → m ≡ AsCps → m ≡ ByFrame → ⊥
  not_both m e g = let h : AsCps ≡ ByFrame = sym e ∙ g in absurd (cc)

  waits_at : (path : Path) → manner_at p f path ≡ AsCps → Waits (node_of p f (Here path))
  waits_at path e =
      let i = later_in p f path (ap arrives_later e) in
      let r = resumes_there p f path i (ap is_cps_statement e) in
      let m = number_of f.body (Arrival path) in (
        ap (option_map (number_of f.body)) (cps_way path true e),
        ap (option_map (number_of f.body)) (cps_way path false e),
        cps_exits path e,
        (
          m,
          ap (λ k. option_map (number_of f.body) (only_if (arrives_later k) (Some (Arrival path)))) e,
          no_sources m (λ a g. not_both (manner_at p f path) e (led_arrival p f a path m i refl (led p f a m g)).1) (sources flow m) refl,
          resumes_leader flow (inside p f) m r,
          owner_back flow (inside p f) m r,
        ),
      )

  waits_point : (u : Point) (x : Found) → (node_of p f u).stood ≡ AtStatement x → manner_from p f u ≡ AsCps → Waits (node_of p f u)
  waits_point (Here path) x s e = waits_at path e
  waits_point (Arrival path) x s e = absurd (cc)
  waits_point End x s e = absurd (cc)

pub cps_statements_wait : CpsStatementsWait
cps_statements_wait p f n node x e s c =
    let y = node_comes p f n node e in
    subst (Waits p f) y.2 (waits_point p f y.0 x (ap (λ k. k.stood) y.2 ∙ s) (ap (λ k. k.manner) y.2 ∙ c))

-- ---- ways and owners

pub ways_stay_or_lead : WaysStayOrLead
ways_stay_or_lead p f n m node l e own h =
    ((formed_graph p f).exit n m node e h, exit_owner (graph_of p f) (formed_graph p f) l n node e own m h)

-- the first point of a statement has the first number
pub enter_number : (s : Stmt) → number s (enter s) false ≡ 0
enter_number (Block NoStmt) = refl
enter_number (Block (AndStmt s ss)) = enter_number s
enter_number (If t a b) = refl
enter_number (While t s) = refl
enter_number (DoWhile s t) = enter_number s
enter_number (For NoStmt t step s) = refl
enter_number (For (AndStmt s ss) t step body) = enter_number s
enter_number (Label l s) = enter_number s
enter_number _ = refl

pub entries_are_first : EntriesAreFirst
entries_are_first p f =
    let e : (graph_of p f).entry ≡ 0 = enter_number f.body in
    let go : goes_to (flow_in p f) Start 0 ≡ true = subst (λ k. goes_to (flow_in p f) Start k ≡ true) e (goes_from_start (graph_of p f)) in (
      e,
      subst (λ k. k < length (graph_of p f).nodes) e (number_below p f (begin f.body) (begin_is_in f.body)),
      (λ n g. let h : Some (graph_of p f).entry ≡ Some n = is_that n (Some (graph_of p f).entry) g in let k : (graph_of p f).entry ≡ n = cc in sym k ∙ e),
      owner_next (flow_in p f) (inside p f) Start 0 Start 0 (Itself refl) go,
    )

pub owner_owning : (p : Program) (f : Function) (l x : Place) (d : ℕ) → Owns (flow_in p f) l d x → is_owner (flow_in p f) l ≡ true
owner_owning p f l _ _ (Itself own) = own
owner_owning p f l _ _ (Onwards d a n h g e) = owner_owning p f l a d h

pub owners_lead : OwnersLead
owners_lead p f = (
  (λ n l e. let h = owner_owns (flow_in p f) l n e in owner_owning p f l (At n) h.0 h.1),
  (λ n e. (leader_place p f n e, owner_found (flow_in p f) (inside p f) (At n) 0 n (Itself e))),
)
