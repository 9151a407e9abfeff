-- The points whose images stand in a piece are those that its owner owns, each once: the way back from an image to its row.
use Rattle.std.proofs.Common.{◌≡◌, ⊎_elim, ℕ, suc, zero, Bool, true, false, not, ◌==◌, ◌||◌, List, [], ◌∷◌, ◌++◌, slice_get, Option, Some, None, option_map, refl, sym, ◌∙◌, ap, subst}
use Rattle.cpc_base.proofs.Truth.{eq_reflexive, eq_means, or_by_second}
use Rattle.cpc_tree.specs.Lists.{holds_number}
use Rattle.cpc_tree.specs.Points.{Path, Point, Here, Arrival, End, found}
use Rattle.cpc_tree.specs.Syntax.{Function, Program}
use Rattle.cpc_meaning.specs.Act.{AtArrival}
use Rattle.cpc_meaning.specs.Ways.{Manner, InPlace, ByFrame, AsCps, arrives_later, only_if, manner_at}
use Rattle.cpc_convert_common.specs.Members.{Has, OnTop, Below}
use Rattle.cpc_convert_common.proofs.Members.{has_left, has_right, has_either}
use Rattle.cpc_forms.specs.Control as C
use Rattle.cpc_forms.specs.Flow.{Place, Flow, owner_of, is_leader}
use Rattle.cpc_forms.specs.Graph.{node_of, at_node}
use Rattle.cpc_forms.specs.Order.{is_in, points, number_of}
use Rattle.cpc_forms.specs.Pieces.{Once, NoNumber, AndOther}
use Rattle.cpc_forms.proofs.Numbered.{numbered_point}
use Rattle.cpc_graph_laws.specs.Laws.{place_of, is_node, flow_in}
use Rattle.cpc_graph_laws.proofs.Controls.{there_in, call_not_nothing, is_not_nothing}
use Rattle.cpc_graph_laws.proofs.Graphs.{node_found}
use Rattle.cpc_graph_laws.proofs.Leaders.{is_leading}
use Rattle.cpc_graph_laws.proofs.MoreFacts.{arrivals_stay}
use Rattle.cpc_graph_laws.proofs.Owned.{reaches, owner_is, is_owned}
use Rattle.cpc_convert_routines.specs.Routines.{Routine, routine_of}
use Rattle.cpc_convert_routines.specs.Nodes.{is_own, has_row, stands_with}
use Rattle.cpc_chains_event.specs.Rows.{numbers_of}
use Rattle.cpc_chains_event.proofs.Labels.{rows_stand_once}
use Rattle.cpc_lifted_laws.proofs.Shape.Calls.{CpsTyped}
use Rattle.cpc_chains_laws.proofs.Shape.Numbers.{row_there}
use Rattle.cpc_chains_laws.proofs.Shape.Points.{arrival_with, points_with, IsRow}
use Rattle.cpc_chains_laws.proofs.Shape.Rows.{owns_later, points_if, points_for, OwnPoint, own_point, all_points}

-- ---- lists in which nothing stands twice

pub data Distinct {A : Type 0} : List A → Type 0 where
  NoneTwice : Distinct []
  AndNew : (x : A) (xs : List A) → ¬ (Has x xs) → Distinct xs → Distinct (x ∷ xs)

distinct_append : {A : Type 0} (xs ys : List A) → Distinct xs → Distinct ys → ((x : A) → Has x xs → ¬ (Has x ys)) → Distinct (xs ++ ys)
distinct_append _ ys NoneTwice e apart = e
distinct_append _ ys (AndNew x xs new d) e apart =
    AndNew x (xs ++ ys) (λ h. ⊎_elim (λ a. new a) (λ b. apart x (OnTop x xs) b) (has_either x xs ys h)) (distinct_append xs ys d e (λ y h. apart y (Below y x xs h)))

pub got_has : {A : Type 0} (xs : List A) (i : ℕ) (x : A) → slice_get xs i ≡ Some x → Has x xs
got_has [] i x e = absurd (cc)
got_has (y ∷ xs) zero x e = let z : y ≡ x = cc in subst (λ w. Has w (y ∷ xs)) z (OnTop y xs)
got_has (y ∷ xs) (suc i) x e = Below x y xs (got_has xs i x e)

-- each of them stands at one place
pub one_place : {A : Type 0} (xs : List A) → Distinct xs → (x : A) (i j : ℕ) → slice_get xs i ≡ Some x → slice_get xs j ≡ Some x → i ≡ j
one_place _ NoneTwice x i j e k = absurd (cc)
one_place _ (AndNew y xs new d) x zero zero e k = refl
one_place _ (AndNew y xs new d) x zero (suc j) e k = let z : y ≡ x = cc in absurd (new (subst (λ w. Has w xs) (sym z) (got_has xs j x k)))
one_place _ (AndNew y xs new d) x (suc i) zero e k = let z : y ≡ x = cc in absurd (new (subst (λ w. Has w xs) (sym z) (got_has xs i x e)))
one_place _ (AndNew y xs new d) x (suc i) (suc j) e k = ap suc (one_place xs d x i j e k)

no_here : (path : Path) → ¬ (Has (Here path) (Arrival path ∷ []))
no_here path h = go (Here path) refl h
  where
    go : (a : Point) → a ≡ Here path → Has a (Arrival path ∷ []) → ⊥
    go _ e (OnTop _ _) = absurd (let z : Arrival path ≡ Here path = e in cc)
    go a e (Below _ _ _ k) = elim k [ ]

alone : (a : Point) → Distinct (a ∷ [])
alone a = AndNew a [] (λ h. elim h [ ]) NoneTwice

module _ (p : Program) (f : Function) (known : CpsTyped p f) where
  abbrev r : Routine
  r = routine_of p f

  abbrev flow : Flow
  flow = flow_in p f

  -- ---- the way back

  abbrev home_later : Manner → Path → ℕ
  home_later ByFrame path = number_of f.body (Here path)
  home_later m path = number_of f.body (Arrival path)

  -- the number of the row in which the image of a point stands
  abbrev home : Point → ℕ
  home (Here path) = number_of f.body (Here path)
  home (Arrival path) = home_later (manner_at p f path) path
  home End = number_of f.body End

  home_arrival : (path : Path) (a : Point) (m : Manner) → manner_at p f path ≡ m → Has a (arrival_with m path) → (a ≡ Arrival path) × (home a ≡ number_of f.body (Here path)) × (m ≡ ByFrame)
  home_arrival path a InPlace e h = elim h [ ]
  home_arrival path _ ByFrame e (OnTop _ _) = (refl, ap (λ m. home_later m path) e, refl)
  home_arrival path a ByFrame e (Below _ _ _ k) = elim k [ ]
  home_arrival path a AsCps e h = elim h [ ]

  home_with : (b a : Point) → IsRow p f b → Has a (points_with p f b) → home a ≡ number_of f.body b
  home_with (Here path) _ row (OnTop _ _) = refl
  home_with (Here path) a row (Below _ _ _ k) = (home_arrival path a (manner_at p f path) refl k).1
  home_with (Arrival path) _ row (OnTop _ _) = ap (λ m. home_later m path) row
  home_with (Arrival path) a row (Below _ _ _ k) = elim k [ ]
  home_with End _ row (OnTop _ _) = refl
  home_with End a row (Below _ _ _ k) = elim k [ ]

  with_distinct : (b : Point) → Distinct (points_with p f b)
  with_distinct (Here path) = go (manner_at p f path)
    where
      go : (m : Manner) → Distinct (Here path ∷ arrival_with m path)
      go InPlace = alone (Here path)
      go ByFrame = AndNew (Here path) (Arrival path ∷ []) (no_here path) (alone (Arrival path))
      go AsCps = alone (Here path)
  with_distinct (Arrival path) = alone (Arrival path)
  with_distinct End = alone End

  module _ (l : Place) where
    abbrev points_at : ℕ → List Point
    points_at n = points_if p f known (is_own r.split l n) (slice_get (points f.body) n)

    abbrev AllOwn : List ℕ → Type 0
    AllOwn ns = (n : ℕ) → holds_number ns n ≡ true → is_own r.split l n ≡ true → OwnPoint p f known l n

    own_first : (n : ℕ) (ns : List ℕ) → AllOwn (n ∷ ns) → is_own r.split l n ≡ true → OwnPoint p f known l n
    own_first n ns own e = own n (ap (λ b. b || holds_number ns n) (eq_reflexive n)) e

    own_rest : (n : ℕ) (ns : List ℕ) → AllOwn (n ∷ ns) → AllOwn ns
    own_rest n ns own m h = own m (or_by_second (n == m) (holds_number ns m) h)

    -- a point that stands in a row
    pub record InRow (n : ℕ) (a : Point) : Type 0 where
      pub own : OwnPoint p f known l n
      pub has : Has a (points_with p f own.point)

    in_row : (n : ℕ) (a : Point) (b : Bool) → (b ≡ true → OwnPoint p f known l n) → Has a (points_if p f known b (slice_get (points f.body) n)) → InRow n a
    in_row n a true own h = record { own = own refl; has = subst (λ o. Has a (points_if p f known true o)) (own refl).is_point h }
    in_row n a false own h = elim h [ ]

    row_home : (n : ℕ) (a : Point) → InRow n a → home a ≡ n
    row_home n a row = home_with row.own.point a row.own.row row.has ∙ row.own.number

    some_row : (ns : List ℕ) (a : Point) → AllOwn ns → Has a (points_for p f known l ns) → (n : ℕ) × (holds_number ns n ≡ true) × InRow n a
    some_row [] a own h = elim h [ ]
    some_row (n ∷ ns) a own h = ⊎_elim
        (λ i. (n, ap (λ b. b || holds_number ns n) (eq_reflexive n), in_row n a (is_own r.split l n) (λ e. own_first n ns own e) i))
        (λ i. let d = some_row ns a (own_rest n ns own) i in (d.0, or_by_second (n == d.0) (holds_number ns d.0) d.1, d.2))
        (has_either a (points_at n) (points_for p f known l ns) h)

    if_distinct : (n : ℕ) (b : Bool) (o : Option Point) → Distinct (points_if p f known b o)
    if_distinct n true (Some a) = with_distinct a
    if_distinct n true None = NoneTwice
    if_distinct n false o = NoneTwice

    rows_distinct : (ns : List ℕ) → AllOwn ns → Once ns → Distinct (points_for p f known l ns)
    rows_distinct _ own NoNumber = NoneTwice
    rows_distinct _ own (AndOther n ns none once) =
        distinct_append (points_at n) (points_for p f known l ns) (if_distinct n (is_own r.split l n) (slice_get (points f.body) n)) (rows_distinct ns (own_rest n ns own) once)
        (λ a h i.
        let first = row_home n a (in_row n a (is_own r.split l n) (λ e. own_first n ns own e) h) in
        let d = some_row ns a (own_rest n ns own) i in
        let same : d.0 ≡ n = sym (row_home d.0 a d.2) ∙ first in
        let z : false ≡ true = sym none ∙ (ap (holds_number ns) (sym same) ∙ d.1) in
        absurd (cc))

    -- each point stands in a piece once
    pub points_distinct : Distinct (all_points p f known l)
    points_distinct = rows_distinct (numbers_of p r l) (own_point p f known l) ((rows_stand_once p f l).once)

    has_points : (ns : List ℕ) (n : ℕ) (a : Point) → holds_number ns n ≡ true → Has a (points_at n) → Has a (points_for p f known l ns)
    has_points [] n a h i = absurd (cc)
    has_points (m ∷ ns) n a h i = go (m == n) refl h (λ j. has_points ns n a j i)
      where
        go : (b : Bool) → (m == n) ≡ b → (b || holds_number ns n) ≡ true → (holds_number ns n ≡ true → Has a (points_for p f known l ns)) → Has a (points_for p f known l (m ∷ ns))
        go true e j deeper = has_left a (points_at m) (points_for p f known l ns) (subst (λ k. Has a (points_at k)) (sym (eq_means m n e)) i)
        go false e j deeper = has_right a (points_at m) (points_for p f known l ns) (deeper j)

    -- what stands in the row of a node that is owned
    has_with : (b a : Point) → is_in f.body b ≡ true → owner_of flow (number_of f.body b) ≡ Some l → has_row r.split (number_of f.body b) ≡ true → Has a (points_with p f b) → Has a (all_points p f known l)
    has_with b a there own row h =
        let n = number_of f.body b in
        let held = row_there p f l n own row in
        has_points (numbers_of p r l) n a held.0
        (subst (λ x. Has a (points_if p f known x (slice_get (points f.body) n))) (sym held.1) (subst (λ o. Has a (points_if p f known true o)) (sym (numbered_point f.body b there)) h))

    row_of_here : (b : Point) → is_in f.body b ≡ true → not (stands_with (node_of p f b).stood (node_of p f b).manner) ≡ true → has_row r.split (number_of f.body b) ≡ true
    row_of_here b there e = ap (λ o. at_node true (λ node. not (stands_with node.stood node.manner)) o) (node_found p f b there) ∙ e

    module _ (owner : C.Node) (place : place_of f.body owner ≡ l) where
      own_is : (a : Point) → C.Owns p f owner a → owner_of flow (number_of f.body a) ≡ Some l
      own_is a owns = is_owned p f owner a owns ∙ ap (λ x. Some x) place

      -- the arrival of a native call is owned with the call
      call_owned : (path : Path) → is_in f.body (Here path) ≡ true → manner_at p f path ≡ ByFrame → (is_leader flow (number_of f.body (Arrival path)) ≡ false) × (owner_of flow (number_of f.body (Arrival path)) ≡ owner_of flow (number_of f.body (Here path)))
      call_owned path there m =
          let s = arrivals_stay p f (number_of f.body (Here path)) (number_of f.body (Arrival path)) (node_of p f (Here path)) (node_found p f (Here path) there) m (ap (λ k. option_map (number_of f.body) (only_if (arrives_later k) (Some (Arrival path)))) m) in
          (s.1, s.2)

      here_there : (path : Path) → is_in f.body (Arrival path) ≡ true → is_in f.body (Here path) ≡ true
      here_there path h = there_in p f path (call_not_nothing (found f.body path) h)

      -- what the owner owns stands in the piece
      pub owned_has : (a : Point) → C.Owns p f owner a → Has a (all_points p f known l)
      owned_has (Here path) owns =
          let there = (reaches p f owner (Here path) owns).there in
          has_with (Here path) (Here path) there (own_is (Here path) owns) (row_of_here (Here path) there refl) (OnTop (Here path) (arrival_with (manner_at p f path) path))
      owned_has End owns = has_with End End refl (own_is End owns) (row_of_here End refl refl) (OnTop End [])
      owned_has (Arrival path) owns = ⊎_elim (λ m. by_frame m) (λ m. as_cps m) (owns_later p f known path owner (Arrival path) owns refl)
        where
          there : is_in f.body (Arrival path) ≡ true
          there = (reaches p f owner (Arrival path) owns).there

          as_cps : manner_at p f path ≡ AsCps → Has (Arrival path) (all_points p f known l)
          as_cps m = has_with (Arrival path) (Arrival path) there (own_is (Arrival path) owns) (row_of_here (Arrival path) there (ap (λ k. not (stands_with (AtArrival (found f.body path)) k)) m)) (OnTop (Arrival path) [])

          by_frame : manner_at p f path ≡ ByFrame → Has (Arrival path) (all_points p f known l)
          by_frame m = has_with (Here path) (Arrival path) (here_there path there) (sym (call_owned path (here_there path there) m).1 ∙ own_is (Arrival path) owns) (row_of_here (Here path) (here_there path there) refl)
              (Below (Arrival path) (Here path) (arrival_with (manner_at p f path) path) (subst (λ k. Has (Arrival path) (arrival_with k path)) (sym m) (OnTop (Arrival path) [])))

      with_owned : (b a : Point) → C.Owns p f owner b → is_in f.body b ≡ true → Has a (points_with p f b) → C.Owns p f owner a
      with_owned (Here path) _ owns there (OnTop _ _) = owns
      with_owned (Here path) a owns there (Below _ _ _ k) =
          let h = home_arrival path a (manner_at p f path) refl k in
          subst (λ x. C.Owns p f owner x) (sym h.0)
          (C.Onwards owner (Here path) (Arrival path) owns (C.Arrives path (is_not_nothing (found f.body path) there) h.2)
          (λ leads. let z : true ≡ false = sym (is_leading p f (Arrival path) leads) ∙ (call_owned path there h.2).0 in absurd (cc)))
      with_owned (Arrival path) _ owns there (OnTop _ _) = owns
      with_owned (Arrival path) a owns there (Below _ _ _ k) = elim k [ ]
      with_owned End _ owns there (OnTop _ _) = owns
      with_owned End a owns there (Below _ _ _ k) = elim k [ ]

      -- and what stands there is owned
      pub has_owned : is_node f.body owner ≡ true → (a : Point) → Has a (all_points p f known l) → C.Owns p f owner a
      has_owned there a h =
          let d = some_row (numbers_of p r l) a (own_point p f known l) h in
          let own = d.2.own in
          let at = subst (λ k. owner_of flow k ≡ Some (place_of f.body owner)) (sym own.number) (own.owned ∙ ap (λ x. Some x) (sym place)) in
          with_owned own.point a (owner_is p f owner own.point there own.there at) own.there d.2.has
