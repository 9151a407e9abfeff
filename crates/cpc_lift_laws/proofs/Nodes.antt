-- The ways and the uses that are gathered are those of the code.
use Rattle.std.proofs.Common.{◌≡◌, ◌↔◌, ◌⊎◌, inl, inr, ⊎_elim, ◌==◌, ℕ, Bool, true, false, List, [], ◌∷◌, ◌++◌, Option, Some, None, cond, refl, sym, ◌∙◌, ap, subst}
use Rattle.cpc_base.specs.Bytes.{Text}
use Rattle.cpc_base.proofs.Truth.{eq_reflexive, eq_means}
use Rattle.cpc_tree.specs.Lists.{holds_number}
use Rattle.cpc_meaning.specs.Plain.{Code}
use Rattle.cpc_lift_laws.specs.Used.{used_at, is_left}
use Rattle.cpc_lift_laws.specs.Closures.{UsedBy, HasName, HasBox, LeadsTo, ByWay, ByArrival}
use Rattle.cpc_lift_laws.specs.Search.{Link, before}
use Rattle.cpc_lift_laws.specs.Nodes.{Member, First, Later, links_to, way_to, ways_from, ways_of_nodes, uses_from, uses_of_nodes, NodesGiveWays}
use Rattle.cpc_lift_laws.proofs.Kept.{holds_front, holds_back}
use Rattle.cpc_lift_laws.proofs.Search.{one_more, at_first, further}

-- a link among these
abbrev pub IsLink : List Link → ℕ → ℕ → Type 0
IsLink links l m = holds_number (before links m) l ≡ true

-- ---- links one after the other

holds_split : (xs ys : List ℕ) (k : ℕ) → holds_number (xs ++ ys) k ≡ true → (holds_number xs k ≡ true) ⊎ (holds_number ys k ≡ true)
holds_split [] ys k e = inr e
holds_split (x ∷ xs) ys k e =
    one_more x k (xs ++ ys) ((holds_number (x ∷ xs) k ≡ true) ⊎ (holds_number ys k ≡ true))
    (λ i. inl (subst (λ j. holds_number (x ∷ xs) j ≡ true) i (at_first x xs)))
    (λ h. ⊎_elim (λ a. inl (further x k xs a)) (λ b. inr b) (holds_split xs ys k h)) e

cond_append : (b : Bool) (x : ℕ) (xs ys zs : List ℕ) → zs ≡ xs ++ ys → cond b (x ∷ zs) zs ≡ cond b (x ∷ xs) xs ++ ys
cond_append true x xs ys zs e = ap (λ r. x ∷ r) e
cond_append false x xs ys zs e = e

before_append : (xs ys : List Link) (m : ℕ) → before (xs ++ ys) m ≡ before xs m ++ before ys m
before_append [] ys m = refl
before_append (w ∷ xs) ys m = cond_append (m == w.to) w.from (before xs m) (before ys m) (before (xs ++ ys) m) (before_append xs ys m)

link_split : (xs ys : List Link) (l m : ℕ) → IsLink (xs ++ ys) l m → IsLink xs l m ⊎ IsLink ys l m
link_split xs ys l m e = holds_split (before xs m) (before ys m) l (ap (λ r. holds_number r l) (sym (before_append xs ys m)) ∙ e)

link_front : (xs ys : List Link) (l m : ℕ) → IsLink xs l m → IsLink (xs ++ ys) l m
link_front xs ys l m e = ap (λ r. holds_number r l) (before_append xs ys m) ∙ holds_front (before xs m) (before ys m) l e

link_back : (xs ys : List Link) (l m : ℕ) → IsLink ys l m → IsLink (xs ++ ys) l m
link_back xs ys l m e = ap (λ r. holds_number r l) (before_append xs ys m) ∙ holds_back (before xs m) (before ys m) l e

-- ---- one link

one_link : (l0 m0 : ℕ) (rest : List Link) (l m : ℕ) (C : Type 0) → (l0 ≡ l → m ≡ m0 → C) → (IsLink rest l m → C) → IsLink (record { from = l0; to = m0 } ∷ rest) l m → C
one_link l0 m0 rest l m C h g e = go (m == m0) refl e
  where
    go : (b : Bool) → (m == m0) ≡ b → holds_number (cond b (l0 ∷ before rest m) (before rest m)) l ≡ true → C
    go true i e = one_more l0 l (before rest m) C (λ j. h j (eq_means m m0 i)) g e
    go false i e = g e

this_link : (l m : ℕ) (rest : List Link) → IsLink (record { from = l; to = m } ∷ rest) l m
this_link l m rest = go (m == m) (eq_reflexive m)
  where
    go : (b : Bool) → b ≡ true → holds_number (cond b (l ∷ before rest m) (before rest m)) l ≡ true
    go true e = at_first l (before rest m)
    go false e = absurd (cc)

other_link : (l0 m0 : ℕ) (rest : List Link) (l m : ℕ) → IsLink rest l m → IsLink (record { from = l0; to = m0 } ∷ rest) l m
other_link l0 m0 rest l m e = go (m == m0)
  where
    go : (b : Bool) → holds_number (cond b (l0 ∷ before rest m) (before rest m)) l ≡ true
    go true = further l0 l (before rest m) e
    go false = e

-- ---- uses

links_are : (l0 : ℕ) (ks : List ℕ) (l k : ℕ) → IsLink (links_to l0 ks) l k → (l0 ≡ l) × (holds_number ks k ≡ true)
links_are l0 [] l k e = absurd (cc)
links_are l0 (j ∷ ks) l k e =
    one_link l0 j (links_to l0 ks) l k ((l0 ≡ l) × (holds_number (j ∷ ks) k ≡ true))
    (λ i q. (i, subst (λ n. holds_number (j ∷ ks) n ≡ true) (sym q) (at_first j ks)))
    (λ h. let r = links_are l0 ks l k h in (r.0, further j k ks r.1)) e

are_links : (l : ℕ) (ks : List ℕ) (k : ℕ) → holds_number ks k ≡ true → IsLink (links_to l ks) l k
are_links l [] k e = absurd (cc)
are_links l (j ∷ ks) k e =
    one_more j k ks (IsLink (links_to l (j ∷ ks)) l k)
    (λ i. subst (λ n. IsLink (links_to l (j ∷ ks)) l n) i (this_link l j (links_to l ks)))
    (λ h. other_link l j (links_to l ks) l k (are_links l ks k h)) e

module _ {P : Type 0} (code : Code P) (f : Text) (box : ℕ → Bool) (there : P → Bool) (owner : P → ℕ) where
  abbrev Leads : ℕ → ℕ → Type 0
  Leads = LeadsTo code f box there owner

  abbrev Uses : ℕ → ℕ → Type 0
  Uses = UsedBy code f box there owner

  -- ---- the ways from a position

  way_is : (l0 : ℕ) (o : Option P) (l m : ℕ) (C : Type 0) → ((b : P) → o ≡ Some b → l0 ≡ l → owner b ≡ m → C) → IsLink (way_to code f owner l0 o) l m → C
  way_is l0 None l m C h e = absurd (cc)
  way_is l0 (Some b) l m C h e = one_link l0 (owner b) [] l m C (λ i q. h b refl i (sym q)) (λ g. absurd (cc)) e

  is_way : (l0 : ℕ) (o : Option P) (b : P) → o ≡ Some b → IsLink (way_to code f owner l0 o) l0 (owner b)
  is_way l0 o b e = subst (λ z. IsLink (way_to code f owner l0 z) l0 (owner b)) (sym e) (this_link l0 (owner b) [])

  ways_are : (a : P) (l m : ℕ) → there a ≡ true → IsLink (ways_from code f owner a) l m → Leads l m
  ways_are a l m t e =
      let yes = way_to code f owner (owner a) (code.goes f a true) in
      let no = way_to code f owner (owner a) (code.goes f a false) in
      let later = way_to code f owner (owner a) (code.arrival f a) in
      ⊎_elim
      (way_is (owner a) (code.goes f a true) l m (Leads l m) (λ b i o q. ByWay l m a b true t o i q))
      (λ rest.
      ⊎_elim
      (way_is (owner a) (code.goes f a false) l m (Leads l m) (λ b i o q. ByWay l m a b false t o i q))
      (way_is (owner a) (code.arrival f a) l m (Leads l m) (λ b i o q. ByArrival l m a b t o i q))
      (link_split no later l m rest))
      (link_split yes (no ++ later) l m e)

  goes_way : (a b : P) (h : Bool) → code.goes f a h ≡ Some b → IsLink (ways_from code f owner a) (owner a) (owner b)
  goes_way a b true e = link_front (way_to code f owner (owner a) (code.goes f a true)) _ (owner a) (owner b) (is_way (owner a) (code.goes f a true) b e)
  goes_way a b false e =
      link_back (way_to code f owner (owner a) (code.goes f a true)) _ (owner a) (owner b)
      (link_front (way_to code f owner (owner a) (code.goes f a false)) _ (owner a) (owner b) (is_way (owner a) (code.goes f a false) b e))

  arrival_way : (a b : P) → code.arrival f a ≡ Some b → IsLink (ways_from code f owner a) (owner a) (owner b)
  arrival_way a b e =
      link_back (way_to code f owner (owner a) (code.goes f a true)) _ (owner a) (owner b)
      (link_back (way_to code f owner (owner a) (code.goes f a false)) _ (owner a) (owner b) (is_way (owner a) (code.arrival f a) b e))

  -- ---- the uses of a position

  left_uses : (b : Bool) (boxes : List ℕ) (k : ℕ) → holds_number (cond b boxes []) k ≡ true → (b ≡ true) × (holds_number boxes k ≡ true)
  left_uses true boxes k e = (refl, e)
  left_uses false boxes k e = absurd (cc)

  uses_left : (b : Bool) (boxes : List ℕ) (k : ℕ) → b ≡ true → holds_number boxes k ≡ true → holds_number (cond b boxes []) k ≡ true
  uses_left true boxes k e h = h
  uses_left false boxes k e h = absurd (cc)

  module _ (boxes : List ℕ) (marked : (k : ℕ) → (holds_number boxes k ≡ true) ↔ (box k ≡ true)) where
    uses_are : (a : P) (l k : ℕ) → there a ≡ true → IsLink (uses_from code f owner boxes a) l k → Uses l k
    uses_are a l k t e =
        let names = used_at (code.scope f a) (code.stood f a) in
        let r = links_are (owner a) (names ++ cond (is_left (code.stood f a)) boxes []) l k e in
        ⊎_elim
        (λ h. HasName l k a t r.0 h)
        (λ h. let g = left_uses (is_left (code.stood f a)) boxes k h in HasBox l k a t r.0 g.0 ((marked k).0 g.1))
        (holds_split names (cond (is_left (code.stood f a)) boxes []) k r.1)

    name_use : (a : P) (k : ℕ) → holds_number (used_at (code.scope f a) (code.stood f a)) k ≡ true → IsLink (uses_from code f owner boxes a) (owner a) k
    name_use a k h = are_links (owner a) _ k (holds_front (used_at (code.scope f a) (code.stood f a)) (cond (is_left (code.stood f a)) boxes []) k h)

    box_use : (a : P) (k : ℕ) → is_left (code.stood f a) ≡ true → box k ≡ true → IsLink (uses_from code f owner boxes a) (owner a) k
    box_use a k l h =
        are_links (owner a) _ k
        (holds_back (used_at (code.scope f a) (code.stood f a)) (cond (is_left (code.stood f a)) boxes []) k (uses_left (is_left (code.stood f a)) boxes k l ((marked k).1 h)))

  -- ---- all positions

  module _ (from : P → List Link) (all : List P → List Link) (none : all [] ≡ []) (more : (a : P) (nodes : List P) → all (a ∷ nodes) ≡ from a ++ all nodes) where
    some_node : (nodes : List P) (l m : ℕ) → IsLink (all nodes) l m → (a : P) × Member a nodes × IsLink (from a) l m
    some_node [] l m e = absurd (let i = ap (λ r. holds_number (before r m) l) none in cc)
    some_node (a ∷ nodes) l m e =
        ⊎_elim
        (λ h. (a, First a nodes, h))
        (λ h. let r = some_node nodes l m h in (r.0, Later r.0 a nodes r.1, r.2))
        (link_split (from a) (all nodes) l m (subst (λ r. IsLink r l m) (more a nodes) e))

    node_link : (a : P) (nodes : List P) (l m : ℕ) → Member a nodes → IsLink (from a) l m → IsLink (all nodes) l m
    node_link _ _ l m (First a nodes) e = subst (λ r. IsLink r l m) (sym (more a nodes)) (link_front (from a) (all nodes) l m e)
    node_link _ _ l m (Later a b nodes n) e = subst (λ r. IsLink r l m) (sym (more b nodes)) (link_back (from b) (all nodes) l m (node_link a nodes l m n e))

  module _ (nodes : List P) (boxes : List ℕ) (are : (a : P) → (there a ≡ true) ↔ Member a nodes) (marked : (k : ℕ) → (holds_number boxes k ≡ true) ↔ (box k ≡ true)) where
    way_given : (l m : ℕ) → Leads l m → IsLink (ways_of_nodes code f owner nodes) l m
    way_given _ _ (ByWay l m a b h t o e q) =
        subst (λ i. IsLink (ways_of_nodes code f owner nodes) i m) o (subst (λ j. IsLink (ways_of_nodes code f owner nodes) (owner a) j) q
        (node_link (ways_from code f owner) (ways_of_nodes code f owner) refl (λ a nodes. refl) a nodes (owner a) (owner b) ((are a).0 t) (goes_way a b h e)))
    way_given _ _ (ByArrival l m a b t o e q) =
        subst (λ i. IsLink (ways_of_nodes code f owner nodes) i m) o (subst (λ j. IsLink (ways_of_nodes code f owner nodes) (owner a) j) q
        (node_link (ways_from code f owner) (ways_of_nodes code f owner) refl (λ a nodes. refl) a nodes (owner a) (owner b) ((are a).0 t) (arrival_way a b e)))

    given_way : (l m : ℕ) → IsLink (ways_of_nodes code f owner nodes) l m → Leads l m
    given_way l m e =
        let r = some_node (ways_from code f owner) (ways_of_nodes code f owner) refl (λ a nodes. refl) nodes l m e in
        ways_are r.0 l m ((are r.0).1 r.1) r.2

    use_given : (l k : ℕ) → Uses l k → IsLink (uses_of_nodes code f owner boxes nodes) l k
    use_given _ _ (HasName l k a t o h) =
        subst (λ i. IsLink (uses_of_nodes code f owner boxes nodes) i k) o
        (node_link (uses_from code f owner boxes) (uses_of_nodes code f owner boxes) refl (λ a nodes. refl) a nodes (owner a) k ((are a).0 t) (name_use boxes marked a k h))
    use_given _ _ (HasBox l k a t o i b) =
        subst (λ i. IsLink (uses_of_nodes code f owner boxes nodes) i k) o
        (node_link (uses_from code f owner boxes) (uses_of_nodes code f owner boxes) refl (λ a nodes. refl) a nodes (owner a) k ((are a).0 t) (box_use boxes marked a k i b))

    given_use : (l k : ℕ) → IsLink (uses_of_nodes code f owner boxes nodes) l k → Uses l k
    given_use l k e =
        let r = some_node (uses_from code f owner boxes) (uses_of_nodes code f owner boxes) refl (λ a nodes. refl) nodes l k e in
        uses_are boxes marked r.0 l k ((are r.0).1 r.1) r.2

pub nodes_give_ways : (P : Type 0) → NodesGiveWays P
nodes_give_ways P code f box there owner nodes boxes are marked = record {
  leads = λ l m. (given_way code f box there owner nodes boxes are marked l m, way_given code f box there owner nodes boxes are marked l m);
  used = λ l k. (given_use code f box there owner nodes boxes are marked l k, use_given code f box there owner nodes boxes are marked l k);
}
