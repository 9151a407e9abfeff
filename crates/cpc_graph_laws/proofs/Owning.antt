-- A piece holds what its owner owns, each node once, the first one first.
use Rattle.std.proofs.Common.{◌≡◌, ◌≢◌, ℕ, zero, suc, ◌+◌, ◌<◌, ◌≤◌, ◌==◌, ◌||◌, ◌⊎◌, inl, inr, not, cond, Bool, true, false, List, [], ◌∷◌, slice_get, Option, Some, None, refl, sym, ◌∙◌, ap, subst, arith}
use Rattle.cpc_base.proofs.Truth.{eq_means, eq_reflexive}
use Rattle.cpc_tree.specs.Syntax.{Function, Program}
use Rattle.cpc_tree.specs.Lists.{holds_number}
use Rattle.cpc_forms.specs.Graph.{graph_of}
use Rattle.cpc_forms.specs.Flow.{Place, Start, At, Flow, is_owner, owner_of, Owns, Itself, Onwards}
use Rattle.cpc_forms.specs.Split.{Split, number_if, owners_from, split_of}
use Rattle.cpc_forms.specs.Pieces.{same_place, is_owned_by, owned_from, without, first_of, piece_nodes, Once, NoNumber, AndOther}
use Rattle.cpc_graph_laws.specs.Laws.{flow_in}
use Rattle.cpc_graph_laws.specs.Owning.{PiecesHoldTheirs, PiecesHoldOnce, PiecesBegin}
use Rattle.cpc_graph_laws.proofs.Owners.{owner_owns}
use Rattle.cpc_graph_laws.proofs.Leaders.{inside, leader_below}

-- ---- what a list holds

held_case : (b : Bool) (n m : ℕ) (ns : List ℕ) → holds_number (number_if b n ns) m ≡ true → ((b ≡ true) × (n ≡ m)) ⊎ (holds_number ns m ≡ true)
held_case true n m ns e = go (n == m) refl e
  where
    go : (c : Bool) → (n == m) ≡ c → (c || holds_number ns m) ≡ true → ((true ≡ true) × (n ≡ m)) ⊎ (holds_number ns m ≡ true)
    go true i j = inl (refl, eq_means n m i)
    go false i j = inr j
held_case false n m ns e = inr e

held_first : (b : Bool) (n m : ℕ) (ns : List ℕ) → b ≡ true → n ≡ m → holds_number (number_if b n ns) m ≡ true
held_first b n m ns e i = ap (λ c. holds_number (number_if c n ns) m) e ∙ ap (λ c. c || holds_number ns m) (subst (λ k. (n == k) ≡ true) i (eq_reflexive n))

held_rest : (b : Bool) (n m : ℕ) (ns : List ℕ) → holds_number ns m ≡ true → holds_number (number_if b n ns) m ≡ true
held_rest true n m ns e = go (n == m)
  where
    go : (c : Bool) → (c || holds_number ns m) ≡ true
    go true = refl
    go false = e
held_rest false n m ns e = e

-- a number before others, where a test holds
once_if : (b : Bool) (n : ℕ) (ns : List ℕ) → holds_number ns n ≡ false → Once ns → Once (number_if b n ns)
once_if true n ns e o = AndOther n ns e o
once_if false n ns e o = o

-- ---- owners

pub place_same : (k l : Place) → same_place k l ≡ true → k ≡ l
place_same Start Start e = refl
place_same Start (At n) e = absurd (cc)
place_same (At m) Start e = absurd (cc)
place_same (At m) (At n) e = ap (λ j. At j) (eq_means m n e)

pub place_self : (l : Place) → same_place l l ≡ true
place_self Start = refl
place_self (At n) = eq_reflexive n

pub owned_is : (l : Place) (o : Option Place) → is_owned_by l o ≡ true → o ≡ Some l
owned_is l None e = absurd (cc)
owned_is l (Some k) e = ap (λ j. Some j) (place_same k l e)

is_owned : (l : Place) (o : Option Place) → o ≡ Some l → is_owned_by l o ≡ true
is_owned l o e = ap (is_owned_by l) e ∙ place_self l

module _ (flow : Flow) (l : Place) where
  held_is : (k size m : ℕ) → holds_number (owned_from l k (owners_from flow k size)) m ≡ true → (k ≤ m) × (owner_of flow m ≡ Some l)
  held_is k zero m e = absurd (cc)
  held_is k (suc size) m e = go (held_is (suc k) size m) (held_case (is_owned_by l (owner_of flow k)) k m (owned_from l (suc k) (owners_from flow (suc k) size)) e)
    where
      go : (holds_number (owned_from l (suc k) (owners_from flow (suc k) size)) m ≡ true → (suc k ≤ m) × (owner_of flow m ≡ Some l))
          → ((is_owned_by l (owner_of flow k) ≡ true) × (k ≡ m)) ⊎ (holds_number (owned_from l (suc k) (owners_from flow (suc k) size)) m ≡ true) → (k ≤ m) × (owner_of flow m ≡ Some l)
      go h (inl x) = (omega (arith, x.1), ap (owner_of flow) (sym x.1) ∙ owned_is l (owner_of flow k) x.0)
      go h (inr x) = let y = h x in (let z = y.0 in omega arith, y.1)

  number_case : (k m : ℕ) → k ≤ m → (k ≡ m) ⊎ (suc k ≤ m)
  number_case k m h = grind arith

  is_held : (k size m : ℕ) → k ≤ m → m < k + size → owner_of flow m ≡ Some l → holds_number (owned_from l k (owners_from flow k size)) m ≡ true
  is_held k zero m low high e = absurd (omega arith)
  is_held k (suc size) m low high e = go (λ h. is_held (suc k) size m h (omega arith) e) (number_case k m low)
    where
      go : (suc k ≤ m → holds_number (owned_from l (suc k) (owners_from flow (suc k) size)) m ≡ true) → (k ≡ m) ⊎ (suc k ≤ m) → holds_number (owned_from l k (owners_from flow k (suc size))) m ≡ true
      go h (inl i) = held_first (is_owned_by l (owner_of flow k)) k m (owned_from l (suc k) (owners_from flow (suc k) size)) (is_owned l (owner_of flow k) (ap (owner_of flow) i ∙ e)) i
      go h (inr i) = held_rest (is_owned_by l (owner_of flow k)) k m (owned_from l (suc k) (owners_from flow (suc k) size)) (h i)

  not_held : (k size : ℕ) (b : Bool) → holds_number (owned_from l (suc k) (owners_from flow (suc k) size)) k ≡ b → b ≡ false
  not_held k size true e = absurd (let h = (held_is (suc k) size k e).0 in omega arith)
  not_held k size false e = refl

  owned_once : (k size : ℕ) → Once (owned_from l k (owners_from flow k size))
  owned_once k zero = NoNumber
  owned_once k (suc size) = once_if (is_owned_by l (owner_of flow k)) k _ (not_held k size _ refl) (owned_once (suc k) size)

-- ---- the first to the front

module _ (m : ℕ) where
  other_case : (k n : ℕ) → not (k == m) ≡ true → k ≡ n → n ≢ m
  other_case k n e i j = absurd (let x : (k == m) ≡ true = subst (λ a. (k == a) ≡ true) (i ∙ j) (eq_reflexive k) in let y : false ≡ true = sym (ap not x) ∙ e in cc)

  without_is : (ns : List ℕ) (n : ℕ) → holds_number (without m ns) n ≡ true → (holds_number ns n ≡ true) × (n ≢ m)
  without_is [] n e = absurd (cc)
  without_is (k ∷ ns) n e = go (without_is ns n) (held_case (not (k == m)) k n (without m ns) e)
    where
      go : (holds_number (without m ns) n ≡ true → (holds_number ns n ≡ true) × (n ≢ m)) → ((not (k == m) ≡ true) × (k ≡ n)) ⊎ (holds_number (without m ns) n ≡ true) → (holds_number (k ∷ ns) n ≡ true) × (n ≢ m)
      go h (inl x) = (held_first true k n ns refl x.1, other_case k n x.0 x.1)
      go h (inr x) = let y = h x in (held_rest true k n ns y.0, y.1)

  differs : (k n : ℕ) → k ≡ n → n ≢ m → (b : Bool) → (k == m) ≡ b → not b ≡ true
  differs k n i h true e = absurd (h (sym i ∙ eq_means k m e))
  differs k n i h false e = refl

  is_without : (ns : List ℕ) (n : ℕ) → holds_number ns n ≡ true → n ≢ m → holds_number (without m ns) n ≡ true
  is_without [] n e h = absurd (cc)
  is_without (k ∷ ns) n e h = go (λ x. is_without ns n x h) (held_case true k n ns e)
    where
      go : (holds_number ns n ≡ true → holds_number (without m ns) n ≡ true) → ((true ≡ true) × (k ≡ n)) ⊎ (holds_number ns n ≡ true) → holds_number (without m (k ∷ ns)) n ≡ true
      go r (inl x) = held_first (not (k == m)) k n (without m ns) (differs k n x.1 h (k == m) refl) x.1
      go r (inr x) = held_rest (not (k == m)) k n (without m ns) (r x)

  none_case : (ns : List ℕ) (n : ℕ) (b : Bool) → holds_number (without m ns) n ≡ b → holds_number ns n ≡ false → b ≡ false
  none_case ns n true e f = absurd (let x = (without_is ns n e).0 in let y : true ≡ false = sym x ∙ f in cc)
  none_case ns n false e f = refl

  without_once : (ns : List ℕ) → Once ns → Once (without m ns)
  without_once _ NoNumber = NoNumber
  without_once _ (AndOther n ns e o) = once_if (not (n == m)) n (without m ns) (none_case ns n _ refl e) (without_once ns o)

  gone : (ns : List ℕ) (b : Bool) → holds_number (without m ns) m ≡ b → b ≡ false
  gone ns true e = absurd ((without_is ns m e).1 refl)
  gone ns false e = refl

  abbrev front : Bool → List ℕ → List ℕ
  front b ns = cond b (m ∷ without m ns) ns

  front_once : (b : Bool) (ns : List ℕ) → Once ns → Once (front b ns)
  front_once true ns o = AndOther m (without m ns) (gone ns _ refl) (without_once ns o)
  front_once false ns o = o

  front_is : (b : Bool) (ns : List ℕ) → holds_number ns m ≡ b → (n : ℕ) → holds_number (front b ns) n ≡ true → holds_number ns n ≡ true
  front_is true ns i n e = go (held_case true m n (without m ns) e)
    where
      go : ((true ≡ true) × (m ≡ n)) ⊎ (holds_number (without m ns) n ≡ true) → holds_number ns n ≡ true
      go (inl x) = subst (λ k. holds_number ns k ≡ true) x.1 i
      go (inr x) = (without_is ns n x).0
  front_is false ns i n e = e

  is_front : (b : Bool) (ns : List ℕ) → holds_number ns m ≡ b → (n : ℕ) → holds_number ns n ≡ true → holds_number (front b ns) n ≡ true
  is_front true ns i n e = go (m == n) refl
    where
      go : (c : Bool) → (m == n) ≡ c → (c || holds_number (without m ns) n) ≡ true
      go true j = refl
      go false j = is_without ns n e (λ k. absurd (let x : (m == n) ≡ true = subst (λ a. (m == a) ≡ true) (sym k) (eq_reflexive m) in let y : true ≡ false = sym x ∙ j in cc))
  is_front false ns i n e = e

-- ---- pieces

module _ (p : Program) (f : Function) (l : Place) where
  abbrev flow : Flow
  flow = flow_in p f

  abbrev split : Split
  split = split_of (graph_of p f)

  abbrev all : List ℕ
  all = owned_from l 0 split.owners

  owner_below : (k : Place) (d : ℕ) (a : Place) → Owns flow k d a → (n : ℕ) → a ≡ At n → n < flow.size
  owner_below k _ _ (Itself own) n e = leader_below flow (inside p f) n (subst (λ a. is_owner flow a ≡ true) e own)
  owner_below k _ _ (Onwards d a m h g nl) n e = let i : m ≡ n = cc in subst (λ j. j < flow.size) i ((inside p f).target a m g)

  theirs : (n : ℕ) → holds_number (piece_nodes split l) n ≡ true → owner_of flow n ≡ Some l
  theirs n e = (held_is flow l 0 flow.size n (front_is (first_of split l) (holds_number all (first_of split l)) all refl n e)).1

  held : (n : ℕ) → owner_of flow n ≡ Some l → holds_number all n ≡ true
  held n e = let h = owner_owns flow l n e in let less = owner_below l h.0 (At n) h.1 n refl in is_held flow l 0 flow.size n (omega arith) (omega arith) e

  all_theirs : (n : ℕ) → owner_of flow n ≡ Some l → holds_number (piece_nodes split l) n ≡ true
  all_theirs n e = is_front (first_of split l) (holds_number all (first_of split l)) all refl n (held n e)

pub pieces_hold_theirs : PiecesHoldTheirs
pieces_hold_theirs p f l n = (theirs p f l n, all_theirs p f l n)

pub pieces_hold_once : PiecesHoldOnce
pieces_hold_once p f l = front_once (first_of (split p f l) l) (holds_number (all p f l) (first_of (split p f l) l)) (all p f l) (owned_once (flow_in p f) l 0 (flow_in p f).size)

pub pieces_begin : PiecesBegin
pieces_begin p f l e = ap (λ b. slice_get (cond b (first_of (split p f l) l ∷ without (first_of (split p f l) l) (all p f l)) (all p f l)) 0) (held p f l (first_of (split p f l) l) e)
