-- Leaders are found by counting sources, and owners by going on from owners.
use Rattle.std.proofs.Common.{◌≡◌, ℕ, zero, suc, ◌+◌, ◌<◌, ◌≤◌, ◌==◌, ◌||◌, ◌⊎◌, inl, inr, nat_le, Bool, true, false, List, [], ◌∷◌, map, length, Option, Some, None, refl, sym, ◌∙◌, ap, subst, arith}
use Rattle.cpc_base.proofs.Truth.{eq_means, eq_reflexive, equal_truth}
use Rattle.cpc_tree.specs.Lists.{holds_number}
use Rattle.cpc_forms.specs.Flow.{Place, Start, At, Flow, goes_to, below, kept_if, coming, sources, two_or_more, is_leader, is_owner, Owns, Itself, Onwards, owner_of}
use Rattle.cpc_forms.specs.Split.{number_if, leaders_from}
use Rattle.cpc_forms.specs.Marks.{one_if, counted, Marks}
use Rattle.cpc_graph_laws.specs.Laws.{LeadersAreCounted, MarksAreOwners, OwnersGoOn, LeadersAreListed}
use Rattle.cpc_graph_laws.proofs.Owners.{owner_found, owner_owns}
use Rattle.cpc_graph_laws.proofs.Splits.{owner_next}
use Rattle.cpc_graph_laws.proofs.Leaders.{leader_below}

-- ---- counting

two_by_length : (xs : List Place) → two_or_more xs ≡ nat_le 2 (length xs)
two_by_length [] = refl
two_by_length (a ∷ []) = refl
two_by_length (a ∷ b ∷ rest) = grind arith

length_kept : (b : Bool) (a : Place) (rest : List Place) → length (kept_if b a rest) ≡ one_if b + length rest
length_kept true a rest = omega arith
length_kept false a rest = omega arith

module _ (flow : Flow) (n : ℕ) where
  count_below : (k : ℕ) → counted flow n k ≡ one_if (goes_to flow Start n) + length (coming flow n (map (λ m. At m) (below k)))
  count_below zero = omega arith
  count_below (suc k) =
      let h = count_below k in
      let g = length_kept (goes_to flow (At k) n) (At k) (coming flow n (map (λ m. At m) (below k))) in
      omega arith

  count_sources : counted flow n flow.size ≡ length (sources flow n)
  count_sources = count_below flow.size ∙ sym (length_kept (goes_to flow Start n) Start (coming flow n (map (λ m. At m) (below flow.size))))

pub leaders_are_counted : LeadersAreCounted
leaders_are_counted flow n = ap (λ b. flow.resumes n || b) (two_by_length (sources flow n) ∙ ap (nat_le 2) (sym (count_sources flow n)))

-- ---- marks

module _ (flow : Flow) (mark : ℕ → Option Place) (marks : Marks flow mark) where
  on_from : (l a : Place) (d m : ℕ) → Owns flow l d a → goes_to flow a m ≡ true → is_leader flow m ≡ false → ((n : ℕ) → a ≡ At n → mark n ≡ Some l) → mark m ≡ Some l
  on_from l Start d m h g e marked = start_case l Start d m h refl g e
    where
      start_case : (l a : Place) (d m : ℕ) → Owns flow l d a → a ≡ Start → goes_to flow a m ≡ true → is_leader flow m ≡ false → mark m ≡ Some l
      start_case l _ _ m (Itself own) i g e = marks.entry m (subst (λ k. goes_to flow k m ≡ true) i g) e ∙ ap (λ k. Some k) (sym i)
      start_case l _ _ m (Onwards d a n h w nl) i g e = absurd (cc)
  on_from l (At n) d m h g e marked = marks.onwards n m l (marked n refl) g e

  -- what is owned is marked
  is_marked : (l : Place) (d : ℕ) (a : Place) → Owns flow l d a → (n : ℕ) → a ≡ At n → mark n ≡ Some l
  is_marked l _ _ (Itself own) n e = let h : is_leader flow n ≡ true = subst (λ a. is_owner flow a ≡ true) e own in marks.leaders n h ∙ ap (λ a. Some a) (sym e)
  is_marked l _ _ (Onwards d a m h g e) n i = let j : m ≡ n = cc in subst (λ k. mark k ≡ Some l) j (on_from l a d m h g e (is_marked l d a h))

  mark_case : (n : ℕ) (u w : Option Place) → mark n ≡ u → owner_of flow n ≡ w → mark n ≡ owner_of flow n
  mark_case n (Some l) w e f = e ∙ sym (marks.right n l e)
  mark_case n None (Some l) e f = let h = owner_owns flow l n f in is_marked l h.0 (At n) h.1 n refl ∙ sym f
  mark_case n None None e f = e ∙ sym f

pub marks_are_owners : MarksAreOwners
marks_are_owners flow mark marks n = mark_case flow mark marks n (mark n) (owner_of flow n) refl refl

pub owners_go_on : OwnersGoOn
owners_go_on flow inside = (
  (λ n e. owner_found flow inside (At n) 0 n (Itself e)),
  (λ n g. owner_next flow inside Start 0 Start n (Itself refl) g),
  (λ n m l e g. let h = owner_owns flow l n e in owner_next flow inside l h.0 (At n) m h.1 g),
)

-- ---- the list of leaders

number_case : (k n : ℕ) → k ≤ n → (k ≡ n) ⊎ (suc k ≤ n)
number_case k n h = grind arith

module _ (flow : Flow) (n : ℕ) where
  listed_case : (b : Bool) (k : ℕ) (rest : List ℕ) → is_leader flow k ≡ b → (holds_number rest n ≡ true → is_leader flow n ≡ true) → holds_number (number_if b k rest) n ≡ true → is_leader flow n ≡ true
  listed_case true k rest l h e = go (k == n) refl e
    where
      go : (c : Bool) → (k == n) ≡ c → (c || holds_number rest n) ≡ true → is_leader flow n ≡ true
      go true i j = subst (λ m. is_leader flow m ≡ true) (eq_means k n i) l
      go false i j = h j
  listed_case false k rest l h e = h e

  listed : (k size : ℕ) → holds_number (leaders_from flow k size) n ≡ true → is_leader flow n ≡ true
  listed k zero e = absurd (cc)
  listed k (suc size) e = listed_case (is_leader flow k) k (leaders_from flow (suc k) size) refl (listed (suc k) size) e

  kept_number : (b : Bool) (k : ℕ) (rest : List ℕ) → holds_number rest n ≡ true → holds_number (number_if b k rest) n ≡ true
  kept_number true k rest h = go (k == n)
    where
      go : (c : Bool) → (c || holds_number rest n) ≡ true
      go true = refl
      go false = h
  kept_number false k rest h = h

  first_number : (k : ℕ) (rest : List ℕ) → k ≡ n → is_leader flow n ≡ true → holds_number (number_if (is_leader flow k) k rest) n ≡ true
  first_number k rest e l = subst (λ j. holds_number (number_if (is_leader flow j) j rest) n ≡ true) (sym e) (ap (λ b. holds_number (number_if b n rest) n) l ∙ ap (λ b. b || holds_number rest n) (eq_reflexive n))

  lists : (k size : ℕ) → k ≤ n → n < k + size → is_leader flow n ≡ true → holds_number (leaders_from flow k size) n ≡ true
  lists k zero low high l = absurd (omega arith)
  lists k (suc size) low high l = go (λ e. lists (suc k) size e (omega arith) l) (number_case k n low)
    where
      go : (suc k ≤ n → holds_number (leaders_from flow (suc k) size) n ≡ true) → (k ≡ n) ⊎ (suc k ≤ n) → holds_number (leaders_from flow k (suc size)) n ≡ true
      go h (inl e) = first_number k (leaders_from flow (suc k) size) e l
      go h (inr e) = kept_number (is_leader flow k) k (leaders_from flow (suc k) size) (h e)

pub leaders_are_listed : LeadersAreListed
leaders_are_listed flow within n =
    equal_truth _ _ (listed flow n 0 flow.size)
    (λ l. let h = leader_below flow within n l in lists flow n 0 flow.size (omega arith) (omega arith) l)
