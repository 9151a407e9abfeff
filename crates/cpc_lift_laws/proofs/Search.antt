-- The search backwards finds what leads to a start, and all of it.
use Rattle.std.proofs.Common.{◌≡◌, ◌⊎◌, inl, inr, ◌==◌, ◌||◌, ℕ, zero, suc, ◌+◌, ◌≤◌, Bool, true, false, List, [], ◌∷◌, ◌++◌, length, cond, refl, sym, ◌∙◌, ap, subst, arith}
use Rattle.std.proofs.lemmas.List.{length-append}
use Rattle.cpc_base.proofs.Truth.{eq_reflexive, eq_means}
use Rattle.cpc_tree.specs.Lists.{holds_number}
use Rattle.cpc_lift_laws.specs.Closures.{Reaches, Here, Further}
use Rattle.cpc_lift_laws.specs.Search.{Link, before, work_after, seen_after, search, keepers, SearchFinds}
use Rattle.cpc_lift_laws.proofs.Kept.{holds_front, holds_back}

-- ---- numbers in lists

-- a number in a list with one more before it
pub one_more : (x k : ℕ) (xs : List ℕ) (C : Type 0) → (x ≡ k → C) → (holds_number xs k ≡ true → C) → holds_number (x ∷ xs) k ≡ true → C
one_more x k xs C h g e = go (x == k) refl e
  where
    go : (b : Bool) → (x == k) ≡ b → (b || holds_number xs k) ≡ true → C
    go true i e = h (eq_means x k i)
    go false i e = g e

pub at_first : (x : ℕ) (xs : List ℕ) → holds_number (x ∷ xs) x ≡ true
at_first x xs = go (x == x) (eq_reflexive x)
  where
    go : (b : Bool) → b ≡ true → (b || holds_number xs x) ≡ true
    go true e = refl
    go false e = absurd (cc)

pub further : (x k : ℕ) (xs : List ℕ) → holds_number xs k ≡ true → holds_number (x ∷ xs) k ≡ true
further x k xs e = go (x == k)
  where
    go : (b : Bool) → (b || holds_number xs k) ≡ true
    go true = refl
    go false = e

-- in the one list or in the other
abbrev InEither : (xs ys : List ℕ) → ℕ → Type 0
InEither xs ys k = (holds_number xs k ≡ true) ⊎ (holds_number ys k ≡ true)

module _ (ways : List Link) where
  abbrev Leads : ℕ → ℕ → Type 0
  Leads l m = holds_number (before ways m) l ≡ true

  -- ---- what is found leads to a start

  module _ (Good : ℕ → Type 0) (back : (l m : ℕ) → Leads l m → Good m → Good l) where
    abbrev AllGood : List ℕ → Type 0
    AllGood xs = (k : ℕ) → holds_number xs k ≡ true → Good k

    good_both : (xs ys : List ℕ) → AllGood xs → AllGood ys → AllGood (xs ++ ys)
    good_both [] ys h g k e = g k e
    good_both (x ∷ xs) ys h g k e = one_more x k (xs ++ ys) (Good k) (λ i. subst Good i (h x (at_first x xs))) (λ i. good_both xs ys (λ j n. h j (further x j xs n)) g k i) e

    good_first : (m : ℕ) (work : List ℕ) → AllGood (m ∷ work) → Good m
    good_first m work h = h m (at_first m work)

    good_rest : (m : ℕ) (work : List ℕ) → AllGood (m ∷ work) → AllGood work
    good_rest m work h k e = h k (further m k work e)

    work_good : (b : Bool) (m : ℕ) (work : List ℕ) → AllGood (m ∷ work) → AllGood (work_after b ways m work)
    work_good true m work h = good_rest m work h
    work_good false m work h = good_both work (before ways m) (good_rest m work h) (λ l e. back l m e (good_first m work h))

    seen_good : (b : Bool) (m : ℕ) (work seen : List ℕ) → AllGood (m ∷ work) → AllGood seen → AllGood (seen_after b m seen)
    seen_good true m work seen h g k e = g k e
    seen_good false m work seen h g k e = one_more m k seen (Good k) (λ i. subst Good i (good_first m work h)) (g k) e

    search_good : (n : ℕ) (work seen : List ℕ) → AllGood work → AllGood seen → AllGood (search ways n work seen)
    search_good zero work seen h g = g
    search_good (suc n) [] seen h g = g
    search_good (suc n) (m ∷ work) seen h g =
        search_good n (work_after (holds_number seen m) ways m work) (seen_after (holds_number seen m) m seen) (work_good (holds_number seen m) m work h) (seen_good (holds_number seen m) m work seen h g)

  -- ---- nothing is missed

  -- each start was seen or is still to be looked at, and so is all that leads to what was seen
  pub record Going (starts work seen : List ℕ) : Type 0 where
    pub start : (m : ℕ) → holds_number starts m ≡ true → InEither seen work m
    pub leads : (l m : ℕ) → Leads l m → holds_number seen m ≡ true → InEither seen work l

  turn : (b : Bool) (starts : List ℕ) (m : ℕ) (work seen : List ℕ) → holds_number seen m ≡ b → Going starts (m ∷ work) seen → Going starts (work_after b ways m work) (seen_after b m seen)
  turn true starts m work seen i g = record {
    start = λ x e. still x (g.start x e);
    leads = λ l x w e. still l (g.leads l x w e);
  }
    where
      still : (x : ℕ) → InEither seen (m ∷ work) x → InEither seen work x
      still x (inl e) = inl e
      still x (inr e) = one_more m x work (InEither seen work x) (λ j. inl (subst (λ y. holds_number seen y ≡ true) j i)) (λ e. inr e) e
  turn false starts m work seen i g = record {
    start = λ x e. still x (g.start x e);
    leads = λ l x w e. one_more m x seen (InEither (m ∷ seen) (work ++ before ways m) l) (λ j. inr (holds_back work (before ways m) l (subst (λ y. Leads l y) (sym j) w))) (λ e. still l (g.leads l x w e)) e;
  }
    where
      still : (x : ℕ) → InEither seen (m ∷ work) x → InEither (m ∷ seen) (work ++ before ways m) x
      still x (inl e) = inl (further m x seen e)
      still x (inr e) = one_more m x work (InEither (m ∷ seen) (work ++ before ways m) x) (λ j. inl (subst (λ y. holds_number (m ∷ seen) y ≡ true) j (at_first m seen))) (λ e. inr (holds_front work (before ways m) x e)) e

-- ---- how many turns it takes

-- the ways to what was not seen
abbrev pending : List Link → List ℕ → ℕ
pending [] seen = 0
pending (w ∷ ways) seen = cond (holds_number seen w.to) 0 1 + pending ways seen

seen_now : (b c : Bool) (n : ℕ) (before_rest : List ℕ) (x a z : ℕ) → (b ≡ true → c ≡ false) → a ≡ length before_rest + z
    → cond c 0 1 + a ≡ length (cond b (x ∷ before_rest) before_rest) + (cond (b || c) 0 1 + z)
seen_now true false n rest x a z h e = omega (arith, e)
seen_now true true n rest x a z h e = absurd (let i = h refl in cc)
seen_now false true n rest x a z h e = omega (arith, e)
seen_now false false n rest x a z h e = omega (arith, e)

fewer : (ways : List Link) (m : ℕ) (seen : List ℕ) → holds_number seen m ≡ false → pending ways seen ≡ length (before ways m) + pending ways (m ∷ seen)
fewer [] m seen e = refl
fewer (w ∷ ways) m seen e =
    seen_now (m == w.to) (holds_number seen w.to) 0 (before ways m) w.from (pending ways seen) (pending ways (m ∷ seen))
    (λ i. ap (holds_number seen) (sym (eq_means m w.to i)) ∙ e) (fewer ways m seen e)

all_pending : (ways : List Link) → pending ways [] ≡ length ways
all_pending [] = refl
all_pending (w ∷ ways) = let e = all_pending ways in omega (arith, e)

turns_left : (b : Bool) (ways : List Link) (m n : ℕ) (work seen : List ℕ) → holds_number seen m ≡ b → suc (length work) + pending ways seen ≤ suc n
    → length (work_after b ways m work) + pending ways (seen_after b m seen) ≤ n
turns_left true ways m n work seen i le = omega (arith, le)
turns_left false ways m n work seen i le =
    let e = fewer ways m seen i in
    let l = length-append work (before ways m) in
    omega (arith, le, e, l)

-- the search ends with nothing left to be looked at
ends : (ways : List Link) (starts : List ℕ) (n : ℕ) (work seen : List ℕ) → length work + pending ways seen ≤ n → Going ways starts work seen → Going ways starts [] (search ways n work seen)
ends ways starts zero [] seen le g = g
ends ways starts zero (m ∷ work) seen le g = absurd (omega (arith, le))
ends ways starts (suc n) [] seen le g = g
ends ways starts (suc n) (m ∷ work) seen le g =
    ends ways starts n (work_after (holds_number seen m) ways m work) (seen_after (holds_number seen m) m seen)
    (turns_left (holds_number seen m) ways m n work seen refl (omega (arith, le))) (turn ways (holds_number seen m) starts m work seen refl g)

only_seen : (xs : List ℕ) (k : ℕ) → InEither xs [] k → holds_number xs k ≡ true
only_seen xs k (inl e) = e
only_seen xs k (inr e) = absurd (cc)

all_found : (ways : List Link) (starts seen : List ℕ) → Going ways starts [] seen → (l m : ℕ) → Reaches (Leads ways) l m → holds_number starts m ≡ true → holds_number seen l ≡ true
all_found ways starts seen g _ _ (Here l) e = only_seen seen l (g.start l e)
all_found ways starts seen g _ _ (Further l m n w r) e = only_seen seen l (g.leads l m w (all_found ways starts seen g m n r e))

-- ---- the search of a variable

module _ (ways : List Link) (uses : List Link) (k : ℕ) where
  abbrev Good : ℕ → Type 0
  Good l = (m : ℕ) × Reaches (Leads ways) l m × (holds_number (before uses k) m ≡ true)

  found_good : (l : ℕ) → holds_number (keepers ways uses k) l ≡ true → Good l
  found_good l e =
      search_good ways Good (λ l m w g. (g.0, Further l m g.0 w g.1, g.2)) (length (before uses k) + length ways) (before uses k) [] (λ m e. (m, Here m, e)) (λ m e. absurd (cc)) l e

  good_found : (l : ℕ) → Good l → holds_number (keepers ways uses k) l ≡ true
  good_found l g =
      all_found ways (before uses k) (keepers ways uses k)
      (ends ways (before uses k) (length (before uses k) + length ways) (before uses k) [] (let e = all_pending ways in omega (arith, e)) (record { start = λ m e. inr e; leads = λ l m w e. absurd (cc) }))
      l g.0 g.1 g.2

pub search_finds : SearchFinds
search_finds ways uses l k = (found_good ways uses k l, good_found ways uses k l)
