-- Rows of closures, a variable more at a time.
use Rattle.std.proofs.Common.{◌≡◌, ◌+◌, ◌<◌, ◌≤◌, ⊎_elim, ℕ, zero, suc, Bool, true, false, nat_eq, List, [], ◌∷◌, All, cond, map, length, get_or, set, refl, sym, ◌∙◌, ap, subst, arith}
use Rattle.std.proofs.lemmas.Bool.{cases_lt}
use Rattle.std.proofs.lemmas.List.{get_or-map, get_or-set_same, get_or-set_other, map-set, length-map, get_or_default}
use Rattle.cpc_tree.specs.Lists.{holds_number}
use Rattle.cpc_lift_laws.specs.Search as S
use Rattle.cpc_lift_closures.specs.declared.links.Link.{Link}
use Rattle.cpc_lift_closures.specs.Rows.{links_of, IsFrom, IsNumber, RowsAre, MarksAre}
use Rattle.cpc_lift_closures.specs.Turns.{AreNumbers}
use Rattle.cpc_lift_closures.specs.Added.{with_variable}

-- ---- one row changed

module _ {X : Type 0} (items : X → List ℕ) where
  pub row_here : (rows : List X) (owner : ℕ) (new : X) → owner < length rows → get_or (map items (set rows owner new)) owner [] ≡ items new
  row_here rows owner new lt =
      ap (λ r. get_or r owner []) (map-set items rows owner new) ∙ get_or-set_same (map items rows) owner (items new) [] (omega (arith, lt, length-map rows items))

  pub row_else : (rows : List X) (owner k : ℕ) (new : X) → ¬ (k ≡ owner) → get_or (map items (set rows owner new)) k [] ≡ get_or (map items rows) k []
  row_else rows owner k new h =
      ap (λ r. get_or r k []) (map-set items rows owner new) ∙ get_or-set_other (map items rows) owner k (items new) [] h

  pub row_read : (rows : List X) (k : ℕ) (old : X) → k < length rows → old ≡ get_or rows k old → get_or (map items rows) k [] ≡ items old
  row_read rows k old lt e = get_or-map items rows k old [] lt ∙ ap items (sym e)

  module _ (rows start : List X) (marks : List Bool) (variable owner : ℕ) (old new : X) (lt : owner < length rows) (is_old : old ≡ get_or rows owner old) (is_new : items new ≡ with_variable (get_or marks owner false) variable (items old)) (done : (k : ℕ) → k < owner → k < length marks → get_or (map items rows) k [] ≡ with_variable (get_or marks k false) variable (get_or (map items start) k [])) (left : (k : ℕ) → owner ≤ k → get_or (map items rows) k [] ≡ get_or (map items start) k []) where
    pub more_done : (k : ℕ) → k < owner + 1 → k < length marks → get_or (map items (set rows owner new)) k [] ≡ with_variable (get_or marks k false) variable (get_or (map items start) k [])
    more_done k below within =
        ⊎_elim
        (λ less. row_else rows owner k new (λ e. absurd (omega (arith, less, e))) ∙ done k less within)
        (λ le.
        let e : owner ≡ k = omega (arith, le, below) in
        subst (λ j. get_or (map items (set rows owner new)) j [] ≡ with_variable (get_or marks j false) variable (get_or (map items start) j [])) e
        (row_here rows owner new lt ∙ is_new ∙ ap (with_variable (get_or marks owner false) variable) (sym (row_read rows owner old lt is_old) ∙ left owner (omega arith))))
        (cases_lt k owner)

    pub less_left : (k : ℕ) → owner + 1 ≤ k → get_or (map items (set rows owner new)) k [] ≡ get_or (map items start) k []
    less_left k le = row_else rows owner k new (λ e. absurd (omega (arith, le, e))) ∙ left k (omega (arith, le))

-- ---- closures

cons_after : (b : Bool) (x k : ℕ) (row : List ℕ) → k ∷ with_variable b x row ≡ with_variable b x (k ∷ row)
cons_after true x k row = refl
cons_after false x k row = refl

module _ (ways uses : List S.Link) (l : ℕ) where
  abbrev keeps : ℕ → Bool
  keeps k = holds_number (S.keepers ways uses k) l

  first_of_one : (b : Bool) (k : ℕ) → cond b (k ∷ []) [] ≡ with_variable b k []
  first_of_one true k = refl
  first_of_one false k = refl

  cond_same : (c b : Bool) (k x : ℕ) (a row : List ℕ) → a ≡ with_variable b x row → cond c (k ∷ a) a ≡ with_variable b x (cond c (k ∷ row) row)
  cond_same true b k x a row e = ap (λ r. k ∷ r) e ∙ cons_after b x k row
  cond_same false b k x a row e = e

  one_more_from : (k n : ℕ) → S.closure_from ways uses l k (suc n) ≡ with_variable (keeps (k + n)) (k + n) (S.closure_from ways uses l k n)
  one_more_from k zero = let e : k ≡ k + 0 = omega arith in first_of_one (keeps k) k ∙ ap (λ j. with_variable (keeps j) j []) e
  one_more_from k (suc n) =
      let e : suc k + n ≡ k + suc n = omega arith in
      cond_same (keeps k) (keeps (suc k + n)) k (suc k + n) _ _ (one_more_from (suc k) n)
      ∙ ap (λ j. with_variable (keeps j) j (S.closure_from ways uses l k (suc n))) e

  -- the closure with one variable more
  pub closure_more : (n : ℕ) → S.closure ways uses (n + 1) l ≡ with_variable (keeps n) n (S.closure ways uses n l)
  closure_more n =
      let e : n + 1 ≡ suc n = omega arith in
      let i : 0 + n ≡ n = omega arith in
      ap (λ j. S.closure_from ways uses l 0 j) e ∙ one_more_from 0 n ∙ ap (λ j. with_variable (keeps j) j (S.closure_from ways uses l 0 n)) i

-- ---- numbers

none_number : (n : ℕ) → All (IsNumber n) []
none_number n k d lt = absurd (omega (arith, lt))

one_number : (n x : ℕ) (xs : List ℕ) → x < n → All (IsNumber n) xs → All (IsNumber n) (x ∷ xs)
one_number n x xs h g zero d lt = h
one_number n x xs h g (suc k) d lt = g k d (omega (arith, lt))

before_if : (b : Bool) (n x : ℕ) (xs : List ℕ) → x < n → All (IsNumber n) xs → All (IsNumber n) (cond b (x ∷ xs) xs)
before_if true n x xs h g = one_number n x xs h g
before_if false n x xs h g = g

pub before_numbers : (n : ℕ) (links : List Link) (m : ℕ) → All (IsFrom n) links → All (IsNumber n) (S.before (links_of links) m)
before_numbers n [] m h = none_number n
before_numbers n (w ∷ links) m h = before_if (nat_eq m w.to) n w.from (S.before (links_of links) m) (h 0 w (omega arith)) (before_numbers n links m (λ k d lt. h (suc k) d (omega (arith, lt))))

pub rows_numbers : (n : ℕ) (links : List Link) (rows : List (List ℕ)) → RowsAre (links_of links) rows → All (IsFrom n) links → AreNumbers n rows
rows_numbers n links rows are h k d lt = subst (All (IsNumber n)) (sym (are k lt) ∙ get_or_default rows k [] d lt) (before_numbers n links k h)

-- ---- the search of a variable

pub length_links : (links : List Link) → length (links_of links) ≡ length links
length_links [] = refl
length_links (w ∷ links) = ap (λ n. suc n) (length_links links)

-- what the search of this variable marks is what keeps it
pub marks_keepers : (count : ℕ) (ways : List Link) (uses : List S.Link) (k : ℕ) (users : List ℕ) (marks : List Bool) → users ≡ S.before uses k
    → MarksAre count (S.search (links_of ways) (length users + length ways) users []) marks → MarksAre count (S.keepers (links_of ways) uses k) marks
marks_keepers count ways uses k users marks e m =
    subst (λ found. MarksAre count found marks)
    (ap (λ u. S.search (links_of ways) (length u + length ways) u []) e ∙ ap (λ n. S.search (links_of ways) (length (S.before uses k) + n) (S.before uses k) []) (sym (length_links ways))) m
