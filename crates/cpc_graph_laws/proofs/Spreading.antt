-- Marks that are spread from the owners are the owners at the end.
use Rattle.std.proofs.Common.{◌≡◌, ◌≢◌, ℕ, zero, suc, ◌+◌, ◌<◌, ◌≤◌, ◌==◌, ◌||◌, ◌⊎◌, inl, inr, ⊎_elim, Bool, true, false, List, [], ◌∷◌, ◌++◌, length, slice_get, slice_set, is_some, Option, Some, None, refl, sym, ◌∙◌, ap, subst, arith}
use Rattle.std.proofs.lemmas.List.{length-append}
use Rattle.cpc_base.proofs.Truth.{eq_means, eq_reflexive}
use Rattle.cpc_tree.specs.Lists.{holds_number}
use Rattle.cpc_store.proofs.StoreLemmas.{slice_get-set_same, slice_get-set_other}
use Rattle.cpc_meaning.proofs.Stores.{set_length}
use Rattle.cpc_forms.specs.Flow.{Place}
use Rattle.cpc_forms.specs.Spread.{Spread, known, mark_at, is_marked, visit_if, visit, visit_all, unmarked, left_to_do}
use Rattle.cpc_graph_laws.proofs.Formed.{in_either, in_left, in_right}

-- ---- small facts

pub some_not_none : {A : Type 0} (x : A) → ¬ (Some x ≡ None)
some_not_none x e = absurd (cc)

pub marked_some : (o : Option Place) → is_some o ≡ true → (l : Place) × (o ≡ Some l)
marked_some None e = absurd (cc)
marked_some (Some l) e = (l, refl)

pub some_marked : (o : Option Place) (l : Place) → o ≡ Some l → is_some o ≡ true
some_marked o l e = ap is_some e

unmarked_none : (o : Option Place) → is_some o ≡ false → o ≡ None
unmarked_none None e = refl
unmarked_none (Some l) e = absurd (cc)

other_numbers : (k n : ℕ) → (k == n) ≡ false → k ≢ n
other_numbers k n e i = absurd (grind (arith, e, i))

-- a mark that is set leaves one node less without a mark
set_unmarked : (os : List (Option Place)) (n : ℕ) (l : Place) → n < length os → known (slice_get os n) ≡ None → unmarked (slice_set os n (Some l)) + 1 ≡ unmarked os
set_unmarked [] n l h e = absurd (omega arith)
set_unmarked (None ∷ os) zero l h e = omega arith
set_unmarked (Some k ∷ os) zero l h e = absurd (cc)
set_unmarked (o ∷ os) (suc n) l h e = let i = set_unmarked os n l (omega arith) e in omega arith

-- ---- what a visit does

-- from s to t marks with l were set on nodes of R alone, none was taken back, and what was marked waits
pub record Grown (R : ℕ → Type 0) (l : Place) (s t : Spread) : Type 0 where
  pub long : length t.owners ≡ length s.owners
  pub kept : (n : ℕ) (k : Place) → mark_at s n ≡ Some k → mark_at t n ≡ Some k
  pub fresh : (n : ℕ) (k : Place) → mark_at t n ≡ Some k → (mark_at s n ≡ Some k) ⊎ ((mark_at s n ≡ None) × (k ≡ l) × R n)
  pub still : (n : ℕ) → holds_number s.waiting n ≡ true → holds_number t.waiting n ≡ true
  pub new : (n : ℕ) → is_marked t n ≡ true → (is_marked s n ≡ true) ⊎ (holds_number t.waiting n ≡ true)
  pub waits : (n : ℕ) → holds_number t.waiting n ≡ true → (holds_number s.waiting n ≡ true) ⊎ (is_marked t n ≡ true)
  pub less : left_to_do t ≤ left_to_do s

module _ (R : ℕ → Type 0) (l : Place) where
  grown_none : (s : Spread) → Grown R l s s
  grown_none s = record {
    long = refl;
    kept = λ n k e. e;
    fresh = λ n k e. inl e;
    still = λ n e. e;
    new = λ n e. inl e;
    waits = λ n e. inl e;
    less = omega arith;
  }

  pub kept_marked : (s t : Spread) (n : ℕ) → ((k : Place) → mark_at s n ≡ Some k → mark_at t n ≡ Some k) → is_marked s n ≡ true → is_marked t n ≡ true
  kept_marked s t n h e = let x = marked_some (mark_at s n) e in some_marked (mark_at t n) x.0 (h x.0 x.1)

  kept_none : (s t : Spread) (n : ℕ) → ((k : Place) → mark_at s n ≡ Some k → mark_at t n ≡ Some k) → mark_at t n ≡ None → mark_at s n ≡ None
  kept_none s t n h e = go (mark_at s n) refl
    where
      go : (o : Option Place) → mark_at s n ≡ o → mark_at s n ≡ None
      go None i = i
      go (Some k) i = absurd (some_not_none k (sym (h k i) ∙ e))

  grown_then : (s t u : Spread) → Grown R l s t → Grown R l t u → Grown R l s u
  grown_then s t u a b = record {
    long = b.long ∙ a.long;
    kept = λ n k e. b.kept n k (a.kept n k e);
    fresh = λ n k e. ⊎_elim (λ h. a.fresh n k h) (λ h. inr (kept_none s t n (a.kept n) h.0, h.1, h.2)) (b.fresh n k e);
    still = λ n e. b.still n (a.still n e);
    new = λ n e. ⊎_elim (λ h. ⊎_elim (λ i. inl i) (λ i. inr (b.still n i)) (a.new n h)) (λ h. inr h) (b.new n e);
    waits = λ n e. ⊎_elim (λ h. ⊎_elim (λ i. inl i) (λ i. inr (kept_marked t u n (b.kept n) i)) (a.waits n h)) (λ h. inr h) (b.waits n e);
    less = let i = a.less in let j = b.less in omega arith;
  }

  -- where no mark was known
  module _ (s : Spread) (m : ℕ) (there : m < length s.owners) (none : mark_at s m ≡ None) (r : R m) where
    abbrev set : Spread
    set = record { owners = slice_set s.owners m (Some l); waiting = s.waiting ++ (m ∷ []) }

    set_here : mark_at set m ≡ Some l
    set_here = ap known (slice_get-set_same s.owners m (Some l) there)

    set_there : (n : ℕ) → n ≢ m → mark_at set n ≡ mark_at s n
    set_there n h = ap known (slice_get-set_other s.owners m n (Some l) h)

    module _ (n : ℕ) where
      set_kept : (b : Bool) → (n == m) ≡ b → (k : Place) → mark_at s n ≡ Some k → mark_at set n ≡ Some k
      set_kept true i k e = absurd (some_not_none k (sym e ∙ ap (mark_at s) (eq_means n m i) ∙ none))
      set_kept false i k e = set_there n (other_numbers n m i) ∙ e

      set_fresh : (b : Bool) → (n == m) ≡ b → (k : Place) → mark_at set n ≡ Some k → (mark_at s n ≡ Some k) ⊎ ((mark_at s n ≡ None) × (k ≡ l) × R n)
      set_fresh true i k e =
          let j = eq_means n m i in
          let both : Some k ≡ Some l = sym e ∙ ap (mark_at set) j ∙ set_here in
          inr (ap (mark_at s) j ∙ none, (cc), subst R (sym j) r)
      set_fresh false i k e = inl (sym (set_there n (other_numbers n m i)) ∙ e)

      in_new : (n == m) ≡ true → holds_number (s.waiting ++ (m ∷ [])) n ≡ true
      in_new i = in_right n s.waiting (m ∷ []) (ap (λ b. b || false) (subst (λ k. (k == n) ≡ true) (eq_means n m i) (eq_reflexive n)))

      set_new : (b : Bool) → (n == m) ≡ b → is_marked set n ≡ true → (is_marked s n ≡ true) ⊎ (holds_number (s.waiting ++ (m ∷ [])) n ≡ true)
      set_new true i e = inr (in_new i)
      set_new false i e = inl (sym (ap is_some (set_there n (other_numbers n m i))) ∙ e)

      one_waits : (b : Bool) → (m == n) ≡ b → (b || false) ≡ true → is_marked set n ≡ true
      one_waits true i e = subst (λ k. is_marked set k ≡ true) (eq_means m n i) (some_marked (mark_at set m) l set_here)
      one_waits false i e = absurd (cc)

      set_waits : holds_number (s.waiting ++ (m ∷ [])) n ≡ true → (holds_number s.waiting n ≡ true) ⊎ (is_marked set n ≡ true)
      set_waits e = ⊎_elim (λ h. inl h) (λ h. inr (one_waits (m == n) refl h)) (in_either n s.waiting (m ∷ []) e)

    grown_set : Grown R l s set
    grown_set = record {
      long = set_length s.owners m (Some l);
      kept = λ n k e. set_kept n (n == m) refl k e;
      fresh = λ n k e. set_fresh n (n == m) refl k e;
      still = λ n e. in_left n s.waiting (m ∷ []) e;
      new = λ n e. set_new n (n == m) refl e;
      waits = λ n e. set_waits n e;
      less =
          let a = set_unmarked s.owners m l there none in
          let b : length (s.waiting ++ (m ∷ [])) ≡ length s.waiting + 1 = length-append s.waiting (m ∷ []) in
          omega arith;
    }

  -- a visit, and after it the node is marked
  visit_case : (s : Spread) (m : ℕ) → m < length s.owners → R m → (b : Bool) → is_marked s m ≡ b → Grown R l s (visit_if b m l s) × (is_marked (visit_if b m l s) m ≡ true)
  visit_case s m there r true e = (grown_none s, e)
  visit_case s m there r false e = let h = unmarked_none (mark_at s m) e in (grown_set s m there h r, some_marked _ l (set_here s m there h r))

  pub visited : (s : Spread) (m : ℕ) → m < length s.owners → R m → Grown R l s (visit m l s) × (is_marked (visit m l s) m ≡ true)
  visited s m there r = visit_case s m there r (is_marked s m) refl

  all_case : (m n : ℕ) (ms : List ℕ) (b : Bool) → (m == n) ≡ b → (b || holds_number ms n) ≡ true → (m ≡ n) ⊎ (holds_number ms n ≡ true)
  all_case m n ms true i e = inl (eq_means m n i)
  all_case m n ms false i e = inr e

  pub visited_all : (ms : List ℕ) (s : Spread) → ((m : ℕ) → holds_number ms m ≡ true → (m < length s.owners) × R m) → Grown R l s (visit_all ms l s) × ((m : ℕ) → holds_number ms m ≡ true → is_marked (visit_all ms l s) m ≡ true)
  visited_all [] s h = (grown_none s, λ m e. absurd (cc))
  visited_all (m ∷ ms) s h =
      let here = h m (ap (λ b. b || holds_number ms m) (eq_reflexive m)) in
      let a = visited s m here.0 here.1 in
      let rest = visited_all ms (visit m l s) (λ n e. let x = h n (right (m == n) e) in (subst (λ k. n < k) (sym a.0.long) x.0, x.1)) in (
        grown_then s (visit m l s) (visit_all ms l (visit m l s)) a.0 rest.0,
        λ n e. ⊎_elim (λ i. subst (λ k. is_marked (visit_all ms l (visit m l s)) k ≡ true) i (kept_marked (visit m l s) (visit_all ms l (visit m l s)) m (rest.0.kept m) a.1)) (λ i. rest.1 n i) (all_case m n ms (m == n) refl e),
      )
    where
      right : (b : Bool) {c : Bool} → c ≡ true → (b || c) ≡ true
      right true e = refl
      right false e = e
