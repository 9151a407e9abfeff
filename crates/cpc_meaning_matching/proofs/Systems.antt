-- What matching gives for systems.
use Rattle.std.proofs.Common.{◌≡◌, ℕ, zero, suc, ◌+◌, ◌*◌, ◌-◌, ◌<◌, ◌≤◌, inl, inr, ⊎_elim, refl, sym, ap, ◌∙◌, subst, arith, List, [], ◌++◌, append_assoc, Bool, true, false, Option, Some, None}
use Rattle.std.proofs.lemmas.Bool.{cases_lt, cases_Bool}
use Rattle.std.proofs.lemmas.List.{append-nil}
use Rattle.cpc_meaning_matching.specs.Steps.{or_stay}
use Rattle.cpc_meaning_matching.specs.Systems.{System, run, Goes, Alike, NotStuck, NeverStuck, Ends, Grows, RunsAlike, RunsWithin, EndsAt}
use Rattle.cpc_meaning_matching.specs.Simulation.{one, Rows, Matches, Follows, Kept}
use Rattle.cpc_meaning_matching.proofs.Laws.{place_mono, rows_scale, place_ge, place_cost, spent-one, spent-within, row_at, near_some, rows_compose, rows_weaken}

-- a run that is over
module _ {S M O : Type 0} {is_over : O → Bool} {A : System S M O} (ends : Ends is_over A) where
  pub stays : (s : S) → is_over (A.outcome s) ≡ true → or_stay s (A.next s) ≡ s
  stays s h = ap (or_stay s) (ends.none s h)

  pub over_stays_by : (m j : ℕ) → is_over (A.outcome (run A m)) ≡ true → run A (m + j) ≡ run A m
  over_stays_by m zero h = ap (run A) (omega arith)
  over_stays_by m (suc j) h =
      let e : m + suc j ≡ suc (m + j) = omega arith in
      ap (run A) e ∙ ap (λ s. or_stay s (A.next s)) (over_stays_by m j h) ∙ stays (run A m) h

  -- a run that is over stays
  pub over_stays : (m n : ℕ) → m ≤ n → is_over (A.outcome (run A m)) ≡ true → run A n ≡ run A m
  over_stays m n le h = let e : n ≡ m + (n - m) = omega arith in ap (run A) e ∙ over_stays_by m (n - m) h

  -- two states that are over are one
  pub one_end : (m n : ℕ) → is_over (A.outcome (run A m)) ≡ true → is_over (A.outcome (run A n)) ≡ true → run A m ≡ run A n
  one_end m n h g =
      ⊎_elim
      (λ lt. sym (over_stays m n (omega arith) h))
      (λ le. over_stays n m le g)
      (cases_lt m n)

  -- before a state that goes on each goes on
  pub going_before : (m n : ℕ) → m ≤ n → is_over (A.outcome (run A n)) ≡ false → is_over (A.outcome (run A m)) ≡ false
  going_before m n le h =
      ⊎_elim
      (λ t. absurd (let e = ap (λ s. is_over (A.outcome s)) (over_stays m n le t) in cc))
      (λ f. f)
      (cases_Bool (is_over (A.outcome (run A m))))

  -- a run that is over at n is over first at some m up to n
  pub first_end : (n : ℕ) → is_over (A.outcome (run A n)) ≡ true → (m : ℕ) × (m ≤ n) × EndsAt is_over A m
  first_end zero h = (0, omega arith, record { over = h; first = λ i lt. absurd (omega arith) })
  first_end (suc n) h =
      ⊎_elim
      (λ t. let f = first_end n t in (f.0, omega (arith, f.1), f.2))
      (λ g. (suc n, omega arith, record { over = h; first = λ i lt. going_before i n (omega arith) g }))
      (cases_Bool (is_over (A.outcome (run A n))))

  pub one_first : (m n : ℕ) → EndsAt is_over A m → EndsAt is_over A n → m ≡ n
  one_first m n p q =
      ⊎_elim
      (λ lt. absurd (let a = p.over in let b = q.first m lt in cc))
      (λ le.
      ⊎_elim
      (λ lt. absurd (let a = q.over in let b = p.first n lt in cc))
      (λ ge. omega arith)
      (cases_lt n m))
      (cases_lt m n)

-- marks stay
module _ {S M O : Type 0} {A : System S M O} (grows : Grows A) where
  grows_or_stays : (s : S) (o : Option S) → A.next s ≡ o → (marks : List M) × (A.trace (or_stay s o) ≡ A.trace s ++ marks)
  grows_or_stays s None e = ([], sym (append-nil (A.trace s)))
  grows_or_stays s (Some t) e = grows.adds s t e

  pub trace_prefix_by : (m j : ℕ) → (marks : List M) × (A.trace (run A (m + j)) ≡ A.trace (run A m) ++ marks)
  trace_prefix_by m zero = let e : m + 0 ≡ m = omega arith in ([], ap (λ n. A.trace (run A n)) e ∙ sym (append-nil (A.trace (run A m))))
  trace_prefix_by m (suc j) =
      let e : m + suc j ≡ suc (m + j) = omega arith in
      let h = trace_prefix_by m j in
      let g = grows_or_stays (run A (m + j)) (A.next (run A (m + j))) refl in
      (h.0 ++ g.0, ap (λ n. A.trace (run A n)) e ∙ g.1 ∙ ap (λ t. t ++ g.0) h.1 ∙ append_assoc (A.trace (run A m)) h.0 g.0)

  pub trace_prefix : (m n : ℕ) → m ≤ n → (marks : List M) × (A.trace (run A n) ≡ A.trace (run A m) ++ marks)
  trace_prefix m n le =
      let e : n ≡ m + (n - m) = omega arith in
      let h = trace_prefix_by m (n - m) in
      (h.0, ap (λ i. A.trace (run A i)) e ∙ h.1)

-- matching makes runs alike
module _ {S T M O : Type 0} {is_over : O → Bool} {A : System S M O} {B : System T M O} {wa : S → ℕ} {wb : T → ℕ} (ends_a : Ends is_over A) (r : Matches A B wa wb) where
  pub matches_found : (n : ℕ) → (m : ℕ) × (m ≤ n) × Alike A B (run A m) (run B n)
  matches_found n = near_some r (λ x y h. h) n

  live_at : NeverStuck is_over A → (n : ℕ) → NotStuck is_over B (run B n)
  live_at live n =
      let h = row_at r n in
      ⊎_elim
      (λ over.
      let at_next : run A (suc h.0) ≡ run A h.0 = stays ends_a (run A h.0) over in
      let F : S → Type 0 = λ s. Alike A B s (run B n) → is_over (B.outcome (run B n)) ≡ true in
      let here : F (run A h.0) = λ k. ap is_over (sym k.outcome) ∙ over in
      inl (⊎_elim
      (λ lt. ⊎_elim here (λ k. subst F (sym at_next) here k) (r.inside h.0 n lt h.2))
      (λ le. let e : r.place h.0 ≡ n = omega (arith, h.1) in here (subst (λ i. Alike A B (run A h.0) (run B i)) e (r.meets h.0)))
      (cases_lt (r.place h.0) n)))
      (λ goes. inr (r.goes_on h.0 n h.1 h.2 goes))
      (live.here h.0)

  -- a state of B is over, or is left by a step
  pub matches_live : NeverStuck is_over A → NeverStuck is_over B
  matches_live live = record { here = live_at live }

  pub matches_same_runs : NeverStuck is_over A → RunsAlike is_over A B
  matches_same_runs live = record {
    reached = λ m. (r.place m, place_ge r m, r.meets m);
    found = matches_found;
    first_never_stuck = live;
    second_never_stuck = matches_live live;
  }

module _ {S T M O : Type 0} {A : System S M O} {B : System T M O} {wa : S → ℕ} {c : ℕ} (le : (m : ℕ) → wa (run A m) ≤ c) (r : Matches A B wa one) where
  pub place_within : (m : ℕ) → r.place m ≤ c * m
  place_within m = omega (arith, place_cost r m, spent-one (run B) (r.place m), spent-within wa c (run A) le m)

  pub matches_within : RunsWithin A B c
  matches_within m =
      (r.place m, place_ge r m, omega (arith, place_within m), r.meets m)

-- matching composes, and so do costs
pub alike_compose : {S T U M O : Type 0} {A : System S M O} {B : System T M O} {C : System U M O} (x : S) (y : T) (z : U) → Alike A B x y → Alike B C y z → Alike A C x z
alike_compose x y z p q = record { trace = p.trace ∙ q.trace; outcome = p.outcome ∙ q.outcome }

pub matches_compose : {S T U M O : Type 0} {A : System S M O} {B : System T M O} {C : System U M O} {wa : S → ℕ} {wb : T → ℕ} {wc : U → ℕ} → Matches A B wa wb → Matches B C wb wc → Matches A C wa wc
matches_compose p q = rows_compose (λ x y h. h) (λ y z h. h) alike_compose alike_compose p q

pub follows_compose : {H S T U M O : Type 0} {is_over : O → Bool} {A : H → System S M O} {B : H → System T M O} {C : H → System U M O} {wa : S → ℕ} {wb : T → ℕ} {wc : U → ℕ} → ((h : H) → Ends is_over (A h)) → Follows is_over A B wa wb → Follows is_over B C wb wc → Follows is_over A C wa wc
follows_compose ends p q = record {
  on = λ h live.
      let r = p.on h live in
      matches_compose r (q.on h (matches_live (ends h) r live));
}

-- A is over where B is, with one trace and outcome
module _ {S T M O : Type 0} {is_over : O → Bool} {A : System S M O} {B : System T M O} {wa : S → ℕ} {wb : T → ℕ} (ends_b : Ends is_over B) (r : Matches A B wa wb) where
  pub end_reached : (m : ℕ) → is_over (A.outcome (run A m)) ≡ true → (n : ℕ) × (n ≤ r.place m) × EndsAt is_over B n × Alike A B (run A m) (run B n)
  end_reached m h =
      let at_b : is_over (B.outcome (run B (r.place m))) ≡ true = ap is_over (sym (r.meets m).outcome) ∙ h in
      let f = first_end ends_b (r.place m) at_b in
      let e = over_stays ends_b f.0 (r.place m) f.1 f.2.over in
      (f.0, f.1, f.2, subst (Alike A B (run A m)) e (r.meets m))

  pub end_found : Ends is_over A → (n : ℕ) → is_over (B.outcome (run B n)) ≡ true → (m : ℕ) × (m ≤ n) × (is_over (A.outcome (run A m)) ≡ true) × Alike A B (run A m) (run B n)
  end_found ends_a n h = let f = matches_found ends_a r n in (f.0, f.1, ap is_over f.2.outcome ∙ h, f.2)

-- a run of A that is over within m steps is one of B that is over within c * m steps
pub end_within : {S T M O : Type 0} {is_over : O → Bool} {A : System S M O} {B : System T M O} {wa : S → ℕ} {c : ℕ} → ((m : ℕ) → wa (run A m) ≤ c) → Ends is_over B → Matches A B wa one → (m : ℕ) → is_over (A.outcome (run A m)) ≡ true → (n : ℕ) × (n ≤ c * m) × EndsAt is_over B n × Alike A B (run A m) (run B n)
end_within le ends r m h =
    let f = end_reached ends r m h in
    (f.0, omega (arith, f.1, place_within le r m), f.2, f.3)

-- where nothing runs, and cells
pub kept_compose : {S T U M O : Type 0} {A : System S M O} {B : System T M O} {C : System U M O} {ia : S → Bool} {ib : T → Bool} {ic : U → Bool} {P : S → T → Type 0} {Q : T → U → Type 0} {PQ : S → U → Type 0} {ca : S → ℕ} {cb : T → ℕ} {cells_c : U → ℕ} {d e : ℕ} → ((x : S) (y : T) (z : U) → P x y → Q y z → PQ x z) → (x : S) (y : T) (z : U) → Kept A B ia ib P ca cb d x y → Kept B C ib ic Q cb cells_c e y z → Kept A C ia ic PQ ca cells_c (d + e) x z
kept_compose join x y z p q = record {
  alike = alike_compose x y z p.alike q.alike;
  idle = λ h. let g = q.idle h in let f = p.idle g.0 in (f.0, join x y z f.1 g.1);
  cells = omega (arith, p.cells, q.cells);
}

module _ {S T M O : Type 0} {A : System S M O} {B : System T M O} {ia : S → Bool} {ib : T → Bool} {P : S → T → Type 0} {ca : S → ℕ} {cb : T → ℕ} {d : ℕ} {wa : S → ℕ} {wb : T → ℕ} (r : Rows (Kept A B ia ib P ca cb d) (Kept A B ia ib P ca cb d) (Goes A) (Goes B) wa wb (run A) (run B)) where
  kept_found : (n : ℕ) → (m : ℕ) × (m ≤ n) × Kept A B ia ib P ca cb d (run A m) (run B n)
  kept_found n = near_some r (λ x y p. p) n

  pub idle_found : (n : ℕ) → ib (run B n) ≡ true → (m : ℕ) × (m ≤ n) × Alike A B (run A m) (run B n) × (ia (run A m) ≡ true) × P (run A m) (run B n)
  idle_found n h = let f = kept_found n in let g = f.2.idle h in (f.0, f.1, f.2.alike, g.0, g.1)

  pub cells_found : (n : ℕ) → (m : ℕ) × (m ≤ n) × Alike A B (run A m) (run B n) × (cb (run B n) ≤ ca (run A m) + d)
  cells_found n = let f = kept_found n in (f.0, f.1, f.2.alike, f.2.cells)

  pub kept_matches : Matches A B wa wb
  kept_matches = rows_weaken (λ x y p. p.alike) (λ x y p. p.alike) (λ m. omega arith) r

-- the row's last step ends the run, and makes the mark: B is first over where it meets the first state of A that is over
module _ {S T M O : Type 0} {is_over : O → Bool} {A : System S M O} {B : System T M O} {wa : S → ℕ} {wb : T → ℕ} (live : NeverStuck is_over A) (ends_b : Ends is_over B) (r : Matches A B wa wb) where
  goes_not_over : (t : T) → Goes B t → is_over (B.outcome t) ≡ false
  goes_not_over t g =
      ⊎_elim
      (λ o. absurd (let e = ends_b.none t o in let f = g.1 in cc))
      (λ f. f)
      (cases_Bool (is_over (B.outcome t)))

  -- inside the row of a step from a state that is not over, B is not over
  pub inside_goes : (m n : ℕ) → r.place m ≤ n → n < r.place (suc m) → is_over (A.outcome (run A m)) ≡ false → is_over (B.outcome (run B n)) ≡ false
  inside_goes m n lo hi f =
      ⊎_elim
      (λ o. absurd (cc))
      (λ g. goes_not_over (run B n) (r.goes_on m n lo hi g))
      (live.here m)

  -- where the step ends the run, the states inside the row are as before it
  pub inside_last : (m n : ℕ) → r.place m < n → n < r.place (suc m) → is_over (A.outcome (run A m)) ≡ false → is_over (A.outcome (run A (suc m))) ≡ true → Alike A B (run A m) (run B n)
  inside_last m n lo hi f t =
      ⊎_elim
      (λ h. h)
      (λ h. absurd (let e = ap is_over h.outcome in let g = inside_goes m n (omega arith) hi f in cc))
      (r.inside m n lo hi)

  pub end_place : (m : ℕ) → EndsAt is_over A m → EndsAt is_over B (r.place m)
  end_place m e = record {
    over = ap is_over (sym (r.meets m).outcome) ∙ e.over;
    first = λ i lt.
        let h = row_at r i in
        let before : h.0 < m =
        ⊎_elim
        (λ lt. lt)
        (λ le. absurd (omega (arith, h.1, place_mono r m h.0 le)))
        (cases_lt h.0 m) in
        inside_goes h.0 i h.1 h.2 (e.first h.0 before);
  }

-- rows of at most k steps and rows of at most l are rows of at most k * l
pub matches_times : {S T U M O : Type 0} {A : System S M O} {B : System T M O} {C : System U M O} {k l : ℕ} → Matches A B (λ s. k) one → Matches B C (λ t. l) one → Matches A C (λ s. k * l) one
matches_times {l = l} p q = matches_compose (rows_scale l p) (rows_weaken (λ x y h. h) (λ x y h. h) (λ m. omega arith) q)

-- what is kept composes
pub kept_rows_compose : {S T U M O : Type 0} {A : System S M O} {B : System T M O} {C : System U M O} {ia : S → Bool} {ib : T → Bool} {ic : U → Bool} {P : S → T → Type 0} {Q : T → U → Type 0} {PQ : S → U → Type 0} {ca : S → ℕ} {cb : T → ℕ} {cells_c : U → ℕ} {d e : ℕ} {wa : S → ℕ} {wb : T → ℕ} {wc : U → ℕ} → ((x : S) (y : T) (z : U) → P x y → Q y z → PQ x z) → Rows (Kept A B ia ib P ca cb d) (Kept A B ia ib P ca cb d) (Goes A) (Goes B) wa wb (run A) (run B) → Rows (Kept B C ib ic Q cb cells_c e) (Kept B C ib ic Q cb cells_c e) (Goes B) (Goes C) wb wc (run B) (run C) → Rows (Kept A C ia ic PQ ca cells_c (d + e)) (Kept A C ia ic PQ ca cells_c (d + e)) (Goes A) (Goes C) wa wc (run A) (run C)
kept_rows_compose join p q = rows_compose (λ x y h. h) (λ y z h. h) (kept_compose join) (kept_compose join) p q

-- a system matches itself
pub matches_self : {S M O : Type 0} (A : System S M O) (w : S → ℕ) → Matches A A w w
matches_self A w = record {
  place = λ m. m;
  opens = refl;
  rises = λ m. omega arith;
  cost = λ m. omega arith;
  meets = λ m. record { trace = refl; outcome = refl };
  inside = λ m n lo hi. absurd (omega arith);
  goes_on = λ m n lo hi g. let e : m ≡ n = omega arith in subst (λ i. Goes A (run A i)) e g;
}
