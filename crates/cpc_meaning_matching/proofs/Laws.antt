-- Rows between any two runs: how they are made, and what they give.
use Rattle.std.proofs.Common.{◌≡◌, ℕ, zero, suc, ◌+◌, ◌*◌, ◌-◌, ◌<◌, ◌≤◌, ◌⊎◌, inl, inr, ⊎_elim, refl, sym, ap, ◌∙◌, subst, arith}
use Rattle.std.proofs.lemmas.Bool.{cases_lt}
use Rattle.std.proofs.Math.Nat.{mul-le-mul_left}
use Rattle.cpc_meaning_matching.specs.Steps.{after}
use Rattle.cpc_meaning_matching.specs.Simulation.{spent, one, Rows, Row}

-- n steps and j more
pub after-add : {S : Type 0} (step : S → S) (s : S) (n j : ℕ) → after step (after step s n) j ≡ after step s (n + j)
after-add step s n zero = ap (after step s) (omega arith)
after-add step s n (suc j) =
    let e : suc (n + j) ≡ n + suc j = omega arith in
    ap step (after-add step s n j) ∙ ap (after step s) e

-- what n steps and j more cost
pub spent-add : {S : Type 0} (w : S → ℕ) (step : S → S) (s : S) (n j : ℕ) → spent w (after step s) (n + j) ≡ spent w (after step s) n + spent w (after step (after step s n)) j
spent-add w step s n zero = let e : n + 0 ≡ n = omega arith in omega (arith, ap (spent w (after step s)) e)
spent-add w step s n (suc j) =
    let e : n + suc j ≡ suc (n + j) = omega arith in
    omega (arith, ap (spent w (after step s)) e, spent-add w step s n j, ap w (after-add step s n j))

pub spent-one : {S : Type 0} (a : ℕ → S) (n : ℕ) → spent one a n ≡ n
spent-one a zero = refl
spent-one a (suc n) = omega (arith, spent-one a n)

pub spent-within : {S : Type 0} (w : S → ℕ) (c : ℕ) (a : ℕ → S) → ((m : ℕ) → w (a m) ≤ c) → (n : ℕ) → spent w a n ≤ c * n
spent-within w c a le zero = omega arith
spent-within w c a le (suc n) = omega (arith, spent-within w c a le n, le n)

-- a relation between states with a row for each step makes rows between runs
module _ {S T : Type 0} (stepA : S → S) (stepB : T → T) (s : S) (t : T) (Live : S → Type 0) (R Meet Near : S → T → Type 0) (Ga : S → Type 0) (Gb : T → Type 0) (wa : S → ℕ) (wb : T → ℕ) (live : (m : ℕ) → Live (after stepA s m)) (opens : R s t) (meet : (x : S) (y : T) → Live x → R x y → Meet x y) (rows : (x : S) (y : T) → Live x → Live (stepA x) → R x y → Row stepB wb (R (stepA x)) (λ z. Near x z ⊎ Near (stepA x) z) (λ z. Ga x → Gb z) (wa x) y) where
  -- the state of b that is related to the state m of a
  abbrev Related : ℕ → Type 0
  Related m = (n : ℕ) × R (after stepA s m) (after stepB t n)

  abbrev row_of : (m : ℕ) → (w : Related m) → Row stepB wb (R (stepA (after stepA s m))) (λ z. Near (after stepA s m) z ⊎ Near (stepA (after stepA s m)) z) (λ z. Ga (after stepA s m) → Gb z) (wa (after stepA s m)) (after stepB t w.0)
  row_of m w = rows (after stepA s m) (after stepB t w.0) (live m) (live (suc m)) w.1

  abbrev walk : (m : ℕ) → Related m
  walk zero = (0, opens)
  walk (suc m) =
      let w = walk m in
      let r = row_of m w in
      (w.0 + r.steps, subst (R (stepA (after stepA s m))) (after-add stepB t w.0 r.steps) r.ends)

  pub rows_of_relation : Rows Meet Near Ga Gb wa wb (after stepA s) (after stepB t)
  rows_of_relation = record {
    place = λ m. (walk m).0;
    opens = refl;
    rises = λ m. let p = (row_of m (walk m)).some in omega (arith, p);
    cost = λ m. let p = (row_of m (walk m)).within in omega (arith, p, spent-add wb stepB t (walk m).0 (row_of m (walk m)).steps);
    meets = λ m. meet _ _ (live m) (walk m).1;
    inside = λ m n lo hi.
        let w = walk m in
        let r = row_of m w in
        let e : w.0 + (n - w.0) ≡ n = omega arith in
        let N : T → Type 0 = λ z. Near (after stepA s m) z ⊎ Near (stepA (after stepA s m)) z in
        subst N (after-add stepB t w.0 (n - w.0) ∙ ap (after stepB t) e) (r.between (n - w.0) (omega arith) (omega arith));
    goes_on = λ m n lo hi.
        let w = walk m in
        let r = row_of m w in
        let e : w.0 + (n - w.0) ≡ n = omega arith in
        let G : T → Type 0 = λ z. Ga (after stepA s m) → Gb z in
        subst G (after-add stepB t w.0 (n - w.0) ∙ ap (after stepB t) e) (r.goes (n - w.0) (omega arith));
  }

-- each state of the target is in a row
module _ {S T : Type 0} {Meet Near : S → T → Type 0} {Ga : S → Type 0} {Gb : T → Type 0} {wa : S → ℕ} {wb : T → ℕ} {a : ℕ → S} {b : ℕ → T} (r : Rows Meet Near Ga Gb wa wb a b) where
  pub place_ge : (m : ℕ) → m ≤ r.place m
  place_ge zero = omega arith
  place_ge (suc m) = omega (arith, place_ge m, r.rises m)

  pub place_cost : (m : ℕ) → spent wb b (r.place m) ≤ spent wa a m
  place_cost zero = omega (arith, ap (spent wb b) r.opens)
  place_cost (suc m) = omega (arith, place_cost m, r.cost m)

  -- what any rows cost
  pub rows_cost : (m j : ℕ) → spent wb b (r.place (m + j)) + spent wa a m ≤ spent wb b (r.place m) + spent wa a (m + j)
  rows_cost m zero = let e : m + 0 ≡ m = omega arith in omega (arith, ap (λ n. spent wb b (r.place n)) e, ap (spent wa a) e)
  rows_cost m (suc j) =
      let e : m + suc j ≡ suc (m + j) = omega arith in
      omega (arith, rows_cost m j, r.cost (m + j), ap (λ n. spent wb b (r.place n)) e, ap (spent wa a) e)

  pub place_rises_by : (m j : ℕ) → r.place m + j ≤ r.place (m + j)
  place_rises_by m zero = let e : m + 0 ≡ m = omega arith in omega (arith, ap r.place e)
  place_rises_by m (suc j) = let e : m + suc j ≡ suc (m + j) = omega arith in omega (arith, place_rises_by m j, r.rises (m + j), ap r.place e)

  pub place_mono : (i j : ℕ) → i ≤ j → r.place i ≤ r.place j
  place_mono i j h = let e : i + (j - i) ≡ j = omega arith in omega (arith, place_rises_by i (j - i), ap r.place e)

  -- the row of a state of b
  pub row_at : (n : ℕ) → (m : ℕ) × (r.place m ≤ n) × (n < r.place (suc m))
  row_at zero = (0, omega (arith, r.opens), omega (arith, r.rises 0))
  row_at (suc n) =
      let h = row_at n in
      ⊎_elim
      (λ lt. (h.0, omega (arith, h.1), lt))
      (λ le. (suc h.0, le, omega (arith, h.2, r.rises (suc h.0))))
      (cases_lt (suc n) (r.place (suc h.0)))

  -- a state of b is near one of the two ends of its row
  pub near_ends : ((x : S) (y : T) → Meet x y → Near x y) → (m n : ℕ) → r.place m ≤ n → n ≤ r.place (suc m) → Near (a m) (b n) ⊎ Near (a (suc m)) (b n)
  near_ends up m n lo hi =
      ⊎_elim
      (λ lt.
      ⊎_elim
      (λ gt. r.inside m n lt gt)
      (λ le. let e : r.place (suc m) ≡ n = omega arith in inr (up _ _ (subst (λ i. Meet (a (suc m)) (b i)) e (r.meets (suc m)))))
      (cases_lt n (r.place (suc m))))
      (λ le. let e : r.place m ≡ n = omega arith in inl (up _ _ (subst (λ i. Meet (a m) (b i)) e (r.meets m))))
      (cases_lt (r.place m) n)

  -- the row that a state of b is near to, with its end behind that state
  pub near_row : ((x : S) (y : T) → Meet x y → Near x y) → (n : ℕ) → (m : ℕ) × (m ≤ n) × (n < r.place (suc m)) × Near (a m) (b n)
  near_row up n =
      let h = row_at n in
      ⊎_elim
      (λ lt.
      ⊎_elim
      (λ p. (h.0, omega (arith, place_ge h.0, h.1), h.2, p))
      (λ p. (suc h.0, omega (arith, place_ge h.0, lt), omega (arith, h.2, r.rises (suc h.0)), p))
      (r.inside h.0 n lt h.2))
      (λ le. let e : r.place h.0 ≡ n = omega (arith, h.1) in (h.0, omega (arith, place_ge h.0), h.2, up _ _ (subst (λ i. Meet (a h.0) (b i)) e (r.meets h.0))))
      (cases_lt (r.place h.0) n)

  pub near_some : ((x : S) (y : T) → Meet x y → Near x y) → (n : ℕ) → (m : ℕ) × (m ≤ n) × Near (a m) (b n)
  near_some up n = let h = near_row up n in (h.0, h.1, h.3)

-- the row of b whose row of c has a state of c is in the row of a
between : {S T U : Type 0} {Meet1 Near1 : S → T → Type 0} {Meet2 Near2 : T → U → Type 0} {Ga : S → Type 0} {Gb : T → Type 0} {Gc : U → Type 0} {wa : S → ℕ} {wb : T → ℕ} {wc : U → ℕ} {a : ℕ → S} {b : ℕ → T} {c : ℕ → U} (p : Rows Meet1 Near1 Ga Gb wa wb a b) (q : Rows Meet2 Near2 Gb Gc wb wc b c) (m n : ℕ) → q.place (p.place m) ≤ n → n < q.place (p.place (suc m)) → (p.place m ≤ (row_at q n).0) × ((row_at q n).0 < p.place (suc m))
between p q m n lo hi =
    let h = row_at q n in (
      ⊎_elim
          (λ lt. absurd (omega (arith, h.2, place_mono q (suc h.0) (p.place m) (omega arith))))
          (λ le. le)
          (cases_lt h.0 (p.place m)),
      ⊎_elim
          (λ lt. lt)
          (λ le. absurd (omega (arith, h.1, place_mono q (p.place (suc m)) h.0 le)))
          (cases_lt h.0 (p.place (suc m))),
    )

join : {S T U : Type 0} {Near1 : S → T → Type 0} {Near2 : T → U → Type 0} {Near3 : S → U → Type 0} → ((x : S) (y : T) (z : U) → Near1 x y → Near2 y z → Near3 x z) → (x x' : S) (y : T) (z : U) → Near1 x y ⊎ Near1 x' y → Near2 y z → Near3 x z ⊎ Near3 x' z
join near x x' y z h g = ⊎_elim (λ n. inl (near x y z n g)) (λ n. inr (near x' y z n g)) h

-- rows compose, and so do their costs
module _ {S T U : Type 0} {Meet1 Near1 : S → T → Type 0} {Meet2 Near2 : T → U → Type 0} {Meet3 Near3 : S → U → Type 0} {Ga : S → Type 0} {Gb : T → Type 0} {Gc : U → Type 0} {wa : S → ℕ} {wb : T → ℕ} {wc : U → ℕ} {a : ℕ → S} {b : ℕ → T} {c : ℕ → U} (up1 : (x : S) (y : T) → Meet1 x y → Near1 x y) (up2 : (y : T) (z : U) → Meet2 y z → Near2 y z) (meet : (x : S) (y : T) (z : U) → Meet1 x y → Meet2 y z → Meet3 x z) (near : (x : S) (y : T) (z : U) → Near1 x y → Near2 y z → Near3 x z) where
  pub rows_compose : Rows Meet1 Near1 Ga Gb wa wb a b → Rows Meet2 Near2 Gb Gc wb wc b c → Rows Meet3 Near3 Ga Gc wa wc a c
  rows_compose p q = record {
    place = λ m. q.place (p.place m);
    opens = ap q.place p.opens ∙ q.opens;
    rises = λ m. omega (arith, p.rises m, q.rises (p.place m), place_mono q (suc (p.place m)) (p.place (suc m)) (p.rises m));
    cost = λ m.
        let d : ℕ = p.place (suc m) - p.place m in
        let e : p.place m + d ≡ p.place (suc m) = omega (arith, p.rises m) in
        omega (arith, p.cost m, rows_cost q (p.place m) d, ap (λ n. spent wc c (q.place n)) e, ap (spent wb b) e);
    meets = λ m. meet _ _ _ (p.meets m) (q.meets (p.place m));
    inside = λ m n lo hi.
        let h = row_at q n in
        let k = between p q m n (omega arith) hi in
        ⊎_elim
        (λ g. join near (a m) (a (suc m)) (b h.0) (c n) (near_ends p up1 m h.0 k.0 (omega (arith, k.1))) g)
        (λ g. join near (a m) (a (suc m)) (b (suc h.0)) (c n) (near_ends p up1 m (suc h.0) (omega (arith, k.0)) (omega (arith, k.1))) g)
        (near_ends q up2 h.0 n h.1 (omega (arith, h.2)));
    goes_on = λ m n lo hi g.
        let h = row_at q n in
        let k = between p q m n lo hi in
        q.goes_on h.0 n h.1 h.2 (p.goes_on m h.0 k.0 k.1 g);
  }

-- rows with weaker relations and higher costs
pub rows_weaken : {S T : Type 0} {Meet Near Meet' Near' : S → T → Type 0} {Ga : S → Type 0} {Gb : T → Type 0} {wa wa' : S → ℕ} {wb : T → ℕ} {a : ℕ → S} {b : ℕ → T} → ((x : S) (y : T) → Meet x y → Meet' x y) → ((x : S) (y : T) → Near x y → Near' x y) → ((m : ℕ) → wa (a m) ≤ wa' (a m)) → Rows Meet Near Ga Gb wa wb a b → Rows Meet' Near' Ga Gb wa' wb a b
rows_weaken f g le r = record {
  place = r.place;
  opens = r.opens;
  rises = r.rises;
  cost = λ m. omega (arith, r.cost m, le m);
  meets = λ m. f _ _ (r.meets m);
  inside = λ m n lo hi. ⊎_elim (λ h. inl (g _ _ h)) (λ h. inr (g _ _ h)) (r.inside m n lo hi);
  goes_on = r.goes_on;
}

-- Where each step of b costs l, what cost k costs k * l: so rows of at most k steps and rows of at most l compose to rows of at most k * l
spent-times : {S : Type 0} (l : ℕ) (w : S → ℕ) (a : ℕ → S) (n : ℕ) → spent (λ s. w s * l) a n ≡ spent w a n * l
spent-times l w a zero = omega arith
spent-times l w a (suc n) = omega (arith, spent-times l w a n)

pub rows_scale : {S T : Type 0} (l : ℕ) {Meet Near : S → T → Type 0} {Ga : S → Type 0} {Gb : T → Type 0} {wa : S → ℕ} {wb : T → ℕ} {a : ℕ → S} {b : ℕ → T} → Rows Meet Near Ga Gb wa wb a b → Rows Meet Near Ga Gb (λ s. wa s * l) (λ t. wb t * l) a b
rows_scale l {wb = wb} {b = b} r = record {
  place = r.place;
  opens = r.opens;
  rises = r.rises;
  cost = λ m. omega (arith, mul-le-mul_left l (r.cost m), spent-times l wb b (r.place (suc m)), spent-times l wb b (r.place m));
  meets = r.meets;
  inside = r.inside;
  goes_on = r.goes_on;
}

-- no relation says more: rows are a relation with a row for each step, where the cost of a step is that of any state that it may leave
module _ {S T : Type 0} (Meet Near : S → T → Type 0) (Ga : S → Type 0) (Gb : T → Type 0) (wa : S → ℕ) (wb : T → ℕ) (stepA : S → S) (stepB : T → T) (s : S) (t : T) (r : Rows Meet Near Ga Gb wa wb (after stepA s) (after stepB t)) where
  abbrev pub Met : S → T → Type 0
  Met x y = (m : ℕ) × (x ≡ after stepA s m) × (y ≡ after stepB t (r.place m))

  pub met_opens : Met s t
  met_opens = (0, refl, ap (after stepB t) (sym r.opens))

  pub met_meets : (x : S) (y : T) → Met x y → Meet x y
  met_meets x y h = subst (λ z. Meet z y) (sym h.1) (subst (Meet (after stepA s h.0)) (sym h.2) (r.meets h.0))

  met_row : (m : ℕ) → Row stepB wb (Met (stepA (after stepA s m))) (λ z. Near (after stepA s m) z ⊎ Near (stepA (after stepA s m)) z) (λ z. Ga (after stepA s m) → Gb z) (wa (after stepA s m)) (after stepB t (r.place m))
  met_row m =
      let d : ℕ = r.place (suc m) - r.place m in
      let at_end : r.place m + d ≡ r.place (suc m) = omega (arith, r.rises m) in
      record {
        steps = d;
        some = omega (arith, r.rises m);
        within = omega (arith, r.cost m, spent-add wb stepB t (r.place m) d, ap (spent wb (after stepB t)) at_end);
        ends = (suc m, refl, after-add stepB t (r.place m) d ∙ ap (after stepB t) at_end);
        between = λ i lo hi.
            let N : T → Type 0 = λ z. Near (after stepA s m) z ⊎ Near (stepA (after stepA s m)) z in
            subst N (sym (after-add stepB t (r.place m) i)) (r.inside m (r.place m + i) (omega arith) (omega arith));
        goes = λ i hi. subst (λ z. Ga (after stepA s m) → Gb z) (sym (after-add stepB t (r.place m) i)) (r.goes_on m (r.place m + i) (omega arith) (omega arith));
      }

  pub met_rows : (x : S) (y : T) → Met x y → Row stepB wb (Met (stepA x)) (λ z. Near x z ⊎ Near (stepA x) z) (λ z. Ga x → Gb z) (wa x) y
  met_rows x y h =
      let F : S → T → Type 0 = λ v z. Row stepB wb (Met (stepA v)) (λ u. Near v u ⊎ Near (stepA v) u) (λ u. Ga v → Gb u) (wa v) z in
      subst (λ v. F v y) (sym h.1) (subst (F (after stepA s h.0)) (sym h.2) (met_row h.0))

-- rows made step by step
module _ {T : Type 0} (step : T → T) (w : T → ℕ) (End Mid Go : T → Type 0) where
  pub row_last : (c : ℕ) (t : T) → w t ≤ c → Go t → End (step t) → Row step w End Mid Go c t
  row_last c t le g h = record { steps = 1; some = omega arith; within = omega arith; ends = h; between = λ i lo hi. absurd (omega arith); goes = λ i lt. let e : 0 ≡ i = omega arith in subst (λ n. Go (after step t n)) e g }

  -- a step, from whose state a row goes on
  pub row_more : (c d : ℕ) (t : T) → w t + d ≤ c → Go t → Mid (step t) → Row step w End Mid Go d (step t) → Row step w End Mid Go c t
  row_more c d t le g mid r =
      record {
        steps = suc r.steps;
        some = omega arith;
        within = let p = r.within in let e : 1 + r.steps ≡ suc r.steps = omega arith in omega (arith, spent-add w step t 1 r.steps, ap (spent w (after step t)) e);
        ends = subst End (after-first r.steps) r.ends;
        between = λ i lo hi. inner i lo hi;
        goes = λ i hi. each i hi;
      }
    where
      after-first : (j : ℕ) → after step (step t) j ≡ after step t (suc j)
      after-first zero = refl
      after-first (suc j) = ap step (after-first j)

      each : (i : ℕ) → i < suc r.steps → Go (after step t i)
      each zero hi = g
      each (suc j) hi = subst Go (after-first j) (r.goes j (omega arith))

      inner : (i : ℕ) → 0 < i → i < suc r.steps → Mid (after step t i)
      inner zero lo hi = absurd (omega arith)
      inner (suc zero) lo hi = mid
      inner (suc (suc j)) lo hi = subst Mid (after-first (suc j)) (r.between (suc j) (omega arith) (omega arith))
