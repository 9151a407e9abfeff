-- The refusals of simulations, on systems of three states.
use Rattle.std.proofs.Common.{◌≡◌, ℕ, zero, suc, ◌-◌, ◌⊎◌, inl, inr, ⊎_elim, refl, sym, ap, subst, arith, true, Some, None}
use Rattle.std.proofs.lemmas.Bool.{cases_lt}
use Rattle.cpc_meaning_matching.specs.Steps.{or_stay}
use Rattle.cpc_meaning_matching.specs.Systems.{run, Goes, Alike, NotStuck, NeverStuck, Ends}
use Rattle.cpc_meaning_matching.specs.Simulation.{one, Path, Last as LastStep, More}
use Rattle.cpc_meaning_matching.specs.Refusals.{Place, First, Middle, Last, short, long, endless, broken, both_at_once, one_by_one, BoundsCount, RowsAreNotEmpty, RowsAreNotStuck, RowsShowNothingElse}
use Rattle.cpc_meaning_matching.proofs.Laws.{spent-one}
use Rattle.cpc_meaning_matching.proofs.Paths.{matches_of_paths}

-- ---- two steps for one

-- the target is where the source is, at the start or at the end
data Together : Place → Place → Type 0 where
  AtFirst : Together First First
  AtLast : Together Last Last

short_ends : Ends (λ b. b) short
short_ends = record { none = none }
  where
    none : (s : Place) → short.outcome s ≡ true → short.next s ≡ None
    none First e = absurd (cc)
    none Middle e = absurd (cc)
    none Last e = refl

long_ends : Ends (λ b. b) long
long_ends = record { none = none }
  where
    none : (s : Place) → long.outcome s ≡ true → long.next s ≡ None
    none First e = absurd (cc)
    none Middle e = absurd (cc)
    none Last e = refl

-- after its step the short one stays
short_rests : (n : ℕ) → run short (suc n) ≡ Last
short_rests zero = refl
short_rests (suc n) = ap (λ s. or_stay s (short.next s)) (short_rests n)

short_lives : NeverStuck (λ b. b) short
short_lives = record { here = here }
  where
    here : (n : ℕ) → NotStuck (λ b. b) short (run short n)
    here zero = inr (Last, refl)
    here (suc n) = inl (ap short.outcome (short_rests n))

together_alike : (x y : Place) → Together x y → Alike short long x y
together_alike _ _ AtFirst = record { trace = refl; outcome = refl }
together_alike _ _ AtLast = record { trace = refl; outcome = refl }

together_paths : (x x' y : Place) → short.next x ≡ Some x' → NotStuck (λ b. b) short x' → Together x y
    → Path long.next one (Together x') (λ z. Alike short long x z ⊎ Alike short long x' z) 2 y
together_paths _ x' _ e l AtFirst =
    let f : Last ≡ x' = cc in
    More 2 1 First Middle refl (omega arith) (inl (record { trace = refl; outcome = refl }))
    (LastStep 1 Middle Last refl (omega arith) (subst (λ z. Together z Last) f AtLast))
together_paths _ x' _ e l AtLast = absurd (cc)

pub bounds_count : BoundsCount
bounds_count = (
  matches_of_paths short_ends long_ends short_lives (λ s. 2) one Together AtFirst together_alike (λ x y o r. omega arith) together_paths,
  λ r.
      let e : r.place 1 ≡ 1 = omega (arith, r.opens, r.rises 0, r.cost 0, spent-one (run long) (r.place 1), spent-one (run long) (r.place 0)) in
      let m = subst (λ i. Alike short long Last (run long i)) e (r.meets 1) in
      let t = m.trace in
      absurd (cc),
)

-- ---- no step for one

pub rows_are_not_empty : RowsAreNotEmpty
rows_are_not_empty wa wb r =
    let lo = r.rises 0 in
    let e : suc (r.place 1 - 1) ≡ r.place 1 = omega (arith, lo) in
    let m = subst (λ i. Alike long short Middle (run short i)) (sym e) (r.meets 1) in
    let t = (subst (λ s. Alike long short Middle s) (short_rests (r.place 1 - 1)) m).trace in
    absurd (cc)

-- ---- stuck

broken_rests : (n : ℕ) → run broken (suc n) ≡ Last
broken_rests zero = refl
broken_rests (suc n) = ap (λ s. or_stay s (broken.next s)) (broken_rests n)

last_is_stuck : ¬ Goes broken Last
last_is_stuck g = let e = g.1 in absurd (cc)

pub rows_are_not_stuck : RowsAreNotStuck
rows_are_not_stuck wa wb r =
    let lo = r.rises 0 in
    let e : suc (r.place 1 - 1) ≡ r.place 1 = omega (arith, lo) in
    let g = r.goes_on 1 (r.place 1) (omega arith) (r.rises 1) (run endless 1, refl) in
    last_is_stuck (subst (Goes broken) (broken_rests (r.place 1 - 1)) (subst (λ i. Goes broken (run broken i)) (sym e) g))

-- ---- something else is shown

middle_is_not_first : ¬ Alike both_at_once one_by_one First Middle
middle_is_not_first a = let t = a.trace in absurd (cc)

middle_is_not_last : ¬ Alike both_at_once one_by_one Last Middle
middle_is_not_last a = let t = a.trace in absurd (cc)

pub rows_show_nothing_else : RowsShowNothingElse
rows_show_nothing_else wa wb r =
    let lo = r.rises 0 in
    let zero_first = r.opens in
    ⊎_elim
    (λ lt. ⊎_elim middle_is_not_first middle_is_not_last (r.inside 0 1 (omega (arith, r.opens)) lt))
    (λ le.
    let e : r.place 1 ≡ 1 = omega (arith, le, lo) in
    middle_is_not_last (subst (λ i. Alike both_at_once one_by_one Last (run one_by_one i)) e (r.meets 1)))
    (cases_lt 1 (r.place 1))
