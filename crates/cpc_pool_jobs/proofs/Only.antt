-- Where the numbers of a log rise, no two workers have one number.
use Rattle.std.proofs.Common.{◌≡◌, ℕ, ◌<◌, Bool, true, false, cond, eqb, List, [], ◌∷◌, sym, refl, ◌∙◌, subst, ⊎_elim, arith, eqb-true}
use Rattle.std.specs.List.{AllByRecursion}
use Rattle.cpc_pool_jobs.specs.declared.views.Taken.{Taken}
use Rattle.cpc_pool_jobs.specs.Views.{numbers, of}
use Rattle.cpc_pool_jobs.specs.Laws.{Has, OnlyOne}

by_test : (b : Bool) (ts : List Taken) (t : Taken) (w n k : ℕ) → k < t.number → (Has n (of w ts) → k < n) → Has n (cond b (t.number ∷ of w ts) (of w ts)) → k < n
by_test true ts t w n k lt later has = ⊎_elim (λ (e : t.number ≡ n). subst (λ (m : ℕ). k < m) e lt) later has
by_test false ts t w n k lt later has = later has

-- what a worker has of a log is above what is below all of it
above : (log : List Taken) (w n k : ℕ) → AllByRecursion (λ m. k < m) (numbers log) → Has n (of w log) → k < n
above [] w n k all has = absurd has
above (t ∷ ts) w n k all has = by_test (eqb t.worker w) ts t w n k all.0 (above ts w n k all.1) has

both : (p q : Bool) (ts : List Taken) (t : Taken) (u w n : ℕ) → eqb t.worker u ≡ p → eqb t.worker w ≡ q → AllByRecursion (λ m. t.number < m) (numbers ts)
    → (Has n (of u ts) → Has n (of w ts) → u ≡ w) → Has n (cond p (t.number ∷ of u ts) (of u ts)) → Has n (cond q (t.number ∷ of w ts) (of w ts)) → u ≡ w
both true true ts t u w n e f all later a b = sym (eqb-true t.worker u e) ∙ eqb-true t.worker w f
both true false ts t u w n e f all later a b =
    ⊎_elim (λ (is : t.number ≡ n). let lt = above ts w n t.number all b in absurd (omega arith)) (λ (c : Has n (of u ts)). later c b) a
both false true ts t u w n e f all later a b =
    ⊎_elim (λ (is : t.number ≡ n). let lt = above ts u n t.number all a in absurd (omega arith)) (λ (c : Has n (of w ts)). later a c) b
both false false ts t u w n e f all later a b = later a b

pub only : OnlyOne
only [] u w n r a b = absurd a
only (t ∷ ts) u w n r a b = both (eqb t.worker u) (eqb t.worker w) ts t u w n refl refl r.0 (λ x y. only ts u w n r.1 x y) a b
