-- What code that may want memory gives meets an answer: through early returns, and of one part after another.
use Rattle.std.proofs.Common.{◌≡◌, Bool, true, false, Result, Ok, Err, subst, refl}
use Rattle.std.specs.Result.{IsErrAnd, result_map_both}
use Rattle.std.proofs.lemmas.Result.{err_from_is_err_and}
use Rattle.cpc_base.specs.declared.stop.Stop.{Stop}
use Rattle.cpc_base.specs.declared.stop.Stop.TheVariants.{Memory, Fault as Faulted}
use Rattle.cpc_num.specs.declared.kinds.Fault.{Fault}
use Rattle.cpc_meaning.specs.Answer.{Answer, Gives, Faults, NoAnswer, ◌>>=◌}
use Rattle.cpc_eval_values.specs.Meets.{Meets}
use Rattle.cpc_eval_values.proofs.Meeting.{meets_fault, meets_then}
use Rattle.cpc_native_plans.specs.Stops.{MeetsOr, wants_memory, seen_as}
use Rattle.cpc_native_plans.specs.Parts.{Stands}

-- where no rule fits nothing is said
pub or_none : {A : Type 0} (r : Result A (Stop Fault)) → MeetsOr r NoAnswer
or_none (Ok x) = tt
or_none (Err Memory) = tt
or_none (Err (Faulted fault)) = tt

-- the second part, where the first gives a value
pub or_then : {A B : Type 0} (x : A) (a : Answer A) (f : A → Answer B) (r : Result B (Stop Fault)) → Meets (Ok x) a → MeetsOr r (f x) → MeetsOr r (a >>= f)
or_then x (Gives y) f r h g = let e : x ≡ y = cc in subst (λ z. MeetsOr r (f z)) e g
or_then x (Faults e) f r h g = let no : ⊥ = cc in absurd no
or_then x NoAnswer f r h g = or_none r

-- a stop of the first part is that of the whole
pub or_fault : {A B : Type 0} (s : Stop Fault) (a : Answer A) (f : A → Answer B) → MeetsOr {A = A} (Err s) a → MeetsOr {A = B} (Err s) (a >>= f)
or_fault Memory a f h = tt
or_fault (Faulted fault) a f h = meets_fault fault a f h

-- a stop that came through an early return
pub or_err : {A Y : Type 0} (view : Y → A) (x : Result Y (Stop Fault)) (s : Stop Fault) (a : Answer A) → IsErrAnd x (λ e. e ≡ s) → MeetsOr {A = A} (Err s) a → MeetsOr (seen_as view x) a
or_err view x s a i h = let p = err_from_is_err_and x i in rw (p.1, p.2) h

pub or_through : {A B Y : Type 0} (view : Y → B) (x : Result Y (Stop Fault)) (s : Stop Fault) (a : Answer A) (f : A → Answer B)
    → IsErrAnd x (λ e. e ≡ s) → MeetsOr {A = A} (Err s) a → MeetsOr (seen_as view x) (a >>= f)
or_through view x s a f i h = let p = err_from_is_err_and x i in rw (p.1, p.2) (or_fault s a f h)

-- want of memory that came through an early return
pub or_memory : {A Y : Type 0} (view : Y → A) (x : Result Y (Stop Fault)) (a : Answer A) → IsErrAnd x (λ e. e ≡ Memory) → MeetsOr (seen_as view x) a
or_memory view x a i = let p = err_from_is_err_and x i in rw (p.1, p.2) tt

-- a fault as a stop
pub or_stopped : {X Y : Type 0} (view : X → Y) (q : Result X Fault) (r : Result X (Stop Fault)) (a : Answer Y) → r ≡ result_map_both (λ x. x) Faulted q
    → Meets (result_map_both view (λ fault. fault) q) a → MeetsOr (seen_as view r) a
or_stopped view (Ok x) r a e h = rw e h
or_stopped view (Err fault) r a e h = rw e h

-- another view
pub or_as : {A : Type 0} (r q : Result A (Stop Fault)) (a : Answer A) → r ≡ q → MeetsOr q a → MeetsOr r a
or_as r q a e h = rw e h

pub or_by : {A : Type 0} (r : Result A (Stop Fault)) (a b : Answer A) → a ≡ b → MeetsOr r a → MeetsOr r b
or_by {A = A} r a b e h = let P : Answer A → Type 0 = MeetsOr r in subst P e h

pub meets_by : {A : Type 0} (r : Result A Fault) (a b : Answer A) → a ≡ b → Meets r a → Meets r b
meets_by {A = A} r a b e h = let P : Answer A → Type 0 = Meets r in subst P e h

-- ---- want of memory

-- a fault is none
pub wants_stopped : {A : Type 0} (q : Result A Fault) (r : Result A (Stop Fault)) → r ≡ result_map_both (λ x. x) Faulted q → wants_memory r ≡ false
wants_stopped (Ok x) r e = rw e refl
wants_stopped (Err fault) r e = rw e refl

-- what never comes
pub never_called : (b : Bool) (P : Type 0) → b ≡ false → b ≡ true → P
never_called b P e h = let no : ⊥ = cc in absurd no

-- ---- answers that stand for answers

pub stands_same : {A : Type 0} (a b : Answer A) → a ≡ b → Stands a b
stands_same {A = A} a b e = λ r h. let P : Answer A → Type 0 = Meets r in subst P e h

pub stands_none : {A : Type 0} (a : Answer A) → Stands a NoAnswer
stands_none a = λ r h. tt

pub stands_then : {A B : Type 0} (x : A) (a : Answer A) (f : A → Answer B) (b : Answer B) → Meets (Ok x) a → Stands b (f x) → Stands b (a >>= f)
stands_then x a f b h g = λ r m. meets_then x a f r h (g r m)

-- what meets one meets the other, of want of memory too
pub or_stands : {A : Type 0} (r : Result A (Stop Fault)) (a b : Answer A) → Stands a b → MeetsOr r a → MeetsOr r b
or_stands (Ok x) a b s h = s (Ok x) h
or_stands (Err Memory) a b s h = tt
or_stands (Err (Faulted fault)) a b s h = s (Err fault) h
