-- What code gives meets an answer: through early returns, and of one part after another.
use Rattle.std.proofs.Common.{◌≡◌, Result, Ok, Err, subst}
use Rattle.std.specs.Result.{IsErrAnd, result_map_both}
use Rattle.std.proofs.lemmas.Result.{err_from_is_err_and}
use Rattle.cpc_num.specs.declared.kinds.Fault.{Fault}
use Rattle.cpc_meaning.specs.Answer.{Answer, Gives, Faults, NoAnswer, ◌>>=◌}
use Rattle.cpc_eval_values.specs.Meets.{Meets}

-- a fault of the first part is that of the whole
pub meets_fault : {A B : Type 0} (fault : Fault) (a : Answer A) (f : A → Answer B) → Meets {A = A} (Err fault) a → Meets {A = B} (Err fault) (a >>= f)
meets_fault fault (Gives x) f h = cc
meets_fault fault (Faults e) f h = cc
meets_fault fault NoAnswer f h = tt

-- the second part, where the first gives a value
pub meets_then : {A B : Type 0} (x : A) (a : Answer A) (f : A → Answer B) (r : Result B Fault) → Meets (Ok x) a → Meets r (f x) → Meets r (a >>= f)
meets_then x (Gives y) f r h g = let e : x ≡ y = cc in subst (λ z. Meets r (f z)) e g
meets_then x (Faults e) f r h g = let no : ⊥ = cc in absurd no
meets_then x NoAnswer f r h g = tt

-- the same result
pub meets_as : {A : Type 0} (r s : Result A Fault) (a : Answer A) → r ≡ s → Meets s a → Meets r a
meets_as r s a e h = rw e h

-- a fault that came through an early return
pub meets_through : {A B Y : Type 0} (view : Y → B) (x : Result Y Fault) (fault : Fault) (a : Answer A) (f : A → Answer B)
    → IsErrAnd x (λ e. e ≡ fault) → Meets {A = A} (Err fault) a → Meets (result_map_both view (λ e. e) x) (a >>= f)
meets_through view x fault a f i h = let p = err_from_is_err_and x i in rw (p.1, p.2) (meets_fault fault a f h)

-- the same fault, through an early return
pub meets_err : {A Y : Type 0} (view : Y → A) (x : Result Y Fault) (fault : Fault) (a : Answer A) → IsErrAnd x (λ e. e ≡ fault) → Meets {A = A} (Err fault) a → Meets (result_map_both view (λ e. e) x) a
meets_err view x fault a i h = let p = err_from_is_err_and x i in rw (p.1, p.2) h
