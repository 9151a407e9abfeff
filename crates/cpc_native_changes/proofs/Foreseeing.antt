-- What follows a part that is looked at, and is not kept.
use Rattle.std.proofs.Common.{◌≡◌, ℕ, zero, suc, ◌+◌, ◌<◌, ◌≤◌, Bool, true, false, List, [], ◌∷◌, length, get_or, drop, Result, Ok, Err, refl, sym, ap, subst, add-one}
use Rattle.std.specs.Prelude.{is_ok}
use Rattle.std.specs.Result.{result_map_both}
use Rattle.std.proofs.lemmas.List.{drop_all}
use Rattle.cpc_num.specs.declared.kinds.Fault.{Fault}
use Rattle.cpc_tree.specs.Erase.{Names, expr_of, exprs_of}
use Rattle.cpc_tree.specs.declared.program.Expr as G
use Rattle.cpc_tree.specs.Syntax.{Ty, Expr, Exprs, NoExpr, AndExpr}
use Rattle.cpc_store.specs.Store.{Value}
use Rattle.cpc_meaning.specs.Answer.{Answer, Gives, Faults, NoAnswer, ◌>>=◌}
use Rattle.cpc_meaning.specs.Eval as E
use Rattle.cpc_meaning.specs.Requests.{arguments}
use Rattle.cpc_eval_values.specs.Meets.{Meets}
use Rattle.cpc_eval.specs.Numbers.{HasNumbers, AllNumbers}
use Rattle.cpc_native_plans.specs.Stops.{IsGiven}
use Rattle.cpc_native_plans.specs.Rows.{passed_nth, passed}
use Rattle.cpc_native_plans.proofs.Evaluated.{first_left}

-- what holds where no rule fits
module _ {B : Type 0} (P : Answer B → Type 0) (none : P NoAnswer) where
  pub after_value : {A : Type 0} (x : A) (a : Answer A) (f : A → Answer B) → Meets (Ok x) a → P (f x) → P (a >>= f)
  after_value x (Gives y) f h g = let e : x ≡ y = cc in subst (λ z. P (f z)) e g
  after_value x (Faults e) f h g = let no : ⊥ = cc in absurd no
  after_value x NoAnswer f h g = none

  pub after_given : {A : Type 0} (a : Answer A) (f : A → Answer B) → IsGiven true a → ((x : A) → P (f x)) → P (a >>= f)
  after_given (Gives x) f h g = g x
  after_given (Faults e) f h g = let no : ⊥ = cc in absurd no
  after_given NoAnswer f h g = none

  -- and for each fault
  module _ (fault : (e : Fault) → P (Faults e)) where
    pub after_fault : {A : Type 0} (e : Fault) (a : Answer A) (f : A → Answer B) → Meets {A = A} (Err e) a → P (a >>= f)
    after_fault e (Gives x) f h = let no : ⊥ = cc in absurd no
    after_fault e (Faults d) f h = fault d
    after_fault e NoAnswer f h = none

    pub after_not : {A : Type 0} (a : Answer A) (f : A → Answer B) → IsGiven false a → P (a >>= f)
    after_not (Gives x) f h = let no : ⊥ = cc in absurd no
    after_not (Faults d) f h = fault d
    after_not NoAnswer f h = none

    pub after_any : {A : Type 0} (a : Answer A) (f : A → Answer B) → ((x : A) → P (f x)) → P (a >>= f)
    after_any (Gives x) f g = g x
    after_any (Faults d) f g = fault d
    after_any NoAnswer f g = none

-- what code gives, as whether it gives something
pub is_given : {X Y : Type 0} (view : X → Y) (b : Bool) (r : Result X Fault) (a : Answer Y) → b ≡ is_ok r → Meets (result_map_both view (λ fault. fault) r) a → IsGiven b a
is_given view b (Ok x) (Gives y) e h = e
is_given view b (Ok x) (Faults d) e h = let no : ⊥ = cc in absurd no
is_given view b (Ok x) NoAnswer e h = tt
is_given view b (Err d) (Gives y) e h = let no : ⊥ = cc in absurd no
is_given view b (Err d) (Faults f) e h = e
is_given view b (Err d) NoAnswer e h = tt

-- ---- arguments one by one

-- the first argument after its value and those of the others
abbrev after_both : (List Value → Answer (List Value)) → Answer Value → Answer (List Value) → Answer (List Value)
after_both f q r = (q >>= (λ v. r >>= (λ vs. Gives (v ∷ vs)))) >>= f

abbrev never : Value → Answer Value
never v = NoAnswer

module _ (b : Bool) where
  more_values : (r : Answer (List Value)) (q : Answer Value) → IsGiven b (r >>= arguments []) → IsGiven true (q >>= never) → IsGiven b (after_both (arguments []) q r)
  more_values (Gives vs) (Gives v) h m = tt
  more_values (Faults e) (Gives v) h m = h
  more_values NoAnswer (Gives v) h m = tt
  more_values r (Faults e) h m = let no : ⊥ = cc in absurd no
  more_values r NoAnswer h m = tt

  more_converted : (p : Answer Value) (r : Answer (List Value)) → IsGiven true p → IsGiven b r → IsGiven b (p >>= (λ w. r >>= (λ ws. Gives (w ∷ ws))))
  more_converted (Gives w) (Gives ws) m h = h
  more_converted (Gives w) (Faults e) m h = h
  more_converted (Gives w) NoAnswer m h = tt
  more_converted (Faults e) r m h = let no : ⊥ = cc in absurd no
  more_converted NoAnswer r m h = tt

  more_passed : (t : Ty) (ts : List Ty) (q : Answer Value) (r : Answer (List Value)) → IsGiven true (q >>= E.assigned t) → IsGiven b (r >>= arguments ts) → IsGiven b (after_both (arguments (t ∷ ts)) q r)
  more_passed t ts (Gives v) (Gives vs) m h = more_converted (E.assigned t v) (arguments ts vs) m h
  more_passed t ts (Gives v) (Faults e) m h = h
  more_passed t ts (Gives v) NoAnswer m h = tt
  more_passed t ts (Faults e) r m h = let no : ⊥ = cc in absurd no
  more_passed t ts NoAnswer r m h = tt

  passed_on : (c : E.Context) (ts : List Ty) (i : ℕ) (e : Expr) (es : Exprs) → IsGiven true (passed_nth c ts i e) → IsGiven b (passed c (drop (suc i) ts) es) → IsGiven b (passed c (drop i ts) (AndExpr e es))
  passed_on c [] zero e es m h = more_values (E.values c es) (E.value c e) h m
  passed_on c [] (suc i) e es m h = more_values (E.values c es) (E.value c e) h m
  passed_on c (t ∷ ts) zero e es m h = more_passed t ts (E.value c e) (E.values c es) m h
  passed_on c (t ∷ ts) (suc i) e es m h = passed_on c ts i e es m h

not_converted : (p : Answer Value) (r : Answer (List Value)) → IsGiven false p → IsGiven false (p >>= (λ w. r >>= (λ ws. Gives (w ∷ ws))))
not_converted (Gives w) r m = let no : ⊥ = cc in absurd no
not_converted (Faults e) r m = refl
not_converted NoAnswer r m = tt

not_values : (q : Answer Value) (r : Answer (List Value)) → IsGiven false (after_both (arguments []) q r)
not_values (Gives v) (Gives vs) = tt
not_values (Gives v) (Faults e) = refl
not_values (Gives v) NoAnswer = tt
not_values (Faults e) r = refl
not_values NoAnswer r = tt

not_passed : (t : Ty) (ts : List Ty) (q : Answer Value) (r : Answer (List Value)) → IsGiven false (q >>= E.assigned t) → IsGiven false (after_both (arguments (t ∷ ts)) q r)
not_passed t ts (Gives v) (Gives vs) m = not_converted (E.assigned t v) (arguments ts vs) m
not_passed t ts (Gives v) (Faults e) m = refl
not_passed t ts (Gives v) NoAnswer m = tt
not_passed t ts (Faults e) r m = refl
not_passed t ts NoAnswer r m = tt

passed_not : (c : E.Context) (ts : List Ty) (i : ℕ) (e : Expr) (es : Exprs) → IsGiven false (passed_nth c ts i e) → IsGiven false (passed c (drop i ts) (AndExpr e es))
passed_not c [] zero e es m = not_values (E.value c e) (E.values c es)
passed_not c [] (suc i) e es m = not_values (E.value c e) (E.values c es)
passed_not c (t ∷ ts) zero e es m = not_passed t ts (E.value c e) (E.values c es) m
passed_not c (t ∷ ts) (suc i) e es m = passed_not c ts i e es m

ended : (c : E.Context) (ts : List Ty) → IsGiven true (passed c ts NoExpr)
ended c [] = refl
ended c (t ∷ ts) = tt

module _ (names : Names) (c : E.Context) (ts : List Ty) (args : List G.Expr) (i : ℕ) where
  -- with the arguments that are left, all are looked at
  abbrev pub LeftPass : Type 0
  LeftPass = AllNumbers c.program (exprs_of names (drop i args)) × ((b : Bool) → IsGiven b (passed c (drop i ts) (exprs_of names (drop i args))) → IsGiven b (passed c ts (exprs_of names args)))

  pub pass_end : length args ≤ i → LeftPass → IsGiven true (passed c ts (exprs_of names args))
  pass_end h left =
      let P : Exprs → Type 0 = λ es. IsGiven true (passed c (drop i ts) es) in
      left.1 true (subst P (sym (ap (exprs_of names) (drop_all i args h))) (ended c (drop i ts)))

  module _ (x : G.Expr) (within : i < length args) (is : x ≡ get_or args i x) (left : LeftPass) where
    pub numbers_here : HasNumbers c.program (expr_of names x)
    numbers_here = let P : Exprs → Type 0 = AllNumbers c.program in (subst P (first_left names args i x within is) left.0).0

    pub pass_not : IsGiven false (passed_nth c ts i (expr_of names x)) → IsGiven false (passed c ts (exprs_of names args))
    pass_not m =
        let P : Exprs → Type 0 = λ es. IsGiven false (passed c (drop i ts) es) in
        left.1 false (subst P (sym (first_left names args i x within is)) (passed_not c ts i (expr_of names x) (exprs_of names (drop (i + 1) args)) m))

pub pass_on : (names : Names) (c : E.Context) (ts : List Ty) (args : List G.Expr) (i : ℕ) (x : G.Expr) → i < length args → x ≡ get_or args i x → LeftPass names c ts args i
    → IsGiven true (passed_nth c ts i (expr_of names x)) → LeftPass names c ts args (i + 1)
pass_on names c ts args i x within is left m =
    let P : Exprs → Type 0 = AllNumbers c.program in
    let here = first_left names args i x within is in
    let rest = exprs_of names (drop (i + 1) args) in (
      (subst P here left.0).1,
      λ b h.
          let Q : Exprs → Type 0 = λ es. IsGiven b (passed c (drop i ts) es) in
          let R : ℕ → Type 0 = λ n. IsGiven b (passed c (drop n ts) rest) in
          left.1 b (subst Q (sym here) (passed_on b c ts i (expr_of names x) rest m (subst R (add-one i) h))),
    )
