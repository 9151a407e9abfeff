-- Combinators: what comes of one answer after another.
use Rattle.std.proofs.Common.{◌≡◌, Bool, true, false, cond, Option, Some, None, Result, Ok, Err, refl, sym, subst}
use Rattle.cpc_base.proofs.Lists.{some_is}
use Rattle.cpc_num.specs.declared.kinds.Fault.{Fault}
use Rattle.cpc_meaning.specs.Answer.{Answer, Gives, Faults, NoAnswer, ◌>>=◌, of_result, needed}
use Rattle.cpc_check_laws.specs.Sound.Suits.{Comes}

pub no_some : {A B : Type 0} (x : A) → None ≡ Some x → B
no_some x e = absurd (cc)

-- one answer, and then what is made of it
pub comes_then : {A B : Type 0} (P : A → Type 0) (Q : B → Type 0) (a : Answer A) (f : A → Answer B) → Comes P a → ((x : A) → P x → Comes Q (f x)) → Comes Q (a >>= f)
comes_then P Q (Gives x) f h k = k x h
comes_then P Q (Faults fault) f h k = tt
comes_then P Q NoAnswer f h k = absurd h

-- the same, where what is there is weakened
pub comes_as : {A : Type 0} (P Q : A → Type 0) (a : Answer A) → Comes P a → ((x : A) → P x → Q x) → Comes Q a
comes_as P Q (Gives x) h k = k x h
comes_as P Q (Faults fault) h k = tt
comes_as P Q NoAnswer h k = absurd h

-- what is needed is there
pub comes_needed : {A B : Type 0} (Q : B → Type 0) (o : Option A) (x : A) (f : A → Answer B) → o ≡ Some x → Comes Q (f x) → Comes Q (needed o >>= f)
comes_needed Q None x f e h = no_some x e
comes_needed Q (Some y) x f e h = subst (λ z. Comes Q (f z)) (some_is x y (sym e)) h

-- a result is there or faults
pub comes_result : {A B : Type 0} (Q : B → Type 0) (r : Result A Fault) (f : A → Answer B) → ((x : A) → r ≡ Ok x → Comes Q (f x)) → Comes Q (of_result r >>= f)
comes_result Q (Ok x) f h = h x refl
comes_result Q (Err fault) f h = tt

pub comes_if : {A : Type 0} (Q : A → Type 0) (b : Bool) (x y : Answer A) → Comes Q x → Comes Q y → Comes Q (cond b x y)
comes_if Q true x y h k = h
comes_if Q false x y h k = k

pub if_some : {A : Type 0} (b : Bool) (x y : A) → cond b (Some x) None ≡ Some y → (b ≡ true) × (x ≡ y)
if_some true x y e = (refl, some_is x y e)
if_some false x y e = no_some y e
