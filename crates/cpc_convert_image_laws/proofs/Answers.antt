-- What is made of answers that meet, and of what there is.
use Rattle.std.proofs.Common.{◌≡◌, Option, Some, None, ap, subst, refl}
use Rattle.cpc_num.specs.declared.kinds.Fault.{Fault}
use Rattle.cpc_meaning.specs.Answer.{Answer, Gives, Faults, NoAnswer, ◌>>=◌, needed}
use Rattle.cpc_meaning.specs.Eval.{and_then}
use Rattle.cpc_meaning_laws.proofs.Pointer.Blocks.{Only, Any, only_any}
use Rattle.cpc_convert_image_laws.specs.Relations.{Less, AsIs, Untold, Meets, BothGive, BothFault, Stuck, Same, It}

-- ---- what there is

pub less_and_then : {A B : Type 0} (a b : Option A) (f : A → Option B) → Less a b → Less (and_then a f) (and_then b f)
less_and_then _ _ f (AsIs o) = AsIs (and_then o f)
less_and_then _ _ f (Untold o) = Untold (and_then o f)

-- ---- answers

pub meets_then : {A B D E : Type 0} (R : A → B → Type 0) (S : D → E → Type 0) (a : Answer A) (b : Answer B) (f : A → Answer D) (g : B → Answer E)
    → Meets R a b → ((x : A) (y : B) → R x y → Meets S (f x) (g y)) → Meets S (a >>= f) (b >>= g)
meets_then R S _ _ f g (BothGive x y h) e = e x y h
meets_then R S _ _ f g (BothFault fault) e = BothFault fault
meets_then R S _ _ f g (Stuck b) e = Stuck (b >>= g)

-- the same is given by both
pub same_then : {A D E : Type 0} (Good : A → Type 0) (S : D → E → Type 0) (a b : Answer A) (f : A → Answer D) (g : A → Answer E)
    → Meets (Same Good) a b → ((x : A) → Good x → Meets S (f x) (g x)) → Meets S (a >>= f) (b >>= g)
same_then Good S _ _ f g (BothGive _ _ (It x h)) e = e x h
same_then Good S _ _ f g (BothFault fault) e = BothFault fault
same_then Good S _ _ f g (Stuck b) e = Stuck (b >>= g)

pub itself : {A : Type 0} (Good : A → Type 0) (a : Answer A) → Only Good a → Meets (Same Good) a a
itself Good (Gives x) h = BothGive x x (It x h)
itself Good (Faults fault) h = BothFault fault
itself Good NoAnswer h = Stuck NoAnswer

-- one answer, and then what two make of it
pub self_then : {A D E : Type 0} (S : D → E → Type 0) (a : Answer A) (f : A → Answer D) (g : A → Answer E) → ((x : A) → Meets S (f x) (g x)) → Meets S (a >>= f) (a >>= g)
self_then S (Gives x) f g e = e x
self_then S (Faults fault) f g e = BothFault fault
self_then S NoAnswer f g e = Stuck NoAnswer

-- what has to be there
pub needed_then : {A D E : Type 0} (S : D → E → Type 0) (a b : Option A) (f : A → Answer D) (g : A → Answer E) → Less a b → ((x : A) → Meets S (f x) (g x)) → Meets S (needed a >>= f) (needed b >>= g)
needed_then S _ _ f g (AsIs None) e = Stuck NoAnswer
needed_then S _ _ f g (AsIs (Some x)) e = e x
needed_then S _ _ f g (Untold o) e = Stuck (needed o >>= g)

-- what a source gives, its target gives
pub gives_then : {A : Type 0} (Good : A → Type 0) (a b : Answer A) (x : A) → Meets (Same Good) a b → a ≡ Gives x → (b ≡ Gives x) × Good x
gives_then Good _ _ x (BothGive _ _ (It y h)) e = let i : y ≡ x = cc in (e, subst Good i h)
gives_then Good _ _ x (BothFault fault) e = absurd (cc)
gives_then Good _ _ x (Stuck b) e = absurd (cc)

pub faults_then : {A B : Type 0} (R : A → B → Type 0) (a : Answer A) (b : Answer B) (fault : Fault) → Meets R a b → a ≡ Faults fault → b ≡ Faults fault
faults_then R _ _ fault (BothGive x y h) e = absurd (cc)
faults_then R _ _ fault (BothFault f) e = let i : f ≡ fault = cc in ap (λ x. Faults x) i
faults_then R _ _ fault (Stuck b) e = absurd (cc)

pub as_is : {A : Type 0} (a : Answer A) → Meets (Same Any) a a
as_is a = itself Any a (only_any a)

-- what the target gives, where the source gives something
pub meets_gives : {A B : Type 0} (R : A → B → Type 0) (a : Answer A) (b : Answer B) (x : A) → Meets R a b → a ≡ Gives x → (y : B) × (b ≡ Gives y) × R x y
meets_gives R _ _ x (BothGive z y h) e = let i : z ≡ x = cc in (y, refl, subst (λ w. R w y) i h)
meets_gives R _ _ x (BothFault fault) e = absurd (cc)
meets_gives R _ _ x (Stuck b) e = absurd (cc)
