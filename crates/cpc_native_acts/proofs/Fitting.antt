-- What is taken of arguments is one value for each that is taken, of its kind.
use Rattle.std.proofs.Common.{◌≡◌, suc, Bool, true, false, ◌&&◌, List, [], ◌∷◌, length, map, Option, Some, None, option_map, Ok, Err, refl, sym, ap, subst, ◌∙◌, arith}
use Rattle.std.specs.List.{All}
use Rattle.std.proofs.lemmas.List.Elements.{All-nil, All-cons}
use Rattle.cpc_base.specs.Bytes.{Text}
use Rattle.cpc_base.proofs.Truth.{and_holds, and_second}
use Rattle.cpc_num.specs.declared.kinds.Fault.{Fault}
use Rattle.cpc_num.specs.declared.kinds.Kind.TheVariants as K
use Rattle.cpc_num.specs.Number.{convert}
use Rattle.cpc_num.proofs.KindLemmas.{same_kind-refl}
use Rattle.cpc_tree.specs.Erase.{Names}
use Rattle.cpc_tree.specs.Primitives as P
use Rattle.cpc_tree.specs.Syntax.{Ty, TyInt, TyCondvar, TyPointer, TyCode}
use Rattle.cpc_store.specs.declared.values.Scalar.{Scalar}
use Rattle.cpc_store.specs.declared.values.Scalar.TheVariants as S
use Rattle.cpc_store.specs.declared.values.Value as V
use Rattle.cpc_store.specs.declared.values.Value.TheVariants as W
use Rattle.cpc_store.specs.Store.{Value, Unset, Whole, Null, At, Code, Cond, suits}
use Rattle.cpc_store.specs.Seen.{seen}
use Rattle.cpc_meaning.specs.Answer.{Answer, Gives, Faults, NoAnswer, ◌>>=◌}
use Rattle.cpc_meaning.specs.Eval.{assigned, at_type}
use Rattle.cpc_meaning.specs.Layout.{scalar_of}
use Rattle.cpc_meaning.specs.Requests.{set_integer, taken_as, all_taken, all_long}
use Rattle.cpc_eval_values.specs.Meets.{Meets}
use Rattle.cpc_eval_values.specs.Shown.{value_of, values_of}
use Rattle.cpc_eval_values.specs.declared.assignment.Taken.{Taken}
use Rattle.cpc_eval_values.specs.declared.assignment.Taken.TheVariants as T
use Rattle.cpc_eval_values.specs.Takes.{taken_of}
use Rattle.cpc_native_acts.specs.Taken.{is_set, is_integer, is_taken_as, are_taken, IsByte, IsLong, IsAskedWith}

-- ---- one value

-- what a value is of is so of the same value by its other name
fits_by : (s : Scalar) (x y : Value) → x ≡ y → (is_set x && suits s x) ≡ true → (is_set y && suits s y) ≡ true
fits_by s x y e h = let Q : Value → Type 0 = λ v. (is_set v && suits s v) ≡ true in subst Q e h

-- a set value that is assigned to a type is set, and a cell of the type may hold it
set_fits : (t : Ty) (s : Scalar) (v x : Value) → is_set v ≡ true → scalar_of t ≡ Some s → assigned t v ≡ Gives x → (is_set x && suits s x) ≡ true
set_fits t s Unset x h e g = absurd cc
set_fits (TyInt kind) s (Whole j z) x h e g =
    let is : Whole kind (convert kind z) ≡ x = cc in
    let i : S.Int kind ≡ s = cc in
    let Q : Scalar → Type 0 = λ q. suits {C = Text} q (Whole kind (convert kind z)) ≡ true in
    fits_by s (Whole kind (convert kind z)) x is (subst Q i (same_kind-refl kind))
set_fits (TyPointer t) s (Whole j z) x h e g = let is : Null ≡ x = cc in let i : S.Pointer ≡ s = cc in let Q : Scalar → Type 0 = λ q. suits {C = Text} q Null ≡ true in fits_by s Null x is (subst Q i refl)
set_fits (TyPointer t) s Null x h e g = let is : Null ≡ x = cc in let i : S.Pointer ≡ s = cc in let Q : Scalar → Type 0 = λ q. suits {C = Text} q Null ≡ true in fits_by s Null x is (subst Q i refl)
set_fits (TyPointer t) s (At c n k) x h e g = let is : At c n k ≡ x = cc in let i : S.Pointer ≡ s = cc in let Q : Scalar → Type 0 = λ q. suits {C = Text} q (At c n k) ≡ true in fits_by s (At c n k) x is (subst Q i refl)
set_fits (TyCode r ps) s (Whole j z) x h e g = let is : Null ≡ x = cc in let i : S.Code ≡ s = cc in let Q : Scalar → Type 0 = λ q. suits {C = Text} q Null ≡ true in fits_by s Null x is (subst Q i refl)
set_fits (TyCode r ps) s Null x h e g = let is : Null ≡ x = cc in let i : S.Code ≡ s = cc in let Q : Scalar → Type 0 = λ q. suits {C = Text} q Null ≡ true in fits_by s Null x is (subst Q i refl)
set_fits (TyCode r ps) s (Code f) x h e g = let is : Code f ≡ x = cc in let i : S.Code ≡ s = cc in let Q : Scalar → Type 0 = λ q. suits {C = Text} q (Code f) ≡ true in fits_by s (Code f) x is (subst Q i refl)
set_fits TyCondvar s (Cond n) x h e g = let is : Cond n ≡ x = cc in let i : S.Cond ≡ s = cc in let Q : Scalar → Type 0 = λ q. suits {C = Text} q (Cond n) ≡ true in fits_by s (Cond n) x is (subst Q i refl)
set_fits t s v x h e g = absurd cc

set_taken : (t : Ty) (s : Scalar) (v x : Value) → scalar_of t ≡ Some s → at_type t v ≡ Gives x → (is_set x && suits s x) ≡ true
set_taken t s Unset x e g = absurd cc
set_taken t s (Whole j z) x e g = set_fits t s (Whole j z) x refl e g
set_taken t s Null x e g = set_fits t s Null x refl e g
set_taken t s (At c n k) x e g = set_fits t s (At c n k) x refl e g
set_taken t s (Code f) x e g = set_fits t s (Code f) x refl e g
set_taken t s (Cond n) x e g = set_fits t s (Cond n) x refl e g

free_taken : (t : Ty) (s : Scalar) (v x : Value) → scalar_of t ≡ Some s → assigned t v ≡ Gives x → suits s x ≡ true
free_taken t s Unset x e g = let is : Unset ≡ x = cc in let Q : Value → Type 0 = λ v. suits s v ≡ true in subst Q is refl
free_taken t s (Whole j z) x e g = and_second (is_set x) (suits s x) (set_fits t s (Whole j z) x refl e g)
free_taken t s Null x e g = and_second (is_set x) (suits s x) (set_fits t s Null x refl e g)
free_taken t s (At c n k) x e g = and_second (is_set x) (suits s x) (set_fits t s (At c n k) x refl e g)
free_taken t s (Code f) x e g = and_second (is_set x) (suits s x) (set_fits t s (Code f) x refl e g)
free_taken t s (Cond n) x e g = and_second (is_set x) (suits s x) (set_fits t s (Cond n) x refl e g)

any_taken : (v x : Value) → set_integer v ≡ Gives x → is_integer x ≡ true
any_taken (Whole kind z) x g = let is : Whole kind z ≡ x = cc in let Q : Value → Type 0 = λ v. is_integer v ≡ true in subst Q is refl
any_taken v x g = absurd cc

-- what is given of a value as it is taken
pub fitted : (t : P.Taken) (k : Taken) (v x : Value) → Some k ≡ taken_of t → taken_as t v ≡ Gives x → is_taken_as k x ≡ true
fitted P.AnyInteger k v x e g = let i : T.AnyInteger ≡ k = cc in let Q : Taken → Type 0 = λ q. is_taken_as q x ≡ true in subst Q i (any_taken v x g)
fitted (P.SetOf t) k v x e g = go (scalar_of t) refl e
  where
    go : (o : Option Scalar) → scalar_of t ≡ o → Some k ≡ option_map T.SetOf o → is_taken_as k x ≡ true
    go None i e = absurd cc
    go (Some s) i e = let is : T.SetOf s ≡ k = cc in let Q : Taken → Type 0 = λ q. is_taken_as q x ≡ true in subst Q is (set_taken t s v x i g)
fitted (P.FreeOf t) k v x e g = go (scalar_of t) refl e
  where
    go : (o : Option Scalar) → scalar_of t ≡ o → Some k ≡ option_map T.FreeOf o → is_taken_as k x ≡ true
    go None i e = absurd cc
    go (Some s) i e = let is : T.FreeOf s ≡ k = cc in let Q : Taken → Type 0 = λ q. is_taken_as q x ≡ true in subst Q is (free_taken t s v x i g)

-- the code of a name does not matter
suits_shown : (names : Names) (s : Scalar) (w : V.Value) → suits s (value_of names w) ≡ suits s (seen w)
suits_shown names s W.Unset = refl
suits_shown names (S.Int kind) (W.Int j z) = refl
suits_shown names S.Pointer (W.Int j z) = refl
suits_shown names S.Code (W.Int j z) = refl
suits_shown names S.Cond (W.Int j z) = refl
suits_shown names (S.Int kind) W.Null = refl
suits_shown names S.Pointer W.Null = refl
suits_shown names S.Code W.Null = refl
suits_shown names S.Cond W.Null = refl
suits_shown names (S.Int kind) (W.At b k) = refl
suits_shown names S.Pointer (W.At b k) = refl
suits_shown names S.Code (W.At b k) = refl
suits_shown names S.Cond (W.At b k) = refl
suits_shown names (S.Int kind) (W.Code f) = refl
suits_shown names S.Pointer (W.Code f) = refl
suits_shown names S.Code (W.Code f) = refl
suits_shown names S.Cond (W.Code f) = refl
suits_shown names (S.Int kind) (W.Cond n) = refl
suits_shown names S.Pointer (W.Cond n) = refl
suits_shown names S.Code (W.Cond n) = refl
suits_shown names S.Cond (W.Cond n) = refl

set_shown : (names : Names) (w : V.Value) → is_set (value_of names w) ≡ is_set (seen w)
set_shown names W.Unset = refl
set_shown names (W.Int j z) = refl
set_shown names W.Null = refl
set_shown names (W.At b k) = refl
set_shown names (W.Code f) = refl
set_shown names (W.Cond n) = refl

integer_shown : (names : Names) (w : V.Value) → is_integer (value_of names w) ≡ is_integer (seen w)
integer_shown names W.Unset = refl
integer_shown names (W.Int j z) = refl
integer_shown names W.Null = refl
integer_shown names (W.At b k) = refl
integer_shown names (W.Code f) = refl
integer_shown names (W.Cond n) = refl

pub taken_shown : (names : Names) (k : Taken) (w : V.Value) → is_taken_as k (value_of names w) ≡ is_taken_as k (seen w)
taken_shown names T.AnyInteger w = integer_shown names w
taken_shown names (T.SetOf s) w = ap (λ b. b && suits s (value_of names w)) (set_shown names w) ∙ ap (λ b. is_set (seen w) && b) (suits_shown names s w)
taken_shown names (T.FreeOf s) w = suits_shown names s w

-- ---- rows

and_false : (a b : Bool) → b ≡ false → (a && b) ≡ false
and_false true b h = h
and_false false b h = refl

-- the first value, and then the others
first_fits : (names : Names) (t : P.Taken) (k : Taken) (v : Value) (ts : List P.Taken) (ks : List Taken) (vs : List Value) → Some k ≡ taken_of t
    → ((us : List V.Value) → all_taken ts vs ≡ Gives (values_of names us) → are_taken (map Some ks) us ≡ true)
    → (q : Answer Value) → taken_as t v ≡ q → (a : Answer (List Value)) → all_taken ts vs ≡ a → (ws : List V.Value) → (q >>= (λ x. a >>= (λ xs. Gives (x ∷ xs)))) ≡ Gives (values_of names ws)
    → are_taken (Some k ∷ map Some ks) ws ≡ true
first_fits names t k v ts ks vs one others (Gives x) i (Gives xs) j [] g = absurd cc
first_fits names t k v ts ks vs one others (Gives x) i (Gives xs) j (w ∷ ws) g =
    let head : x ≡ value_of names w = cc in
    let tail : xs ≡ values_of names ws = cc in
    and_holds (is_taken_as k (seen w)) (are_taken (map Some ks) ws)
    (sym (taken_shown names k w) ∙ fitted t k v (value_of names w) one (i ∙ ap Gives head))
    (others ws (j ∙ ap Gives tail))
first_fits names t k v ts ks vs one others (Gives x) i (Faults f) j ws g = absurd cc
first_fits names t k v ts ks vs one others (Gives x) i NoAnswer j ws g = absurd cc
first_fits names t k v ts ks vs one others (Faults f) i a j ws g = absurd cc
first_fits names t k v ts ks vs one others NoAnswer i a j ws g = absurd cc

-- values as they are taken are what is taken
pub all_fit : (names : Names) (ts : List P.Taken) (ks : List Taken) (vs : List Value) (ws : List V.Value) → map Some ks ≡ map taken_of ts → all_taken ts vs ≡ Gives (values_of names ws) → are_taken (map Some ks) ws ≡ true
all_fit names [] [] [] [] e g = refl
all_fit names [] [] [] (w ∷ ws) e g = absurd cc
all_fit names [] [] (v ∷ vs) ws e g = absurd cc
all_fit names [] (k ∷ ks) vs ws e g = absurd cc
all_fit names (t ∷ ts) [] vs ws e g = absurd cc
all_fit names (t ∷ ts) (k ∷ ks) [] ws e g = absurd cc
all_fit names (t ∷ ts) (k ∷ ks) (v ∷ vs) ws e g =
    let one : Some k ≡ taken_of t = cc in
    let rest : map Some ks ≡ map taken_of ts = cc in
    first_fits names t k v ts ks vs one (λ us i. all_fit names ts ks vs us rest i) (taken_as t v) refl (all_taken ts vs) refl ws g

-- where the values are not what is taken, no rule fits
module _ (names : Names) (ts : List P.Taken) (ks : List Taken) (same : map Some ks ≡ map taken_of ts) (ws : List V.Value) (not : are_taken (map Some ks) ws ≡ false) where
  pub none_fits : (fault : Fault) (vs : List Value) → Meets (Ok (values_of names ws)) (all_taken ts vs) → Meets {A = List Value} (Err fault) (all_taken ts vs)
  none_fits fault vs h = go (all_taken ts vs) refl h
    where
      go : (a : Answer (List Value)) → all_taken ts vs ≡ a → Meets (Ok (values_of names ws)) a → Meets {A = List Value} (Err fault) a
      go (Gives xs) e m = let is : xs ≡ values_of names ws = cc in let yes = all_fit names ts ks vs ws same (e ∙ ap Gives is) in absurd cc
      go (Faults f) e m = absurd cc
      go NoAnswer e m = tt

-- values of long are all that a function of the host takes
long_taken : (names : Names) (v : Value) (w : V.Value) → at_type (TyInt K.Long) v ≡ Gives (value_of names w) → IsLong w
long_taken names (Whole j y) (W.Int kind z) g = let i : K.Long ≡ kind = cc in sym i
long_taken names v w g = absurd cc

first_long : (names : Names) (v : Value) (vs : List Value) (w : V.Value) (ws : List V.Value) → (all_long vs ≡ Gives (values_of names ws) → All IsLong ws) → (q : Answer Value) → at_type (TyInt K.Long) v ≡ q
    → (a : Answer (List Value)) → all_long vs ≡ a → (q >>= (λ x. a >>= (λ xs. Gives (x ∷ xs)))) ≡ Gives (values_of names (w ∷ ws)) → All IsLong (w ∷ ws)
first_long names v vs w ws others (Gives x) i (Gives xs) j g =
    let head : x ≡ value_of names w = cc in
    let tail : xs ≡ values_of names ws = cc in
    All-cons IsLong w ws (long_taken names v w (i ∙ ap Gives head)) (others (j ∙ ap Gives tail))
first_long names v vs w ws others (Gives x) i (Faults f) j g = absurd cc
first_long names v vs w ws others (Gives x) i NoAnswer j g = absurd cc
first_long names v vs w ws others (Faults f) i a j g = absurd cc
first_long names v vs w ws others NoAnswer i a j g = absurd cc

all_longs : (names : Names) (vs : List Value) (ws : List V.Value) → all_long vs ≡ Gives (values_of names ws) → All IsLong ws
all_longs names vs [] g = All-nil IsLong
all_longs names [] (w ∷ ws) g = absurd cc
all_longs names (v ∷ vs) (w ∷ ws) g = first_long names v vs w ws (λ h. all_longs names vs ws h) (at_type (TyInt K.Long) v) refl (all_long vs) refl g

-- where the values are not of long, no rule fits
pub none_long : (names : Names) (ws : List V.Value) → (All IsLong ws → ⊥) → (fault : Fault) (vs : List Value) → Meets (Ok (values_of names ws)) (all_long vs) → Meets {A = List Value} (Err fault) (all_long vs)
none_long names ws not fault vs h = go (all_long vs) refl h
  where
    go : (a : Answer (List Value)) → all_long vs ≡ a → Meets (Ok (values_of names ws)) a → Meets {A = List Value} (Err fault) a
    go (Gives xs) e m = let is : xs ≡ values_of names ws = cc in absurd (not (all_longs names vs ws (e ∙ ap Gives is)))
    go (Faults f) e m = absurd cc
    go NoAnswer e m = tt

-- rows of different lengths
pub lengths_differ : (ks : List Taken) (ws : List V.Value) → (length ks ≡ length ws → ⊥) → are_taken (map Some ks) ws ≡ false
lengths_differ [] [] h = absurd (h refl)
lengths_differ [] (w ∷ ws) h = refl
lengths_differ (k ∷ ks) [] h = refl
lengths_differ (k ∷ ks) (w ∷ ws) h = and_false (is_taken_as k (seen w)) (are_taken (map Some ks) ws) (lengths_differ ks ws (λ e. h (ap suc e)))

-- ---- what primitives are asked with

no_values : (ws : List V.Value) → are_taken [] ws ≡ true → All IsByte ws
no_values [] h = λ k d l. absurd (omega (arith, l))
no_values (w ∷ ws) h = absurd cc

-- a primitive that takes such values is asked with them
pub asked_so : (prim : P.Primitive) (ks : List Taken) (ws : List V.Value) → (prim ≡ P.RtDetach → ⊥) → map Some ks ≡ map taken_of (P.takes_first prim) → are_taken (map Some ks) ws ≡ true → IsAskedWith prim ws
asked_so P.Puts ks ws n e h = no_values ws (subst (λ ts. are_taken ts ws ≡ true) e h)
asked_so P.RtDetach ks ws n e h = absurd (n refl)
asked_so _ ks ws n e h = subst (λ ts. are_taken ts ws ≡ true) e h
