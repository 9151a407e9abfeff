-- What `rt_detach` takes of its arguments, one after the other.
use Rattle.std.proofs.Common.{◌≡◌, ℕ, zero, suc, ◌-◌, ◌<◌, ◌≤◌, true, false, List, [], ◌∷◌, map, Option, Some, None, option_map, Result, Ok, Err, refl, sym, ap, subst, ◌∙◌, arith}
use Rattle.std.specs.Prelude.{slice_get, IfOk}
use Rattle.std.specs.Global.{Vec}
use Rattle.std.proofs.lemmas.Option.{slice_get-map}
use Rattle.cpc_base.specs.Bytes.{Text}
use Rattle.cpc_base.specs.declared.names.Name.{Name}
use Rattle.cpc_base.specs.declared.stop.Stop.{Stop}
use Rattle.cpc_base.proofs.Truth.{and_holds}
use Rattle.cpc_num.specs.declared.kinds.Fault.{Fault}
use Rattle.cpc_num.specs.declared.kinds.Kind.TheVariants.{Int}
use Rattle.cpc_tree.specs.Erase.{Names}
use Rattle.cpc_tree.specs.Primitives as P
use Rattle.cpc_tree.specs.Syntax.{Ty, TyVoid, TyInt, Function, Program}
use Rattle.cpc_tree.specs.Typing.{function_named, function_type, parameter_types}
use Rattle.cpc_store.specs.declared.values.Scalar.TheVariants as S
use Rattle.cpc_store.specs.declared.values.Value as V
use Rattle.cpc_store.specs.declared.values.Value.TheVariants as W
use Rattle.cpc_store.specs.Store.{Value, Code}
use Rattle.cpc_store.specs.Seen.{seen}
use Rattle.cpc_meaning.specs.Answer.{Answer, Gives, Faults, NoAnswer, ◌>>=◌, needed}
use Rattle.cpc_meaning.specs.Eval.{assigned, at_type}
use Rattle.cpc_meaning.specs.Requests as R
use Rattle.cpc_meaning.specs.Requests.{taken_as, all_taken, detach_takes, section_takes}
use Rattle.cpc_eval_values.specs.Meets.{Meets}
use Rattle.cpc_eval_values.specs.Shown.{value_of, values_of}
use Rattle.cpc_eval_values.specs.declared.assignment.Taken.{Taken}
use Rattle.cpc_eval_values.specs.declared.assignment.Taken.TheVariants as T
use Rattle.cpc_eval_values.specs.Takes.{taken_of}
use Rattle.cpc_tree.specs.declared.primitive.Primitive.{Primitive}
use Rattle.cpc_tree.specs.declared.primitive.Primitive.TheVariants as B
use Rattle.cpc_tree.specs.PrimitiveNames.{primitive_of}
use Rattle.cpc_native_acts.specs.Taken.{is_taken_as, are_taken, is_detached, IsAskedWith}
use Rattle.cpc_native_plans.specs.Rows.{by_nth, third_code, detached_with}
use Rattle.cpc_native_acts.proofs.Fitting.{fitted, taken_shown, asked_so}

-- ---- one argument

-- what is made of a value by the same of a row
nth_by : {T : Type 0} (f : T → Value → Answer Value) (ts us : List T) (n m : ℕ) (v : Value) (r : Result Value Fault) → slice_get ts n ≡ slice_get us m → Meets r (by_nth f us m v) → Meets r (by_nth f ts n v)
nth_by {T} f ts us n m v r e h = let Q : Option T → Type 0 = λ o. Meets r (needed o >>= (λ t. f t v)) in subst Q (sym e) h

-- the first of the function of a section
second_taken : (ts : List Ty) → slice_get (section_takes ts) 0 ≡ option_map P.SetOf (slice_get ts 0)
second_taken [] = refl
second_taken (t ∷ ts) = refl

later_taken : (ts : List Ty) (k : ℕ) → slice_get (section_takes ts) (suc k) ≡ option_map P.FreeOf (slice_get ts (suc k))
later_taken [] k = refl
later_taken (t ∷ ts) k = slice_get-map P.FreeOf ts k

module _ (f : Function) (v : Value) (r : Result Value Fault) where
  -- what is made of a value by what the function takes
  abbrev pub TakenSo : ℕ → Type 0
  TakenSo i = Meets r (by_nth taken_as (detach_takes (Some f)) i v)

  pub function_taken : (i : ℕ) → i ≡ 0 → ((t : P.Taken) → taken_of t ≡ Some (T.SetOf S.Code) → Meets r (taken_as t v)) → TakenSo i
  function_taken zero e h = h (P.SetOf (function_type f.result (parameter_types f))) refl
  function_taken (suc i) e h = absurd (omega (arith, e))

  pub pointer_taken : (i : ℕ) (t : Ty) → i ≡ 1 → Some t ≡ slice_get (parameter_types f) (i - 1) → Meets r (at_type t v) → TakenSo i
  pointer_taken zero t e g h = absurd (omega (arith, e))
  pointer_taken (suc zero) t e g h =
      let is : slice_get (section_takes (parameter_types f)) 0 ≡ Some (P.SetOf t) = second_taken (parameter_types f) ∙ ap (option_map P.SetOf) (sym g) in
      let Q : Option P.Taken → Type 0 = λ o. Meets r (needed o >>= (λ t. taken_as t v)) in
      subst Q (sym is) h
  pointer_taken (suc (suc i)) t e g h = absurd (omega (arith, e))

  pub value_taken : (i : ℕ) (t : Ty) → (i ≡ 0 → ⊥) → (i ≡ 1 → ⊥) → Some t ≡ slice_get (parameter_types f) (i - 1) → Meets r (assigned t v) → TakenSo i
  value_taken zero t n m g h = absurd (n refl)
  value_taken (suc zero) t n m g h = absurd (m refl)
  value_taken (suc (suc k)) t n m g h =
      let at : suc (suc k) - 1 ≡ suc k = omega arith in
      let is : slice_get (section_takes (parameter_types f)) (suc k) ≡ Some (P.FreeOf t) = later_taken (parameter_types f) k ∙ ap (option_map P.FreeOf) (ap (slice_get (parameter_types f)) (sym at) ∙ sym g) in
      let Q : Option P.Taken → Type 0 = λ o. Meets r (needed o >>= (λ t. taken_as t v)) in
      subst Q (sym is) h

  pub not_taken : (i : ℕ) → (i ≡ 0 → ⊥) → None ≡ slice_get (parameter_types f) (i - 1) → TakenSo i
  not_taken zero n g = absurd (n refl)
  not_taken (suc zero) n g =
      let is : slice_get (section_takes (parameter_types f)) 0 ≡ None = second_taken (parameter_types f) ∙ ap (option_map P.SetOf) (sym g) in
      let Q : Option P.Taken → Type 0 = λ o. Meets r (needed o >>= (λ t. taken_as t v)) in
      subst Q (sym is) tt
  not_taken (suc (suc k)) n g =
      let at : suc (suc k) - 1 ≡ suc k = omega arith in
      let is : slice_get (section_takes (parameter_types f)) (suc k) ≡ None = later_taken (parameter_types f) k ∙ ap (option_map P.FreeOf) (ap (slice_get (parameter_types f)) (sym at) ∙ sym g) in
      let Q : Option P.Taken → Type 0 = λ o. Meets r (needed o >>= (λ t. taken_as t v)) in
      subst Q (sym is) tt

module _ (o : Option Function) (v : Value) (r : Result Value Fault) where
  -- the callback and its pointer
  pub first_taken : (i : ℕ) → i < 2 → Meets r (by_nth taken_as P.callback_and_pointer i v) → Meets r (by_nth taken_as (detached_with o) i v)
  first_taken zero l h = h
  first_taken (suc zero) l h = h
  first_taken (suc (suc i)) l h = absurd (omega (arith, l))

  -- what the function takes
  pub then_taken : (i : ℕ) → 2 ≤ i → Meets r (by_nth taken_as (detach_takes o) (i - 2) v) → Meets r (by_nth taken_as (detached_with o) i v)
  then_taken zero l h = absurd (omega (arith, l))
  then_taken (suc zero) l h = absurd (omega (arith, l))
  then_taken (suc (suc k)) l h =
      let at : suc (suc k) - 2 ≡ k = omega arith in
      nth_by taken_as (detached_with o) (detach_takes o) (suc (suc k)) (suc (suc k) - 2) v r (ap (slice_get (detach_takes o)) (sym at)) h

-- ---- whether values are what is taken

-- the first two of values
abbrev pub first_two : List V.Value → List V.Value
first_two (callback ∷ pointer ∷ vs) = callback ∷ pointer ∷ []
first_two vs = vs

-- where the third value is the code of a function, the first two decide
pub two_decide : (vs : List V.Value) (f : Name) (ks : List Taken) → Some f ≡ third_code vs → map Some ks ≡ map taken_of P.callback_and_pointer → are_taken (map Some ks) (first_two vs) ≡ is_detached vs
two_decide [] f ks e h = absurd cc
two_decide (a ∷ []) f ks e h = absurd cc
two_decide (a ∷ b ∷ []) f ks e h = absurd cc
two_decide (a ∷ b ∷ W.Code x ∷ vs) f ks e h = ap (λ ts. are_taken ts (a ∷ b ∷ [])) h
two_decide (a ∷ b ∷ _ ∷ vs) f ks e h = absurd cc

-- where it is not, there may be none at all
pub none_decides : (vs : List V.Value) → None ≡ third_code vs → (vs ≡ [] → ⊥) → is_detached vs ≡ false
none_decides [] e h = absurd (h refl)
none_decides (a ∷ []) e h = refl
none_decides (a ∷ b ∷ []) e h = refl
none_decides (a ∷ b ∷ W.Code x ∷ vs) e h = absurd cc
none_decides (a ∷ b ∷ _ ∷ vs) e h = refl

-- ---- rows

-- what a row is that is given: its first value, and the others
abbrev Apart : Names → P.Taken → Value → List P.Taken → List Value → List V.Value → Type 0
Apart names t v ts vs ws = (w : V.Value) × (us : List V.Value) × (ws ≡ w ∷ us) × (taken_as t v ≡ Gives (value_of names w)) × (all_taken ts vs ≡ Gives (values_of names us))

taken_apart : (names : Names) (t : P.Taken) (v : Value) (ts : List P.Taken) (vs : List Value) (ws : List V.Value) → all_taken (t ∷ ts) (v ∷ vs) ≡ Gives (values_of names ws) → Apart names t v ts vs ws
taken_apart names t v ts vs ws g = go (taken_as t v) refl (all_taken ts vs) refl ws g
  where
    go : (q : Answer Value) → taken_as t v ≡ q → (a : Answer (List Value)) → all_taken ts vs ≡ a → (ws : List V.Value) → (q >>= (λ x. a >>= (λ xs. Gives (x ∷ xs)))) ≡ Gives (values_of names ws) → Apart names t v ts vs ws
    go (Gives x) i (Gives xs) j [] g = absurd cc
    go (Gives x) i (Gives xs) j (w ∷ us) g =
        let head : x ≡ value_of names w = cc in
        let tail : xs ≡ values_of names us = cc in
        (w, us, refl, i ∙ ap Gives head, j ∙ ap Gives tail)
    go (Gives x) i (Faults f) j ws g = absurd cc
    go (Gives x) i NoAnswer j ws g = absurd cc
    go (Faults f) i a j ws g = absurd cc
    go NoAnswer i a j ws g = absurd cc

-- a code stays one
code_stays : (names : Names) (f : Function) (x : Text) (w : V.Value) → taken_as (P.SetOf (function_type f.result (parameter_types f))) (Code x) ≡ Gives (value_of names w) → (y : Name) × (w ≡ W.Code y)
code_stays names f x (W.Code y) g = (y, refl)
code_stays names f x _ g = absurd cc

-- the value of a row is the one that is taken
is_so : (names : Names) (t : P.Taken) (k : Taken) (v : Value) (w : V.Value) → Some k ≡ taken_of t → taken_as t v ≡ Gives (value_of names w) → is_taken_as k (seen w) ≡ true
is_so names t k v w e g = sym (taken_shown names k w) ∙ fitted t k v (value_of names w) e g

-- the callback, and its pointer
abbrev callback : P.Taken
callback = P.SetOf (function_type TyVoid (P.any_pointer ∷ TyInt Int ∷ []))

abbrev pointer : P.Taken
pointer = P.FreeOf P.any_pointer

-- the third value, where the function is there
third_fits : (names : Names) (o : Option Function) (x : Text) (vs : List Value) (ws : List V.Value) → all_taken (detach_takes o) (Code x ∷ vs) ≡ Gives (values_of names ws) → (y : Name) × (us : List V.Value) × (ws ≡ W.Code y ∷ us)
third_fits names None x vs ws g = absurd cc
third_fits names (Some f) x vs ws g =
    let a = taken_apart names (P.SetOf (function_type f.result (parameter_types f))) (Code x) (section_takes (parameter_types f)) vs ws g in
    let c = code_stays names f x a.0 a.3 in
    (c.0, a.1, a.2 ∙ ap (λ w. w ∷ a.1) c.1)

-- a row by its values
three_values : (ws us vs rest : List V.Value) (a b c : V.Value) → ws ≡ a ∷ us → us ≡ b ∷ vs → vs ≡ c ∷ rest → ws ≡ a ∷ b ∷ c ∷ rest
three_values ws us vs rest a b c e g h = cc

detached_by : (ws rest : List V.Value) (a b : V.Value) (y : Name) → ws ≡ a ∷ b ∷ W.Code y ∷ rest → is_taken_as (T.SetOf S.Code) (seen a) ≡ true → is_taken_as (T.FreeOf S.Pointer) (seen b) ≡ true → is_detached ws ≡ true
detached_by ws rest a b y is left right = rw is (and_holds _ _ left (and_holds _ _ right refl))

-- values as they are taken are those with which a section is asked for
detached_fit : (names : Names) (o : Option Function) (vs ws : List V.Value) (f : Name) → Some f ≡ third_code vs → all_taken (detached_with o) (values_of names vs) ≡ Gives (values_of names ws) → is_detached ws ≡ true
detached_fit names o [] ws f e g = absurd cc
detached_fit names o (a ∷ []) ws f e g = absurd cc
detached_fit names o (a ∷ b ∷ []) ws f e g = absurd cc
detached_fit names o (a ∷ b ∷ W.Code x ∷ vs) ws f e g =
    let rest = values_of names vs in
    let one = taken_apart names callback (value_of names a) (pointer ∷ detach_takes o) (value_of names b ∷ Code (names x) ∷ rest) ws g in
    let two = taken_apart names pointer (value_of names b) (detach_takes o) (Code (names x) ∷ rest) one.1 one.4 in
    let three = third_fits names o (names x) rest two.1 two.4 in
    detached_by ws three.1 one.0 two.0 three.0 (three_values ws one.1 two.1 three.1 one.0 two.0 (W.Code three.0) one.2 two.2 three.2)
    (is_so names callback (T.SetOf S.Code) (value_of names a) one.0 refl one.3) (is_so names pointer (T.FreeOf S.Pointer) (value_of names b) two.0 refl two.3)
detached_fit names o (a ∷ b ∷ _ ∷ vs) ws f e g = absurd cc

-- where the values are not those, no rule fits
pub none_detached : (names : Names) (o : Option Function) (vs ws : List V.Value) (f : Name) → Some f ≡ third_code vs → is_detached ws ≡ false → (fault : Fault) → Meets (Ok (values_of names ws)) (all_taken (detached_with o) (values_of names vs))
    → Meets {A = List Value} (Err fault) (all_taken (detached_with o) (values_of names vs))
none_detached names o vs ws f e not fault h = go (all_taken (detached_with o) (values_of names vs)) refl h
  where
    go : (a : Answer (List Value)) → all_taken (detached_with o) (values_of names vs) ≡ a → Meets (Ok (values_of names ws)) a → Meets {A = List Value} (Err fault) a
    go (Gives xs) i m = let is : xs ≡ values_of names ws = cc in let yes = detached_fit names o vs ws f e (i ∙ ap Gives is) in absurd cc
    go (Faults d) i m = absurd cc
    go NoAnswer i m = tt

-- ---- what is taken, by the third value

pub takes_third : (p : Program) (names : Names) (vs : List V.Value) (f : Name) → Some f ≡ third_code vs → R.takes p P.RtDetach (values_of names vs) ≡ detached_with (function_named p (names f))
takes_third p names [] f e = absurd cc
takes_third p names (a ∷ []) f e = absurd cc
takes_third p names (a ∷ b ∷ []) f e = absurd cc
takes_third p names (a ∷ b ∷ W.Code x ∷ vs) f e = let is : f ≡ x = cc in ap (λ y. detached_with (function_named p (names y))) (sym is)
takes_third p names (a ∷ b ∷ _ ∷ vs) f e = absurd cc

-- where no code stands there no rule fits, but for no values at all
pub takes_none : (p : Program) (names : Names) (vs : List V.Value) → None ≡ third_code vs → (vs ≡ [] → ⊥) → all_taken (R.takes p P.RtDetach (values_of names vs)) (values_of names vs) ≡ NoAnswer
takes_none p names [] e h = absurd (h refl)
takes_none p names (a ∷ []) e h = refl
takes_none p names (a ∷ b ∷ []) e h = refl
takes_none p names (a ∷ b ∷ W.Unset ∷ vs) e h = refl
takes_none p names (a ∷ b ∷ W.Int kind z ∷ vs) e h = refl
takes_none p names (a ∷ b ∷ W.Null ∷ vs) e h = refl
takes_none p names (a ∷ b ∷ W.At c k ∷ vs) e h = refl
takes_none p names (a ∷ b ∷ W.Code x ∷ vs) e h = absurd cc
takes_none p names (a ∷ b ∷ W.Cond n ∷ vs) e h = refl

pub takes_nothing : (p : Program) (names : Names) (vs : List V.Value) → vs ≡ [] → all_taken (R.takes p P.RtDetach (values_of names vs)) (values_of names vs) ≡ Gives (values_of names vs)
takes_nothing p names [] e = refl
takes_nothing p names (a ∷ vs) e = absurd cc

-- a primitive of another name
pub other_takes : (b : Primitive) (p : Program) (vs : List Value) → (b ≡ B.RtDetach → ⊥) → R.takes p (primitive_of b) vs ≡ P.takes_first (primitive_of b)
other_takes B.RtDetach p vs h = absurd (h refl)
other_takes _ p vs h = refl

-- another primitive of the code is another one of the language
pub not_detached : (b : Primitive) → (b ≡ B.RtDetach → ⊥) → primitive_of b ≡ P.RtDetach → ⊥
not_detached B.RtDetach h e = h refl
not_detached _ h e = absurd cc

-- it is asked with what it takes
pub asked_if : (r : Result (Vec V.Value) (Stop Fault)) (prim : P.Primitive) (ks : List Taken) → (prim ≡ P.RtDetach → ⊥) → map Some ks ≡ map taken_of (P.takes_first prim)
    → IfOk r (λ vs. are_taken (map Some ks) vs.items ≡ true) → IfOk r (λ vs. IsAskedWith prim vs.items)
asked_if (Ok vs) prim ks n e h = asked_so prim ks vs.items n e h
asked_if (Err stop) prim ks n e h = tt
