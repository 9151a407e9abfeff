-- Waits, sections, results and arrivals: the statement of the source, and the other statement that its image becomes.
use Rattle.std.proofs.Common.{◌≡◌, ℕ, true, List, [], ◌∷◌, ◌++◌, Option, Some, None, slice_get, refl, sym, ◌∙◌, ap, subst, false}
use Rattle.std.specs.List.{All}
use Rattle.cpc_base.specs.Bytes.{Text}
use Rattle.cpc_tree.specs.Syntax.{Ty, TyVoid, TyInt, TyCondvar, TyPointer, TyCode, TyStruct, TyArray, Expr, ENamed, Exprs, NoExpr, AndExpr, Function, Program}
use Rattle.cpc_tree.specs.Points.{Found as Standing}
use Rattle.cpc_tree.specs.Primitives.{Primitive, RtDetach, Taken, any_pointer, callback_and_pointer, takes_first}
use Rattle.cpc_tree.specs.Typing.{Scope, ALocal, named, function_named, parameter_types, APlace, typing, is_scalar}
use Rattle.cpc_store.specs.Store.{Value, Code, Store, Blocks}
use Rattle.cpc_meaning.specs.Answer.{Answer, Gives, Faults, NoAnswer, ◌>>=◌, needed}
use Rattle.cpc_meaning.specs.Eval.{Slot, Register, Context, value, values, assigned}
use Rattle.cpc_meaning.specs.Requests.{Builtin, Section, takes, section_takes, taken_as, all_taken}
use Rattle.cpc_meaning.specs.Act.{GoesOn, assign, assigns, asks, asks_with, detaches, returns, leaves, deliver, arrives, target_of}
use Rattle.cpc_meaning.proofs.SameValues.{at}
use Rattle.cpc_meaning.specs.Names.{AllNames, AllNamesAmong}
use Rattle.cpc_meaning.proofs.Chained.{then_assoc}
use Rattle.cpc_convert_image_laws.specs.Images.{Readings, image, images, followed}
use Rattle.cpc_convert_image_laws.specs.InPlace.{is_array, IsWritten}
use Rattle.cpc_convert_image_laws.specs.Held.{IsHeld, IsHeldSlot, IsHeldStore, beside}
use Rattle.cpc_convert_image_laws.specs.Relations.{Found, BothFound, NoneFound, SameHead, Common, Meets, BothGive, BothFault, Stuck, Same, It, Means, SameAct, WaitAct, Waited, SectionAct, Detached, StoredAct, Stored}
use Rattle.cpc_meaning_laws.proofs.Pointer.Blocks.{Only}
use Rattle.cpc_convert_image_laws.proofs.Live.{IsReadLive}
use Rattle.cpc_convert_image_laws.proofs.Answers.{meets_then, self_then}
use Rattle.cpc_convert_image_laws.proofs.Arguments.{all_taken_held, same_parameters}
use Rattle.cpc_convert_image_laws.proofs.Acts.{values_alike, value_alike, arrives_alike}
use Rattle.cpc_convert_image_laws.proofs.Operators.{assigned_held}

-- ---- more arguments

joined_values : (a : Answer Value) (b : Answer (List Value)) (more : List Value) → (a >>= λ v. (b >>= λ vs. Gives (vs ++ more)) >>= λ us. Gives (v ∷ us)) ≡ ((a >>= λ v. b >>= λ vs. Gives (v ∷ vs)) >>= λ us. Gives (us ++ more))
joined_values (Gives v) (Gives vs) more = refl
joined_values (Gives v) (Faults fault) more = refl
joined_values (Gives v) NoAnswer more = refl
joined_values (Faults fault) b more = refl
joined_values NoAnswer b more = refl

values_followed : (c : Context) (es : Exprs) (a b : Expr) (v w : Value) → value c a ≡ Gives v → value c b ≡ Gives w → values c (followed es a b) ≡ (values c es >>= λ vs. Gives (vs ++ v ∷ w ∷ []))
values_followed c NoExpr a b v w e f = simp (e, f) refl
values_followed c (AndExpr x es) a b v w e f =
    ap (λ d. value c x >>= λ y. d >>= λ us. Gives (y ∷ us)) (values_followed c es a b v w e f) ∙ joined_values (value c x) (values c es) (v ∷ w ∷ [])

-- a list, and it with these behind it
data Longer (more : List Value) : List Value → List Value → Type 0 where
  Further : (vs : List Value) → Longer more vs (vs ++ more)

taken_followed : (ts : List Taken) (vs : List Value) (d : Text) (k : Value) → assigned any_pointer k ≡ Gives k → Meets (Longer (Code d ∷ k ∷ [])) (all_taken ts vs) (all_taken (ts ++ callback_and_pointer) (vs ++ Code d ∷ k ∷ []))
taken_followed [] [] d k e = rw e (BothGive _ _ (Further []))
taken_followed (t ∷ ts) (v ∷ vs) d k e = self_then (Longer (Code d ∷ k ∷ [])) (taken_as t v) _ _ λ w. meets_then (Longer (Code d ∷ k ∷ [])) (Longer (Code d ∷ k ∷ [])) _ _ _ _ (taken_followed ts vs d k e) (one_more w)
  where
    one_more : (w : Value) (xs ys : List Value) → Longer (Code d ∷ k ∷ []) xs ys → Meets (Longer (Code d ∷ k ∷ [])) (Gives (w ∷ xs)) (Gives (w ∷ ys))
    one_more w _ _ (Further vs) = BothGive _ _ (Further (w ∷ vs))
taken_followed [] (v ∷ vs) d k e = Stuck _
taken_followed (t ∷ ts) [] d k e = Stuck _

takes_plain : (p : Program) (prim : Primitive) (vs : List Value) → ¬ (prim ≡ RtDetach) → takes p prim vs ≡ takes_first prim
takes_plain p RtDetach vs h = absurd (h refl)
takes_plain p _ vs h = refl

-- three values before others
joined_three : (a : Answer (List Value)) (x y z : Value) → (((a >>= λ vs. Gives (x ∷ vs)) >>= λ vs. Gives (y ∷ vs)) >>= λ vs. Gives (z ∷ vs)) ≡ (a >>= λ vs. Gives (z ∷ y ∷ x ∷ vs))
joined_three (Gives vs) x y z = refl
joined_three (Faults fault) x y z = refl
joined_three NoAnswer x y z = refl

values_before : (c : Context) (a b e : Expr) (es : Exprs) (x y z : Value) → value c a ≡ Gives z → value c b ≡ Gives y → value c e ≡ Gives x → values c (AndExpr a (AndExpr b (AndExpr e es))) ≡ (values c es >>= λ vs. Gives (z ∷ y ∷ x ∷ vs))
values_before c a b e es x y z h i j = rw (h, i, j) (joined_three (values c es) x y z)

taken_before : (q : Program) (f d : Text) (k : Value) (g : Function) (vs : List Value) → function_named q f ≡ Some g → assigned any_pointer k ≡ Gives k
    → all_taken (takes q RtDetach (Code d ∷ k ∷ Code f ∷ vs)) (Code d ∷ k ∷ Code f ∷ vs) ≡ (all_taken (section_takes (parameter_types g)) vs >>= λ ws. Gives (Code d ∷ k ∷ Code f ∷ ws))
taken_before q f d k g vs e h = rw (e, h) (joined_three (all_taken (section_takes (parameter_types g)) vs) (Code f) k (Code d))

module _ (C : Text → Type 0) (R : Function → Function → Type 0) (P : ℕ → Ty → ℕ → Type 0) (p q : Program) (common : Common C R p q) (L : Text → Type 0) (r : Readings) (scope scope' : Scope) (slots slots' : List Slot) (names : (x : Text) → L x → Means C P q scope' slots slots' x (r x) (named p scope x)) (s : Store) (source : IsHeldStore C s) (held : All (IsHeldSlot C) slots) (live : (x : Text) → IsReadLive s slots (r x)) (frames : Blocks) where
  abbrev here : Context
  here = at p scope slots s

  abbrev there : Context
  there = at q scope' slots' (beside frames s)

  -- ---- waits

  pub wait_alike : (prim prim' : Primitive) (es : Exprs) (a b : Expr) (d : Text) (k : Value) → ¬ (prim ≡ RtDetach) → ¬ (prim' ≡ RtDetach) → takes_first prim' ≡ takes_first prim ++ callback_and_pointer
      → value there a ≡ Gives (Code d) → value there b ≡ Gives k → assigned any_pointer k ≡ Gives k → AllNamesAmong L es
      → Meets (WaitAct C prim prim' d k) (asks_with here prim es None) (asks_with there prim' (followed (images r es) a b) None)
  wait_alike prim prim' es a b d k h i j e f g l =
      rw (values_followed there (images r es) a b (Code d) k e f) (behind (values here es) (values there (images r es)) (values_alike C R P p q common L r scope scope' slots slots' names s source held live frames es l))
    where
      asked : (us xs ys : List Value) → All (IsHeld C) xs → Longer (Code d ∷ k ∷ []) xs ys → Meets (WaitAct C prim prim' d k) (asks (Builtin prim) xs) (asks (Builtin prim') ys)
      asked us _ _ m (Further vs) = BothGive _ _ (Waited vs m)

      then_asked : (us : List Value) (x y : Answer (List Value)) → Only (All (IsHeld C)) x → Meets (Longer (Code d ∷ k ∷ [])) x y → Meets (WaitAct C prim prim' d k) (x >>= asks (Builtin prim)) (y >>= asks (Builtin prim'))
      then_asked us _ _ m (BothGive xs ys n) = asked us xs ys m n
      then_asked us _ _ m (BothFault fault) = BothFault fault
      then_asked us _ _ m (Stuck y) = Stuck _

      taken : (vs : List Value) → All (IsHeld C) vs → Meets (WaitAct C prim prim' d k) (all_taken (takes p prim vs) vs >>= asks (Builtin prim)) (all_taken (takes q prim' (vs ++ Code d ∷ k ∷ [])) (vs ++ Code d ∷ k ∷ []) >>= asks (Builtin prim'))
      taken vs m =
          rw (takes_plain p prim vs h, takes_plain q prim' (vs ++ Code d ∷ k ∷ []) i, j)
          (then_asked vs _ _ (all_taken_held C (takes_first prim) vs m) (taken_followed (takes_first prim) vs d k g))

      behind : (x y : Answer (List Value)) → Meets (Same (All (IsHeld C))) x y
          → Meets (WaitAct C prim prim' d k) (x >>= λ vs. all_taken (takes p prim vs) vs >>= asks (Builtin prim)) ((y >>= λ vs. Gives (vs ++ Code d ∷ k ∷ [])) >>= λ vs. all_taken (takes q prim' vs) vs >>= asks (Builtin prim'))
      behind _ _ (BothGive _ _ (It vs m)) = taken vs m
      behind _ _ (BothFault fault) = BothFault fault
      behind _ _ (Stuck y) = Stuck _

  -- ---- sections

  pub section_alike : (f : Text) (es : Exprs) (a b c : Expr) (d : Text) (k : Value) → C f → value there a ≡ Gives (Code d) → value there b ≡ Gives k → value there c ≡ Gives (Code f) → assigned any_pointer k ≡ Gives k → AllNamesAmong L es
      → Meets (SectionAct C f d k) (detaches here f es) (asks_with there RtDetach (AndExpr a (AndExpr b (AndExpr c (images r es)))) None)
  section_alike f es a b c d k code e g h i l =
      rw (values_before there a b c (images r es) (Code f) k (Code d) e g h)
      (found (function_named p f) (function_named q f) refl (common.codes f code) (values here es) (values there (images r es)) (values_alike C R P p q common L r scope scope' slots slots' names s source held live frames es l))
    where
      asked : (x : Answer (List Value)) → Only (All (IsHeld C)) x → Meets (SectionAct C f d k) (x >>= asks (Section f)) ((x >>= λ ws. Gives (Code d ∷ k ∷ Code f ∷ ws)) >>= asks (Builtin RtDetach))
      asked (Gives ws) m = BothGive _ _ (Detached ws m)
      asked (Faults fault) m = BothFault fault
      asked NoAnswer m = Stuck _

      taken : (g g' : Function) (vs : List Value) → function_named q f ≡ Some g' → SameHead g g' → All (IsHeld C) vs
          → Meets (SectionAct C f d k) (all_taken (section_takes (parameter_types g)) vs >>= asks (Section f)) (all_taken (takes q RtDetach (Code d ∷ k ∷ Code f ∷ vs)) (Code d ∷ k ∷ Code f ∷ vs) >>= asks (Builtin RtDetach))
      taken g g' vs same head m =
          rw (taken_before q f d k g' vs same i, sym (same_parameters g g' head))
          (asked (all_taken (section_takes (parameter_types g)) vs) (all_taken_held C (section_takes (parameter_types g)) vs m))

      found : (o u : Option Function) → function_named q f ≡ u → Found R o u → (x y : Answer (List Value)) → Meets (Same (All (IsHeld C))) x y
          → Meets (SectionAct C f d k) (needed o >>= λ g. x >>= λ vs. all_taken (section_takes (parameter_types g)) vs >>= asks (Section f)) ((y >>= λ vs. Gives (Code d ∷ k ∷ Code f ∷ vs)) >>= λ vs. all_taken (takes q RtDetach vs) vs >>= asks (Builtin RtDetach))
      found _ _ same NoneFound x y m = Stuck _
      found _ _ same (BothFound g g' m n) _ _ (BothFault fault) = BothFault fault
      found _ _ same (BothFound g g' m n) _ _ (Stuck y) = Stuck _
      found _ _ same (BothFound g g' m n) _ _ (BothGive _ _ (It vs j)) = taken g g' vs same n j

  -- ---- results and arrivals

  -- a value is left in a local
  pub stored_alike : (t : Ty) (e : Expr) (y : Text) (k' : ℕ) (u : Value) → named q scope' y ≡ ALocal k' t → slice_get slots' k' ≡ Some (Register u) → AllNames L e
      → Meets (StoredAct C s frames slots' k') (value here e >>= assigned t) (assigns there (ENamed y) (image r e))
  stored_alike t e y k' u n f l = go (value here e) (value there (image r e)) (value_alike C R P p q common L r scope scope' slots slots' names s source held live frames e l)
    where
      written : (w : Value) (x : Answer Value) → x ≡ assigned t w → Only (IsHeld C) x
          → Meets (StoredAct C s frames slots' k') x (assign there (ENamed y) w >>= λ w. Gives (GoesOn true w.1 w.0))
      written w (Gives v) e h = simp (n, f, sym e) (BothGive _ _ (Stored v h))
      written w (Faults fault) e h = simp (n, f, sym e) (BothFault fault)
      written w NoAnswer e h = Stuck _

      go : (x z : Answer Value) → Meets (Same (IsHeld C)) x z → Meets (StoredAct C s frames slots' k') (x >>= assigned t) (z >>= λ w. assign there (ENamed y) w >>= λ w. Gives (GoesOn true w.1 w.0))
      go _ _ (BothGive _ _ (It v h)) = written v (assigned t v) refl (assigned_held C t v h)
      go _ _ (BothFault fault) = BothFault fault
      go _ _ (Stuck z) = Stuck _

  -- a value arrives that stands in a local
  pub arrival_alike : (e : Expr) (v : Value) (y : Text) (k' : ℕ) (t : Ty) → named q scope' y ≡ ALocal k' t → slice_get slots' k' ≡ Some (Register v) → IsWritten here e → AllNames L e → IsHeld C v
      → Meets (SameAct C R P frames slots slots') (assign here e v >>= λ w. Gives (GoesOn true w.1 w.0)) (assigns there (image r e) (ENamed y))
  arrival_alike e v y k' t n f h l i =
      subst (λ a. Meets (SameAct C R P frames slots slots') (assign here e v >>= λ w. Gives (GoesOn true w.1 w.0)) (a >>= λ v. assign there (image r e) v >>= λ w. Gives (GoesOn true w.1 w.0))) (sym known)
      (arrives_alike C R P p q common L r scope scope' slots slots' names s source held live frames (Some e) v h l i)
    where
      known : value there (ENamed y) ≡ Gives v
      known = simp (n, f) refl

-- ---- what does not depend on a frame

-- a return gives the value at the type of the result, and leaves
pub returns_by_value : (c : Context) (result : Ty) (e : Expr) → returns c result (Some e) ≡ ((value c e >>= assigned result) >>= leaves c)
returns_by_value c result e = then_assoc (value c e) (assigned result) (leaves c)

-- an arrival depends on the place for the value alone
pub arrives_by_target : (c : Context) (f g : Standing) (o : Option Value) → target_of f ≡ target_of g → arrives c f o ≡ arrives c g o
arrives_by_target c f g o e = ap (λ x. needed o >>= λ v. needed x >>= λ y. deliver c y v >>= λ w. Gives (GoesOn true w.1 w.0)) e

-- a place of a scalar type may be written
pub scalar_is_written : (c : Context) (e : Expr) (t : Ty) → typing c.program c.scope e ≡ Some (APlace t) → is_scalar t ≡ true → IsWritten c e
scalar_is_written c e t h i = rw h (no_array t i)
  where
    no_array : (t : Ty) → is_scalar t ≡ true → is_array (Some t) ≡ false
    no_array (TyArray u n) i = absurd (cc)
    no_array TyVoid i = refl
    no_array (TyInt kind) i = refl
    no_array TyCondvar i = refl
    no_array (TyPointer u) i = refl
    no_array (TyCode r ps) i = refl
    no_array (TyStruct tag) i = refl
