-- Arguments that are converted are held, and codes are of functions that stand for each other.
use Rattle.std.proofs.Common.{◌≡◌, Bool, true, false, cond, List, [], ◌∷◌, map, Option, Some, refl, ◌∙◌, ap, subst}
use Rattle.std.specs.List.{All}
use Rattle.std.proofs.lemmas.List.Elements.{All-nil, All-cons, All-head, All-tail}
use Rattle.cpc_base.specs.Bytes.{Text}
use Rattle.cpc_num.specs.declared.kinds.Fault.TheVariants as F
use Rattle.cpc_num.specs.declared.kinds.Kind.TheVariants.{Long}
use Rattle.cpc_tree.specs.Syntax.{Ty, TyInt, Function, Program}
use Rattle.cpc_tree.specs.Primitives.{Primitive, Taken, AnyInteger, SetOf, FreeOf, RtDetach}
use Rattle.cpc_tree.specs.Typing.{same_type, function_type, function_named, parameter_type, parameter_types}
use Rattle.cpc_store.specs.Store.{Value, Unset, Whole, Null, At, Code, Cond}
use Rattle.cpc_meaning.specs.Answer.{Gives, Faults}
use Rattle.cpc_meaning.specs.Eval.{assigned, at_type}
use Rattle.cpc_meaning.specs.Requests.{takes, set_integer, taken_as, all_taken, all_long, arguments, byte_values}
use Rattle.cpc_meaning.specs.Act.{function_of_type, callee}
use Rattle.cpc_meaning_laws.proofs.Pointer.Blocks.{Only, only_then}
use Rattle.cpc_convert_image_laws.specs.Held.{IsHeld}
use Rattle.cpc_convert_image_laws.specs.Relations.{SameHead, Found, BothFound, NoneFound, Meets, BothGive, BothFault, Stuck}
use Rattle.cpc_convert_image_laws.proofs.Operators.{assigned_held, at_type_held}

-- ---- arguments

module _ (C : Text → Type 0) where
  pub arguments_held : (ts : List Ty) (vs : List Value) → All (IsHeld C) vs → Only (All (IsHeld C)) (arguments ts vs)
  arguments_held [] [] h = h
  arguments_held (t ∷ ts) (v ∷ vs) h =
      only_then (IsHeld C) (All (IsHeld C)) (assigned t v) _ (assigned_held C t v (All-head (IsHeld C) v vs h)) λ w i.
      only_then (All (IsHeld C)) (All (IsHeld C)) (arguments ts vs) _ (arguments_held ts vs (All-tail (IsHeld C) v vs h)) λ ws j. All-cons (IsHeld C) w ws i j
  arguments_held [] (v ∷ vs) h = tt
  arguments_held (t ∷ ts) [] h = tt

  integer_held : (v : Value) → Only (IsHeld C) (set_integer v)
  integer_held Unset = tt
  integer_held (Whole kind z) = tt
  integer_held _ = tt

  pub taken_held : (t : Taken) (v : Value) → IsHeld C v → Only (IsHeld C) (taken_as t v)
  taken_held AnyInteger v h = integer_held v
  taken_held (SetOf t) v h = at_type_held C t v h
  taken_held (FreeOf t) v h = assigned_held C t v h

  pub all_taken_held : (ts : List Taken) (vs : List Value) → All (IsHeld C) vs → Only (All (IsHeld C)) (all_taken ts vs)
  all_taken_held [] [] h = h
  all_taken_held (t ∷ ts) (v ∷ vs) h =
      only_then (IsHeld C) (All (IsHeld C)) (taken_as t v) _ (taken_held t v (All-head (IsHeld C) v vs h)) λ w i.
      only_then (All (IsHeld C)) (All (IsHeld C)) (all_taken ts vs) _ (all_taken_held ts vs (All-tail (IsHeld C) v vs h)) λ ws j. All-cons (IsHeld C) w ws i j
  all_taken_held [] (v ∷ vs) h = tt
  all_taken_held (t ∷ ts) [] h = tt

  pub all_long_held : (vs : List Value) → All (IsHeld C) vs → Only (All (IsHeld C)) (all_long vs)
  all_long_held [] h = h
  all_long_held (v ∷ vs) h =
      only_then (IsHeld C) (All (IsHeld C)) (at_type (TyInt Long) v) _ (at_type_held C (TyInt Long) v (All-head (IsHeld C) v vs h)) λ w i.
      only_then (All (IsHeld C)) (All (IsHeld C)) (all_long vs) _ (all_long_held vs (All-tail (IsHeld C) v vs h)) λ ws j. All-cons (IsHeld C) w ws i j

  pub bytes_held : (bs : Text) → All (IsHeld C) (byte_values bs)
  bytes_held [] = All-nil (IsHeld C)
  bytes_held (b ∷ bs) = All-cons (IsHeld C) _ (byte_values bs) tt (bytes_held bs)

pub takes_same : (p q : Program) (prim : Primitive) (vs : List Value) → ¬ (prim ≡ RtDetach) → takes p prim vs ≡ takes q prim vs
takes_same p q RtDetach vs h = absurd (h refl)
takes_same p q _ vs h = refl

-- ---- functions

pub same_parameters : (f g : Function) → SameHead f g → parameter_types f ≡ parameter_types g
same_parameters f g h = ap (λ ps. map parameter_type ps) h.parameters

-- two functions that stand for each other
pub data FunctionAlike (R : Function → Function → Type 0) : Function → Function → Type 0 where
  InPlace : (f g : Function) → R f g → SameHead f g → FunctionAlike R f g

module _ (R : Function → Function → Type 0) where
  same_test : (t : Ty) (f g : Function) → SameHead f g → same_type t (function_type f.result (parameter_types f)) ≡ same_type t (function_type g.result (parameter_types g))
  same_test t f g h = ap (λ r. same_type t (function_type r (parameter_types f))) h.result ∙ ap (λ ps. same_type t (function_type g.result ps)) (same_parameters f g h)

  if_alike : (test : Bool) (f g : Function) → R f g → SameHead f g → Meets (FunctionAlike R) (cond test (Gives f) (Faults F.Code)) (cond test (Gives g) (Faults F.Code))
  if_alike true f g h i = BothGive f g (InPlace f g h i)
  if_alike false f g h i = BothFault F.Code

  of_type : (t : Ty) (a b : Option Function) → Found R a b → Meets (FunctionAlike R) (function_of_type t a) (function_of_type t b)
  of_type t _ _ (BothFound f g h i) =
      subst (λ test. Meets (FunctionAlike R) (function_of_type t (Some f)) (cond test (Gives g) (Faults F.Code))) (same_test t f g i)
      (if_alike (same_type t (function_type f.result (parameter_types f))) f g h i)
  of_type t _ _ NoneFound = BothFault F.Code

  pub callees : (C : Text → Type 0) (p q : Program) → ((x : Text) → C x → Found R (function_named p x) (function_named q x)) → (t : Ty) (v : Value) → IsHeld C v → Meets (FunctionAlike R) (callee p t v) (callee q t v)
  callees C p q codes t Unset h = BothFault F.Unset
  callees C p q codes t Null h = BothFault F.Null
  callees C p q codes t (Code f) h = of_type t _ _ (codes f h)
  callees C p q codes t (Whole kind z) h = Stuck _
  callees C p q codes t (At c n k) h = Stuck _
  callees C p q codes t (Cond n) h = Stuck _
