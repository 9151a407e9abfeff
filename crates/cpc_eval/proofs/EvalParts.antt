-- The values of expressions, by what was found of their parts.
use Rattle.std.proofs.Common.{◌≡◌, ◌^◌, ◌<◌, Bool, true, false, length, Option, Some, None, Result, Ok, Err, refl, ap, sym, subst, ◌∙◌, ℤ}
use Rattle.cpc_base.specs.Bytes.{Text}
use Rattle.cpc_num.specs.Number as N
use Rattle.cpc_num.specs.declared.kinds.Fault.{Fault}
use Rattle.cpc_num.specs.declared.kinds.Kind.{Kind}
use Rattle.cpc_num.specs.declared.kinds.Kind.TheVariants.{Int}
use Rattle.cpc_num.specs.declared.kinds.Op.{Op}
use Rattle.cpc_tree.specs.declared.program.UnaryOp.{UnaryOp}
use Rattle.cpc_tree.specs.declared.program.UnaryOp.TheVariants as U
use Rattle.cpc_tree.specs.Syntax as S
use Rattle.cpc_tree.specs.Syntax.{Ty}
use Rattle.cpc_tree.specs.Typing as T
use Rattle.cpc_store.specs.Store.{Value, Whole}
use Rattle.cpc_meaning.specs.Answer.{Answer, Gives, ◌>>=◌, needed}
use Rattle.cpc_meaning.specs.Eval as E
use Rattle.cpc_shapes.specs.Found.{used_of}
use Rattle.cpc_eval_values.specs.Meets.{Meets}
use Rattle.cpc_eval_values.proofs.Meeting.{meets_then, meets_fault}
use Rattle.cpc_eval.specs.Around.{operate_in, type_in, meant_in}
use Rattle.cpc_eval.specs.Numbers.{HasNumbers, FitsSize, size_value}
use Rattle.cpc_eval.specs.Shapes.{Agrees}
use Rattle.cpc_eval.specs.Values.{unary_value, operator_value, branch_value, place_value, test_value, assigned_if, assigned_at}
use Rattle.cpc_eval.proofs.Evaluating.{chain_one, name_value, name_place, name_address, index_there, member_there, arrow_there, star_there}

module _ (c : E.Context) (e : S.Expr) where
  abbrev pub Valued : S.Expr → Result Value Fault → Type 0
  Valued x r = HasNumbers c.program x → Meets r (E.value c x)

  abbrev pub Placed : S.Expr → Result E.Spot Fault → Type 0
  Placed x r = HasNumbers c.program x → Meets r (E.place c x)

  pub numbers : (x : S.Expr) → e ≡ x → HasNumbers c.program e → HasNumbers c.program x
  numbers x is n = subst (HasNumbers c.program) is n

  pub met : {A : Type 0} (f : S.Expr → Answer A) (x : S.Expr) (r : Result A Fault) → e ≡ x → Meets r (f x) → Meets r (f e)
  met f x r is g = let P : S.Expr → Type 0 = λ y. Meets r (f y) in subst P (sym is) g

  -- ---- what stands alone

  pub name_valued : (x : Text) (m : T.Meant) (r : Result Value Fault) → e ≡ S.ENamed x → length c.slots < 2 ^ 64 → m ≡ meant_in c x → Meets r (E.value_named c.slots c.store x m) → Meets r (E.value c e)
  name_valued x m r is few h g =
      let P : T.Meant → Type 0 = λ y. Meets r (E.value_named c.slots c.store x y) in
      met (E.value c) (S.ENamed x) r is (name_value c x r few (subst P h g))

  pub name_placed : (x : Text) (m : T.Meant) (r : Result E.Spot Fault) → e ≡ S.ENamed x → length c.slots < 2 ^ 64 → m ≡ meant_in c x → Meets r (E.spot_named c.slots m) → Meets r (E.place c e)
  name_placed x m r is few h g =
      let P : T.Meant → Type 0 = λ y. Meets r (E.spot_named c.slots y) in
      met (E.place c) (S.ENamed x) r is (name_place c x r few (subst P h g))

  pub name_addressed : (x : Text) (m : T.Meant) (r : Result Value Fault) → e ≡ S.ENamed x → length c.slots < 2 ^ 64 → m ≡ meant_in c x → Meets r (E.address_named c.slots x m) → Meets r (E.value c (S.EUnary U.AddressOf e))
  name_addressed x m r is few h g =
      let P : T.Meant → Type 0 = λ y. Meets r (E.address_named c.slots x y) in
      met (λ y. E.value c (S.EUnary U.AddressOf y)) (S.ENamed x) r is (name_address c x r few (subst P h g))

  pub integer_valued : (kind : Kind) (z : ℤ) (v : Value) → e ≡ S.EInteger kind z → HasNumbers c.program e → (N.IsOf kind z → v ≡ Whole kind z) → Meets (Ok v) (E.value c e)
  integer_valued kind z v is n g = met (E.value c) (S.EInteger kind z) (Ok v) is (ap Ok (g (numbers (S.EInteger kind z) is n)))

  pub character_valued : (z : ℤ) (v : Value) → e ≡ S.ECharacter z → HasNumbers c.program e → (N.IsOf Int z → v ≡ Whole Int z) → Meets (Ok v) (E.value c e)
  character_valued z v is n g = met (E.value c) (S.ECharacter z) (Ok v) is (ap Ok (g (numbers (S.ECharacter z) is n)))

  pub size_valued : (t : Ty) (r : Result Value Fault) → e ≡ S.ESizeOf t → HasNumbers c.program e → (FitsSize (T.size c.program t) → Meets r (size_value (T.size c.program t))) → Meets r (E.value c e)
  size_valued t r is n g = met (E.value c) (S.ESizeOf t) r is (g (numbers (S.ESizeOf t) is n))

  -- ---- what another function evaluates

  pub unary_valued : (op : UnaryOp) (a : S.Expr) (r : Result Value Fault) → e ≡ S.EUnary op a → Meets r (unary_value c e) → Meets r (E.value c e)
  unary_valued op a r is g = let h = subst (λ (y : S.Expr). Meets r (unary_value c y)) is g in met (E.value c) (S.EUnary op a) r is h

  pub there_valued : (x : S.Expr) (r : Result Value Fault) → e ≡ x → E.value c x ≡ place_value c x → Meets r (place_value c e) → Meets r (E.value c e)
  there_valued x r is same g =
      let h = subst (λ (y : S.Expr). Meets r (place_value c y)) is g in
      met (E.value c) x r is (subst (λ (y : Answer Value). Meets r y) (sym same) h)

  pub index_valued : (a i : S.Expr) (r : Result Value Fault) → e ≡ S.EIndex a i → Meets r (place_value c e) → Meets r (E.value c e)
  index_valued a i r is g = there_valued (S.EIndex a i) r is (index_there c a i) g

  pub member_valued : (a : S.Expr) (x : Text) (r : Result Value Fault) → e ≡ S.EMember a x → Meets r (place_value c e) → Meets r (E.value c e)
  member_valued a x r is g = there_valued (S.EMember a x) r is (member_there c a x) g

  pub arrow_valued : (a : S.Expr) (x : Text) (r : Result Value Fault) → e ≡ S.EArrow a x → Meets r (place_value c e) → Meets r (E.value c e)
  arrow_valued a x r is g = there_valued (S.EArrow a x) r is (arrow_there c a x) g

  same_valued : (f : S.Expr → Answer Value) (x : S.Expr) (r : Result Value Fault) → e ≡ x → f x ≡ E.value c x → Meets r (f e) → Meets r (E.value c e)
  same_valued f x r is same g =
      let h = subst (λ (y : S.Expr). Meets r (f y)) is g in
      met (E.value c) x r is (subst (λ (y : Answer Value). Meets r y) same h)

  pub binary_as : (op : Op) (a b : S.Expr) (r : Result Value Fault) → e ≡ S.EBinary op a b → Meets r (operator_value c e) → Meets r (E.value c e)
  binary_as op a b r is g = same_valued (operator_value c) (S.EBinary op a b) r is refl g

  pub cast_as : (t : Ty) (a : S.Expr) (r : Result Value Fault) → e ≡ S.ECast t a → Meets r (operator_value c e) → Meets r (E.value c e)
  cast_as t a r is g = same_valued (operator_value c) (S.ECast t a) r is refl g

  pub and_as : (a b : S.Expr) (r : Result Value Fault) → e ≡ S.EAnd a b → Meets r (branch_value c e) → Meets r (E.value c e)
  and_as a b r is g = same_valued (branch_value c) (S.EAnd a b) r is refl g

  pub or_as : (a b : S.Expr) (r : Result Value Fault) → e ≡ S.EOr a b → Meets r (branch_value c e) → Meets r (E.value c e)
  or_as a b r is g = same_valued (branch_value c) (S.EOr a b) r is refl g

  pub choose_as : (t a b : S.Expr) (r : Result Value Fault) → e ≡ S.EChoose t a b → Meets r (branch_value c e) → Meets r (E.value c e)
  choose_as t a b r is g = same_valued (branch_value c) (S.EChoose t a b) r is refl g

  pub star_valued : (a : S.Expr) (r : Result Value Fault) → e ≡ S.EUnary U.Dereference a → Meets r (place_value c e) → Meets r (unary_value c e)
  star_valued a r is g =
      let h = subst (λ (y : S.Expr). Meets r (place_value c y)) is g in
      met (unary_value c) (S.EUnary U.Dereference a) r is (subst (λ (y : Answer Value). Meets r y) (sym (star_there c a)) h)

  -- ---- one operand

  pub address_valued : (a : S.Expr) (r : Result Value Fault) → e ≡ S.EUnary U.AddressOf a → HasNumbers c.program e → (HasNumbers c.program a → Meets r (E.value c (S.EUnary U.AddressOf a))) → Meets r (unary_value c e)
  address_valued a r is n g = met (unary_value c) (S.EUnary U.AddressOf a) r is (g (numbers (S.EUnary U.AddressOf a) is n))

  sign_form : (op : UnaryOp) (a : S.Expr) → (op ≡ U.Dereference → ⊥) → (op ≡ U.AddressOf → ⊥) → unary_value c (S.EUnary op a) ≡ (E.value c a >>= E.apply op)
  sign_form U.Dereference a h g = absurd (h refl)
  sign_form U.AddressOf a h g = absurd (g refl)
  sign_form op a h g = refl

  pub sign_valued : (op : UnaryOp) (a : S.Expr) (v : Value) (r : Result Value Fault) → e ≡ S.EUnary op a → (op ≡ U.Dereference → ⊥) → (op ≡ U.AddressOf → ⊥) → HasNumbers c.program e
      → Valued a (Ok v) → Meets r (E.apply op v) → Meets r (unary_value c e)
  sign_valued op a v r is h k n m g =
      let P : Answer Value → Type 0 = λ y. Meets r y in
      met (unary_value c) (S.EUnary op a) r is (subst P (sym (sign_form op a h k)) (meets_then v (E.value c a) (E.apply op) r (m (numbers (S.EUnary op a) is n)) g))

  pub sign_fails : (op : UnaryOp) (a : S.Expr) (fault : Fault) → e ≡ S.EUnary op a → (op ≡ U.Dereference → ⊥) → (op ≡ U.AddressOf → ⊥) → HasNumbers c.program e
      → Valued a (Err fault) → Meets {A = Value} (Err fault) (unary_value c e)
  sign_fails op a fault is h k n m =
      let P : Answer Value → Type 0 = λ y. Meets (Err fault) y in
      met (unary_value c) (S.EUnary op a) (Err fault) is (subst P (sym (sign_form op a h k)) (meets_fault fault (E.value c a) (E.apply op) (m (numbers (S.EUnary op a) is n))))

  pub cast_valued : (t : Ty) (a : S.Expr) (v : Value) (r : Result Value Fault) → e ≡ S.ECast t a → HasNumbers c.program e → Valued a (Ok v) → Meets r (E.at_type t v) → Meets r (operator_value c e)
  cast_valued t a v r is n m g = met (operator_value c) (S.ECast t a) r is (meets_then v (E.value c a) (E.at_type t) r (m (numbers (S.ECast t a) is n)) g)

  pub cast_fails : (t : Ty) (a : S.Expr) (fault : Fault) → e ≡ S.ECast t a → HasNumbers c.program e → Valued a (Err fault) → Meets {A = Value} (Err fault) (operator_value c e)
  cast_fails t a fault is n m = met (operator_value c) (S.ECast t a) (Err fault) is (meets_fault fault (E.value c a) (E.at_type t) (m (numbers (S.ECast t a) is n)))

  -- ---- two operands

  pub binary_valued : (op : Op) (a b : S.Expr) (v w : Value) (r : Result Value Fault) → e ≡ S.EBinary op a b → HasNumbers c.program e
      → Valued a (Ok v) → Valued b (Ok w) → Meets r (operate_in c op a b v w) → Meets r (operator_value c e)
  binary_valued op a b v w r is n m k g =
      let i = numbers (S.EBinary op a b) is n in
      met (operator_value c) (S.EBinary op a b) r is
      (meets_then v (E.value c a) (λ f. E.value c b >>= (λ h. operate_in c op a b f h)) r (m i.0)
      (meets_then w (E.value c b) (λ h. operate_in c op a b v h) r (k i.1) g))

  pub binary_fails_first : (op : Op) (a b : S.Expr) (fault : Fault) → e ≡ S.EBinary op a b → HasNumbers c.program e → Valued a (Err fault) → Meets {A = Value} (Err fault) (operator_value c e)
  binary_fails_first op a b fault is n m =
      met (operator_value c) (S.EBinary op a b) (Err fault) is
      (meets_fault fault (E.value c a) (λ f. E.value c b >>= (λ h. operate_in c op a b f h)) (m (numbers (S.EBinary op a b) is n).0))

  pub binary_fails_second : (op : Op) (a b : S.Expr) (v : Value) (fault : Fault) → e ≡ S.EBinary op a b → HasNumbers c.program e → Valued a (Ok v) → Valued b (Err fault) → Meets {A = Value} (Err fault) (operator_value c e)
  binary_fails_second op a b v fault is n m k =
      let i = numbers (S.EBinary op a b) is n in
      met (operator_value c) (S.EBinary op a b) (Err fault) is
      (meets_then v (E.value c a) (λ f. E.value c b >>= (λ h. operate_in c op a b f h)) (Err fault) (m i.0)
      (meets_fault fault (E.value c b) (λ h. operate_in c op a b v h) (k i.1)))

  -- ---- tests

  pub test_valued : (v : Value) (r : Result Bool Fault) → HasNumbers c.program e → Valued e (Ok v) → Meets r (E.holds v) → Meets r (test_value c e)
  test_valued v r n m g = meets_then v (E.value c e) E.holds r (m n) g

  pub test_fails : (fault : Fault) → HasNumbers c.program e → Valued e (Err fault) → Meets {A = Bool} (Err fault) (test_value c e)
  test_fails fault n m = meets_fault fault (E.value c e) E.holds (m n)

  -- ---- one of two operands by a test

  Tested : S.Expr → Result Bool Fault → Type 0
  Tested x r = HasNumbers c.program x → Meets r (test_value c x)

  tested_then : {A : Type 0} (a : S.Expr) (x : Bool) (f : Bool → Answer A) (r : Result A Fault) → Meets (Ok x) (test_value c a) → Meets r (f x) → Meets r (E.value c a >>= (λ v. E.holds v >>= f))
  tested_then {A = A} a x f r m g =
      let P : Answer A → Type 0 = λ y. Meets r y in
      subst P (sym (chain_one (E.value c a) E.holds f)) (meets_then x (test_value c a) f r m g)

  tested_fails : {A : Type 0} (a : S.Expr) (fault : Fault) (f : Bool → Answer A) → Meets {A = Bool} (Err fault) (test_value c a) → Meets {A = A} (Err fault) (E.value c a >>= (λ v. E.holds v >>= f))
  tested_fails {A = A} a fault f m =
      let P : Answer A → Type 0 = λ y. Meets (Err fault) y in
      subst P (sym (chain_one (E.value c a) E.holds f)) (meets_fault fault (test_value c a) f m)

  truth_then : (b : S.Expr) (w : Value) (r : Result Value Fault) → Meets (Ok w) (E.value c b) → Meets r (E.tested (Gives w)) → Meets r (E.tested (E.value c b))
  truth_then b w r m g = meets_then w (E.value c b) (λ v. E.holds v >>= (λ x. Gives (E.truth_value x))) r m g

  truth_fails : (b : S.Expr) (fault : Fault) → Meets {A = Value} (Err fault) (E.value c b) → Meets {A = Value} (Err fault) (E.tested (E.value c b))
  truth_fails b fault m = meets_fault fault (E.value c b) (λ v. E.holds v >>= (λ x. Gives (E.truth_value x))) m

  module _ (a b : S.Expr) where
    abbrev pub Tests : Bool → Type 0
    Tests x = HasNumbers c.program a → Meets (Ok x) (test_value c a)

    pub and_fails : (fault : Fault) → e ≡ S.EAnd a b → HasNumbers c.program e → (HasNumbers c.program a → Meets {A = Bool} (Err fault) (test_value c a)) → Meets {A = Value} (Err fault) (branch_value c e)
    and_fails fault is n m = met (branch_value c) (S.EAnd a b) (Err fault) is (tested_fails a fault (λ x. E.and_also x (E.value c b)) (m (numbers (S.EAnd a b) is n).0))

    pub and_stops : e ≡ S.EAnd a b → HasNumbers c.program e → Tests false → Meets (Ok (E.truth_value false)) (branch_value c e)
    and_stops is n m = met (branch_value c) (S.EAnd a b) (Ok (E.truth_value false)) is (tested_then a false (λ x. E.and_also x (E.value c b)) (Ok (E.truth_value false)) (m (numbers (S.EAnd a b) is n).0) refl)

    pub and_goes : (w : Value) (r : Result Value Fault) → e ≡ S.EAnd a b → HasNumbers c.program e → Tests true → Valued b (Ok w) → Meets r (E.tested (Gives w)) → Meets r (branch_value c e)
    and_goes w r is n m k g =
        let i = numbers (S.EAnd a b) is n in
        met (branch_value c) (S.EAnd a b) r is (tested_then a true (λ x. E.and_also x (E.value c b)) r (m i.0) (truth_then b w r (k i.1) g))

    pub and_goes_wrong : (fault : Fault) → e ≡ S.EAnd a b → HasNumbers c.program e → Tests true → Valued b (Err fault) → Meets {A = Value} (Err fault) (branch_value c e)
    and_goes_wrong fault is n m k =
        let i = numbers (S.EAnd a b) is n in
        met (branch_value c) (S.EAnd a b) (Err fault) is (tested_then a true (λ x. E.and_also x (E.value c b)) (Err fault) (m i.0) (truth_fails b fault (k i.1)))

    pub or_fails : (fault : Fault) → e ≡ S.EOr a b → HasNumbers c.program e → (HasNumbers c.program a → Meets {A = Bool} (Err fault) (test_value c a)) → Meets {A = Value} (Err fault) (branch_value c e)
    or_fails fault is n m = met (branch_value c) (S.EOr a b) (Err fault) is (tested_fails a fault (λ x. E.or_else x (E.value c b)) (m (numbers (S.EOr a b) is n).0))

    pub or_stops : e ≡ S.EOr a b → HasNumbers c.program e → Tests true → Meets (Ok (E.truth_value true)) (branch_value c e)
    or_stops is n m = met (branch_value c) (S.EOr a b) (Ok (E.truth_value true)) is (tested_then a true (λ x. E.or_else x (E.value c b)) (Ok (E.truth_value true)) (m (numbers (S.EOr a b) is n).0) refl)

    pub or_goes : (w : Value) (r : Result Value Fault) → e ≡ S.EOr a b → HasNumbers c.program e → Tests false → Valued b (Ok w) → Meets r (E.tested (Gives w)) → Meets r (branch_value c e)
    or_goes w r is n m k g =
        let i = numbers (S.EOr a b) is n in
        met (branch_value c) (S.EOr a b) r is (tested_then a false (λ x. E.or_else x (E.value c b)) r (m i.0) (truth_then b w r (k i.1) g))

    pub or_goes_wrong : (fault : Fault) → e ≡ S.EOr a b → HasNumbers c.program e → Tests false → Valued b (Err fault) → Meets {A = Value} (Err fault) (branch_value c e)
    or_goes_wrong fault is n m k =
        let i = numbers (S.EOr a b) is n in
        met (branch_value c) (S.EOr a b) (Err fault) is (tested_then a false (λ x. E.or_else x (E.value c b)) (Err fault) (m i.0) (truth_fails b fault (k i.1)))

  -- what follows where the type is known
  shaped : (d o : Option T.Typed) (s : Option Ty) (f : Ty → Answer Value) (r : Result Value Fault) → Agrees d o → s ≡ used_of d → ((t : Ty) → s ≡ Some t → Meets r (f t)) → Meets r (needed (E.and_then o T.used) >>= f)
  shaped d None s f r h i g = tt
  shaped d (Some y) s f r h i g = go (T.used y) (i ∙ ap used_of h)
    where
      go : (o : Option Ty) → s ≡ o → Meets r (needed o >>= f)
      go None k = tt
      go (Some t) k = g t k

  -- whatever the type
  unshaped : (o : Option Ty) (f : Ty → Answer Value) (r : Result Value Fault) → ((t : Ty) → Meets r (f t)) → Meets r (needed o >>= f)
  unshaped None f r g = tt
  unshaped (Some t) f r g = g t

  module _ (t a b : S.Expr) where
    abbrev picked : Bool → Answer Value
    picked x = needed (E.used_type c (S.EChoose t a b)) >>= (λ u. E.chosen x (E.value c a) (E.value c b) >>= E.at_type u)

    pub choose_fails : (fault : Fault) → e ≡ S.EChoose t a b → HasNumbers c.program e → (HasNumbers c.program t → Meets {A = Bool} (Err fault) (test_value c t)) → Meets {A = Value} (Err fault) (branch_value c e)
    choose_fails fault is n m = met (branch_value c) (S.EChoose t a b) (Err fault) is (tested_fails t fault picked (m (numbers (S.EChoose t a b) is n).0))

    pub choose_yes : (d : Option T.Typed) (s : Option Ty) (w : Value) (r : Result Value Fault) → e ≡ S.EChoose t a b → HasNumbers c.program e → (HasNumbers c.program t → Meets (Ok true) (test_value c t)) → Valued a (Ok w)
        → Agrees d (type_in c (S.EChoose t a b)) → s ≡ used_of d → ((u : Ty) → s ≡ Some u → Meets r (E.at_type u w)) → Meets r (branch_value c e)
    choose_yes d s w r is n m k h i g =
        let j = numbers (S.EChoose t a b) is n in
        met (branch_value c) (S.EChoose t a b) r is (tested_then t true picked r (m j.0)
        (shaped d (type_in c (S.EChoose t a b)) s (λ u. E.value c a >>= E.at_type u) r h i (λ u q. meets_then w (E.value c a) (E.at_type u) r (k j.1) (g u q))))

    pub choose_yes_fails : (fault : Fault) → e ≡ S.EChoose t a b → HasNumbers c.program e → (HasNumbers c.program t → Meets (Ok true) (test_value c t)) → Valued a (Err fault) → Meets {A = Value} (Err fault) (branch_value c e)
    choose_yes_fails fault is n m k =
        let j = numbers (S.EChoose t a b) is n in
        met (branch_value c) (S.EChoose t a b) (Err fault) is (tested_then t true picked (Err fault) (m j.0)
        (unshaped (E.used_type c (S.EChoose t a b)) (λ u. E.value c a >>= E.at_type u) (Err fault) (λ u. meets_fault fault (E.value c a) (E.at_type u) (k j.1))))

    pub choose_no : (d : Option T.Typed) (s : Option Ty) (w : Value) (r : Result Value Fault) → e ≡ S.EChoose t a b → HasNumbers c.program e → (HasNumbers c.program t → Meets (Ok false) (test_value c t)) → Valued b (Ok w)
        → Agrees d (type_in c (S.EChoose t a b)) → s ≡ used_of d → ((u : Ty) → s ≡ Some u → Meets r (E.at_type u w)) → Meets r (branch_value c e)
    choose_no d s w r is n m k h i g =
        let j = numbers (S.EChoose t a b) is n in
        met (branch_value c) (S.EChoose t a b) r is (tested_then t false picked r (m j.0)
        (shaped d (type_in c (S.EChoose t a b)) s (λ u. E.value c b >>= E.at_type u) r h i (λ u q. meets_then w (E.value c b) (E.at_type u) r (k j.2) (g u q))))

    pub choose_no_fails : (fault : Fault) → e ≡ S.EChoose t a b → HasNumbers c.program e → (HasNumbers c.program t → Meets (Ok false) (test_value c t)) → Valued b (Err fault) → Meets {A = Value} (Err fault) (branch_value c e)
    choose_no_fails fault is n m k =
        let j = numbers (S.EChoose t a b) is n in
        met (branch_value c) (S.EChoose t a b) (Err fault) is (tested_then t false picked (Err fault) (m j.0)
        (unshaped (E.used_type c (S.EChoose t a b)) (λ u. E.value c b >>= E.at_type u) (Err fault) (λ u. meets_fault fault (E.value c b) (E.at_type u) (k j.2))))

  -- ---- assignments

  pub assigned_as : (d : Option T.Typed) (of : Option Ty) (v : Value) (r : Result Value Fault) → Agrees d (type_in c e) → of ≡ E.and_then d T.typed_place → Meets r (assigned_if of v) → Meets r (assigned_at c e v)
  assigned_as d of v r h i g = go (type_in c e) h
    where
      go : (o : Option T.Typed) → Agrees d o → Meets r (assigned_if (E.and_then o T.typed_place) v)
      go None k = tt
      go (Some y) k = let P : Option Ty → Type 0 = λ q. Meets r (assigned_if q v) in subst P (i ∙ ap (λ z. E.and_then z T.typed_place) k) g
