-- Where expressions are, and what is there, by what was found of their parts.
use Rattle.std.proofs.Common.{◌≡◌, Option, Some, None, Result, Ok, Err, ap, subst, ◌∙◌}
use Rattle.cpc_base.specs.Bytes.{Text}
use Rattle.cpc_num.specs.declared.kinds.Fault.{Fault}
use Rattle.cpc_num.specs.declared.kinds.Op.TheVariants.{Add}
use Rattle.cpc_tree.specs.declared.program.UnaryOp.TheVariants as U
use Rattle.cpc_tree.specs.Syntax as S
use Rattle.cpc_tree.specs.Syntax.{Ty}
use Rattle.cpc_tree.specs.Typing as T
use Rattle.cpc_store.specs.Store.{Value}
use Rattle.cpc_meaning.specs.Answer.{Answer, ◌>>=◌}
use Rattle.cpc_meaning.specs.Eval as E
use Rattle.cpc_shapes.specs.Found.{used_of}
use Rattle.cpc_eval_values.specs.Meets.{Meets}
use Rattle.cpc_eval_values.proofs.Meeting.{meets_then, meets_fault}
use Rattle.cpc_eval.specs.Around.{operate_in, type_in}
use Rattle.cpc_eval.specs.Numbers.{HasNumbers}
use Rattle.cpc_eval.specs.Shapes.{Agrees}
use Rattle.cpc_eval.specs.Values.{place_value}
use Rattle.cpc_eval.proofs.Evaluating.{read_by, field_by}
use Rattle.cpc_eval.proofs.EvalParts.{numbers, met}

module _ (c : E.Context) (e : S.Expr) where
  -- ---- what is there

  pub there_read : (spot : E.Spot) (d : Option T.Typed) (of : Option Ty) (r : Result Value Fault) → HasNumbers c.program e → (HasNumbers c.program e → Meets (Ok spot) (E.place c e))
      → Agrees d (type_in c e) → of ≡ E.and_then d T.typed_place → Meets r (E.read c.slots c.store of spot) → Meets r (place_value c e)
  there_read spot d of r n m h i g =
      meets_then spot (E.place c e) (λ s. E.read c.slots c.store (E.place_type c e) s) r (m n) (read_by c d (type_in c e) of spot r h i g)

  pub there_fails : (fault : Fault) → HasNumbers c.program e → (HasNumbers c.program e → Meets {A = E.Spot} (Err fault) (E.place c e)) → Meets {A = Value} (Err fault) (place_value c e)
  there_fails fault n m = meets_fault fault (E.place c e) (λ s. E.read c.slots c.store (E.place_type c e) s) (m n)

  -- ---- a pointer

  pub star_placed : (a : S.Expr) (v : Value) (r : Result E.Spot Fault) → e ≡ S.EUnary U.Dereference a → HasNumbers c.program e → (HasNumbers c.program a → Meets (Ok v) (E.value c a)) → Meets r (E.pointed v) → Meets r (E.place c e)
  star_placed a v r is n m g = met c e (E.place c) (S.EUnary U.Dereference a) r is (meets_then v (E.value c a) E.pointed r (m (numbers c e (S.EUnary U.Dereference a) is n)) g)

  pub star_fails : (a : S.Expr) (fault : Fault) → e ≡ S.EUnary U.Dereference a → HasNumbers c.program e → (HasNumbers c.program a → Meets {A = Value} (Err fault) (E.value c a)) → Meets {A = E.Spot} (Err fault) (E.place c e)
  star_fails a fault is n m = met c e (E.place c) (S.EUnary U.Dereference a) (Err fault) is (meets_fault fault (E.value c a) E.pointed (m (numbers c e (S.EUnary U.Dereference a) is n)))

  -- ---- an element

  module _ (a b : S.Expr) where
    abbrev sum_of : Value → Value → Answer E.Spot
    sum_of v w = operate_in c Add a b v w >>= E.pointed

    abbrev second_of : Value → Answer E.Spot
    second_of v = E.value c b >>= sum_of v

    pub index_placed : (v w u : Value) (r : Result E.Spot Fault) → e ≡ S.EIndex a b → HasNumbers c.program e
        → (HasNumbers c.program a → Meets (Ok v) (E.value c a)) → (HasNumbers c.program b → Meets (Ok w) (E.value c b)) → Meets (Ok u) (operate_in c Add a b v w) → Meets r (E.pointed u) → Meets r (E.place c e)
    index_placed v w u r is n m k h g =
        let i = numbers c e (S.EIndex a b) is n in
        met c e (E.place c) (S.EIndex a b) r is
        (meets_then v (E.value c a) second_of r (m i.0) (meets_then w (E.value c b) (sum_of v) r (k i.1) (meets_then u (operate_in c Add a b v w) E.pointed r h g)))

    pub index_fails_sum : (v w : Value) (fault : Fault) → e ≡ S.EIndex a b → HasNumbers c.program e
        → (HasNumbers c.program a → Meets (Ok v) (E.value c a)) → (HasNumbers c.program b → Meets (Ok w) (E.value c b)) → Meets {A = Value} (Err fault) (operate_in c Add a b v w) → Meets {A = E.Spot} (Err fault) (E.place c e)
    index_fails_sum v w fault is n m k h =
        let i = numbers c e (S.EIndex a b) is n in
        met c e (E.place c) (S.EIndex a b) (Err fault) is
        (meets_then v (E.value c a) second_of (Err fault) (m i.0) (meets_then w (E.value c b) (sum_of v) (Err fault) (k i.1) (meets_fault fault (operate_in c Add a b v w) E.pointed h)))

    pub index_fails_second : (v : Value) (fault : Fault) → e ≡ S.EIndex a b → HasNumbers c.program e
        → (HasNumbers c.program a → Meets (Ok v) (E.value c a)) → (HasNumbers c.program b → Meets {A = Value} (Err fault) (E.value c b)) → Meets {A = E.Spot} (Err fault) (E.place c e)
    index_fails_second v fault is n m k =
        let i = numbers c e (S.EIndex a b) is n in
        met c e (E.place c) (S.EIndex a b) (Err fault) is
        (meets_then v (E.value c a) second_of (Err fault) (m i.0) (meets_fault fault (E.value c b) (sum_of v) (k i.1)))

    pub index_fails_first : (fault : Fault) → e ≡ S.EIndex a b → HasNumbers c.program e → (HasNumbers c.program a → Meets {A = Value} (Err fault) (E.value c a)) → Meets {A = E.Spot} (Err fault) (E.place c e)
    index_fails_first fault is n m =
        met c e (E.place c) (S.EIndex a b) (Err fault) is (meets_fault fault (E.value c a) second_of (m (numbers c e (S.EIndex a b) is n).0))

  -- ---- a field

  module _ (a : S.Expr) (x : Text) where
    abbrev field_at : Value → Answer E.Spot
    field_at v = E.field_spot c.program c.store (E.place_type c a) x v

    abbrev member_then : E.Spot → Answer E.Spot
    member_then s = E.pointer_to s >>= field_at

    pub member_placed : (spot : E.Spot) (v : Value) (d : Option T.Typed) (of : Option Ty) (r : Result E.Spot Fault) → e ≡ S.EMember a x → HasNumbers c.program e
        → (HasNumbers c.program a → Meets (Ok spot) (E.place c a)) → Meets (Ok v) (E.pointer_to spot) → Agrees d (type_in c a) → of ≡ E.and_then d T.typed_place
        → Meets r (E.field_spot c.program c.store of x v) → Meets r (E.place c e)
    member_placed spot v d of r is n m k h i g =
        met c e (E.place c) (S.EMember a x) r is
        (meets_then spot (E.place c a) member_then r (m (numbers c e (S.EMember a x) is n))
        (meets_then v (E.pointer_to spot) field_at r k (field_by c T.typed_place d (type_in c a) of x v r h i g)))

    pub member_fails_pointer : (spot : E.Spot) (fault : Fault) → e ≡ S.EMember a x → HasNumbers c.program e
        → (HasNumbers c.program a → Meets (Ok spot) (E.place c a)) → Meets {A = Value} (Err fault) (E.pointer_to spot) → Meets {A = E.Spot} (Err fault) (E.place c e)
    member_fails_pointer spot fault is n m k =
        met c e (E.place c) (S.EMember a x) (Err fault) is
        (meets_then spot (E.place c a) member_then (Err fault) (m (numbers c e (S.EMember a x) is n)) (meets_fault fault (E.pointer_to spot) field_at k))

    pub member_fails : (fault : Fault) → e ≡ S.EMember a x → HasNumbers c.program e → (HasNumbers c.program a → Meets {A = E.Spot} (Err fault) (E.place c a)) → Meets {A = E.Spot} (Err fault) (E.place c e)
    member_fails fault is n m =
        met c e (E.place c) (S.EMember a x) (Err fault) is (meets_fault fault (E.place c a) member_then (m (numbers c e (S.EMember a x) is n)))

    abbrev arrow_then : Value → Answer E.Spot
    arrow_then v = E.field_spot c.program c.store (E.pointed_type (E.used_type c a)) x v

    arrow_by : (d o : Option T.Typed) (s of : Option Ty) (v : Value) (r : Result E.Spot Fault) → Agrees d o → s ≡ used_of d → of ≡ E.and_then s T.target
        → Meets r (E.field_spot c.program c.store of x v) → Meets r (E.field_spot c.program c.store (E.pointed_type (E.and_then o T.used)) x v)
    arrow_by d None s of v r h i j g = tt
    arrow_by d (Some y) s of v r h i j g =
        let P : Option Ty → Type 0 = λ z. Meets r (E.field_spot c.program c.store z x v) in
        subst P (j ∙ ap (λ z. E.and_then z T.target) (i ∙ ap used_of h)) g

    pub arrow_placed : (v : Value) (d : Option T.Typed) (s of : Option Ty) (r : Result E.Spot Fault) → e ≡ S.EArrow a x → HasNumbers c.program e
        → (HasNumbers c.program a → Meets (Ok v) (E.value c a)) → Agrees d (type_in c a) → s ≡ used_of d → of ≡ E.and_then s T.target
        → Meets r (E.field_spot c.program c.store of x v) → Meets r (E.place c e)
    arrow_placed v d s of r is n m h i j g =
        met c e (E.place c) (S.EArrow a x) r is (meets_then v (E.value c a) arrow_then r (m (numbers c e (S.EArrow a x) is n)) (arrow_by d (type_in c a) s of v r h i j g))

    pub arrow_fails : (fault : Fault) → e ≡ S.EArrow a x → HasNumbers c.program e → (HasNumbers c.program a → Meets {A = Value} (Err fault) (E.value c a)) → Meets {A = E.Spot} (Err fault) (E.place c e)
    arrow_fails fault is n m =
        met c e (E.place c) (S.EArrow a x) (Err fault) is (meets_fault fault (E.value c a) arrow_then (m (numbers c e (S.EArrow a x) is n)))
