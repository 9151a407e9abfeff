-- The values of expressions by those of their parts.
use Rattle.std.proofs.Common.{◌≡◌, ℕ, ◌^◌, ◌<◌, ◌≤◌, inl, inr, List, length, Option, Some, None, Result, refl, ap, sym, subst, ◌∙◌, arith}
use Rattle.std.specs.Prelude.{slice_get}
use Rattle.std.proofs.lemmas.Bool.{cases_lt}
use Rattle.std.proofs.lemmas.Option.{slice_get_cases}
use Rattle.cpc_base.specs.Bytes.{Text}
use Rattle.cpc_num.specs.declared.kinds.Fault.{Fault}
use Rattle.cpc_num.specs.declared.kinds.Op.TheVariants.{Add}
use Rattle.cpc_tree.specs.declared.program.UnaryOp.TheVariants as U
use Rattle.cpc_tree.specs.Syntax as S
use Rattle.cpc_tree.specs.Syntax.{Ty, Program}
use Rattle.cpc_tree.specs.Typing as T
use Rattle.cpc_store.specs.Store.{Value}
use Rattle.cpc_meaning.specs.Answer.{Answer, Gives, Faults, NoAnswer, ◌>>=◌}
use Rattle.cpc_meaning.specs.Eval as E
use Rattle.cpc_eval_values.specs.Meets.{Meets}
use Rattle.cpc_eval_values.specs.Counted.{capped}
use Rattle.cpc_eval_locals.specs.Held.{Held, local_in, capped_held}
use Rattle.cpc_eval.specs.Around.{meant_or, meant_in, operate_in}
use Rattle.cpc_eval.specs.Shapes.{Agrees}
use Rattle.cpc_eval.specs.Values.{place_value}
use Rattle.cpc_eval.proofs.TypedParts.{named_or}

-- ---- the number of a local

spot_capped : (slots : List E.Slot) (k : ℕ) (t : Ty) → length slots < 2 ^ 64 → E.spot_named slots (T.ALocal (capped k) t) ≡ E.spot_named slots (T.ALocal k t)
spot_capped slots k t few = elim (cases_lt k (2 ^ 64)) [
  | inl h ↦ let e : capped k ≡ k = omega arith in ap (λ n. E.spot_named slots (T.ALocal n t)) e
  | inr h ↦
      let a : slice_get slots (capped k) ≡ None = past (capped k) (omega arith) in
      let b : slice_get slots k ≡ None = past k (omega arith) in
      ap (E.slot_spot (capped k)) a ∙ sym (ap (E.slot_spot k) b)
]
  where
    past : (n : ℕ) → length slots ≤ n → slice_get slots n ≡ None
    past n h = elim ((slice_get_cases slots n).1) [ inl e ↦ absurd (omega (arith, e.1)) | inr e ↦ e.1 ]

meant_any : {X : Type 0} (f : T.Meant → X) (c : E.Context) (x : Text) → ((k : ℕ) (t : Ty) → f (T.ALocal (capped k) t) ≡ f (T.ALocal k t)) → f (meant_in c x) ≡ f (T.named c.program c.scope x)
meant_any f c x h = go (local_in c.scope x) ∙ ap f (sym (named_or c.program c.scope x))
  where
    go : (o : Held) → f (meant_or (capped_held o) (T.item_named 0 c.program x)) ≡ f (meant_or o (T.item_named 0 c.program x))
    go None = refl
    go (Some l) = h l.0 l.1

-- what a name stands for, with its number capped, gives what it gives
pub name_value : (c : E.Context) (x : Text) (r : Result Value Fault) → length c.slots < 2 ^ 64 → Meets r (E.value_named c.slots c.store x (meant_in c x)) → Meets r (E.value c (S.ENamed x))
name_value c x r few h =
    let P : Answer Value → Type 0 = Meets r in
    subst P (meant_any (E.value_named c.slots c.store x) c x (λ k t. ap (λ a. a >>= (λ spot. E.read c.slots c.store (Some t) spot)) (spot_capped c.slots k t few))) h

pub name_place : (c : E.Context) (x : Text) (r : Result E.Spot Fault) → length c.slots < 2 ^ 64 → Meets r (E.spot_named c.slots (meant_in c x)) → Meets r (E.place c (S.ENamed x))
name_place c x r few h =
    let P : Answer E.Spot → Type 0 = Meets r in
    subst P (meant_any (E.spot_named c.slots) c x (λ k t. spot_capped c.slots k t few)) h

pub name_address : (c : E.Context) (x : Text) (r : Result Value Fault) → length c.slots < 2 ^ 64 → Meets r (E.address_named c.slots x (meant_in c x)) → Meets r (E.value c (S.EUnary U.AddressOf (S.ENamed x)))
name_address c x r few h =
    let P : Answer Value → Type 0 = Meets r in
    subst P (meant_any (E.address_named c.slots x) c x (λ k t. ap E.address (spot_capped c.slots k t few))) h

-- ---- one part after another

pub chain_one : {A B D : Type 0} (a : Answer A) (f : A → Answer B) (g : B → Answer D) → (a >>= (λ x. f x >>= g)) ≡ ((a >>= f) >>= g)
chain_one (Gives x) f g = refl
chain_one (Faults e) f g = refl
chain_one NoAnswer f g = refl

chain_two : {A B D F : Type 0} (a : Answer A) (f : A → Answer B) (g : B → Answer D) (h : D → Answer F) → (a >>= (λ x. f x >>= (λ y. g y >>= h))) ≡ ((a >>= (λ x. f x >>= g)) >>= h)
chain_two (Gives x) f g h = chain_one (f x) g h
chain_two (Faults e) f g h = refl
chain_two NoAnswer f g h = refl

chain_pair : {A B D F : Type 0} (a : Answer A) (b : Answer A) (f : A → A → Answer B) (g : B → Answer D) (h : D → Answer F)
    → (a >>= (λ x. b >>= (λ y. f x y >>= (λ z. g z >>= h)))) ≡ ((a >>= (λ x. b >>= (λ y. f x y >>= g))) >>= h)
chain_pair (Gives x) b f g h = chain_two b (f x) g h
chain_pair (Faults e) b f g h = refl
chain_pair NoAnswer b f g h = refl

pub index_there : (c : E.Context) (a i : S.Expr) → E.value c (S.EIndex a i) ≡ place_value c (S.EIndex a i)
index_there c a i = chain_pair (E.value c a) (E.value c i) (λ v w. operate_in c Add a i v w) E.pointed (E.read c.slots c.store (E.place_type c (S.EIndex a i)))

pub member_there : (c : E.Context) (e : S.Expr) (x : Text) → E.value c (S.EMember e x) ≡ place_value c (S.EMember e x)
member_there c e x = chain_two (E.place c e) E.pointer_to (λ v. E.field_spot c.program c.store (E.place_type c e) x v) (E.read c.slots c.store (E.place_type c (S.EMember e x)))

pub arrow_there : (c : E.Context) (e : S.Expr) (x : Text) → E.value c (S.EArrow e x) ≡ place_value c (S.EArrow e x)
arrow_there c e x = chain_one (E.value c e) (λ v. E.field_spot c.program c.store (E.pointed_type (E.used_type c e)) x v) (E.read c.slots c.store (E.place_type c (S.EArrow e x)))

pub star_there : (c : E.Context) (e : S.Expr) → E.value c (S.EUnary U.Dereference e) ≡ place_value c (S.EUnary U.Dereference e)
star_there c e = chain_one (E.value c e) E.pointed (E.read c.slots c.store (E.place_type c (S.EUnary U.Dereference e)))

-- ---- types that agree

pub read_by : (c : E.Context) (d o : Option T.Typed) (of : Option Ty) (spot : E.Spot) (r : Result Value Fault) → Agrees d o → of ≡ E.and_then d T.typed_place
    → Meets r (E.read c.slots c.store of spot) → Meets r (E.read c.slots c.store (E.and_then o T.typed_place) spot)
read_by c d None of spot r h e g = tt
read_by c d (Some x) of spot r h e g =
    let P : Option Ty → Type 0 = λ y. Meets r (E.read c.slots c.store y spot) in
    let Q : Option T.Typed → Type 0 = λ y. Meets r (E.read c.slots c.store (E.and_then y T.typed_place) spot) in
    subst Q h (subst P e g)

pub field_by : (c : E.Context) (f : T.Typed → Option Ty) (d o : Option T.Typed) (of : Option Ty) (x : Text) (v : Value) (r : Result E.Spot Fault) → Agrees d o → of ≡ E.and_then d f
    → Meets r (E.field_spot c.program c.store of x v) → Meets r (E.field_spot c.program c.store (E.and_then o f) x v)
field_by c f d None of x v r h e g = tt
field_by c f d (Some y) of x v r h e g =
    let P : Option Ty → Type 0 = λ z. Meets r (E.field_spot c.program c.store z x v) in
    let Q : Option T.Typed → Type 0 = λ z. Meets r (E.field_spot c.program c.store (E.and_then z f) x v) in
    subst Q h (subst P e g)
