-- An expression has the same value and place in two frames whose slots agree where its names are kept.
use Rattle.std.proofs.Common.{◌≡◌, ℕ, pos, Bool, true, List, Option, Some, None, slice_get, refl, sym, subst}
use Rattle.cpc_base.specs.Bytes.{Text}
use Rattle.cpc_num.specs.declared.kinds.Op.TheVariants.{Add}
use Rattle.cpc_tree.specs.Syntax.{Ty, TyVoid, TyInt, TyCondvar, TyPointer, TyCode, TyStruct, TyArray, Expr, ENamed, EInteger, ECharacter, EText, EUnary, EBinary, EAnd, EOr, EChoose, ECast, ESizeOf, EIndex, EMember, EArrow, ECall, Exprs, NoExpr, AndExpr, Program}
use Rattle.cpc_tree.specs.declared.program.Mode.TheVariants.{Extern, Native, Cps, Detached}
use Rattle.cpc_tree.specs.declared.program.UnaryOp.TheVariants.{Dereference, AddressOf}
use Rattle.cpc_tree.specs.Typing.{Scope, Meant, ALocal, AGlobal, AFunction, NotMeant, named, field, struct_tag}
use Rattle.cpc_store.specs.declared.values.Class.{Class}
use Rattle.cpc_store.specs.declared.values.Class.TheVariants.{Static, Auto}
use Rattle.cpc_store.specs.Store.{Value, Unset, Whole, Null, At, Code, Cond, Store}
use Rattle.cpc_meaning.specs.Answer.{Answer, ◌>>=◌, needed}
use Rattle.cpc_meaning.specs.Eval.{Slot, Register, Boxed, Context, Spot, InSlot, InCell, place, value, values, address, address_named, value_named, spot_named, slot_spot, read, pointed, pointer_to, field_spot, moved, operate, used_type, place_type}
use Rattle.cpc_meaning.proofs.SameValues.{AllNames, then_same, at}
use Rattle.cpc_meaning.proofs.SameActs.{AllNamesAmong}
use Rattle.cpc_meaning.proofs.Meeting.{BothAnswer, BothGive, BothFault, BothStick, both_then, same_then}
use Rattle.cpc_lift_laws.proofs.Slots.{SlotsMeet, same_slot}
use Rattle.cpc_lift_laws.proofs.Kept.{KeptName}

-- one place in both: a register of one value, or a cell
pub data SpotsMeet (xs ys : List Slot) : Spot → Spot → Type 0 where
  TheSlot : (k : ℕ) (v : Value) → slice_get xs k ≡ Some (Register v) → slice_get ys k ≡ Some (Register v) → SpotsMeet xs ys (InSlot k) (InSlot k)
  TheCell : (c : Class) (n k : ℕ) → SpotsMeet xs ys (InCell c n k) (InCell c n k)

module _ (p : Program) (keep box : ℕ → Bool) (scope : Scope) (xs ys : List Slot) (m : SlotsMeet keep box xs ys) (s : Store) where
  abbrev c : Context
  c = at p scope xs s

  abbrev d : Context
  d = at p scope ys s

  abbrev Places : Answer Spot → Answer Spot → Type 0
  Places = BothAnswer (SpotsMeet xs ys)

  -- ---- places

  same_pointer : (a b : Spot) → SpotsMeet xs ys a b → pointer_to a ≡ pointer_to b
  same_pointer _ _ (TheSlot k v e f) = refl
  same_pointer _ _ (TheCell cl n k) = refl

  same_address : (a b : Answer Spot) → Places a b → address a ≡ address b
  same_address _ _ (BothGive a b h) = same_pointer a b h
  same_address _ _ (BothFault fault) = refl
  same_address _ _ BothStick = refl

  same_read : (t : Option Ty) (a b : Spot) → SpotsMeet xs ys a b → read xs s t a ≡ read ys s t b
  same_read None _ _ h = refl
  same_read (Some t) _ _ (TheSlot k v e f) = simp (e, f) refl
  same_read (Some (TyArray t n)) _ _ (TheCell cl i k) = refl
  same_read (Some TyVoid) _ _ (TheCell cl n k) = refl
  same_read (Some (TyInt kind)) _ _ (TheCell cl n k) = refl
  same_read (Some TyCondvar) _ _ (TheCell cl n k) = refl
  same_read (Some (TyPointer t)) _ _ (TheCell cl n k) = refl
  same_read (Some (TyCode r ps)) _ _ (TheCell cl n k) = refl
  same_read (Some (TyStruct tag)) _ _ (TheCell cl n k) = refl

  pub same_pointed : (v : Value) → Places (pointed v) (pointed v)
  same_pointed Unset = BothFault _
  same_pointed (Whole kind z) = BothStick
  same_pointed Null = BothFault _
  same_pointed (At cl n k) = BothGive _ _ (TheCell cl n k)
  same_pointed (Code f) = BothStick
  same_pointed (Cond n) = BothStick

  same_field : (t : Option Ty) (x : Text) (v : Value) → Places (field_spot p s t x v) (field_spot p s t x v)
  same_field t x v =
      same_then _ _ (needed t) λ u. same_then _ _ (needed (struct_tag u)) λ tag. same_then _ _ (needed (field p tag x)) λ f. same_then _ _ (moved s v (pos f.0)) same_pointed

  place_then : {B : Type 0} (a b : Answer Spot) (f g : Spot → Answer B) → Places a b → ((x y : Spot) → SpotsMeet xs ys x y → f x ≡ g y) → (a >>= f) ≡ (b >>= g)
  place_then _ _ f g (BothGive a b h) k = k a b h
  place_then _ _ f g (BothFault fault) k = refl
  place_then _ _ f g BothStick k = refl

  value_place : {A : Type 0} (a b : Answer A) (f g : A → Answer Spot) → a ≡ b → ((x : A) → Places (f x) (g x)) → Places (a >>= f) (b >>= g)
  value_place a b f g e h = subst (λ z. Places (a >>= f) (z >>= g)) e (same_then f g a h)

  -- ---- names

  -- where a local is meant, its slots are equal
  abbrev AgreeAt : Meant → Type 0
  AgreeAt (ALocal k t) = slice_get xs k ≡ slice_get ys k
  AgreeAt _ = Unit {0}

  agree : (x : Text) → KeptName p keep scope x → AgreeAt (named p scope x)
  agree x l = go (named p scope x) l
    where
      go : (u : Meant) → ((k : ℕ) (t : Ty) → u ≡ ALocal k t → keep k ≡ true) → AgreeAt u
      go (ALocal k t) h = same_slot keep box xs ys m k (h k t refl)
      go (AGlobal n t) h = tt
      go (AFunction mode r ps) h = tt
      go NotMeant h = tt

  slot_there : (k : ℕ) (o : Option Slot) → slice_get xs k ≡ o → slice_get ys k ≡ o → Places (slot_spot k o) (slot_spot k o)
  slot_there k None e f = BothStick
  slot_there k (Some (Register v)) e f = BothGive _ _ (TheSlot k v e f)
  slot_there k (Some (Boxed n)) e f = BothGive _ _ (TheCell Auto n 0)

  spots : (u : Meant) → AgreeAt u → Places (spot_named xs u) (spot_named ys u)
  spots (ALocal k t) h = subst (λ o. Places (slot_spot k (slice_get xs k)) (slot_spot k o)) h (slot_there k (slice_get xs k) refl (sym h))
  spots (AGlobal n t) h = BothGive _ _ (TheCell Static n 0)
  spots (AFunction mode r ps) h = BothStick
  spots NotMeant h = BothStick

  values_of : (x : Text) (u : Meant) → AgreeAt u → value_named xs s x u ≡ value_named ys s x u
  values_of x (ALocal k t) h = place_then _ _ _ _ (spots (ALocal k t) h) (λ a b r. same_read (Some t) a b r)
  values_of x (AGlobal n t) h = same_read (Some t) _ _ (TheCell Static n 0)
  values_of x (AFunction Native r ps) h = refl
  values_of x (AFunction Detached r ps) h = refl
  values_of x (AFunction Extern r ps) h = refl
  values_of x (AFunction Cps r ps) h = refl
  values_of x NotMeant h = refl

  addresses_of : (x : Text) (u : Meant) → AgreeAt u → address_named xs x u ≡ address_named ys x u
  addresses_of x (ALocal k t) h = same_address _ _ (spots (ALocal k t) h)
  addresses_of x (AGlobal n t) h = refl
  addresses_of x (AFunction Native r ps) h = refl
  addresses_of x (AFunction Detached r ps) h = refl
  addresses_of x (AFunction Extern r ps) h = refl
  addresses_of x (AFunction Cps r ps) h = refl
  addresses_of x NotMeant h = refl

  -- ---- expressions

  at_index : (a i : Expr) (v w : Value)
      → (operate p s Add (used_type c a) (used_type c i) v w >>= λ x. pointed x >>= λ spot. read xs s (place_type c (EIndex a i)) spot)
      ≡ (operate p s Add (used_type d a) (used_type d i) v w >>= λ x. pointed x >>= λ spot. read ys s (place_type d (EIndex a i)) spot)
  at_index a i v w =
      then_same (operate p s Add (used_type c a) (used_type c i) v w) (operate p s Add (used_type d a) (used_type d i) v w) _ _ refl λ x.
      place_then (pointed x) (pointed x) _ _ (same_pointed x) (same_read (place_type c (EIndex a i)))

  mutual
    pub same_place : (e : Expr) → AllNames (KeptName p keep scope) e → Places (place c e) (place d e)
    same_place (ENamed x) l = spots (named p scope x) (agree x l)
    same_place (EUnary Dereference e) l = value_place _ _ _ _ (same_value e l) same_pointed
    same_place (EIndex a i) l =
        value_place _ _ _ _ (same_value a l.0) λ v.
        value_place _ _ _ _ (same_value i l.1) λ w.
        value_place _ _ _ _ refl same_pointed
    same_place (EMember e x) l =
        both_then _ _ _ _ (same_place e l) λ a b h.
        value_place _ _ _ _ (same_pointer a b h) λ v. same_field _ x v
    same_place (EArrow e x) l = value_place _ _ _ _ (same_value e l) λ v. same_field _ x v
    same_place _ l = BothStick

    pub same_value : (e : Expr) → AllNames (KeptName p keep scope) e → value c e ≡ value d e
    same_value (ENamed x) l = values_of x (named p scope x) (agree x l)
    same_value (EInteger kind z) l = refl
    same_value (ECharacter z) l = refl
    same_value (EText bytes) l = refl
    same_value (EUnary Dereference e) l = then_same _ _ _ _ (same_value e l) λ v. place_then _ _ _ _ (same_pointed v) (same_read _)
    same_value (EUnary AddressOf (ENamed x)) l = addresses_of x (named p scope x) (agree x l)
    same_value (EUnary AddressOf e) l = same_address _ _ (same_place e l)
    same_value (EUnary sign e) l = simp (same_value e l) refl
    same_value (EBinary op a b) l = simp (same_value a l.0, same_value b l.1) refl
    same_value (EAnd a b) l = simp (same_value a l.0, same_value b l.1) refl
    same_value (EOr a b) l = simp (same_value a l.0, same_value b l.1) refl
    same_value (EChoose t a b) l = simp (same_value t l.0, same_value a l.1, same_value b l.2) refl
    same_value (ECast t e) l = simp (same_value e l) refl
    same_value (ESizeOf t) l = refl
    same_value (EIndex a i) l =
        then_same _ _ _ _ (same_value a l.0) λ v.
        then_same _ _ _ _ (same_value i l.1) λ w.
        at_index a i v w
    same_value (EMember e x) l =
        place_then _ _ _ _ (same_place e l) λ a b h.
        then_same _ _ _ _ (same_pointer a b h) λ v.
        place_then _ _ _ _ (same_field _ x v) (same_read _)
    same_value (EArrow e x) l = then_same _ _ _ _ (same_value e l) λ v. place_then _ _ _ _ (same_field _ x v) (same_read _)
    same_value (ECall f es) l = refl

  pub same_values : (es : Exprs) → AllNamesAmong (KeptName p keep scope) es → values c es ≡ values d es
  same_values NoExpr l = refl
  same_values (AndExpr e es) l = simp (same_value e l.0, same_values es l.1) refl
