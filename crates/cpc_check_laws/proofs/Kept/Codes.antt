-- What expressions give, and what is written to a store, are codes of native or detached functions, where they are codes.
use Rattle.std.proofs.Common.{◌≡◌, ◌⊎◌, inl, inr, ℕ, ℤ, ◌+ℤ◌, pos, ◌&&◌, ◌==◌, Bool, true, false, cond, not, List, length, Option, Some, None, Result, Ok, Err, is_some, slice_get, slice_set, refl, sym, ◌∙◌, subst}
use Rattle.std.specs.Prelude.{int_lt, int_le, unsigned_abs}
use Rattle.std.specs.List.{All}
use Rattle.std.proofs.lemmas.Bool.{cases_eq}
use Rattle.std.proofs.lemmas.List.Elements.{All-nil, All-cons, All-set}
use Rattle.cpc_base.specs.Bytes.{Text}
use Rattle.cpc_num.specs.declared.kinds.Kind.{Kind}
use Rattle.cpc_num.specs.declared.kinds.Fault.{Fault}
use Rattle.cpc_num.specs.declared.kinds.Fault.TheVariants as F
use Rattle.cpc_num.specs.declared.kinds.Op.{Op}
use Rattle.cpc_num.specs.declared.kinds.Op.TheVariants.{Add, Sub, Lt, Le, Gt, Ge}
use Rattle.cpc_tree.specs.declared.program.Mode.TheVariants.{Native, Detached}
use Rattle.cpc_tree.specs.declared.program.UnaryOp.{UnaryOp}
use Rattle.cpc_tree.specs.declared.program.UnaryOp.TheVariants.{Minus, Plus, Not, Complement, Dereference, AddressOf}
use Rattle.cpc_tree.specs.Syntax.{Ty, TyInt, TyCondvar, TyPointer, TyCode, TyArray, Expr, ENamed, EInteger, ECharacter, EText, EUnary, EBinary, EAnd, EOr, EChoose, ECast, ESizeOf, EIndex, EMember, EArrow, ECall, Exprs, NoExpr, AndExpr, Program}
use Rattle.cpc_tree.specs.Typing.{Scope, Meant, ALocal, AGlobal, AFunction, named, size}
use Rattle.cpc_store.specs.declared.values.Class.{Class}
use Rattle.cpc_store.specs.declared.values.Class.TheVariants.{Static}
use Rattle.cpc_store.specs.declared.values.Scalar.{Scalar}
use Rattle.cpc_store.specs.Store.{Value, Unset, Whole, Null, At, Code, Cond, Store, blocks, with_blocks, alloc, next_block, cells_of, free, save, load, load_cell, load_block, suits, same_class}
use Rattle.cpc_store.proofs.StoreLemmas.{cells_of-alloc_other, cells_of-set_other}
use Rattle.cpc_meaning.specs.Answer.{Answer, Gives, Faults, of_result, needed}
use Rattle.cpc_meaning.specs.Eval.{Slot, Register, Boxed, Context, Spot, InSlot, InCell, number, place, value, values, place_type, used_type, read, field_spot, value_named, address_named, slot_value, moved, moved_within, moved_by, offsets, distance, ordered, on_pointers, on_mixed, apply, operate, and_also, or_else, chosen, tested, truth_value, spot_named, element_size, pointer_to, address, pointed_type, pointed, holds, assigned, at_type}
use Rattle.cpc_meaning.specs.Layout.{scalar_of}
use Rattle.cpc_meaning.proofs.SameValues.{at}
use Rattle.cpc_meaning.proofs.Stores.{save_there}
use Rattle.cpc_meaning_laws.proofs.Pointer.Blocks.{Only, only_then, any_then, only_if, element}
use Rattle.cpc_meaning_laws.proofs.Pointer.Stores.{class_cases, set_same, alloc_same}
use Rattle.cpc_check_laws.proofs.Sound.Agreement.{item_of}
use Rattle.cpc_check_laws.specs.Kept.Codes.{IsNative, IsCode, IsCodeSlot, IsCodeStore}

module _ (p : Program) where
  abbrev C : Value → Type 0
  C v = IsCode p v

  -- ---- stores

  set_code : (c : Class) (n : ℕ) (b : Option (List Value)) (s : Store) → IsCodeStore p s → ((cells : List Value) → b ≡ Some cells → All C cells) → IsCodeStore p (with_blocks c (slice_set (blocks c s) n b) s)
  set_code c n b s h new d m cells e = by (class_cases d c) (cases_eq m n)
    where
      other : (d ≡ c → ¬ (m ≡ n)) → All C cells
      other apart = h d m cells (sym (cells_of-set_other c n b s d m apart) ∙ e)

      by : (d ≡ c) ⊎ ¬ (d ≡ c) → (m ≡ n) ⊎ ¬ (m ≡ n) → All C cells
      by (inl i) (inl j) = new cells (set_same c n b s d m i j cells e)
      by (inr apart) o = other (λ i. absurd (apart i))
      by (inl i) (inr apart) = other (λ i. apart)

  pub alloc_code : (c : Class) (more : List Value) (s : Store) → IsCodeStore p s → All C more → IsCodeStore p (alloc c more s)
  alloc_code c more s h new d m cells e = by (class_cases d c) (cases_eq m (next_block c s))
    where
      other : (d ≡ c → ¬ (m ≡ next_block c s)) → All C cells
      other apart = h d m cells (sym (cells_of-alloc_other c more s d m apart) ∙ e)

      by : (d ≡ c) ⊎ ¬ (d ≡ c) → (m ≡ next_block c s) ⊎ ¬ (m ≡ next_block c s) → All C cells
      by (inl i) (inl j) = subst (All C) (alloc_same c more s d m i j cells e) new
      by (inr apart) o = other (λ i. absurd (apart i))
      by (inl i) (inr apart) = other (λ i. apart)

  result_code : (b : Bool) (t : Store) (fault : Fault) → IsCodeStore p t → Only (IsCodeStore p) (of_result (cond b (Ok t) (Err fault)))
  result_code true t fault h = h
  result_code false t fault h = tt

  no_cells : {A : Type 0} (cells : List Value) → None ≡ Some cells → A
  no_cells cells e = absurd (cc)

  pub free_code : (c : Class) (v : Value) (s : Store) → IsCodeStore p s → Only (IsCodeStore p) (of_result (free c v s))
  free_code c Unset s h = tt
  free_code c (Whole kind z) s h = tt
  free_code c Null s h = h
  free_code c (At d n k) s h = result_code (same_class c d && is_some (cells_of d n s) && (k == 0)) _ F.BadFree (set_code c n None s h (λ cells e. no_cells cells e))
  free_code c (Code f) s h = tt
  free_code c (Cond n) s h = tt

  pub save_code : (c : Class) (n k : ℕ) (v : Value) (s : Store) → IsCodeStore p s → C v → Only (IsCodeStore p) (of_result (save c n k v s))
  save_code c n k v s h i = go (cells_of c n s) refl
    where
      from : (r : Result Store Fault) → save c n k v s ≡ r → Only (IsCodeStore p) (of_result r) → Only (IsCodeStore p) (of_result (save c n k v s))
      from r e g = subst (λ q. Only (IsCodeStore p) (of_result q)) (sym e) g

      written : (cells : List Value) → cells_of c n s ≡ Some cells → (xs : List Value) → Some (slice_set cells k v) ≡ Some xs → All C xs
      written cells e xs j = let same : slice_set cells k v ≡ xs = cc in subst (All C) same (All-set C cells k v i (h c n cells e))

      within : (cells : List Value) → cells_of c n s ≡ Some cells → (b : Bool) → is_some (slice_get cells k) ≡ b → Only (IsCodeStore p) (of_result (save c n k v s))
      within cells e true g = from _ (save_there c n k v s cells e g) (set_code c n (Some (slice_set cells k v)) s h (written cells e))
      within cells e false g = from (Err F.Bounds) (simp (e, g) refl) tt

      go : (o : Option (List Value)) → cells_of c n s ≡ o → Only (IsCodeStore p) (of_result (save c n k v s))
      go None e = from (Err F.Freed) (simp e refl) tt
      go (Some cells) e = within cells e (is_some (slice_get cells k)) refl

  loaded_code : (wanted : Scalar) (c : Class) (n k : ℕ) (s : Store) → IsCodeStore p s → Only C (of_result (load wanted c n k s))
  loaded_code wanted c n k s h = go (cells_of c n s) refl
    where
      cell : (cells : List Value) → cells_of c n s ≡ Some cells → (o : Option Value) → slice_get cells k ≡ o → Only C (of_result (load_cell wanted o))
      cell cells e None g = tt
      cell cells e (Some v) g = suited (suits wanted v)
        where
          suited : (b : Bool) → Only C (of_result (cond b (Ok v) (Err F.Kind)))
          suited true = element C cells k v (h c n cells e) g
          suited false = tt

      go : (o : Option (List Value)) → cells_of c n s ≡ o → Only C (of_result (load_block wanted o k))
      go None e = tt
      go (Some cells) e = cell cells e (slice_get cells k) refl

  -- ---- operators

  number_code : (kind : Kind) (r : Result ℤ Fault) → Only C (number kind r)
  number_code kind (Ok z) = tt
  number_code kind (Err fault) = tt

  pub assigned_code : (t : Ty) (v : Value) → C v → Only C (assigned t v)
  assigned_code t Unset h = tt
  assigned_code (TyInt kind) (Whole j z) h = tt
  assigned_code (TyPointer t) (Whole j z) h = tt
  assigned_code (TyPointer t) Null h = tt
  assigned_code (TyPointer t) (At c n k) h = tt
  assigned_code (TyCode r ps) (Whole j z) h = tt
  assigned_code (TyCode r ps) Null h = tt
  assigned_code (TyCode r ps) (Code f) h = h
  assigned_code TyCondvar (Cond n) h = tt
  assigned_code _ _ h = tt

  pub at_type_code : (t : Ty) (v : Value) → C v → Only C (at_type t v)
  at_type_code t Unset h = tt
  at_type_code t v h = assigned_code t v h

  applied_code : (op : UnaryOp) (v : Value) → Only C (apply op v)
  applied_code Minus (Whole kind z) = number_code _ _
  applied_code Plus (Whole kind z) = tt
  applied_code Complement (Whole kind z) = tt
  applied_code Minus _ = tt
  applied_code Plus _ = tt
  applied_code Complement _ = tt
  applied_code Not v = any_then C (holds v) (λ b. Gives (truth_value (not b))) (λ b. tt)
  applied_code Dereference v = tt
  applied_code AddressOf v = tt

  within_code : (o : Option (List Value)) (c : Class) (n : ℕ) (z : ℤ) → Only C (moved_within o c n z)
  within_code None c n z = tt
  within_code (Some cells) c n z = only_if C (int_le (pos 0) z && int_le z (pos (length cells))) (Gives (At c n (unsigned_abs z))) (Faults F.Bounds) tt tt

  moved_code : (s : Store) (v : Value) (d : ℤ) → Only C (moved s v d)
  moved_code s (At c n k) d = within_code (cells_of c n s) c n (pos k +ℤ d)
  moved_code s Unset d = tt
  moved_code s (Whole kind z) d = tt
  moved_code s Null d = tt
  moved_code s (Code f) d = tt
  moved_code s (Cond n) d = tt

  moved_by_code : (s : Store) (t : Option Ty) (v : Value) (z : ℤ) → Only C (moved_by p s t v z)
  moved_by_code s t v z = any_then C (element_size p t) _ λ n. moved_code s v _

  distance_code : (s : Store) (t : Option Ty) (v w : Value) → Only C (distance p s t v w)
  distance_code s t v w = any_then C (offsets s v w) _ λ x. any_then C (element_size p t) _ λ n. tt

  ordered_code : (s : Store) (test : ℤ → ℤ → Bool) (v w : Value) → Only C (ordered s test v w)
  ordered_code s test v w = any_then C (offsets s v w) _ λ x. tt

  pointers_code : (s : Store) (op : Op) (t : Option Ty) (v w : Value) → Only C (on_pointers p s op t v w)
  pointers_code s Add t v (Whole k z) = moved_by_code s t v z
  pointers_code s Sub t v (Whole k z) = moved_by_code s t v _
  pointers_code s Sub t v w = distance_code s t v w
  pointers_code s Lt t v w = ordered_code s int_lt v w
  pointers_code s Le t v w = ordered_code s int_le v w
  pointers_code s Gt t v w = ordered_code s (λ j k. int_lt k j) v w
  pointers_code s Ge t v w = ordered_code s (λ j k. int_le k j) v w
  pointers_code s _ t v w = tt

  mixed_code : (s : Store) (op : Op) (t : Option Ty) (z : ℤ) (w : Value) → Only C (on_mixed p s op t z w)
  mixed_code s Add t z w = moved_by_code s t w z
  mixed_code s _ t z w = tt

  operates_code : (s : Store) (op : Op) (t u : Option Ty) (v w : Value) → Only C (operate p s op t u v w)
  operates_code s op t u Unset w = tt
  operates_code s op t u v Unset = tt
  operates_code s op t u (Whole j x) (Whole k y) = number_code _ _
  operates_code s op t u (Whole j x) w = mixed_code s op u x w
  operates_code s op t u v w = pointers_code s op t v w

  pointer_code : (spot : Spot) → Only C (pointer_to spot)
  pointer_code (InSlot k) = tt
  pointer_code (InCell c n k) = tt

  tested_code : (a : Answer Value) → Only C (tested a)
  tested_code a = any_then C a _ λ v. any_then C (holds v) _ λ x. tt

  also_code : (x : Bool) (a : Answer Value) → Only C (and_also x a)
  also_code true a = tested_code a
  also_code false a = tt

  otherwise_code : (x : Bool) (a : Answer Value) → Only C (or_else x a)
  otherwise_code true a = tt
  otherwise_code false a = tested_code a

  chosen_code : (x : Bool) (a b : Answer Value) → Only C a → Only C b → Only C (chosen x a b)
  chosen_code true a b h k = h
  chosen_code false a b h k = k

  -- ---- values

  module _ (scope : Scope) (slots : List Slot) (s : Store) (store : IsCodeStore p s) (held : All (IsCodeSlot p) slots) where
    abbrev c : Context
    c = at p scope slots s

    -- a function that a name stands for in a scope is an item
    native_code : (x : Text) (r : Ty) (ps : List Ty) → named p scope x ≡ AFunction Native r ps → C (Code x)
    native_code x r ps e = subst IsNative (sym (item_of p scope x Native r ps e)) tt

    detached_code : (x : Text) (r : Ty) (ps : List Ty) → named p scope x ≡ AFunction Detached r ps → C (Code x)
    detached_code x r ps e = subst IsNative (sym (item_of p scope x Detached r ps e)) tt

    slot_code : (k : ℕ) (o : Option Slot) → slice_get slots k ≡ o → Only C (slot_value o)
    slot_code k None e = tt
    slot_code k (Some (Register v)) e = element (IsCodeSlot p) slots k (Register v) held e
    slot_code k (Some (Boxed n)) e = tt

    reads_code : (t : Option Ty) (spot : Spot) → Only C (read slots s t spot)
    reads_code None spot = tt
    reads_code (Some t) (InSlot k) = slot_code k (slice_get slots k) refl
    reads_code (Some (TyArray t m)) (InCell d n k) = tt
    reads_code (Some t) (InCell d n k) = any_then C (needed (scalar_of t)) _ λ wanted. loaded_code wanted d n k s store

    names_code : (x : Text) (m : Meant) → named p scope x ≡ m → Only C (value_named slots s x m)
    names_code x (ALocal k t) e = any_then C (spot_named slots (ALocal k t)) _ λ spot. reads_code (Some t) spot
    names_code x (AGlobal n t) e = reads_code (Some t) (InCell Static n 0)
    names_code x (AFunction Native r ps) e = native_code x r ps e
    names_code x (AFunction Detached r ps) e = detached_code x r ps e
    names_code x _ e = tt

    addresses_code : (a : Answer Spot) → Only C (address a)
    addresses_code a = any_then C a _ λ spot. pointer_code spot

    address_code : (x : Text) (m : Meant) → named p scope x ≡ m → Only C (address_named slots x m)
    address_code x (AFunction Native r ps) e = native_code x r ps e
    address_code x (AFunction Detached r ps) e = detached_code x r ps e
    address_code x m e = addresses_code (spot_named slots m)

    pub value_code : (e : Expr) → Only C (value c e)
    value_code (ENamed x) = names_code x (named p scope x) refl
    value_code (EInteger kind z) = tt
    value_code (ECharacter z) = tt
    value_code (EText bytes) = tt
    value_code (EUnary Dereference e) = any_then C (value c e) _ λ v. any_then C (pointed v) _ λ spot. reads_code (place_type c (EUnary Dereference e)) spot
    value_code (EUnary AddressOf (ENamed x)) = address_code x (named p scope x) refl
    value_code (EUnary AddressOf e) = addresses_code (place c e)
    value_code (EUnary sign e) = any_then C (value c e) _ λ v. applied_code sign v
    value_code (EBinary op a b) = any_then C (value c a) _ λ v. any_then C (value c b) _ λ w. operates_code s op (used_type c a) (used_type c b) v w
    value_code (EAnd a b) = any_then C (value c a) _ λ v. any_then C (holds v) _ λ x. also_code x (value c b)
    value_code (EOr a b) = any_then C (value c a) _ λ v. any_then C (holds v) _ λ x. otherwise_code x (value c b)
    value_code (EChoose e a b) =
        any_then C (value c e) _ λ v.
        any_then C (holds v) _ λ x.
        any_then C (needed (used_type c (EChoose e a b))) _ λ t.
        only_then C C (chosen x (value c a) (value c b)) _ (chosen_code x (value c a) (value c b) (value_code a) (value_code b)) λ w i. at_type_code t w i
    value_code (ECast t e) = only_then C C (value c e) _ (value_code e) λ v i. at_type_code t v i
    value_code (ESizeOf t) = any_then C (needed (size p t)) _ λ n. tt
    value_code (EIndex a i) =
        any_then C (value c a) _ λ v.
        any_then C (value c i) _ λ w.
        any_then C (operate p s Add (used_type c a) (used_type c i) v w) _ λ x.
        any_then C (pointed x) _ λ spot. reads_code (place_type c (EIndex a i)) spot
    value_code (EMember e x) =
        any_then C (place c e) _ λ spot.
        any_then C (pointer_to spot) _ λ v.
        any_then C (field_spot p s (place_type c e) x v) _ λ there. reads_code (place_type c (EMember e x)) there
    value_code (EArrow e x) =
        any_then C (value c e) _ λ v.
        any_then C (field_spot p s (pointed_type (used_type c e)) x v) _ λ there. reads_code (place_type c (EArrow e x)) there
    value_code (ECall f es) = tt

    pub values_code : (es : Exprs) → Only (All C) (values c es)
    values_code NoExpr = All-nil C
    values_code (AndExpr e es) =
        only_then C (All C) (value c e) _ (value_code e) λ v h.
        only_then (All C) (All C) (values c es) _ (values_code es) λ vs i. All-cons C v vs h i
