-- Acts on a store: what is written is held again.
use Rattle.std.proofs.Common.{◌≡◌, ◌⊎◌, inl, inr, ℕ, zero, suc, ◌&&◌, ◌==◌, Bool, true, false, cond, List, [], ◌∷◌, replicate, Option, Some, None, Result, Ok, Err, is_some, slice_get, slice_set, refl, sym, ◌∙◌, ap, subst}
use Rattle.std.proofs.lemmas.Bool.{cases_eq}
use Rattle.cpc_base.specs.Bytes.{Text}
use Rattle.cpc_num.specs.declared.kinds.Fault.{Fault}
use Rattle.cpc_num.specs.declared.kinds.Fault.TheVariants as F
use Rattle.cpc_store.specs.declared.values.Class.{Class}
use Rattle.cpc_store.specs.Store.{Value, Unset, Whole, Null, At, Code, Cond, Store, blocks, with_blocks, alloc, cells_of, next_block, free, save, same_class}
use Rattle.cpc_store.proofs.StoreLemmas.{cells_of-alloc_other, cells_of-set_other}
use Rattle.cpc_meaning.specs.Answer.{of_result}
use Rattle.cpc_meaning.proofs.Stores.{save_there}
use Rattle.cpc_meaning_laws.proofs.Pointer.Blocks.{Only}
use Rattle.cpc_meaning_laws.proofs.Pointer.Stores.{class_cases, set_same, alloc_same}
use Rattle.cpc_convert_image_laws.specs.Held.{IsHeld, IsHeldStore}

module _ (C : Text → Type 0) where
  -- ---- cells

  -- each of these cells is held
  abbrev pub IsHeldCells : List Value → Type 0
  IsHeldCells cells = (k : ℕ) (v : Value) → slice_get cells k ≡ Some v → IsHeld C v

  pub cells_none : IsHeldCells []
  cells_none k v e = absurd (cc)

  pub cells_more : (v : Value) (cells : List Value) → IsHeld C v → IsHeldCells cells → IsHeldCells (v ∷ cells)
  cells_more v cells h i zero w e = let same : v ≡ w = cc in subst (IsHeld C) same h
  cells_more v cells h i (suc k) w e = i k w e

  pub cells_unset : (n : ℕ) → IsHeldCells (replicate n Unset)
  cells_unset zero = cells_none
  cells_unset (suc n) = cells_more Unset (replicate n Unset) tt (cells_unset n)

  cells_set : (cells : List Value) (k : ℕ) (v : Value) → IsHeldCells cells → IsHeld C v → IsHeldCells (slice_set cells k v)
  cells_set [] k v h i = cells_none
  cells_set (x ∷ cells) zero v h i = cells_more v cells i (λ j. h (suc j))
  cells_set (x ∷ cells) (suc k) v h i = cells_more x (slice_set cells k v) (h zero x refl) (cells_set cells k v (λ j. h (suc j)) i)

  -- another block in the place of one: none, or one whose cells were made
  set_holds : (c : Class) (n : ℕ) (b : Option (List Value)) (s : Store) → IsHeldStore C s → ((cells : List Value) → b ≡ Some cells → IsHeldCells cells) → IsHeldStore C (with_blocks c (slice_set (blocks c s) n b) s)
  set_holds c n b s made h = λ d m k cells v e g. by d m k cells v (class_cases d c) (cases_eq m n) e g
    where
      other : (d : Class) (m k : ℕ) (cells : List Value) (v : Value) → (d ≡ c → ¬ (m ≡ n)) → cells_of d m (with_blocks c (slice_set (blocks c s) n b) s) ≡ Some cells → slice_get cells k ≡ Some v → IsHeld C v
      other d m k cells v apart e g = made d m k cells v (sym (cells_of-set_other c n b s d m apart) ∙ e) g

      by : (d : Class) (m k : ℕ) (cells : List Value) (v : Value) → (d ≡ c) ⊎ ¬ (d ≡ c) → (m ≡ n) ⊎ ¬ (m ≡ n) → cells_of d m (with_blocks c (slice_set (blocks c s) n b) s) ≡ Some cells → slice_get cells k ≡ Some v → IsHeld C v
      by d m k cells v (inl i) (inl j) e g = h cells (set_same c n b s d m i j cells e) k v g
      by d m k cells v (inr apart) o e g = other d m k cells v (λ i. absurd (apart i)) e g
      by d m k cells v (inl i) (inr apart) e g = other d m k cells v (λ i. apart) e g

  -- ---- acts

  pub alloc_holds : (c : Class) (more : List Value) (s : Store) → IsHeldStore C s → IsHeldCells more → IsHeldStore C (alloc c more s)
  alloc_holds c more s made h = λ d m k cells v e g. by d m k cells v (class_cases d c) (cases_eq m (next_block c s)) e g
    where
      other : (d : Class) (m k : ℕ) (cells : List Value) (v : Value) → (d ≡ c → ¬ (m ≡ next_block c s)) → cells_of d m (alloc c more s) ≡ Some cells → slice_get cells k ≡ Some v → IsHeld C v
      other d m k cells v apart e g = made d m k cells v (sym (cells_of-alloc_other c more s d m apart) ∙ e) g

      by : (d : Class) (m k : ℕ) (cells : List Value) (v : Value) → (d ≡ c) ⊎ ¬ (d ≡ c) → (m ≡ next_block c s) ⊎ ¬ (m ≡ next_block c s) → cells_of d m (alloc c more s) ≡ Some cells → slice_get cells k ≡ Some v → IsHeld C v
      by d m k cells v (inl i) (inl j) e g = h k v (ap (λ xs. slice_get xs k) (alloc_same c more s d m i j cells e) ∙ g)
      by d m k cells v (inr apart) o e g = other d m k cells v (λ i. absurd (apart i)) e g
      by d m k cells v (inl i) (inr apart) e g = other d m k cells v (λ i. apart) e g

  result_if : {A : Type 0} (Good : A → Type 0) (b : Bool) (x : A) (fault : Fault) → Good x → Only Good (of_result (cond b (Ok x) (Err fault)))
  result_if Good true x fault h = h
  result_if Good false x fault h = tt

  pub free_holds : (c : Class) (v : Value) (s : Store) → IsHeldStore C s → Only (IsHeldStore C) (of_result (free c v s))
  free_holds c Unset s made = tt
  free_holds c (Whole kind z) s made = tt
  free_holds c Null s made = made
  free_holds c (At d n k) s made =
      result_if (IsHeldStore C) (same_class c d && is_some (cells_of d n s) && (k == 0)) (with_blocks c (slice_set (blocks c s) n None) s) F.BadFree (set_holds c n None s made (λ cells e. absurd (cc)))
  free_holds c (Code f) s made = tt
  free_holds c (Cond n) s made = tt

  pub save_holds : (c : Class) (n k : ℕ) (v : Value) (s : Store) → IsHeldStore C s → IsHeld C v → Only (IsHeldStore C) (of_result (save c n k v s))
  save_holds c n k v s made h = go (cells_of c n s) refl
    where
      from : (r : Result Store Fault) → save c n k v s ≡ r → Only (IsHeldStore C) (of_result r) → Only (IsHeldStore C) (of_result (save c n k v s))
      from r e g = subst (λ q. Only (IsHeldStore C) (of_result q)) (sym e) g

      written : (cells : List Value) → cells_of c n s ≡ Some cells → (xs : List Value) → Some (slice_set cells k v) ≡ Some xs → IsHeldCells xs
      written cells e xs i = let j : slice_set cells k v ≡ xs = cc in subst (IsHeldCells) j (cells_set cells k v (λ q w g. made c n q cells w e g) h)

      within : (cells : List Value) → cells_of c n s ≡ Some cells → (b : Bool) → is_some (slice_get cells k) ≡ b → Only (IsHeldStore C) (of_result (save c n k v s))
      within cells e true g = from _ (save_there c n k v s cells e g) (set_holds c n (Some (slice_set cells k v)) s made (written cells e))
      within cells e false g = from (Err F.Bounds) (simp (e, g) refl) tt

      go : (o : Option (List Value)) → cells_of c n s ≡ o → Only (IsHeldStore C) (of_result (save c n k v s))
      go None e = from (Err F.Freed) (simp e refl) tt
      go (Some cells) e = within cells e (is_some (slice_get cells k)) refl
