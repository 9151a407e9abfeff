-- Blocks that are made and freed, and the cells that are live then.
use Rattle.std.proofs.Common.{◌≡◌, ℕ, ◌+◌, ◌-◌, ◌^◌, min, Bool, true, false, List, length, Option, Some, None, option_map, Ok, Err, refl, sym, ap, subst, ◌∙◌, pos}
use Rattle.std.specs.Prelude.{int_lt, unsigned_abs, replicate, is_some, ◌&&◌, ◌==◌, slice_set, if◌then◌else◌, ℤ}
use Rattle.std.proofs.lemmas.List.{length-replicate}
use Rattle.cpc_base.specs.declared.names.Name.{Name}
use Rattle.cpc_num.specs.declared.kinds.Fault.TheVariants as F
use Rattle.cpc_num.specs.declared.kinds.Kind.{Kind}
use Rattle.cpc_tree.specs.Erase.{Names}
use Rattle.cpc_tree.specs.Points.{Found}
use Rattle.cpc_store.specs.declared.values.Class.{Class}
use Rattle.cpc_store.specs.declared.values.Class.TheVariants as K
use Rattle.cpc_store.specs.Store.{Value, Unset, Whole, At, Store, StoreOf, alloc, blocks, with_blocks, cells_of, size, next_block, store_cells, same_class}
use Rattle.cpc_store.proofs.CellLemmas.{store_cells-alloc, store_cells-free}
use Rattle.cpc_store.proofs.CodeLemmas.{size-map, next_block-map}
use Rattle.cpc_meaning.specs.Answer.{Answer, Gives, Faults, NoAnswer, ◌>>=◌, of_result}
use Rattle.cpc_meaning.specs.Eval as E
use Rattle.cpc_meaning.specs.Act as M
use Rattle.cpc_meaning.specs.Section.{allocated, freed}
use Rattle.cpc_eval_values.specs.Shown.{store_of}
use Rattle.cpc_native_plans.specs.Stops.{IsGiven}
use Rattle.cpc_native_changes.specs.Foreseen.{MakesSo, FreesSo, ArrivesSo, IsMaking}
use Rattle.cpc_native_changes.specs.declared.changes.Change.{Change}
use Rattle.cpc_native_changes.specs.declared.changes.Change.TheVariants as C

-- ---- blocks that are made

arrives_so : (change : Change) (before after : ℕ) (a : Answer M.Act) → IsGiven true a → IsMaking change before after → ArrivesSo change before after a
arrives_so change before after (Gives act) h m = m
arrives_so change before after (Faults e) h m = let no : ⊥ = cc in absurd no
arrives_so change before after NoAnswer h m = tt

arrives_not : (before after : ℕ) (a : Answer M.Act) → IsGiven false a → ArrivesSo C.Stays before after a
arrives_not before after (Gives act) h = let no : ⊥ = cc in absurd no
arrives_not before after (Faults e) h = refl
arrives_not before after NoAnswer h = tt

module _ (c : E.Context) (there : Found) (class : Class) (z : ℤ) where
  -- the block of so many cells, and the pointer to it
  abbrev block : Store × Value
  block = (alloc class (replicate (unsigned_abs z) Unset) c.store, At class (next_block class c.store) 0)

  abbrev made : Bool → Answer (Store × Value)
  made b = if b then Faults F.Length else Gives block

  pub makes_so : (kind : Kind) (cells : ℕ) → Some cells ≡ (if int_lt z (pos 0) then None else Some (min (unsigned_abs z) (2 ^ 64 - 1))) → IsGiven true (M.arrives c there (Some (At class (next_block class c.store) 0)))
      → MakesSo c (M.AtStatement there) (C.Makes cells) (allocated class (Whole kind z) c.store)
  makes_so kind cells e h = go (int_lt z (pos 0)) e
    where
      go : (b : Bool) → Some cells ≡ (if b then None else Some (min (unsigned_abs z) (2 ^ 64 - 1))) → MakesSo c (M.AtStatement there) (C.Makes cells) (made b)
      go true e = absurd cc
      go false e =
          let n : cells ≡ min (unsigned_abs z) (2 ^ 64 - 1) = cc in
          let after : store_cells block.0 ≡ store_cells c.store + unsigned_abs z =
          store_cells-alloc class (replicate (unsigned_abs z) Unset) c.store ∙ ap (λ k. store_cells c.store + k) (length-replicate (unsigned_abs z) _) in
          arrives_so (C.Makes cells) (store_cells c.store) (store_cells block.0) (M.arrives c there (Some block.1)) h (unsigned_abs z, after, n)

  pub makes_not : (kind : Kind) → IsGiven false (M.arrives c there (Some (At class (next_block class c.store) 0))) → MakesSo c (M.AtStatement there) C.Stays (allocated class (Whole kind z) c.store)
  makes_not kind h = go (int_lt z (pos 0))
    where
      go : (b : Bool) → MakesSo c (M.AtStatement there) C.Stays (made b)
      go true = refl
      go false = arrives_not (store_cells c.store) (store_cells block.0) (M.arrives c there (Some block.1)) h

-- the pointer to the next block, in a store that is seen
pub next_pointer : (names : Names) (s : StoreOf Name) (class : Class) (n : ℕ) → n ≡ next_block class s → ◌≡◌ {A = Value} (At class n 0) (At class (next_block class (store_of names s)) 0)
next_pointer names s class n e = ap (λ k. At class k 0) (e ∙ sym (next_block-map names class s))

-- ---- blocks that are freed

same_is : (c d : Class) → same_class c d ≡ true → c ≡ d
same_is K.Static K.Static e = refl
same_is K.Auto K.Auto e = refl
same_is K.Heap K.Heap e = refl
same_is K.Frame K.Frame e = refl
same_is _ _ e = absurd cc

both_true : (a b : Bool) → a ≡ true → b ≡ true → (a && b && (0 == 0)) ≡ true
both_true true true p q = refl
both_true true false p q = absurd cc
both_true false b p q = absurd cc

second_false : (a b d : Bool) → b ≡ false → (a && b && d) ≡ false
second_false true true d e = absurd cc
second_false true false d e = refl
second_false false b d e = refl

is_there : (o : Option (List Value)) (m : ℕ) → option_map length o ≡ Some m → is_some o ≡ true
is_there None m e = absurd cc
is_there (Some cells) m e = refl

is_gone : (o : Option (List Value)) → option_map length o ≡ None → is_some o ≡ false
is_gone None e = refl
is_gone (Some cells) e = absurd cc

module _ (c : E.Context) where
  -- a block that is freed, if it can be
  abbrev dropped : Bool → Store → Answer (Store × Value)
  dropped b t = of_result (if b then Ok t else Err F.BadFree) >>= (λ s. Gives (s, Unset))

  frees_so : (b : Bool) (t : Store) (m : ℕ) → b ≡ true → store_cells t + m ≡ store_cells c.store → FreesSo c (C.Frees m) (dropped b t)
  frees_so true t m e h = h
  frees_so false t m e h = absurd cc

  frees_not : (b : Bool) (t : Store) → b ≡ false → FreesSo c C.Stays (dropped b t)
  frees_not true t e = absurd cc
  frees_not false t e = refl

  module _ (names : Names) (s : StoreOf Name) (class d : Class) (n : ℕ) (at : c.store ≡ store_of names s) where
    pub freed_there : (m k : ℕ) → true ≡ same_class class d → k ≡ 0 → Some m ≡ size d n s → FreesSo c (C.Frees m) (freed class (At d n k) c.store)
    freed_there m k same zero e =
        let there : size d n c.store ≡ Some m = ap (size d n) at ∙ (size-map names d n s ∙ sym e) in
        let P : ℕ → Type 0 = λ j. FreesSo c (C.Frees m) (freed class (At d n j) c.store) in
        let is = same_is class d (sym same) in
        let here : size class n c.store ≡ Some m = ap (λ x. size x n c.store) is ∙ there in
        subst P (sym zero)
        (frees_so _ (with_blocks class (slice_set (blocks class c.store) n None) c.store) m
        (both_true (same_class class d) (is_some (cells_of d n c.store)) (sym same) (is_there (cells_of d n c.store) m there))
        (store_cells-free class n m c.store here))

    pub freed_gone : (k : ℕ) → None ≡ size d n s → FreesSo c C.Stays (freed class (At d n k) c.store)
    freed_gone k e =
        let gone : size d n c.store ≡ None = ap (size d n) at ∙ (size-map names d n s ∙ sym e) in
        frees_not _ (with_blocks class (slice_set (blocks class c.store) n None) c.store) (second_false (same_class class d) (is_some (cells_of d n c.store)) (k == 0) (is_gone (cells_of d n c.store) gone))
