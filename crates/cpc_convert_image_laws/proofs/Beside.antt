-- What is written, freed and made beside frames is so in the store of the source.
use Rattle.std.proofs.Common.{ℕ, pos, ◌&&◌, ◌==◌, Bool, true, false, cond, List, [], ◌∷◌, replicate, None, Result, Ok, Err, is_some, slice_set}
use Rattle.std.specs.Prelude.{int_lt, unsigned_abs}
use Rattle.std.specs.Result.{result_map_both}
use Rattle.cpc_base.specs.Bytes.{Text}
use Rattle.cpc_num.specs.declared.kinds.Fault.{Fault}
use Rattle.cpc_num.specs.declared.kinds.Fault.TheVariants as F
use Rattle.cpc_store.specs.declared.values.Class.{Class}
use Rattle.cpc_store.specs.declared.values.Class.TheVariants.{Static, Auto, Heap, Frame}
use Rattle.cpc_store.specs.Store.{Value, Unset, Whole, Null, At, Code, Cond, Store, Blocks, blocks, with_blocks, alloc, next_block, cells_of, free, save, save_in}
use Rattle.cpc_meaning.specs.Answer.{Answer, Gives, Faults, ◌>>=◌, of_result}
use Rattle.cpc_meaning.specs.Eval.{Slot, Register, Boxed}
use Rattle.cpc_meaning.specs.Section.{allocated, freed}
use Rattle.cpc_meaning.specs.Slots.{free_slots}
use Rattle.cpc_meaning_laws.proofs.Pointer.Blocks.{Only}
use Rattle.cpc_convert_image_laws.specs.Held.{IsShared, IsHeld, IsHeldStore, beside}
use Rattle.cpc_convert_image_laws.specs.Relations.{Meets, BothGive, BothFault, Stuck, StoreBeside, InBoth, Answered, BothAnswer}
use Rattle.cpc_convert_image_laws.proofs.Stores.{IsHeldCells, cells_unset, alloc_holds, free_holds, save_holds}

module _ (C : Text → Type 0) (frames : Blocks) where
  abbrev Both : Answer Store → Answer Store → Type 0
  Both a b = Meets (StoreBeside C frames) a b

  module _ (s : Store) (source : IsHeldStore C s) where
    -- other blocks of a class
    saved : (c : Class) → IsShared c → (made : Result Blocks Fault) → Only (IsHeldStore C) (of_result (result_map_both (λ bs. with_blocks c bs s) (λ fault. fault) made))
        → Both (of_result (result_map_both (λ bs. with_blocks c bs s) (λ fault. fault) made)) (of_result (result_map_both (λ bs. with_blocks c bs (beside frames s)) (λ fault. fault) made))
    saved Static d (Ok bs) h = BothGive _ _ (InBoth (with_blocks Static bs s) h)
    saved Auto d (Ok bs) h = BothGive _ _ (InBoth (with_blocks Auto bs s) h)
    saved Heap d (Ok bs) h = BothGive _ _ (InBoth (with_blocks Heap bs s) h)
    saved Frame d (Ok bs) h = absurd (cc)
    saved c d (Err fault) h = BothFault fault

    -- a cell is written
    pub saves : (c : Class) (n k : ℕ) (v : Value) → IsShared c → IsHeld C v → Both (of_result (save c n k v s)) (of_result (save c n k v (beside frames s)))
    saves Static n k v h i = saved Static tt (save_in (cells_of Static n s) (blocks Static s) n k v) (save_holds C Static n k v s source i)
    saves Auto n k v h i = saved Auto tt (save_in (cells_of Auto n s) (blocks Auto s) n k v) (save_holds C Auto n k v s source i)
    saves Heap n k v h i = saved Heap tt (save_in (cells_of Heap n s) (blocks Heap s) n k v) (save_holds C Heap n k v s source i)
    saves Frame n k v h i = absurd (cc)

    -- a block is freed
    block_freed : (c : Class) → IsShared c → (test : Bool) (bs : Blocks) → Only (IsHeldStore C) (of_result (cond test (Ok (with_blocks c bs s)) (Err F.BadFree)))
        → Both (of_result (cond test (Ok (with_blocks c bs s)) (Err F.BadFree))) (of_result (cond test (Ok (with_blocks c bs (beside frames s))) (Err F.BadFree)))
    block_freed Static d true bs h = BothGive _ _ (InBoth (with_blocks Static bs s) h)
    block_freed Auto d true bs h = BothGive _ _ (InBoth (with_blocks Auto bs s) h)
    block_freed Heap d true bs h = BothGive _ _ (InBoth (with_blocks Heap bs s) h)
    block_freed Frame d true bs h = absurd (cc)
    block_freed c d false bs h = BothFault F.BadFree

    pub frees : (c : Class) (v : Value) → IsShared c → IsHeld C v → Both (of_result (free c v s)) (of_result (free c v (beside frames s)))
    frees c Unset d h = BothFault F.Unset
    frees c (Whole kind z) d h = BothFault F.BadFree
    frees c Null d h = BothGive _ _ (InBoth s source)
    frees c (Code f) d h = BothFault F.BadFree
    frees c (Cond n) d h = BothFault F.BadFree
    frees c (At Frame n k) d h = absurd (cc)
    frees Static (At e n k) d h = static_freed e n k h
      where
        static_freed : (e : Class) (n k : ℕ) → IsShared e → Both (of_result (free Static (At e n k) s)) (of_result (free Static (At e n k) (beside frames s)))
        static_freed Static n k h = block_freed Static tt (is_some (cells_of Static n s) && (k == 0)) (slice_set s.static n None) (free_holds C Static (At Static n k) s source)
        static_freed Auto n k h = BothFault F.BadFree
        static_freed Heap n k h = BothFault F.BadFree
        static_freed Frame n k h = absurd (cc)
    frees Auto (At e n k) d h = auto_freed e n k h
      where
        auto_freed : (e : Class) (n k : ℕ) → IsShared e → Both (of_result (free Auto (At e n k) s)) (of_result (free Auto (At e n k) (beside frames s)))
        auto_freed Auto n k h = block_freed Auto tt (is_some (cells_of Auto n s) && (k == 0)) (slice_set s.auto n None) (free_holds C Auto (At Auto n k) s source)
        auto_freed Static n k h = BothFault F.BadFree
        auto_freed Heap n k h = BothFault F.BadFree
        auto_freed Frame n k h = absurd (cc)
    frees Heap (At e n k) d h = heap_freed e n k h
      where
        heap_freed : (e : Class) (n k : ℕ) → IsShared e → Both (of_result (free Heap (At e n k) s)) (of_result (free Heap (At e n k) (beside frames s)))
        heap_freed Heap n k h = block_freed Heap tt (is_some (cells_of Heap n s) && (k == 0)) (slice_set s.heap n None) (free_holds C Heap (At Heap n k) s source)
        heap_freed Static n k h = BothFault F.BadFree
        heap_freed Auto n k h = BothFault F.BadFree
        heap_freed Frame n k h = absurd (cc)
    frees Frame (At e n k) d h = absurd (cc)

    -- a block is made
    pub makes : (c : Class) (cells : List Value) → IsShared c → IsHeldCells C cells → StoreBeside C frames (alloc c cells s) (alloc c cells (beside frames s))
    makes Static cells d h = InBoth (alloc Static cells s) (alloc_holds C Static cells s source h)
    makes Auto cells d h = InBoth (alloc Auto cells s) (alloc_holds C Auto cells s source h)
    makes Heap cells d h = InBoth (alloc Heap cells s) (alloc_holds C Heap cells s source h)
    makes Frame cells d h = absurd (cc)

    -- ---- requests

    allocates : (c : Class) → IsShared c → (test : Bool) (n : ℕ)
        → Meets (Answered C frames) (cond test (Faults F.Length) (Gives (alloc c (replicate n Unset) s, At c (next_block c s) 0))) (cond test (Faults F.Length) (Gives (alloc c (replicate n Unset) (beside frames s), At c (next_block c (beside frames s)) 0)))
    allocates c d true n = BothFault F.Length
    allocates Static d false n = BothGive _ _ (BothAnswer (alloc Static (replicate n Unset) s) (At Static (next_block Static s) 0) (alloc_holds C Static (replicate n Unset) s source (cells_unset C n)) tt)
    allocates Auto d false n = BothGive _ _ (BothAnswer (alloc Auto (replicate n Unset) s) (At Auto (next_block Auto s) 0) (alloc_holds C Auto (replicate n Unset) s source (cells_unset C n)) tt)
    allocates Heap d false n = BothGive _ _ (BothAnswer (alloc Heap (replicate n Unset) s) (At Heap (next_block Heap s) 0) (alloc_holds C Heap (replicate n Unset) s source (cells_unset C n)) tt)
    allocates Frame d false n = absurd (cc)

    -- the answers to requests for a block, and for its end
    pub allocated_alike : (c : Class) (v : Value) → IsShared c → Meets (Answered C frames) (allocated c v s) (allocated c v (beside frames s))
    allocated_alike c (Whole kind z) d = allocates c d (int_lt z (pos 0)) (unsigned_abs z)
    allocated_alike c Unset d = Stuck _
    allocated_alike c Null d = Stuck _
    allocated_alike c (At e n k) d = Stuck _
    allocated_alike c (Code f) d = Stuck _
    allocated_alike c (Cond n) d = Stuck _

    pub freed_alike : (c : Class) (v : Value) → IsShared c → IsHeld C v → Meets (Answered C frames) (freed c v s) (freed c v (beside frames s))
    freed_alike c v d h = go _ _ (frees c v d h)
      where
        go : (a b : Answer Store) → Both a b → Meets (Answered C frames) (a >>= λ t. Gives (t, Unset)) (b >>= λ t. Gives (t, Unset))
        go _ _ (BothGive _ _ (InBoth t i)) = BothGive _ _ (BothAnswer t Unset i tt)
        go _ _ (BothFault fault) = BothFault fault
        go _ _ (Stuck b) = Stuck _

  -- the blocks of a call are freed
  pub slots_free : (slots : List Slot) (s : Store) → IsHeldStore C s → Meets (StoreBeside C frames) (free_slots slots s) (free_slots slots (beside frames s))
  slots_free [] s source = BothGive _ _ (InBoth s source)
  slots_free (Register v ∷ slots) s source = slots_free slots s source
  slots_free (Boxed n ∷ slots) s source = rest (λ t h. slots_free slots t h) _ _ (frees s source Auto (At Auto n 0) tt tt)
    where
      rest : ((t : Store) → IsHeldStore C t → Meets (StoreBeside C frames) (free_slots slots t) (free_slots slots (beside frames t)))
          → (a b : Answer Store) → Meets (StoreBeside C frames) a b → Meets (StoreBeside C frames) (a >>= free_slots slots) (b >>= free_slots slots)
      rest h _ _ (BothGive _ _ (InBoth t i)) = h t i
      rest h _ _ (BothFault fault) = BothFault fault
      rest h _ _ (Stuck b) = Stuck _
