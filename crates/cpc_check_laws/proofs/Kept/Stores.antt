-- Code makes no block of a heap frame.
use Rattle.std.proofs.Common.{ℕ, ◌&&◌, ◌==◌, Bool, true, false, cond, List, [], ◌∷◌, Option, Some, None, Ok, Err, is_some, slice_get, slice_set, ap}
use Rattle.std.specs.Prelude.{int_lt, unsigned_abs, pos, replicate}
use Rattle.std.specs.Result.{result_map_both}
use Rattle.cpc_num.specs.declared.kinds.Fault.{Fault}
use Rattle.cpc_num.specs.declared.kinds.Fault.TheVariants as F
use Rattle.cpc_store.specs.declared.values.Class.{Class}
use Rattle.cpc_store.specs.declared.values.Class.TheVariants.{Static, Auto, Heap, Frame}
use Rattle.cpc_store.specs.Store.{Value, Unset, Whole, Null, At, Code, Cond, Store, blocks, with_blocks, alloc, next_block, cells_of, free, save, save_in, same_class}
use Rattle.cpc_meaning.specs.Answer.{Answer, Gives, Faults, NoAnswer, of_result}
use Rattle.cpc_meaning.specs.Eval.{Slot, Register, Boxed}
use Rattle.cpc_meaning.specs.Slots.{free_slots}
use Rattle.cpc_meaning.specs.Section.{allocated, freed}
use Rattle.cpc_meaning_laws.proofs.Pointer.Blocks.{Only, only_then, only_as}
use Rattle.cpc_check_laws.specs.Kept.Kept.{NoFrames}

-- ---- answers

-- two things of one answer
pub only_both : {A : Type 0} (Good Fine : A → Type 0) (a : Answer A) → Only Good a → Only Fine a → Only (λ x. Good x × Fine x) a
only_both Good Fine (Gives x) h k = (h, k)
only_both Good Fine (Faults fault) h k = tt
only_both Good Fine NoAnswer h k = tt

-- ---- stores

-- where no frame was made, none was made afterwards
abbrev pub Stays : Store → Store → Type 0
Stays s t = NoFrames s → NoFrames t

stays_if : (b : Bool) (s t : Store) (fault : Fault) → Stays s t → Only (Stays s) (of_result (cond b (Ok t) (Err fault)))
stays_if true s t fault h = h
stays_if false s t fault h = tt

-- no block is there to be changed
set_none : (c : Class) (n : ℕ) (b : Option (List Value)) (s : Store) → Stays s (with_blocks c (slice_set (blocks c s) n b) s)
set_none Static n b s e = e
set_none Auto n b s e = e
set_none Heap n b s e = e
set_none Frame n b s e = ap (λ bs. slice_set bs n b) e

pub save_stays : (c : Class) (n k : ℕ) (v : Value) (s : Store) → Only (Stays s) (of_result (save c n k v s))
save_stays c n k v s = go (cells_of c n s)
  where
    go : (o : Option (List Value)) → Only (Stays s) (of_result (result_map_both (λ bs. with_blocks c bs s) (λ fault. fault) (save_in o (blocks c s) n k v)))
    go None = tt
    go (Some cells) = within (is_some (slice_get cells k))
      where
        within : (b : Bool) → Only (Stays s) (of_result (result_map_both (λ bs. with_blocks c bs s) (λ fault. fault) (result_map_both (λ written. slice_set (blocks c s) n (Some written)) (λ fault. fault) (cond b (Ok (slice_set cells k v)) (Err F.Bounds)))))
        within true = set_none c n (Some (slice_set cells k v)) s
        within false = tt

pub free_stays : (c : Class) (v : Value) (s : Store) → Only (Stays s) (of_result (free c v s))
free_stays c Unset s = tt
free_stays c (Whole kind z) s = tt
free_stays c Null s = λ e. e
free_stays c (At d n k) s = stays_if (same_class c d && is_some (cells_of d n s) && (k == 0)) s _ F.BadFree (set_none c n None s)
free_stays c (Code f) s = tt
free_stays c (Cond n) s = tt

pub freed_slots_stay : (slots : List Slot) (s : Store) → Only (Stays s) (free_slots slots s)
freed_slots_stay [] s = λ e. e
freed_slots_stay (Register v ∷ slots) s = freed_slots_stay slots s
freed_slots_stay (Boxed n ∷ slots) s =
    only_then (Stays s) (Stays s) (of_result (free Auto (At Auto n 0) s)) (free_slots slots) (free_stays Auto (At Auto n 0) s)
    (λ t h. only_as (Stays t) (Stays s) (free_slots slots t) (λ u k e. k (h e)) (freed_slots_stay slots t))

-- what a program allocates and frees itself
pub heap_allocated : (v : Value) (s : Store) → Only (λ (r : Store × Value). Stays s r.0) (allocated Heap v s)
heap_allocated (Whole kind n) s = go (int_lt n (pos 0))
  where
    go : (b : Bool) → Only (λ (r : Store × Value). Stays s r.0) (cond b (Faults F.Length) (Gives (alloc Heap (replicate (unsigned_abs n) Unset) s, At Heap (next_block Heap s) 0)))
    go true = tt
    go false = λ e. e
heap_allocated Unset s = tt
heap_allocated Null s = tt
heap_allocated (At c n k) s = tt
heap_allocated (Code f) s = tt
heap_allocated (Cond n) s = tt

pub heap_freed : (v : Value) (s : Store) → Only (λ (r : Store × Value). Stays s r.0) (freed Heap v s)
heap_freed v s = only_then (Stays s) (λ (r : Store × Value). Stays s r.0) (of_result (free Heap v s)) _ (free_stays Heap v s) λ t h. h
