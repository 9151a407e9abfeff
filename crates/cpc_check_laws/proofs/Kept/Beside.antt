-- What is done to a store is done beside any heap frames, where it does not speak of them.
use Rattle.std.proofs.Common.{◌≡◌, ℕ, suc, ◌<◌, ◌&&◌, ◌==◌, Bool, true, false, cond, List, [], ◌∷◌, length, replicate, Result, Ok, Err, is_some, refl, subst, arith}
use Rattle.std.specs.Prelude.{int_lt, unsigned_abs, pos}
use Rattle.std.specs.Result.{result_map_both}
use Rattle.cpc_num.specs.declared.kinds.Fault.{Fault}
use Rattle.cpc_num.specs.declared.kinds.Fault.TheVariants as F
use Rattle.cpc_tree.specs.Syntax.{Variable, Function, Program}
use Rattle.cpc_tree.specs.Lists.{first_or, rest_of}
use Rattle.cpc_tree.specs.Registers.{is_register}
use Rattle.cpc_tree.specs.Typing.{size}
use Rattle.cpc_store.specs.declared.values.Class.{Class}
use Rattle.cpc_store.specs.declared.values.Class.TheVariants.{Static, Auto, Heap, Frame}
use Rattle.cpc_store.specs.Store.{Value, Unset, Whole, Null, At, Code, Cond, Store, Blocks, with_blocks, alloc, next_block, cells_of, free, save, save_in, same_class}
use Rattle.cpc_meaning.specs.Answer.{Answer, Gives, Faults, ◌>>=◌, of_result, needed}
use Rattle.cpc_meaning.specs.Eval.{Slot, Register, Boxed}
use Rattle.cpc_meaning.specs.Slots.{first_cells, make_slot, make_slots, free_slots}
use Rattle.cpc_meaning.specs.Section.{allocated, freed}
use Rattle.cpc_meaning_laws.specs.Pointer.Made.{IsBlock}
use Rattle.cpc_meaning_laws.proofs.Pointer.Blocks.{Any, Alike, Given, Broken, Neither, then_alike, same_then, given_alike}
use Rattle.cpc_meaning_laws.proofs.Pointer.Values.{SameCells}
use Rattle.cpc_check_laws.specs.Kept.Kept.{NoFrames}
use Rattle.cpc_check_laws.specs.Kept.Beside.{with_frames, handed_beside, HeapsBeside}

-- no frame was made
no_frame : (s : Store) (n : ℕ) → NoFrames s → ¬ IsBlock s Frame n
no_frame s n e h = let below : n < 0 = subst (λ bs. n < length bs) e h in omega (arith, below)

-- so a block that was made is none
pub not_frame : (s : Store) (c : Class) (n : ℕ) → NoFrames s → IsBlock s c n → ¬ (c ≡ Frame)
not_frame s Static n e h i = absurd (cc)
not_frame s Auto n e h i = absurd (cc)
not_frame s Heap n e h i = absurd (cc)
not_frame s Frame n e h i = no_frame s n e h

module _ (bs : Blocks) where
  -- blocks that were made have the same cells
  pub same_beside : (s : Store) → NoFrames s → SameCells s (with_frames bs s)
  same_beside s e Static n h = refl
  same_beside s e Auto n h = refl
  same_beside s e Heap n h = refl
  same_beside s e Frame n h = absurd (no_frame s n e h)

  abbrev pub Stores : Answer Store → Answer Store → Type 0
  Stores a b = Alike Any (with_frames bs) a b

  -- ---- cells that are written

  pub saves_beside : (c : Class) (n k : ℕ) (v : Value) (s : Store) → ¬ (c ≡ Frame) → Stores (of_result (save c n k v s)) (of_result (save c n k v (with_frames bs s)))
  saves_beside Static n k v s h = go (save_in (cells_of Static n s) s.static n k v)
    where
      go : (r : Result Blocks Fault) → Stores (of_result (result_map_both (λ b. with_blocks Static b s) (λ fault. fault) r)) (of_result (result_map_both (λ b. with_blocks Static b (with_frames bs s)) (λ fault. fault) r))
      go (Ok b) = Given _ tt
      go (Err fault) = Broken fault
  saves_beside Auto n k v s h = go (save_in (cells_of Auto n s) s.auto n k v)
    where
      go : (r : Result Blocks Fault) → Stores (of_result (result_map_both (λ b. with_blocks Auto b s) (λ fault. fault) r)) (of_result (result_map_both (λ b. with_blocks Auto b (with_frames bs s)) (λ fault. fault) r))
      go (Ok b) = Given _ tt
      go (Err fault) = Broken fault
  saves_beside Heap n k v s h = go (save_in (cells_of Heap n s) s.heap n k v)
    where
      go : (r : Result Blocks Fault) → Stores (of_result (result_map_both (λ b. with_blocks Heap b s) (λ fault. fault) r)) (of_result (result_map_both (λ b. with_blocks Heap b (with_frames bs s)) (λ fault. fault) r))
      go (Ok b) = Given _ tt
      go (Err fault) = Broken fault
  saves_beside Frame n k v s h = absurd (h refl)

  -- ---- blocks that are freed

  frees_if : (b : Bool) (s t : Store) → Stores (of_result (cond b (Ok t) (Err F.BadFree))) (of_result (cond b (Ok (with_frames bs t)) (Err F.BadFree)))
  frees_if true s t = Given t tt
  frees_if false s t = Broken F.BadFree

  pub box_freed_beside : (n : ℕ) (s : Store) → Stores (of_result (free Auto (At Auto n 0) s)) (of_result (free Auto (At Auto n 0) (with_frames bs s)))
  box_freed_beside n s = frees_if (same_class Auto Auto && is_some (cells_of Auto n s) && (0 == 0)) s _

  pub heap_freed_beside : (v : Value) (s : Store) → Stores (of_result (free Heap v s)) (of_result (free Heap v (with_frames bs s)))
  heap_freed_beside Unset s = Broken F.Unset
  heap_freed_beside (Whole kind z) s = Broken F.BadFree
  heap_freed_beside Null s = Given s tt
  heap_freed_beside (At Heap n k) s = frees_if (same_class Heap Heap && is_some (cells_of Heap n s) && (k == 0)) s _
  heap_freed_beside (At Static n k) s = Broken F.BadFree
  heap_freed_beside (At Auto n k) s = Broken F.BadFree
  heap_freed_beside (At Frame n k) s = Broken F.BadFree
  heap_freed_beside (Code f) s = Broken F.BadFree
  heap_freed_beside (Cond n) s = Broken F.BadFree

  pub slots_freed_beside : (slots : List Slot) (s : Store) → Stores (free_slots slots s) (free_slots slots (with_frames bs s))
  slots_freed_beside [] s = Given s tt
  slots_freed_beside (Register v ∷ slots) s = slots_freed_beside slots s
  slots_freed_beside (Boxed n ∷ slots) s = then_alike Any Any (with_frames bs) (with_frames bs) _ _ _ _ (box_freed_beside n s) λ t i. slots_freed_beside slots t

  -- ---- blocks that are made

  -- the same slots, and the store
  abbrev pub slots_beside : List Slot × Store → List Slot × Store
  slots_beside r = (r.0, with_frames bs r.1)

  pub slots_made_beside : (p : Program) (f : Function) (n : ℕ) (xs : List Variable) (vs : List Value) (s : Store) → Alike Any slots_beside (make_slots p f n xs vs s) (make_slots p f n xs vs (with_frames bs s))
  slots_made_beside p f n [] vs s = Given _ tt
  slots_made_beside p f n (x ∷ xs) vs s = same_then Any slots_beside (needed (size p x.type)) _ _ λ cells. go cells (is_register f n x) (λ t. slots_made_beside p f (suc n) xs (rest_of vs) t)
    where
      go : (cells : ℕ) (b : Bool) → ((t : Store) → Alike Any slots_beside (make_slots p f (suc n) xs (rest_of vs) t) (make_slots p f (suc n) xs (rest_of vs) (with_frames bs t)))
          → Alike Any slots_beside (Gives (make_slot b cells (first_or Unset vs) s) >>= (λ a. make_slots p f (suc n) xs (rest_of vs) a.1 >>= (λ r. Gives (a.0 ∷ r.0, r.1))))
          (Gives (make_slot b cells (first_or Unset vs) (with_frames bs s)) >>= (λ a. make_slots p f (suc n) xs (rest_of vs) a.1 >>= (λ r. Gives (a.0 ∷ r.0, r.1))))
      go cells true rest = then_alike Any Any slots_beside slots_beside _ _ _ _ (rest s) λ r i. Given (Register (first_or Unset vs) ∷ r.0, r.1) tt
      go cells false rest = then_alike Any Any slots_beside slots_beside _ _ _ _ (rest (alloc Auto (first_cells cells (first_or Unset vs)) s)) λ r i. Given (Boxed (next_block Auto s) ∷ r.0, r.1) tt

  heap_allocates : (v : Value) (s : Store) → Alike Any (handed_beside bs) (allocated Heap v s) (allocated Heap v (with_frames bs s))
  heap_allocates (Whole kind n) s = go (int_lt n (pos 0))
    where
      go : (b : Bool) → Alike Any (handed_beside bs) (cond b (Faults F.Length) (Gives (alloc Heap (replicate (unsigned_abs n) Unset) s, At Heap (next_block Heap s) 0)))
          (cond b (Faults F.Length) (Gives (alloc Heap (replicate (unsigned_abs n) Unset) (with_frames bs s), At Heap (next_block Heap s) 0)))
      go true = Broken F.Length
      go false = Given _ tt
  heap_allocates Unset s = Neither
  heap_allocates Null s = Neither
  heap_allocates (At c n k) s = Neither
  heap_allocates (Code f) s = Neither
  heap_allocates (Cond n) s = Neither

  heap_frees : (v : Value) (s : Store) → Alike Any (handed_beside bs) (freed Heap v s) (freed Heap v (with_frames bs s))
  heap_frees v s = then_alike Any Any (with_frames bs) (handed_beside bs) _ _ _ _ (heap_freed_beside v s) λ t i. Given (t, Unset) tt

pub heaps_beside : HeapsBeside
heaps_beside v s bs = record {
  allocated = given_alike Any (handed_beside bs) _ _ (heap_allocates bs v s);
  freed = given_alike Any (handed_beside bs) _ _ (heap_frees bs v s);
}
