-- A store with other frame blocks: what touches none of them is the same there.
use Rattle.std.proofs.Common.{◌≡◌, ℕ, suc, Bool, true, false, cond, ◌&&◌, List, [], ◌∷◌, length, slice_set, Option, Some, None, is_some, Result, Ok, Err, refl, sym, ◌∙◌, ap}
use Rattle.std.specs.Result.{result_map_both}
use Rattle.cpc_num.specs.declared.kinds.Fault.{Fault}
use Rattle.cpc_num.specs.declared.kinds.Fault.TheVariants as F
use Rattle.cpc_tree.specs.Syntax.{Variable, Function, Program}
use Rattle.cpc_tree.specs.Lists.{first_or, rest_of}
use Rattle.cpc_tree.specs.Typing.{size}
use Rattle.cpc_tree.specs.Registers.{is_register}
use Rattle.cpc_store.specs.declared.values.Class.{Class}
use Rattle.cpc_store.specs.declared.values.Class.TheVariants.{Static, Auto, Heap, Frame}
use Rattle.cpc_store.specs.Store.{Value, Unset, Null, At, Blocks, Store, blocks, with_blocks, cells_of, free, save, save_in, alloc, same_class}
use Rattle.cpc_convert_flat_laws.specs.Blocks.{beside, put, moved}
use Rattle.cpc_meaning.specs.Answer.{Answer, Gives, Faults, NoAnswer, ◌>>=◌, of_result, needed}
use Rattle.cpc_meaning.specs.Eval.{Slot, Register, Boxed}
use Rattle.cpc_meaning.specs.Slots.{make_slot, make_slots, free_slots}

-- ---- the slots of a call

after_slot : (fr : Blocks) (slot : Slot) (a : Answer (List Slot × Store))
    → ((a >>= λ r. Gives (moved fr r)) >>= λ r. Gives (put slot r)) ≡ ((a >>= λ r. Gives (put slot r)) >>= λ r. Gives (moved fr r))
after_slot fr slot (Gives r) = refl
after_slot fr slot (Faults fault) = refl
after_slot fr slot NoAnswer = refl

slot_beside : (fr : Blocks) (b : Bool) (m : ℕ) (v : Value) (s : Store) → make_slot b m v (beside fr s) ≡ ((make_slot b m v s).0, beside fr (make_slot b m v s).1)
slot_beside fr true m v s = refl
slot_beside fr false m v s = refl

-- a call makes the same slots, and the same blocks
pub slots_beside : (fr : Blocks) (p : Program) (f : Function) (n : ℕ) (xs : List Variable) (vs : List Value) (s : Store)
    → make_slots p f n xs vs (beside fr s) ≡ (make_slots p f n xs vs s >>= λ r. Gives (moved fr r))
slots_beside fr p f n [] vs s = refl
slots_beside fr p f n (x ∷ xs) vs s = by_size (size p x.type) (λ m. slots_beside fr p f (suc n) xs (rest_of vs) (make_slot (is_register f n x) m (first_or Unset vs) s).1)
  where
    rest_from : ℕ → Store → Answer (List Slot × Store)
    rest_from m t = make_slots p f (suc n) xs (rest_of vs) (make_slot (is_register f n x) m (first_or Unset vs) t).1

    by_register : (b : Bool) (m : ℕ) → make_slots p f (suc n) xs (rest_of vs) (beside fr (make_slot b m (first_or Unset vs) s).1) ≡ (make_slots p f (suc n) xs (rest_of vs) (make_slot b m (first_or Unset vs) s).1 >>= λ r. Gives (moved fr r))
        → (make_slots p f (suc n) xs (rest_of vs) (make_slot b m (first_or Unset vs) (beside fr s)).1 >>= λ r. Gives (put (make_slot b m (first_or Unset vs) (beside fr s)).0 r))
        ≡ ((make_slots p f (suc n) xs (rest_of vs) (make_slot b m (first_or Unset vs) s).1 >>= λ r. Gives (put (make_slot b m (first_or Unset vs) s).0 r)) >>= λ r. Gives (moved fr r))
    by_register true m e = ap (λ a. a >>= λ r. Gives (put (Register (first_or Unset vs)) r)) e ∙ after_slot fr (Register (first_or Unset vs)) _
    by_register false m e = ap (λ a. a >>= λ r. Gives (put (Boxed (length s.auto)) r)) e ∙ after_slot fr (Boxed (length s.auto)) _

    by_size : (o : Option ℕ) → ((m : ℕ) → make_slots p f (suc n) xs (rest_of vs) (beside fr (make_slot (is_register f n x) m (first_or Unset vs) s).1) ≡ (make_slots p f (suc n) xs (rest_of vs) (make_slot (is_register f n x) m (first_or Unset vs) s).1 >>= λ r. Gives (moved fr r)))
        → (needed o >>= λ m. make_slots p f (suc n) xs (rest_of vs) (make_slot (is_register f n x) m (first_or Unset vs) (beside fr s)).1 >>= λ r. Gives (put (make_slot (is_register f n x) m (first_or Unset vs) (beside fr s)).0 r))
        ≡ ((needed o >>= λ m. make_slots p f (suc n) xs (rest_of vs) (make_slot (is_register f n x) m (first_or Unset vs) s).1 >>= λ r. Gives (put (make_slot (is_register f n x) m (first_or Unset vs) s).0 r)) >>= λ r. Gives (moved fr r))
    by_size None e = refl
    by_size (Some m) e = by_register (is_register f n x) m (e m)

-- a box is freed alike
pub free_beside : (fr : Blocks) (b : ℕ) (s : Store) → of_result (free Auto (At Auto b 0) (beside fr s)) ≡ (of_result (free Auto (At Auto b 0) s) >>= λ t. Gives (beside fr t))
free_beside fr b s = go (is_some (cells_of Auto b s) && true)
  where
    go : (there : Bool) → of_result (cond there (Ok (with_blocks Auto (slice_set s.auto b None) (beside fr s))) (Err F.BadFree)) ≡ (of_result (cond there (Ok (with_blocks Auto (slice_set s.auto b None) s)) (Err F.BadFree)) >>= λ t. Gives (beside fr t))
    go true = refl
    go false = refl

-- the slots of a call are freed alike
pub freed_beside : (fr : Blocks) (xs : List Slot) (s : Store) → free_slots xs (beside fr s) ≡ (free_slots xs s >>= λ t. Gives (beside fr t))
freed_beside fr [] s = refl
freed_beside fr (Register v ∷ xs) s = freed_beside fr xs s
freed_beside fr (Boxed b ∷ xs) s =
    ap (λ a. a >>= λ t. free_slots xs t) (free_beside fr b s) ∙ go (of_result (free Auto (At Auto b 0) s)) (λ t. freed_beside fr xs t)
  where
    go : (a : Answer Store) → ((t : Store) → free_slots xs (beside fr t) ≡ (free_slots xs t >>= λ u. Gives (beside fr u)))
        → ((a >>= λ t. Gives (beside fr t)) >>= λ t. free_slots xs t) ≡ ((a >>= λ t. free_slots xs t) >>= λ u. Gives (beside fr u))
    go (Gives t) e = e t
    go (Faults fault) e = refl
    go NoAnswer e = refl

-- ---- acts on other classes keep the frame blocks

pub alloc_keeps_frames : (c : Class) (cells : List Value) (s : Store) → same_class c Frame ≡ false → (alloc c cells s).frames ≡ s.frames
alloc_keeps_frames Static cells s e = refl
alloc_keeps_frames Auto cells s e = refl
alloc_keeps_frames Heap cells s e = refl
alloc_keeps_frames Frame cells s e = absurd (cc)

with_keeps_frames : (c : Class) (bs : Blocks) (s : Store) → same_class c Frame ≡ false → (with_blocks c bs s).frames ≡ s.frames
with_keeps_frames Static bs s e = refl
with_keeps_frames Auto bs s e = refl
with_keeps_frames Heap bs s e = refl
with_keeps_frames Frame bs s e = absurd (cc)

pub save_keeps_frames : (c : Class) (n k : ℕ) (v : Value) (s t : Store) → same_class c Frame ≡ false → save c n k v s ≡ Ok t → t.frames ≡ s.frames
save_keeps_frames c n k v s t e h = go (save_in (cells_of c n s) (blocks c s) n k v) h
  where
    go : (r : Result Blocks Fault) → result_map_both (λ bs. with_blocks c bs s) (λ fault. fault) r ≡ Ok t → t.frames ≡ s.frames
    go (Err fault) g = absurd (cc)
    go (Ok bs) g = let f : with_blocks c bs s ≡ t = cc in ap (λ u. u.frames) (sym f) ∙ with_keeps_frames c bs s e

pub free_keeps_frames : (c : Class) (v : Value) (s t : Store) → same_class c Frame ≡ false → free c v s ≡ Ok t → t.frames ≡ s.frames
free_keeps_frames c Unset s t e h = absurd (cc)
free_keeps_frames c (At d n k) s t e h = go _ h
  where
    go : (b : Bool) → cond b (Ok (with_blocks c (slice_set (blocks c s) n None) s)) (Err F.BadFree) ≡ Ok t → t.frames ≡ s.frames
    go true g = let f : with_blocks c (slice_set (blocks c s) n None) s ≡ t = cc in ap (λ u. u.frames) (sym f) ∙ with_keeps_frames c _ s e
    go false g = absurd (cc)
free_keeps_frames c Null s t e h = let f : s ≡ t = cc in ap (λ u. u.frames) (sym f)
free_keeps_frames c _ s t e h = absurd (cc)
