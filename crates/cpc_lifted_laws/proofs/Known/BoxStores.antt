-- How many boxes slots and frames have, and how acts on stores and variables keep them live.
use Rattle.std.proofs.Common.{◌≡◌, ℕ, zero, suc, ◌+◌, ◌≤◌, ◌&&◌, ◌==◌, Bool, true, false, cond, List, [], ◌∷◌, ◌++◌, length, Option, Some, None, is_some, slice_set, Result, Ok, Err, refl, sym, ap, arith}
use Rattle.std.specs.Result.{result_map_both}
use Rattle.cpc_num.specs.declared.kinds.Fault.{Fault}
use Rattle.cpc_num.specs.declared.kinds.Fault.TheVariants as F
use Rattle.cpc_store.specs.declared.values.Class.{Class}
use Rattle.cpc_store.specs.declared.values.Class.TheVariants.{Static, Auto, Heap, Frame}
use Rattle.cpc_store.specs.Store.{Value, Unset, At, Blocks, Store, cells_of, next_block, alloc, free, save, save_in, save_cell, with_blocks, blocks}
use Rattle.cpc_tree.specs.Lists.{first_or, rest_of}
use Rattle.cpc_tree.specs.Syntax.{Variable, Function, Program}
use Rattle.cpc_tree.specs.Registers.{is_register}
use Rattle.cpc_tree.specs.Typing.{size}
use Rattle.cpc_meaning.specs.Answer.{Answer, Gives, Faults, NoAnswer, ◌>>=◌, of_result, needed}
use Rattle.cpc_meaning.specs.Eval.{Slot, Register, Boxed}
use Rattle.cpc_meaning.specs.Plain.{Frame as CallFrame}
use Rattle.cpc_meaning.specs.Slots.{make_slot, make_slots, free_slots, first_cells}
use Rattle.cpc_meaning_laws.proofs.Pointer.Blocks.{Only, only_then, any_then}
use Rattle.cpc_lift_laws.specs.Lifted.{tidy_slot, tidy_slots}
use Rattle.cpc_convert_flat_laws.specs.Blocks.{same, block, lives, one_if, count}
use Rattle.cpc_convert_flat_laws.proofs.Blocks.{count_append}
use Rattle.cpc_lifted_laws.specs.Related.Boxes.{slots_boxes, frames_boxes}

-- ---- live blocks

pub none_lives : (b : ℕ) → lives [] b ≡ 0
none_lives zero = refl
none_lives (suc b) = refl

lives_made : (bs : Blocks) (cells : List Value) (b : ℕ) → lives (bs ++ Some cells ∷ []) b ≡ lives bs b + same b (length bs)
lives_made [] cells zero = refl
lives_made [] cells (suc b) = let e = none_lives b in let f : lives [] (suc b) ≡ 0 = none_lives (suc b) in omega (arith, e, f)
lives_made (x ∷ bs) cells zero = omega arith
lives_made (x ∷ bs) cells (suc b) = lives_made bs cells b

lives_freed : (bs : Blocks) (n : ℕ) (cells : List Value) (b : ℕ) → block bs n ≡ Some cells → lives (slice_set bs n None) b + same b n ≡ lives bs b
lives_freed [] n cells b e = absurd (cc)
lives_freed (x ∷ bs) zero cells zero e = sym (ap (λ (o : Option (List Value)). one_if (is_some o)) e)
lives_freed (x ∷ bs) zero cells (suc b) e = omega arith
lives_freed (x ∷ bs) (suc n) cells zero e = omega arith
lives_freed (x ∷ bs) (suc n) cells (suc b) e = lives_freed bs n cells b e

lives_written : (bs : Blocks) (n : ℕ) (old new : List Value) (b : ℕ) → block bs n ≡ Some old → lives (slice_set bs n (Some new)) b ≡ lives bs b
lives_written [] n old new b e = absurd (cc)
lives_written (x ∷ bs) zero old new zero e = sym (ap (λ (o : Option (List Value)). one_if (is_some o)) e)
lives_written (x ∷ bs) zero old new (suc b) e = refl
lives_written (x ∷ bs) (suc n) old new zero e = refl
lives_written (x ∷ bs) (suc n) old new (suc b) e = lives_written bs n old new b e

module _ (b : ℕ) where
  -- whether block b is live
  abbrev pub live_in : Store → ℕ
  live_in s = lives s.auto b

  -- how often it is the box of one of these variables, and of those of frames
  abbrev pub held : List Slot → ℕ
  held [] = 0
  held (Register v ∷ slots) = held slots
  held (Boxed n ∷ slots) = same b n + held slots

  abbrev pub frames_held : {P : Type 0} → List (CallFrame P) → ℕ
  frames_held [] = 0
  frames_held (frame ∷ frames) = held frame.slots + frames_held frames

  slots_count : (slots : List Slot) → count b (slots_boxes slots) ≡ held slots
  slots_count [] = refl
  slots_count (Register v ∷ slots) = slots_count slots
  slots_count (Boxed n ∷ slots) = ap (λ m. same b n + m) (slots_count slots)

  pub frames_count : {P : Type 0} (frames : List (CallFrame P)) → count b (frames_boxes frames) ≡ frames_held frames
  frames_count [] = refl
  frames_count (frame ∷ frames) =
      let e = slots_count frame.slots in
      let f = frames_count frames in
      let g = count_append b (slots_boxes frame.slots) (frames_boxes frames) in
      omega (arith, e, f, g)

  -- ---- variables

  pub held_set : (slots : List Slot) (k : ℕ) (v : Value) → held (slice_set slots k (Register v)) ≤ held slots
  held_set [] k v = omega arith
  held_set (Register u ∷ slots) zero v = omega arith
  held_set (Boxed n ∷ slots) zero v = omega arith
  held_set (Register u ∷ slots) (suc k) v = held_set slots k v
  held_set (Boxed n ∷ slots) (suc k) v = let h = held_set slots k v in omega (arith, h)

  pub held_tidied : (keep : ℕ → Bool) (slots : List Slot) → held (tidy_slots keep slots) ≤ held slots
  held_tidied keep [] = omega arith
  held_tidied keep (slot ∷ slots) = go (keep 0) slot (held_tidied (λ k. keep (suc k)) slots)
    where
      go : (t : Bool) (slot : Slot) → held (tidy_slots (λ k. keep (suc k)) slots) ≤ held slots → held (tidy_slot t slot ∷ tidy_slots (λ k. keep (suc k)) slots) ≤ held (slot ∷ slots)
      go true (Register v) h = h
      go true (Boxed n) h = omega (arith, h)
      go false (Register v) h = h
      go false (Boxed n) h = omega (arith, h)

  -- ---- stores

  -- a store with the same boxes
  abbrev pub Alike : Store → Store → Type 0
  Alike s t = live_in t ≡ live_in s

  pub saves : (c : Class) (n k : ℕ) (v : Value) (s : Store) → Only (Alike s) (of_result (save c n k v s))
  saves Static n k v s = go (save_in (cells_of Static n s) (blocks Static s) n k v)
    where
      go : (r : Result Blocks Fault) → Only (Alike s) (of_result (result_map_both (λ bs. with_blocks Static bs s) (λ fault. fault) r))
      go (Ok bs) = refl
      go (Err fault) = tt
  saves Heap n k v s = go (save_in (cells_of Heap n s) (blocks Heap s) n k v)
    where
      go : (r : Result Blocks Fault) → Only (Alike s) (of_result (result_map_both (λ bs. with_blocks Heap bs s) (λ fault. fault) r))
      go (Ok bs) = refl
      go (Err fault) = tt
  saves Frame n k v s = go (save_in (cells_of Frame n s) (blocks Frame s) n k v)
    where
      go : (r : Result Blocks Fault) → Only (Alike s) (of_result (result_map_both (λ bs. with_blocks Frame bs s) (λ fault. fault) r))
      go (Ok bs) = refl
      go (Err fault) = tt
  saves Auto n k v s = there (cells_of Auto n s) refl
    where
      there : (o : Option (List Value)) → cells_of Auto n s ≡ o → Only (Alike s) (of_result (result_map_both (λ bs. with_blocks Auto bs s) (λ fault. fault) (save_in o (blocks Auto s) n k v)))
      there None e = tt
      there (Some cells) e = go (save_cell cells k v)
        where
          go : (r : Result (List Value) Fault) → Only (Alike s) (of_result (result_map_both (λ bs. with_blocks Auto bs s) (λ fault. fault) (result_map_both (λ new. slice_set s.auto n (Some new)) (λ fault. fault) r)))
          go (Ok new) = lives_written s.auto n cells new b e
          go (Err fault) = tt

  -- a box is freed
  frees : (n : ℕ) (s : Store) → Only (λ (t : Store). live_in t + same b n ≡ live_in s) (of_result (free Auto (At Auto n 0) s))
  frees n s = there (cells_of Auto n s) refl
    where
      there : (o : Option (List Value)) → cells_of Auto n s ≡ o → Only (λ (t : Store). live_in t + same b n ≡ live_in s) (of_result (cond (true && is_some o && (0 == 0)) (Ok (with_blocks Auto (slice_set s.auto n None) s)) (Err F.BadFree)))
      there None e = tt
      there (Some cells) e = lives_freed s.auto n cells b e

  -- the boxes of variables are freed
  pub slots_freed : (slots : List Slot) (s : Store) → Only (λ (t : Store). live_in t + held slots ≡ live_in s) (free_slots slots s)
  slots_freed [] s = omega arith
  slots_freed (Register v ∷ slots) s = slots_freed slots s
  slots_freed (Boxed n ∷ slots) s =
      only_then (λ (t : Store). live_in t + same b n ≡ live_in s) (λ (t : Store). live_in t + held (Boxed n ∷ slots) ≡ live_in s) (of_result (free Auto (At Auto n 0) s)) _ (frees n s) λ t e.
      only_as_more t e (free_slots slots t) (slots_freed slots t)
    where
      only_as_more : (t : Store) → live_in t + same b n ≡ live_in s → (a : Answer Store) → Only (λ (u : Store). live_in u + held slots ≡ live_in t) a → Only (λ (u : Store). live_in u + held (Boxed n ∷ slots) ≡ live_in s) a
      only_as_more t e (Gives u) f = omega (arith, e, f)
      only_as_more t e (Faults fault) f = tt
      only_as_more t e NoAnswer f = tt

  -- the boxes of variables are made
  abbrev pub Made : Store → List Slot × Store → Type 0
  Made s r = held r.0 + live_in s ≡ live_in r.1

  pub slots_made : (p : Program) (f : Function) (n : ℕ) (xs : List Variable) (vs : List Value) (s : Store) → Only (Made s) (make_slots p f n xs vs s)
  slots_made p f n [] vs s = omega arith
  slots_made p f n (x ∷ xs) vs s = any_then (Made s) (needed (size p x.type)) _ λ cells. go cells (is_register f n x) (λ t. slots_made p f (suc n) xs (rest_of vs) t)
    where
      Rest : Type 0
      Rest = (t : Store) → Only (Made t) (make_slots p f (suc n) xs (rest_of vs) t)

      more : (slot : Slot) (t : Store) → held (slot ∷ []) + live_in s ≡ live_in t → (a : Answer (List Slot × Store)) → Only (Made t) a → Only (Made s) (a >>= λ r. Gives (slot ∷ r.0, r.1))
      more (Register v) t e (Gives r) h = omega (arith, e, h)
      more (Boxed m) t e (Gives r) h = omega (arith, e, h)
      more slot t e (Faults fault) h = tt
      more slot t e NoAnswer h = tt

      go : (cells : ℕ) (r : Bool) → Rest → Only (Made s) (Gives (make_slot r cells (first_or Unset vs) s) >>= λ a. make_slots p f (suc n) xs (rest_of vs) a.1 >>= λ r. Gives (a.0 ∷ r.0, r.1))
      go cells true rest = more (Register (first_or Unset vs)) s (omega arith) _ (rest s)
      go cells false rest =
          let new : List Value = first_cells cells (first_or Unset vs) in
          let e = lives_made s.auto new b in
          more (Boxed (next_block Auto s)) (alloc Auto new s) (omega (arith, e)) _ (rest (alloc Auto new s))
