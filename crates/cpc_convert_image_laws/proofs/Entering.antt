-- The variables of a call are made beside frames as in the store of the source.
use Rattle.std.proofs.Common.{◌≡◌, ℕ, zero, suc, Bool, true, false, List, [], ◌∷◌, replicate}
use Rattle.std.specs.List.{All}
use Rattle.std.proofs.lemmas.List.Elements.{All-nil, All-cons, All-head, All-tail}
use Rattle.cpc_base.specs.Bytes.{Text}
use Rattle.cpc_tree.specs.Syntax.{Variable, Function, Program}
use Rattle.cpc_tree.specs.Lists.{first_or, rest_of}
use Rattle.cpc_tree.specs.Registers.{is_register}
use Rattle.cpc_store.specs.declared.values.Class.TheVariants.{Auto}
use Rattle.cpc_store.specs.Store.{Value, Unset, Store, Blocks, alloc, next_block}
use Rattle.cpc_meaning.specs.Answer.{Answer, Gives, ◌>>=◌}
use Rattle.cpc_meaning.specs.Eval.{Slot, Register, Boxed}
use Rattle.cpc_meaning.specs.Slots.{first_cells, make_slot, make_slots}
use Rattle.cpc_convert_image_laws.specs.Held.{IsHeld, IsHeldSlot, IsHeldStore, beside}
use Rattle.cpc_convert_image_laws.specs.Relations.{Extends, Meets, BothGive, BothFault, Stuck, Entered, SlotsMade}
use Rattle.cpc_convert_image_laws.proofs.Answers.{needed_then}
use Rattle.cpc_convert_image_laws.proofs.Types.{size_less}
use Rattle.cpc_convert_image_laws.proofs.Stores.{IsHeldCells, cells_none, cells_more, cells_unset, alloc_holds}

module _ (C : Text → Type 0) where
  first_held : (vs : List Value) → All (IsHeld C) vs → IsHeld C (first_or Unset vs)
  first_held [] h = tt
  first_held (v ∷ vs) h = All-head (IsHeld C) v vs h

  rest_held : (vs : List Value) → All (IsHeld C) vs → All (IsHeld C) (rest_of vs)
  rest_held [] h = h
  rest_held (v ∷ vs) h = All-tail (IsHeld C) v vs h

  first_cells_held : (n : ℕ) (v : Value) → IsHeld C v → IsHeldCells C (first_cells n v)
  first_cells_held zero v h = cells_none C
  first_cells_held (suc n) v h = cells_more C v (replicate n Unset) h (cells_unset C n)

  module _ (p q : Program) (types : Extends p q) (f g : Function) (marks : (n : ℕ) (x : Variable) → is_register g n x ≡ is_register f n x) (frames : Blocks) where
    abbrev Both : Answer (List Slot × Store) → Answer (List Slot × Store) → Type 0
    Both a b = Meets (Entered C frames) a b

    -- one more slot
    more : (slot : Slot) → IsHeldSlot C slot → (a b : Answer (List Slot × Store)) → Both a b → Both (a >>= λ r. Gives (slot ∷ r.0, r.1)) (b >>= λ r. Gives (slot ∷ r.0, r.1))
    more slot h _ _ (BothGive _ _ (SlotsMade u slots k i)) = BothGive _ _ (SlotsMade u (slot ∷ slots) k (All-cons (IsHeldSlot C) slot slots h i))
    more slot h _ _ (BothFault fault) = BothFault fault
    more slot h _ _ (Stuck b) = Stuck _

    pub slots_beside : (n : ℕ) (xs : List Variable) (vs : List Value) (s : Store) → IsHeldStore C s → All (IsHeld C) vs → Both (make_slots p f n xs vs s) (make_slots q g n xs vs (beside frames s))
    slots_beside n [] vs s source h = BothGive _ _ (SlotsMade s [] source (All-nil (IsHeldSlot C)))
    slots_beside n (x ∷ xs) vs s source h =
        rw (marks n x)
        (needed_then (Entered C frames) _ _ _ _ (size_less p q types x.type) λ cells.
        go cells (is_register f n x) (λ t on. slots_beside (suc n) xs (rest_of vs) t on (rest_held vs h)))
      where
        go : (cells : ℕ) (b : Bool) → ((t : Store) → IsHeldStore C t → Both (make_slots p f (suc n) xs (rest_of vs) t) (make_slots q g (suc n) xs (rest_of vs) (beside frames t)))
            → Both (Gives (make_slot b cells (first_or Unset vs) s) >>= (λ a. make_slots p f (suc n) xs (rest_of vs) a.1 >>= (λ r. Gives (a.0 ∷ r.0, r.1)))) (Gives (make_slot b cells (first_or Unset vs) (beside frames s)) >>= (λ a. make_slots q g (suc n) xs (rest_of vs) a.1 >>= (λ r. Gives (a.0 ∷ r.0, r.1))))
        go cells true rest = more (Register (first_or Unset vs)) (first_held vs h) _ _ (rest s source)
        go cells false rest =
            let new = first_cells cells (first_or Unset vs) in
            more (Boxed (next_block Auto s)) tt _ _ (rest (alloc Auto new s) (alloc_holds C Auto new s source (first_cells_held cells (first_or Unset vs) (first_held vs h))))
