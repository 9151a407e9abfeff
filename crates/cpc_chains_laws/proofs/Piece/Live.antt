-- The boxes of the frame that runs are live.
use Rattle.std.proofs.Common.{◌≡◌, ℕ, ◌≤◌, Bool, true, false, List, [], ◌∷◌, ◌++◌, is_some, Option, Some, refl, subst, arith}
use Rattle.std.proofs.lemmas.List.Elements.{All-nil, All-cons}
use Rattle.cpc_store.specs.Store.{Value, Blocks, Store}
use Rattle.cpc_meaning.specs.Eval.{Slot, Register, Boxed}
use Rattle.cpc_meaning.specs.Plain.{Frame as CallFrame}
use Rattle.cpc_convert_image_laws.specs.Held.{IsLiveSlot, BoxesLive}
use Rattle.cpc_convert_flat_laws.specs.Blocks.{count, lives, block, one_if}
use Rattle.cpc_convert_flat_laws.proofs.Blocks.{count_append, same_number}
use Rattle.cpc_lifted_laws.specs.Related.Boxes.{slots_boxes, frames_boxes, running_boxes, thread_boxes, OwnsBoxes}
use Rattle.cpc_lifted_laws.specs.Related.Sums.{all_joined}
use Rattle.cpc_forms.specs.Split.{Position}
use Rattle.cpc_chains_laws.proofs.Related.Relation.{Source}

lives_some : (bs : Blocks) (b : ℕ) → 1 ≤ lives bs b → is_some (block bs b) ≡ true
lives_some bs b h = go (is_some (block bs b)) h
  where
    go : (c : Bool) → 1 ≤ one_if c → c ≡ true
    go true h = refl
    go false h = absurd (omega (arith, h))

slots_live : (s : Store) (slots : List Slot) → ((b : ℕ) → count b (slots_boxes slots) ≤ lives s.auto b) → BoxesLive s slots
slots_live s [] h = All-nil (IsLiveSlot s)
slots_live s (Register v ∷ slots) h = All-cons (IsLiveSlot s) (Register v) slots tt (slots_live s slots h)
slots_live s (Boxed n ∷ slots) h =
    All-cons (IsLiveSlot s) (Boxed n) slots (lives_some s.auto n (let self = same_number n in let all = h n in omega (arith, self, all)))
    (slots_live s slots (λ b. let all = h b in omega (arith, all)))

-- where no box of a state is doubled, and all are live
pub frame_live : (x : Source) (frame : CallFrame Position) (below : List (CallFrame Position)) (o : Option Value) → x.running ≡ Some (record { frames = frame ∷ below; arriving = o }) → OwnsBoxes x → BoxesLive x.store frame.slots
frame_live x frame below o is owns =
    slots_live x.store frame.slots
    (λ b.
    let each = subst (λ k. count b (running_boxes k ++ all_joined thread_boxes x.agenda) ≤ lives x.store.auto b) is (owns.each b) in
    let first = count_append b (frames_boxes (frame ∷ below)) (all_joined thread_boxes x.agenda) in
    let second = count_append b (slots_boxes frame.slots) (frames_boxes below) in
    omega (arith, each, first, second))
