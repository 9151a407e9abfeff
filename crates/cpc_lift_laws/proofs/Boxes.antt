-- The slots of a call are boxes where they are marked.
use Rattle.std.proofs.Common.{◌≡◌, ◌<◌, ℕ, suc, ◌+◌, Bool, true, false, not, List, [], ◌∷◌, length, Option, Some, None, slice_get, refl, sym, ◌∙◌, ap, subst, arith}
use Rattle.cpc_base.proofs.Lists.{item_within}
use Rattle.cpc_tree.specs.Syntax.{Variable, Function, Program}
use Rattle.cpc_tree.specs.Lists.{first_or, rest_of}
use Rattle.cpc_tree.specs.Typing.{size}
use Rattle.cpc_tree.specs.Registers.{variables, is_register}
use Rattle.cpc_store.specs.Store.{Value, Unset, Store}
use Rattle.cpc_meaning.specs.Answer.{Gives, needed}
use Rattle.cpc_meaning.specs.Eval.{Slot}
use Rattle.cpc_meaning.specs.Slots.{make_slot, make_slots}
use Rattle.cpc_meaning.proofs.Functions.{gives_then}
use Rattle.cpc_lift_laws.specs.Boxes.{is_box_in, has_block, BoxesAreBelow}
use Rattle.cpc_lift_laws.specs.Laws.{ProgramsHaveMarks}
use Rattle.cpc_lift_laws.proofs.Slots.{SlotMeets, SlotsMeet}

slot_made : (keep box register : Bool) (n : ℕ) (v : Value) (s : Store) → box ≡ not register → SlotMeets keep box (make_slot register n v s).0 (make_slot register n v s).0
slot_made keep box true n v s e = (e, λ h. refl)
slot_made keep box false n v s e = (e, refl)

-- the variables from the n-th on
pub slots_made : (p : Program) (f : Function) (n : ℕ) (keep box : ℕ → Bool) (xs : List Variable) → ((k : ℕ) (x : Variable) → slice_get xs k ≡ Some x → box k ≡ not (is_register f (n + k) x))
    → (vs : List Value) (s : Store) (made : List Slot × Store) → make_slots p f n xs vs s ≡ Gives made → SlotsMeet keep box made.0 made.0
slots_made p f n keep box [] h vs s made e = let i : ([], s) ≡ made = cc in subst (λ m. SlotsMeet keep box m.0 m.0) i tt
slots_made p f n keep box (x ∷ xs) h vs s made e =
    let a = gives_then (needed (size p x.type)) _ made e in
    let first = make_slot (is_register f n x) a.0 (first_or Unset vs) s in
    let b = gives_then (make_slots p f (suc n) xs (rest_of vs) first.1) (λ rest. Gives (first.0 ∷ rest.0, rest.1)) made a.2 in
    let i : (first.0 ∷ b.0.0, b.0.1) ≡ made = cc in
    let at_n : n + 0 ≡ n = omega arith in
    let mark : box 0 ≡ not (is_register f n x) = h 0 x refl ∙ ap (λ j. not (is_register f j x)) at_n in
    let marks : (k : ℕ) (y : Variable) → slice_get xs k ≡ Some y → box (suc k) ≡ not (is_register f (suc n + k) y) =
    λ k y g. let next : n + suc k ≡ suc n + k = omega arith in h (suc k) y g ∙ ap (λ j. not (is_register f j y)) next in
    subst (λ m. SlotsMeet keep box m.0 m.0) i
    (slot_made (keep 0) (box 0) (is_register f n x) a.0 (first_or Unset vs) s mark, slots_made p f (suc n) (λ k. keep (suc k)) (λ k. box (suc k)) xs marks (rest_of vs) first.1 b.0 b.1)

-- the marks of a program
pub programs_have_marks : ProgramsHaveMarks
programs_have_marks p = record { marked = λ f e k x g. ap (λ o. is_box_in o k) e ∙ ap (has_block f k) g }

block_below : (f : Function) (k : ℕ) (o : Option Variable) → slice_get (variables f) k ≡ o → has_block f k o ≡ true → k < length (variables f)
block_below f k None e b = absurd (cc)
block_below f k (Some x) e b = item_within (variables f) k x e

pub boxes_are_below : BoxesAreBelow
boxes_are_below p x f e k b = block_below f k (slice_get (variables f) k) refl (sym (ap (λ o. is_box_in o k) e) ∙ b)
