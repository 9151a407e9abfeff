-- A native function is entered in the event program with the variables that it has in the program.
use Rattle.std.proofs.Common.{◌≡◌, List, refl, ◌∙◌, ap, subst}
use Rattle.std.specs.List.{All}
use Rattle.cpc_base.specs.Bytes.{Text}
use Rattle.cpc_store.specs.Store.{Value, Blocks, Store}
use Rattle.cpc_tree.specs.Registers.{variables}
use Rattle.cpc_tree.specs.Syntax.{Function, Program}
use Rattle.cpc_meaning.specs.Answer.{Gives}
use Rattle.cpc_meaning.specs.Eval.{Slot}
use Rattle.cpc_meaning.specs.Slots.{make_slots, call_slots}
use Rattle.cpc_meaning.specs.Trees.{trees}
use Rattle.cpc_forms.specs.Split.{split_form}
use Rattle.cpc_convert_image_laws.specs.Held.{IsHeld, IsHeldSlot, IsHeldStore, beside}
use Rattle.cpc_convert_image_laws.specs.Relations.{Common, Meets, Entered, SlotsMade}
use Rattle.cpc_convert_image_laws.specs.Stacks.{EntersAlike}
use Rattle.cpc_convert_image_laws.proofs.Answers.{meets_gives}
use Rattle.cpc_convert_image_laws.proofs.Entering.{slots_beside}
use Rattle.cpc_chains_event.specs.Converted.{converted}
use Rattle.cpc_lifted_laws.specs.Accepted.Known.{Stays}
use Rattle.cpc_chains_laws.specs.Related.Running.{SamePoint}
use Rattle.cpc_lifted_laws.specs.Native.Instance.{StaysAs, cut_of}

-- the slots are the same, and so is the store beside the frames
same_entered : (C : Text → Type 0) (bs : Blocks) (a b : List Slot × Store) → Entered C bs a b → (b ≡ (a.0, beside bs a.1)) × All (IsHeldSlot C) a.0
same_entered C bs _ _ (SlotsMade t slots k h) = (refl, h)

module _ (p : Program) (common : Common (Stays p) (StaysAs p) p (converted p)) (g g' : Function) (enters : EntersAlike (SamePoint (cut_of p)) (split_form p) (trees (converted p)) g g') (bs : Blocks) where
  slots_meet : (vs : List Value) (s : Store) → IsHeldStore (Stays p) s → All (IsHeld (Stays p)) vs → Meets (Entered (Stays p) bs) (call_slots p g vs s) (call_slots (converted p) g' vs (beside bs s))
  slots_meet vs s source held =
      subst (λ xs. Meets (Entered (Stays p) bs) (call_slots p g vs s) (make_slots (converted p) g' 0 xs vs (beside bs s))) enters.variables
      (slots_beside (Stays p) p (converted p) common.types g g' enters.marks bs 0 (variables g) vs s source held)

  pub entered_there : (vs : List Value) (s t : Store) (entered : List Slot) → IsHeldStore (Stays p) s → All (IsHeld (Stays p)) vs → call_slots p g vs s ≡ Gives (entered, t)
      → (call_slots (converted p) g' vs (beside bs s) ≡ Gives (entered, beside bs t)) × All (IsHeldSlot (Stays p)) entered
  entered_there vs s t entered source held e =
      let m = meets_gives (Entered (Stays p) bs) (call_slots p g vs s) (call_slots (converted p) g' vs (beside bs s)) (entered, t) (slots_meet vs s source held) e in
      let same = same_entered (Stays p) bs (entered, t) m.0 m.2 in
      (m.1 ∙ ap (λ a. Gives a) same.0, same.1)
