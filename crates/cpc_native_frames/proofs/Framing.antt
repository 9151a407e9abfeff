-- The frame of a call, by its slots and the beginning of the body.
use Rattle.std.proofs.Common.{◌≡◌, List, Some, refl, ap, sym, ◌∙◌}
use Rattle.cpc_tree.specs.Syntax.{Function, Program}
use Rattle.cpc_tree.specs.Typing.{function_named}
use Rattle.cpc_tree.specs.Points.{Point, begin}
use Rattle.cpc_store.specs.Store.{Value, Store}
use Rattle.cpc_meaning.specs.Answer.{Answer, Gives, Faults, NoAnswer, ◌>>=◌}
use Rattle.cpc_meaning.specs.Eval.{Slot}
use Rattle.cpc_meaning.specs.Slots.{call_slots}
use Rattle.cpc_meaning.specs.Plain.{Frame, make_frame}
use Rattle.cpc_meaning.specs.Trees.{trees, first_point}

module _ (p : Program) (f : Function) (s t : Store) (slots : List Slot) (point : Point) where
  frame_with : Point → List Slot → Frame Point
  frame_with q l = record { function = f.called; point = q; slots = l }

  by_slots : (r : Answer (List Slot × Store)) (a : Frame Point × Store) → ((q : List Slot × Store) → r ≡ Gives q → (slots, t) ≡ q) → point ≡ first_point (function_named p f.called)
      → (r >>= (λ q. Gives (frame_with (first_point (function_named p f.called)) q.0, q.1))) ≡ Gives a → (frame_with point slots, t) ≡ a
  unfolding frame_with
  by_slots (Gives q) a made at e =
      let is : (slots, t) ≡ q = made q refl in
      ap (λ (x : Point). (frame_with x slots, t)) at ∙ (ap (λ (x : List Slot × Store). (frame_with (first_point (function_named p f.called)) x.0, x.1)) is ∙ given a _ e)
    where
      given : (a b : Frame Point × Store) → Gives b ≡ Gives a → b ≡ a
      given a b e = cc
  by_slots (Faults fault) a made at e = absurd cc
  by_slots NoAnswer a made at e = absurd cc

  pub entered : (vs : List Value) (a : Frame Point × Store) → function_named p f.called ≡ Some f → point ≡ begin f.body → ((q : List Slot × Store) → call_slots p f vs s ≡ Gives q → (slots, t) ≡ q)
      → make_frame (trees p) f vs s ≡ Gives a → (let frame : Frame Point = record { function = f.called; point = point; slots = slots } in (frame, t)) ≡ a
  unfolding frame_with
  entered vs a own at made e = by_slots (call_slots p f vs s) a made (at ∙ sym (ap first_point own)) e
