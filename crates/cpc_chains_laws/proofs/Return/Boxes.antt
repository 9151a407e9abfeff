-- The boxes of a frame, as the piece gives them back where the function is left.
use Rattle.std.proofs.Common.{◌≡◌, ℕ, suc, ◌+◌, Bool, true, false, not, List, [], ◌∷◌, map, slice_get, Some, refl, sym, ◌∙◌, ap, subst, arith}
use Rattle.cpc_base.proofs.Truth.{false_unless_true, not_fails}
use Rattle.cpc_tree.specs.Lists.{holds_number}
use Rattle.cpc_tree.specs.Syntax.{Function, Program}
use Rattle.cpc_store.specs.declared.values.Class.TheVariants.{Auto}
use Rattle.cpc_store.specs.Store.{Value, At as Pointer}
use Rattle.cpc_meaning.specs.Eval.{Slot, Register, Boxed}
use Rattle.cpc_convert_image_laws.specs.Locals.{Stands, AsValue, AsBlock}
use Rattle.cpc_forms.specs.Flow.{Place}
use Rattle.cpc_forms.specs.Split.{InGraph}
use Rattle.cpc_lift_laws.specs.Used.{is_left}
use Rattle.cpc_lift_laws.proofs.Lift.{boxes_exact}
use Rattle.cpc_convert_flat_laws.specs.Boxes.{Unboxing}
use Rattle.cpc_convert_flat_laws.specs.Locals.{Holds}
use Rattle.cpc_chains_event.specs.CallLaws.{BoxesStand}
use Rattle.cpc_chains_event.specs.LocalLaws.{piece_locals}
use Rattle.cpc_convert_routines.specs.Named.{IsOwner}
use Rattle.cpc_convert_routines.specs.Routines.{Routine, routine_of, closure_of, is_plain, local_of}
use Rattle.cpc_chains_event.proofs.Calls.{boxes_returned}
use Rattle.cpc_lifted_laws.proofs.Accepted.Lifted.{programs_are_closed}
use Rattle.cpc_lifted_laws.specs.Piece.Known.{CpsKnown}
use Rattle.cpc_chains_laws.specs.Piece.Stood.{NodeAt, LocalsStand}
use Rattle.cpc_chains_laws.proofs.Piece.Frames.{Target, scope}
use Rattle.cpc_chains_laws.proofs.Piece.Scopes.{meant}
use Rattle.cpc_chains_laws.proofs.Piece.Uses.{stood_is}
use Rattle.cpc_chains_laws.proofs.Piece.Ways.{kept_is, stands_there}
use Rattle.cpc_chains_laws.specs.Return.Kept.{KeepsBoxes}

no_plain : (b : Bool) → not b ≡ true → b ≡ true → ⊥
no_plain true e f = absurd (cc)
no_plain false e f = absurd (cc)

module _ (p : Program) (f : Function) (known : CpsKnown p f) (l : Place) (owner : IsOwner (routine_of p f) l) (n : ℕ) (at : NodeAt p f l n) (slots slots' : List Slot) (lower : Value) (stands : LocalsStand p (routine_of p f) l slots slots' lower) where
  abbrev r : Routine
  r = routine_of p f

  -- where the function is left its owner keeps all boxes
  left_kept : is_left at.node.stood ≡ true → (k : ℕ) → holds_number r.boxes k ≡ true → holds_number (closure_of r l) k ≡ true
  left_kept left k h =
      sym (kept_is p f known l at.keeps n k)
      ∙ ((programs_are_closed p).inside f.called).left (InGraph l n) k (stands_there p f known l n at) (ap is_left (stood_is p f known l owner n at slots slots' lower stands) ∙ left) ((boxes_exact p f.called k).0 h)

  -- what the local of a box holds
  pub record Pointed (k : ℕ) : Type 0 where
    pub block : ℕ
    pub boxed : slice_get slots k ≡ Some (Boxed block)
    pub holds : Holds (Target p f known l owner) (scope p f known l owner) slots' (local_of r k).called (local_of r k).type (Pointer Auto block 0)

  pointed : (k : ℕ) → holds_number (closure_of r l) k ≡ true → holds_number r.boxes k ≡ true → Pointed k
  pointed k kept box = let there = (meant p f known l owner).kept k kept in by there.0 there.1 (is_plain r k) refl (stands.kept k there.0 kept there.1)
    where
      by : (i : ℕ) → slice_get (piece_locals p r l) i ≡ Some (local_of r k) → (m : Bool) → is_plain r k ≡ m → Stands slots slots' m k i → Pointed k
      by i there m e (AsValue _ _ v a b) = absurd (no_plain (holds_number r.boxes k) e box)
      by i there m e (AsBlock _ _ block a b) = record { block = block; boxed = a; holds = record { slot = i; is_local = (meant p f known l owner).meant (Target p f known l owner) i (local_of r k) there; is_slot = b } }

  -- a slot that is a box is that of a box of the function
  boxed_is : (k b : ℕ) → holds_number (closure_of r l) k ≡ true → slice_get slots k ≡ Some (Boxed b) → holds_number r.boxes k ≡ true
  boxed_is k b kept e = let there = (meant p f known l owner).kept k kept in by there.0 (is_plain r k) refl (stands.kept k there.0 kept there.1)
    where
      by : (i : ℕ) (m : Bool) → is_plain r k ≡ m → Stands slots slots' m k i → holds_number r.boxes k ≡ true
      by i m i' (AsValue _ _ v a c) = absurd (let z : Some (Boxed b) ≡ Some (Register v) = sym e ∙ a in cc)
      by i m i' (AsBlock _ _ block a c) = not_fails (holds_number r.boxes k) i'

  module _ (boxes : KeepsBoxes p f l slots) (left : is_left at.node.stood ≡ true) where
    -- the boxes from a slot on
    stand_from : (k : ℕ) (xs : List Slot) → ((i : ℕ) → slice_get xs i ≡ slice_get slots (k + i)) → BoxesStand (Target p f known l owner) (scope p f known l owner) slots' r k xs
    stand_from k [] same = tt
    stand_from k (Register v ∷ xs) same = (
      false_unless_true (holds_number r.boxes k)
          (λ box. let z : Some (Register v) ≡ Some (Boxed (pointed k (left_kept left k box) box).block) = same 0 ∙ (ap (slice_get slots) (let y : k + 0 ≡ k = omega arith in y) ∙ (pointed k (left_kept left k box) box).boxed) in absurd (cc)),
      stand_from (suc k) xs (λ i. same (suc i) ∙ ap (slice_get slots) (let y : k + suc i ≡ suc k + i = omega arith in y)),
    )
    stand_from k (Boxed b ∷ xs) same =
        let here : slice_get slots k ≡ Some (Boxed b) = sym (ap (slice_get slots) (let y : k + 0 ≡ k = omega arith in y)) ∙ sym (same 0) in
        let kept = boxes.kept k b here in
        let box = boxed_is k b kept here in
        let its = pointed k kept box in
        let z : Some (Boxed its.block) ≡ Some (Boxed b) = sym its.boxed ∙ here in
        let is : its.block ≡ b = cc in (
          box,
          subst (λ c. Holds (Target p f known l owner) (scope p f known l owner) slots' (local_of r k).called (local_of r k).type (Pointer Auto c 0)) is its.holds,
          stand_from (suc k) xs (λ i. same (suc i) ∙ ap (slice_get slots) (let y : k + suc i ≡ suc k + i = omega arith in y)),
        )

    -- all of them, in the order in which the piece gives them back
    pub unboxing : Unboxing (Target p f known l owner) (scope p f known l owner) slots' slots (map (λ k. (local_of r k).called) r.boxes)
    unboxing =
        boxes_returned p f known.names known.found.cps (Target p f known l owner) (scope p f known l owner) slots' slots boxes.number
        (stand_from 0 slots (λ i. ap (slice_get slots) (let y : i ≡ 0 + i = omega arith in y)))
