-- The boxes of a frame that has forgotten what it need not keep.
use Rattle.std.proofs.Common.{◌≡◌, ℕ, Bool, true, false, length, slice_get, Some, refl, sym, ◌∙◌, ap}
use Rattle.cpc_tree.specs.Lists.{holds_number}
use Rattle.cpc_tree.specs.Registers.{variables}
use Rattle.cpc_tree.specs.Syntax.{Function}
use Rattle.cpc_store.specs.Store.{Unset}
use Rattle.cpc_meaning.specs.Eval.{Register, Boxed}
use Rattle.cpc_convert_routines.specs.Routines.{routine_of, closure_of}
use Rattle.cpc_chains_laws.proofs.Piece.Ways.{kept_is}
use Rattle.cpc_chains_laws.specs.Return.Laws.{BoxesAreKept, FineBoxesAreKept}

pub boxes_are_kept : BoxesAreKept
boxes_are_kept p f known l n at slots number tidy = record {
  number = number;
  kept = λ k b e. go k b e (holds_number (closure_of (routine_of p f) l) k) refl;
}
  where
    go : (k b : ℕ) → slice_get slots k ≡ Some (Boxed b) → (c : Bool) → holds_number (closure_of (routine_of p f) l) k ≡ c → c ≡ true
    go k b e true i = refl
    go k b e false i = absurd (let z : Boxed b ≡ Register Unset = tidy k (Boxed b) e (kept_is p f known l at.keeps n k ∙ i) in cc)

pub fine_boxes_are_kept : FineBoxesAreKept
fine_boxes_are_kept p f known l n at slots fine =
    let same : fine.function ≡ f = let e : Some fine.function ≡ Some f = sym fine.named ∙ known.found.named in cc in
    boxes_are_kept p f known l n at slots (fine.number ∙ ap (λ (g : Function). length (variables g)) same) fine.cleared
