-- Which variables of a function are registers.
use Rattle.std.proofs.Common.{◌≡◌, ℕ, not, slice_get, Some, ◌∙◌, ap}
use Rattle.cpc_base.proofs.Truth.{not_of_not, equal_truth}
use Rattle.cpc_tree.specs.Lists.{holds_number}
use Rattle.cpc_tree.specs.Registers.{variables, is_register}
use Rattle.cpc_tree.specs.Syntax.{Variable, Function, Program}
use Rattle.cpc_lift_laws.specs.Boxes.{is_box, is_box_in, has_block}
use Rattle.cpc_lift_laws.proofs.Lift.{boxes_exact}
use Rattle.cpc_convert_routines.specs.Routines.{routine_of, is_plain}
use Rattle.cpc_lifted_laws.specs.Piece.Known.{CpsKnown}

-- those that have no box
pub plain_is : (p : Program) (f : Function) → CpsKnown p f → (k : ℕ) (x : Variable) → slice_get (variables f) k ≡ Some x → is_plain (routine_of p f) k ≡ is_register f k x
plain_is p f known k x e =
    ap not (equal_truth (holds_number (routine_of p f).boxes k) (is_box p f.called k) (boxes_exact p f.called k).0 (boxes_exact p f.called k).1 ∙ (ap (λ o. is_box_in o k) known.found.named ∙ ap (has_block f k) e))
    ∙ not_of_not (is_register f k x)
