-- What a piece knows of a frame is not touched where the frame forgets what it need not keep.
use Rattle.std.proofs.Common.{◌≡◌, ℕ, Bool, true, false, List, cond, refl, sym, ◌∙◌, ap}
use Rattle.cpc_store.specs.Store.{Value}
use Rattle.cpc_tree.specs.Lists.{holds_number}
use Rattle.cpc_tree.specs.Syntax.{Function, Program}
use Rattle.cpc_meaning.specs.Eval.{Slot}
use Rattle.cpc_forms.specs.Flow.{Place}
use Rattle.cpc_forms.specs.Split.{InGraph, split_form}
use Rattle.cpc_lift_laws.specs.Lift.{closure_in}
use Rattle.cpc_lift_laws.specs.Lifted.{tidy_slots}
use Rattle.cpc_convert_image_laws.specs.Locals.{Stands, AsValue, AsBlock}
use Rattle.cpc_convert_routines.specs.Routines.{routine_of, closure_of, keeper, owner_number}
use Rattle.cpc_convert_routines.specs.ClosureLaws.{lifting}
use Rattle.cpc_convert_routines.specs.Named.{IsNamed, IsCps}
use Rattle.cpc_convert_routines.proofs.Closures.{closures_lifted}
use Rattle.cpc_chains_laws.proofs.Related.Tidy.{slot_kept}
use Rattle.cpc_lifted_laws.specs.Accepted.Lifted.{kept_of}
use Rattle.cpc_chains_laws.specs.Piece.Stood.{LocalsStand, AtRow, AtCall}
use Rattle.cpc_chains_laws.specs.Piece.Laws.{StoodIsTidied}

-- what an owner keeps is kept
pub closure_kept : (p : Program) → IsNamed p → (g : Function) → IsCps p g → (l : Place) → keeper (routine_of p g).split l ≡ l → (n k : ℕ) → holds_number (closure_of (routine_of p g) l) k ≡ true → kept_of p g.called (InGraph l n) k ≡ true
closure_kept p ok g c l own n k h =
    or_kept ((lifting p).whole g.called) (holds_number (closure_in (split_form p) (lifting p) g.called (owner_number l)) k)
    (ap (λ m. holds_number (closure_in (split_form p) (lifting p) g.called (owner_number m)) k) (sym own) ∙ (ap (λ ks. holds_number ks k) (sym (closures_lifted p ok g c l)) ∙ h))
  where
    or_kept : (b c : Bool) → c ≡ true → cond b true c ≡ true
    or_kept true c e = refl
    or_kept false c e = e

stands_tidied : (keep : ℕ → Bool) (slots slots' : List Slot) (mark : Bool) (k i : ℕ) → keep k ≡ true → Stands slots slots' mark k i → Stands (tidy_slots keep slots) slots' mark k i
stands_tidied keep slots slots' _ k i e (AsValue _ _ v a b) = AsValue k i v (slot_kept keep slots k e ∙ a) b
stands_tidied keep slots slots' _ k i e (AsBlock _ _ n a b) = AsBlock k i n (slot_kept keep slots k e ∙ a) b

module _ (p : Program) (ok : IsNamed p) (g : Function) (c : IsCps p g) (l : Place) (own : keeper (routine_of p g).split l ≡ l) (n : ℕ) where
  abbrev keep : ℕ → Bool
  keep k = kept_of p g.called (InGraph l n) k

  locals_tidied : (slots slots' : List Slot) (lower : Value) → LocalsStand p (routine_of p g) l slots slots' lower → LocalsStand p (routine_of p g) l (tidy_slots keep slots) slots' lower
  locals_tidied slots slots' lower h = record {
    number = h.number;
    registers = h.registers;
    next = h.next;
    pointer = h.pointer;
    kept = λ k i e j. stands_tidied keep slots slots' _ k i (closure_kept p ok g c l own n k e) (h.kept k i e j);
    fits = λ k e v j. h.fits k e v (sym (slot_kept keep slots k (closure_kept p ok g c l own n k e)) ∙ j);
  }

pub stood_tidied : StoodIsTidied
stood_tidied p ok _ l n slots o lower _ _ (AtRow g _ _ _ _ _ slots' is node has at locals arrives) =
    AtRow g l n (tidy_slots (kept_of p g.called (InGraph l n)) slots) o lower slots' is node has at (locals_tidied p ok g is.cps l node.keeps n slots slots' lower locals) arrives
stood_tidied p ok _ l n slots _ lower _ _ (AtCall g _ m _ _ v _ slots' is node at call back locals) =
    AtCall g l m n (tidy_slots (kept_of p g.called (InGraph l n)) slots) v lower slots' is node at call back (locals_tidied p ok g is.cps l node.keeps n slots slots' lower locals)
