-- The parts of expressions and acts do the same beside any heap frames.
use Rattle.std.proofs.Common.{◌≡◌, ℕ, ◌+ℤ◌, ℤ, pos, List, [], Option, Some, None, refl, ap}
use Rattle.std.proofs.lemmas.List.Elements.{All-nil}
use Rattle.cpc_tree.specs.Syntax.{Ty, TyArray}
use Rattle.cpc_tree.specs.Registers.{variables}
use Rattle.cpc_store.specs.declared.values.Class.{Class}
use Rattle.cpc_store.specs.Store.{Value, Unset, Whole, Null, At, Code, Cond, Store, Blocks, load_block}
use Rattle.cpc_meaning.specs.Answer.{◌>>=◌, of_result, needed}
use Rattle.cpc_meaning.specs.Eval.{Slot, InCell, moved, moved_within, read}
use Rattle.cpc_meaning.specs.Layout.{scalar_of}
use Rattle.cpc_meaning_laws.specs.Pointer.Made.{IsBlock, IsMade, IsMadeSlot}
use Rattle.cpc_meaning_laws.proofs.Pointer.Blocks.{Any, given_alike}
use Rattle.cpc_meaning_laws.proofs.Pointer.Stores.{Later}
use Rattle.cpc_meaning_laws.proofs.Pointer.Values.{IsMadeSpot, operates, fields}
use Rattle.cpc_store.specs.declared.values.Class.TheVariants.{Static, Auto, Heap, Frame}
use Rattle.cpc_check_laws.specs.Kept.Kept.{NoFrames}
use Rattle.cpc_check_laws.specs.Kept.Beside.{with_frames, StoresBeside}
use Rattle.cpc_check_laws.proofs.Kept.Beside.{not_frame, same_beside, saves_beside, slots_freed_beside, slots_beside, slots_made_beside}
use Rattle.cpc_check_laws.proofs.Kept.BesideActs.{same_answer}

-- what was made is made beside the frames
pub made_beside : (bs : Blocks) (s : Store) → NoFrames s → Later s (with_frames bs s)
made_beside bs s none Static n h = tt
made_beside bs s none Auto n h = h
made_beside bs s none Heap n h = h
made_beside bs s none Frame n h = absurd (not_frame s Frame n none h refl)

module _ (bs : Blocks) (s : Store) (none : NoFrames s) where
  moves_beside : (v : Value) (d : ℤ) → IsMade s v → moved (with_frames bs s) v d ≡ moved s v d
  moves_beside (At c n k) d h = ap (λ o. moved_within o c n (pos k +ℤ d)) (same_beside bs s none c n h)
  moves_beside Unset d h = refl
  moves_beside (Whole kind z) d h = refl
  moves_beside Null d h = refl
  moves_beside (Code f) d h = refl
  moves_beside (Cond n) d h = refl

  reads_beside : (slots : List Slot) (t : Option Ty) (c : Class) (n k : ℕ) → IsBlock s c n → read slots (with_frames bs s) t (InCell c n k) ≡ read slots s t (InCell c n k)
  reads_beside slots None c n k h = refl
  reads_beside slots (Some (TyArray t m)) c n k h = refl
  reads_beside slots (Some t) c n k h = ap (λ o. needed (scalar_of t) >>= λ wanted. of_result (load_block wanted o k)) (same_beside bs s none c n h)

pub stores_beside : StoresBeside
stores_beside p s bs none made = record {
  operate = λ op t u v w h i. same_answer (IsMade s) _ _ (operates s (with_frames bs s) (same_beside bs s none) made p op t u v w h i);
  moved = moves_beside bs s none;
  field = λ t x v h. same_answer (IsMadeSpot s) _ _ (fields s (with_frames bs s) (same_beside bs s none) made p [] [] (All-nil (IsMadeSlot s)) t x v h);
  read = reads_beside bs s none;
  load = λ wanted c n k h. ap (λ o. load_block wanted o k) (same_beside bs s none c n h);
  save = λ c n k v h. given_alike Any (with_frames bs) _ _ (saves_beside bs c n k v s (not_frame s c n none h));
  made = λ f vs. given_alike Any (slots_beside bs) _ _ (slots_made_beside bs p f 0 (variables f) vs s);
  freed = λ slots. given_alike Any (with_frames bs) _ _ (slots_freed_beside bs slots s);
}
