-- The slots of a call, by where its variables are kept.
use Rattle.std.specs.Prelude.{◌≡◌, ℕ, ◌+◌, Bool, List, [], ◌∷◌, map, Result, Ok}
use Rattle.cpc_num.specs.declared.kinds.Fault.{Fault}
use Rattle.cpc_store.specs.declared.values.Class.TheVariants.{Auto}
use Rattle.cpc_tree.specs.Erase.{Names}
use Rattle.cpc_tree.specs.Syntax.{Ty, Program}
use Rattle.cpc_tree.specs.Lists.{first_or, rest_of}
use Rattle.cpc_tree.specs.Typing.{size}
use Rattle.cpc_store.specs.Store.{Value, Unset, At, Store, free}
use Rattle.cpc_meaning.specs.Answer.{Answer, Gives, ◌>>=◌, needed}
use Rattle.cpc_meaning.specs.Eval as E
use Rattle.cpc_meaning.specs.Slots.{make_slot}
use Rattle.cpc_eval.specs.declared.around.Slot.{Slot}
use Rattle.cpc_eval.specs.declared.around.Slot.TheVariants as S
use Rattle.cpc_eval.specs.Around.{slot_of}

-- the slots of variables of these types, of which these are registers
abbrev pub make_kept : Program → List (Ty × Bool) → List Value → Store → Answer (List E.Slot × Store)
make_kept p [] vs s = Gives ([], s)
make_kept p (k ∷ ks) vs s = do
  cells ← needed (size p k.0)
  (slot, s1) ← Gives (make_slot k.1 cells (first_or Unset vs) s)
  (slots, s2) ← make_kept p ks (rest_of vs) s1
  Gives (slot ∷ slots, s2)

abbrev pub slots_of : Names → List Slot → List E.Slot
slots_of names slots = map (slot_of names) slots

-- the store without the block of a slot, where it has one
abbrev pub free_slot : E.Slot → Store → Result Store Fault
free_slot (E.Register v) s = Ok s
free_slot (E.Boxed n) s = free Auto (At Auto n 0) s

-- a slot that was made, by the numbers of the next block before and after
abbrev pub IsNext : Slot → (before after : ℕ) → Type 0
IsNext (S.Register v) m n = n ≡ m
IsNext (S.Boxed k) m n = (k ≡ m) × (n ≡ m + 1)
