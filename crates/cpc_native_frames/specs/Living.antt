-- Slots whose blocks are live.
use Rattle.std.specs.Prelude.{ℕ, Bool, true, ◌&&◌, List, [], ◌∷◌, Option, Some, None, is_some}
use Rattle.cpc_base.specs.declared.names.Name.{Name}
use Rattle.cpc_store.specs.declared.values.Class.TheVariants.{Auto}
use Rattle.cpc_store.specs.Store.{StoreOf, size}
use Rattle.cpc_meaning.specs.Answer.{Answer, Gives, Faults, NoAnswer}
use Rattle.cpc_eval.specs.declared.around.Slot.{Slot}
use Rattle.cpc_eval.specs.declared.around.Slot.TheVariants as S

-- a slot has no block, or one that is live
abbrev pub is_live : StoreOf Name → Slot → Bool
is_live s (S.Register v) = true
is_live s (S.Boxed n) = is_some (size Auto n s)

-- the blocks of all slots are live
abbrev pub are_live : StoreOf Name → List Slot → Bool
are_live s [] = true
are_live s (x ∷ xs) = is_live s x && are_live s xs

-- the cells of a variable, if it has no block or one that is live
abbrev pub slot_size : StoreOf Name → Slot → Option ℕ
slot_size s (S.Register v) = Some 1
slot_size s (S.Boxed n) = size Auto n s

-- a number where the call can be left, and none where leaving it faults
abbrev pub CanLeave : {A : Type 0} → Option ℕ → Answer A → Type 0
CanLeave (Some n) (Gives x) = Unit {0}
CanLeave None (Faults fault) = Unit {0}
CanLeave o NoAnswer = Unit {0}
CanLeave _ _ = ⊥
