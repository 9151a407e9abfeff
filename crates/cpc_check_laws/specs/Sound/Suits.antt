-- What values, slots and places suit the types of variables and expressions.
use Rattle.std.specs.Prelude.{◌≡◌, ℕ, Bool, true, false, List, [], ◌∷◌, slice_get, Option, Some, None}
use Rattle.cpc_tree.specs.Syntax.{Ty, TyInt, TyCondvar, TyPointer, TyCode}
use Rattle.cpc_tree.specs.Typing.{Scope, is_scalar}
use Rattle.cpc_store.specs.Store.{Value, Unset, Whole, Null, At, Code, Cond}
use Rattle.cpc_meaning.specs.Answer.{Answer, Gives, Faults, NoAnswer}
use Rattle.cpc_meaning.specs.Eval.{Slot, Register, Boxed, Spot, InSlot, InCell}

-- a fault, or something of which P holds
abbrev pub Comes : {A : Type 0} → (A → Type 0) → Answer A → Type 0
Comes P (Gives x) = P x
Comes P (Faults fault) = Unit {0}
Comes P NoAnswer = ⊥

-- a value of a type: unset, or what a cell of the type holds
abbrev pub Suits : Ty → Value → Type 0
Suits t Unset = Unit {0}
Suits (TyInt j) (Whole k z) = k ≡ j
Suits (TyPointer t) Null = Unit {0}
Suits (TyPointer t) (At c n k) = Unit {0}
Suits (TyCode r ps) Null = Unit {0}
Suits (TyCode r ps) (Code f) = Unit {0}
Suits TyCondvar (Cond n) = Unit {0}
Suits _ _ = ⊥

-- whether values of one type can be assigned to another: both hold the same scalar, or integers may become references
abbrev pub converts : (to from : Ty) → Bool
converts (TyInt j) (TyInt k) = true
converts (TyPointer t) (TyPointer u) = true
converts (TyPointer t) (TyInt k) = true
converts (TyCode r ps) (TyCode q qs) = true
converts (TyCode r ps) (TyInt k) = true
converts TyCondvar TyCondvar = true
converts _ _ = false

-- a slot of a variable of a type: a register is of a scalar type, and its value suits it
abbrev pub SuitsSlot : Ty → Slot → Type 0
SuitsSlot t (Register v) = (is_scalar t ≡ true) × Suits t v
SuitsSlot t (Boxed n) = Unit {0}

-- the same, where there may be no slot
abbrev pub SuitsSome : Ty → Option Slot → Type 0
SuitsSome t None = ⊥
SuitsSome t (Some slot) = SuitsSlot t slot

-- the slots of variables of these types
abbrev pub SuitSlots : List Ty → List Slot → Type 0
SuitSlots [] [] = Unit {0}
SuitSlots (t ∷ ts) (slot ∷ slots) = SuitsSlot t slot × SuitSlots ts slots
SuitSlots _ _ = ⊥

-- each name in scope is one of variables of these types
abbrev pub ScopeOf : List Ty → Scope → Type 0
ScopeOf ts [] = Unit {0}
ScopeOf ts (l ∷ scope) = (slice_get ts l.slot ≡ Some l.type) × ScopeOf ts scope

-- no register
abbrev pub IsBoxed : Option Slot → Type 0
IsBoxed (Some (Register v)) = ⊥
IsBoxed _ = Unit {0}

-- none of the slots of these numbers is a register
abbrev pub AllBoxed : List Slot → List ℕ → Type 0
AllBoxed slots [] = Unit {0}
AllBoxed slots (k ∷ ks) = IsBoxed (slice_get slots k) × AllBoxed slots ks

-- a place of a type: a cell, or a variable of the type that is a register
abbrev pub SuitsSpot : List Ty → List Slot → Ty → Spot → Type 0
SuitsSpot ts slots t (InCell c n k) = Unit {0}
SuitsSpot ts slots t (InSlot k) = (v : Value) × (slice_get slots k ≡ Some (Register v)) × (is_scalar t ≡ true) × Suits t v × (slice_get ts k ≡ Some t)
