-- How the variables of a function stand in the locals of a generated one: a register in a local of its type, a box in a local that points to a struct of
-- one field, called as the variable.
use Rattle.std.specs.Prelude.{◌≡◌, ℕ, Bool, true, false, if◌then◌else◌, List, [], ◌∷◌, Some, None, slice_get, bytes_eq}
use Rattle.cpc_base.specs.Bytes.{Text}
use Rattle.cpc_tree.specs.Syntax.{Ty, TyPointer, TyStruct, Program}
use Rattle.cpc_tree.specs.Typing.{Scope, Meant, ALocal, named, field}
use Rattle.cpc_store.specs.declared.values.Class.TheVariants.{Auto}
use Rattle.cpc_store.specs.Store.{Value, At}
use Rattle.cpc_meaning.specs.Eval.{Slot, Register, Boxed}
pub use Rattle.cpc_meaning.specs.Eval.{Fits}
use Rattle.cpc_convert_image_laws.specs.Images.{Reading, AsLocal, AsField, Readings}

-- how a variable x is read that stands in the local y
abbrev pub reading_of : (is_register : Bool) → (y x : Text) → Reading
reading_of true y x = AsLocal y
reading_of false y x = AsField y x

-- the type of that local, where the struct of the box has this tag
abbrev pub local_type : (is_register : Bool) → Ty → (tag : Text) → Ty
local_type true t tag = t
local_type false t tag = TyPointer (TyStruct tag)

-- the struct of a box begins with the field of its variable; a register needs none
abbrev pub HasField : (is_register : Bool) → Program → (tag x : Text) → Ty → Type 0
HasField true q tag x t = Unit {0}
HasField false q tag x t = field q tag x ≡ Some (0, t)

-- the readings of a scope: by the marks of its variables, and the spelling of the local in which a variable of this number and name stands
abbrev pub readings_in : (marks : ℕ → Bool) → (spelled : ℕ → Text → Text) → Scope → Readings
readings_in marks spelled [] x = None
readings_in marks spelled (l ∷ scope) x = if bytes_eq l.called x then Some (reading_of (marks l.slot) (spelled l.slot x) x) else readings_in marks spelled scope x

-- what a variable and its local hold: the same value, or a block and the pointer to it
pub data Stands (slots slots' : List Slot) : (is_register : Bool) → ℕ → ℕ → Type 0 where
  AsValue : (k k' : ℕ) (v : Value) → slice_get slots k ≡ Some (Register v) → slice_get slots' k' ≡ Some (Register v) → Stands slots slots' true k k'
  AsBlock : (k k' n : ℕ) → slice_get slots k ≡ Some (Boxed n) → slice_get slots' k' ≡ Some (Register (At Auto n 0)) → Stands slots slots' false k k'

-- a variable that is a register holds a value of the type
abbrev pub FitsAt : List Slot → Ty → ℕ → Type 0
FitsAt slots t k = (v : Value) → slice_get slots k ≡ Some (Register v) → Fits t v

-- a variable that a name means stands in the local of its spelling; `boxes` are the tags of the structs of boxes
abbrev pub StandsFor : (P : ℕ → Ty → ℕ → Type 0) (marks : ℕ → Bool) (spelled : ℕ → Text → Text) (boxes : ℕ → Text) (q : Program) (scope : Scope) (slots slots' : List Slot) (x : Text) → Meant → Type 0
StandsFor P marks spelled boxes q scope slots slots' x (ALocal k t) =
    (k' : ℕ) × P k t k' × Stands slots slots' (marks k) k k' × (named q scope (spelled k x) ≡ ALocal k' (local_type (marks k) t (boxes k))) × HasField (marks k) q (boxes k) x t
StandsFor P marks spelled boxes q scope slots slots' x m = Unit {0}
