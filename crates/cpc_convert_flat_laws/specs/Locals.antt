-- Where expressions are evaluated, what locals hold, and how they are declared, loaded from fields and saved in them.
use Rattle.std.specs.Prelude.{◌≡◌, ℕ, zero, suc, true, false, List, [], ◌∷◌, slice_get, bytes_eq, Some, None}
use Rattle.cpc_base.specs.Bytes.{Text}
use Rattle.cpc_tree.specs.Syntax.{Ty, TyPointer, TyStruct, Expr, ENamed, EArrow, Stmt, Declare, Assign, Variable, Function, Program}
use Rattle.cpc_tree.specs.Lists.{first_or, rest_of}
use Rattle.cpc_tree.specs.Registers.{is_register}
use Rattle.cpc_tree.specs.Typing.{Scope, Typed, typing, used, ALocal, named, field, is_scalar}
use Rattle.cpc_store.specs.declared.values.Class.TheVariants.{Frame}
use Rattle.cpc_store.specs.Store.{Value, Unset, At, Store}
use Rattle.cpc_meaning.specs.Answer.{Gives}
use Rattle.cpc_meaning.specs.Eval.{Slot, Register, Context, value, Fits}

-- ---- locals

-- a field of a frame, and the variable that is saved in it
pub record Save : Type 0 where
  pub field : Text
  pub variable : Text

-- a variable is saved in its field
abbrev pub saves_one : (frame : Expr) → Save → Stmt
saves_one f p = Assign (EArrow f p.field) None (ENamed p.variable)

-- a variable of a type with a value, in a register
pub record Holds (q : Program) (scope : Scope) (slots : List Slot) (x : Text) (t : Ty) (v : Value) : Type 0 where
  pub slot : ℕ
  pub is_local : named q scope x ≡ ALocal slot t
  pub is_slot : slice_get slots slot ≡ Some (Register v)

-- where expressions are evaluated
abbrev pub at : Program → Scope → List Slot → Store → Context
at q scope slots s = record { program = q; scope = scope; slots = slots; store = s }

-- an expression is a pointer to a struct of the tag, at the beginning of this frame block
pub record PointsTo (q : Program) (scope : Scope) (slots : List Slot) (s : Store) (e : Expr) (tag : Text) (b : ℕ) : Type 0 where
  pub typed : Typed
  pub is_typed : typing q scope e ≡ Some typed
  pub is_used : used typed ≡ Some (TyPointer (TyStruct tag))
  pub is_value : value (at q scope slots s) e ≡ Gives (At Frame b 0)

-- these variables hold these values, which fit the fields, and the fields are those from the i-th on
pub data Saving (q : Program) (scope : Scope) (slots : List Slot) (tag : Text) : (i : ℕ) → List Save → List Value → Type 0 where
  NoSaving : (i : ℕ) → Saving q scope slots tag i [] []
  AndSaving : (i : ℕ) (p : Save) (t u : Ty) (v : Value) (ps : List Save) (vs : List Value) → field q tag p.field ≡ Some (i, t) → Holds q scope slots p.variable u v → Fits t v
      → Saving q scope slots tag (suc i) ps vs → Saving q scope slots tag i (p ∷ ps) (v ∷ vs)

-- ---- fields are loaded

-- a local of a type that begins with the value of a field
pub record Load : Type 0 where
  pub variable : Text
  pub type : Ty
  pub field : Text

-- a field is loaded into its variable
abbrev pub loads_one : (frame : Text) → Load → Stmt
loads_one e l = Declare l.variable l.type (Some (EArrow (ENamed e) l.field))

-- the fields of these cells hold these values, which fit them and the variables; no variable is called as the frame
pub data Loading (q : Program) (tag e : Text) (cells : List Value) : List Load → List Value → Type 0 where
  NoLoading : Loading q tag e cells [] []
  AndLoading : (l : Load) (t : Ty) (i : ℕ) (v : Value) (ls : List Load) (vs : List Value) → bytes_eq l.variable e ≡ false → field q tag l.field ≡ Some (i, t) → is_scalar t ≡ true
      → slice_get cells i ≡ Some v → Fits t v → Fits l.type v → Loading q tag e cells ls vs → Loading q tag e cells (l ∷ ls) (v ∷ vs)

-- the scope with these variables, the first of which is the n-th
abbrev pub loaded_scope : Scope → ℕ → List Load → Scope
loaded_scope scope n [] = scope
loaded_scope scope n (l ∷ ls) = loaded_scope (record { called = l.variable; type = l.type; slot = n } ∷ scope) (suc n) ls

-- so many registers that hold nothing, and then these slots
abbrev pub blank : ℕ → List Slot → List Slot
blank zero slots = slots
blank (suc n) slots = Register Unset ∷ blank n slots

-- the slots of a call whose variables, so many, are all registers
abbrev pub register_slots : ℕ → List Value → List Slot
register_slots zero vs = []
register_slots (suc n) vs = Register (first_or Unset vs) ∷ register_slots n (rest_of vs)

-- these variables of a function, the first of which is the n-th, are registers
pub data AreRegisters (f : Function) : ℕ → List Variable → Type 0 where
  NoneAre : (n : ℕ) → AreRegisters f n []
  AndRegister : (n : ℕ) (x : Variable) (xs : List Variable) → is_register f n x ≡ true → AreRegisters f (suc n) xs → AreRegisters f n (x ∷ xs)

-- these variables are scalar
pub data Scalars : List Variable → Type 0 where
  NoScalars : Scalars []
  AndScalar : (x : Variable) (xs : List Variable) → is_scalar x.type ≡ true → Scalars xs → Scalars (x ∷ xs)

-- a local without a start
abbrev pub declares_one : Variable → Stmt
declares_one v = Declare v.called v.type None

-- the scope with these locals, the first of which is the n-th
abbrev pub declared_scope : Scope → ℕ → List Variable → Scope
declared_scope scope n [] = scope
declared_scope scope n (v ∷ vs) = declared_scope (record { called = v.called; type = v.type; slot = n } ∷ scope) (suc n) vs
