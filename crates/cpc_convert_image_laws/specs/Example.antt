-- A small source and its target, two frames of them, and what does not hold of images.
use Rattle.std.specs.Prelude.{◌≡◌, ℕ, zero, suc, Bool, ◌||◌, ◌==◌, List, [], ◌∷◌, ◌++◌, Some, None, bytes_eq, codes, pos}
use Rattle.cpc_base.specs.Bytes.{Text}
use Rattle.cpc_num.specs.declared.kinds.Kind.TheVariants.{Int, ULong}
use Rattle.cpc_num.specs.declared.kinds.Fault.TheVariants.{Freed}
use Rattle.cpc_tree.specs.declared.program.Mode.TheVariants.{Native}
use Rattle.cpc_tree.specs.declared.program.UnaryOp.TheVariants.{AddressOf}
use Rattle.cpc_tree.specs.Syntax.{Ty, TyInt, TyPointer, TyStruct, TyArray, Expr, ENamed, EInteger, EUnary, ESizeOf, Return, Variable, Function, Item, StructItem, GlobalItem, FunctionItem, Program}
use Rattle.cpc_tree.specs.Typing.{Scope, Local}
use Rattle.cpc_store.specs.declared.values.Class.TheVariants.{Static, Auto}
use Rattle.cpc_store.specs.Store.{Value, Whole, At, Store, empty_store, alloc}
use Rattle.cpc_meaning.specs.Answer.{Gives, Faults, NoAnswer}
use Rattle.cpc_meaning.specs.Eval.{Slot, Register, Boxed, Context, value}
use Rattle.cpc_convert_image_laws.specs.Images.{Readings, image}
use Rattle.cpc_convert_image_laws.specs.Locals.{readings_in}
use Rattle.cpc_convert_image_laws.specs.Frames.{TwoFrames, here, there}

-- the type `int`
abbrev pub int : Ty
int = TyInt Int

-- a variable of a scope
abbrev pub local : Text → Ty → ℕ → Local
local x t k = record { called = x; type = t; slot = k }

-- a field of the type `int`
abbrev pub field_of : Text → Variable
field_of x = record { called = x; type = int }

-- int h(void) { return 1; }
abbrev pub native_function : Function
native_function = record { mode = Native; called = codes "h"; result = int; parameters = []; body = Return (Some (EInteger Int (pos 1))) }

-- struct s { int f; }; int g; and the function
abbrev pub small : Program
small = StructItem (codes "s") (field_of (codes "f") ∷ []) ∷ GlobalItem (codes "g") int None ∷ FunctionItem native_function ∷ []

-- the tags of the structs of boxes
abbrev pub boxes : ℕ → Text
boxes (suc zero) = codes "b__box"
boxes (suc (suc zero)) = codes "a__box"
boxes k = codes "v__box"

-- the struct of a box
abbrev pub box : ℕ → Text → Ty → Item
box k x t = StructItem (boxes k) (record { called = x; type = t } ∷ [])

-- the same behind struct frame__ { int n; }; and before struct b__box { int b; }; struct a__box { int a[3]; }; struct v__box { struct s v; };
abbrev pub larger : Program
larger =
    StructItem (codes "frame__") (field_of (codes "n") ∷ [])
    ∷ (small ++ box 1 (codes "b") int ∷ box 2 (codes "a") (TyArray int 3) ∷ box 3 (codes "v") (TyStruct (codes "s")) ∷ [])

-- int x; int b; int a[3]; struct s v; where b has an address
abbrev pub small_scope : Scope
small_scope = local (codes "x") int 0 ∷ local (codes "b") int 1 ∷ local (codes "a") (TyArray int 3) 2 ∷ local (codes "v") (TyStruct (codes "s")) 3 ∷ []

-- a pointer to a box
abbrev pub pointer_to : ℕ → Ty
pointer_to k = TyPointer (TyStruct (boxes k))

-- int x__; struct b__box *b__; struct a__box *a__; struct v__box *v__;
abbrev pub larger_scope : Scope
larger_scope = local (codes "x__") int 0 ∷ local (codes "b__") (pointer_to 1) 1 ∷ local (codes "a__") (pointer_to 2) 2 ∷ local (codes "v__") (pointer_to 3) 3 ∷ []

-- the first is a register
abbrev pub marks : ℕ → Bool
marks k = k == 0

-- the local of a variable is named after its first letter
abbrev pub spelled : ℕ → Text → Text
spelled k (x ∷ y) = x ∷ codes "__"
spelled k [] = []

-- how names are read in the target
abbrev pub small_readings : Readings
small_readings = readings_in marks spelled small_scope

-- a value of the type `int`
abbrev pub an_int : ℕ → Value
an_int n = Whole Int (pos n)

-- g, and the blocks of b, a and v
abbrev pub small_store : Store
small_store = alloc Auto (an_int 9 ∷ []) (alloc Auto (an_int 1 ∷ an_int 2 ∷ an_int 3 ∷ []) (alloc Auto (an_int 7 ∷ []) (alloc Static (an_int 4 ∷ []) empty_store)))

-- the variables of the source
abbrev pub small_slots : List Slot
small_slots = Register (an_int 5) ∷ Boxed 0 ∷ Boxed 1 ∷ Boxed 2 ∷ []

-- the locals of the target
abbrev pub larger_slots : List Slot
larger_slots = Register (an_int 5) ∷ Register (At Auto 0 0) ∷ Register (At Auto 1 0) ∷ Register (At Auto 2 0) ∷ []

-- where expressions of the source are evaluated
abbrev pub small_context : Context
small_context = record { program = small; scope = small_scope; slots = small_slots; store = small_store }

-- where their images are
abbrev pub larger_context : Context
larger_context = record { program = larger; scope = larger_scope; slots = larger_slots; store = small_store }

-- the names of the variables, of the global and of the function
abbrev pub is_small : Text → Bool
is_small x = bytes_eq x (codes "x") || (bytes_eq x (codes "b") || (bytes_eq x (codes "a") || (bytes_eq x (codes "v") || (bytes_eq x (codes "g") || bytes_eq x (codes "h")))))

-- there are two frames of these, in which all that is asked of frames holds
abbrev pub ThereAreFrames : Type 0
ThereAreFrames = (t : TwoFrames) × (here t ≡ small_context) × (there t ≡ larger_context) × (t.used ≡ is_small) × (t.readings ≡ small_readings)

-- `&b`
abbrev pub address : Expr
address = EUnary AddressOf (ENamed (codes "b"))

-- the same frames, where no block is live
abbrev pub without_blocks : Context → Context
without_blocks c = record c { store = empty_store }

-- what does not hold of images
pub record NotOfImages : Type 0 where
  -- where the source has no answer its target may have one: the target has more structs
  pub not_there : value small_context (ESizeOf (TyStruct (codes "frame__"))) ≡ NoAnswer
  pub there : value larger_context (ESizeOf (TyStruct (codes "frame__"))) ≡ Gives (Whole ULong (pos 1))
  -- where a box is not live, its address is known in the source, and the field is not found in the target
  pub known : value (without_blocks small_context) address ≡ Gives (At Auto 0 0)
  pub not_found : value (without_blocks larger_context) (image small_readings address) ≡ Faults Freed
