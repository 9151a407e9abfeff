-- The structs of frames and of boxes. A frame begins as any does: the piece that takes it up, the frame below, and the value that arrives; a box
-- has one field, its variable.
use Rattle.std.specs.Prelude.{ℕ, Bool, true, false, List, [], ◌∷◌, ◌++◌, map}
use Rattle.cpc_base.specs.Bytes.{Text}
use Rattle.cpc_num.specs.declared.kinds.Kind.TheVariants.{Int}
use Rattle.cpc_tree.specs.Syntax.{Ty, TyInt, Item, StructItem, Variable, Function, Program}
use Rattle.cpc_tree.specs.Typing.{is_scalar}
use Rattle.cpc_forms.specs.Flow.{Start, At}
use Rattle.cpc_chains_store_laws.specs.Driver.{frame_tag, head_fields}
use Rattle.cpc_convert_routines.specs.Names.{piece_name, value_tag, box_tag}
use Rattle.cpc_convert_routines.specs.Routines.{Routine, closure_of, variable_of, locals_of, passed}
use Rattle.cpc_convert_routines.specs.Arriving.{arriving_type}

-- ---- structs

-- any frame
abbrev pub any_frame : Item
any_frame = StructItem frame_tag (head_fields (TyInt Int) [])

-- any frame at which a value of the type arrives from f
abbrev pub value_struct : Text → Ty → Item
value_struct f t = StructItem (value_tag f) (head_fields t [])

-- it, where the type is that of a value
abbrev pub value_struct_if : (is_scalar : Bool) → Text → Ty → List Item
value_struct_if true f t = value_struct f t ∷ []
value_struct_if false f t = []

-- the first frame of a call, with its arguments
abbrev pub start_struct : Function → Item
start_struct f = StructItem (piece_name f.called Start) (head_fields (TyInt Int) (passed f))

-- a frame of a leader, with what the leader keeps
abbrev pub leader_struct : Program → Routine → ℕ → Item
leader_struct p r n = StructItem (piece_name r.function.called (At n)) (head_fields (arriving_type p r (At n)) (locals_of r (closure_of r (At n))))

-- the frames of a function
abbrev pub structs_of : Program → Routine → List Item
structs_of p r = value_struct_if (is_scalar r.function.result) r.function.called r.function.result ++ start_struct r.function ∷ map (leader_struct p r) r.split.leaders

-- the box of a variable
abbrev pub box_struct : (function : Text) → ℕ → Variable → Item
box_struct f k x = StructItem (box_tag f k) (x ∷ [])

-- that of the variable of a number
abbrev pub box_of : Routine → ℕ → Item
box_of r k = box_struct r.function.called k (variable_of r k)

-- the boxes of a function
abbrev pub boxes_of : Routine → List Item
boxes_of r = map (box_of r) r.boxes
