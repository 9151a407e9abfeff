-- The functions that are made of a cps function: its spawner, and a piece for its start and for each leader.
use Rattle.std.specs.Prelude.{ℕ, Bool, true, false, not, ◌||◌, ◌&&◌, if◌then◌else◌, List, [], ◌∷◌, ◌++◌, map, Some}
use Rattle.cpc_base.specs.Bytes.{Text}
use Rattle.cpc_tree.specs.declared.program.Mode.TheVariants.{Native}
use Rattle.cpc_tree.specs.Lists.{is_empty}
use Rattle.cpc_tree.specs.Syntax.{Ty, TyVoid, TyPointer, TyStruct, ENamed, ESizeOf, Stmt, Block, Call, Stmts, NoStmt, AndStmt, Variable, Parameter, Function, Program}
use Rattle.cpc_tree.specs.Points.{Simple}
use Rattle.cpc_tree.specs.Typing.{is_scalar, function_named}
use Rattle.cpc_meaning.specs.Act.{Stood, AtStatement}
use Rattle.cpc_meaning.specs.Ways.{Manner, AsCps}
use Rattle.cpc_meaning.specs.Threads.{is_cps}
use Rattle.cpc_convert_common.specs.Converted.{spawner_name}
use Rattle.cpc_forms.specs.Flow.{Place, Start, At}
use Rattle.cpc_convert_flat_laws.specs.Flat.{before}
use Rattle.cpc_convert_flat_laws.specs.Locals.{Load}
use Rattle.cpc_chains_store_laws.specs.Frames.{opens_frame, frees_frame}
use Rattle.cpc_convert_flat_laws.specs.Boxes.{boxes_one, fills_box}
use Rattle.cpc_chains_store_laws.specs.Driver.{frame_tag, code_field, next_field, value_field, any_pointer, spawns}
use Rattle.cpc_convert_routines.specs.Names.{start_name, piece_name, value_tag, box_tag, pointer_name, frame_name, next_name, value_name, to_name, under_name, result_name}
use Rattle.cpc_convert_routines.specs.Routines.{Routine, closure_of, is_plain, stood_variable, variable_of, locals_of, passed, is_parameter, chosen, variable_if}
use Rattle.cpc_convert_routines.specs.Arriving.{arriving_type}
use Rattle.cpc_chains_event.specs.Lines.{save_of}
use Rattle.cpc_convert_routines.specs.Nodes.{rows_nodes}
use Rattle.cpc_chains_event.specs.Rows.{stubs_of, piece_statements}
pub use Rattle.cpc_convert_routines.specs.Taken.{takes_value, any_node, is_result}

-- a parameter with this name and type
abbrev pub parameter_of : Variable → Parameter
parameter_of x = record { called = Some x.called; type = x.type }

-- ---- what is loaded

-- a local, loaded from the field of its name
abbrev pub load_of : Variable → Load
load_of x = record { variable = x.called; type = x.type; field = x.called }

-- the type of a pointer to the frame below a function: where the function has a value, one at which it arrives
abbrev pub below_if : (is_scalar : Bool) → (function : Text) → Ty
below_if true f = TyPointer (TyStruct (value_tag f))
below_if false f = any_pointer

-- the frame below
abbrev pub next_load : Function → Load
next_load f = record { variable = next_name; type = below_if (is_scalar f.result) f.called; field = next_field }

-- the value that arrives
abbrev pub value_load : Program → Routine → Place → List Load
value_load p r l = if takes_value r l then record { variable = value_name; type = arriving_type p r l; field = value_field } ∷ [] else []

-- the variables that are loaded: all that a leader keeps; at the start those parameters of what it keeps that are registers
abbrev pub loaded : Routine → Place → List ℕ
loaded r Start = chosen (λ k. is_parameter r.function k && is_plain r k) (closure_of r Start)
loaded r (At n) = closure_of r (At n)

-- what a piece loads
abbrev pub loads_of : Program → Routine → Place → List Load
loads_of p r l = next_load r.function ∷ (value_load p r l ++ map load_of (locals_of r (loaded r l)))

-- ---- what is declared

-- a statement that waits
abbrev pub is_wait : Manner → Stood → Bool
is_wait AsCps (AtStatement x) = true
is_wait manner stood = false

-- a statement that calls a cps function
abbrev pub is_entry : Program → Stood → Bool
is_entry p (AtStatement (Simple (Call to (ENamed f) es))) = is_cps (function_named p f)
is_entry p stood = false

-- a local of a name and a type
abbrev pub called_so : Text → Ty → Variable
called_so x t = record { called = x; type = t }

-- a pointer to any frame
abbrev pub to_frame : Ty
to_frame = TyPointer (TyStruct frame_tag)

-- words for the frame that a piece gives, for one below it, and for the value that it returns, where they are used
abbrev pub words_if : (gives calls returns : Bool) → Ty → List Variable
words_if a b c t = variable_if a (called_so to_name to_frame) (variable_if b (called_so under_name to_frame) (variable_if c (called_so result_name t) []))

-- the words that a piece declares
abbrev pub words_of : Program → Routine → Place → List Variable
words_of p r l =
    words_if (not (is_empty (stubs_of r l)) || any_node r (λ node. is_wait node.manner node.stood) (rows_nodes r.split l)) (any_node r (λ node. is_entry p node.stood) (rows_nodes r.split l))
    (any_node r (λ node. is_result node.stood) (rows_nodes r.split l)) r.function.result

-- the variables that the start declares: the registers of what it keeps that are no parameters, and all boxes
abbrev pub begun : Routine → Place → List ℕ
begun r Start = chosen (λ k. not (is_parameter r.function k) && is_plain r k) (closure_of r Start) ++ r.boxes
begun r (At n) = []

-- what a piece declares
abbrev pub declares_of : Program → Routine → Place → List Variable
declares_of p r l = words_of p r l ++ locals_of r (begun r l)

-- ---- boxes

-- the start makes a box, and puts an argument in it, where there is one
abbrev pub fills_if : Bool → (variable field : Text) → List Stmt
fills_if true x y = fills_box x y frame_name x ∷ []
fills_if false x y = []

abbrev pub box_lines : Routine → ℕ → Variable → List Stmt
box_lines r k x =
    boxes_one (stood_variable r k x).called (ESizeOf (TyStruct (box_tag r.function.called k)))
    ∷ fills_if (is_parameter r.function k && is_scalar x.type) (stood_variable r k x).called x.called

-- all of these
abbrev pub boxing_lines : Routine → List ℕ → List Stmt
boxing_lines r [] = []
boxing_lines r (k ∷ ks) = box_lines r k (variable_of r k) ++ boxing_lines r ks

-- those of a piece
abbrev pub boxing_of : Routine → Place → List Stmt
boxing_of r Start = boxing_lines r r.boxes
boxing_of r (At n) = []

-- ---- functions

-- the statements of a piece
abbrev pub piece_body : Program → Routine → Place → Stmts
piece_body p r l =
    opens_frame pointer_name frame_name (piece_name r.function.called l) (loads_of p r l) (declares_of p r l)
    (before (boxing_of r l) (AndStmt (frees_frame pointer_name) (before (piece_statements p r l) NoStmt)))

-- the piece of an owner
abbrev pub piece_function : Program → Routine → Place → Function
piece_function p r l = record {
  mode = Native;
  called = piece_name r.function.called l;
  result = any_pointer;
  parameters = parameter_of (called_so pointer_name any_pointer) ∷ [];
  body = Block (piece_body p r l);
}

-- the spawner: the first frame of a thread, made ready
abbrev pub spawner_function : Function → Function
spawner_function f = record {
  mode = Native;
  called = spawner_name f.called;
  result = TyVoid;
  parameters = map parameter_of (passed f);
  body = Block (spawns frame_name (start_name f.called) code_field next_field (start_name f.called) (map save_of (passed f)));
}

-- the piece of a leader
abbrev pub leader_function : Program → Routine → ℕ → Function
leader_function p r n = piece_function p r (At n)

-- all that is made of a function
abbrev pub made_of : Program → Routine → List Function
made_of p r = spawner_function r.function ∷ piece_function p r Start ∷ map (leader_function p r) r.split.leaders
