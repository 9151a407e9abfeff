-- A piece as one list of statements: its opening, and then its rows.
use Rattle.std.specs.Prelude.{List, [], ◌∷◌, ◌++◌, map, Some}
use Rattle.cpc_tree.specs.Syntax.{Stmt, Declare, TyPointer, TyStruct, ENamed, Function, Program}
use Rattle.cpc_forms.specs.Flow.{Place, Start}
use Rattle.cpc_convert_flat_laws.specs.Locals.{loads_one, declares_one}
use Rattle.cpc_chains_store_laws.specs.Frames.{frees_frame}
use Rattle.cpc_convert_routines.specs.Names.{pointer_name, frame_name, piece_name}
use Rattle.cpc_chains_event.specs.Pieces.{loads_of, declares_of, boxing_of, piece_function, leader_function}
use Rattle.cpc_convert_routines.specs.Routines.{Routine}

-- a piece takes its frame, and loads what it keeps
abbrev pub loading_of : Program → Routine → Place → List Stmt
loading_of p r l =
    Declare frame_name (TyPointer (TyStruct (piece_name r.function.called l))) (Some (ENamed pointer_name)) ∷ map (loads_one frame_name) (loads_of p r l)

-- it declares words and locals
abbrev pub declaring_of : Program → Routine → Place → List Stmt
declaring_of p r l = map declares_one (declares_of p r l)

-- how a piece begins
abbrev pub opening_of : Program → Routine → Place → List Stmt
opening_of p r l = loading_of p r l ++ (declaring_of p r l ++ (boxing_of r l ++ (frees_frame pointer_name ∷ [])))

-- the pieces of a function: that of its start, and those of its leaders; with its spawner before them they are all that is made of it
abbrev pub pieces_of : Program → Routine → List Function
pieces_of p r = piece_function p r Start ∷ map (leader_function p r) r.split.leaders
