-- The event program of a program of threads: frames, the driver, what is native, and what is made of each cps function.
use Rattle.std.specs.Prelude.{Bool, true, false, List, [], ◌∷◌, ◌++◌, map, pos, Some, None}
use Rattle.cpc_num.specs.declared.kinds.Kind.TheVariants.{Int}
use Rattle.cpc_tree.specs.declared.program.Mode.TheVariants.{Native}
use Rattle.cpc_tree.specs.Syntax.{TyInt, ENamed, EInteger, NoExpr, Block, Call, Return, NoStmt, AndStmt, Function, Item, FunctionItem, Program}
use Rattle.cpc_tree.specs.Typing.{function_named}
use Rattle.cpc_meaning.specs.Start.{main_name}
use Rattle.cpc_meaning.specs.Threads.{is_cps}
use Rattle.cpc_convert_common.specs.Converted.{spawner_name, function_item, prototype}
use Rattle.cpc_chains_store_laws.specs.Driver.{drive_function}
use Rattle.cpc_convert_routines.specs.Routines.{Routine}
use Rattle.cpc_chains_event.specs.Frames.{any_frame, structs_of, boxes_of}
use Rattle.cpc_chains_event.specs.Pieces.{made_of}
use Rattle.cpc_convert_routines.specs.Kept.{kept_items, routines}

-- ---- what is made

-- the frames of all of them
abbrev pub all_structs : Program → List Routine → List Item
all_structs p [] = []
all_structs p (r ∷ rs) = structs_of p r ++ all_structs p rs

-- the boxes of all of them
abbrev pub all_boxes : List Routine → List Item
all_boxes [] = []
all_boxes (r ∷ rs) = boxes_of r ++ all_boxes rs

-- what is made of all of them
abbrev pub all_made : Program → List Routine → List Function
all_made p [] = []
all_made p (r ∷ rs) = made_of p r ++ all_made p rs

-- `int main(void) { main__spawn(); return 0; }`
abbrev pub main_function : Function
main_function = record {
  mode = Native;
  called = main_name;
  result = TyInt Int;
  parameters = [];
  body = Block (AndStmt (Call None (ENamed (spawner_name main_name)) NoExpr) (AndStmt (Return (Some (EInteger Int (pos 0)))) NoStmt));
}

-- it, where the `main` of the source is cps
abbrev pub main_if : (is_cps : Bool) → List Item
main_if true = FunctionItem main_function ∷ []
main_if false = []

-- ---- programs

-- the event program with what is made of these: the structs of frames, the prototypes of what is made, the driver, what stays, the structs of
-- boxes, behind those of the source, and what is made
abbrev pub converted_with : Program → List Routine → Program
converted_with p [] = kept_items p
converted_with p (r ∷ rs) =
    any_frame ∷ (all_structs p (r ∷ rs) ++ (map prototype (all_made p (r ∷ rs)) ++ FunctionItem drive_function
    ∷ (kept_items p ++ (all_boxes (r ∷ rs) ++ (map function_item (all_made p (r ∷ rs)) ++ main_if (is_cps (function_named p main_name)))))))

-- the event program of a program
abbrev pub converted : Program → Program
converted p = converted_with p (routines p)
