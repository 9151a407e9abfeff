-- The items of an event program, in three parts.
use Rattle.std.specs.Prelude.{List, [], ◌∷◌, ◌++◌, map}
use Rattle.cpc_tree.specs.Syntax.{Item, FunctionItem, Program}
use Rattle.cpc_tree.specs.Typing.{function_named}
use Rattle.cpc_meaning.specs.Start.{main_name}
use Rattle.cpc_meaning.specs.Threads.{is_cps}
use Rattle.cpc_convert_common.specs.Converted.{function_item, prototype}
use Rattle.cpc_chains_store_laws.specs.Driver.{drive_function}
use Rattle.cpc_convert_routines.specs.Routines.{Routine}
use Rattle.cpc_chains_event.specs.Frames.{any_frame}
use Rattle.cpc_chains_event.specs.Converted.{all_structs, all_boxes, all_made, main_if}
use Rattle.cpc_convert_routines.specs.Kept.{kept_items}

-- what is made before the items that stay
abbrev pub made_before : Program → List Routine → List Item
made_before p rs = any_frame ∷ (all_structs p rs ++ (map prototype (all_made p rs) ++ FunctionItem drive_function ∷ []))

-- what is made behind them
abbrev pub made_behind : Program → List Routine → List Item
made_behind p rs = all_boxes rs ++ (map function_item (all_made p rs) ++ main_if (is_cps (function_named p main_name)))

-- all of it
abbrev pub with_made : Program → List Routine → List Item
with_made p rs = made_before p rs ++ (kept_items p ++ made_behind p rs)
