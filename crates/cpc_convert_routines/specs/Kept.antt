-- What stays of a program, and its cps functions.
use Rattle.std.specs.Prelude.{Bool, true, false, List, [], ◌∷◌}
use Rattle.cpc_tree.specs.Syntax.{Function, Item, PrototypeItem, FunctionItem, Program}
use Rattle.cpc_meaning.specs.Threads.{is_cps_mode, is_cps}
use Rattle.cpc_convert_common.specs.Converted.{respawned}
use Rattle.cpc_convert_routines.specs.Routines.{Routine, routine_of}

-- ---- what stays

-- a native or detached function, each spawn in it as a call of the spawner
abbrev pub kept_function : Function → Function
kept_function f = record f { body = respawned f.body }

-- an item before others, where its mode is not cps
abbrev pub item_unless : (is_cps : Bool) → Item → List Item → List Item
item_unless true item rest = rest
item_unless false item rest = item ∷ rest

-- the items without cps functions
abbrev pub kept_items : List Item → List Item
kept_items [] = []
kept_items (PrototypeItem mode f r ps ∷ items) = item_unless (is_cps_mode mode) (PrototypeItem mode f r ps) (kept_items items)
kept_items (FunctionItem f ∷ items) = item_unless (is_cps_mode f.mode) (FunctionItem (kept_function f)) (kept_items items)
kept_items (item ∷ items) = item ∷ kept_items items

-- ---- cps functions

-- a function before others, where it is cps
abbrev pub routine_if : (is_cps : Bool) → Program → Function → List Routine → List Routine
routine_if true p f rest = routine_of p f ∷ rest
routine_if false p f rest = rest

-- the cps functions among these items, in their order
abbrev pub routines_in : Program → List Item → List Routine
routines_in p [] = []
routines_in p (FunctionItem f ∷ items) = routine_if (is_cps_mode f.mode) p f (routines_in p items)
routines_in p (item ∷ items) = routines_in p items

-- those of a program
abbrev pub routines : Program → List Routine
routines p = routines_in p p
