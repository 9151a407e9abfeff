-- Where a frame stands, and what its program is taken to be.
use Rattle.std.specs.Prelude.{◌≡◌, Bool, true, Some}
use Rattle.cpc_base.specs.declared.names.Name.{Name}
use Rattle.cpc_tree.specs.Erase.{Names, Table, function_of}
use Rattle.cpc_tree.specs.Syntax.{Program}
use Rattle.cpc_check_rules.specs.Apart.{Spells}
use Rattle.cpc_store.specs.Store.{StoreOf}
use Rattle.cpc_meaning.specs.Eval as E
use Rattle.cpc_meaning.specs.Act as M
use Rattle.cpc_meaning.specs.Plain.{context}
use Rattle.cpc_meaning.specs.Trees.{trees, stood_at}
use Rattle.cpc_native_points.specs.Seen.{point_of}
use Rattle.cpc_eval_values.specs.Shown.{store_of}
use Rattle.cpc_native_frames.specs.Index.{Index}
use Rattle.cpc_native_frames.specs.Indexed.{items_of}
use Rattle.cpc_eval_variables.specs.Told.{IsTold}
use Rattle.cpc_native_frames.specs.Numbers.{FoundNumbers}
use Rattle.cpc_native_builtins.specs.Served.{is_served_found, is_served_program}
use Rattle.cpc_native_frames.specs.declared.frame.Frame.{Frame}
use Rattle.cpc_native_frames.specs.Frames.{frame_of}

-- what stands where a frame is
abbrev pub stood_of : Names → Frame → M.Stood
stood_of names f = stood_at (Some (function_of names f.function.now)) (point_of f.point)

-- what the expressions of a frame are evaluated in
abbrev pub context_in : Names → Index → Frame → StoreOf Name → E.Context
context_in names index f s = context (trees (items_of names index)) (store_of names s) (frame_of names f)

-- all expressions of what stands there have numbers
abbrev pub StoodNumbers : Program → M.Stood → Type 0
StoodNumbers p (M.AtStatement f) = FoundNumbers p f
StoodNumbers p (M.AtArrival f) = FoundNumbers p f
StoodNumbers p M.AtEnd = Unit {0}

-- what stands there asks only for what is served
abbrev pub is_served_stood : M.Stood → Bool
is_served_stood (M.AtStatement f) = is_served_found f
is_served_stood _ = true

-- texts of the program's table by which the names of a frame are told, where what stands there has numbers
pub record IsTexts (names : Names) (index : Index) (table : Table) (frame : Frame) : Type 0 where
  pub told : IsTold names frame.function.now.parameters.items
  pub spells : Spells table names
  pub numbers : StoodNumbers (items_of names index) (stood_of names frame)

-- where what is asked is served
pub record IsServing (names : Names) (index : Index) (frame : Frame) : Type 0 where
  pub program : is_served_program (items_of names index) ≡ true
  pub stood : is_served_stood (stood_of names frame) ≡ true
