-- The frames of calls, as the definitions have them.
use Rattle.std.specs.Prelude.{ℕ, ◌+◌, ◌≤◌, List, [], ◌∷◌, vec_capacity}
use Rattle.cpc_tree.specs.Erase.{Names}
use Rattle.cpc_tree.specs.Points as T
use Rattle.cpc_meaning.specs.Plain as P
use Rattle.cpc_native_points.specs.Depth.{deep}
use Rattle.cpc_native_points.specs.Seen.{point_of}
use Rattle.cpc_eval_index.specs.declared.index.Index.{Index}
use Rattle.cpc_eval_index.specs.Indexed.{IsOwn}
use Rattle.cpc_eval.specs.declared.around.Slot.{Slot}
use Rattle.cpc_eval.specs.declared.around.Slot.TheVariants as S
use Rattle.cpc_eval.specs.Spots.{AreLawful}
use Rattle.cpc_native_frames.specs.declared.frame.Frame.{Frame}
use Rattle.cpc_native_frames.specs.Made.{slots_of}

abbrev pub frame_of : Names → Frame → P.Frame T.Point
frame_of names f = record { function = names f.function.now.word.name; point = point_of f.point; slots = slots_of names f.slots.items }

-- the numbers of the blocks among these slots rise, the first from this one on
abbrev pub RiseFrom : ℕ → List Slot → Type 0
RiseFrom n [] = Unit {0}
RiseFrom n (S.Register v ∷ slots) = RiseFrom n slots
RiseFrom n (S.Boxed k ∷ slots) = (n ≤ k) × RiseFrom (k + 1) slots

-- a call of a function of the program: its registers are lawful, its blocks are told from each other, and its point has room for every path of the body
pub record IsWellFrame (index : Index) (frame : Frame) : Type 0 where
  pub own : IsOwn index frame.function.now
  pub lawful : AreLawful frame.slots.items
  pub rise : RiseFrom 0 frame.slots.items
  pub room : deep frame.function.now.body ≤ vec_capacity frame.point.path
