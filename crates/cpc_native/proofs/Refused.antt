-- What a step leaves where memory was refused, and the function that it tells else.
use Rattle.std.proofs.Common.{◌≡◌, true, List, [], ◌∷◌, ◌++◌, ap, sym, ◌∙◌}
use Rattle.std.specs.Borrow.{Bor}
use Rattle.cpc_tree.specs.Erase.{Names}
use Rattle.cpc_tree.specs.Points as T
use Rattle.cpc_tree.specs.declared.program.Function.{Function}
use Rattle.cpc_meaning.specs.Plain as P
use Rattle.cpc_native_frames.specs.declared.frame.Frame.{Frame}
use Rattle.cpc_native_acts.specs.Acts.{is_call_stood}
use Rattle.cpc_native_acts.specs.Stood.{stood_of}
use Rattle.cpc_native.specs.declared.machine.Machine.{Machine}
use Rattle.cpc_native.specs.declared.machine.Stepped.{Stepped}
use Rattle.cpc_native.specs.declared.machine.Stepped.TheVariants as S
use Rattle.cpc_native.specs.Stacks.{frames_of, stack_of, TellsRunning}
use Rattle.cpc_native.specs.Well.{StandsAgain, StandsBelow, StandsAtCall, TellsFunction}
use Rattle.cpc_native.proofs.Frames.{frames_upon}

module _ (old mid new : Machine) (top : Frame) (was : old.calls.frames.items ≡ mid.calls.frames.items ++ top ∷ []) (arriving : mid.arriving ≡ old.arriving) where
  -- the innermost frame was taken, and put back
  pub below_again : (after : Frame) → StandsAgain after mid new → StandsBelow old new
  below_again after again = record {
    below = mid.calls.frames.items;
    top = top;
    upon = after ∷ [];
    was = was;
    calls = again.calls;
    arriving = again.arriving ∙ arriving;
  }

-- ---- at a call

last_same : (xs ys : List Frame) (x y : Frame) → xs ++ x ∷ [] ≡ ys ++ y ∷ [] → x ≡ y
last_same [] [] x y e = cc
last_same [] (b ∷ []) x y e = absurd cc
last_same [] (b ∷ c ∷ ys) x y e = absurd cc
last_same (a ∷ []) [] x y e = absurd cc
last_same (a ∷ b ∷ xs) [] x y e = absurd cc
last_same (a ∷ xs) (b ∷ ys) x y e = last_same xs ys x y cc

pub stands_at_call : (old : Machine) (below : List Frame) (top : Frame) → old.calls.frames.items ≡ below ++ top ∷ [] → ((names : Names) → is_call_stood (stood_of names top) ≡ true) → StandsAtCall old
stands_at_call old below top was h = λ names front other e.
    let same : top ≡ other = last_same below front top other (sym was ∙ e) in
    ap (λ (f : Frame). is_call_stood (stood_of names f)) (sym same) ∙ h names

-- the function of the innermost frame is the one whose code runs
module _ (names : Names) (old : Machine) (below : List Frame) (top after : Frame) (was : old.calls.frames.items ≡ below ++ top ∷ []) (same : after.function ≡ top.function) where
  runs : names after.function.now.word.name ≡ P.running_function (stack_of names old)
  runs =
      ap (λ (b : Bor Function). names b.now.word.name) same
      ∙ ap (λ (fs : List (P.Frame T.Point)). P.running_function (record { frames = fs; arriving = (stack_of names old).arriving })) (sym (ap (frames_of names) was ∙ frames_upon names below top))

  pub tells_running : (stepped : Stepped) → TellsFunction stepped after → TellsRunning names old stepped
  tells_running S.Went told = tt
  tells_running (S.Returned v) told = tt
  tells_running (S.Asked r) told = ap names told ∙ runs
  tells_running (S.Faulted fault x) told = ap names told ∙ runs
