-- The stack of a machine and what its steps come to, as the definitions have them.
use Rattle.std.specs.Prelude.{◌≡◌, List, map, reverse, Option, Some, None, option_map, Result, Ok, Err}
use Rattle.std.specs.Result.{result_map_both}
use Rattle.cpc_num.specs.declared.kinds.Fault.{Fault}
use Rattle.cpc_tree.specs.Erase.{Names}
use Rattle.cpc_tree.specs.Points as T
use Rattle.cpc_store.specs.declared.values.Value as V
use Rattle.cpc_meaning.specs.Requests as R
use Rattle.cpc_meaning.specs.Plain as P
use Rattle.cpc_eval_values.specs.Shown.{value_of, values_of, store_of}
use Rattle.cpc_native_builtins.specs.Builtins.{asked_of}
use Rattle.cpc_native_frames.specs.declared.frame.Frame.{Frame}
use Rattle.cpc_native_frames.specs.Frames.{frame_of}
use Rattle.cpc_native.specs.declared.machine.Machine.{Machine}
use Rattle.cpc_native.specs.declared.machine.Request.{Request}
use Rattle.cpc_native.specs.declared.machine.Stepped.{Stepped}
use Rattle.cpc_native.specs.declared.machine.Stepped.TheVariants as S

-- the frames, of which the code has the innermost last
abbrev pub frames_of : Names → List Frame → List (P.Frame T.Point)
frames_of names frames = reverse (map (frame_of names) frames)

-- frames, and a value that is arriving at the innermost
abbrev pub stack_at : Names → List Frame → Option V.Value → P.Stack T.Point
stack_at names frames arriving = record { frames = frames_of names frames; arriving = option_map (value_of names) arriving }

abbrev pub stack_of : Names → Machine → P.Stack T.Point
stack_of names m = stack_at names m.calls.frames.items m.arriving

abbrev pub request_of : Names → Request → R.Request
request_of names r = record { asked = asked_of names r.call; arguments = values_of names r.args.items }

-- what a step came to that left this machine
abbrev pub done_of : Names → Machine → Stepped → Result (P.Done T.Point) Fault
done_of names m S.Went = Ok (P.Went (store_of names m.store) (stack_of names m))
done_of names m (S.Returned v) = Ok (P.Returned (value_of names v) (store_of names m.store))
done_of names m (S.Asked r) = Ok (P.Asks (request_of names r))
done_of names m (S.Faulted fault x) = Err fault

-- the fault that a step came to
abbrev pub fault_of : Stepped → Option Fault
fault_of (S.Faulted fault x) = Some fault
fault_of _ = None

-- the machine goes on, or why it does not
abbrev pub went : {A E : Type 0} → Names → Machine → Result A E → Result (P.Done T.Point) E
went names m r = result_map_both (λ _. P.Went (store_of names m.store) (stack_of names m)) (λ e. e) r

-- the function that a request or a fault tells is the one whose code ran
abbrev pub TellsRunning : Names → Machine → Stepped → Type 0
TellsRunning names old (S.Asked r) = names r.function ≡ P.running_function (stack_of names old)
TellsRunning names old (S.Faulted fault x) = names x ≡ P.running_function (stack_of names old)
TellsRunning names old _ = Unit {0}
