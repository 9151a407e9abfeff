-- What a step of a frame does, as the definitions have it, and where it is said.
use Rattle.std.specs.Prelude.{◌≡◌, Bool, true, false, List, Option, Some, None, Result, Ok, Err}
use Rattle.std.specs.List.{All}
use Rattle.std.specs.Result.{result_map_both}
use Rattle.cpc_base.specs.declared.names.Name.{Name}
use Rattle.cpc_base.specs.declared.stop.Stop.{Stop}
use Rattle.cpc_base.specs.declared.stop.Stop.TheVariants.{Memory, Fault as Faulted}
use Rattle.cpc_num.specs.declared.kinds.Fault.{Fault}
use Rattle.cpc_tree.specs.Erase.{Names, function_of}
use Rattle.cpc_tree.specs.Syntax.{Function}
use Rattle.cpc_tree.specs.declared.program.Function as G
use Rattle.std.specs.Borrow.{Bor}
use Rattle.cpc_store.specs.Store.{StoreOf}
use Rattle.cpc_store.specs.declared.values.Value as V
use Rattle.cpc_store.specs.Seen.{seen, IsLawful}
use Rattle.cpc_meaning.specs.Act as M
use Rattle.cpc_eval_values.specs.Shown.{value_of, values_of, store_of}
use Rattle.cpc_eval_index.specs.declared.index.Index.{Index}
use Rattle.cpc_eval_index.specs.Indexed.{IsOwn}
use Rattle.cpc_eval.specs.declared.around.Slot.{Slot}
use Rattle.cpc_native_builtins.specs.Builtins.{asked_of}
use Rattle.cpc_native_builtins.specs.Served.{IsServedCall}
use Rattle.cpc_native_frames.specs.Made.{slots_of}
use Rattle.cpc_native_acts.specs.Taken.{IsCalledWith}
use Rattle.cpc_native_acts.specs.declared.act.Act.{Act}
use Rattle.cpc_native_acts.specs.declared.act.Act.TheVariants as A
use Rattle.cpc_native_plans.specs.Parts.{is_call_found}

-- what a step does that leaves these slots and this store
abbrev pub act_of : Names → List Slot → StoreOf Name → Act → M.Act
act_of names slots s (A.GoesOn h) = M.GoesOn h (store_of names s) (slots_of names slots)
act_of names slots s (A.Enters f vs) = M.Enters (function_of names f.now) (values_of names vs.items)
act_of names slots s (A.Leaves v) = M.Leaves (value_of names v) (store_of names s)
act_of names slots s (A.Asks call vs) = M.AsksFor (record { asked = asked_of names call; arguments = values_of names vs.items })

-- the same, or why there is none
abbrev pub acted : Names → List Slot → StoreOf Name → Result Act (Stop Fault) → Result M.Act (Stop Fault)
acted names slots s r = result_map_both (act_of names slots s) (λ stop. stop) r

-- a function of the program, or why there is none
abbrev pub function_shown : Names → Result (Bor G.Function) (Stop Fault) → Result Function (Stop Fault)
function_shown names r = result_map_both (λ (f : Bor G.Function). function_of names f.now) (λ stop. stop) r

-- ---- where a frame stands

abbrev pub is_call_stood : M.Stood → Bool
is_call_stood (M.AtStatement f) = is_call_found f
is_call_stood _ = false

-- ---- what is known of an act

-- its values are lawful
abbrev pub IsLawfulAct : Act → Type 0
IsLawfulAct (A.GoesOn h) = Unit {0}
IsLawfulAct (A.Enters f vs) = All (λ v. IsLawful (seen v)) vs.items
IsLawfulAct (A.Leaves v) = IsLawful (seen v)
IsLawfulAct (A.Asks b vs) = All (λ v. IsLawful (seen v)) vs.items

-- a value that arrives is lawful
abbrev pub IsLawfulIf : Option V.Value → Type 0
IsLawfulIf None = Unit {0}
IsLawfulIf (Some v) = IsLawful (seen v)

-- it enters a function, or there is want of memory for the arguments
abbrev pub enters_act : Act → Bool
enters_act (A.Enters f vs) = true
enters_act _ = false

abbrev pub called : Result Act (Stop Fault) → Bool
called (Ok act) = enters_act act
called (Err Memory) = true
called (Err (Faulted fault)) = false

-- the function that it enters is one of the program
abbrev pub EntersOwn : Index → Act → Type 0
EntersOwn index (A.Enters f vs) = IsOwn index f.now
EntersOwn index _ = Unit {0}

-- what it asks for is served
abbrev pub AsksServed : Act → Type 0
AsksServed (A.Asks call vs) = IsServedCall call
AsksServed _ = Unit {0}

-- what it asks for is asked with what it takes
abbrev pub AsksTaken : Act → Type 0
AsksTaken (A.Asks call vs) = IsCalledWith call vs.items
AsksTaken _ = Unit {0}

-- a call and a request change nothing
abbrev pub Keeps : {X : Type 0} → Act → (old new : X) → Type 0
Keeps (A.Enters f vs) old new = new ≡ old
Keeps (A.Asks b vs) old new = new ≡ old
Keeps _ old new = Unit {0}
