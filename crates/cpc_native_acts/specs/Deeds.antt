-- What is to be done, once the expressions are evaluated.
use Rattle.std.specs.Prelude.{Bool, true, false, Result, Ok, Err}
use Rattle.std.specs.List.{All}
use Rattle.cpc_base.specs.declared.stop.Stop.{Stop}
use Rattle.cpc_base.specs.declared.stop.Stop.TheVariants.{Memory, Fault as Faulted}
use Rattle.cpc_num.specs.declared.kinds.Fault.{Fault}
use Rattle.cpc_tree.specs.Erase.{Names}
use Rattle.cpc_tree.specs.Typing.{function_named}
use Rattle.cpc_store.specs.Seen.{seen, IsLawful}
use Rattle.cpc_meaning.specs.Answer.{Answer, Gives, ◌>>=◌, needed}
use Rattle.cpc_meaning.specs.Eval as E
use Rattle.cpc_meaning.specs.Act as M
use Rattle.cpc_eval_values.specs.Meets.{Meets}
use Rattle.cpc_eval_values.specs.Shown.{value_of, values_of}
use Rattle.cpc_eval.specs.Spots.{spot_of}
use Rattle.cpc_native_builtins.specs.Builtins.{asked_of}
use Rattle.cpc_native_builtins.specs.Served.{IsServedCall}
use Rattle.cpc_native_acts.specs.Taken.{IsCalledWith}
use Rattle.cpc_native_acts.specs.declared.deeds.Deed.{Deed}
use Rattle.cpc_native_acts.specs.declared.deeds.Deed.TheVariants as D
use Rattle.cpc_native_plans.specs.Parts.{goes_on, Stands}

-- what a deed does
abbrev pub did : Names → E.Context → Deed → Answer M.Act
did names c (D.Passes h) = M.passes c h
did names c (D.Writes spot v) = goes_on (M.write c (spot_of spot) (value_of names v))
did names c (D.Enters x vs) = do
  f ← needed (function_named c.program (names x))
  Gives (M.Enters f (values_of names vs.items))
did names c (D.Leaves v) = M.leaves c (value_of names v)
did names c (D.Asks call vs) = M.asks (asked_of names call) (values_of names vs.items)

-- a function is entered, or there is want of memory for its arguments
abbrev pub enters_deed : Deed → Bool
enters_deed (D.Enters x vs) = true
enters_deed _ = false

abbrev pub takes_call : Result Deed (Stop Fault) → Bool
takes_call (Ok d) = enters_deed d
takes_call (Err Memory) = true
takes_call (Err (Faulted fault)) = false

-- a deed that stands for an answer, or its fault; of want of memory nothing is said
abbrev pub Plans : Names → E.Context → Result Deed (Stop Fault) → Answer M.Act → Type 0
Plans names c (Ok d) a = Stands (did names c d) a
Plans names c (Err Memory) a = Unit {0}
Plans names c (Err (Faulted fault)) a = Meets (Err fault) a

-- the values of a deed are lawful
abbrev pub IsLawfulDeed : Deed → Type 0
IsLawfulDeed (D.Passes h) = Unit {0}
IsLawfulDeed (D.Writes spot v) = IsLawful (seen v)
IsLawfulDeed (D.Enters x vs) = All (λ v. IsLawful (seen v)) vs.items
IsLawfulDeed (D.Leaves v) = IsLawful (seen v)
IsLawfulDeed (D.Asks b vs) = All (λ v. IsLawful (seen v)) vs.items

-- what a deed asks for is served
abbrev pub IsServedDeed : Deed → Type 0
IsServedDeed (D.Asks call vs) = IsServedCall call
IsServedDeed _ = Unit {0}

-- what a deed asks for is asked with what it takes
abbrev pub IsTakenDeed : Deed → Type 0
IsTakenDeed (D.Asks call vs) = IsCalledWith call vs.items
IsTakenDeed _ = Unit {0}
