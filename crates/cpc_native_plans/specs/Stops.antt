-- What code that may want memory gives, against the answer of a definition.
use Rattle.std.specs.Prelude.{◌≡◌, Bool, true, false, List, Result, Ok, Err}
use Rattle.std.specs.Result.{result_map_both}
use Rattle.std.specs.Global.{Vec}
use Rattle.cpc_base.specs.declared.stop.Stop.{Stop}
use Rattle.cpc_base.specs.declared.stop.Stop.TheVariants.{Memory, Fault as Faulted}
use Rattle.cpc_num.specs.declared.kinds.Fault.{Fault}
use Rattle.cpc_tree.specs.Erase.{Names}
use Rattle.cpc_store.specs.Store.{Value}
use Rattle.cpc_store.specs.declared.values.Value as V
use Rattle.cpc_meaning.specs.Answer.{Answer, Gives, Faults, NoAnswer}
use Rattle.cpc_eval_values.specs.Meets.{Meets}
use Rattle.cpc_eval_values.specs.Shown.{value_of, values_of}

-- the same value, or the same fault; of want of memory, and where no rule fits, nothing is said
abbrev pub MeetsOr : {A : Type 0} → Result A (Stop Fault) → Answer A → Type 0
MeetsOr (Ok x) a = Meets (Ok x) a
MeetsOr (Err Memory) a = Unit {0}
MeetsOr (Err (Faulted fault)) a = Meets (Err fault) a

-- there is want of memory
abbrev pub wants_memory : {A : Type 0} → Result A (Stop Fault) → Bool
wants_memory (Ok x) = false
wants_memory (Err Memory) = true
wants_memory (Err (Faulted fault)) = false

-- a value is given, or a fault comes; where no rule fits, nothing is said
abbrev pub IsGiven : {A : Type 0} → Bool → Answer A → Type 0
IsGiven b (Gives x) = b ≡ true
IsGiven b (Faults fault) = b ≡ false
IsGiven b NoAnswer = Unit {0}

-- what is there in the words of the definitions, or why there is nothing
abbrev pub seen_as : {X Y : Type 0} → (X → Y) → Result X (Stop Fault) → Result Y (Stop Fault)
seen_as view r = result_map_both view (λ stop. stop) r

abbrev pub value_shown : Names → Result V.Value (Stop Fault) → Result Value (Stop Fault)
value_shown names r = seen_as (value_of names) r

abbrev pub row_shown : Names → Result (Vec V.Value) (Stop Fault) → Result (List Value) (Stop Fault)
row_shown names r = seen_as (λ (vs : Vec V.Value). values_of names vs.items) r
