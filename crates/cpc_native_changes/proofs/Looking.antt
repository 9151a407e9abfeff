-- What a call and an assignment come to, by the parts that are looked at.
use Rattle.std.proofs.Common.{◌≡◌, Bool, List, Option, Some, option_map, Result, Ok, Err, ap, ◌∙◌}
use Rattle.std.specs.Result.{result_ok, result_map_both}
use Rattle.cpc_base.specs.Bytes.{Text}
use Rattle.cpc_base.specs.declared.names.Name.{Name}
use Rattle.cpc_num.specs.declared.kinds.Fault.{Fault}
use Rattle.cpc_tree.specs.Erase.{Names}
use Rattle.cpc_store.specs.Store.{Value, Store}
use Rattle.cpc_meaning.specs.Answer.{Answer, Gives, Faults, NoAnswer, ◌>>=◌}
use Rattle.cpc_meaning.specs.Eval as E
use Rattle.cpc_eval_values.specs.Meets.{Meets}
use Rattle.cpc_native_plans.specs.Calls.{IsNamed}
use Rattle.cpc_native_plans.specs.Parts.{goes_on}
use Rattle.cpc_native_plans.specs.Stops.{IsGiven}

-- the name that a value calls, after the arguments
pub named_ok : (names : Names) (r : Result Name Fault) (o : Option Name) (a : Answer Text) (ws : List Value) → o ≡ result_ok r → Meets (result_map_both names (λ fault. fault) r) a → IsNamed (option_map names o) (a >>= (λ x. Gives (x, ws)))
named_ok names (Ok x) o (Gives y) ws e h = let q : names x ≡ y = cc in ap (option_map names) e ∙ ap Some q
named_ok names (Ok x) o (Faults d) ws e h = let no : ⊥ = cc in absurd no
named_ok names (Ok x) o NoAnswer ws e h = tt
named_ok names (Err d) o (Gives y) ws e h = let no : ⊥ = cc in absurd no
named_ok names (Err d) o (Faults f) ws e h = ap (option_map names) e
named_ok names (Err d) o NoAnswer ws e h = tt

-- what is written is given where control goes on after it
pub goes_given : (b : Bool) (a : Answer (List E.Slot × Store)) → IsGiven b a → IsGiven b (goes_on a)
goes_given b (Gives q) h = h
goes_given b (Faults d) h = h
goes_given b NoAnswer h = tt
