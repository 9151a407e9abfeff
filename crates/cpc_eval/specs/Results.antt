-- What expressions give, without their types.
use Rattle.std.specs.Prelude.{Result}
use Rattle.std.specs.Result.{result_map_both}
use Rattle.cpc_num.specs.declared.kinds.Fault.{Fault}
use Rattle.cpc_tree.specs.Erase.{Names}
use Rattle.cpc_store.specs.Store.{Value}
use Rattle.cpc_meaning.specs.Eval as E
use Rattle.cpc_eval_values.specs.Shown.{value_of}
use Rattle.cpc_eval.specs.declared.results.Given.{Given}
use Rattle.cpc_eval.specs.declared.results.Located.{Located}
use Rattle.cpc_eval.specs.Spots.{spot_of}

-- a value or a fault
abbrev pub given_shown : Names → Result Given Fault → Result Value Fault
given_shown names r = result_map_both (λ (g : Given). value_of names g.value) (λ fault. fault) r

-- a place or a fault
abbrev pub located_shown : Result Located Fault → Result E.Spot Fault
located_shown r = result_map_both (λ (l : Located). spot_of l.spot) (λ fault. fault) r
