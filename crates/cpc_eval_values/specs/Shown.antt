-- The values of the code as the values that programs have, where each name has its text.
use Rattle.std.specs.Prelude.{ℕ, Result, List, map}
use Rattle.std.specs.Result.{result_map_both}
use Rattle.cpc_base.specs.declared.names.Name.{Name}
use Rattle.cpc_num.specs.declared.kinds.Fault.{Fault}
use Rattle.cpc_store.specs.declared.values.Block.{Block}
use Rattle.cpc_store.specs.declared.values.Value as V
use Rattle.cpc_store.specs.Store.{Value, Store, StoreOf}
use Rattle.cpc_store.specs.Codes.{map_store}
use Rattle.cpc_tree.specs.Erase.{Names}
use Rattle.cpc_meaning.specs.Eval.{Spot, InCell}
pub use Rattle.cpc_meaning.specs.Values.{value_of}

abbrev pub values_of : Names → List V.Value → List Value
values_of names vs = map (value_of names) vs

abbrev pub store_of : Names → StoreOf Name → Store
store_of names s = map_store names s

-- a value or a fault
abbrev pub shown : Names → Result V.Value Fault → Result Value Fault
shown names r = result_map_both (value_of names) (λ fault. fault) r

-- a cell of a block
abbrev pub spot_of : Block × ℕ → Spot
spot_of p = InCell p.0.class p.0.number p.1

-- a cell of a block or a fault
abbrev pub spot_shown : Result (Block × ℕ) Fault → Result Spot Fault
spot_shown r = result_map_both spot_of (λ fault. fault) r
