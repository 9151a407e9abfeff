-- The values of the code as values of cells, and which of them are lawful.
use Rattle.std.specs.Prelude.{◌<◌, ◌^◌, Result}
use Rattle.std.specs.Result.{result_map_both}
use Rattle.cpc_base.specs.declared.names.Name.{Name}
use Rattle.cpc_num.specs.declared.kinds.Fault.{Fault}
use Rattle.cpc_num.specs.Number.{IsOf}
use Rattle.cpc_store.specs.declared.values.Value.{Value}
use Rattle.cpc_store.specs.declared.values.Value.TheVariants as V
use Rattle.cpc_store.specs.Store.{ValueOf, Unset, Whole, Null, At, Code, Cond}

-- the value that the code's value stands for
abbrev pub seen : Value → ValueOf Name
seen V.Unset = Unset
seen (V.Int kind z) = Whole kind z
seen V.Null = Null
seen (V.At block offset) = At block.class block.number offset
seen (V.Code name) = Code name
seen (V.Cond n) = Cond n

-- the number is one of its kind, and the offset is below 2 ^ 63
abbrev pub IsLawful : {C : Type 0} → ValueOf C → Type 0
IsLawful (Whole kind z) = IsOf kind z
IsLawful (At c n k) = k < 2 ^ 63
IsLawful _ = Unit {0}

-- the answer of a load, as the definitions have it
abbrev pub seen_result : Result Value Fault → Result (ValueOf Name) Fault
seen_result r = result_map_both seen (λ fault. fault) r

-- an answer with another value in place of its own
abbrev pub result_with : {T U E : Type 0} → U → Result T E → Result U E
result_with u r = result_map_both (λ _. u) (λ e. e) r
