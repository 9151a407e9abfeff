-- Values that primitives and functions of the host take.
use Rattle.std.specs.Prelude.{◌^◌, Bool, true, nat_lt}
use Rattle.cpc_num.specs.Number.{IsOf, is_of}
use Rattle.cpc_num.specs.declared.kinds.Kind.TheVariants.{Long}
use Rattle.cpc_store.specs.Store.{ValueOf, Whole, At, Code}

-- an integer that is one of long
abbrev pub IsNumber : {C : Type 0} → ValueOf C → Type 0
IsNumber (Whole kind z) = IsOf Long z
IsNumber _ = ⊥

-- the code of a function
abbrev pub IsCode : {C : Type 0} → ValueOf C → Type 0
IsCode (Code f) = Unit {0}
IsCode _ = ⊥

-- whether a value is lawful
abbrev pub is_lawful : {C : Type 0} → ValueOf C → Bool
is_lawful (Whole kind z) = is_of kind z
is_lawful (At c n k) = nat_lt k (2 ^ 63)
is_lawful _ = true
