-- Where places are, as the definitions have it, and which slots and spots are lawful.
use Rattle.std.specs.Prelude.{ℕ, ◌<◌, ◌^◌, List, Result}
use Rattle.std.specs.List.{All}
use Rattle.std.specs.Result.{result_map_both}
use Rattle.cpc_base.specs.Bytes.{Text}
use Rattle.cpc_num.specs.declared.kinds.Fault.{Fault}
use Rattle.cpc_tree.specs.Syntax.{Ty}
use Rattle.cpc_tree.specs.declared.program.Mode.{Mode}
use Rattle.cpc_tree.specs.declared.program.Mode.TheVariants.{Native, Detached}
use Rattle.cpc_store.specs.Seen.{seen, IsLawful}
use Rattle.cpc_store.specs.Store.{Value, Code, Store, load}
use Rattle.cpc_store.specs.declared.values.Class.{Class}
use Rattle.cpc_meaning.specs.Answer.{Answer, Gives, NoAnswer, ◌>>=◌, of_result, needed}
use Rattle.cpc_meaning.specs.Layout.{scalar_of}
use Rattle.cpc_meaning.specs.Eval as E
use Rattle.cpc_eval.specs.declared.around.Slot.{Slot}
use Rattle.cpc_eval.specs.declared.around.Slot.TheVariants as S
use Rattle.cpc_eval.specs.declared.places.Spot.{Spot}
use Rattle.cpc_eval.specs.declared.places.Spot.TheVariants as P

abbrev pub spot_of : Spot → E.Spot
spot_of (P.Slot k) = E.InSlot k
spot_of (P.Cell b k) = E.InCell b.class b.number k

-- a place or a fault
abbrev pub spot_shown : Result Spot Fault → Result E.Spot Fault
spot_shown r = result_map_both spot_of (λ fault. fault) r

-- the offset is below 2 ^ 63
abbrev pub IsLawfulSpot : Spot → Type 0
IsLawfulSpot (P.Slot k) = Unit {0}
IsLawfulSpot (P.Cell b k) = k < 2 ^ 63

abbrev pub IsLawfulSlot : Slot → Type 0
IsLawfulSlot (S.Register v) = IsLawful (seen v)
IsLawfulSlot (S.Boxed n) = Unit {0}

-- the registers among these hold lawful values
abbrev pub AreLawful : List Slot → Type 0
AreLawful slots = All IsLawfulSlot slots

-- the value of a cell that holds a scalar type
abbrev pub cell_read : Ty → Class → ℕ → ℕ → Store → Answer Value
cell_read t c n k s = do
  wanted ← needed (scalar_of t)
  of_result (load wanted c n k s)

-- the code of a function by its name
abbrev pub code_named : Mode → Text → Answer Value
code_named Native x = Gives (Code x)
code_named Detached x = Gives (Code x)
code_named _ x = NoAnswer
