-- That the variables of pieces are registers, as statements.
use Rattle.std.specs.Prelude.{◌≡◌, []}
use Rattle.cpc_tree.specs.Syntax.{Function, Program}
use Rattle.cpc_tree.specs.Registers.{variables, addressed}
use Rattle.cpc_forms.specs.Flow.{Place}
use Rattle.cpc_convert_flat_laws.specs.Locals.{AreRegisters}
use Rattle.cpc_convert_routines.specs.Routines.{routine_of}
use Rattle.cpc_chains_event.specs.Pieces.{piece_function}
use Rattle.cpc_convert_routines.specs.Named.{IsNamed, IsCps, IsOwner}
use Rattle.cpc_convert_routines.specs.Addressed.{AddressesAreBoxes, ResultsAreScalar}

-- then a piece takes the address of no local, and all its variables are registers
abbrev pub PiecesAddressNone : Type 0
PiecesAddressNone = (p : Program) (f : Function) (l : Place) → AddressesAreBoxes p f → addressed (piece_function p (routine_of p f) l) ≡ []

abbrev pub VariablesAreRegisters : Type 0
VariablesAreRegisters =
    (p : Program) → IsNamed p → (f : Function) → IsCps p f → (l : Place) → IsOwner (routine_of p f) l → AddressesAreBoxes p f → ResultsAreScalar (routine_of p f) l
    → AreRegisters (piece_function p (routine_of p f) l) 0 (variables (piece_function p (routine_of p f) l))
