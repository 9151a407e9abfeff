-- What is asked of a program besides what is known of it, so that its pieces wait and call.
use Rattle.std.specs.Prelude.{ℕ, ◌+◌, ◌*◌, ◌≤◌, List, length}
use Rattle.std.specs.List.{All}
use Rattle.cpc_base.specs.Bytes.{Text}
use Rattle.cpc_store.specs.Store.{Value}
use Rattle.cpc_tree.specs.Registers.{variables}
use Rattle.cpc_tree.specs.Syntax.{Function, Program}
use Rattle.cpc_tree.specs.Typing.{parameter_types}
use Rattle.cpc_check_laws.specs.Kept.Fits.{FitAll}
use Rattle.cpc_convert_routines.specs.Named.{IsCps}
use Rattle.cpc_convert_image_laws.specs.Held.{IsHeld}
use Rattle.cpc_lifted_laws.specs.Accepted.Known.{Stays, AreScalar}

-- what is to be given of the arguments of a call of a cps function is so where each fits the type of its parameter, these are scalar, and the
-- arguments are held
abbrev pub GivenWhereFit : Program → (Text → List Value → Type 0) → Type 0
GivenWhereFit p given = (g : Function) (vs : List Value) → IsCps p g → FitAll (parameter_types g) vs → AreScalar (parameter_types g) → All (IsHeld (Stays p)) vs → given g.called vs

-- the bound of the steps of a piece before control goes on, or it gives a frame to the driver, is wide enough for the variables of each cps
-- function: where one calls another, those of both are put into frames
abbrev pub IsWide : Program → ℕ → Type 0
IsWide p leads = (g : Function) → IsCps p g → 16 + 3 * length (variables g) ≤ leads
