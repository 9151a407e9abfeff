-- The laws of cps statements, as statements.
use Rattle.std.specs.Prelude.{List}
use Rattle.cpc_base.specs.Bytes.{Text}
use Rattle.cpc_tree.specs.Syntax.{Program}
use Rattle.cpc_store.specs.Store.{Value}
use Rattle.cpc_meaning.specs.Threads.{Pending}
use Rattle.cpc_forms.specs.Split.{Position}
use Rattle.cpc_convert_routines.specs.Named.{IsNamed}
use Rattle.cpc_lifted_laws.specs.Accepted.Known.{BeginsWell}
use Rattle.cpc_lifted_laws.specs.Wait.Asked.{GivenWhereFit}

-- what is known of a call that is to begin, that its arguments fit the parameters and these are scalar, is so where they fit
abbrev pub FittingCallsBegin : Type 0
FittingCallsBegin = (p : Program) → IsNamed p → GivenWhereFit p (λ (x : Text) (vs : List Value). BeginsWell {P = Position} p (Pending x vs))
