-- Where arguments fit, their call begins well.
use Rattle.std.proofs.Common.{◌≡◌, Some, sym, ◌∙◌, subst}
use Rattle.cpc_tree.specs.Syntax.{Function}
use Rattle.cpc_tree.specs.Typing.{parameter_types}
use Rattle.cpc_check_laws.specs.Kept.Fits.{FitAll}
use Rattle.cpc_lifted_laws.specs.Accepted.Known.{AreScalar}
use Rattle.cpc_lifted_laws.specs.Wait.Laws.{FittingCallsBegin}

pub fitting_calls : FittingCallsBegin
fitting_calls p names g vs cps fits scalar held h found =
    let same : g ≡ h = let e : Some g ≡ Some h = sym (names.found g cps.has) ∙ found in cc in
    subst (λ (k : Function). FitAll (parameter_types k) vs × AreScalar (parameter_types k)) same (fits, scalar)
