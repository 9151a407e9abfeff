use Rattle.std.proofs.Common.{ap, sym, not, ◌&&◌, ◌++◌, ◌∙◌}
use Rattle.std.proofs.lemmas.Result.{IfOk-weaker}
use Rattle.cpc_forms_code.specs.Splits.{place_of}
use Rattle.cpc_convert_routines.specs.Routines.{is_parameter, is_plain, chosen, closure_of}
use Rattle.cpc_chains_event.specs.Pieces as P
use Rattle.cpc_chains_opening.proofs.kept.begun.Goals as goal

pub returns-in-Start : goal.returns-in-Start
returns-in-Start c = IfOk-weaker c.begun_here.result _ _ (λ all h source from to p r st v k.
    h source from to p r st v ∙ (ap (λ ks. chosen (λ n. not (is_parameter r.function n) && is_plain r n) ks ++ r.boxes) (k ∙ ap (λ o. closure_of r (place_of o)) c.in-Start.is) ∙ ap (λ o. P.begun r (place_of o)) (sym c.in-Start.is))) c.begun_here.ensures
