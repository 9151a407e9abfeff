use Rattle.std.proofs.Common.{ap, sym, ◌∙◌}
use Rattle.std.proofs.lemmas.Result.{on_ok_weaker}
use Rattle.cpc_forms_code.specs.Splits.{place_of}
use Rattle.cpc_chains_event.specs.Pieces.{boxing_of}
use Rattle.cpc_chains_lines.specs.Written.{written, puts}
use Rattle.cpc_chains_opening.proofs.front.box_here.Goals as goal

pub returns-in-Start : goal.returns-in-Start
returns-in-Start c = on_ok_weaker c.box_variables.result (λ h source from to p r st.
    h source from to p r st ∙ ap (λ o. puts (written to c.args.out.now) (boxing_of r (place_of o))) (sym c.in-Start.is)) c.box_variables.ensures
