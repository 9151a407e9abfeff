use Rattle.std.proofs.Common.{[], ap, ◌∙◌}
use Rattle.cpc_run_code.specs.Code.{stack_in}
use Rattle.cpc_run.specs.States.{where_running, program_in}
use Rattle.cpc_run.proofs.Hosted.{ok_answers}
use Rattle.cpc_run.proofs.Silent.{made_silent}
use Rattle.cpc_run.proofs.looped.Loop.make.Goals as goal

pub returns-clause-made : goal.returns-clause-made
returns-clause-made g c = ok_answers _ _ c.idles.result (λ m h. (
  [],
  λ names fits spells sent s within stands rest left.
      let l = c.args.self.now in (
        h names fits sent s within stands,
        made_silent g.R.HostRule.answers (program_in names l) s rest m left (stands.running ∙ ap (λ b. where_running b (stack_in names l.machine)) c.if-self.false),
      ),
)) c.idles.ensures.made
