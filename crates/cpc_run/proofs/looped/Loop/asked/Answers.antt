use Rattle.std.proofs.Common.{◌++◌, [], subst, sym}
use Rattle.cpc_meaning.specs.Events.{callbacks}
use Rattle.cpc_meaning.specs.Machine.{asked_by, primitive}
use Rattle.cpc_tree.specs.PrimitiveNames.{primitive_of}
use Rattle.cpc_native_builtins.specs.Builtins.{asked_of}
use Rattle.cpc_eval_values.specs.Shown.{values_of}
use Rattle.cpc_run.specs.Answers.{Answered, CameAnswered}
use Rattle.cpc_run_code.specs.Code.{stack_in}
use Rattle.cpc_run.specs.States.{Did, settles, program_in}
use Rattle.cpc_run.proofs.Hosted.{ok_is, ok_answers}
use Rattle.cpc_run.proofs.Silent.{primitive_silent}
use Rattle.cpc_run.proofs.looped.Loop.asked.Goals as goal

pub returns-in-Builtin-clause-did : goal.returns-in-Builtin-clause-did
returns-in-Builtin-clause-did g c = ok_is _ c.calls_builtin.result (λ r e. (
  [],
  λ names fits spells sent s made acted rest left.
      let l = c.args.self.now in
      let k = stack_in names l.machine in
      let vs = values_of names c.args.request.now.args.items in
      let after = sent ++ c.calls_builtin.new.pending.items in
      let o = settles names l s (primitive (callbacks (program_in names l)) (primitive_of c.in-Builtin.builtin) vs k s) in
      subst (λ call. CameAnswered names g.R.HostRule.answers [] rest r c.calls_builtin.new.self after s (settles names l s (asked_by (callbacks (program_in names l)) k s (asked_of names call) vs))) (sym c.in-Builtin.is) (
        subst (λ x. Did names x c.calls_builtin.new.self after s o) e (c.calls_builtin.ensures.did names fits spells sent s made acted),
        subst (λ ys. Answered g.R.HostRule.answers [] ys s o) left (primitive_silent g.R.HostRule.answers (program_in names l) s (primitive_of c.in-Builtin.builtin) vs k),
      ),
))

pub returns-in-Host-clause-did : goal.returns-in-Host-clause-did
returns-in-Host-clause-did g c = ok_answers _ _ c.calls_host.result (λ r h. (
  h.0,
  λ names fits spells sent s made acted rest left.
      let l = c.args.self.now in
      subst (λ call. CameAnswered names g.R.HostRule.answers h.0 rest r c.calls_host.new.self (sent ++ c.calls_host.new.pending.items) s (settles names l s (asked_by (callbacks (program_in names l)) (stack_in names l.machine) s (asked_of names call) (values_of names c.args.request.now.args.items)))) (sym c.in-Host.is)
      (h.1 names fits spells sent s acted rest left),
)) c.calls_host.ensures.did
