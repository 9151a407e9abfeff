use Rattle.std.proofs.Common.{◌++◌, Some, sym, subst}
use Rattle.cpc_meaning.specs.Events.{callbacks}
use Rattle.cpc_meaning.specs.Machine.{primitive}
use Rattle.cpc_tree.specs.PrimitiveNames.{primitive_of}
use Rattle.cpc_eval_values.specs.Shown.{values_of}
use Rattle.cpc_run_code.specs.Code.{stack_in}
use Rattle.cpc_run.specs.States.{Came, settles, program_in}
use Rattle.cpc_run.proofs.looped.Loop.calls_builtin.Goals as goal

pub returns-in-Exit-clause-did : goal.returns-in-Exit-clause-did
returns-in-Exit-clause-did g c = λ names fits spells sent s made acted.
    let l = c.args.self.now in
    let after = sent ++ c.args.pending.now.items in
    subst (λ b. Came names (Some c.exits.result) l after s (settles names l s (primitive (callbacks (program_in names l)) (primitive_of b) (values_of names c.args.request.now.args.items) (stack_in names l.machine) s))) (sym c.in-Exit.is)
    (c.exits.ensures names l after s)
