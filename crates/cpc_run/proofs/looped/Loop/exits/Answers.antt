use Rattle.std.proofs.Common.{Some, subst, ◌∙◌, arith}
use Rattle.cpc_tree.specs.Primitives.{Exit}
use Rattle.cpc_store.specs.declared.values.Value.TheVariants.{Unset}
use Rattle.cpc_meaning.specs.Events.{callbacks}
use Rattle.cpc_meaning.specs.Machine.{primitive}
use Rattle.cpc_eval_values.specs.Shown.{values_of}
use Rattle.cpc_run_code.specs.Code.{stack_in}
use Rattle.cpc_run.specs.States.{Came, settles, program_in}
use Rattle.cpc_run.proofs.Takes.{one_is}
use Rattle.cpc_run.proofs.looped.Loop.exits.Goals as goal

pub returns : goal.returns
returns c = λ names new printed s.
    let l = c.args.self.now in
    subst (λ vs. Came names (Some c.exits_with.result) new printed s (settles names l s (primitive (callbacks (program_in names l)) Exit (values_of names vs) (stack_in names l.machine) s)))
    (one_is c.as_slice.result.now Unset (omega arith) ∙ c.as_slice.ensures.value) (c.exits_with.ensures names new printed s)
