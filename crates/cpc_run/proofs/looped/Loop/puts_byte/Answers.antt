use Rattle.std.proofs.Common.{[], ◌∷◌, ◌++◌, subst}
use Rattle.cpc_meaning.specs.Machine.{prints}
use Rattle.cpc_meaning.specs.Trees.{trees}
use Rattle.cpc_run_code.specs.Code.{stack_in}
use Rattle.cpc_run.specs.States.{Did, settles, program_in}
use Rattle.cpc_run.proofs.looped.Loop.puts_byte.Goals as goal

pub returns-clause-did : goal.returns-clause-did
returns-clause-did c = λ names fits sent s acted.
    let l = c.args.self.now in
    subst (λ b. Did names c.prints.result c.prints.new.self (sent ++ c.prints.new.pending.items) s (settles names l s (prints (trees (program_in names l)) (stack_in names l.machine) (b ∷ []) s)))
    (c.byte.ensures names) (c.prints.ensures.did names fits sent s acted)
