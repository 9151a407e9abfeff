use Rattle.std.proofs.lemmas.Option.{slice_get-get_or}
use Rattle.cpc_split.proofs.Once.{step_inside}
use Rattle.cpc_split.proofs.counting.step_at.Goals as goal

pub returns-clause-yes : goal.returns-clause-yes
returns-clause-yes c = (step_inside c.args.entry c.args.steps.now c.requires.inside c.args.node _ (slice_get-get_or c.args.steps.now c.args.node _ c.requires.within)).yes

pub returns-clause-no : goal.returns-clause-no
returns-clause-no c = (step_inside c.args.entry c.args.steps.now c.requires.inside c.args.node _ (slice_get-get_or c.args.steps.now c.args.node _ c.requires.within)).no

pub returns-clause-call : goal.returns-clause-call
returns-clause-call c = (step_inside c.args.entry c.args.steps.now c.requires.inside c.args.node _ (slice_get-get_or c.args.steps.now c.args.node _ c.requires.within)).call
