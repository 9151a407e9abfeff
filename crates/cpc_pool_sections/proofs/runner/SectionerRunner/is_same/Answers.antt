use Rattle.cpc_pool_sections.proofs.Ending.{same_ends}
use Rattle.cpc_pool_sections.proofs.runner.SectionerRunner.is_same.Goals as goal

pub returns-clause-ends : goal.returns-clause-ends
returns-clause-ends g c = λ same e. same_ends g.B.Assigned.program g.B.Assigned.bound _ _ same e
