use Rattle.cpc_num.proofs.ResultLemmas as lemmas
use Rattle.cpc_num.proofs.laws.division_truncates.Goals as goal

pub returns : goal.returns
returns c = lemmas.division_truncates
