use Rattle.cpc_check_items.proofs.Grouped.{global_whole, function_whole}
use Rattle.cpc_check_items.proofs.wholes.parts_are_wholes.Goals as goal

pub returns-clause-globals : goal.returns-clause-globals
returns-clause-globals c = global_whole

pub returns-clause-functions : goal.returns-clause-functions
returns-clause-functions c = function_whole
