use Rattle.std.proofs.Common.{◌∙◌}
use Rattle.cpc_check_names.proofs.Spelled.{begins_is}
use Rattle.cpc_check_names.proofs.reserved.begins_with.Goals as goal

pub returns : goal.returns
returns c = c.starts_with.ensures.value ∙ begins_is c.args.start.now c.args.text.now
