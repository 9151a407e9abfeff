use Rattle.std.proofs.Common.{length}
use Rattle.cpc_parser_types.proofs.base.+longer.Given as goal

abbrev pub decreases-longer : goal.decreases-longer
decreases-longer l = length l.tokens.now
