use Rattle.std.proofs.Common.{rules}
use Rattle.cpc_lexer.proofs.Marks.{no_mark}
use Rattle.cpc_lexer.proofs.mark.one_byte.Goals as goal

pub returns-in_default : goal.returns-in_default
returns-in_default c = search (rules, no_mark)
