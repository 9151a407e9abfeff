use Rattle.std.proofs.Common.{length}
use Rattle.cpc_lexer.proofs.Lists.{IsCutUpTo}
use Rattle.cpc_lexer.proofs.text.tokens.Given as goal

abbrev pub invariant-loop-rest : goal.invariant-loop-rest
invariant-loop-rest l = IsCutUpTo l.dialect l.text l.fn.names l.names l.tokens.items l.place l.rest

abbrev pub decreases-loop-rest : goal.decreases-loop-rest
decreases-loop-rest l = length l.rest
