use Rattle.cpc_parser.proofs.Ends.{at_left, at_end}
use Rattle.cpc_parser.proofs.program.place_before.Goals as goal

pub returns-in-Some : goal.returns-in-Some
returns-in-Some c = λ names front rest e l.
    let x = c.in-Some.ensures.lookup in
    at_left names c.args.tokens.now c.in-Some.token.now front rest c.saturating_sub.result c.args.left c.args.end e l c.saturating_sub.ensures x.3.0 x.1

pub returns-in-None : goal.returns-in-None
returns-in-None c = λ names front rest e l. let x = c.in-None.ensures.lookup in at_end names c.args.tokens.now front rest c.saturating_sub.result c.args.left c.args.end e l c.saturating_sub.ensures x.3
