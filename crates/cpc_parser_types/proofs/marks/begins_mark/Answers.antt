use Rattle.std.proofs.Common.{rules, ◌≡◌, ◌↔◌, IsTrue, Some}
use Rattle.cpc_parser_types.specs.Views.{first_mark}
use Rattle.cpc_parser_types.proofs.SameMarks.{begins_is}
use Rattle.cpc_parser_types.proofs.marks.begins_mark.Goals as goal

pub returns : goal.returns
returns c = let e : IsTrue c.eq.result ↔ (first_mark c.args.tokens.now ≡ Some c.args.mark) = search rules in λ names. begins_is names c.args.tokens.now c.args.mark c.eq.result e
