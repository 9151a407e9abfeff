use Rattle.std.proofs.Common.{rules, ◌≡◌, ◌↔◌, IsTrue, Some}
use Rattle.cpc_parser_types.specs.Views.{first_word}
use Rattle.cpc_parser_types.proofs.SameMarks.{word_is}
use Rattle.cpc_parser_types.proofs.marks.begins_word.Goals as goal

pub returns : goal.returns
returns c = let e : IsTrue c.eq.result ↔ (first_word c.args.tokens.now ≡ Some c.args.word) = search rules in λ names. word_is names c.args.tokens.now c.args.word c.eq.result e
