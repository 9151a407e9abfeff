use Rattle.std.proofs.Common.{sym, arith}
use Rattle.cpc_lexer.proofs.Words.{blank_front, first_mark}
use Rattle.cpc_lexer.proofs.front.front_of.Goals as goal

pub returns-then-is_blank : goal.returns-then-is_blank
returns-then-is_blank c = blank_front c.args.dialect c.args.text.now c.requires (sym c.if-is_blank.ensures)

pub mark_or_comment-requires-clause-mark : goal.mark_or_comment-requires-clause-mark
mark_or_comment-requires-clause-mark c = first_mark _ c.if-is_blank.ensures c.if-is_in_word.ensures (omega arith) (omega arith)
