use Rattle.std.proofs.Common.{◌∙◌, take, sym}
use Rattle.cpc_lexer.proofs.Words.{run_digit, run_letter, run_front, first_of}
use Rattle.cpc_lexer.proofs.word.run.Goals as goal

pub returns-then-is_ascii_digit : goal.returns-then-is_ascii_digit
returns-then-is_ascii_digit c =
    let f = first_of c.args.text.now c.run_length-n.result c.requires.some c.requires.word c.run_length-n.ensures in
    run_front c.args.dialect c.args.text.now c.run_length-n.result c.number.result c.requires.some c.requires.word c.run_length-n.ensures
    (c.number.ensures.piece ∙ sym (run_digit c.args.dialect (take c.run_length-n.result c.args.text.now) f.0 (sym c.if-is_ascii_digit.ensures.value))) c.number.ensures.nameless c.number.ensures.number

pub returns : goal.returns
returns c =
    let f = first_of c.args.text.now c.run_length-n.result c.requires.some c.requires.word c.run_length-n.ensures in
    run_front c.args.dialect c.args.text.now c.run_length-n.result c.name_or_keyword.result c.requires.some c.requires.word c.run_length-n.ensures
    (c.name_or_keyword.ensures.piece ∙ sym (run_letter c.args.dialect (take c.run_length-n.result c.args.text.now) f.0 (sym c.if-is_ascii_digit.ensures.value))) c.name_or_keyword.ensures.nameless c.name_or_keyword.ensures.number
