use Rattle.std.proofs.Common.{◌≡◌, ◌++◌, [], ◌∷◌, get_or, ◌<◌, length, None, sym, ap, ◌∙◌, arith}
use Rattle.cpc_tree.specs.Tokens.{punctuator_spelling, punctuator_of}
use Rattle.cpc_tree.specs.Pieces.{Sign}
use Rattle.std.specs.Option.{option_map}
use Rattle.cpc_lexer.proofs.Steps.{stray}
use Rattle.cpc_lexer.proofs.Marks.{mark_begun, mark_goes, mark_ends}
use Rattle.cpc_lexer.proofs.mark.mark.Goals as goal
use Rattle.cpc_lexer.proofs.mark.mark.Goals.{else-loop-n-test, then-loop-n-test+in_default-longer}

pub returns-in_default : goal.returns-in_default
returns-in_default c = λ dialect. (stray dialect c.args.text.now 0 c.requires.some (c.requires.mark ∙ ap (λ o. option_map Sign o) (sym c.one_byte.ensures ∙ c.in_default.is)), (omega arith, omega arith))

pub loop-n-init : goal.loop-n-init
loop-n-init c =
    let m = mark_begun c.args.text.now c.in-Some.first c.requires.some c.requires.mark c.in-Some.ensures in
    (omega arith, c.requires.some, m.0, m.1)

pub loop-n-preserved : goal.loop-n-preserved
loop-n-preserved c =
    let m = mark_goes c.args.text.now c.loop-n.n c.loop-n.mark c.in-Some-longer.longer c.requires.no_comment c.loop-n-test.true (c.loop-n.invariant.2, c.loop-n.invariant.3) c.in-Some-longer.ensures in
    (omega arith, omega arith, m.0, m.1)

pub returns : goal.returns
returns c = λ dialect.
    let ends : (c.loop-n.n < length c.args.text.now → None ≡ punctuator_of (punctuator_spelling c.loop-n.mark ++ get_or c.args.text.now c.loop-n.n 0 ∷ [])) = elim c.loop-n-test.branch [
      | else-loop-n-test w ↦ λ lt. absurd (omega arith)
      | then-loop-n-test+in_default-longer w ↦ λ lt. sym w.in_default-longer.is ∙ w.longer.ensures
    ] in
    (mark_ends dialect c.args.text.now c.loop-n.n c.loop-n.mark c.requires.no_comment c.loop-n.invariant.0 c.loop-n.invariant.1 (c.loop-n.invariant.2, c.loop-n.invariant.3) ends, tt)
