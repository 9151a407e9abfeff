use Rattle.std.proofs.Common.{◌≡◌, ◌∙◌, ◌<◌, true, false, length, get_or, sym, refl, arith}
use Rattle.std.proofs.lemmas.List.{take_rest}
use Rattle.cpc_tree.specs.Pieces.{is_digit_of}
use Rattle.cpc_lexer.proofs.Words.{too_wide_at, digits_end}
use Rattle.cpc_lexer.proofs.integer.of_base.Goals as goal
use Rattle.cpc_lexer.proofs.integer.of_base.Goals.{else-loop-n-test, then-loop-n-test+in_default}

pub returns-in_default-with_digit-clause-piece : goal.returns-in_default-with_digit-clause-piece
returns-in_default-with_digit-clause-piece c = too_wide_at c.args.base c.args.numeral.now c.loop-n.n c.loop-n.value c.in-Some.digit c.requires c.loop-n-test.true c.loop-n.invariant.1 (c.in-Some.ensures.digit.0 refl) c.loop-n.invariant.2 c.in-Some.ensures.value c.in_default-with_digit.ensures.wide

pub returns-clause-piece : goal.returns-clause-piece
returns-clause-piece c =
    let no_digit : (c.loop-n.n < length c.args.numeral.now → is_digit_of c.args.base (get_or c.args.numeral.now c.loop-n.n 0) ≡ true → ⊥) = elim c.loop-n-test.branch [
      | else-loop-n-test w ↦ λ lt. absurd (omega arith)
      | then-loop-n-test+in_default w ↦ λ lt e. let h : false ≡ true = w.in_default.ensures.digit.1 e in absurd cc
    ] in
    (rw (take_rest c.args.numeral.now c.loop-n.n) at c.with_suffix.ensures.piece) ∙ sym (digits_end c.args.base c.args.numeral.now c.loop-n.n c.loop-n.value c.loop-n.invariant.0 c.loop-n.invariant.1 no_digit c.loop-n.invariant.2 c.loop-n.invariant.3 c.if-n-eq0.false)
