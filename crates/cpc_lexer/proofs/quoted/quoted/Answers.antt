use Rattle.std.proofs.Common.{◌≡◌, ◌<◌, ◌∙◌, length, get_or, ap, arith}
use Rattle.cpc_lexer.specs.Fronts.{quote_of, escape_of, step_state}
use Rattle.cpc_lexer.proofs.Literals.{quote_begun, quote_goes, quote_closed, quote_wrong, quote_open}
use Rattle.cpc_lexer.proofs.quoted.quoted.Goals as goal
use Rattle.cpc_lexer.proofs.quoted.quoted.Goals.{then-loop-n-test+else-text-n-ne10, else-loop-n-test}

pub loop-n-init : goal.loop-n-init
loop-n-init c = (omega arith, c.requires.some, rw c.new-held.ensures.items (quote_begun c.args.text.now (quote_of c.args.quote) c.requires.some c.requires.begun), tt)

pub returns-in-Closed : goal.returns-in-Closed
returns-in-Closed c = λ dialect.
    let s = quote_goes c.args.text.now c.loop-n.n (quote_of c.args.quote) c.loop-n.held.items (escape_of c.loop-n.escape) _ c.loop-n-test.true c.loop-n.invariant.2 c.if-text-n-ne10.true (c.in_ok-open.ensures.state ∙ ap (λ u. step_state (quote_of c.args.quote) c.take_byte.new.held.items u) c.in-Closed.is) in
    (rw c.literal.ensures.value (quote_closed dialect c.args.text.now c.loop-n.n _ c.loop-n-test.true s), c.literal.ensures.nameless)

pub returns-in-Wrong : goal.returns-in-Wrong
returns-in-Wrong c = λ dialect.
    let s = quote_goes c.args.text.now c.loop-n.n (quote_of c.args.quote) c.loop-n.held.items (escape_of c.loop-n.escape) _ c.loop-n-test.true c.loop-n.invariant.2 c.if-text-n-ne10.true (c.in_ok-open.ensures.state ∙ ap (λ u. step_state (quote_of c.args.quote) c.take_byte.new.held.items u) c.in-Wrong.is) in
    quote_wrong dialect c.args.text.now c.loop-n.n c.loop-n-test.true s

pub loop-n-preserved : goal.loop-n-preserved
loop-n-preserved c =
    let s = quote_goes c.args.text.now c.loop-n.n (quote_of c.args.quote) c.loop-n.held.items (escape_of c.loop-n.escape) _ c.loop-n-test.true c.loop-n.invariant.2 c.if-text-n-ne10.true (c.in_ok-open.ensures.state ∙ ap (λ u. step_state (quote_of c.args.quote) c.take_byte.new.held.items u) c.in-Open.is) in
    (omega arith, omega arith, s, rw c.in-Open.is at c.in_ok-open.ensures.sound)

pub returns : goal.returns
returns c = λ dialect.
    let ends : (c.loop-n.n < length c.args.text.now → get_or c.args.text.now c.loop-n.n 0 ≡ 10) = elim c.loop-n-test.branch [
      | then-loop-n-test+else-text-n-ne10 w ↦ λ lt. w.if-text-n-ne10.false
      | else-loop-n-test w ↦ λ lt. absurd (omega arith)
    ] in
    quote_open dialect c.args.text.now c.loop-n.n (quote_of c.args.quote) c.loop-n.held.items (escape_of c.loop-n.escape) c.loop-n.invariant.0 c.loop-n.invariant.1 c.loop-n.invariant.2 ends
