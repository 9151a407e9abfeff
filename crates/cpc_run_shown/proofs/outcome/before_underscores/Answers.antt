use Rattle.std.proofs.Common.{sym, ap, ◌∙◌}
use Rattle.cpc_base.proofs.Lists.{rest_whole}
use Rattle.cpc_meaning.specs.Start.{begins_with_underscores}
use Rattle.cpc_run_shown.proofs.Underscores.{one_more}
use Rattle.cpc_run_shown.proofs.outcome.before_underscores.Goals as goal

pub loop-i-preserved : goal.loop-i-preserved
loop-i-preserved c =
    let text = c.args.text.now in
    let none = ap begins_with_underscores (sym (rest_whole text c.loop-i.i)) ∙ sym c.begins_with_underscores.ensures ∙ c.if-begins_with_underscores.false in
    one_more text c.loop-i.i c.loop-i-test.true none c.loop-i.invariant
