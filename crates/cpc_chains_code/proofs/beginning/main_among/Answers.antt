use Rattle.std.proofs.Common.{sym, ◌∙◌}
use Rattle.cpc_tree.specs.Erase.{in_table}
use Rattle.cpc_meaning.specs.Start.{main_name}
use Rattle.cpc_chains_code.proofs.Firsts.{found_here, found_later, found_none}
use Rattle.cpc_chains_code.proofs.beginning.main_among.Goals as goal

pub returns-then-is_main : goal.returns-then-is_main
returns-then-is_main c =
    sym (c.loop-called.invariant ∙ found_here (in_table c.args.texts.now) main_name c.args.functions.now c.loop-called.called-index c.called-item.result c.loop-called-test.true c.called-item.is (sym c.is_main.ensures ∙ c.if-is_main.true))

pub loop-called-preserved : goal.loop-called-preserved
loop-called-preserved c =
    c.loop-called.invariant ∙ found_later (in_table c.args.texts.now) main_name c.args.functions.now c.loop-called.called-index c.called-item.result c.loop-called-test.true c.called-item.is (sym c.is_main.ensures ∙ c.if-is_main.false)

pub returns : goal.returns
returns c = sym (c.loop-called.invariant ∙ found_none (in_table c.args.texts.now) main_name c.args.functions.now c.loop-called.called-index c.loop-called-test.false)
