use Rattle.std.proofs.Common.{ap, ◌&&◌, ◌∙◌, ◌++◌, get_or, arith}
use Rattle.cpc_convert_routines.specs.Routines.{is_parameter, is_plain}
use Rattle.cpc_chains_event.specs.Rows.{number_where}
use Rattle.cpc_convert_rows.proofs.Turned.{chosen_left}
use Rattle.cpc_chains_opening.proofs.Knowing.{chosen_done}
use Rattle.cpc_chains_opening.proofs.kept.passed.Goals as goal

pub loop-number-preserved : goal.loop-number-preserved
loop-number-preserved c = λ source from to p r st all.
    let i = c.loop-number.number-index in
    chosen_left (λ k. is_parameter r.function k && is_plain r k) c.args.kept.now i c.loop-number.all.items c.add_if.new.all.items (omega arith)
    (c.in_ok-add_if.ensures ∙ ap (λ b. c.loop-number.all.items ++ number_where b (get_or c.args.kept.now i 0)) (c.is_passed.ensures source from to p r st (all i 0 (omega arith))))
    ∙ c.loop-number.invariant source from to p r st all

pub returns : goal.returns
returns c = λ source from to p r st all. chosen_done (λ k. is_parameter r.function k && is_plain r k) c.args.kept.now c.loop-number.number-index c.loop-number.all.items _ (omega arith) (c.loop-number.invariant source from to p r st all)
