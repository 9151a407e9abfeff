use Rattle.std.proofs.Common.{◌∙◌}
use Rattle.cpc_chains_lines.specs.Written.{written}
use Rattle.cpc_chains_opening.proofs.Made.{words_same}
use Rattle.cpc_chains_opening.proofs.front.declare_used.Goals as goal

pub returns : goal.returns
returns c = λ source from to p r st w.
    c.in_ok-declare_words.ensures source from to p r st
    ∙ words_same (written to c.args.out.now) r.function.result _ _ _ _ _ _ (c.gives-gives.ensures r w.stepped) (c.any_calls-calls.ensures source from to p r st w.entries) (c.any_returns-returns.ensures r w.stepped)
