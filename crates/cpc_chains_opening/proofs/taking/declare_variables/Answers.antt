use Rattle.std.proofs.Common.{map, arith, ap, ◌+◌, ◌∙◌}
use Rattle.cpc_chains_lines.specs.Puts.{declares}
use Rattle.cpc_chains_lines.specs.Written.{written, puts}
use Rattle.cpc_chains_lines.proofs.Loading.{declares_all}
use Rattle.cpc_chains_lines.proofs.Puts.{put_at, all_put}
use Rattle.cpc_chains_opening.proofs.taking.declare_variables.Goals as goal

pub loop-number-preserved : goal.loop-number-preserved
loop-number-preserved c = λ source from to p r st all.
    let ks = c.args.numbers.now in
    let i = c.loop-number.number-index in
    put_at (declares r) ks i (i + 1) 0 (written to c.loop-number.out) _ (puts (written to c.args.out.now) (map (declares r) ks)) c.loop-number-test.true (omega arith)
    (c.loop-number.invariant source from to p r st all) (c.in_ok-declare_variable.ensures source from to p r st (all i 0 c.loop-number-test.true))

pub returns : goal.returns
returns c = λ source from to p r st all.
    let ks = c.args.numbers.now in
    let u = written to c.args.out.now in
    all_put (declares r) ks c.loop-number.number-index (written to c.loop-number.out) (puts u (map (declares r) ks)) c.loop-number-test.false (c.loop-number.invariant source from to p r st all)
    ∙ ap (puts u) (declares_all r ks)
