use Rattle.std.proofs.Common.{map, arith, ap, ◌+◌, ◌∙◌}
use Rattle.cpc_chains_lines.specs.Puts.{loads}
use Rattle.cpc_chains_lines.specs.Written.{written, puts}
use Rattle.cpc_chains_lines.proofs.Loading.{loads_all}
use Rattle.cpc_chains_lines.proofs.Puts.{put_at, all_put}
use Rattle.cpc_chains_opening.proofs.taking.load_variables.Goals as goal

pub loop-number-preserved : goal.loop-number-preserved
loop-number-preserved c = λ source from to p r st all.
    let ks = c.args.numbers.now in
    let i = c.loop-number.number-index in
    put_at (loads r) ks i (i + 1) 0 (written to c.loop-number.out) _ (puts (written to c.args.out.now) (map (loads r) ks)) c.loop-number-test.true (omega arith)
    (c.loop-number.invariant source from to p r st all) (c.in_ok-load_variable.ensures source from to p r st (all i 0 c.loop-number-test.true))

pub returns : goal.returns
returns c = λ source from to p r st all.
    let ks = c.args.numbers.now in
    let u = written to c.args.out.now in
    all_put (loads r) ks c.loop-number.number-index (written to c.loop-number.out) (puts u (map (loads r) ks)) c.loop-number-test.false (c.loop-number.invariant source from to p r st all)
    ∙ ap (puts u) (loads_all r ks)
