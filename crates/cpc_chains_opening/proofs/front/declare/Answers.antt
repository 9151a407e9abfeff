use Rattle.std.proofs.Common.{sym, subst, All}
use Rattle.cpc_forms_code.specs.Splits.{place_of}
use Rattle.cpc_chains_lines.specs.Around.{IsVariable}
use Rattle.cpc_chains_lines.specs.Written.{written}
use Rattle.cpc_chains_opening.proofs.Knowing.{begun_within}
use Rattle.cpc_chains_opening.proofs.Made.{declared_both}
use Rattle.cpc_chains_opening.proofs.front.declare.Goals as goal

pub returns : goal.returns
returns c = λ source from to p r st w kept nodes leaders.
    let l = place_of c.args.owner in
    declared_both p r l c.args.nodes.now c.args.leaders.now (written to c.args.out.now) (written to c.declare_used.new.out) (written to c.declare_begun.new.out) nodes leaders
    (c.in_ok-declare_used.ensures source from to p r st w)
    (c.in_ok-declare_begun.ensures source from to p r st (subst (All (IsVariable c.args.around)) (sym kept) (w.complete.kept l)) (begun_within source from to p r c.args.around c.args.stepped.now l st w) kept)
