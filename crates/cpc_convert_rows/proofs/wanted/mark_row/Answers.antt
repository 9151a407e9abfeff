use Rattle.std.proofs.Common.{◌<◌, sym, subst}
use Rattle.cpc_forms_code.specs.Splits.{place_of}
use Rattle.cpc_convert_rows.proofs.Wanting.{own_marked, other_marked}
use Rattle.cpc_convert_rows.proofs.wanted.mark_row.Goals as goal

pub returns-then-is_own-clause-each : goal.returns-then-is_own-clause-each
returns-then-is_own-clause-each c = λ p r k is below.
    own_marked p r (place_of c.args.owner) c.args.number k c.args.following c.step-step.result _ _ _ c.is_own.result (c.is_own.ensures r is) c.if-is_own.true (c.step-step.ensures r is)
    (c.mark_some.ensures.each k below) (c.mark_fall.ensures.each k (subst (λ n. k < n) (sym c.mark_some.ensures.long) below))

pub returns-else-is_own-clause-each : goal.returns-else-is_own-clause-each
returns-else-is_own-clause-each c = λ p r k is below. other_marked p r (place_of c.args.owner) c.args.number k c.args.following _ c.is_own.result (c.is_own.ensures r is) c.if-is_own.false
