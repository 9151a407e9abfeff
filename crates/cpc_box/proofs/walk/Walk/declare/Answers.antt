use Rattle.std.proofs.Common.{◌≡◌, length, refl, arith}
use Rattle.cpc_box.proofs.Going.{declared}
use Rattle.cpc_box.proofs.walk.Walk.declare.Goals as goal

pub returns-clause-came : goal.returns-clause-came
returns-clause-came c = λ names sc chain unnamed.
    declared names c.args.kept.now c.args.self.now _ (record { name = c.args.name; of = c.args.of; is_register = c.mark.result; outer = c.args.scope }) c.len-number.result sc
    (let h : c.len-number.result ≡ length c.args.self.now.variables.items = omega arith in h) c.in_ok-push.ensures.items refl c.mark.ensures chain unnamed
