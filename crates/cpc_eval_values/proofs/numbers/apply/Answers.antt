use Rattle.std.proofs.Common.{◌≡◌, to_z, of_z, to_z-of_z, arith}
use Rattle.std.specs.Int.{w128}
use Rattle.cpc_num.specs.Number as N
use Rattle.cpc_eval_values.specs.Signed.{signed}
use Rattle.cpc_eval_values.specs.Meets.{Meets}
use Rattle.cpc_eval_values.specs.Shown.{shown}
use Rattle.cpc_eval_values.proofs.Integers.{applied}
use Rattle.cpc_eval_values.proofs.numbers.apply.Goals as goal

pub returns-in-Int : goal.returns-in-Int
returns-in-Int c = record {
  value = λ names.
      let z : to_z w128 (of_z w128 c.convert.result) ≡ c.convert.result = grind (arith, to_z-of_z) in
      let w : c.convert.result ≡ N.convert (N.promoted c.in-Int.kind) c.in-Int.number = grind (arith, to_z-of_z) in
      let h : Meets (shown names c.sign.result) (signed c.args.op (N.promoted c.in-Int.kind) c.convert.result) = rw (z, c.promoted-kind.ensures) at (c.sign.ensures.value names) in
      rw c.in-Int.is (applied c.args.op _ c.in-Int.kind c.in-Int.number c.convert.result c.in_default.not-Not w h);
  lawful = c.sign.ensures.lawful;
}
