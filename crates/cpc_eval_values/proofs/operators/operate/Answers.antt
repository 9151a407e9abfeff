use Rattle.std.proofs.Common.{◌≡◌, to_z, of_z, to_z-of_z, arith}
use Rattle.std.specs.Int.{w128}
use Rattle.cpc_eval_values.specs.Meets.{Meets}
use Rattle.cpc_eval_values.specs.Shown.{store_of, value_of, shown}
use Rattle.cpc_eval_values.specs.Counted.{IsSize, cells_left, cells_right}
use Rattle.cpc_meaning.specs.Eval as E
use Rattle.cpc_eval_values.proofs.Operating.{operate_reference, operate_mixed, counted_reference, counted_mixed}
use Rattle.cpc_eval_values.proofs.operators.operate.Goals as goal

pub returns-in-Int-right-clause-value : goal.returns-in-Int-right-clause-value
returns-in-Int-right-clause-value c = λ names p t u told known.
    let y : to_z w128 (of_z w128 c.in-Int.number) ≡ c.in-Int.number = grind (arith, to_z-of_z) in
    let z : to_z w128 (of_z w128 c.in-Int-right.amount) ≡ c.in-Int-right.amount = grind (arith, to_z-of_z) in
    let h : Meets (shown names c.on_numbers.result) (E.on_numbers c.args.op c.in-Int.left_kind c.in-Int.number c.in-Int-right.right_kind c.in-Int-right.amount) = rw (y, z) at (c.on_numbers.ensures.value names) in
    rw (c.in-Int.is, c.in-Int-right.is) h

pub returns-in_default-right : goal.returns-in_default-right
returns-in_default-right c = record {
  value = λ names p t u told known. let n = c.in_default-right in
      let z : to_z w128 (of_z w128 c.in-Int.number) ≡ c.in-Int.number = grind (arith, to_z-of_z) in
      let s = store_of names c.args.store.now in
      let k : IsSize c.args.size (cells_right p c.args.op u) = rw (c.in-Int.is, counted_mixed names p s t u c.args.op c.in-Int.left_kind c.in-Int.number c.args.right n.not-Unset n.not-Int) at known in
      let h : Meets (shown names c.on_mixed.result) (E.on_mixed p (store_of names c.args.store.now) c.args.op u c.in-Int.number (value_of names c.args.right)) = rw z at (c.on_mixed.ensures.value names p u told k) in
      rw (c.in-Int.is, operate_mixed names p s t u c.args.op c.in-Int.left_kind c.in-Int.number c.args.right n.not-Unset n.not-Int) h;
  lawful = c.on_mixed.ensures.lawful;
}

pub returns-in_default-right-2 : goal.returns-in_default-right-2
returns-in_default-right-2 c = record {
  value = λ names p t u told known. let n = c.in_default in
      let k : IsSize c.args.size (cells_left p c.args.op t) = rw (counted_reference names p (store_of names c.args.store.now) t u c.args.op c.args.left c.args.right n.not-Unset n.not-Int) at known in
      rw (operate_reference names p (store_of names c.args.store.now) t u c.args.op c.args.left c.args.right n.not-Unset n.not-Int c.in_default-right-2.not-Unset) (c.on_pointers.ensures.value names p t told k);
  lawful = c.on_pointers.ensures.lawful;
}
