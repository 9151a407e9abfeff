use Rattle.std.proofs.Common.{◌≡◌, pos, ◌-ℤ◌, to_z, of_z, to_z-of_z, arith}
use Rattle.std.specs.Int.{w128}
use Rattle.cpc_eval_values.specs.Meets.{Meets}
use Rattle.cpc_eval_values.specs.Shown.{store_of, value_of, shown}
use Rattle.cpc_eval_values.specs.Counted.{IsSize}
use Rattle.cpc_meaning.specs.Eval as E
use Rattle.cpc_num.specs.Number.{IsOf}
use Rattle.cpc_num.proofs.KindLemmas.{IsOfSome-IsOf}
use Rattle.cpc_eval_values.proofs.Sized.{negated_passed}
use Rattle.cpc_eval_values.proofs.Operating.{distance_meets, ordered_meets, unruled}
use Rattle.cpc_eval_values.proofs.operators.on_pointers.Goals as goal

pub returns-in-Int-clause-value : goal.returns-in-Int-clause-value
returns-in-Int-clause-value c = λ names p t told known.
    let z : to_z w128 (of_z w128 c.in-Int.number) ≡ c.in-Int.number = grind (arith, to_z-of_z) in
    let k : IsSize c.args.size (E.element_size p t) = rw c.in-Add.is at known in
    let h : Meets (shown names c.moved_elements.result) (E.moved_by p (store_of names c.args.store.now) t (value_of names c.args.left) c.in-Int.number) = rw z at (c.moved_elements.ensures.value names p t k) in
    rw (c.in-Add.is, c.in-Int.is) h

pub returns-in-Int-right-clause-value : goal.returns-in-Int-right-clause-value
returns-in-Int-right-clause-value c = λ names p t told known.
    let k : IsSize c.args.size (E.element_size p t) = rw c.in-Sub.is at known in
    let n : to_z w128 (of_z w128 c.in-Int-right.number) ≡ c.in-Int-right.number = grind (arith, to_z-of_z) in
    let lawful : IsOf c.in-Int-right.field-0 c.in-Int-right.number = rw c.in-Int-right.is at c.requires.right in
    let z = negated_passed (to_z w128 (of_z w128 c.in-Int-right.number)) c.in-Int-right.number n (IsOfSome-IsOf c.in-Int-right.field-0 c.in-Int-right.number lawful) in
    let h : Meets (shown names c.moved_elements-in-Int-right.result) (E.moved_by p (store_of names c.args.store.now) t (value_of names c.args.left) (pos 0 -ℤ c.in-Int-right.number)) = rw z at (c.moved_elements-in-Int-right.ensures.value names p t k) in
    rw (c.in-Sub.is, c.in-Int-right.is) h

pub returns-in_default-right-2 : goal.returns-in_default-right-2
returns-in_default-right-2 c = record {
  value = λ names p t told known.
      let k : IsSize c.args.size (E.element_size p t) = rw c.in-Sub.is at known in
      rw c.in-Sub.is (distance_meets p (store_of names c.args.store.now) t names (value_of names c.args.left) c.args.right _ c.in_default-right-2.not-Int (c.distance_by.ensures.value names p t k));
  lawful = c.distance_by.ensures.lawful;
}

pub returns-in-Lt-clause-value : goal.returns-in-Lt-clause-value
returns-in-Lt-clause-value c = λ names p t told known.
    ordered_meets p (store_of names c.args.store.now) t c.args.op (value_of names c.args.left) (value_of names c.args.right) _ c.in-Lt.is (c.ordered.ensures.value names)

pub returns-in_default-clause-value : goal.returns-in_default-clause-value
returns-in_default-clause-value c = λ names p t told known.
    let n = c.in_default in
    rw (unruled p (store_of names c.args.store.now) t c.args.op (value_of names c.args.left) (value_of names c.args.right) n.not-Add n.not-Sub n.not-Lt n.not-Le n.not-Gt n.not-Ge n.not-Eq n.not-Ne) tt
