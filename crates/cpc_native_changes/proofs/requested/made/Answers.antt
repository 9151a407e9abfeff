use Rattle.std.proofs.Common.{◌≡◌, ◌-◌, ◌^◌, min, Some, None, true, false, pos, sym, subst, arith}
use Rattle.std.specs.Prelude.{int_lt, unsigned_abs, if◌then◌else◌, ℤ}
use Rattle.std.proofs.lemmas.Int.{ints, to_z-of_z}
use mir.Val.{to_z, of_z}
use mir.Syntax.{w128}
use Rattle.cpc_native_points.specs.Finds.{found_of}
use Rattle.cpc_store.specs.Store as S
use Rattle.cpc_store.specs.declared.values.Value.{Value}
use Rattle.cpc_meaning.specs.Act as M
use Rattle.cpc_meaning.specs.Section.{allocated}
use Rattle.cpc_eval_values.specs.Shown.{value_of, store_of}
use Rattle.cpc_eval.specs.Around.{context_of}
use Rattle.cpc_native_plans.specs.Stops.{IsGiven}
use Rattle.cpc_native_changes.specs.Foreseen.{MakesSo}
use Rattle.cpc_native_changes.specs.declared.changes.Change.TheVariants as C
use Rattle.cpc_native_changes.proofs.Blocks.{makes_so, makes_not, next_pointer}
use Rattle.cpc_native_changes.proofs.requested.made.Goals as goal

pub returns-then-is_delivered-clause-value : goal.returns-then-is_delivered-clause-value
returns-then-is_delivered-clause-value c = λ names told n.
    let k = context_of names c.args.around.now in
    let there = found_of names c.args.there in
    let s = c.args.around.now.store.now in
    let z = c.in-Int.length in
    let same : to_z w128 (of_z w128 z) ≡ z = grind (arith, ints, to_z-of_z) in
    let T : ℤ → Type 0 = λ y. Some c.in-Some.cells ≡ (if int_lt y (pos 0) then None else Some (min (unsigned_abs y) (2 ^ 64 - 1))) in
    let P : Value → Type 0 = λ v. MakesSo k (M.AtStatement there) (C.Makes c.in-Some.cells) (allocated c.args.class (value_of names v) (store_of names s)) in
    let Q : S.Value → Type 0 = λ v. IsGiven true (M.arrives k there (Some v)) in
    subst P (sym c.in-Int.is)
    (makes_so k there c.args.class c.in-Int.length c.in-Int.field-0 c.in-Some.cells (subst T same c.in-Some.ensures)
    (subst Q (next_pointer names s c.args.class _ c.made.ensures) (c.if-is_delivered.ensures names told n)))

pub returns-else-is_delivered-clause-value : goal.returns-else-is_delivered-clause-value
returns-else-is_delivered-clause-value c = λ names told n.
    let k = context_of names c.args.around.now in
    let there = found_of names c.args.there in
    let s = c.args.around.now.store.now in
    let P : Value → Type 0 = λ v. MakesSo k (M.AtStatement there) C.Stays (allocated c.args.class (value_of names v) (store_of names s)) in
    let Q : S.Value → Type 0 = λ v. IsGiven false (M.arrives k there (Some v)) in
    subst P (sym c.in-Int.is)
    (makes_not k there c.args.class c.in-Int.length c.in-Int.field-0
    (subst Q (next_pointer names s c.args.class _ c.made.ensures) (c.if-is_delivered.ensures names told n)))
