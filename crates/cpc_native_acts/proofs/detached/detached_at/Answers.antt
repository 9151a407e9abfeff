use Rattle.std.proofs.Common.{◌-◌, ◌≤◌, Option, option_map, sym, ap, subst, arith}
use Rattle.std.specs.Borrow.{Bor}
use Rattle.cpc_tree.specs.Erase.{function_of}
use Rattle.cpc_tree.specs.Primitives as P
use Rattle.cpc_tree.specs.Syntax.{Function}
use Rattle.cpc_tree.specs.declared.program.Function as G
use Rattle.cpc_meaning.specs.Requests as R
use Rattle.cpc_eval_values.specs.Meets.{Meets}
use Rattle.cpc_eval_values.specs.Shown.{value_of, shown}
use Rattle.cpc_native_plans.specs.Rows.{by_nth}
use Rattle.cpc_native_acts.proofs.Detaching.{first_taken, then_taken}
use Rattle.cpc_native_acts.proofs.detached.detached_at.Goals as goal

pub returns-then-i-lt2-clause-value : goal.returns-then-i-lt2-clause-value
returns-then-i-lt2-clause-value c = λ names.
    first_taken (option_map (λ (f : Bor G.Function). function_of names f.now) c.args.function) (value_of names c.args.value) (shown names c.taken_at.result) c.args.i c.if-i-lt2.true
    (c.taken_at.ensures.value names P.callback_and_pointer c.takes.ensures)

pub returns-in-Some-clause-value : goal.returns-in-Some-clause-value
returns-in-Some-clause-value c = λ names.
    let view : Option (Bor G.Function) → Option Function = option_map (λ (f : Bor G.Function). function_of names f.now) in
    let far : 2 ≤ c.args.i = omega (arith, c.if-i-lt2.false) in
    let Q : Option Function → Type 0 = λ o. Meets (shown names c.section_at.result) (by_nth R.taken_as (R.detach_takes o) (c.args.i - 2) (value_of names c.args.value)) in
    then_taken (view c.args.function) (value_of names c.args.value) (shown names c.section_at.result) c.args.i far (subst Q (ap view (sym c.in-Some.is)) (c.section_at.ensures.value names))
