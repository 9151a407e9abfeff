use Rattle.std.proofs.Common.{◌≡◌, List, Err, Option, option_map, sym, ap, subst, ◌∙◌}
use Rattle.std.specs.Borrow.{Bor}
use Rattle.cpc_num.specs.declared.kinds.Fault.TheVariants as F
use Rattle.cpc_tree.specs.Erase.{function_of}
use Rattle.cpc_tree.specs.Primitives as P
use Rattle.cpc_tree.specs.Syntax.{Function}
use Rattle.cpc_tree.specs.declared.program.Function as G
use Rattle.cpc_store.specs.Store as S
use Rattle.cpc_meaning.specs.Requests as R
use Rattle.cpc_eval_index.specs.Indexed.{items_of}
use Rattle.cpc_eval_values.specs.Meets.{Meets}
use Rattle.cpc_eval_values.specs.Shown.{values_of}
use Rattle.cpc_eval_values.proofs.Meeting.{meets_err}
use Rattle.cpc_native_plans.specs.Rows.{detached_with}
use Rattle.cpc_native_acts.proofs.Detaching.{takes_third, none_detached}
use Rattle.cpc_native_acts.proofs.detached.take_detached.Goals as goal

pub returns-in_err-take_by-in-Some-clause-value : goal.returns-in_err-take_by-in-Some-clause-value
returns-in_err-take_by-in-Some-clause-value c = λ names apart.
    let view : Option (Bor G.Function) → Option Function = option_map (λ (f : Bor G.Function). function_of names f.now) in
    let vs = values_of names c.args.values.now in
    let takes : R.takes (items_of names c.args.index.now) P.RtDetach vs ≡ detached_with (view c.function.result) =
    takes_third (items_of names c.args.index.now) names c.args.values.now c.in-Some.name c.in-Some.ensures.value ∙ ap detached_with (sym (c.function.ensures names apart)) in
    let Q : List P.Taken → Type 0 = λ ts. Meets {A = List S.Value} (Err c.in_err-take_by-in-Some.field-0.0) (R.all_taken ts vs) in
    meets_err _ c.from_residual.result _ _ c.from_residual.ensures.1 (subst Q (sym takes) (c.in_err-take_by-in-Some.ensures.value names))

pub returns-else-is_detached-clause-value : goal.returns-else-is_detached-clause-value
returns-else-is_detached-clause-value c = λ names apart.
    let view : Option (Bor G.Function) → Option Function = option_map (λ (f : Bor G.Function). function_of names f.now) in
    let vs = values_of names c.args.values.now in
    let takes : R.takes (items_of names c.args.index.now) P.RtDetach vs ≡ detached_with (view c.function.result) =
    takes_third (items_of names c.args.index.now) names c.args.values.now c.in-Some.name c.in-Some.ensures.value ∙ ap detached_with (sym (c.function.ensures names apart)) in
    let Q : List P.Taken → Type 0 = λ ts. Meets {A = List S.Value} (Err F.Kind) (R.all_taken ts vs) in
    subst Q (sym takes)
    (none_detached names (view c.function.result) c.args.values.now c.take_by.new.values c.in-Some.name c.in-Some.ensures.value (sym c.is_detached.ensures ∙ c.if-is_detached.false) F.Kind (c.in_ok-take_by-in-Some.ensures.value names))
