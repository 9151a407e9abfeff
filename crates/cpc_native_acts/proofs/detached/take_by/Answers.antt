use Rattle.std.proofs.Common.{Ok, Err, List, Option, option_map, subst, arith}
use Rattle.std.specs.Borrow.{Bor}
use Rattle.std.proofs.lemmas.List.Elements.{All-set}
use Rattle.cpc_tree.specs.Erase.{Names, function_of}
use Rattle.cpc_tree.specs.Primitives as P
use Rattle.cpc_tree.specs.declared.program.Function as G
use Rattle.cpc_store.specs.Store as S
use Rattle.cpc_store.specs.Seen.{seen, IsLawful}
use Rattle.cpc_meaning.specs.Answer.{Answer}
use Rattle.cpc_meaning.specs.Requests.{taken_as}
use Rattle.cpc_eval_values.specs.Meets.{Meets}
use Rattle.cpc_eval_values.specs.Shown.{values_of}
use Rattle.cpc_eval_values.proofs.Meeting.{meets_err}
use Rattle.cpc_native_plans.specs.Rows.{detached_with}
use Rattle.cpc_native_plans.proofs.Rowing.{each_step, each_stop, each_end, taken_each}
use Rattle.cpc_native_acts.proofs.detached.take_by.Goals as goal

-- what is taken, by the function
abbrev row : Names → Option (Bor G.Function) → List P.Taken
row names o = detached_with (option_map (λ (f : Bor G.Function). function_of names f.now) o)

pub returns-in_err-values-clause-value : goal.returns-in_err-values-clause-value
returns-in_err-values-clause-value c = λ names.
    let ts = row names c.args.function in
    let P : Answer (List S.Value) → Type 0 = Meets {A = List S.Value} (Err c.in_err-values.field-0.0) in
    meets_err _ c.from_residual.result _ _ c.from_residual.ensures.1
    (subst P (taken_each ts (values_of names c.args.values.now))
    (c.loop-i.invariant.rest names (Err c.in_err-values.field-0.0) (each_stop taken_as names ts c.loop-i.values c.loop-i.i _ c.in_err-values.field-0.0 (omega arith) (c.in_err-values.ensures.value names))))

pub loop-i-preserved : goal.loop-i-preserved
loop-i-preserved c = record {
  lawful = All-set (λ v. IsLawful (seen v)) c.loop-i.values c.loop-i.i c.in_ok-values.field-0 c.in_ok-values.ensures.lawful c.loop-i.invariant.lawful;
  rest = λ names r m.
      c.loop-i.invariant.rest names r
      (each_step taken_as names (row names c.args.function) c.loop-i.values c.loop-i.i _ c.in_ok-values.field-0 (omega arith) (c.in_ok-values.ensures.value names) r m);
}

pub returns-clause-value : goal.returns-clause-value
returns-clause-value c = λ names.
    let ts = row names c.args.function in
    let P : Answer (List S.Value) → Type 0 = Meets (Ok (values_of names c.loop-i.values)) in
    subst P (taken_each ts (values_of names c.args.values.now)) (c.loop-i.invariant.rest names (Ok (values_of names c.loop-i.values)) (each_end taken_as names ts c.loop-i.values c.loop-i.i (omega arith)))
