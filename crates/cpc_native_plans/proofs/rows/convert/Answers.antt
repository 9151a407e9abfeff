use Rattle.std.proofs.Common.{Ok, Err, List, subst, arith}
use Rattle.std.proofs.lemmas.List.Elements.{All-set}
use Rattle.cpc_store.specs.Store as S
use Rattle.cpc_store.specs.Seen.{seen, IsLawful}
use Rattle.cpc_meaning.specs.Answer.{Answer}
use Rattle.cpc_meaning.specs.Eval.{assigned}
use Rattle.cpc_eval_values.specs.Meets.{Meets}
use Rattle.cpc_eval_values.specs.Shown.{values_of}
use Rattle.cpc_eval_values.proofs.Meeting.{meets_err}
use Rattle.cpc_native_plans.specs.Rows.{row_types}
use Rattle.cpc_native_plans.proofs.Rowing.{each_step, each_stop, each_end, arguments_each}
use Rattle.cpc_native_plans.proofs.rows.convert.Goals as goal

pub returns-in_err-values-clause-value : goal.returns-in_err-values-clause-value
returns-in_err-values-clause-value c = λ names.
    let ts = row_types names c.args.row in
    let P : Answer (List S.Value) → Type 0 = Meets {A = List S.Value} (Err c.in_err-values.field-0.0) in
    meets_err _ c.from_residual.result _ _ c.from_residual.ensures.1
    (subst P (arguments_each ts (values_of names c.args.values.now))
    (c.loop-i.invariant.rest names (Err c.in_err-values.field-0.0) (each_stop assigned names ts c.loop-i.values c.loop-i.i _ c.in_err-values.field-0.0 (omega arith) (c.in_err-values.ensures.value names))))

pub loop-i-preserved : goal.loop-i-preserved
loop-i-preserved c = record {
  lawful = All-set (λ v. IsLawful (seen v)) c.loop-i.values c.loop-i.i c.in_ok-values.field-0 c.in_ok-values.ensures.lawful c.loop-i.invariant.lawful;
  rest = λ names r m.
      c.loop-i.invariant.rest names r
      (each_step assigned names (row_types names c.args.row) c.loop-i.values c.loop-i.i _ c.in_ok-values.field-0 (omega arith) (c.in_ok-values.ensures.value names) r m);
}

pub returns-clause-value : goal.returns-clause-value
returns-clause-value c = λ names.
    let ts = row_types names c.args.row in
    let P : Answer (List S.Value) → Type 0 = Meets (Ok (values_of names c.loop-i.values)) in
    subst P (arguments_each ts (values_of names c.args.values.now)) (c.loop-i.invariant.rest names (Ok (values_of names c.loop-i.values)) (each_end assigned names ts c.loop-i.values c.loop-i.i (omega arith)))
