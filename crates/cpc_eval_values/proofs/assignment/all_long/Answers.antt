use Rattle.std.proofs.Common.{arith, refl}
use Rattle.std.proofs.lemmas.List.Elements.{All-set}
use Rattle.cpc_store.specs.Seen.{seen, IsLawful}
use Rattle.cpc_store.specs.declared.values.Value.TheVariants.{Unset}
use Rattle.cpc_tree.specs.Syntax.{TyInt}
use Rattle.cpc_num.specs.declared.kinds.Kind.TheVariants.{Long}
use Rattle.cpc_eval_values.proofs.Meeting.{meets_err}
use Rattle.cpc_eval_values.proofs.Assigning.{long_step, long_stop, left_more}
use Rattle.cpc_eval_values.proofs.assignment.all_long.Goals as goal

pub returns-in_err-value-clause-value : goal.returns-in_err-value-clause-value
returns-in_err-value-clause-value c = λ names.
    meets_err _ c.from_residual.result _ _ c.from_residual.ensures.1
    (long_stop names c.args.values.now c.loop-value.values c.loop-value.value-index Unset _ (omega arith) (omega arith) c.loop-value.invariant.left
    (c.loop-value.invariant.done names) (c.in_err-value.ensures.value names (TyInt Long) refl))

pub loop-value-preserved : goal.loop-value-preserved
loop-value-preserved c = record {
  done = λ names.
      long_step names c.args.values.now c.loop-value.values c.loop-value.value-index Unset c.in_ok-value.field-0 (omega arith) (omega arith) c.loop-value.invariant.left
      (c.loop-value.invariant.done names) (c.in_ok-value.ensures.value names (TyInt Long) refl);
  left = left_more c.args.values.now c.loop-value.values c.loop-value.value-index c.in_ok-value.field-0 c.loop-value.invariant.left;
  lawful = All-set (λ v. IsLawful (seen v)) c.loop-value.values c.loop-value.value-index c.in_ok-value.field-0 c.in_ok-value.ensures.lawful c.loop-value.invariant.lawful;
}
