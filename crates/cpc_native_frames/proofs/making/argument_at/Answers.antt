use Rattle.cpc_store.specs.Store.{Unset}
use Rattle.cpc_store.specs.declared.values.Value.TheVariants as V
use Rattle.cpc_eval_values.specs.Shown.{value_of}
use Rattle.cpc_native_frames.proofs.Filling.{first_index}
use Rattle.cpc_native_frames.proofs.making.argument_at.Goals as goal

pub returns-then-i-arguments-clause-value : goal.returns-then-i-arguments-clause-value
returns-then-i-arguments-clause-value c = λ names. first_index (value_of names) Unset c.args.arguments.now c.args.i V.Unset c.if-i-arguments.true
