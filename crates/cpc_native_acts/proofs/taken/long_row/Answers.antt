use Rattle.std.proofs.Common.{◌≡◌, true, false}
use Rattle.cpc_num.specs.declared.kinds.Fault.TheVariants as F
use Rattle.cpc_eval_values.specs.Shown.{values_of}
use Rattle.cpc_native_acts.proofs.Fitting.{none_long}
use Rattle.cpc_native_acts.proofs.taken.long_row.Goals as goal

pub returns-else-are_long-clause-value : goal.returns-else-are_long-clause-value
returns-else-are_long-clause-value c = λ names.
    none_long names c.all_long.new.values (λ h. let t : false ≡ true = c.if-are_long.ensures.1 h in absurd cc) F.Kind (values_of names c.args.values.now) (c.in_ok-all_long.ensures.value names)
