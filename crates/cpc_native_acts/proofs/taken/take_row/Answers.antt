use Rattle.std.proofs.Common.{sym, ◌∙◌}
use Rattle.cpc_num.specs.declared.kinds.Fault.TheVariants as F
use Rattle.cpc_eval_values.specs.Shown.{values_of}
use Rattle.cpc_native_acts.proofs.Fitting.{none_fits}
use Rattle.cpc_native_acts.proofs.taken.take_row.Goals as goal

pub returns-else-are_taken-clause-value : goal.returns-else-are_taken-clause-value
returns-else-are_taken-clause-value c = λ names ts h.
    none_fits names ts c.args.takes.now h c.take_all.new.values (sym c.are_taken.ensures ∙ c.if-are_taken.false) F.Kind (values_of names c.args.values.now) (c.in_ok-take_all.ensures.value names ts h)
