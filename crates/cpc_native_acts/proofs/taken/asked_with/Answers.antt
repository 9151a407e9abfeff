use Rattle.std.proofs.Common.{sym, ap, ◌∙◌}
use Rattle.cpc_tree.specs.Erase.{exprs_of}
use Rattle.cpc_tree.specs.Primitives.{takes_first}
use Rattle.cpc_meaning.specs.Eval as E
use Rattle.cpc_meaning.specs.Requests as R
use Rattle.cpc_eval.specs.Around.{context_of}
use Rattle.cpc_tree.specs.PrimitiveNames.{primitive_of}
use Rattle.cpc_native_plans.specs.Rows.{asked_with}
use Rattle.cpc_native_plans.proofs.Calling.{then_same}
use Rattle.cpc_native_plans.proofs.Stopping.{or_by}
use Rattle.cpc_native_acts.proofs.Detaching.{other_takes, not_detached, asked_if}
use Rattle.cpc_native_acts.proofs.taken.asked_with.Goals as goal

pub returns-in_default : goal.returns-in_default
returns-in_default c = record {
  value = λ names told n.
      let k = context_of names c.args.around.now in
      let es = exprs_of names c.args.arguments.now in
      let prim = primitive_of c.args.builtin in
      or_by _ _ _ (then_same (E.values k es) _ _ (λ vs. ap (λ ts. R.all_taken ts vs) (sym (other_takes c.args.builtin k.program vs c.in_default.not-RtDetach)))
      ∙ ap (asked_with k prim es) (c.in-None.ensures.value names))
      (c.taken.ensures.value names (takes_first prim) c.takes.ensures told n);
  lawful = c.taken.ensures.lawful;
  takes = asked_if c.taken.result (primitive_of c.args.builtin) c.takes.result.now (not_detached c.args.builtin c.in_default.not-RtDetach) c.takes.ensures c.taken.ensures.takes;
}
