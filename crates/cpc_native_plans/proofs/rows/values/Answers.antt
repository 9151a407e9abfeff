use Rattle.std.proofs.Common.{List, sym, subst}
use Rattle.std.specs.List.{All}
use Rattle.std.specs.Global.{Vec}
use Rattle.std.proofs.lemmas.List.Elements.{All-push}
use Rattle.cpc_tree.specs.Erase.{exprs_of}
use Rattle.cpc_store.specs.declared.values.Value.{Value}
use Rattle.cpc_store.specs.Seen.{seen, IsLawful}
use Rattle.cpc_meaning.specs.Eval as E
use Rattle.cpc_eval_values.specs.Shown.{values_of}
use Rattle.cpc_eval.specs.Around.{context_of}
use Rattle.cpc_native_plans.proofs.Stopping.{or_err}
use Rattle.cpc_native_plans.proofs.Evaluated.{value_not, value_more, all_evaluated}
use Rattle.cpc_native_plans.proofs.rows.values.Goals as goal

pub returns-in_err-value-clause-value : goal.returns-in_err-value-clause-value
returns-in_err-value-clause-value c = λ names told n.
    let around = context_of names c.args.around.now in
    or_err (λ (vs : Vec Value). values_of names vs.items) c.from_residual.result _ (E.values around (exprs_of names c.args.arguments.now)) c.from_residual.ensures.1
    (value_not names around c.args.arguments.now c.loop-argument.argument-index c.loop-argument.row.items c.argument-item.result _ c.loop-argument-test.true c.argument-item.is (c.loop-argument.invariant.rest names told n)
    (c.in_err-value.ensures.value names told))

pub loop-argument-preserved : goal.loop-argument-preserved
loop-argument-preserved c =
    let P : List Value → Type 0 = All (λ v. IsLawful (seen v)) in
    record {
      lawful = subst P (sym c.in_ok-push.ensures.items) (All-push (λ v. IsLawful (seen v)) c.loop-argument.row.items c.in_ok-value.value c.loop-argument.invariant.lawful c.in_ok-value.ensures.lawful);
      rest = λ names told n.
          value_more names (context_of names c.args.around.now) c.args.arguments.now c.loop-argument.argument-index c.loop-argument.row.items c.push.new.self.items c.argument-item.result c.in_ok-value.value c.loop-argument-test.true c.argument-item.is
          c.in_ok-push.ensures.items (c.loop-argument.invariant.rest names told n) (c.in_ok-value.ensures.value names told);
    }

pub returns-clause-value : goal.returns-clause-value
returns-clause-value c = λ names told n.
    all_evaluated names (context_of names c.args.around.now) c.args.arguments.now c.loop-argument.argument-index c.loop-argument.row.items c.loop-argument-test.false (c.loop-argument.invariant.rest names told n)
