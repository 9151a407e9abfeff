use Rattle.std.proofs.Common.{option_map}
use Rattle.cpc_eval_values.specs.Shown.{value_of, shown}
use Rattle.cpc_eval.specs.Around.{context_of}
use Rattle.cpc_native_changes.proofs.Requesting.{not_alone, alone_value, ok_seen}
use Rattle.cpc_native_changes.proofs.requested.alone.Goals as goal

pub returns-then-arguments-ne1-clause-value : goal.returns-then-arguments-ne1-clause-value
returns-then-arguments-ne1-clause-value c = λ names t is told n. not_alone t names (context_of names c.args.around.now) c.args.arguments.now c.if-arguments-ne1.true

pub returns-in-Ok-clause-value : goal.returns-in-Ok-clause-value
returns-in-Ok-clause-value c = λ names t is told n.
    let k = context_of names c.args.around.now in
    alone_value t names k c.args.arguments.now c.index-arguments-0.result (value_of names c.in-Ok.value) (option_map (value_of names) c.ok.result) (shown names c.taken_as.result) c.if-arguments-ne1.false c.index-arguments-0.is n
    (c.in-Ok.ensures.value names told) (ok_seen (value_of names) c.taken_as.result c.ok.result c.ok.ensures.value) (c.taken_as.ensures.value names t is)
