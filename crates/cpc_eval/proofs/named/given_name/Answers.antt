use Rattle.std.proofs.Common.{◌∙◌, refl, ap}
use Rattle.cpc_tree.specs.Syntax.{ENamed}
use Rattle.cpc_tree.specs.Typing as T
use Rattle.cpc_eval.specs.Around.{context_of}
use Rattle.cpc_eval.proofs.EvalParts as V
use Rattle.cpc_eval.proofs.Forms.{few_slots}
use Rattle.cpc_eval.proofs.TypedParts.{name_typed}
use Rattle.cpc_eval.proofs.Types.{agrees_same}
use Rattle.cpc_eval.proofs.named.given_name.Goals as goal

pub returns-clause-value : goal.returns-clause-value
returns-clause-value c = λ names told.
    let k = context_of names c.args.around.now in
    let x = names c.args.name in
    c.with_type.ensures.value names _
    (V.name_valued k (ENamed x) x _ _ refl (few_slots names c.args.around.now c.meant-meant.ensures.few) (c.meant-meant.ensures.meant names told) (c.value_named.ensures.value names))

pub returns-clause-typed : goal.returns-clause-typed
returns-clause-typed c = λ names told.
    let k = context_of names c.args.around.now in
    c.with_type.ensures.typed names _
    (agrees_same _ _ (c.name_type.ensures names ∙ ap T.type_named (c.meant-meant.ensures.meant names told) ∙ name_typed k (names c.args.name)))
