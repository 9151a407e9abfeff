use Rattle.std.proofs.Common.{◌∙◌, ap}
use Rattle.cpc_tree.specs.Typing as T
use Rattle.cpc_meaning.specs.Eval as E
use Rattle.cpc_eval_index.specs.Indexed.{items_of}
use Rattle.cpc_eval_values.specs.Counted.{cells_counted}
use Rattle.cpc_eval.specs.Shapes.{types_of}
use Rattle.cpc_eval.proofs.Sizing.{size_by}
use Rattle.cpc_eval.proofs.operands.counted_size.Goals as goal

pub returns-in-Left : goal.returns-in-Left
returns-in-Left c = λ names t u apart h i n e.
    let p = items_of names c.args.index.now in
    size_by p _ (types_of names c.args.left.typed) t h (c.element_size.ensures names apart) n (ap (λ s. cells_counted p s (E.and_then t T.used) (E.and_then u T.used)) c.in-Left.ensures ∙ e)

pub returns-in-Right : goal.returns-in-Right
returns-in-Right c = λ names t u apart h i n e.
    let p = items_of names c.args.index.now in
    size_by p _ (types_of names c.args.right.typed) u i (c.element_size-in-Right.ensures names apart) n (ap (λ s. cells_counted p s (E.and_then t T.used) (E.and_then u T.used)) c.in-Right.ensures ∙ e)
