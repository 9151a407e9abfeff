use Rattle.std.proofs.Common.{◌∙◌, ap, sym, Some, option_map}
use Rattle.cpc_num.specs.declared.kinds.Kind.{Kind}
use Rattle.cpc_tree.specs.Syntax.{TyInt}
use Rattle.cpc_tree.specs.Typing as T
use Rattle.cpc_shapes.proofs.OperatorParts.{common_some}
use Rattle.cpc_eval.specs.Shapes.{shape_of}
use Rattle.cpc_eval.proofs.typing.common_form.Goals as goal

pub returns-in-Some-kind_of : goal.returns-in-Some-kind_of
returns-in-Some-kind_of c = λ names.
    c.int_value.ensures names
    ∙ ap (λ (k : Kind). Some (T.AValue (TyInt k))) c.common.ensures
    ∙ sym (ap (option_map T.AValue) (common_some (shape_of names c.args.left) (shape_of names c.args.right) c.in-Some.j c.in-Some-kind_of.k (c.in-Some.ensures names) (c.in-Some-kind_of.ensures names)))
