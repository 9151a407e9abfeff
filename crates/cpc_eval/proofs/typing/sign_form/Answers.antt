use Rattle.std.proofs.Common.{◌∙◌, ap, sym, Some}
use Rattle.cpc_num.specs.declared.kinds.Kind.{Kind}
use Rattle.cpc_tree.specs.Syntax.{TyInt}
use Rattle.cpc_tree.specs.Typing as T
use Rattle.cpc_eval.specs.Shapes.{shape_of, shapes_of}
use Rattle.cpc_eval.proofs.Types.{sign_agrees}
use Rattle.cpc_eval.proofs.typing.sign_form.Goals as goal

pub returns-in-Some-kind_of : goal.returns-in-Some-kind_of
returns-in-Some-kind_of c = λ names d e.
    sign_agrees d (shape_of names c.in-Some.shape) c.in-Some-kind_of.kind (c.promoted.result) _ (sym (ap (shapes_of names) c.in-Some.is) ∙ e) (c.in-Some-kind_of.ensures names)
    (c.int_value.ensures names ∙ ap (λ (k : Kind). Some (T.AValue (TyInt k))) c.promoted.ensures)
