use Rattle.std.proofs.Common.{◌∙◌, ap, Some}
use Rattle.cpc_num.specs.declared.kinds.Kind.{Kind}
use Rattle.cpc_tree.specs.Syntax.{TyInt}
use Rattle.cpc_tree.specs.Typing as T
use Rattle.cpc_eval.specs.Shapes.{shape_of}
use Rattle.cpc_eval.proofs.Types.{shift_agrees}
use Rattle.cpc_eval.proofs.typing.shift_form.Goals as goal

pub returns-in-Some : goal.returns-in-Some
returns-in-Some c = λ names u.
    shift_agrees (shape_of names c.args.left) u c.in-Some.kind _ (c.in-Some.ensures names) (c.int_value.ensures names ∙ ap (λ (k : Kind). Some (T.AValue (TyInt k))) c.promoted.ensures)
