use Rattle.std.proofs.Common.{◌∙◌}
use Rattle.cpc_eval.specs.Shapes.{types_of}
use Rattle.cpc_eval.proofs.Types.{minus_agrees, not_agrees, star_agrees}
use Rattle.cpc_eval.proofs.typing.unary_form.Goals as goal

pub returns-in-Minus : goal.returns-in-Minus
returns-in-Minus c = λ names. minus_agrees c.args.op c.args.named (types_of names c.args.operand) _ c.in-Minus.is (λ d e. c.sign_form.ensures names d (c.used_if.ensures names ∙ e))

pub returns-in-Not : goal.returns-in-Not
returns-in-Not c = λ names. not_agrees c.args.op c.args.named (types_of names c.args.operand) _ c.in-Not.is (c.int_value.ensures names)

pub returns-in-Dereference : goal.returns-in-Dereference
returns-in-Dereference c = λ names. star_agrees c.args.op c.args.named (types_of names c.args.operand) _ c.in-Dereference.is (λ d e. c.target_form.ensures names d (c.used_if-in-Dereference.ensures names ∙ e))
