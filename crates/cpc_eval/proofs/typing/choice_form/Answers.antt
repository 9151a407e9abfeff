use Rattle.cpc_eval.specs.Shapes.{types_of, shape_of}
use Rattle.cpc_eval.proofs.Types.{choice_absent, choice_missing, choice_here, choice_left, choice_right, choice_plain, zero_kind}
use Rattle.cpc_eval.proofs.typing.choice_form.Goals as goal

pub returns-in-None : goal.returns-in-None
returns-in-None c = λ names m n o zero. choice_absent m n o (types_of names c.args.yes) (types_of names c.args.no) (c.in-None.ensures names)

pub returns-in-None-used_if : goal.returns-in-None-used_if
returns-in-None-used_if c = λ names m n o zero. choice_missing m n o (types_of names c.args.yes) (types_of names c.args.no) (c.in-None-used_if.ensures names)

pub returns-in-None-kind_of : goal.returns-in-None-kind_of
returns-in-None-kind_of c = λ names m n o zero.
    let t = shape_of names c.in-Some.t in
    let u = shape_of names c.in-Some-used_if.u in
    choice_here m n o (types_of names c.args.yes) (types_of names c.args.no) _ t u (c.in-Some.ensures names) (c.in-Some-used_if.ensures names)
    (choice_left m n t u (c.in-None-kind_of.ensures names) (zero_kind m (types_of names c.args.yes) t (c.in-Some.ensures names) zero))

pub returns-in-None-kind_of-2 : goal.returns-in-None-kind_of-2
returns-in-None-kind_of-2 c = λ names m n o zero.
    let t = shape_of names c.in-Some.t in
    let u = shape_of names c.in-Some-used_if.u in
    choice_here m n o (types_of names c.args.yes) (types_of names c.args.no) _ t u (c.in-Some.ensures names) (c.in-Some-used_if.ensures names)
    (choice_right m n t u _ (c.in-Some-kind_of.ensures names) (c.in-None-kind_of-2.ensures names))

pub returns-in-Some-kind_of-2 : goal.returns-in-Some-kind_of-2
returns-in-Some-kind_of-2 c = λ names m n o zero.
    let t = shape_of names c.in-Some.t in
    let u = shape_of names c.in-Some-used_if.u in
    choice_here m n o (types_of names c.args.yes) (types_of names c.args.no) _ t u (c.in-Some.ensures names) (c.in-Some-used_if.ensures names)
    (choice_plain m n t u _ _ _ (c.in-Some-kind_of.ensures names) (c.in-Some-kind_of-2.ensures names) (c.common_form.ensures names))
