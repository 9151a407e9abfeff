use Rattle.std.proofs.Common.{◌∙◌, sym, ap}
use Rattle.std.proofs.lemmas.Result.{IfOk-weaker}
use Rattle.cpc_tree.specs.Erase.{type_of}
use Rattle.cpc_shapes.specs.Found.{is_measured}
use Rattle.cpc_shapes.proofs.OperatorParts.{pointed_left, pointed_right, sum_left, sum_right}
use Rattle.cpc_types.proofs.operators.sum_type.Goals as goal

pub returns-in-Some-kind_of : goal.returns-in-Some-kind_of
returns-in-Some-kind_of c = IfOk-weaker c.movable.result _ _
    (λ sum h names p complete.
    let a = type_of names c.args.t.now in
    let b = type_of names c.args.u.now in
    let e = c.in-Some.ensures names in
    h names p (complete ∙ ap (is_measured p) (pointed_left a b _ e)) ∙ sym (sum_left p a b _ _ e (c.in-Some-kind_of.ensures names)))
    c.movable.ensures

pub returns-in-Some-kind_of-2 : goal.returns-in-Some-kind_of-2
returns-in-Some-kind_of-2 c = IfOk-weaker c.movable-in-Some-kind_of-2.result _ _
    (λ sum h names p complete.
    let a = type_of names c.args.t.now in
    let b = type_of names c.args.u.now in
    let e = c.in-Some-pointee.ensures names in
    h names p (complete ∙ ap (is_measured p) (pointed_right a b (c.in-None.ensures names) ∙ sym e)) ∙ sym (sum_right p a b _ _ (c.in-Some-kind_of-2.ensures names) e))
    c.movable-in-Some-kind_of-2.ensures
