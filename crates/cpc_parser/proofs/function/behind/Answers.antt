use Rattle.std.proofs.Common.{◌≡◌, ◌<◌, true, false, subst, sym, ◌∙◌, arith}
use Rattle.cpc_parser_types.specs.Views.{placed}
use Rattle.cpc_parser_types.proofs.Giving.{fault_here, deep_here, err_through}
use Rattle.cpc_parser.specs.ItemReaders.{has_body}
use Rattle.cpc_parser.specs.ItemViews.{head_view}
use Rattle.cpc_parser.proofs.Steps.{onward, no_body, no_room, with_body}
use Rattle.cpc_parser.proofs.function.behind.Goals as goal

pub returns-then-not-has_body-clause-gives : goal.returns-then-not-has_body-clause-gives
returns-then-not-has_body-clause-gives c = λ names.
    let x = head_view names c.args.head.word c.args.head.result c.args.head.parameters.items in
    fault_here _ names c.args.tokens.now c.fault.result _ c.fault.ensures
    (no_body c.args.place c.args.mode x c.args.depth (placed names c.args.tokens.now) (sym (c.begins_mark.ensures names) ∙ c.if-not-begins_mark.false) (subst (λ ps. has_body c.args.mode (head_view names c.args.head.word c.args.head.result ps) ≡ false) c.deref.ensures.value (sym (c.has_body.ensures names c.args.head.word c.args.head.result) ∙ c.if-not-has_body.true)))

pub returns-then-depth-eq0-clause-gives : goal.returns-then-depth-eq0-clause-gives
returns-then-depth-eq0-clause-gives c = λ names.
    let x = head_view names c.args.head.word c.args.head.result c.args.head.parameters.items in
    deep_here _ names c.args.tokens.now c.deep.result _ c.deep.ensures
    (no_room c.args.place c.args.mode x c.args.depth (placed names c.args.tokens.now) (sym (c.begins_mark.ensures names) ∙ c.if-not-begins_mark.false) (subst (λ ps. has_body c.args.mode (head_view names c.args.head.word c.args.head.result ps) ≡ true) c.deref.ensures.value (sym (c.has_body.ensures names c.args.head.word c.args.head.result) ∙ c.if-not-has_body.false)) (omega (arith, c.if-depth-eq0.true)))

pub returns-in_err-body-clause-gives : goal.returns-in_err-body-clause-gives
returns-in_err-body-clause-gives c = λ names.
    let x = head_view names c.args.head.word c.args.head.result c.args.head.parameters.items in
    let some : 0 < c.args.depth = omega (arith, c.if-depth-eq0.false) in
    err_through _ c.from_residual-in_err-body.result c.in_err-body.field-0.0 _ _ _ c.from_residual-in_err-body.ensures.1 (c.in_err-body.ensures.gives names)
    (with_body c.args.place c.args.mode x c.args.depth (placed names c.args.tokens.now) (sym (c.begins_mark.ensures names) ∙ c.if-not-begins_mark.false) (subst (λ ps. has_body c.args.mode (head_view names c.args.head.word c.args.head.result ps) ≡ true) c.deref.ensures.value (sym (c.has_body.ensures names c.args.head.word c.args.head.result) ∙ c.if-not-has_body.false)) some)

pub returns-clause-gives : goal.returns-clause-gives
returns-clause-gives c = λ names.
    let x = head_view names c.args.head.word c.args.head.result c.args.head.parameters.items in
    let some : 0 < c.args.depth = omega (arith, c.if-depth-eq0.false) in
    onward _ _ _ _
    (with_body c.args.place c.args.mode x c.args.depth (placed names c.args.tokens.now) (sym (c.begins_mark.ensures names) ∙ c.if-not-begins_mark.false) (subst (λ ps. has_body c.args.mode (head_view names c.args.head.word c.args.head.result ps) ≡ true) c.deref.ensures.value (sym (c.has_body.ensures names c.args.head.word c.args.head.result) ∙ c.if-not-has_body.false)) some)
    (c.in_ok-body.ensures.gives names)
