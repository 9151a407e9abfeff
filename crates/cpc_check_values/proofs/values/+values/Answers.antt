use Rattle.std.proofs.Common.{ap, option_map, ◌∙◌}
use Rattle.std.proofs.lemmas.Result.{IfOk-weaker, on_ok_weaker}
use Rattle.cpc_tree.specs.Locate.{located_expr}
use Rattle.cpc_check_rules.specs.Calls as C
use Rattle.cpc_check_rules.specs.ExprRules.{expr_breaks}
use Rattle.cpc_check_rules.specs.Noted.{first_of, noted}
use Rattle.cpc_check_values.proofs.Arguments.{args_step, argument_told, inside_told, pointer_told, string_told}
use Rattle.cpc_check_values.proofs.Pairs.{and_found, and_told, binary_found, binary_told, choose_found, choose_told, index_told, or_found, or_told}
use Rattle.cpc_check_values.proofs.Steps.{arrow_told, cast_found, cast_told, member_told, unary_found, unary_told}
use Rattle.cpc_check_values.specs.Named.{callee_breaks}
use Rattle.cpc_check_values.specs.Stands.{where_of}
use Rattle.cpc_check_values.specs.Wants.{callee_of, want_of}
use Rattle.cpc_check_values.proofs.values.+values.Goals as goal

pub inside_rules-returns-in_ok-callee-in-CallIn : goal.inside_rules-returns-in_ok-callee-in-CallIn
inside_rules-returns-in_ok-callee-in-CallIn t c = on_ok_weaker c.argument_rules.result
    (λ h names s. inside_told names (where_of names c.args.w.now) c.args.e.now _ c.in-CallIn.function c.in-CallIn.arguments _ _ _ _ _ _ _ _ _ c.in-CallIn.is c.deref-function.ensures c.deref-arguments.ensures.value
    (c.first_place-place.ensures names) (c.in_ok-callee-in-CallIn.ensures.callee names s) c.note.ensures (c.in_ok-callee-in-CallIn.ensures.noted names s) (c.note_count.ensures names) (h names s))
    c.argument_rules.ensures

pub narrow_rules-returns-in_ok-found-in-Unary-clause-typed : goal.narrow_rules-returns-in_ok-found-in-Unary-clause-typed
narrow_rules-returns-in_ok-found-in-Unary-clause-typed t c = IfOk-weaker c.unary_rules.result _ _
    (λ whole h names s. h names ∙ unary_found names (where_of names c.args.w.now) c.args.e.now _ _ c.in-Unary.operand _ _ _ _ c.in-Unary.is c.deref.ensures c.deref-in-Unary-2.ensures (c.is_named.ensures names) (c.in_ok-found-in-Unary.ensures.typed names s))
    c.unary_rules.ensures.typed

pub narrow_rules-returns-in_ok-found-in-Unary-clause-noted : goal.narrow_rules-returns-in_ok-found-in-Unary-clause-noted
narrow_rules-returns-in_ok-found-in-Unary-clause-noted t c = on_ok_weaker c.unary_rules.result
    (λ h names s. unary_told names (where_of names c.args.w.now) c.args.e.now _ _ c.in-Unary.operand _ _ _ _ _ _ _ _ _ c.in-Unary.is c.deref.ensures c.deref-in-Unary-2.ensures c.deref-in-Unary.ensures
    (c.is_named.ensures names) (c.first_place.ensures names) (c.in_ok-found-in-Unary.ensures.typed names s) (c.in_ok-found-in-Unary.ensures.noted names s) (h names))
    c.unary_rules.ensures.noted

pub narrow_rules-returns-in_ok-found-in-Cast-clause-typed : goal.narrow_rules-returns-in_ok-found-in-Cast-clause-typed
narrow_rules-returns-in_ok-found-in-Cast-clause-typed t c = IfOk-weaker c.cast_rules.result _ _
    (λ whole h names s. h names ∙ cast_found names (where_of names c.args.w.now) c.args.e.now _ _ c.in-Cast.operand _ _ _ _ c.in-Cast.is c.deref-in-Cast.ensures c.deref-in-Cast-2.ensures (c.is_null.ensures names) (c.in_ok-found-in-Cast.ensures.typed names s))
    c.cast_rules.ensures.typed

pub narrow_rules-returns-in_ok-found-in-Cast-clause-noted : goal.narrow_rules-returns-in_ok-found-in-Cast-clause-noted
narrow_rules-returns-in_ok-found-in-Cast-clause-noted t c = on_ok_weaker c.cast_rules.result
    (λ h names s. cast_told names (where_of names c.args.w.now) c.args.e.now _ _ c.in-Cast.operand _ _ _ _ _ _ _ c.in-Cast.is c.deref-in-Cast.ensures c.deref-in-Cast-2.ensures
    (c.is_null.ensures names) (c.in_ok-found-in-Cast.ensures.typed names s) (c.in_ok-found-in-Cast.ensures.noted names s) (h names))
    c.cast_rules.ensures.noted

pub narrow_rules-returns-in_ok-found-in-Member-clause-noted : goal.narrow_rules-returns-in_ok-found-in-Member-clause-noted
narrow_rules-returns-in_ok-found-in-Member-clause-noted t c = on_ok_weaker c.member_rules.result
    (λ h names s. member_told names (where_of names c.args.w.now) c.args.e.now _ c.in-Member.operand _ _ _ _ _ _ c.in-Member.is c.deref-in-Member.ensures
    (c.in_ok-found-in-Member.ensures.typed names s) (c.in_ok-found-in-Member.ensures.noted names s) (h names s.apart))
    c.member_rules.ensures.noted

pub narrow_rules-returns-in_ok-found-in-Arrow-clause-noted : goal.narrow_rules-returns-in_ok-found-in-Arrow-clause-noted
narrow_rules-returns-in_ok-found-in-Arrow-clause-noted t c = on_ok_weaker c.arrow_rules.result
    (λ h names s. arrow_told names (where_of names c.args.w.now) c.args.e.now _ c.in-Arrow.operand _ _ _ _ _ _ c.in-Arrow.is c.deref-in-Arrow.ensures
    (c.in_ok-found-in-Arrow.ensures.typed names s) (c.in_ok-found-in-Arrow.ensures.noted names s) (h names s.apart))
    c.arrow_rules.ensures.noted

pub wide_rules-returns-in_ok-b-in-Binary-clause-typed : goal.wide_rules-returns-in_ok-b-in-Binary-clause-typed
wide_rules-returns-in_ok-b-in-Binary-clause-typed t c = IfOk-weaker c.binary_rules.result _ _
    (λ whole h names s. h names s.apart ∙ binary_found names (where_of names c.args.w.now) c.args.e.now _ _ c.in-Binary.left c.in-Binary.right _ _ _ _ _ _ _ _ c.in-Binary.is
    c.deref.ensures c.deref-in-Binary.ensures c.deref-in-Binary-2.ensures c.deref-in-Binary-3.ensures (c.is_null.ensures names) (c.is_null-in-Binary.ensures names)
    (c.in_ok-a-in-Binary.ensures.typed names s) (c.in_ok-b-in-Binary.ensures.typed names s))
    c.binary_rules.ensures.typed

pub wide_rules-returns-in_ok-b-in-Binary-clause-noted : goal.wide_rules-returns-in_ok-b-in-Binary-clause-noted
wide_rules-returns-in_ok-b-in-Binary-clause-noted t c = on_ok_weaker c.binary_rules.result
    (λ h names s. binary_told names (where_of names c.args.w.now) c.args.e.now _ _ c.in-Binary.left c.in-Binary.right _ _ _ _ _ _ _ _ _ _ _ _ c.in-Binary.is
    c.deref.ensures c.deref-in-Binary.ensures c.deref-in-Binary-2.ensures c.deref-in-Binary-3.ensures (c.is_null.ensures names) (c.is_null-in-Binary.ensures names)
    (c.in_ok-a-in-Binary.ensures.typed names s) (c.in_ok-b-in-Binary.ensures.typed names s) (c.in_ok-a-in-Binary.ensures.noted names s) (c.in_ok-b-in-Binary.ensures.noted names s) (h names s.apart))
    c.binary_rules.ensures.noted

pub wide_rules-returns-in_ok-b-in-Index-clause-noted : goal.wide_rules-returns-in_ok-b-in-Index-clause-noted
wide_rules-returns-in_ok-b-in-Index-clause-noted t c = on_ok_weaker c.index_rules.result
    (λ h names s. index_told names (where_of names c.args.w.now) c.args.e.now _ c.in-Index.operand c.in-Index.index _ _ _ _ _ _ _ _ c.in-Index.is
    c.deref-in-Index.ensures c.deref-in-Index-2.ensures
    (c.in_ok-a-in-Index.ensures.typed names s) (c.in_ok-b-in-Index.ensures.typed names s) (c.in_ok-a-in-Index.ensures.noted names s) (c.in_ok-b-in-Index.ensures.noted names s) (h names s.apart))
    c.index_rules.ensures.noted

pub logical_rules-returns-in_ok-b-in-And-clause-typed : goal.logical_rules-returns-in_ok-b-in-And-clause-typed
logical_rules-returns-in_ok-b-in-And-clause-typed t c = λ names s.
    c.test_rules.ensures.typed names
    ∙ and_found names (where_of names c.args.w.now) c.args.e.now _ c.in-And.left c.in-And.right _ _ _ _ c.in-And.is c.deref.ensures c.deref-in-And.ensures (c.in_ok-a-in-And.ensures.typed names s) (c.in_ok-b-in-And.ensures.typed names s)

pub logical_rules-returns-in_ok-b-in-And-clause-noted : goal.logical_rules-returns-in_ok-b-in-And-clause-noted
logical_rules-returns-in_ok-b-in-And-clause-noted t c = λ names s.
    and_told names (where_of names c.args.w.now) c.args.e.now _ c.in-And.left c.in-And.right _ _ _ _ _ _ _ _ c.in-And.is c.deref.ensures c.deref-in-And.ensures
    (c.in_ok-a-in-And.ensures.typed names s) (c.in_ok-b-in-And.ensures.typed names s) (c.in_ok-a-in-And.ensures.noted names s) (c.in_ok-b-in-And.ensures.noted names s) (c.test_rules.ensures.noted names)

pub logical_rules-returns-in_ok-b-in-Or-clause-typed : goal.logical_rules-returns-in_ok-b-in-Or-clause-typed
logical_rules-returns-in_ok-b-in-Or-clause-typed t c = λ names s.
    c.test_rules-in-Or.ensures.typed names
    ∙ or_found names (where_of names c.args.w.now) c.args.e.now _ c.in-Or.left c.in-Or.right _ _ _ _ c.in-Or.is c.deref-in-Or.ensures c.deref-in-Or-2.ensures (c.in_ok-a-in-Or.ensures.typed names s) (c.in_ok-b-in-Or.ensures.typed names s)

pub logical_rules-returns-in_ok-b-in-Or-clause-noted : goal.logical_rules-returns-in_ok-b-in-Or-clause-noted
logical_rules-returns-in_ok-b-in-Or-clause-noted t c = λ names s.
    or_told names (where_of names c.args.w.now) c.args.e.now _ c.in-Or.left c.in-Or.right _ _ _ _ _ _ _ _ c.in-Or.is c.deref-in-Or.ensures c.deref-in-Or-2.ensures
    (c.in_ok-a-in-Or.ensures.typed names s) (c.in_ok-b-in-Or.ensures.typed names s) (c.in_ok-a-in-Or.ensures.noted names s) (c.in_ok-b-in-Or.ensures.noted names s) (c.test_rules-in-Or.ensures.noted names)

pub logical_rules-returns-in_ok-b-in-Choose-clause-typed : goal.logical_rules-returns-in_ok-b-in-Choose-clause-typed
logical_rules-returns-in_ok-b-in-Choose-clause-typed t c = λ names s.
    c.choice_rules.ensures.typed names s.apart
    ∙ choose_found names (where_of names c.args.w.now) c.args.e.now _ c.in-Choose.test c.in-Choose.yes c.in-Choose.no _ _ _ _ _ _ _ _ _ _ c.in-Choose.is
    c.deref-in-Choose.ensures c.deref-in-Choose-2.ensures c.deref-in-Choose-3.ensures c.deref-in-Choose-4.ensures c.deref-in-Choose-5.ensures (c.is_null.ensures names) (c.is_null-in-Choose.ensures names)
    (c.in_ok-tested-in-Choose.ensures.typed names s) (c.in_ok-a-in-Choose.ensures.typed names s) (c.in_ok-b-in-Choose.ensures.typed names s)

pub logical_rules-returns-in_ok-b-in-Choose-clause-noted : goal.logical_rules-returns-in_ok-b-in-Choose-clause-noted
logical_rules-returns-in_ok-b-in-Choose-clause-noted t c = λ names s.
    choose_told names (where_of names c.args.w.now) c.args.e.now _ c.in-Choose.test c.in-Choose.yes c.in-Choose.no _ _ _ _ _ _ _ _ _ _ _ _ _ _ _ c.in-Choose.is
    c.deref-in-Choose.ensures c.deref-in-Choose-2.ensures c.deref-in-Choose-3.ensures c.deref-in-Choose-4.ensures c.deref-in-Choose-5.ensures (c.is_null.ensures names) (c.is_null-in-Choose.ensures names)
    (c.in_ok-tested-in-Choose.ensures.typed names s) (c.in_ok-a-in-Choose.ensures.typed names s) (c.in_ok-b-in-Choose.ensures.typed names s)
    (c.in_ok-tested-in-Choose.ensures.noted names s) (c.in_ok-a-in-Choose.ensures.noted names s) (c.in_ok-b-in-Choose.ensures.noted names s) (c.choice_rules.ensures.noted names s.apart)

pub called_rules-returns-in-Some-clause-noted : goal.called_rules-returns-in-Some-clause-noted
called_rules-returns-in-Some-clause-noted t c = λ names s.
    let w = where_of names c.args.w.now in
    let o = first_of c.args.first.now in
    c.named_rules.ensures names
    ∙ ap (λ q. noted o (callee_breaks w q c.in-Some.callee)) (c.first_place-place.ensures names)
    ∙ ap (noted o) (c.in-Some.ensures.breaks names s (expr_breaks w (located_expr names c.args.function.now)))

pub called_rules-returns-in_ok-found-in-None-clause-noted : goal.called_rules-returns-in_ok-found-in-None-clause-noted
called_rules-returns-in_ok-found-in-None-clause-noted t c = λ names s.
    let w = where_of names c.args.w.now in
    let f = located_expr names c.args.function.now in
    pointer_told w f _ _ _ _ _ (c.first_place-place.ensures names) (c.in_ok-found-in-None.ensures.typed names s) (c.in_ok-found-in-None.ensures.noted names s) (c.pointer_rules.ensures.noted names) (c.in-None.ensures.breaks names s (expr_breaks w f))

pub argument_rules-loop-i-preserved : goal.argument_rules-loop-i-preserved
argument_rules-loop-i-preserved t c = λ names s.
    args_step names (where_of names c.args.w.now) (first_of c.loop-i.first) _ (C.wanted (callee_of names c.args.callee.now)) c.args.arguments.now c.loop-i.i c.index-arguments-i.result _ c.loop-i-test.true c.index-arguments-i.is
    (c.wanted.ensures names) (c.in_ok-argument_rule.ensures names s)
    ∙ c.loop-i.invariant names s

pub argument_rule-returns-then-is_wanted_text : goal.argument_rule-returns-then-is_wanted_text
argument_rule-returns-then-is_wanted_text t c = λ names s. string_told (where_of names c.args.w.now) (first_of c.args.first.now) (option_map (want_of names) c.args.want) (located_expr names c.args.e.now) _ (c.is_wanted_text.ensures names) c.if-is_wanted_text.true

pub argument_rule-returns-in-Some : goal.argument_rule-returns-in-Some
argument_rule-returns-in-Some t c = on_ok_weaker c.suit_rules.result
    (λ h names s. argument_told (where_of names c.args.w.now) (located_expr names c.args.e.now) (want_of names c.in-Some.want) (option_map (want_of names) c.args.want) _ _ _ _ _ (ap (option_map (want_of names)) c.in-Some.is)
    (c.is_wanted_text.ensures names) c.if-is_wanted_text.false (c.in_ok-found.ensures.typed names s) (c.in_ok-found.ensures.noted names s) (h names s.apart))
    c.suit_rules.ensures
