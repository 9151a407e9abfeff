use Rattle.std.proofs.Common.{◌∙◌, refl, ap, is_some}
use Rattle.std.proofs.lemmas.Result.{IfOk-weaker, IfOk-at_ok}
use Rattle.cpc_tree.specs.Erase.{expr_of}
use Rattle.cpc_tree.specs.Typing.{tested_type}
use Rattle.cpc_check_rules.specs.Scopes.{typed}
use Rattle.cpc_types.specs.Found.{found_of}
use Rattle.cpc_types.specs.Scoped.{scope_of}
use Rattle.cpc_types.proofs.ExprParts.{unary_at, cast_at, member_at, arrow_at, binary_at, and_at, or_at, choose_at, index_at, narrow_unary}
use Rattle.cpc_types.proofs.expressions.+typing.Goals as goal

pub narrow-returns-in_ok-found-in-Unary : goal.narrow-returns-in_ok-found-in-Unary
narrow-returns-in_ok-found-in-Unary t c = IfOk-weaker c.unary_form.result _ _
    (λ form h names apart. h names ∙ unary_at names c.args.e.now (scope_of names c.args.scope.now) _ _ c.in-Unary.operand _ _ _ _ c.in-Unary.is c.deref-in-Unary.ensures c.deref.ensures (c.is_named.ensures names) (c.in_ok-found-in-Unary.ensures names apart))
    c.unary_form.ensures

pub narrow-returns-in_ok-found-in-Cast : goal.narrow-returns-in_ok-found-in-Cast
narrow-returns-in_ok-found-in-Cast t c = IfOk-weaker c.cast_form.result _ _
    (λ form h names apart. h names ∙ cast_at names c.args.e.now (scope_of names c.args.scope.now) _ _ c.in-Cast.operand _ _ _ _ c.in-Cast.is c.deref-in-Cast-2.ensures c.deref-in-Cast.ensures (c.is_null.ensures names) (c.in_ok-found-in-Cast.ensures names apart))
    c.cast_form.ensures

pub narrow-returns-in_ok-found-in-Member : goal.narrow-returns-in_ok-found-in-Member
narrow-returns-in_ok-found-in-Member t c = IfOk-weaker c.member_form.result _ _
    (λ form h names apart. h names apart ∙ member_at names c.args.e.now (scope_of names c.args.scope.now) _ c.in-Member.operand _ _ _ c.in-Member.is c.deref-in-Member.ensures (c.in_ok-found-in-Member.ensures names apart))
    c.member_form.ensures

pub narrow-returns-in_ok-found-in-Arrow : goal.narrow-returns-in_ok-found-in-Arrow
narrow-returns-in_ok-found-in-Arrow t c = IfOk-weaker c.arrow_form.result _ _
    (λ form h names apart. h names apart ∙ arrow_at names c.args.e.now (scope_of names c.args.scope.now) _ c.in-Arrow.operand _ _ _ c.in-Arrow.is c.deref-in-Arrow.ensures (c.in_ok-found-in-Arrow.ensures names apart))
    c.arrow_form.ensures

pub wide-returns-in_ok-first-in-Binary : goal.wide-returns-in_ok-first-in-Binary
wide-returns-in_ok-first-in-Binary t c = IfOk-weaker c.binary_form.result _ _
    (λ form h names apart. h names apart ∙ binary_at names c.args.e.now (scope_of names c.args.scope.now) _ _ c.in-Binary.left c.in-Binary.right _ _ _ _ _ _ _ _ c.in-Binary.is
    c.deref-in-Binary-2.ensures c.deref-in-Binary-3.ensures c.deref.ensures c.deref-in-Binary.ensures
    (c.is_null.ensures names) (c.is_null-in-Binary.ensures names) (ap (found_of names) c.in_ok-first-in-Binary.ensures.first ∙ c.in_ok-typing-in-Binary.ensures names apart) (IfOk-at_ok _ c.in_ok-first-in-Binary.ensures.second c.typing-in-Binary.ensures names apart))
    c.binary_form.ensures

pub logical-returns-in_ok-first-in-And : goal.logical-returns-in_ok-first-in-And
logical-returns-in_ok-first-in-And t c = λ names apart.
    c.test_form.ensures names
    ∙ and_at names c.args.e.now (scope_of names c.args.scope.now) _ c.in-And.left c.in-And.right _ _ _ _ c.in-And.is c.deref.ensures c.deref-in-And.ensures (ap (found_of names) c.in_ok-first-in-And.ensures.first ∙ c.in_ok-typing-in-And.ensures names apart) (IfOk-at_ok _ c.in_ok-first-in-And.ensures.second c.typing-in-And.ensures names apart)

pub logical-returns-in_ok-first-in-Or : goal.logical-returns-in_ok-first-in-Or
logical-returns-in_ok-first-in-Or t c = λ names apart.
    c.test_form-in-Or.ensures names
    ∙ or_at names c.args.e.now (scope_of names c.args.scope.now) _ c.in-Or.left c.in-Or.right _ _ _ _ c.in-Or.is c.deref-in-Or.ensures c.deref-in-Or-2.ensures (ap (found_of names) c.in_ok-first-in-Or.ensures.first ∙ c.in_ok-typing-in-Or.ensures names apart) (IfOk-at_ok _ c.in_ok-first-in-Or.ensures.second c.typing-in-Or-2.ensures names apart)

pub logical-returns-in_ok-first-in-Choose : goal.logical-returns-in_ok-first-in-Choose
logical-returns-in_ok-first-in-Choose t c = λ names apart.
    let scope = scope_of names c.args.scope.now in
    c.tested_form.ensures names (typed scope (expr_of names c.deref-in-Choose.result.now)) apart (c.is_tested-tested.ensures names ∙ ap (λ o. is_some (tested_type o)) (c.in_ok-typing-in-Choose.ensures names apart))
    ∙ choose_at names c.args.e.now scope _ c.in-Choose.test c.in-Choose.yes c.in-Choose.no _ _ _ _ _ _ _ _ _ _ c.in-Choose.is
    c.deref-in-Choose-4.ensures c.deref-in-Choose-5.ensures c.deref-in-Choose.ensures c.deref-in-Choose-2.ensures c.deref-in-Choose-3.ensures
    (c.is_null.ensures names) (c.is_null-in-Choose.ensures names) refl (ap (found_of names) c.in_ok-first-in-Choose.ensures.first ∙ c.in_ok-typing-in-Choose-2.ensures names apart) (IfOk-at_ok _ c.in_ok-first-in-Choose.ensures.second c.typing-in-Choose-3.ensures names apart)

pub wide-returns-in_ok-first-in-Index : goal.wide-returns-in_ok-first-in-Index
wide-returns-in_ok-first-in-Index t c = IfOk-weaker c.index_form.result _ _
    (λ form h names apart. h names apart ∙ index_at names c.args.e.now (scope_of names c.args.scope.now) _ c.in-Index.operand c.in-Index.index _ _ _ _ c.in-Index.is c.deref-in-Index.ensures c.deref-in-Index-2.ensures (ap (found_of names) c.in_ok-first-in-Index.ensures.first ∙ c.in_ok-typing-in-Index.ensures names apart) (IfOk-at_ok _ c.in_ok-first-in-Index.ensures.second c.typing-in-Index-2.ensures names apart))
    c.index_form.ensures

pub typing-returns-in-Unary : goal.typing-returns-in-Unary
typing-returns-in-Unary t c = IfOk-weaker c.narrow.result _ _ (λ found h names apart. h names apart ∙ narrow_unary names c.args.e.now (scope_of names c.args.scope.now) _ _ _ c.in-Unary.is) c.narrow.ensures
