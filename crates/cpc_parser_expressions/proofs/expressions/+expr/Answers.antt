use Rattle.std.proofs.Common.{sym, ap, ◌∙◌, ◌+◌, max, arith, [], ◌-◌, Some, ◌∷◌, ◌++◌, map, ◌<◌}
use Rattle.cpc_tree.specs.ExprGrammar.{Whole, operated}
use Rattle.cpc_parser_reading.specs.Reading.{Read, ◌>>=◌, expect}
use Rattle.cpc_parser_types.proofs.SameMarks.{unnamed}
use Rattle.cpc_parser_types.specs.Views.{placed, tiered_of, operator_of}
use Rattle.cpc_parser_types.proofs.Refusing.{refused_is}
use Rattle.cpc_parser_types.proofs.Giving.{err_through, deep_here, fault_here}
use Rattle.cpc_parser_expressions.proofs.Follow.{rank_start, whole_plain, cast_not, cast_deep, cast_so, unary_none, unary_plain, unary_size, unary_deep, args_none, args_deep, listed_is, row_links, atom_lit, atom_deep}
use Rattle.cpc_parser_expressions.proofs.Stages.{on_read, counted, tier_low, applied_deep, typed_left, part_deep, extra_least, part_least, round_go}
use Rattle.cpc_tree.specs.Located.{LChoose, LCast, LUnary, LIndex}
use Rattle.cpc_tree.specs.Locate.{located_expr}
use Rattle.cpc_tree.specs.declared.token.Punctuator.TheVariants as P
use Rattle.cpc_parser_types.proofs.TokenSteps.{begun_err}
use Rattle.cpc_parser_expressions.specs.Shapes.{Other, whole, Postfixed}
use Rattle.cpc_parser_expressions.specs.ExprReaders.{was_call, count, listed}
use Rattle.cpc_parser_expressions.specs.ShapeViews.{shape_of, apart_of, prefix_of, behind_of}
use Rattle.cpc_parser_expressions.proofs.Steps.{whole_start, tier_start, tier_next, tier_stop, gives_as, postfix_start, postfix_next, postfix_stop}
use Rattle.cpc_parser_expressions.proofs.Passages.{arms_deep, arms_go, second_go, cast_go, cast_operand, operand_go, call_go, element_go, row_end, args_start, args_next, args_stop}
use Rattle.std.specs.Option.{option_map}
use Rattle.cpc_base.proofs.Lists.{map_of_push}
use Rattle.cpc_tree.specs.Tokens.{placed_of}
use Rattle.cpc_tree.specs.Erase.{type_of}
use Rattle.cpc_parser_types.specs.TypeReaders.{is_unbracket}
use Rattle.cpc_parser_reading.specs.Chain.{links}
use Rattle.cpc_parser_expressions.proofs.expressions.+expr.Goals as goal

pub expr-returns-in_err-shape-clause-gives : goal.expr-returns-in_err-shape-clause-gives
expr-returns-in_err-shape-clause-gives t c = λ names. err_through _ _ _ _ _ _ c.from_residual.ensures.1 (c.in_err-shape.ensures.gives names) (rank_start c.args.depth Whole (placed names c.args.tokens.now))

pub expr-returns-clause-gives : goal.expr-returns-clause-gives
expr-returns-clause-gives t c =
    λ names. on_read _ _ _ _ (rank_start c.args.depth Whole (placed names c.args.tokens.now)) (c.in_ok-shape.ensures.gives names)
    ∙ ap (λ e. Read (e, c.in_ok-shape.nest, placed names c.in_ok-shape.rest.now)) (sym (c.in_ok-whole.ensures.is names))

pub whole_shape-returns-in_err-test-clause-gives : goal.whole_shape-returns-in_err-test-clause-gives
whole_shape-returns-in_err-test-clause-gives t c =
    λ names. err_through _ _ _ _ _ _ c.from_residual.ensures.1 (c.in_err-test.ensures.gives names) (whole_start (apart_of c.args.apart) c.args.depth (placed names c.args.tokens.now) c.requires)

pub whole_shape-returns-then-not-begins_mark-clause-gives : goal.whole_shape-returns-then-not-begins_mark-clause-gives
whole_shape-returns-then-not-begins_mark-clause-gives t c =
    λ names. whole_plain (apart_of c.args.apart) c.args.depth (placed names c.args.tokens.now) (placed names c.in_ok-test.rest.now) (shape_of names c.in_ok-test.test) c.in_ok-test.nest c.requires
    (c.in_ok-test.ensures.gives names) (sym (c.begins_mark.ensures names) ∙ c.if-not-begins_mark.true)

pub whole_shape-returns-in-Err-clause-gives : goal.whole_shape-returns-in-Err-clause-gives
whole_shape-returns-in-Err-clause-gives t c =
    λ names. begun_err _ P.Question (placed names c.in_ok-test.rest.now) _ _ _ (sym (c.begins_mark.ensures names) ∙ c.if-not-begins_mark.false) (refused_is c.refused.ensures) (c.in-Err.ensures.gives names)

pub whole_shape-returns-then-extra-depth-clause-gives : goal.whole_shape-returns-then-extra-depth-clause-gives
whole_shape-returns-then-extra-depth-clause-gives t c =
    λ names. deep_here _ names c.in_ok-test.rest.now c.deep_behind.result _ c.deep_behind.ensures
    (arms_deep (apart_of c.args.apart) c.args.depth (placed names c.args.tokens.now) (placed names c.in_ok-test.rest.now) (shape_of names c.in_ok-test.test) c.in_ok-test.nest c.requires c.in_ok-test.ensures.nest.0 c.in_ok-test.ensures.nest.1 (c.in_ok-test.ensures.gives names)
    c.in-Ok.read.0 (placed names c.in-Ok.read.1.now) (ap (placed names) c.in-Ok.ensures.first) (omega (arith, c.if-extra-depth.true, c.extra-extra.ensures names)))

pub whole_shape-returns-in-Err-expr-clause-gives : goal.whole_shape-returns-in-Err-expr-clause-gives
whole_shape-returns-in-Err-expr-clause-gives t c =
    λ names. err_through _ _ _ _ _ _ (refused_is c.refused-in-Err-expr.ensures) (c.in-Err-expr.ensures.gives names)
    (arms_go (apart_of c.args.apart) c.args.depth (placed names c.args.tokens.now) (placed names c.in_ok-test.rest.now) (shape_of names c.in_ok-test.test) c.in_ok-test.nest c.requires c.in_ok-test.ensures.nest.0 c.in_ok-test.ensures.nest.1 (c.in_ok-test.ensures.gives names)
    c.in-Ok.read.0 (placed names c.in-Ok.read.1.now) (ap (placed names) c.in-Ok.ensures.first) (omega (arith, c.if-extra-depth.false, c.extra-extra.ensures names)))

pub whole_shape-returns-in-Err-expect_mark-clause-gives : goal.whole_shape-returns-in-Err-expect_mark-clause-gives
whole_shape-returns-in-Err-expect_mark-clause-gives t c =
    λ names. err_through _ _ _ _ _ _ (refused_is c.refused-in-Err-expect_mark.ensures) (c.in-Err-expect_mark.ensures.gives names)
    (on_read _ _ _ _ (arms_go (apart_of c.args.apart) c.args.depth (placed names c.args.tokens.now) (placed names c.in_ok-test.rest.now) (shape_of names c.in_ok-test.test) c.in_ok-test.nest c.requires c.in_ok-test.ensures.nest.0 c.in_ok-test.ensures.nest.1 (c.in_ok-test.ensures.gives names)
    c.in-Ok.read.0 (placed names c.in-Ok.read.1.now) (ap (placed names) c.in-Ok.ensures.first) (omega (arith, c.if-extra-depth.false, c.extra-extra.ensures names))) (c.in-Ok-expr.ensures.gives names))

pub whole_shape-returns-in-Err-expr-2-clause-gives : goal.whole_shape-returns-in-Err-expr-2-clause-gives
whole_shape-returns-in-Err-expr-2-clause-gives t c =
    λ names. err_through _ _ _ _ _ _ (refused_is c.refused-in-Err-expr-2.ensures) (c.in-Err-expr-2.ensures.gives names)
    (on_read _ _ _ _ (on_read _ _ _ _ (arms_go (apart_of c.args.apart) c.args.depth (placed names c.args.tokens.now) (placed names c.in_ok-test.rest.now) (shape_of names c.in_ok-test.test) c.in_ok-test.nest c.requires c.in_ok-test.ensures.nest.0 c.in_ok-test.ensures.nest.1 (c.in_ok-test.ensures.gives names)
    c.in-Ok.read.0 (placed names c.in-Ok.read.1.now) (ap (placed names) c.in-Ok.ensures.first) (omega (arith, c.if-extra-depth.false, c.extra-extra.ensures names))) (c.in-Ok-expr.ensures.gives names)) (c.in-Ok-expect_mark.ensures.gives names))

pub whole_shape-returns-clause-gives : goal.whole_shape-returns-clause-gives
whole_shape-returns-clause-gives t c =
    λ names. let s = shape_of names c.in_ok-test.test in
    let h = max (c.in_ok-test.nest + (count (was_call s) + 1)) (max c.in-Ok-expr.read.1 c.in-Ok-expr-2.read.1 + 1) in
    on_read _ _ _ _ (on_read _ _ _ _ (on_read _ _ _ _ (arms_go (apart_of c.args.apart) c.args.depth (placed names c.args.tokens.now) (placed names c.in_ok-test.rest.now) s c.in_ok-test.nest c.requires c.in_ok-test.ensures.nest.0 c.in_ok-test.ensures.nest.1 (c.in_ok-test.ensures.gives names)
    c.in-Ok.read.0 (placed names c.in-Ok.read.1.now) (ap (placed names) c.in-Ok.ensures.first) (omega (arith, c.if-extra-depth.false, c.extra-extra.ensures names))) (c.in-Ok-expr.ensures.gives names)) (c.in-Ok-expect_mark.ensures.gives names)) (c.in-Ok-expr-2.ensures.gives names)
    ∙ (ap (λ w. Read (Other (LChoose c.in-Ok.read.0 w (located_expr names c.in-Ok-expr.read.0) (located_expr names c.in-Ok-expr-2.read.0)), h, placed names c.in-Ok-expr-2.read.2.now)) (sym (c.in-Ok-whole.ensures.is names))
    ∙ (ap (λ e. Read (Other e, h, placed names c.in-Ok-expr-2.read.2.now)) (sym (c.in_ok-whole.ensures.is names))
    ∙ ap (λ k. Read (Other (located_expr names c.in_ok-whole.whole), k, placed names c.in-Ok-expr-2.read.2.now)) (omega (arith, c.deeper.ensures, c.deeper-nest.ensures, c.extra-extra.ensures names, counted s))))

pub tier-returns-in_err-left-clause-gives : goal.tier-returns-in_err-left-clause-gives
tier-returns-in_err-left-clause-gives t c = λ names. err_through _ _ _ _ _ _ c.from_residual.ensures.1 (c.in_err-left.ensures.gives names) (tier_start (apart_of c.args.apart) c.args.depth c.args.n (placed names c.args.tokens.now) c.requires)

pub tier-ops-init : goal.tier-ops-init
tier-ops-init t c = (
  λ names. on_read _ _ _ _ (tier_start (apart_of c.args.apart) c.args.depth c.args.n (placed names c.args.tokens.now) c.requires) (c.in_ok-left.ensures.gives names),
  c.in_ok-left.ensures.nest.0,
  c.in_ok-left.ensures.nest.1,
  c.in_ok-left.ensures.shorter,
)

pub tier-applied-requires : goal.tier-applied-requires
tier-applied-requires t c =
    let low : 0 < c.in-Some.t = tier_low c.args.n (placed unnamed c.ops.rest.now) (tiered_of (c.in-Some.t, c.in-Some.op)) (sym (c.operator_of.ensures unnamed) ∙ ap (option_map tiered_of) c.in-Some.is) in
    (omega (arith, c.ops.invariant.3), (low, (c.ops.invariant.1, c.ops.invariant.2)))

pub tier-returns-in_err-whole-clause-gives : goal.tier-returns-in_err-whole-clause-gives
tier-returns-in_err-whole-clause-gives t c =
    λ names. err_through _ _ _ _ _ _ c.from_residual-in_err-whole.ensures.1 (c.in_err-whole.ensures.gives names c.args.n)
    (c.ops.invariant.0 names ∙ tier_next (apart_of c.args.apart) c.args.depth c.args.n (shape_of names c.ops.left) c.ops.nest (placed names c.ops.rest.now) (tiered_of (c.in-Some.t, c.in-Some.op)) c.ops.invariant.1 c.ops.invariant.2 (sym (c.operator_of.ensures names) ∙ ap (option_map tiered_of) c.in-Some.is))

pub tier-ops-preserved : goal.tier-ops-preserved
tier-ops-preserved t c = (
  λ names. on_read _ _ _ _ (c.ops.invariant.0 names ∙ tier_next (apart_of c.args.apart) c.args.depth c.args.n (shape_of names c.ops.left) c.ops.nest (placed names c.ops.rest.now) (tiered_of (c.in-Some.t, c.in-Some.op)) c.ops.invariant.1 c.ops.invariant.2 (sym (c.operator_of.ensures names) ∙ ap (option_map tiered_of) c.in-Some.is)) (c.in_ok-whole.ensures.gives names c.args.n),
  c.in_ok-whole.ensures.nest.0,
  c.in_ok-whole.ensures.nest.1,
  omega (arith, c.in_ok-whole.ensures.shorter, c.ops.invariant.3),
)

pub tier-returns-clause-gives : goal.tier-returns-clause-gives
tier-returns-clause-gives t c =
    λ names. c.ops.invariant.0 names ∙ tier_stop c.args.depth c.args.n (shape_of names c.ops.left) c.ops.nest (placed names c.ops.rest.now) (sym (c.operator_of.ensures names) ∙ ap (option_map tiered_of) c.in_default.is)

pub applied-returns-then-extra-depth-clause-gives : goal.applied-returns-then-extra-depth-clause-gives
applied-returns-then-extra-depth-clause-gives t c =
    λ names n. deep_here _ names c.args.tokens.now c.deep_behind.result _ c.deep_behind.ensures
    (applied_deep c.args.depth n (c.args.t, operator_of c.args.op) (shape_of names c.args.left) c.args.nest (placed_of names c.in-Some.token.now) (placed names c.in-Some.rest.now) (placed names c.args.tokens.now) (ap (placed names) c.in-Some.ensures.cases.0)
    (omega (arith, c.if-extra-depth.true, c.extra-extra.ensures names)))

pub applied-returns-in-Err-clause-gives : goal.applied-returns-in-Err-clause-gives
applied-returns-in-Err-clause-gives t c =
    λ names n. err_through _ _ _ _ _ _ (refused_is c.refused.ensures) (c.in-Err.ensures.gives names)
    (second_go c.args.depth n (c.args.t, operator_of c.args.op) (shape_of names c.args.left) c.args.nest (placed_of names c.in-Some.token.now) (placed names c.in-Some.rest.now) (placed names c.args.tokens.now) (ap (placed names) c.in-Some.ensures.cases.0)
    (omega (arith, c.if-extra-depth.false, c.extra-extra.ensures names)))

pub applied-returns-clause-gives : goal.applied-returns-clause-gives
applied-returns-clause-gives t c =
    λ names n. let s = shape_of names c.args.left in
    let r = shape_of names c.in-Ok.read.0 in
    let h = max (c.args.nest + (count (was_call s) + 1)) (c.in-Ok.read.1 + 1) in
    let op = operator_of c.args.op in
    let q = c.in-Some.token.now.place in
    let us = placed names c.in-Ok.read.2.now in
    on_read _ _ _ _ (second_go c.args.depth n (c.args.t, op) s c.args.nest (placed_of names c.in-Some.token.now) (placed names c.in-Some.rest.now) (placed names c.args.tokens.now) (ap (placed names) c.in-Some.ensures.cases.0)
    (omega (arith, c.if-extra-depth.false, c.extra-extra.ensures names))) (c.in-Ok.ensures.gives names)
    ∙ (ap (λ w. Read (Other (operated q op w (whole r)), h, us)) (sym (c.in-Ok-whole.ensures.is names))
    ∙ (ap (λ w. Read (Other (operated q op (located_expr names c.in-Ok-whole.read) w), h, us)) (sym (c.in-Ok-whole-2.ensures.is names))
    ∙ (ap (λ e. Read (Other e, h, us)) (sym (c.in_ok-whole.ensures.is names))
    ∙ ap (λ k. Read (Other (located_expr names c.in_ok-whole.whole), k, us)) (omega (arith, c.deeper.ensures, c.extra-extra.ensures names, counted s)))))

pub cast-returns-then-not-begins_cast-clause-gives : goal.cast-returns-then-not-begins_cast-clause-gives
cast-returns-then-not-begins_cast-clause-gives t c =
    λ names. gives_as _ _ _ _ (cast_not (apart_of c.args.apart) c.args.depth c.requires (placed names c.args.tokens.now) (sym (c.begins_cast.ensures names) ∙ c.if-not-begins_cast.true)) (c.unary.ensures.gives names)

pub cast-returns-then-depth-lt2-clause-gives : goal.cast-returns-then-depth-lt2-clause-gives
cast-returns-then-depth-lt2-clause-gives t c =
    λ names. deep_here _ names c.args.tokens.now c.deep.result _ c.deep.ensures
    (cast_deep (apart_of c.args.apart) c.args.depth c.requires (placed names c.args.tokens.now) (omega (arith, c.if-depth-lt2.true)) (sym (c.begins_cast.ensures names) ∙ c.if-not-begins_cast.false))

pub cast-returns-in_err-place-clause-gives : goal.cast-returns-in_err-place-clause-gives
cast-returns-in_err-place-clause-gives t c =
    λ names. err_through _ _ _ _ _ _ c.from_residual.ensures.1 (c.in_err-place.ensures.gives names)
    (cast_so (apart_of c.args.apart) c.args.depth c.requires (placed names c.args.tokens.now) (omega (arith, c.if-depth-lt2.false)) (sym (c.begins_cast.ensures names) ∙ c.if-not-begins_cast.false)
    ∙ typed_left (c.args.depth - 1) (placed names c.args.tokens.now))

pub cast-returns-in_err-target-clause-gives : goal.cast-returns-in_err-target-clause-gives
cast-returns-in_err-target-clause-gives t c =
    λ names. err_through _ _ _ _ _ _ c.from_residual-in_err-target.ensures.1 (c.in_err-target.ensures.gives names)
    (cast_go (apart_of c.args.apart) c.args.depth c.requires (placed names c.args.tokens.now) (omega (arith, c.if-depth-lt2.false)) (sym (c.begins_cast.ensures names) ∙ c.if-not-begins_cast.false)
    c.in_ok-place.place (placed names c.in_ok-place.rest.now) (ap (placed names) c.in_ok-place.ensures.first))

pub cast-returns-in-Err-clause-gives : goal.cast-returns-in-Err-clause-gives
cast-returns-in-Err-clause-gives t c =
    λ names. err_through _ _ _ _ _ _ (refused_is c.refused.ensures) (c.in-Err.ensures.gives names)
    (on_read _ _ _ _ (cast_go (apart_of c.args.apart) c.args.depth c.requires (placed names c.args.tokens.now) (omega (arith, c.if-depth-lt2.false)) (sym (c.begins_cast.ensures names) ∙ c.if-not-begins_cast.false)
    c.in_ok-place.place (placed names c.in_ok-place.rest.now) (ap (placed names) c.in_ok-place.ensures.first)) (c.in_ok-target.ensures.gives names)
    ∙ cast_operand c.in_ok-place.place (type_of names c.in_ok-target.target) c.in_ok-target.outer c.args.depth (placed names c.in_ok-target.rest.now))

pub cast-returns-clause-gives : goal.cast-returns-clause-gives
cast-returns-clause-gives t c =
    λ names. let h = max 0 (max c.in_ok-target.outer c.in-Ok.read.1) + 1 in
    let us = placed names c.in-Ok.read.2.now in
    on_read _ _ _ _
    (on_read _ _ _ _ (cast_go (apart_of c.args.apart) c.args.depth c.requires (placed names c.args.tokens.now) (omega (arith, c.if-depth-lt2.false)) (sym (c.begins_cast.ensures names) ∙ c.if-not-begins_cast.false)
    c.in_ok-place.place (placed names c.in_ok-place.rest.now) (ap (placed names) c.in_ok-place.ensures.first)) (c.in_ok-target.ensures.gives names)
    ∙ cast_operand c.in_ok-place.place (type_of names c.in_ok-target.target) c.in_ok-target.outer c.args.depth (placed names c.in_ok-target.rest.now))
    (c.in-Ok.ensures.gives names)
    ∙ (ap (λ w. Read (Other (LCast c.in_ok-place.place (type_of names c.in_ok-target.target) w), h, us)) (sym (c.in-Ok-whole.ensures.is names))
    ∙ (ap (λ e. Read (Other e, h, us)) (sym (c.in_ok-whole.ensures.is names))
    ∙ ap (λ k. Read (Other (located_expr names c.in_ok-whole.whole), k, us)) (omega (arith, c.deeper.ensures))))

pub unary-returns-in-None-clause-gives : goal.unary-returns-in-None-clause-gives
unary-returns-in-None-clause-gives t c =
    λ names. fault_here _ names c.args.tokens.now c.fault.result _ c.fault.ensures
    (unary_none (apart_of c.args.apart) c.args.depth c.requires (placed names c.args.tokens.now) (sym (c.first_prefix.ensures names) ∙ ap (option_map prefix_of) c.in-None.is))

pub unary-returns-in-Some-Plain-clause-gives : goal.unary-returns-in-Some-Plain-clause-gives
unary-returns-in-Some-Plain-clause-gives t c =
    λ names. gives_as _ _ _ _ (unary_plain (apart_of c.args.apart) c.args.depth c.requires (placed names c.args.tokens.now) (sym (c.first_prefix.ensures names) ∙ ap (option_map prefix_of) c.in-Some-Plain.is ∙ ap (λ x. Some (prefix_of x)) c.in-Some-Plain.field-0-is)) (c.postfix.ensures.gives names)

pub unary-returns-in-Some-Size-clause-gives : goal.unary-returns-in-Some-Size-clause-gives
unary-returns-in-Some-Size-clause-gives t c =
    λ names. gives_as _ _ _ _ (unary_size (apart_of c.args.apart) c.args.depth c.requires (placed names c.args.tokens.now) (sym (c.first_prefix.ensures names) ∙ ap (option_map prefix_of) c.in-Some-Size.is ∙ ap (λ x. Some (prefix_of x)) c.in-Some-Size.field-0-is)) (c.size.ensures.gives names)

pub unary-returns-then-depth-lt2-clause-gives : goal.unary-returns-then-depth-lt2-clause-gives
unary-returns-then-depth-lt2-clause-gives t c =
    λ names. deep_here _ names c.args.tokens.now c.deep.result _ c.deep.ensures
    (unary_deep (apart_of c.args.apart) c.args.depth c.requires c.in-Some-Sign.op (placed names c.args.tokens.now) (omega (arith, c.if-depth-lt2.true)) (sym (c.first_prefix.ensures names) ∙ ap (option_map prefix_of) c.in-Some-Sign.is ∙ ap (λ x. Some (prefix_of x)) c.in-Some-Sign.field-0-is))

pub unary-returns-in_err-operand-in-Some-Sign-clause-gives : goal.unary-returns-in_err-operand-in-Some-Sign-clause-gives
unary-returns-in_err-operand-in-Some-Sign-clause-gives t c =
    λ names. err_through _ _ _ _ _ _ c.from_residual.ensures.1 (c.in_err-operand-in-Some-Sign.ensures.gives names)
    (operand_go (apart_of c.args.apart) c.args.depth c.requires c.in-Some-Sign.op (placed names c.args.tokens.now) (omega (arith, c.if-depth-lt2.false)) (sym (c.first_prefix.ensures names) ∙ ap (option_map prefix_of) c.in-Some-Sign.is ∙ ap (λ x. Some (prefix_of x)) c.in-Some-Sign.field-0-is)
    (placed_of names c.in-Some.token.now) (placed names c.in-Some.rest.now) (ap (placed names) c.in-Some.ensures.cases.0))

pub unary-returns-in_ok-whole-in-Some-Sign-2-clause-gives : goal.unary-returns-in_ok-whole-in-Some-Sign-2-clause-gives
unary-returns-in_ok-whole-in-Some-Sign-2-clause-gives t c =
    λ names. let us = placed names c.in_ok-operand-in-Some-Sign.rest.now in
    on_read _ _ _ _ (operand_go (apart_of c.args.apart) c.args.depth c.requires c.in-Some-Sign.op (placed names c.args.tokens.now) (omega (arith, c.if-depth-lt2.false)) (sym (c.first_prefix.ensures names) ∙ ap (option_map prefix_of) c.in-Some-Sign.is ∙ ap (λ x. Some (prefix_of x)) c.in-Some-Sign.field-0-is)
    (placed_of names c.in-Some.token.now) (placed names c.in-Some.rest.now) (ap (placed names) c.in-Some.ensures.cases.0)) (c.in_ok-operand-in-Some-Sign.ensures.gives names)
    ∙ (ap (λ w. Read (Other (LUnary c.in-Some.token.now.place c.in-Some-Sign.op w), c.in_ok-operand-in-Some-Sign.nest + 1, us)) (sym (c.in_ok-whole-in-Some-Sign.ensures.is names))
    ∙ ap (λ e. Read (Other e, c.in_ok-operand-in-Some-Sign.nest + 1, us)) (sym (c.in_ok-whole-in-Some-Sign-2.ensures.is names)))

pub postfix-returns-in_err-shape-clause-gives : goal.postfix-returns-in_err-shape-clause-gives
postfix-returns-in_err-shape-clause-gives t c = λ names. err_through _ _ _ _ _ _ c.from_residual.ensures.1 (c.in_err-shape.ensures.gives names) (postfix_start (apart_of c.args.apart) c.args.depth (placed names c.args.tokens.now) c.requires)

pub postfix-parts-init : goal.postfix-parts-init
postfix-parts-init t c = (
  λ names. on_read _ _ _ _ (postfix_start (apart_of c.args.apart) c.args.depth (placed names c.args.tokens.now) c.requires) (c.in_ok-shape.ensures.gives names),
  c.in_ok-shape.ensures.nest.0,
  c.in_ok-shape.ensures.nest.1,
  c.in_ok-shape.ensures.shorter,
)

pub postfix-returns-in_err-whole-clause-gives : goal.postfix-returns-in_err-whole-clause-gives
postfix-returns-in_err-whole-clause-gives t c =
    λ names. err_through _ _ _ _ _ _ c.from_residual-in_err-whole.ensures.1 (c.in_err-whole.ensures.gives names)
    (c.parts.invariant.0 names ∙ postfix_next (apart_of c.args.apart) c.args.depth (shape_of names c.parts.shape) c.parts.nest (placed names c.parts.rest.now) (behind_of c.in-Some.class) c.parts.invariant.1 c.parts.invariant.2 (sym (c.next_behind.ensures names) ∙ ap (option_map behind_of) c.in-Some.is))

pub postfix-parts-preserved : goal.postfix-parts-preserved
postfix-parts-preserved t c = (
  λ names. on_read _ _ _ _ (c.parts.invariant.0 names ∙ postfix_next (apart_of c.args.apart) c.args.depth (shape_of names c.parts.shape) c.parts.nest (placed names c.parts.rest.now) (behind_of c.in-Some.class) c.parts.invariant.1 c.parts.invariant.2 (sym (c.next_behind.ensures names) ∙ ap (option_map behind_of) c.in-Some.is)) (c.in_ok-whole.ensures.gives names),
  c.in_ok-whole.ensures.nest.0,
  c.in_ok-whole.ensures.nest.1,
  omega (arith, c.in_ok-whole.ensures.shorter, c.parts.invariant.3),
)

pub postfix-returns-clause-gives : goal.postfix-returns-clause-gives
postfix-returns-clause-gives t c =
    λ names. c.parts.invariant.0 names ∙ postfix_stop (apart_of c.args.apart) c.args.depth (shape_of names c.parts.shape) c.parts.nest (placed names c.parts.rest.now) (sym (c.next_behind.ensures names) ∙ ap (option_map behind_of) c.in_default.is)

pub part-returns-then-depth-nest-clause-gives : goal.part-returns-then-depth-nest-clause-gives
part-returns-then-depth-nest-clause-gives t c =
    λ names. deep_here _ names c.args.tokens.now c.deep_behind.result _ c.deep_behind.ensures
    (part_deep (apart_of c.args.apart) c.args.depth (shape_of names c.args.shape) c.args.nest (placed_of names c.in-Some.token.now) (placed names c.in-Some.rest.now) (placed names c.args.tokens.now) (ap (placed names) c.in-Some.ensures.cases.0) c.requires.high (behind_of c.args.class)
    (omega (arith, c.if-depth-nest.true, c.extra-extra.ensures names, c.part_count-own.ensures)))

pub part-overflow_add-extra : goal.part-overflow_add-extra
part-overflow_add-extra t c =
    let e = c.extra-extra.ensures unnamed in
    let m = extra_least (shape_of unnamed c.args.shape) in
    let o = c.part_count-own.ensures in
    let p = part_least (apart_of c.args.apart) (behind_of c.args.class) in
    omega (arith, e, m, o, p)

pub part-returns-in-Err-clause-gives : goal.part-returns-in-Err-clause-gives
part-returns-in-Err-clause-gives t c =
    λ names. err_through _ _ _ _ _ _ (refused_is c.refused.ensures) (c.in-Err.ensures.gives names)
    (call_go (apart_of c.args.apart) c.args.depth (shape_of names c.args.shape) c.args.nest (placed_of names c.in-Some.token.now) (placed names c.in-Some.rest.now) (placed names c.args.tokens.now) (ap (placed names) c.in-Some.ensures.cases.0) c.requires.high
    (behind_of c.args.class) c.extra-extra.result c.part_count-own.result (located_expr names c.in_ok-whole.whole) (c.extra-extra.ensures names) c.part_count-own.ensures (c.in_ok-whole.ensures.is names) (omega (arith, c.if-depth-nest.false)) (ap behind_of c.in-Args.is))

pub part-returns-in_ok-shape-in-Args-clause-gives : goal.part-returns-in_ok-shape-in-Args-clause-gives
part-returns-in_ok-shape-in-Args-clause-gives t c =
    λ names. on_read _ _ _ _ (call_go (apart_of c.args.apart) c.args.depth (shape_of names c.args.shape) c.args.nest (placed_of names c.in-Some.token.now) (placed names c.in-Some.rest.now) (placed names c.args.tokens.now) (ap (placed names) c.in-Some.ensures.cases.0) c.requires.high
    (behind_of c.args.class) c.extra-extra.result c.part_count-own.result (located_expr names c.in_ok-whole.whole) (c.extra-extra.ensures names) c.part_count-own.ensures (c.in_ok-whole.ensures.is names) (omega (arith, c.if-depth-nest.false)) (ap behind_of c.in-Args.is)) (c.in-Ok.ensures.gives names)
    ∙ (ap (λ s. Read (s, max (c.args.nest + c.extra-extra.result + c.part_count-own.result) (c.in-Ok.read.1 + c.part_count-own.result), placed names c.in-Ok.read.2.now)) (sym (c.in_ok-shape-in-Args.ensures.is names))
    ∙ ap (λ k. Read (shape_of names c.in_ok-shape-in-Args.shape, k, placed names c.in-Ok.read.2.now)) (sym c.deeper.ensures))

pub part-returns-in-Err-expr-clause-gives : goal.part-returns-in-Err-expr-clause-gives
part-returns-in-Err-expr-clause-gives t c =
    λ names. err_through _ _ _ _ _ _ (refused_is c.refused-in-Err-expr.ensures) (c.in-Err-expr.ensures.gives names)
    (element_go (apart_of c.args.apart) c.args.depth (shape_of names c.args.shape) c.args.nest (placed_of names c.in-Some.token.now) (placed names c.in-Some.rest.now) (placed names c.args.tokens.now) (ap (placed names) c.in-Some.ensures.cases.0) c.requires.high
    (behind_of c.args.class) c.extra-extra.result c.part_count-own.result (located_expr names c.in_ok-whole.whole) (c.extra-extra.ensures names) c.part_count-own.ensures (c.in_ok-whole.ensures.is names) (omega (arith, c.if-depth-nest.false)) (ap behind_of c.in-Index.is))

pub part-returns-in-Ok-expr-clause-gives : goal.part-returns-in-Ok-expr-clause-gives
part-returns-in-Ok-expr-clause-gives t c =
    λ names. gives_as _ _ _ _
    (on_read _ _ _ _ (element_go (apart_of c.args.apart) c.args.depth (shape_of names c.args.shape) c.args.nest (placed_of names c.in-Some.token.now) (placed names c.in-Some.rest.now) (placed names c.args.tokens.now) (ap (placed names) c.in-Some.ensures.cases.0) c.requires.high
    (behind_of c.args.class) c.extra-extra.result c.part_count-own.result (located_expr names c.in_ok-whole.whole) (c.extra-extra.ensures names) c.part_count-own.ensures (c.in_ok-whole.ensures.is names) (omega (arith, c.if-depth-nest.false)) (ap behind_of c.in-Index.is)) (c.in-Ok-expr.ensures.gives names)
    ∙ ap (λ k. expect (λ u. is_unbracket u.lexeme) (placed names c.in-Ok-expr.read.2.now) >>= λ y. Read (Postfixed (LIndex c.in-Some.token.now.place (located_expr names c.in_ok-whole.whole) (located_expr names c.in-Ok-expr.read.0)), k, y.2)) (omega (arith, c.deeper-in-Index.ensures)))
    (c.element.ensures.gives names)

pub arguments-returns-in_err-rest-clause-gives : goal.arguments-returns-in_err-rest-clause-gives
arguments-returns-in_err-rest-clause-gives t c =
    λ names. err_through _ _ _ _ _ _ c.from_residual.ensures.1 (c.in_err-rest.ensures.gives names) (args_none c.args.depth (placed names c.args.tokens.now) (sym (c.begins_expr.ensures names) ∙ c.if-not-begins_expr.true))

pub arguments-returns-then-not-begins_expr-clause-gives : goal.arguments-returns-then-not-begins_expr-clause-gives
arguments-returns-then-not-begins_expr-clause-gives t c =
    λ names. on_read _ _ _ _ (args_none c.args.depth (placed names c.args.tokens.now) (sym (c.begins_expr.ensures names) ∙ c.if-not-begins_expr.true)) (c.in_ok-rest.ensures.gives names)
    ∙ ap (λ l. Read (listed (map (located_expr names) l), 0, placed names c.in_ok-rest.rest.now)) (sym c.new.ensures.items)
    ∙ ap (λ l. Read (l, 0, placed names c.in_ok-rest.rest.now)) (listed_is names c.new.result.items)

pub arguments-returns-then-depth-eq0-clause-gives : goal.arguments-returns-then-depth-eq0-clause-gives
arguments-returns-then-depth-eq0-clause-gives t c =
    λ names. deep_here _ names c.args.tokens.now c.deep.result _ c.deep.ensures
    (args_deep c.args.depth (placed names c.args.tokens.now) (omega (arith, c.if-depth-eq0.true)) (sym (c.begins_expr.ensures names) ∙ c.if-not-begins_expr.false))

pub arguments-returns-in_err-first-clause-gives : goal.arguments-returns-in_err-first-clause-gives
arguments-returns-in_err-first-clause-gives t c = λ names. err_through _ _ _ _ _ _ c.from_residual-in_err-first.ensures.1 (c.in_err-first.ensures.gives names)
    (args_start c.args.depth (placed names c.args.tokens.now) (omega (arith, c.if-depth-eq0.false)) (sym (c.begins_expr.ensures names) ∙ c.if-not-begins_expr.false))

pub arguments-returns-in-Err-clause-gives : goal.arguments-returns-in-Err-clause-gives
arguments-returns-in-Err-clause-gives t c =
    λ names. begun_err _ P.Comma (placed names c.more.rest.now) _ _ _ (sym (c.begins_mark.ensures names) ∙ c.more-test.true) (refused_is c.refused.ensures) (c.in-Err.ensures.gives names)

pub arguments-more-init : goal.arguments-more-init
arguments-more-init t c = (
  λ names. on_read _ _ _ _ (args_start c.args.depth (placed names c.args.tokens.now) (omega (arith, c.if-depth-eq0.false)) (sym (c.begins_expr.ensures names) ∙ c.if-not-begins_expr.false)) (c.in_ok-first.ensures.gives names)
      ∙ ap (λ l. links (row_links c.args.depth) (map (located_expr names) l) c.in_ok-first.other (placed names c.in_ok-first.behind.now) >>= row_end) (sym (c.in_ok-all.ensures.is ∙ ap (λ l. l ++ c.in_ok-first.first ∷ []) c.new-2.ensures.items)),
  c.in_ok-first.ensures.nest.0,
  c.in_ok-first.ensures.nest.1,
  c.in_ok-first.ensures.shorter,
)

pub arguments-returns-in-Err-expr-clause-gives : goal.arguments-returns-in-Err-expr-clause-gives
arguments-returns-in-Err-expr-clause-gives t c =
    λ names. err_through _ _ _ _ _ _ (refused_is c.refused-in-Err-expr.ensures) (c.in-Err-expr.ensures.gives names)
    (c.more.invariant.0 names ∙ args_next c.args.depth (map (located_expr names) c.more.all.items) c.more.nest c.in-Ok.read.0 (placed names c.in-Ok.read.1.now) (placed names c.more.rest.now) c.more.invariant.1 c.more.invariant.2 (ap (placed names) c.in-Ok.ensures.first))

pub arguments-more-preserved : goal.arguments-more-preserved
arguments-more-preserved t c = (
  λ names. on_read _ _ _ _ (c.more.invariant.0 names ∙ args_next c.args.depth (map (located_expr names) c.more.all.items) c.more.nest c.in-Ok.read.0 (placed names c.in-Ok.read.1.now) (placed names c.more.rest.now) c.more.invariant.1 c.more.invariant.2 (ap (placed names) c.in-Ok.ensures.first)) (c.in-Ok-expr.ensures.gives names)
      ∙ (ap (λ l. links (row_links c.args.depth) l (max c.more.nest c.in-Ok-expr.read.1) (placed names c.in-Ok-expr.read.2.now) >>= row_end) (sym (ap (map (located_expr names)) c.in_ok-all-2.ensures.is ∙ map_of_push (located_expr names) c.more.all.items c.in-Ok-expr.read.0))
      ∙ ap (λ k. links (row_links c.args.depth) (map (located_expr names) c.in_ok-all-2.all.items) k (placed names c.in-Ok-expr.read.2.now) >>= row_end) (sym c.deeper-nest.ensures)),
  omega (arith, c.deeper-nest.ensures, c.more.invariant.1, c.in-Ok-expr.ensures.nest),
  omega (arith, c.deeper-nest.ensures, c.more.invariant.2, c.in-Ok-expr.ensures.nest),
  omega (arith, c.in-Ok.ensures.shorter, c.in-Ok-expr.ensures.shorter, c.more.invariant.3),
)

pub arguments-returns-in-Err-expect_mark-clause-gives : goal.arguments-returns-in-Err-expect_mark-clause-gives
arguments-returns-in-Err-expect_mark-clause-gives t c =
    λ names. err_through _ _ _ _ _ _ (refused_is c.refused-in-Err-expect_mark.ensures) (c.in-Err-expect_mark.ensures.gives names)
    (c.more.invariant.0 names ∙ args_stop c.args.depth (map (located_expr names) c.more.all.items) c.more.nest (placed names c.more.rest.now) (sym (c.begins_mark.ensures names) ∙ c.more-test.false))

pub arguments-returns-clause-gives : goal.arguments-returns-clause-gives
arguments-returns-clause-gives t c =
    λ names. on_read _ _ _ _ (c.more.invariant.0 names ∙ args_stop c.args.depth (map (located_expr names) c.more.all.items) c.more.nest (placed names c.more.rest.now) (sym (c.begins_mark.ensures names) ∙ c.more-test.false)) (c.in-Ok-expect_mark.ensures.gives names)
    ∙ ap (λ l. Read (l, c.more.nest, placed names c.in-Ok-expect_mark.read.1.now)) (listed_is names c.more.all.items)

pub primary-returns-then-not-begins_mark-clause-gives : goal.primary-returns-then-not-begins_mark-clause-gives
primary-returns-then-not-begins_mark-clause-gives t c =
    λ names. gives_as _ _ _ _ (atom_lit (apart_of c.args.apart) c.args.depth c.requires (placed names c.args.tokens.now) (sym (c.begins_mark.ensures names) ∙ c.if-not-begins_mark.true)) (c.literal.ensures.gives names)

pub primary-returns-then-depth-lt2-clause-gives : goal.primary-returns-then-depth-lt2-clause-gives
primary-returns-then-depth-lt2-clause-gives t c =
    λ names. deep_here _ names c.args.tokens.now c.deep.result _ c.deep.ensures
    (atom_deep (apart_of c.args.apart) c.args.depth c.requires (placed names c.args.tokens.now) (omega (arith, c.if-depth-lt2.true)) (sym (c.begins_mark.ensures names) ∙ c.if-not-begins_mark.false))

pub primary-returns-in_err-rest-clause-gives : goal.primary-returns-in_err-rest-clause-gives
primary-returns-in_err-rest-clause-gives t c =
    λ names. begun_err _ P.LeftParen (placed names c.args.tokens.now) _ _ _ (sym (c.begins_mark.ensures names) ∙ c.if-not-begins_mark.false) c.from_residual.ensures.1 (c.in_err-rest.ensures.gives names)

pub primary-returns-in_err-inner-clause-gives : goal.primary-returns-in_err-inner-clause-gives
primary-returns-in_err-inner-clause-gives t c =
    λ names. err_through _ _ _ _ _ _ c.from_residual-in_err-inner.ensures.1 (c.in_err-inner.ensures.gives names)
    (round_go (apart_of c.args.apart) (apart_of c.inside.result) c.args.depth c.requires (omega (arith, c.if-depth-lt2.false)) c.inside.ensures c.in_ok-rest.field-0-0 (placed names c.in_ok-rest.rest.now) (placed names c.args.tokens.now) (ap (placed names) c.in_ok-rest.ensures.first))

pub primary-returns-in-Err-clause-gives : goal.primary-returns-in-Err-clause-gives
primary-returns-in-Err-clause-gives t c =
    λ names. err_through _ _ _ _ _ _ (refused_is c.refused.ensures) (c.in-Err.ensures.gives names)
    (on_read _ _ _ _ (round_go (apart_of c.args.apart) (apart_of c.inside.result) c.args.depth c.requires (omega (arith, c.if-depth-lt2.false)) c.inside.ensures c.in_ok-rest.field-0-0 (placed names c.in_ok-rest.rest.now) (placed names c.args.tokens.now) (ap (placed names) c.in_ok-rest.ensures.first))
    (c.in_ok-inner.ensures.gives names))

pub primary-returns-clause-gives : goal.primary-returns-clause-gives
primary-returns-clause-gives t c =
    λ names. on_read _ _ _ _
    (on_read _ _ _ _ (round_go (apart_of c.args.apart) (apart_of c.inside.result) c.args.depth c.requires (omega (arith, c.if-depth-lt2.false)) c.inside.ensures c.in_ok-rest.field-0-0 (placed names c.in_ok-rest.rest.now) (placed names c.args.tokens.now) (ap (placed names) c.in_ok-rest.ensures.first))
    (c.in_ok-inner.ensures.gives names)) (c.in-Ok.ensures.gives names)
    ∙ ap (λ s. Read (s, c.in_ok-inner.nest + 1, placed names c.in-Ok.read.1.now)) (sym (c.opened.ensures names))
