use Rattle.std.proofs.Common.{refl, sym, ap, ◌∙◌, arith, Some}
use Rattle.std.specs.Option.{option_map}
use Rattle.cpc_parser_types.proofs.SameMarks.{unnamed}
use Rattle.cpc_tree.specs.Locate.{located_expr}
use Rattle.cpc_parser_expressions.specs.ShapeViews.{shape_of}
use Rattle.cpc_parser_statements.specs.SimpleReaders.{Begun, more_class}
use Rattle.cpc_parser_statements.specs.CodeViews.{more_seen}
use Rattle.cpc_parser_statements.proofs.Steps.{behind_none}
use Rattle.cpc_parser_statements.proofs.SimpleSteps.{deep_at, behind_full, no_first, sets_is, updates_is, steps_is}
use Rattle.cpc_parser_statements.proofs.simple.behind.Goals as goal

pub returns-in_default-clause-gives : goal.returns-in_default-clause-gives
returns-in_default-clause-gives c = λ names. rw (behind_none c.args.depth c.args.place (shape_of names c.args.shape) c.args.nest _ (sym (c.more_of.ensures names c.args.place) ∙ ap (option_map (more_seen (shape_of names c.args.shape))) c.in_default.is)) (c.alone.ensures.gives names)

pub returns-then-inner-depth-clause-gives : goal.returns-then-inner-depth-clause-gives
returns-then-inner-depth-clause-gives c = λ names. rw c.deep.ensures
    (deep_at names c.args.tokens.now _ (behind_full c.args.depth c.args.place (shape_of names c.args.shape) c.args.nest _ c.in-Some.more
    (sym (c.more_of.ensures names c.args.place) ∙ ap (option_map (more_seen (shape_of names c.args.shape))) c.in-Some.is) (omega (arith, c.grown-inner.ensures names, c.if-inner-depth.true))))

pub returns-in_default-split_first-clause-gives : goal.returns-in_default-split_first-clause-gives
returns-in_default-split_first-clause-gives c = absurd (no_first (more_class (Begun c.args.place (shape_of unnamed c.args.shape))) unnamed c.args.tokens.now (more_seen (shape_of unnamed c.args.shape) c.in-Some.more) c.in_default-split_first.ensures.cases
    (sym (c.more_of.ensures unnamed c.args.place) ∙ ap (option_map (more_seen (shape_of unnamed c.args.shape))) c.in-Some.is))

pub returns-in-Sets-clause-gives : goal.returns-in-Sets-clause-gives
returns-in-Sets-clause-gives c =
    λ names. rw (sets_is names c.args.depth c.args.place (shape_of names c.args.shape) c.args.nest c.args.tokens.now c.in-Some-split_first.token.now c.in-Some-split_first.rest.now (located_expr names c.in_ok-target.target) c.grown-inner.result c.in-Some-split_first.ensures.cases.0 (c.in_ok-target.ensures.is names) (c.grown-inner.ensures names) c.requires.low (omega (arith, c.if-inner-depth.false)) (sym (c.more_of.ensures names c.args.place) ∙ ap (option_map (more_seen (shape_of names c.args.shape))) (c.in-Some.is ∙ ap Some c.in-Sets.is))) (c.assigned.ensures.gives names)

pub returns-in-Updates-clause-gives : goal.returns-in-Updates-clause-gives
returns-in-Updates-clause-gives c =
    λ names. rw (updates_is names c.args.depth c.args.place (shape_of names c.args.shape) c.args.nest c.args.tokens.now c.in-Some-split_first.token.now c.in-Some-split_first.rest.now c.in-Updates.op (located_expr names c.in_ok-target.target) c.grown-inner.result c.in-Some-split_first.ensures.cases.0 (c.in_ok-target.ensures.is names) (c.grown-inner.ensures names) c.requires.low (omega (arith, c.if-inner-depth.false)) (sym (c.more_of.ensures names c.args.place) ∙ ap (option_map (more_seen (shape_of names c.args.shape))) (c.in-Some.is ∙ ap Some c.in-Updates.is))) (c.updated.ensures.gives names)

pub returns-in-Steps-clause-gives : goal.returns-in-Steps-clause-gives
returns-in-Steps-clause-gives c =
    λ names. steps_is names c.args.depth c.args.place (shape_of names c.args.shape) c.args.nest c.args.tokens.now c.in-Some-split_first.token.now c.in-Some-split_first.rest.now c.in-Steps.op (located_expr names c.in_ok-target.target) c.grown-inner.result c.in-Some-split_first.ensures.cases.0 (c.in_ok-target.ensures.is names) (c.grown-inner.ensures names) c.requires.low (omega (arith, c.if-inner-depth.false)) (sym (c.more_of.ensures names c.args.place) ∙ ap (option_map (more_seen (shape_of names c.args.shape))) (c.in-Some.is ∙ ap Some c.in-Steps.is)) ∙ rw (c.stepped.ensures names) refl

pub assigned-requires-clause-low : goal.assigned-requires-clause-low
assigned-requires-clause-low c = omega (arith, c.grown-inner.ensures unnamed, c.requires.low)

pub updated-requires-clause-low : goal.updated-requires-clause-low
updated-requires-clause-low c = omega (arith, c.grown-inner.ensures unnamed, c.requires.low)
