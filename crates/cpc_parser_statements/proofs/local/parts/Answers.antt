use Rattle.std.proofs.Common.{ap, arith, length}
use Rattle.std.proofs.lemmas.Result.{err_from_is_err_and}
use Rattle.cpc_parser_types.proofs.SameMarks.{unnamed}
use Rattle.cpc_parser_types.specs.Views.{placed}
use Rattle.cpc_parser_types.specs.TypeViews.{base_type}
use Rattle.cpc_parser_statements.specs.CodeViews.{seen}
use Rattle.cpc_parser_statements.proofs.LocalSteps.{parts_first, parts_next, parts_end, parts_fail}
use Rattle.cpc_parser_statements.proofs.local.parts.Goals as goal

pub parts-init : goal.parts-init
parts-init c = (
  λ names. (parts_first (base_type names c.args.base) c.args.depth c.args.place (seen names c.args.before.items) (seen names c.in_ok-all.all.items) _ c.in_ok-all.nest _ (omega (arith, c.requires)) (c.in_ok-all.ensures.gives names)).0,
  (parts_first (base_type unnamed c.args.base) c.args.depth c.args.place (seen unnamed c.args.before.items) (seen unnamed c.in_ok-all.all.items) _ c.in_ok-all.nest _ (omega (arith, c.requires)) (c.in_ok-all.ensures.gives unnamed)).1,
  c.in_ok-all.ensures.nest,
  c.in_ok-all.ensures.shorter,
)

pub parts-preserved : goal.parts-preserved
parts-preserved c =
    let shorter = ap length c.in-Some.ensures.some.1 in (
      λ names. rw c.deeper-nest.ensures
          (parts_next names (base_type names c.args.base) c.args.depth c.args.place (seen names c.args.before.items) (seen names c.parts.all.items) (seen names c.in_ok-more.more.items) c.parts.nest c.in_ok-more.other c.parts.rest.now _ c.in-Some.behind.now _
          (placed names c.args.tokens.now) c.parts.invariant.1 c.parts.invariant.2 c.in-Some.ensures.some.1 (c.in_ok-more.ensures.gives names) (c.parts.invariant.0 names)),
      omega (arith, c.deeper-nest.ensures, c.parts.invariant.1),
      omega (arith, c.deeper-nest.ensures, c.parts.invariant.2, c.in_ok-more.ensures.nest),
      omega (arith, shorter, c.in_ok-more.ensures.shorter, c.parts.invariant.3),
    )

pub returns-in_err-more-clause-gives : goal.returns-in_err-more-clause-gives
returns-in_err-more-clause-gives c = λ names.
    let p = err_from_is_err_and c.from_residual-in_err-more.result c.from_residual-in_err-more.ensures.1 in
    rw (p.1, p.2) (parts_fail c.in_err-more.field-0.0 names (base_type names c.args.base) c.args.depth c.args.place (seen names c.args.before.items) (seen names c.parts.all.items) c.parts.nest c.parts.rest.now _ c.in-Some.behind.now
    (placed names c.args.tokens.now) c.parts.invariant.1 c.parts.invariant.2 c.in-Some.ensures.some.1 (c.in_err-more.ensures.gives names) (c.parts.invariant.0 names))

pub returns-clause-gives : goal.returns-clause-gives
returns-clause-gives c = λ names. parts_end (base_type names c.args.base) c.args.depth c.args.place (seen names c.args.before.items) (seen names c.parts.all.items) c.parts.nest _ _ (c.in_default.ensures.none names) (c.parts.invariant.0 names)
