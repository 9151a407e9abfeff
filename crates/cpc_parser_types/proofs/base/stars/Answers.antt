use Rattle.std.proofs.Common.{◌+◌, ◌≤◌, ap, sym, ◌∙◌, arith}
use Rattle.cpc_tree.specs.Erase.{type_of}
use Rattle.cpc_tree.specs.Syntax.{TyPointer}
use Rattle.cpc_parser_reading.specs.Chain.{links}
use Rattle.cpc_parser_types.specs.Declarators.{pointer_links}
use Rattle.cpc_parser_types.specs.Views.{placed}
use Rattle.cpc_parser_types.proofs.BaseSteps.{stars_next, stars_deep, stars_last}
use Rattle.cpc_parser_types.proofs.Giving.{deep_here}
use Rattle.cpc_parser_types.proofs.base.stars.Goals as goal

pub returns-then-nest-depth-clause-gives : goal.returns-then-nest-depth-clause-gives
returns-then-nest-depth-clause-gives c =
    λ names. deep_here _ names c.stars.rest.now c.deep.result _ c.deep.ensures
    (sym (c.stars.invariant.0 names) ∙ stars_deep names c.args.depth c.stars.nest (type_of names c.stars.of) c.stars.rest.now (omega (arith, c.if-nest-depth.true)) (sym (c.begins_mark.ensures names) ∙ c.stars-test.true))

pub stars-preserved : goal.stars-preserved
stars-preserved c =
    let le : c.stars.nest + 1 ≤ c.args.depth = omega (arith, c.if-nest-depth.false) in (
      λ names. ap (λ t. links (pointer_links c.args.depth) (TyPointer (type_of names t)) (c.stars.nest + 1) (placed names c.in_ok-behind.behind.now)) c.in_ok-new.ensures.ok
          ∙ (sym (stars_next names c.args.depth c.stars.nest (type_of names c.stars.of) c.stars.rest.now c.in_ok-behind.behind.now c.in_ok-behind.field-0-0 le c.in_ok-behind.ensures.first) ∙ c.stars.invariant.0 names),
      le,
      omega (arith, c.in_ok-behind.ensures.shorter, c.stars.invariant.2),
    )

pub returns-clause-gives : goal.returns-clause-gives
returns-clause-gives c =
    λ names. sym (c.stars.invariant.0 names) ∙ stars_last c.args.depth c.stars.nest (type_of names c.stars.of) (placed names c.stars.rest.now) (sym (c.begins_mark.ensures names) ∙ c.stars-test.false)
