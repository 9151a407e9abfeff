use Rattle.std.proofs.Common.{sym, ap, subst, ◌∙◌, arith}
use Rattle.cpc_tree.specs.Erase.{type_of}
use Rattle.cpc_parser_reading.specs.Reading.{◌>>=◌}
use Rattle.cpc_parser_types.specs.TypeViews.{coded_at}
use Rattle.cpc_parser_types.specs.Views.{placed, Gives}
use Rattle.cpc_parser_types.proofs.Giving.{err_through, deep_here}
use Rattle.cpc_parser_types.proofs.TokenSteps.{type_deep, type_plain, type_code}
use Rattle.cpc_parser_types.proofs.types.type_name.Goals as goal

pub returns-then-not-begins_mark-clause-gives : goal.returns-then-not-begins_mark-clause-gives
returns-then-not-begins_mark-clause-gives c =
    λ names. type_plain names c.args.depth c.args.tokens.now c.in_ok-of.rest.now (type_of names c.in_ok-of.of) c.in_ok-of.nest (c.in_ok-of.ensures.gives names) (sym (c.begins_mark.ensures names) ∙ c.if-not-begins_mark.true)

pub returns-then-depth-eq0-clause-gives : goal.returns-then-depth-eq0-clause-gives
returns-then-depth-eq0-clause-gives c =
    λ names. deep_here _ names c.in_ok-of.rest.now c.deep.result _ c.deep.ensures
    (type_deep names c.args.depth c.args.tokens.now c.in_ok-of.rest.now (type_of names c.in_ok-of.of) c.in_ok-of.nest (c.in_ok-of.ensures.gives names) (sym (c.begins_mark.ensures names) ∙ c.if-not-begins_mark.false) (omega (arith, c.if-depth-eq0.true)))

pub returns-in_err-rest-2-clause-gives : goal.returns-in_err-rest-2-clause-gives
returns-in_err-rest-2-clause-gives c =
    λ names. err_through _ _ _ _ _ (λ x. coded_at (type_of names c.in_ok-of.of) c.in_ok-of.nest c.args.depth x.2) c.from_residual-in_err-rest-2.ensures.1 (c.in_err-rest-2.ensures.gives names)
    (type_code names c.args.depth c.args.tokens.now c.in_ok-of.rest.now (type_of names c.in_ok-of.of) c.in_ok-of.nest (c.in_ok-of.ensures.gives names) c.in_ok-rest.rest.now c.in_ok-rest.field-0-0 c.in_ok-rest.ensures.first c.in_ok-of.ensures.nest (omega (arith, c.if-depth-eq0.false)))

pub returns-clause-gives : goal.returns-clause-gives
returns-clause-gives c =
    λ names. subst (λ s. Gives (λ x. (type_of names x.0, x.1, placed names x.2.now)) c.code.result s)
    (sym (type_code names c.args.depth c.args.tokens.now c.in_ok-of.rest.now (type_of names c.in_ok-of.of) c.in_ok-of.nest (c.in_ok-of.ensures.gives names) c.in_ok-rest.rest.now c.in_ok-rest.field-0-0 c.in_ok-rest.ensures.first c.in_ok-of.ensures.nest (omega (arith, c.if-depth-eq0.false))
    ∙ ap (λ r. r >>= λ x. coded_at (type_of names c.in_ok-of.of) c.in_ok-of.nest c.args.depth x.2) (c.in_ok-rest-2.ensures.gives names))) (c.code.ensures.gives names)
