use Rattle.std.proofs.Common.{ap, sym, subst, ◌∙◌}
use Rattle.cpc_parser_reading.specs.Reading.{◌>>=◌}
use Rattle.cpc_parser_reading.specs.Chain.{links}
use Rattle.cpc_tree.specs.Erase.{type_of}
use Rattle.cpc_parser_types.specs.Declarators.{pointer_links}
use Rattle.cpc_parser_types.specs.Views.{placed, Gives}
use Rattle.cpc_parser_types.proofs.Giving.{err_through}
use Rattle.cpc_parser_types.proofs.TypedSteps.{typed_plain}
use Rattle.cpc_parser_types.proofs.base.typed.Goals as goal

pub returns-in_err-base-clause-gives : goal.returns-in_err-base-clause-gives
returns-in_err-base-clause-gives c =
    λ names. err_through _ _ _ _ _ (λ x. links (pointer_links c.args.depth) x.0 x.1 x.2) c.from_residual.ensures.1 (c.in_err-base.ensures.gives names c.args.depth) (typed_plain c.args.depth (placed names c.args.tokens.now))

pub returns-clause-gives : goal.returns-clause-gives
returns-clause-gives c =
    λ names. subst (λ s. Gives (λ x. (type_of names x.0, x.1, placed names x.2.now)) c.stars.result s)
    (sym (typed_plain c.args.depth (placed names c.args.tokens.now) ∙ ap (λ r. r >>= λ x. links (pointer_links c.args.depth) x.0 x.1 x.2) (c.in_ok-base.ensures.gives names c.args.depth))) (c.stars.ensures.gives names)
