use Rattle.std.proofs.Common.{sym, ap, ◌∙◌, arith}
use Rattle.cpc_tree.specs.declared.token.Punctuator.TheVariants as P
use Rattle.cpc_tree.specs.Erase.{type_of}
use Rattle.cpc_tree.specs.Locate.{ident}
use Rattle.cpc_parser_reading.specs.Reading.{Read, ◌>>=◌, expect}
use Rattle.cpc_parser_types.specs.TypeReaders.{is_star}
use Rattle.cpc_parser_types.specs.TypeViews.{coded_at}
use Rattle.cpc_parser_types.specs.Views.{placed}
use Rattle.cpc_parser_types.proofs.DeclaredSteps.{variable_fault, variable_deep, variable_code, variable_named, behind_star}
use Rattle.cpc_parser_types.proofs.Giving.{err_through, fault_here, deep_here}
use Rattle.cpc_parser_types.proofs.TokenSteps.{begun_err}
use Rattle.cpc_parser_types.proofs.types.pointer.Goals as goal

pub returns-then-not-begins_mark-clause-gives : goal.returns-then-not-begins_mark-clause-gives
returns-then-not-begins_mark-clause-gives c =
    λ names. fault_here _ names c.args.tokens.now c.fault.result _ c.fault.ensures
    (variable_fault (type_of names c.args.of) c.args.nest c.args.depth (placed names c.args.tokens.now) (c.requires.unnamed names) (sym (c.begins_mark.ensures names) ∙ c.if-not-begins_mark.true))

pub returns-then-depth-eq0-clause-gives : goal.returns-then-depth-eq0-clause-gives
returns-then-depth-eq0-clause-gives c =
    λ names. deep_here _ names c.args.tokens.now c.deep.result _ c.deep.ensures
    (variable_deep (type_of names c.args.of) c.args.nest c.args.depth (placed names c.args.tokens.now) (sym (c.begins_mark.ensures names) ∙ c.if-not-begins_mark.false) c.if-depth-eq0.true)

pub returns-in_err-rest-clause-gives : goal.returns-in_err-rest-clause-gives
returns-in_err-rest-clause-gives c =
    λ names. begun_err _ P.LeftParen (placed names c.args.tokens.now) _ _ _ (sym (c.begins_mark.ensures names) ∙ c.if-not-begins_mark.false) c.from_residual.ensures.1 (c.in_err-rest.ensures.gives names)

pub returns-in_err-rest-2-clause-gives : goal.returns-in_err-rest-2-clause-gives
returns-in_err-rest-2-clause-gives c =
    λ names. err_through _ _ _ _ _ (λ s. behind_star (type_of names c.args.of) c.args.nest c.args.depth s.2) c.from_residual-in_err-rest-2.ensures.1 (c.in_err-rest-2.ensures.gives names)
    (variable_code names (type_of names c.args.of) c.args.nest c.args.depth c.args.tokens.now c.in_ok-rest.rest.now c.in_ok-rest.field-0-0 c.in_ok-rest.ensures.first (omega (arith, c.if-depth-eq0.false)))

pub returns-in_err-word-clause-gives : goal.returns-in_err-word-clause-gives
returns-in_err-word-clause-gives c =
    λ names. err_through _ _ _ _ _ (λ x. coded_at (type_of names c.args.of) c.args.nest c.args.depth x.2 >>= λ p. Read (record { called = x.0; type = p.0 }, p.1, p.2)) c.from_residual-in_err-word.ensures.1 (c.in_err-word.ensures.gives names)
    (variable_code names (type_of names c.args.of) c.args.nest c.args.depth c.args.tokens.now c.in_ok-rest.rest.now c.in_ok-rest.field-0-0 c.in_ok-rest.ensures.first (omega (arith, c.if-depth-eq0.false))
    ∙ ap (λ z. expect (λ u. is_star u.lexeme) (placed names z) >>= λ s. behind_star (type_of names c.args.of) c.args.nest c.args.depth s.2) c.in_ok-rest-2.ensures.first)

pub returns-in_err-of-clause-gives : goal.returns-in_err-of-clause-gives
returns-in_err-of-clause-gives c =
    λ names. err_through _ _ _ _ _ (λ p. Read (record { called = ident names c.in_ok-word.word; type = p.0 }, p.1, p.2)) c.from_residual-in_err-of.ensures.1 (c.in_err-of.ensures.gives names)
    (variable_named names (type_of names c.args.of) c.args.nest c.args.depth c.args.tokens.now c.in_ok-rest.rest.now c.in_ok-rest-2.rest.now c.in_ok-word.rest.now c.in_ok-rest.field-0-0 c.in_ok-rest-2.field-0-0 (ident names c.in_ok-word.word) c.in_ok-rest.ensures.first c.in_ok-rest-2.ensures.first (omega (arith, c.if-depth-eq0.false)) (c.in_ok-word.ensures.gives names))

pub returns-clause-gives : goal.returns-clause-gives
returns-clause-gives c =
    λ names. variable_named names (type_of names c.args.of) c.args.nest c.args.depth c.args.tokens.now c.in_ok-rest.rest.now c.in_ok-rest-2.rest.now c.in_ok-word.rest.now c.in_ok-rest.field-0-0 c.in_ok-rest-2.field-0-0 (ident names c.in_ok-word.word) c.in_ok-rest.ensures.first c.in_ok-rest-2.ensures.first (omega (arith, c.if-depth-eq0.false)) (c.in_ok-word.ensures.gives names)
    ∙ ap (λ r. r >>= λ p. Read (record { called = ident names c.in_ok-word.word; type = p.0 }, p.1, p.2)) (c.in_ok-of.ensures.gives names)

pub returns-clause-shorter : goal.returns-clause-shorter
returns-clause-shorter c = omega (arith, c.in_ok-rest.ensures.shorter, c.in_ok-rest-2.ensures.shorter, c.in_ok-word.ensures.shorter, c.in_ok-of.ensures.shorter)
