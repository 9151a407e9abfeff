use Rattle.std.proofs.Common.{◌≡◌, ◌<◌, length, max, sym, ap, subst, ◌∙◌, arith}
use Rattle.std.proofs.lemmas.Result.{IfOk-weaker}
use Rattle.cpc_tree.specs.Erase.{type_of}
use Rattle.cpc_tree.specs.Locate.{ident}
use Rattle.cpc_parser_reading.specs.Reading.{Read, ◌>>=◌}
use Rattle.cpc_parser_types.specs.Declarators.{variable_at}
use Rattle.cpc_parser_types.specs.TypeViews.{base_type}
use Rattle.cpc_parser_types.specs.Views.{placed, Gives}
use Rattle.cpc_parser_types.proofs.DeclaredSteps.{declared_name, variable_behind, variable_by, name_err}
use Rattle.cpc_parser_types.proofs.Giving.{err_through}
use Rattle.cpc_parser_types.proofs.types.declarator.Goals as goal

pub returns-in_err-of-2-clause-gives : goal.returns-in_err-of-2-clause-gives
returns-in_err-of-2-clause-gives c =
    λ names. err_through _ _ _ _ _ (λ p. Read (record { called = ident names c.in_ok-word.word; type = p.0 }, max c.in_ok-of.nest p.1, p.2)) c.from_residual-in_err-of-2.ensures.1 (c.in_err-of-2.ensures.gives names c.args.depth)
    (declared_name (base_type names c.args.base) c.args.depth (placed names c.args.tokens.now) (placed names c.in_ok-of.rest.now) (placed names c.in_ok-word.rest.now) (type_of names c.in_ok-of.of) c.in_ok-of.nest (ident names c.in_ok-word.word) (c.in_ok-of.ensures.gives names) (c.in_ok-word.ensures.gives names))

pub returns-clause-gives : goal.returns-clause-gives
returns-clause-gives c =
    let m : max c.in_ok-of.nest 0 ≡ c.in_ok-of.nest = omega arith in
    λ names. declared_name (base_type names c.args.base) c.args.depth (placed names c.args.tokens.now) (placed names c.in_ok-of.rest.now) (placed names c.in_ok-word.rest.now) (type_of names c.in_ok-of.of) c.in_ok-of.nest (ident names c.in_ok-word.word) (c.in_ok-of.ensures.gives names) (c.in_ok-word.ensures.gives names)
    ∙ (ap (λ r. r >>= λ p. Read (record { called = ident names c.in_ok-word.word; type = p.0 }, max c.in_ok-of.nest p.1, p.2)) (c.in_ok-of-2.ensures.gives names c.args.depth)
    ∙ ap (λ n. Read (record { called = ident names c.in_ok-word.word; type = type_of names c.in_ok-of-2.of }, n, placed names c.in_ok-of-2.rest.now)) m)

pub returns-then-not-begins_name-clause-gives : goal.returns-then-not-begins_name-clause-gives
returns-then-not-begins_name-clause-gives c =
    λ names. subst (λ s. Gives (λ x. (record { called = ident names x.0; type = type_of names x.1 }, x.2, placed names x.3.now)) c.pointer.result s) (sym (variable_behind (base_type names c.args.base) c.args.depth (placed names c.args.tokens.now) (placed names c.in_ok-of.rest.now) (type_of names c.in_ok-of.of) c.in_ok-of.nest (c.in_ok-of.ensures.gives names))) (c.pointer.ensures.gives names)

pub returns-in_err-of-clause-gives : goal.returns-in_err-of-clause-gives
returns-in_err-of-clause-gives c =
    λ names. err_through _ _ _ _ _ (λ x. variable_at x.0 x.1 c.args.depth x.2) c.from_residual.ensures.1 (c.in_err-of.ensures.gives names) (variable_by (base_type names c.args.base) c.args.depth (placed names c.args.tokens.now))

pub returns-in_err-word-clause-gives : goal.returns-in_err-word-clause-gives
returns-in_err-word-clause-gives c =
    λ names. name_err _ names _ c.in_ok-of.rest.now c.from_residual-in_err-word.result c.in_err-word.field-0.0 (sym (c.begins_name.ensures names) ∙ c.if-not-begins_name.false) c.from_residual-in_err-word.ensures.1 (c.in_err-word.ensures.gives names)

pub returns-then-not-begins_name-clause-shorter : goal.returns-then-not-begins_name-clause-shorter
returns-then-not-begins_name-clause-shorter c =
    IfOk-weaker c.pointer.result (λ x. length x.3.now < length c.in_ok-of.rest.now) (λ x. length x.3.now < length c.args.tokens.now) (λ x h. omega (arith, h, c.in_ok-of.ensures.shorter)) c.pointer.ensures.shorter

pub pointer-requires : goal.pointer-requires
pointer-requires c = record { unnamed = λ names. sym (c.begins_name.ensures names) ∙ c.if-not-begins_name.true; nest = c.in_ok-of.ensures.nest }

pub returns-clause-shorter : goal.returns-clause-shorter
returns-clause-shorter c = omega (arith, c.in_ok-of.ensures.shorter, c.in_ok-word.ensures.shorter, c.in_ok-of-2.ensures.shorter)
