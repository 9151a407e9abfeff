use Rattle.std.proofs.Common.{◌≡◌, ◌+◌, List, [], ◌∷◌, ◌++◌, max, map, refl, sym, ap, ◌∙◌, arith}
use Rattle.std.specs.Option.{option_map}
use Rattle.cpc_tree.specs.declared.program.Parameter as GParameter
use Rattle.cpc_tree.specs.declared.token.Punctuator.TheVariants as P
use Rattle.cpc_tree.specs.Erase.{type_of}
use Rattle.cpc_tree.specs.Locate.{ident, located_parameter}
use Rattle.cpc_tree.specs.Syntax.{TyCode}
use Rattle.cpc_tree.specs.TypeGrammar.{types, without_void}
use Rattle.cpc_parser_reading.specs.Reading.{Read, ◌>>=◌, expect, after}
use Rattle.cpc_parser_types.specs.TypeReaders.{is_left, is_right, lists, param_of}
use Rattle.cpc_parser_types.specs.TypeViews.{coded_at}
use Rattle.cpc_parser_types.specs.Views.{placed}
use Rattle.cpc_parser_types.proofs.BehindSteps.{finished_at}
use Rattle.cpc_parser_types.proofs.NamelessSteps.{parameters_row, parameters_none}
use Rattle.cpc_parser_types.proofs.Giving.{err_through, deep_here, goes_on}
use Rattle.std.proofs.lemmas.Result.{err_from_is_err_and}
use Rattle.cpc_parser_types.proofs.RowSteps.{rest_at, row_first, row_first_err, row_next, row_last, row_err, pushed}
use Rattle.cpc_parser_types.proofs.TypedSteps.{behind_at, parameter_is}
use Rattle.cpc_parser_types.proofs.TokenSteps.{code_tokens, param_deep, param_code, param_named, param_plain, begun_err}
use Rattle.cpc_parser_types.proofs.types.+parameters.Goals as goal

pub code-returns-in_err-list-clause-gives : goal.code-returns-in_err-list-clause-gives
code-returns-in_err-list-clause-gives t c =
    λ names. err_through _ _ _ _ _ (λ x. expect (λ u. is_right u.lexeme) x.2 >>= λ y. Read (TyCode (type_of names c.args.of) (types x.0), max c.args.nest (x.1 + 1), y.2)) c.from_residual-in_err-list.ensures.1 (c.in_err-list.ensures.gives names)
    (code_tokens names (type_of names c.args.of) c.args.nest c.args.depth c.args.tokens.now c.in_ok-rest.rest.now c.in_ok-rest-2.rest.now c.in_ok-rest.field-0-0 c.in_ok-rest-2.field-0-0 c.in_ok-rest.ensures.first c.in_ok-rest-2.ensures.first c.requires.room)

pub code-returns-in_err-rest-3-clause-gives : goal.code-returns-in_err-rest-3-clause-gives
code-returns-in_err-rest-3-clause-gives t c =
    λ names. err_through _ _ _ _ _ (λ y. Read (TyCode (type_of names c.args.of) (types (map (located_parameter names) c.in_ok-list.list.items)), max c.args.nest (c.in_ok-list.inner + 1), y.2)) c.from_residual-in_err-rest-3.ensures.1 (c.in_err-rest-3.ensures.gives names)
    (code_tokens names (type_of names c.args.of) c.args.nest c.args.depth c.args.tokens.now c.in_ok-rest.rest.now c.in_ok-rest-2.rest.now c.in_ok-rest.field-0-0 c.in_ok-rest-2.field-0-0 c.in_ok-rest.ensures.first c.in_ok-rest-2.ensures.first c.requires.room
    ∙ ap (λ r. r >>= λ x. expect (λ u. is_right u.lexeme) x.2 >>= λ y. Read (TyCode (type_of names c.args.of) (types x.0), max c.args.nest (x.1 + 1), y.2)) (c.in_ok-list.ensures.gives names))

pub code-returns-clause-gives : goal.code-returns-clause-gives
code-returns-clause-gives t c =
    λ names. code_tokens names (type_of names c.args.of) c.args.nest c.args.depth c.args.tokens.now c.in_ok-rest.rest.now c.in_ok-rest-2.rest.now c.in_ok-rest.field-0-0 c.in_ok-rest-2.field-0-0 c.in_ok-rest.ensures.first c.in_ok-rest-2.ensures.first c.requires.room
    ∙ (ap (λ r. r >>= λ x. expect (λ u. is_right u.lexeme) x.2 >>= λ y. Read (TyCode (type_of names c.args.of) (types x.0), max c.args.nest (x.1 + 1), y.2)) (c.in_ok-list.ensures.gives names)
    ∙ (ap (λ r. r >>= λ y. Read (TyCode (type_of names c.args.of) (types (map (located_parameter names) c.in_ok-list.list.items)), max c.args.nest (c.in_ok-list.inner + 1), y.2)) (c.in_ok-rest-3.ensures.gives names)
    ∙ (ap (λ u. Read (u, max c.args.nest (c.in_ok-list.inner + 1), placed names c.in_ok-rest-3.rest.now)) (sym (c.in_ok-of.ensures.made names))
    ∙ ap (λ n. Read (type_of names c.in_ok-of.of, n, placed names c.in_ok-rest-3.rest.now)) (sym c.deeper.ensures))))

pub parameter-returns-then-depth-eq0-clause-gives : goal.parameter-returns-then-depth-eq0-clause-gives
parameter-returns-then-depth-eq0-clause-gives t c =
    λ names. deep_here _ names c.in_ok-of.rest.now c.deep.result _ c.deep.ensures
    (param_deep names c.args.depth c.args.tokens.now c.in_ok-of.rest.now (type_of names c.in_ok-of.of) c.in_ok-of.nest (c.in_ok-of.ensures.gives names) (sym (c.begins_mark.ensures names) ∙ c.if-begins_mark.true) (omega (arith, c.if-depth-eq0.true)))

pub parameter-returns-in_err-rest-clause-gives : goal.parameter-returns-in_err-rest-clause-gives
parameter-returns-in_err-rest-clause-gives t c =
    λ names. begun_err _ P.LeftParen (placed names c.in_ok-of.rest.now) _ _ _ (sym (c.begins_mark.ensures names) ∙ c.if-begins_mark.true) c.from_residual-in_err-rest.ensures.1 (c.in_err-rest.ensures.gives names)

pub parameter-returns-in_err-rest-2-clause-gives : goal.parameter-returns-in_err-rest-2-clause-gives
parameter-returns-in_err-rest-2-clause-gives t c =
    λ names. err_through _ _ _ _ _ (λ x. finished_at c.args.depth (type_of names c.in_ok-of.of) c.in_ok-of.nest x.2) c.from_residual-in_err-rest-2.ensures.1 (c.in_err-rest-2.ensures.gives names)
    (param_code names c.args.depth c.args.tokens.now c.in_ok-of.rest.now (type_of names c.in_ok-of.of) c.in_ok-of.nest (c.in_ok-of.ensures.gives names) c.in_ok-rest.rest.now c.in_ok-rest.field-0-0 c.in_ok-rest.ensures.first c.in_ok-of.ensures.nest (omega (arith, c.if-depth-eq0.false)))

pub parameter-returns-in_err-of-2-clause-gives : goal.parameter-returns-in_err-of-2-clause-gives
parameter-returns-in_err-of-2-clause-gives t c =
    λ names. err_through _ _ _ _ _ (λ p. Read (record { called = option_map (ident names) c.maybe_name-word.result.0; type = p.0 }, p.1, p.2)) c.from_residual-in_err-of-2.ensures.1 (c.in_err-of-2.ensures.gives names)
    (param_named names c.args.depth c.args.tokens.now c.in_ok-of.rest.now (type_of names c.in_ok-of.of) c.in_ok-of.nest (c.in_ok-of.ensures.gives names) c.in_ok-rest.rest.now c.in_ok-rest-2.rest.now c.maybe_name-word.result.1.now c.in_ok-rest.field-0-0 c.in_ok-rest-2.field-0-0
    (option_map (ident names) c.maybe_name-word.result.0) c.in_ok-rest.ensures.first c.in_ok-rest-2.ensures.first c.in_ok-of.ensures.nest (omega (arith, c.if-depth-eq0.false)) (c.maybe_name-word.ensures.gives names c.args.depth))

pub parameter-returns-then-begins_mark-clause-gives : goal.parameter-returns-then-begins_mark-clause-gives
parameter-returns-then-begins_mark-clause-gives t c =
    λ names. param_named names c.args.depth c.args.tokens.now c.in_ok-of.rest.now (type_of names c.in_ok-of.of) c.in_ok-of.nest (c.in_ok-of.ensures.gives names) c.in_ok-rest.rest.now c.in_ok-rest-2.rest.now c.maybe_name-word.result.1.now c.in_ok-rest.field-0-0 c.in_ok-rest-2.field-0-0
    (option_map (ident names) c.maybe_name-word.result.0) c.in_ok-rest.ensures.first c.in_ok-rest-2.ensures.first c.in_ok-of.ensures.nest (omega (arith, c.if-depth-eq0.false)) (c.maybe_name-word.ensures.gives names c.args.depth)
    ∙ ap (λ r. r >>= λ p. Read (record { called = option_map (ident names) c.maybe_name-word.result.0; type = p.0 }, p.1, p.2)) (c.in_ok-of-2.ensures.gives names)

pub parameter-returns-in_err-of-3-clause-gives : goal.parameter-returns-in_err-of-3-clause-gives
parameter-returns-in_err-of-3-clause-gives t c =
    λ names. err_through _ _ _ _ _ (λ p. Read (record { called = option_map (ident names) c.maybe_name-word-2.result.0; type = p.0 }, max c.in_ok-of.nest p.1, p.2)) c.from_residual-in_err-of-3.ensures.1 (c.in_err-of-3.ensures.gives names c.args.depth)
    (param_plain names c.args.depth c.args.tokens.now c.in_ok-of.rest.now (type_of names c.in_ok-of.of) c.in_ok-of.nest (c.in_ok-of.ensures.gives names) c.maybe_name-word-2.result.1.now (option_map (ident names) c.maybe_name-word-2.result.0)
    (sym (c.begins_mark.ensures names) ∙ c.if-begins_mark.false) c.in_ok-of.ensures.nest (c.maybe_name-word-2.ensures.gives names c.args.depth))

pub parameter-returns-clause-gives : goal.parameter-returns-clause-gives
parameter-returns-clause-gives t c =
    let m : max c.in_ok-of.nest 0 ≡ c.in_ok-of.nest = omega arith in
    λ names. param_plain names c.args.depth c.args.tokens.now c.in_ok-of.rest.now (type_of names c.in_ok-of.of) c.in_ok-of.nest (c.in_ok-of.ensures.gives names) c.maybe_name-word-2.result.1.now (option_map (ident names) c.maybe_name-word-2.result.0)
    (sym (c.begins_mark.ensures names) ∙ c.if-begins_mark.false) c.in_ok-of.ensures.nest (c.maybe_name-word-2.ensures.gives names c.args.depth)
    ∙ (ap (λ r. r >>= λ p. Read (record { called = option_map (ident names) c.maybe_name-word-2.result.0; type = p.0 }, max c.in_ok-of.nest p.1, p.2)) (c.in_ok-of-3.ensures.gives names c.args.depth)
    ∙ ap (λ n. Read (record { called = option_map (ident names) c.maybe_name-word-2.result.0; type = type_of names c.in_ok-of-3.of }, n, placed names c.in_ok-of-3.rest.now)) m)

pub parameters-returns-clause-gives : goal.parameters-returns-clause-gives
parameters-returns-clause-gives t c =
    λ names. parameters_row c.args.depth (placed names c.args.tokens.now) (sym (c.begins_base.ensures names) ∙ c.if-not-begins_base.false)
    ∙ (ap (λ r. r >>= λ x. Read (without_void x.0, x.1, x.2)) (c.in_ok-list.ensures.gives names) ∙ ap (λ l. Read (l, c.in_ok-list.nest, placed names c.in_ok-list.rest.now)) (sym (c.without_void.ensures names)))

pub row-returns-in_err-behind-clause-gives : goal.row-returns-in_err-behind-clause-gives
row-returns-in_err-behind-clause-gives t c =
    λ names. begun_err _ P.Comma (placed names c.more.rest.now) _ _ _ (sym (c.begins_mark.ensures names) ∙ c.more-test.true) c.from_residual-in_err-behind.ensures.1 (c.in_err-behind.ensures.gives names)

pub row-more-init : goal.row-more-init
row-more-init t c = (
  λ names. let k = row_first c.args.depth (placed names c.args.tokens.now) (placed names c.in_ok-first.rest.now) (located_parameter names c.in_ok-first.first) c.in_ok-first.nest (c.in_ok-first.ensures.gives names) in
      (k.0 ∷ [], pushed param_of (located_parameter names) [] [] c.push.new.self.items k.0 c.in_ok-first.first refl k.1 (◌∙◌ {A = List GParameter.Parameter} c.in_ok-push.ensures.items (ap (λ l. l ++ c.in_ok-first.first ∷ []) c.new-all.ensures.items)), k.2),
  c.in_ok-first.ensures.nest,
  c.in_ok-first.ensures.shorter,
)

pub row-returns-in_err-next-clause-gives : goal.row-returns-in_err-next-clause-gives
row-returns-in_err-next-clause-gives t c =
    let p = err_from_is_err_and c.from_residual-in_err-next.result c.from_residual-in_err-next.ensures.1 in
    λ names. let inv = c.more.invariant.0 names in
    rw (p.1, p.2) (row_err c.args.depth inv.0 c.more.nest c.in_ok-behind.field-0-0 (placed names c.in_ok-behind.behind.now) c.in_err-next.field-0.0 _ c.more.invariant.1
    (sym (ap (λ z. rest_at c.args.depth inv.0 c.more.nest (placed names z)) c.in_ok-behind.ensures.first) ∙ inv.2) (c.in_err-next.ensures.gives names))

pub row-more-preserved : goal.row-more-preserved
row-more-preserved t c = (
  λ names. let inv = c.more.invariant.0 names in
      let k = row_next c.args.depth inv.0 c.more.nest c.in_ok-behind.field-0-0 (placed names c.in_ok-behind.behind.now) (placed names c.in_ok-next.behind.now) (located_parameter names c.in_ok-next.next) c.in_ok-next.other c.more.invariant.1 (c.in_ok-next.ensures.gives names) in (
        inv.0 ++ k.0 ∷ [],
        pushed param_of (located_parameter names) inv.0 c.more.all.items c.push-in-more.new.self.items k.0 c.in_ok-next.next inv.1 k.1 c.in_ok-push-2.ensures.items,
        ap (λ n. rest_at c.args.depth (inv.0 ++ k.0 ∷ []) n (placed names c.in_ok-next.behind.now)) c.deeper-nest.ensures
            ∙ (k.2 ∙ (sym (ap (λ z. rest_at c.args.depth inv.0 c.more.nest (placed names z)) c.in_ok-behind.ensures.first) ∙ inv.2)),
      ),
  omega (arith, c.deeper-nest.ensures, c.more.invariant.1, c.in_ok-next.ensures.nest),
  omega (arith, c.in_ok-behind.ensures.shorter, c.in_ok-next.ensures.shorter, c.more.invariant.2),
)

pub row-returns-clause-gives : goal.row-returns-clause-gives
row-returns-clause-gives t c =
    λ names. let inv = c.more.invariant.0 names in
    ap (λ r. r >>= λ x. Read (map param_of x.0, x.1, x.2)) (sym inv.2 ∙ row_last c.args.depth inv.0 c.more.nest (placed names c.more.rest.now) (sym (c.begins_mark.ensures names) ∙ c.more-test.false))
    ∙ ap (λ l. Read (l, c.more.nest, placed names c.more.rest.now)) inv.1

pub code-returns-in_err-rest-clause-gives : goal.code-returns-in_err-rest-clause-gives
code-returns-in_err-rest-clause-gives t c =
    λ names. err_through _ _ _ _ _ (λ x. after (λ u. is_left u.lexeme) (λ us. lists c.args.depth us) x.2 >>= λ y. Read (TyCode (type_of names c.args.of) (types y.0), max c.args.nest y.1, y.2)) c.from_residual.ensures.1 (c.in_err-rest.ensures.gives names)
    (goes_on (expect (λ u. is_right u.lexeme) (placed names c.args.tokens.now)) (λ x. after (λ u. is_left u.lexeme) (λ us. lists c.args.depth us) x.2) (λ y. Read (TyCode (type_of names c.args.of) (types y.0), max c.args.nest y.1, y.2)))

pub code-returns-in_err-rest-2-clause-gives : goal.code-returns-in_err-rest-2-clause-gives
code-returns-in_err-rest-2-clause-gives t c =
    λ names. err_through _ _ _ _ _ (λ x. lists c.args.depth x.2 >>= λ y. Read (TyCode (type_of names c.args.of) (types y.0), max c.args.nest y.1, y.2)) c.from_residual-in_err-rest-2.ensures.1 (c.in_err-rest-2.ensures.gives names)
    (ap (λ z. coded_at (type_of names c.args.of) c.args.nest c.args.depth (placed names z)) c.in_ok-rest.ensures.first
    ∙ goes_on (expect (λ u. is_left u.lexeme) (placed names c.in_ok-rest.rest.now)) (λ x. lists c.args.depth x.2) (λ y. Read (TyCode (type_of names c.args.of) (types y.0), max c.args.nest y.1, y.2)))

pub parameters-returns-then-not-begins_base-clause-gives : goal.parameters-returns-then-not-begins_base-clause-gives
parameters-returns-then-not-begins_base-clause-gives t c =
    λ names. parameters_none c.args.depth (placed names c.args.tokens.now) (sym (c.begins_base.ensures names) ∙ c.if-not-begins_base.true)
    ∙ ap (λ l. Read (map (located_parameter names) l, 0, placed names c.args.tokens.now)) (sym c.new.ensures.items)

pub parameters-returns-in_err-list-clause-gives : goal.parameters-returns-in_err-list-clause-gives
parameters-returns-in_err-list-clause-gives t c =
    λ names. err_through _ _ _ _ _ (λ x. Read (without_void x.0, x.1, x.2)) c.from_residual.ensures.1 (c.in_err-list.ensures.gives names)
    (parameters_row c.args.depth (placed names c.args.tokens.now) (sym (c.begins_base.ensures names) ∙ c.if-not-begins_base.false))

pub parameter-returns-in_err-of-clause-gives : goal.parameter-returns-in_err-of-clause-gives
parameter-returns-in_err-of-clause-gives t c =
    λ names. err_through _ _ _ _ _ (λ x. behind_at c.args.depth x.0 x.1 x.2) c.from_residual.ensures.1 (c.in_err-of.ensures.gives names) (parameter_is c.args.depth (placed names c.args.tokens.now))

pub row-returns-in_err-first-clause-gives : goal.row-returns-in_err-first-clause-gives
row-returns-in_err-first-clause-gives t c =
    let p = err_from_is_err_and c.from_residual.result c.from_residual.ensures.1 in
    λ names. rw (p.1, p.2) (row_first_err c.args.depth (placed names c.args.tokens.now) c.in_err-first.field-0.0 (c.in_err-first.ensures.gives names))
