use Rattle.std.proofs.Common.{[], ◌∷◌, map, sym, ap, subst, ◌∙◌, arith}
use Rattle.std.proofs.lemmas.List.{map-append}
use Rattle.std.proofs.lemmas.Result.{err_from_is_err_and}
use Rattle.cpc_tree.specs.declared.program.Field.{Field}
use Rattle.cpc_tree.specs.declared.token.Punctuator.TheVariants as P
use Rattle.cpc_tree.specs.Locate.{located_field}
use Rattle.cpc_parser_types.specs.TypeViews.{base_type}
use Rattle.cpc_parser_types.specs.Views.{placed}
use Rattle.cpc_parser_types.proofs.Giving.{err_through}
use Rattle.cpc_parser_types.proofs.TokenSteps.{begun_err}
use Rattle.cpc_parser.specs.ItemViews.{InFields}
use Rattle.cpc_parser.proofs.Steps.{onward}
use Rattle.cpc_parser.proofs.FieldSteps.{field_first, field_next, field_fails_first, field_fails, field_ends}
use Rattle.cpc_parser.proofs.structure.field_row.Goals as goal

pub returns-in_err-word-clause-gives : goal.returns-in_err-word-clause-gives
returns-in_err-word-clause-gives c = λ names.
    let p = err_from_is_err_and c.from_residual.result c.from_residual.ensures.1 in
    rw (p.1, p.2) (field_fails_first (base_type names c.args.base) c.args.depth (placed names c.args.tokens.now) (map (located_field names) c.args.all.now.items) c.in_err-word.field-0.0 (c.in_err-word.ensures.gives names))

pub fields-init : goal.fields-init
fields-init c = (
  λ names.
      let f = located_field names in
      let b = base_type names c.args.base in
      let old = c.args.all.now.items in
      let x : Field = record { word = c.in_ok-word.word; of = c.in_ok-word.of } in
      let m = sym (map-append f old (x ∷ [])) ∙ ap (map f) (sym c.in_ok-push.ensures.items) in
      let rest = placed names c.in_ok-word.rest.now in
      subst (λ u. InFields b c.args.depth (placed names c.args.tokens.now) (map f old) u rest) m (field_first b c.args.depth (placed names c.args.tokens.now) rest (map f old) (f x) _ c.in_ok-word.ensures.nest (c.in_ok-word.ensures.gives names)),
  c.in_ok-word.ensures.shorter,
)

pub returns-in_err-behind-clause-gives : goal.returns-in_err-behind-clause-gives
returns-in_err-behind-clause-gives c = λ names.
    begun_err _ P.Comma (placed names c.fields.rest.now) _ _ _ (sym (c.begins_mark.ensures names) ∙ c.fields-test.true) c.from_residual-in_err-behind.ensures.1 (c.in_err-behind.ensures.gives names)

pub returns-in_err-word-2-clause-gives : goal.returns-in_err-word-2-clause-gives
returns-in_err-word-2-clause-gives c = λ names.
    let f = located_field names in
    let b = base_type names c.args.base in
    let old = map f c.args.all.now.items in
    let done = map f c.fields.all.items in
    let p = err_from_is_err_and c.from_residual-in_err-word-2.result c.from_residual-in_err-word-2.ensures.1 in
    let i = subst (λ z. InFields b c.args.depth (placed names c.args.tokens.now) old done (placed names z)) c.in_ok-behind.ensures.first (c.fields.invariant.0 names) in
    rw (p.1, p.2) (field_fails b c.args.depth (placed names c.args.tokens.now) old done c.in_ok-behind.field-0-0 (placed names c.in_ok-behind.behind.now) c.in_err-word-2.field-0.0 i (c.in_err-word-2.ensures.gives names))

pub fields-preserved : goal.fields-preserved
fields-preserved c = (
  λ names.
      let f = located_field names in
      let b = base_type names c.args.base in
      let old = map f c.args.all.now.items in
      let done = c.fields.all.items in
      let x : Field = record { word = c.in_ok-word-2.word; of = c.in_ok-word-2.of } in
      let rest = placed names c.in_ok-word-2.behind.now in
      let i = subst (λ z. InFields b c.args.depth (placed names c.args.tokens.now) old (map f done) (placed names z)) c.in_ok-behind.ensures.first (c.fields.invariant.0 names) in
      let m = sym (map-append f done (x ∷ [])) ∙ ap (map f) (sym c.in_ok-push-2.ensures.items) in
      subst (λ u. InFields b c.args.depth (placed names c.args.tokens.now) old u rest) m
      (field_next b c.args.depth (placed names c.args.tokens.now) old (map f done) c.in_ok-behind.field-0-0 (placed names c.in_ok-behind.behind.now) rest (f x) _ i c.in_ok-word-2.ensures.nest (c.in_ok-word-2.ensures.gives names)),
  omega (arith, c.in_ok-behind.ensures.shorter, c.in_ok-word-2.ensures.shorter, c.fields.invariant.1),
)

pub returns-in_err-rest-clause-gives : goal.returns-in_err-rest-clause-gives
returns-in_err-rest-clause-gives c = λ names.
    let f = located_field names in
    err_through _ c.from_residual-in_err-rest.result c.in_err-rest.field-0.0 _ _ _ c.from_residual-in_err-rest.ensures.1 (c.in_err-rest.ensures.gives names)
    (field_ends (base_type names c.args.base) c.args.depth (placed names c.args.tokens.now) (map f c.args.all.now.items) (map f c.fields.all.items) (placed names c.fields.rest.now) (c.fields.invariant.0 names) (sym (c.begins_mark.ensures names) ∙ c.fields-test.false))

pub returns-clause-gives : goal.returns-clause-gives
returns-clause-gives c = λ names.
    let f = located_field names in
    onward _ _ _ _ (field_ends (base_type names c.args.base) c.args.depth (placed names c.args.tokens.now) (map f c.args.all.now.items) (map f c.fields.all.items) (placed names c.fields.rest.now) (c.fields.invariant.0 names) (sym (c.begins_mark.ensures names) ∙ c.fields-test.false))
    (c.in_ok-rest.ensures.gives names)
