use Rattle.std.proofs.Common.{[], ◌∷◌, map, refl, sym, ap, subst, ◌∙◌, arith}
use Rattle.std.proofs.lemmas.List.{append-nil, map-append}
use Rattle.std.proofs.lemmas.Result.{err_from_is_err_and}
use Rattle.cpc_tree.specs.Locate.{located_item}
use Rattle.cpc_parser_types.specs.TypeViews.{base_type}
use Rattle.cpc_parser_types.specs.Views.{placed}
use Rattle.cpc_parser_types.proofs.Giving.{err_through}
use Rattle.cpc_parser.specs.ItemViews.{InRow}
use Rattle.cpc_parser.proofs.Steps.{onward}
use Rattle.cpc_parser.proofs.Rows.{row_step, row_fails, row_ends}
use Rattle.cpc_parser.proofs.declaration.further.Goals as goal

pub rows-init : goal.rows-init
rows-init c = (λ names. ([], 0, omega arith, sym (append-nil (map (located_item names) c.args.all.now.items)), refl), omega arith)

pub rows-preserved : goal.rows-preserved
rows-preserved c = (
  λ names.
      let f = located_item names in
      let b = base_type names c.args.base in
      let old = map f c.args.all.now.items in
      let behind = placed names c.in_ok-whole.behind.now in
      let s = row_step b c.args.depth (placed names c.args.tokens.now) old (map f c.rows.all.items) (placed names c.rows.rest.now) (c.rows.invariant.0 names) (sym (c.begins_mark.ensures names) ∙ c.rows-test.true) (f c.in_ok-whole.whole) behind (c.in_ok-whole.ensures.gives names) in
      let m = sym (map-append f c.rows.all.items (c.in_ok-whole.whole ∷ [])) ∙ ap (map f) (sym c.in_ok-push.ensures.items) in
      subst (λ u. InRow b c.args.depth (placed names c.args.tokens.now) old u behind) m s,
  omega (arith, c.in_ok-whole.ensures.shorter, c.rows.invariant.1),
)

pub returns-in_err-whole-clause-gives : goal.returns-in_err-whole-clause-gives
returns-in_err-whole-clause-gives c = λ names.
    let f = located_item names in
    let p = err_from_is_err_and c.from_residual.result c.from_residual.ensures.1 in
    rw (p.1, p.2) (row_fails (base_type names c.args.base) c.args.depth c.in_err-whole.field-0.0 (placed names c.args.tokens.now) (map f c.args.all.now.items) (map f c.rows.all.items) (placed names c.rows.rest.now)
    (c.rows.invariant.0 names) (sym (c.begins_mark.ensures names) ∙ c.rows-test.true) (c.in_err-whole.ensures.gives names))

pub returns-in_err-rest-clause-gives : goal.returns-in_err-rest-clause-gives
returns-in_err-rest-clause-gives c = λ names.
    let f = located_item names in
    err_through _ c.from_residual-in_err-rest.result c.in_err-rest.field-0.0 _ _ _ c.from_residual-in_err-rest.ensures.1 (c.in_err-rest.ensures.gives names)
    (row_ends (base_type names c.args.base) c.args.depth (placed names c.args.tokens.now) (map f c.args.all.now.items) (map f c.rows.all.items) (placed names c.rows.rest.now) (c.rows.invariant.0 names) (sym (c.begins_mark.ensures names) ∙ c.rows-test.false))

pub returns-clause-gives : goal.returns-clause-gives
returns-clause-gives c = λ names.
    let f = located_item names in
    onward _ _ _ _ (row_ends (base_type names c.args.base) c.args.depth (placed names c.args.tokens.now) (map f c.args.all.now.items) (map f c.rows.all.items) (placed names c.rows.rest.now) (c.rows.invariant.0 names) (sym (c.begins_mark.ensures names) ∙ c.rows-test.false))
    (c.in_ok-rest.ensures.gives names)
