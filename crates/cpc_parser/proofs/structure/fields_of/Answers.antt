use Rattle.std.proofs.Common.{◌≡◌, map, sym, subst, ◌∙◌, arith}
use Rattle.std.proofs.lemmas.Result.{err_from_is_err_and}
use Rattle.cpc_tree.specs.Locate.{located_field}
use Rattle.cpc_parser_reading.specs.Reading.{Read}
use Rattle.cpc_parser_types.specs.Views.{placed, Refuses}
use Rattle.cpc_parser.specs.ItemReaders.{line_at}
use Rattle.cpc_parser.specs.ItemViews.{onto}
use Rattle.cpc_parser.proofs.FieldSteps.{lines_first, lines_next, lines_fail_first, lines_fail, lines_end}
use Rattle.cpc_parser.proofs.structure.fields_of.Goals as goal

pub returns-in_err-rest-clause-gives : goal.returns-in_err-rest-clause-gives
returns-in_err-rest-clause-gives c = λ names.
    let f = located_field names in
    let ts = placed names c.args.tokens.now in
    let p = err_from_is_err_and c.from_residual.result c.from_residual.ensures.1 in
    let g = subst (λ l. Refuses c.in_err-rest.field-0.0 (onto (map f l) (line_at c.args.depth) ts)) c.new-all.ensures.items (c.in_err-rest.ensures.gives names) in
    rw (p.1, p.2) (lines_fail_first c.args.depth ts c.in_err-rest.field-0.0 g)

pub lines-init : goal.lines-init
lines-init c = (
  λ names.
      let f = located_field names in
      let ts = placed names c.args.tokens.now in
      let done = map f c.line.new.all.items in
      let rest = placed names c.in_ok-rest.rest.now in
      let g = subst (λ l. onto (map f l) (line_at c.args.depth) ts ≡ Read (done, 0, rest)) c.new-all.ensures.items (c.in_ok-rest.ensures.gives names) in
      lines_first c.args.depth ts done rest g,
  c.in_ok-rest.ensures.shorter,
)

pub returns-in_err-rest-2-clause-gives : goal.returns-in_err-rest-2-clause-gives
returns-in_err-rest-2-clause-gives c = λ names.
    let f = located_field names in
    let ts = placed names c.args.tokens.now in
    let p = err_from_is_err_and c.from_residual-in_err-rest-2.result c.from_residual-in_err-rest-2.ensures.1 in
    rw (p.1, p.2) (lines_fail c.args.depth ts (map f c.lines.all.items) (placed names c.lines.rest.now) c.in_err-rest-2.field-0.0 (c.lines.invariant.0 names) (sym (c.begins_base.ensures names) ∙ c.lines-test.true) (c.in_err-rest-2.ensures.gives names))

pub lines-preserved : goal.lines-preserved
lines-preserved c = (
  λ names.
      let f = located_field names in
      let ts = placed names c.args.tokens.now in
      lines_next c.args.depth ts (map f c.lines.all.items) (placed names c.lines.rest.now) (c.lines.invariant.0 names) (sym (c.begins_base.ensures names) ∙ c.lines-test.true) _ _ (c.in_ok-rest-2.ensures.gives names),
  omega (arith, c.in_ok-rest-2.ensures.shorter, c.lines.invariant.1),
)

pub returns-clause-gives : goal.returns-clause-gives
returns-clause-gives c = λ names.
    let f = located_field names in
    lines_end c.args.depth (placed names c.args.tokens.now) (map f c.lines.all.items) (placed names c.lines.rest.now) (c.lines.invariant.0 names) (sym (c.begins_base.ensures names) ∙ c.lines-test.false)
