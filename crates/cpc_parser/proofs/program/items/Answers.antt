use Rattle.std.proofs.Common.{◌≡◌, ◌<◌, [], length, map, refl, sym, ap, ◌∙◌, arith}
use Rattle.std.proofs.lemmas.Result.{err_from_is_err_and}
use Rattle.cpc_tree.specs.Locate.{located_item}
use Rattle.cpc_parser_types.specs.Views.{placed}
use Rattle.cpc_parser.proofs.Loop.{step, fails, faults, all_read}
use Rattle.cpc_parser.proofs.program.items.Goals as goal

pub all-init : goal.all-init
all-init c = λ names. ([], 0, omega arith, ap (map (located_item names)) c.new-all.ensures.items, refl)

pub all-preserved : goal.all-preserved
all-preserved c = λ names. step c.args.depth (placed names c.args.tokens.now) (map (located_item names) c.all.all.items) (placed names c.all.rest.now) (c.all.invariant names) (sym (c.begins_item.ensures names) ∙ c.all-test.true)
    (map (located_item names) c.item.new.all.items) (placed names c.in_ok-rest.rest.now) (c.in_ok-rest.ensures.gives names)

pub returns-in_err-rest : goal.returns-in_err-rest
returns-in_err-rest c = λ names.
    let p = err_from_is_err_and c.from_residual.result c.from_residual.ensures.1 in
    rw (p.1, p.2) (fails c.args.depth c.in_err-rest.field-0.0 (placed names c.args.tokens.now) (map (located_item names) c.all.all.items) (placed names c.all.rest.now) (c.all.invariant names)
    (sym (c.begins_item.ensures names) ∙ c.all-test.true) (c.in_err-rest.ensures.gives names))

pub returns-then-not-is_empty : goal.returns-then-not-is_empty
returns-then-not-is_empty c = λ names.
    let some : 0 < length c.all.rest.now = grind arith in
    rw c.fault.ensures (faults c.args.depth names (placed names c.args.tokens.now) (map (located_item names) c.all.all.items) c.all.rest.now (c.all.invariant names) (sym (c.begins_item.ensures names) ∙ c.all-test.false) some)

pub returns : goal.returns
returns c = λ names.
    let none : length c.all.rest.now ≡ 0 = grind arith in
    all_read c.args.depth names (placed names c.args.tokens.now) (map (located_item names) c.all.all.items) c.all.rest.now (c.all.invariant names) none
