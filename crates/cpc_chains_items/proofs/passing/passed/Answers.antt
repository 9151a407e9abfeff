use Rattle.std.proofs.Common.{◌≡◌, ◌∙◌, ◌++◌, map, length, slice_get, sym, ap, add-one, arith}
use Rattle.std.proofs.lemmas.List.{length-map}
use Rattle.cpc_tree.specs.Erase.{field_of, parameter_of, function_of}
use Rattle.cpc_tree.specs.Registers.{variables}
use Rattle.cpc_tree.specs.Syntax.{Function}
use Rattle.cpc_convert_routines.specs.Routines.{passed_from}
use Rattle.cpc_chains_items.specs.Passed.{passed_one}
use Rattle.cpc_chains_items.proofs.Passes.{passed_more}
use Rattle.cpc_chains_items.proofs.Standing.{function_is}
use Rattle.cpc_chains_items.proofs.passing.passed.Goals as goal

pub loop-number-init : goal.loop-number-init
loop-number-init c = λ source from to p r s. ap (map (field_of to)) c.new-fields.ensures.items

pub loop-number-preserved : goal.loop-number-preserved
loop-number-preserved c = λ source from to p r s.
    let n = c.loop-number.number in
    c.in_ok-pass.ensures source from to p r s ∙ (ap (λ u. u ++ passed_one n (slice_get (variables r.function) n)) (c.loop-number.invariant source from to p r s)
    ∙ (sym (passed_more 0 n n (variables r.function) (omega arith)) ∙ ap (λ m. passed_from 0 m (variables r.function)) (sym (add-one n))))

pub returns : goal.returns
returns c = λ source from to p r s.
    let long : length r.function.parameters ≡ length c.function.result.now.parameters.items =
    ap (λ (f : Function). length f.parameters) (function_is source from to p r c.args.around s ∙ sym (ap (function_of to) c.function.ensures)) ∙ length-map c.function.result.now.parameters.items (parameter_of to) in
    let all : c.loop-number.number ≡ length r.function.parameters = omega (arith, long, c.loop-number.auto.number-end, c.loop-number-test.false) in
    c.loop-number.invariant source from to p r s ∙ ap (λ n. passed_from 0 n (variables r.function)) all
