use Rattle.std.proofs.Common.{[], ◌+◌, map, length, refl, sym, ◌∙◌, ap, drop, arith}
use Rattle.std.proofs.lemmas.Option.{slice_get_read}
use Rattle.std.specs.Prelude.{option_to_list}
use Rattle.cpc_tree.specs.Erase.{parameter_of}
use Rattle.cpc_eval_variables.proofs.Slots.{slot_from, parameter_more, parameters_end, parameters_say}
use Rattle.cpc_eval_variables.proofs.scope.parameter_slot.Goals as goal

pub loop-parameter-preserved : goal.loop-parameter-preserved
loop-parameter-preserved c = record {
  here = omega arith;
  rest = λ names told.
      let ps = c.args.parameters.now in
      let i = c.loop-parameter.parameter-index in
      let p = c.parameter-item.result in
      let x = names c.args.name in
      let there = slice_get_read ps (length ps) i p refl c.loop-parameter-test.true c.parameter-item.is in
      let at = c.loop-parameter.invariant.here in
      let is = c.behind_parameter-found.ensures names told.apart (λ none. told.unnamed i p there none) in
      let more = parameter_more names x ps i p (option_to_list c.loop-parameter.found) (option_to_list c.behind_parameter-found.result) c.loop-parameter-test.true c.parameter-item.is (cc) in
      ap (λ n. slot_from x (n + 1) (option_to_list c.behind_parameter-found.result) (map (parameter_of names) (drop (i + 1) ps))) at
      ∙ (sym more ∙ (ap (λ n. slot_from x n (option_to_list c.loop-parameter.found) (map (parameter_of names) (drop i ps))) (sym at) ∙ c.loop-parameter.invariant.rest names told));
}

pub returns : goal.returns
returns c = λ names told.
    let ps = c.args.parameters.now in
    let x = names c.args.name in
    sym (parameters_end names x ps c.loop-parameter.parameter-index c.loop-parameter.slot (option_to_list c.loop-parameter.found) c.loop-parameter-test.false)
    ∙ (c.loop-parameter.invariant.rest names told ∙ sym (parameters_say x 0 (map (parameter_of names) ps) []))
