use Rattle.std.proofs.Common.{[], map, sym, ap, ◌∙◌}
use Rattle.std.specs.Prelude.{option_to_list}
use Rattle.cpc_tree.specs.Erase.{parameter_of}
use Rattle.cpc_tree.specs.Registers.{parameter_scope}
use Rattle.cpc_eval_variables.proofs.Slots.{slot_over, locals_end, locals_say}
use Rattle.cpc_eval_variables.proofs.scope.Scope.slot.Goals as goal

pub returns : goal.returns
returns c = λ names told.
    let ls = c.args.self.now.locals.items in
    let x = names c.args.name in
    let outer = parameter_scope 0 (map (parameter_of names) c.args.self.now.parameters.now) [] in
    let last = locals_end names x ls c.loop-local.local-index (option_to_list c.loop-local.found) (rw c.deref-local-items.ensures.value at c.loop-local-test.false) in
    let all = c.loop-local.invariant names told.apart in
    let first = ap (λ o. slot_over names x o ls) (c.parameter_slot-found.ensures names told) in
    let whole = locals_say names x ls outer in
    sym last ∙ (all ∙ (first ∙ sym whole))
