use Rattle.std.proofs.Common.{◌≡◌, ◌∙◌, [], ◌++◌, map, take, length, slice_get, Some, append_assoc, add-one, subst, refl, sym, ap, arith}
use Rattle.std.proofs.lemmas.List.{append-nil, take_all, map-append}
use Rattle.std.proofs.lemmas.Option.{slice_get_read}
use Rattle.cpc_chains_event.specs.Frames.{box_of}
use Rattle.cpc_forms_code.specs.Lifts.{unless}
use Rattle.cpc_chains_lines.specs.Known.{boxes_among}
use Rattle.cpc_convert_names.specs.Called.{variables_in}
use Rattle.cpc_chains_items.specs.Listed.{listed}
use Rattle.cpc_chains_items.proofs.Standing.{among_more}
use Rattle.cpc_chains_items.proofs.items.Items.box_structs.Goals as goal

pub loop-number-init : goal.loop-number-init
loop-number-init c = λ source from to p r s. sym (append-nil (listed to c.args.self.now))

pub loop-number-preserved : goal.loop-number-preserved
loop-number-preserved c = λ source from to p r s.
    let vs = c.variables-variables.result.now in
    let k = c.loop-number.number in
    let v = c.index-variables-number.result in
    let at : slice_get vs k ≡ Some v = slice_get_read vs (length vs) k v refl c.loop-number-test.true c.index-variables-number.is in
    let there : slice_get (variables_in c.args.around.called.now.lifted.now) k ≡ Some v = subst (λ l. slice_get l k ≡ Some v) c.variables-variables.ensures at in
    let old = listed to c.args.self.now in
    let more = unless v.is_register k [] in
    c.in_ok-box_struct.ensures source from to p r s there ∙ (ap (λ u. u ++ map (box_of r) more) (c.loop-number.invariant source from to p r s) ∙ (append_assoc old (map (box_of r) (boxes_among 0 (take k vs))) (map (box_of r) more)
    ∙ (ap (λ u. old ++ u) (sym (map-append (box_of r) (boxes_among 0 (take k vs)) more)) ∙ (ap (λ u. old ++ map (box_of r) u) (sym (among_more 0 k k vs v at (omega arith))) ∙ ap (λ j. old ++ map (box_of r) (boxes_among 0 (take j vs))) (sym (add-one k))))))

pub returns : goal.returns
returns c = λ source from to p r s.
    c.loop-number.invariant source from to p r s ∙ ap (λ u. listed to c.args.self.now ++ map (box_of r) u) (ap (boxes_among 0) (take_all _ c.variables-variables.result.now c.loop-number-test.false ∙ c.variables-variables.ensures) ∙ sym s.routine.boxes)
