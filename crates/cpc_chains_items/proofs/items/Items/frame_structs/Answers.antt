use Rattle.std.proofs.Common.{◌∙◌, [], ◌∷◌, ◌++◌, map, get_or, append_assoc, All, subst, sym, ap}
use Rattle.std.proofs.lemmas.List.{append-nil, take_all}
use Rattle.std.proofs.lemmas.List.Elements.{All-get_or}
use Rattle.cpc_base.proofs.Lists.{get_or_within}
use Rattle.cpc_tree.specs.Typing.{is_scalar}
use Rattle.cpc_chains_event.specs.Frames.{value_struct_if, start_struct, leader_struct}
use Rattle.cpc_chains_lines.specs.Around.{IsNode}
use Rattle.cpc_chains_items.specs.Listed.{listed}
use Rattle.cpc_convert_respawning.proofs.Growing.{more}
use Rattle.cpc_chains_items.proofs.items.Items.frame_structs.Goals as goal

pub loop-leader-init : goal.loop-leader-init
loop-leader-init c = λ source from to p r s. sym (append-nil (listed to c.start_struct.new.self))

pub loop-leader-preserved : goal.loop-leader-preserved
loop-leader-preserved c = λ source from to p r s.
    let items = c.deref-leader-items.result.now in
    let i = c.loop-leader.leader-index in
    let led = subst (All (IsNode c.args.around)) (sym c.deref-leader-items.ensures.value) s.routine.led in
    let x = get_or items i 0 in
    let node = All-get_or (IsNode c.args.around) items i 0 c.loop-leader-test.true led in
    more (leader_struct p r) _ _ _ items i x c.loop-leader-test.true (get_or_within items i 0 x c.loop-leader-test.true) (c.loop-leader.invariant source from to p r s) (c.in_ok-leader_struct.ensures source from to p r s node)

pub returns : goal.returns
returns c = λ source from to p r s.
    let values = value_struct_if (is_scalar r.function.result) r.function.called r.function.result in
    let starts = start_struct r.function ∷ [] in
    let items = c.deref-leader-items.result.now in
    let old = listed to c.args.self.now in
    let leads = take_all _ items c.loop-leader-test.false ∙ (c.deref-leader-items.ensures.value ∙ sym s.routine.leaders) in
    let all = map (leader_struct p r) r.split.leaders in
    let before = c.in_ok-start_struct.ensures source from to p r s ∙ ap (λ u. u ++ starts) (c.in_ok-value_struct.ensures source from to p r s) in
    c.loop-leader.invariant source from to p r s ∙ (ap (λ u. listed to c.start_struct.new.self ++ map (leader_struct p r) u) leads
    ∙ (ap (λ u. u ++ all) before ∙ (append_assoc (old ++ values) starts all ∙ append_assoc old values (starts ++ all))))
