use Rattle.std.proofs.Common.{◌∙◌, [], ◌∷◌, ◌++◌, map, get_or, append_assoc, All, subst, sym, ap}
use Rattle.std.proofs.lemmas.List.{append-nil, take_all}
use Rattle.std.proofs.lemmas.List.Elements.{All-get_or}
use Rattle.cpc_forms.specs.Flow.{Start}
use Rattle.cpc_tree.specs.Syntax.{Item, PrototypeItem}
use Rattle.cpc_tree.specs.declared.program.Mode.TheVariants.{Native}
use Rattle.cpc_base.specs.Bytes.{Text}
use Rattle.cpc_base.proofs.Lists.{get_or_within}
use Rattle.cpc_convert_common.specs.Converted.{prototype}
use Rattle.cpc_chains_store_laws.specs.Driver.{any_pointer}
use Rattle.cpc_convert_routines.specs.Names.{start_name, pointer_name}
use Rattle.cpc_chains_event.specs.Pieces.{spawner_function, piece_function, leader_function, parameter_of, called_so}
use Rattle.cpc_chains_lines.specs.Around.{IsNode}
use Rattle.cpc_chains_items.specs.Listed.{listed}
use Rattle.cpc_convert_respawning.proofs.Growing.{more, mapped_twice}
use Rattle.cpc_chains_items.proofs.Standing.{called_is}
use Rattle.cpc_chains_items.proofs.items.Items.prototypes.Goals as goal

-- the prototype of a piece of a name
abbrev piece_of : Text → Item
piece_of f = PrototypeItem Native f any_pointer (parameter_of (called_so pointer_name any_pointer) ∷ [])

pub loop-leader-init : goal.loop-leader-init
loop-leader-init c = λ source from to p r s. sym (append-nil (listed to c.piece_prototype.new.self))

pub loop-leader-preserved : goal.loop-leader-preserved
loop-leader-preserved c = λ source from to p r s.
    let items = c.deref-leader-items.result.now in
    let i = c.loop-leader.leader-index in
    let led = subst (All (IsNode c.args.around)) (sym c.deref-leader-items.ensures.value) s.routine.led in
    let x = get_or items i 0 in
    let node = All-get_or (IsNode c.args.around) items i 0 c.loop-leader-test.true led in
    let named = c.piece.ensures source from to p r s node in
    more (λ n. prototype (leader_function p r n)) _ _ _ items i x c.loop-leader-test.true (get_or_within items i 0 x c.loop-leader-test.true) (c.loop-leader.invariant source from to p r s)
    (c.in_ok-piece_prototype-2.ensures source to s.book ∙ ap (λ u. listed to c.loop-leader.self ++ piece_of u ∷ []) named)

pub returns : goal.returns
returns c = λ source from to p r s.
    let one = prototype (spawner_function r.function) ∷ [] in
    let two = prototype (piece_function p r Start) ∷ [] in
    let items = c.deref-leader-items.result.now in
    let old = listed to c.args.self.now in
    let start = s.called.start ∙ ap start_name (sym (called_is source from to p r c.args.around s)) in
    let leads = take_all _ items c.loop-leader-test.false ∙ (c.deref-leader-items.ensures.value ∙ sym s.routine.leaders) in
    let all = map prototype (map (leader_function p r) r.split.leaders) in
    let before = c.in_ok-piece_prototype.ensures source to s.book ∙ (ap (λ u. listed to c.spawner_prototype.new.self ++ piece_of u ∷ []) start ∙ ap (λ u. u ++ two) (c.in_ok-spawner_prototype.ensures source from to p r s)) in
    c.loop-leader.invariant source from to p r s ∙ (ap (λ u. listed to c.piece_prototype.new.self ++ map (λ n. prototype (leader_function p r n)) u) leads
    ∙ (ap (λ u. listed to c.piece_prototype.new.self ++ u) (mapped_twice prototype (leader_function p r) r.split.leaders) ∙ (ap (λ u. u ++ all) before ∙ (append_assoc (old ++ one) two all ∙ append_assoc old one (two ++ all)))))
