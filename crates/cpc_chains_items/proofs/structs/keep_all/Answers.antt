use Rattle.std.proofs.Common.{◌∙◌, ◌++◌, get_or, map, All, subst, sym, ap}
use Rattle.std.proofs.lemmas.List.{append-nil, take_all}
use Rattle.std.proofs.lemmas.List.Elements.{All-get_or}
use Rattle.cpc_base.proofs.Lists.{get_or_within}
use Rattle.cpc_tree.specs.Erase.{field_of}
use Rattle.cpc_convert_routines.specs.Routines.{local_of, locals_of}
use Rattle.cpc_chains_lines.specs.Around.{IsVariable}
use Rattle.cpc_convert_respawning.proofs.Growing.{more}
use Rattle.cpc_chains_items.proofs.Standing.{kept_within}
use Rattle.cpc_chains_items.proofs.structs.keep_all.Goals as goal

pub loop-number-init : goal.loop-number-init
loop-number-init c = λ source from to p r s node. sym (append-nil (map (field_of to) c.args.fields.now.items))

pub loop-number-preserved : goal.loop-number-preserved
loop-number-preserved c = λ source from to p r s node.
    let items = c.closure-number-items.result.now in
    let i = c.loop-number.number-index in
    let x = get_or items i 0 in
    let within = subst (All (IsVariable c.args.around)) (sym (c.closure-number-items.ensures source from to p r s node)) (kept_within source from to p r c.args.around s c.args.leader) in
    let one = All-get_or (IsVariable c.args.around) items i 0 c.loop-number-test.true within in
    more (local_of r) _ _ _ items i x c.loop-number-test.true (get_or_within items i 0 x c.loop-number-test.true) (c.loop-number.invariant source from to p r s node) (c.in_ok-keep_one.ensures source from to p r s one)

pub returns : goal.returns
returns c = λ source from to p r s node.
    c.loop-number.invariant source from to p r s node ∙ ap (λ u. map (field_of to) c.args.fields.now.items ++ locals_of r u) (take_all _ c.closure-number-items.result.now c.loop-number-test.false ∙ c.closure-number-items.ensures source from to p r s node)
