use Rattle.std.proofs.Common.{◌≡◌, ◌∙◌, ◌<◌, ◌++◌, List, map, length, get_or, refl, subst, ap}
use Rattle.std.proofs.lemmas.List.{map-append}
use Rattle.cpc_convert_common.specs.Converted.{prototype}
use Rattle.cpc_chains_event.specs.Pieces.{made_of}
use Rattle.cpc_chains_event.specs.Converted.{all_made}
use Rattle.cpc_convert_names.specs.declared.called.Called.{Called}
use Rattle.cpc_chains_items.specs.Listed.{listed}
use Rattle.cpc_chains_code.specs.Given.{routine_by}
use Rattle.cpc_chains_code.proofs.Passing.{part_more, part_done}
use Rattle.cpc_chains_code.proofs.Standing.{stands}
use Rattle.cpc_chains_code.proofs.parts.add_prototypes.Goals as goal

pub loop-called-init : goal.loop-called-init
loop-called-init c = λ from to p g. refl

pub loop-called-preserved : goal.loop-called-preserved
loop-called-preserved c = λ from to p g.
    let items = c.deref-called-items.result.now in
    let i = c.loop-called.called-index in
    let item = c.called-item.result in
    let lt : i < length c.args.book.now.functions.items = subst (λ (l : List Called). i < length l) c.deref-called-items.ensures.value c.loop-called-test.true in
    let there : item ≡ get_or c.args.book.now.functions.items i item = subst (λ (l : List Called). item ≡ get_or l i item) c.deref-called-items.ensures.value c.called-item.is in
    let same = c.around.ensures.called in
    part_more (routine_by from p) (λ r. map prototype (made_of p r)) (λ rs. map prototype (all_made p rs)) (λ r rs. map-append prototype (made_of p r) (all_made p rs)) items i item _ _ _ c.loop-called-test.true c.called-item.is (c.loop-called.invariant from to p g)
    (c.in_ok-prototypes.ensures c.args.texts.now from to p (routine_by from p item) (stands c.args.texts.now from to p c.args.book.now g c.around.result i item c.around.ensures.texts c.around.ensures.book same lt there))

pub returns : goal.returns
returns c = λ from to p g.
    part_done (routine_by from p) (λ rs. map prototype (all_made p rs)) refl c.deref-called-items.result.now c.loop-called.called-index _ _ c.loop-called-test.false (c.loop-called.invariant from to p g)
    ∙ ap (λ (l : List Called). listed to c.args.items.now ++ map prototype (all_made p (map (routine_by from p) l))) c.deref-called-items.ensures.value
