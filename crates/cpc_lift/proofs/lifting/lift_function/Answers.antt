use Rattle.std.proofs.Common.{◌≡◌, ◌∙◌, suc, ◌+◌, ◌<◌, ap, sym, subst, length, map, arith}
use Rattle.std.proofs.lemmas.List.{length-map}
use Rattle.cpc_lift_laws.specs.Search as S
use Rattle.cpc_lift_closures.specs.Rows.{links_of}
use Rattle.cpc_lift.proofs.Ranged.{AllWithin, all_from, all_to}
use Rattle.cpc_lift.proofs.Parts.{ways_told, boxes_told, uses_told, many_owners, ways_ranged, uses_ranged, is_lifted}
use Rattle.cpc_lift.proofs.lifting.lift_function.Goals.{After-deref-7}
use Rattle.cpc_lift.proofs.lifting.lift_function.Goals as goal

pub of-requires : goal.of-requires
of-requires c =
    let s = c.args.split.now in
    ap length c.deref-2.ensures.value ∙ (many_owners s s.graph.now.boxed.now.formed s.formed ∙ sym (ap length c.deref-3.ensures.value))

-- how many owners there are
owners_are : (c : After-deref-7) → (c.len-owners.result + 1) ≡ suc (length c.args.split.now.graph.now.nodes.items)
owners_are c =
    let many = c.len-owners.ensures ∙ c.args.split.now.graph.now.nodes.ok.0 in
    omega (arith, many)

-- the ways are between owners
ways : (c : After-deref-7) → AllWithin (c.len-owners.result + 1) (c.len-owners.result + 1) (links_of c.deref-6.result.now)
ways c =
    let s = c.args.split.now in
    subst (λ n. AllWithin n n (links_of c.deref-6.result.now)) (sym (owners_are c))
    (subst (λ ws. AllWithin (suc (length s.graph.now.nodes.items)) (suc (length s.graph.now.nodes.items)) (links_of ws)) (sym c.deref-6.ensures.value)
    (ways_ranged s s.graph.now.boxed.now.formed s.formed c.in_ok-all.all.ways.items
    (ways_told s s.graph.now.boxed.now.formed s.formed _ _ _ c.deref-2.ensures.value c.deref-3.ensures.value c.deref-4.ensures.value c.in_ok-all.all.ways.items c.in_ok-all.ensures.ways)))

-- and the uses from owners to variables
uses : (c : After-deref-7) → AllWithin (c.len-owners.result + 1) c.len.result (links_of c.deref-7.result.now)
uses c =
    let s = c.args.split.now in
    subst (λ n. AllWithin n c.len.result (links_of c.deref-7.result.now)) (sym (owners_are c))
    (subst (λ n. AllWithin (suc (length s.graph.now.nodes.items)) n (links_of c.deref-7.result.now)) (sym (c.len.ensures ∙ s.graph.now.boxed.now.variables.ok.0))
    (subst (λ us. AllWithin (suc (length s.graph.now.nodes.items)) (length s.graph.now.boxed.now.variables.items) (links_of us)) (sym c.deref-7.ensures.value)
    (uses_ranged s s.graph.now.boxed.now.formed s.formed c.in_ok-boxes.boxes.items
    (boxes_told s s.graph.now.boxed.now.formed s.formed _ c.deref.ensures.value c.in_ok-boxes.boxes.items c.in_ok-boxes.ensures) c.in_ok-all.all.uses.items
    (uses_told s s.graph.now.boxed.now.formed s.formed _ _ _ c.deref-2.ensures.value c.deref-3.ensures.value c.deref-4.ensures.value _ _ c.deref-5.ensures.value c.in_ok-all.all.uses.items c.in_ok-all.ensures.uses))))

pub closures-requires-clause-ways_from : goal.closures-requires-clause-ways_from
closures-requires-clause-ways_from c = all_from _ _ c.deref-6.result.now (ways c)

pub closures-requires-clause-ways_to : goal.closures-requires-clause-ways_to
closures-requires-clause-ways_to c = all_to _ _ c.deref-6.result.now (ways c)

pub closures-requires-clause-uses_from : goal.closures-requires-clause-uses_from
closures-requires-clause-uses_from c = all_from _ _ c.deref-7.result.now (uses c)

pub closures-requires-clause-uses_to : goal.closures-requires-clause-uses_to
closures-requires-clause-uses_to c = all_to _ _ c.deref-7.result.now (uses c)

pub invariant_of-result : goal.invariant_of-result
invariant_of-result c =
    let s = c.args.split.now in
    let long : c.len-owners.result + 1 ≡ suc (length s.graph.now.nodes.items) =
    let many = c.len-owners.ensures ∙ s.graph.now.nodes.ok.0 in
    omega (arith, many) in
    let variables : c.len.result ≡ length s.graph.now.boxed.now.variables.items = c.len.ensures ∙ s.graph.now.boxed.now.variables.ok.0 in
    let rows = map (λ row. row.items) c.in_ok-closures.closures.items in
    record {
      formed =
          is_lifted s s.graph.now.boxed.now.formed s.formed c.in_ok-boxes.boxes.items
          (boxes_told s s.graph.now.boxed.now.formed s.formed _ c.deref.ensures.value c.in_ok-boxes.boxes.items c.in_ok-boxes.ensures)
          c.in_ok-all.all.ways.items c.in_ok-all.all.uses.items
          (ways_told s s.graph.now.boxed.now.formed s.formed _ _ _ c.deref-2.ensures.value c.deref-3.ensures.value c.deref-4.ensures.value c.in_ok-all.all.ways.items c.in_ok-all.ensures.ways)
          (uses_told s s.graph.now.boxed.now.formed s.formed _ _ _ c.deref-2.ensures.value c.deref-3.ensures.value c.deref-4.ensures.value _ _ c.deref-5.ensures.value c.in_ok-all.all.uses.items c.in_ok-all.ensures.uses)
          rows (length-map c.in_ok-closures.closures.items (λ row. row.items) ∙ (c.in_ok-closures.ensures.length ∙ long))
          (λ l below.
          c.in_ok-closures.ensures.closures l (subst (λ n. l < n) (sym long) below)
          ∙ (ap (λ ws. S.closure (links_of ws) (links_of c.deref-7.result.now) c.len.result l) c.deref-6.ensures.value
          ∙ (ap (λ us. S.closure (links_of c.in_ok-all.all.ways.items) (links_of us) c.len.result l) c.deref-7.ensures.value
          ∙ ap (λ n. S.closure (links_of c.in_ok-all.all.ways.items) (links_of c.in_ok-all.all.uses.items) n l) variables)));
    }
