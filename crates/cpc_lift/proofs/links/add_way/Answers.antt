use Rattle.std.proofs.Common.{ap, ◌∙◌, ◌++◌}
use Rattle.cpc_forms_code.specs.Splits.{place_of, places_of}
use Rattle.cpc_lift_closures.specs.Rows.{links_of}
use Rattle.cpc_lift.proofs.Linked.{pushed, way_is}
use Rattle.cpc_lift.proofs.links.add_way.Goals as goal

pub returns-in_ok-push-in-Some : goal.returns-in_ok-push-in-Some
returns-in_ok-push-in-Some c =
    pushed _ _ _ c.in_ok-push-in-Some.ensures.items
    ∙ ap (λ v. links_of c.args.ways.now.items ++ v)
    (way_is (place_of c.args.owner) (place_of c.owner_or.result) (places_of c.args.owners.now) c.args.to c.in-Some.node c.in_ok-from-in-Some.from c.in_ok-to-in-Some.to c.in-Some.is c.owner_or.ensures
    c.in_ok-from-in-Some.ensures c.in_ok-to-in-Some.ensures)
