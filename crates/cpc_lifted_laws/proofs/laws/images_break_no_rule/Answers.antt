use Rattle.cpc_lifted_laws.proofs.Complete.Typing as T
use Rattle.cpc_lifted_laws.proofs.Complete.Carried as E
use Rattle.cpc_lifted_laws.proofs.Complete.Acts as A
use Rattle.cpc_lifted_laws.proofs.laws.images_break_no_rule.Goals as goal

-- lemmas of which no clause speaks are checked with this one
pub returns : goal.returns
returns c =
    let sets_carried_law = A.sets_carried in
    let writes_carried_law = A.writes_carried in
    let all_carried_law = A.all_carried in
    let gives_carried_law = A.gives_carried in
    let all_suit_carried_law = A.all_suit_carried in
    let maybe_test_carried_law = A.maybe_test_carried in
    let start_carried_law = A.start_carried in
    let return_carried_law = A.return_carried in
    record { types = T.typed_image; expressions = E.expr_carried; tests = A.test_carried; assignments = A.assign_carried; calls = A.call_carried }
