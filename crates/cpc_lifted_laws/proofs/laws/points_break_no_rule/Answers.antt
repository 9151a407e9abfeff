use Rattle.cpc_lifted_laws.proofs.Complete.Sources as S
use Rattle.cpc_lifted_laws.proofs.Complete.Steps as T
use Rattle.cpc_lifted_laws.proofs.Complete.Parts as P
use Rattle.cpc_lifted_laws.proofs.laws.points_break_no_rule.Goals as goal

-- lemmas of which no clause speaks are checked with this one
pub returns : goal.returns
returns c =
    let row_of_law = S.row_of in
    let locals_sized_law = S.locals_sized in
    let parameters_have_sizes_law = S.parameters_have_sizes in
    let has_steps_law = T.has_steps in
    let assign_parts_law = P.assign_parts in
    let start_sets_law = P.start_sets in
    let return_sets_law = P.return_sets in
    let test_has_law = P.test_has in
    let call_parts_law = P.call_parts in
    let primitive_parts_law = P.primitive_parts in
    let spawn_parts_law = P.spawn_parts in
    let section_parts_law = P.section_parts in
    record { law = λ dialect items f row ss is named steps q. S.point_standing dialect items f row ss is named steps q }
