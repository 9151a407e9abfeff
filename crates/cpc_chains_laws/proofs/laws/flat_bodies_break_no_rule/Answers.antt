use Rattle.cpc_chains_laws.proofs.Complete.Made as D
use Rattle.cpc_chains_laws.proofs.Complete.Flat as F
use Rattle.cpc_lifted_laws.proofs.Complete.Rows as R
use Rattle.cpc_chains_laws.proofs.Complete.Frames as M
use Rattle.cpc_chains_laws.proofs.Complete.FrameRows as N
use Rattle.cpc_chains_laws.proofs.Complete.Pieces as P
use Rattle.cpc_lifted_laws.proofs.Complete.Makers as K
use Rattle.cpc_chains_laws.proofs.laws.flat_bodies_break_no_rule.Goals as goal

-- lemmas of which no clause speaks are checked with this one
pub returns : goal.returns
returns c =
    let fresh_in_law = F.fresh_in in
    let function_fine_law = R.function_fine in
    let detach_fine_law = R.detach_fine in
    let local_writes_law = M.local_writes in
    let boxes_fine_law = M.boxes_fine in
    let frees_fine_law = M.frees_fine in
    let unboxes_fine_law = M.unboxes_fine in
    let patches_fine_law = M.patches_fine in
    let fills_fine_law = M.fills_fine in
    let wait_fine_law = M.wait_fine in
    let hands_fine_law = M.hands_fine in
    let nothing_fine_law = M.nothing_fine in
    let frame_run_law = N.frame_run in
    let call_run_law = N.call_run in
    let unboxes_run_law = N.unboxes_run in
    let spawner_run_law = N.spawner_run in
    let field_call_law = N.field_call in
    let told_local_law = P.told_local in
    let no_local_law = P.no_local in
    let told_free_law = P.told_free in
    let opened_told_law = P.opened_told in
    let piece_carries_law = P.piece_carries in
    let arrival_fine_law = P.arrival_fine in
    let integer_suits_law = K.integer_suits in
    let flat_made_law = D.flat_made in
    let driver_made_law = D.driver_made in
    record { rows = F.rows_fine; openings = F.opens_fine; bodies = F.flat_fine }
