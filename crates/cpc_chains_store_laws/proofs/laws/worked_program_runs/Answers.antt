use Rattle.cpc_chains_store_laws.proofs.WorkedFrame.{worked_frame}
use Rattle.cpc_chains_store_laws.proofs.Worked.{worked_trace, worked_end, worked_frames, worked_driver}
use Rattle.cpc_chains_store_laws.proofs.WorkedBoxes.{boxed_runs}
use Rattle.cpc_chains_store_laws.proofs.laws.worked_program_runs.Goals as goal

pub returns : goal.returns
returns c = record { law = record { trace = worked_trace; outcome = worked_end; frames = worked_frames; driver = worked_driver }; boxed = boxed_runs; frame = worked_frame }
