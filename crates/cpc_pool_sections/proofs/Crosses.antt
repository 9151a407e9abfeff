-- A runner of the sections of a program may be sent to threads, and shared among them.
use denote.RattleType.{RattleType}
use denote.Param.Send.{IsSend, IsSync, sendable, view_send, view_sync}
use Rattle.std.proofs.Crossing.{crosses}
use Rattle.cpc_check.proofs.Crosses.{checked_send, checked_sync}
use Rattle.cpc_pool_sections.specs.contracts.runner.Sectioner as Sectioner
use Rattle.cpc_pool_sections.specs.contracts.runner.Sectioner.TheInside as Inside
use Rattle.cpc_run_sections.specs.declared.assigned.Assigned.{Ghosts}

-- where the type that stands for what was assigned may
module _ (B : RattleType) (g : Ghosts B.Denot) where
  pub sectioner_send : IsSend B → IsSend (Sectioner.the_row B g)
  sectioner_send s = view_send (Inside.the_row B g) _ _ _ _ (search (checked_send, checked_sync, crosses, sendable) depth 30)

  pub sectioner_sync : IsSync B → IsSync (Sectioner.the_row B g)
  sectioner_sync s = view_sync (Inside.the_row B g) _ _ _ _ (search (checked_send, checked_sync, crosses, sendable) depth 30)
