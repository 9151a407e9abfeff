use denote.Exit.{no}
use denote.Param.{param}
use denote.Param.Send.{param_send, param_sync, arg_send, arg_sync}
use Rattle.cpc_pool_sections.proofs.Crosses.{sectioner_send, sectioner_sync}
use Rattle.cpc_pool_sections.specs.contracts.runner.Sectioner as Sectioner
use Rattle.cpc_pool_sections.proofs.workers.start.Goals as goal

pub start-requires-send-W : goal.start-requires-send-W
start-requires-send-W g c κs within = param_send 0 _ (arg_send _ no (Sectioner.the_row (param 0 g.row.B) g.B.Assigned) (sectioner_send (param 0 g.row.B) g.B.Assigned c.type_bounds.send-B))

pub start-requires-sync-W : goal.start-requires-sync-W
start-requires-sync-W g c κs within = param_sync 0 _ (arg_sync _ no (Sectioner.the_row (param 0 g.row.B) g.B.Assigned) (sectioner_sync (param 0 g.row.B) g.B.Assigned c.type_bounds.sync-B))
