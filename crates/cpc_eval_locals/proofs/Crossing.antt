-- The table of a function may be sent to threads, and shared among them.
use denote.Param.Send.{IsSend, IsSync, sendable}
use denote.Param.SendFields.{declared_send, declared_sync}
use Rattle.std.proofs.Crossing.{crosses}
use Rattle.std.proofs.option.Option.TheSendSync as option
use Rattle.cpc_base.proofs.names.Name.TheSendSync as name
use Rattle.cpc_tree.proofs.program.CType.TheLaws.TheKnot.{send-CType, sync-CType}
use Rattle.cpc_native_points.proofs.Crossing.{body_table_send, body_table_sync}
use Rattle.cpc_eval_locals.proofs.marks.Key.TheSendSync as key
use Rattle.cpc_eval_locals.specs.contracts.locals.FunctionTable as FunctionTable

pub function_table_send : IsSend FunctionTable.the_row
function_table_send = declared_send FunctionTable.the_type (
  search (send-CType, option.the_field_send, name.the_field_send, key.the_field_send, crosses, sendable) depth 30,
  (search (send-CType, crosses, sendable) depth 30, (body_table_send, tt)),
)

pub function_table_sync : IsSync FunctionTable.the_row
function_table_sync = declared_sync FunctionTable.the_type (
  search (sync-CType, option.the_field_sync, name.the_field_sync, key.the_field_sync, crosses, sendable) depth 30,
  (search (sync-CType, crosses, sendable) depth 30, (body_table_sync, tt)),
)
