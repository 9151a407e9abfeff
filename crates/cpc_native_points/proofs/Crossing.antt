-- The table of a body may be sent to threads, and shared among them.
use denote.Param.Send.{IsSend, IsSync, sendable}
use denote.Param.SendFields.{declared_send, declared_sync}
use Rattle.std.proofs.Crossing.{crosses}
use Rattle.std.proofs.MapsCrossing as maps
use Rattle.std.proofs.option.Option.TheSendSync as option
use Rattle.cpc_native_points.proofs.parts.Part.TheSendSync as part
use Rattle.cpc_native_points.specs.contracts.labels.BodyTable as BodyTable

pub body_table_send : IsSend BodyTable.the_row
body_table_send = declared_send BodyTable.the_type (search (option.the_field_send, part.the_field_send, crosses, maps.crosses, sendable) depth 30, (search sendable, tt))

pub body_table_sync : IsSync BodyTable.the_row
body_table_sync = declared_sync BodyTable.the_type (search (option.the_field_sync, part.the_field_sync, crosses, maps.crosses, sendable) depth 30, (search sendable, tt))
