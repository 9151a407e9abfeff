-- What items declare may be sent to threads, and shared among them.
use denote.Param.Send.{IsSend, IsSync, sendable}
use Rattle.std.proofs.Crossing.{crosses}
use Rattle.std.proofs.option.Option.TheSendSync as option
use Rattle.cpc_base.proofs.names.Name.TheSendSync as name
use Rattle.cpc_types_structs.specs.contracts.declared.Declared as Declared

pub declared_send : IsSend Declared.the_row
declared_send = search (option.the_field_send, name.the_field_send, crosses, sendable) depth 30

pub declared_sync : IsSync Declared.the_row
declared_sync = search (option.the_field_sync, name.the_field_sync, crosses, sendable) depth 30
