-- The table of a program may be sent to threads, and shared among them.
use denote.Param.Send.{IsSend, IsSync, sendable}
use denote.Param.SendFields.{declared_send, declared_sync}
use Rattle.std.proofs.Crossing.{crosses}
use Rattle.std.proofs.option.Option.TheSendSync as option
use Rattle.cpc_eval_locals.proofs.Crossing.{function_table_send, function_table_sync}
use Rattle.cpc_types_structs.proofs.Crossing as declared
use Rattle.cpc_eval_index.specs.contracts.index.ProgramTable as ProgramTable

pub program_table_send : IsSend ProgramTable.the_row
program_table_send = declared_send ProgramTable.the_type (
  search (crosses, sendable) depth 30,
  (declared.declared_send, (search (crosses, sendable) depth 30, (search (function_table_send, option.the_field_send, crosses, sendable) depth 30, tt))),
)

pub program_table_sync : IsSync ProgramTable.the_row
program_table_sync = declared_sync ProgramTable.the_type (
  search (crosses, sendable) depth 30,
  (declared.declared_sync, (search (crosses, sendable) depth 30, (search (function_table_sync, option.the_field_sync, crosses, sendable) depth 30, tt))),
)
