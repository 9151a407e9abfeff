-- A program, and one that breaks no rule, may be sent to threads and shared among them.
use denote.Param.Send.{IsSend, IsSync, sendable}
use denote.Param.SendFields.{declared_send, declared_sync}
use Rattle.std.proofs.Crossing.{crosses}
use Rattle.std.proofs.MapsCrossing as maps
use Rattle.std.proofs.option.Option.TheSendSync as option
use Rattle.cpc_base.proofs.names.Name.TheSendSync as name
use Rattle.cpc_base.proofs.stop.Place.TheSendSync as place
use Rattle.cpc_base.proofs.stop.Dialect.TheSendSync as dialect
use Rattle.cpc_base.specs.contracts.names.Names as Names
use Rattle.cpc_check.specs.contracts.checked.Checked as Checked
use Rattle.cpc_eval_index.proofs.Crossing.{program_table_send, program_table_sync}
use Rattle.cpc_num.proofs.kinds.Kind.TheSendSync as kind
use Rattle.cpc_num.proofs.kinds.Op.TheSendSync as op
use Rattle.cpc_tree.specs.contracts.program.Item as Item
use Rattle.cpc_tree.specs.contracts.program.Program as Program
use Rattle.cpc_tree.proofs.program.CType.TheLaws.TheKnot.{send-CType, sync-CType}
use Rattle.cpc_tree.proofs.program.Expr.TheLaws.TheKnot.{send-Expr, sync-Expr}
use Rattle.cpc_tree.proofs.program.Statement.TheLaws.TheKnot.{send-Statement, sync-Statement}
use Rattle.cpc_tree.proofs.program.Mode.TheSendSync as mode
use Rattle.cpc_tree.proofs.program.UnaryOp.TheSendSync as unary
use Rattle.cpc_tree.proofs.program.Word.TheSendSync as word

names_send : IsSend Names.the_row
names_send = search (crosses, maps.crosses, sendable) depth 30

names_sync : IsSync Names.the_row
names_sync = search (crosses, maps.crosses, sendable) depth 30

item_send : IsSend Item.the_row
item_send = search (send-CType, send-Expr, send-Statement, option.the_field_send, name.the_field_send, place.the_field_send, kind.the_field_send, op.the_field_send, mode.the_field_send, unary.the_field_send, word.the_field_send, word.the_send, crosses, sendable) depth 60 fits 20000

item_sync : IsSync Item.the_row
item_sync = search (sync-CType, sync-Expr, sync-Statement, option.the_field_sync, name.the_field_sync, place.the_field_sync, kind.the_field_sync, op.the_field_sync, mode.the_field_sync, unary.the_field_sync, word.the_field_sync, word.the_sync, crosses, sendable) depth 60 fits 20000

pub program_send : IsSend Program.the_row
program_send = search (names_send, item_send, crosses, sendable) depth 30

pub program_sync : IsSync Program.the_row
program_sync = search (names_sync, item_sync, crosses, sendable) depth 30

pub checked_send : IsSend Checked.the_row
checked_send = declared_send Checked.the_type (program_send, (dialect.the_send, (program_table_send, tt)))

pub checked_sync : IsSync Checked.the_row
checked_sync = declared_sync Checked.the_type (program_sync, (dialect.the_sync, (program_table_sync, tt)))
