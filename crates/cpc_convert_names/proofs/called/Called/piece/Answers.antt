use Rattle.std.proofs.Common.{length}
use Rattle.cpc_convert_routines.specs.Names.{leader_name}
use Rattle.cpc_convert_names.specs.Called.{name_in, nodes_in}
use Rattle.cpc_convert_names.proofs.Rows.{row_at, row_ended}
use Rattle.cpc_convert_names.proofs.called.Called.piece.Goals as goal

pub returns-in-Some : goal.returns-in-Some
returns-in-Some c = λ to are lt. row_at to (leader_name (name_in to c.args.self.now.lifted.now)) _ _ (length (nodes_in c.args.self.now.lifted.now)) c.args.number _ are.pieces c.deref.ensures.value c.in-Some.ensures.lookup.0 c.in-Some.ensures.lookup.1

pub returns-in-None : goal.returns-in-None
returns-in-None c = λ to are lt. absurd (row_ended to (leader_name (name_in to c.args.self.now.lifted.now)) _ _ (length (nodes_in c.args.self.now.lifted.now)) c.args.number are.pieces c.deref.ensures.value c.in-None.ensures.lookup.0 lt)
