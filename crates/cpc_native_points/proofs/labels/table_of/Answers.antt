use Rattle.cpc_tree.specs.Erase.{stmt_of}
use Rattle.cpc_native_points.proofs.Gathering.{gathered_all}
use Rattle.cpc_native_points.proofs.labels.table_of.Goals as goal

pub returns : goal.returns
returns c = record { each = λ names apart x. gathered_all names c.new-table.result c.gather.new.table (stmt_of names c.args.body.now) c.new-table.ensures.places (c.in_ok-gather.ensures.led names apart) x }
