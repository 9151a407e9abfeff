use Rattle.std.proofs.Common.{arith}
use Rattle.cpc_tree.specs.Erase.{in_table}
use Rattle.cpc_check_names.proofs.Mains.{main_more}
use Rattle.cpc_check_names.proofs.entry.has_main.Goals as goal

pub loop-item-preserved : goal.loop-item-preserved
loop-item-preserved c = main_more (in_table c.args.names.now) c.args.items.now c.loop-item.item-index c.item-item.result _ (omega arith) c.item-item.is c.is_main_item.ensures c.if-is_main_item.false c.loop-item.invariant
