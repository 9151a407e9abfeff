use Rattle.std.proofs.Common.{◌≡◌, length, map}
use Rattle.cpc_tree.specs.Erase.{in_table, item_of}
use Rattle.cpc_tree.specs.Typing.{function_named}
use Rattle.cpc_meaning.specs.Start.{main_name}
use Rattle.cpc_run.proofs.open.main_of.Given as goal

abbrev pub invariant-loop-item : goal.invariant-loop-item
invariant-loop-item l = function_named (map (item_of (in_table l.program.names)) l.program.items.items) main_name ≡ function_named (map (item_of (in_table l.program.names)) l.rest) main_name

abbrev pub decreases-loop-item : goal.decreases-loop-item
decreases-loop-item l = length l.rest
