use Rattle.std.proofs.Common.{take}
use Rattle.cpc_eval_index.specs.Bodies.{AreFunctionTables}
use Rattle.cpc_eval_index.proofs.bodies.function_tables.Given as goal

-- the tables of the items so far
abbrev pub invariant-loop-item : goal.invariant-loop-item
invariant-loop-item l = AreFunctionTables (take l.item-index l.list) l.rows.items
