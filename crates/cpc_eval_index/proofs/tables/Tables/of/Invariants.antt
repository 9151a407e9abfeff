use Rattle.std.proofs.Common.{take}
use Rattle.cpc_eval_index.specs.Tabled.{AreTables}
use Rattle.cpc_types_structs.specs.Declares.{Declares}
use Rattle.cpc_eval_index.proofs.tables.Tables.of.Given as goal

-- the tables of the items so far, and what all declare
abbrev pub invariant-loop-i : goal.invariant-loop-i
invariant-loop-i l = record {
  tables : AreTables (take l.i l.list) l.tables;
  declares : Declares l.list l.declared;
}
