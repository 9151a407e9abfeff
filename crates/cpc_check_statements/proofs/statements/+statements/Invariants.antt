use Rattle.std.proofs.Common.{◌≡◌, drop}
use Rattle.cpc_tree.specs.Erase.{Names}
use Rattle.cpc_tree.specs.Locate.{located_list}
use Rattle.cpc_check_rules.specs.Apart.{Spells}
use Rattle.cpc_check_rules.specs.StmtRules.{stmts_breaks, all_behind}
use Rattle.cpc_check_rules.specs.Noted.{noted, first_of}
use Rattle.cpc_types.specs.Scoped.{all_items}
use Rattle.cpc_check_statements.specs.Standing.{standing}
use Rattle.cpc_check_statements.proofs.statements.+statements.Given as goal

-- with what is left, all of the row is noted and declared
abbrev pub invariant-row_rules-loop-s : goal.invariant-row_rules-loop-s
invariant-row_rules-loop-s l = record {
  told : (names : Names) → Spells l.around.names.now names
      → noted (first_of l.first) (stmts_breaks (standing names l.scope l.around) (located_list names (drop l.s-index l.row))) ≡ noted (first_of l.initial.first) (stmts_breaks (standing names l.initial.scope l.around) (located_list names l.row));
  behind : (names : Names) → (all_behind (standing names l.scope l.around) (located_list names (drop l.s-index l.row))).scope ≡ (all_behind (standing names l.initial.scope l.around) (located_list names l.row)).scope;
  all : all_items l.scope ≡ all_items l.initial.scope;
}
