use Rattle.std.proofs.Common.{◌≡◌, ◌+◌, ◌≤◌, drop}
use Rattle.cpc_tree.specs.Erase.{Names}
use Rattle.cpc_tree.specs.Locate.{located_list}
use Rattle.cpc_check_rules.specs.FunctionRules.{statements_in}
use Rattle.cpc_base.specs.Counts.{capped}
use Rattle.cpc_check_names.proofs.counts.+counted.Given as goal

-- with what is left, all of the row is counted
abbrev pub invariant-row_count-loop-s : goal.invariant-row_count-loop-s
invariant-row_count-loop-s l = (l.count ≤ 18446744073709551615)
    × ((names : Names) → capped (l.count + statements_in (located_list names (drop l.s-index l.row))) ≡ capped (statements_in (located_list names l.row)))
