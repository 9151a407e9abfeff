use Rattle.std.proofs.Common.{◌≡◌, drop}
use Rattle.cpc_tree.specs.Erase.{Names}
use Rattle.cpc_tree.specs.Locate.{located_list}
use Rattle.cpc_check_rules.specs.FunctionRules.{stray_in}
use Rattle.cpc_check_rules.specs.Noted.{noted, first_of}
use Rattle.cpc_check_names.proofs.loops.+strays.Given as goal

-- with what is left, all of the row is noted
abbrev pub invariant-stray_row-loop-s : goal.invariant-stray_row-loop-s
invariant-stray_row-loop-s l = (names : Names) → noted (first_of l.first) (stray_in (located_list names (drop l.s-index l.row))) ≡ noted (first_of l.initial.first) (stray_in (located_list names l.row))
