use Rattle.std.proofs.Common.{◌≡◌, drop, map}
use Rattle.cpc_tree.specs.Erase.{Names}
use Rattle.cpc_tree.specs.Locate.{located_parameter}
use Rattle.cpc_check_rules.specs.Apart.{AreApart}
use Rattle.cpc_check_rules.specs.Noted.{noted, first_of}
use Rattle.cpc_check_rules.specs.ItemRules as R
use Rattle.cpc_types.specs.Scoped.{scope_of}
use Rattle.cpc_check_items.proofs.parameters.size_rules.Given as goal

-- with what is left, all of the row is noted
abbrev pub invariant-loop-parameter : goal.invariant-loop-parameter
invariant-loop-parameter l = (names : Names) → AreApart names
    → noted (first_of l.first) (R.sized_breaks (scope_of names l.scope) (map (located_parameter names) (drop l.parameter-index l.parameters)))
    ≡ noted (first_of l.initial.first) (R.sized_breaks (scope_of names l.scope) (map (located_parameter names) l.parameters))
