use Rattle.std.proofs.Common.{◌≡◌, drop, map}
use Rattle.cpc_tree.specs.Erase.{Names}
use Rattle.cpc_tree.specs.Locate.{located_field}
use Rattle.cpc_check_rules.specs.Apart.{AreApart}
use Rattle.cpc_check_rules.specs.Noted.{noted, first_of}
use Rattle.cpc_check_rules.specs.ItemRules as R
use Rattle.cpc_types.specs.Scoped.{scope_of}
use Rattle.cpc_check_items.proofs.structs.field_rules.Given as goal

-- with what is left, all of the row is noted
abbrev pub invariant-loop-field : goal.invariant-loop-field
invariant-loop-field l = (names : Names) → AreApart names
    → noted (first_of l.first) (R.fields_breaks (scope_of names l.scope) (map (located_field names) (drop l.field-index l.fields)))
    ≡ noted (first_of l.initial.first) (R.fields_breaks (scope_of names l.scope) (map (located_field names) l.fields))
