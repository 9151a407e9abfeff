use Rattle.std.proofs.Common.{◌≡◌, ◌++◌, drop, map}
use Rattle.cpc_tree.specs.Erase.{Names}
use Rattle.cpc_tree.specs.Locate.{ident, located_field}
use Rattle.cpc_check_rules.specs.ItemRules as R
use Rattle.cpc_check_items.proofs.structs.field_words.Given as goal

-- with what is left, all names are there
abbrev pub invariant-loop-field : goal.invariant-loop-field
invariant-loop-field l = (names : Names) → map (ident names) l.words.items ++ R.field_names (map (located_field names) (drop l.field-index l.fields)) ≡ R.field_names (map (located_field names) l.fields)
