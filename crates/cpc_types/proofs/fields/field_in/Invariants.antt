use Rattle.std.proofs.Common.{◌≡◌, map, drop}
use Rattle.cpc_tree.specs.Erase.{Names, field_of}
use Rattle.cpc_check_rules.specs.Apart.{AreApart}
use Rattle.cpc_shapes.specs.Found.{field_place}
use Rattle.cpc_types.specs.Scoped.{scope_of}
use Rattle.cpc_types.proofs.fields.field_in.Given as goal

-- the fields that are left decide
abbrev pub invariant-loop-field : goal.invariant-loop-field
invariant-loop-field l = (names : Names) → AreApart names
    → field_place (scope_of names l.scope).items (map (field_of names) l.fields) (names l.name) ≡ field_place (scope_of names l.scope).items (map (field_of names) (drop l.field-index l.fields)) (names l.name)
