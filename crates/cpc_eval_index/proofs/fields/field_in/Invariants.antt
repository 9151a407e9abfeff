use Rattle.std.proofs.Common.{◌≡◌, map}
use Rattle.cpc_tree.specs.Erase.{Names, field_of}
use Rattle.cpc_check_rules.specs.Apart.{AreApart}
use Rattle.cpc_eval_index.proofs.FieldRows.{looked, looked_from}
use Rattle.cpc_eval_index.proofs.fields.field_in.Given as goal

-- the fields that are left decide
abbrev pub invariant-loop-i : goal.invariant-loop-i
invariant-loop-i l = (names : Names) → AreApart names → looked l.offsets (map (field_of names) l.fields) (names l.name) ≡ looked_from names l.offsets l.fields l.i l.name
