use Rattle.std.proofs.Common.{◌≡◌, map, take}
use Rattle.cpc_tree.specs.Erase.{Names, field_of}
use Rattle.cpc_convert_respawning.proofs.copying.copy_fields.Given as goal

-- the fields so far
abbrev pub invariant-loop-field : goal.invariant-loop-field
invariant-loop-field l = (to : Names) → map (field_of to) l.all.items ≡ map (field_of to) (take l.field-index l.fields)
