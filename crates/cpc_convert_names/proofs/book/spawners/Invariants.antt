use Rattle.std.proofs.Common.{◌≡◌, map, take}
use Rattle.cpc_tree.specs.Erase.{Names, text_of}
use Rattle.cpc_convert_common.specs.Converted.{spawner_name}
use Rattle.cpc_convert_names.specs.Tables.{HasGrown, Spells}
use Rattle.cpc_convert_names.proofs.book.spawners.Given as goal

-- the spawners of the names so far
abbrev pub invariant-loop-number : goal.invariant-loop-number
invariant-loop-number l = record {
  grown : HasGrown l.initial.names l.names;
  are : (to : Names) → HasGrown l.source l.initial.names → Spells l.names to → map (text_of to) l.all.items ≡ map spawner_name (take l.number l.source);
}
