use Rattle.std.proofs.Common.{◌≡◌, map, take}
use Rattle.cpc_tree.specs.Erase.{Names, Table, in_table, text_of}
use Rattle.cpc_convert_names.specs.Tables.{HasGrown, Spells}
use Rattle.cpc_convert_names.specs.Counted.{called_of, locals_from}
use Rattle.cpc_convert_names.proofs.called.locals.Given as goal

-- the locals so far
abbrev pub invariant-loop-number : goal.invariant-loop-number
invariant-loop-number l = record {
  grown : HasGrown l.initial.names l.names;
  are : (source : Table) (to : Names) → HasGrown source l.initial.names → Spells l.names to → map (called_of (in_table source)) l.variables ≡ map (called_of to) l.variables
      → map (text_of to) l.all.items ≡ locals_from to 0 (take l.number l.variables);
}
