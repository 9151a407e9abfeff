use Rattle.std.proofs.Common.{◌≡◌, ◌++◌, map, decimal}
use Rattle.cpc_tree.specs.Erase.{Names, Table, in_table, text_of}
use Rattle.cpc_convert_common.specs.Converted.{marked}
use Rattle.cpc_convert_names.specs.Tables.{HasGrown, Spells}
use Rattle.cpc_convert_names.specs.Counted.{counted}
use Rattle.cpc_convert_names.proofs.called.numbered_names.Given as goal

-- the names of the numbers so far
abbrev pub invariant-loop-number : goal.invariant-loop-number
invariant-loop-number l = record {
  grown : HasGrown l.initial.names l.names;
  are : (source : Table) (to : Names) → HasGrown source l.initial.names → Spells l.names to → in_table source l.of ≡ to l.of
      → map (text_of to) l.all.items ≡ counted (λ k. marked (to l.of) (l.word ++ decimal k)) 0 l.number;
}
