use Rattle.std.proofs.Common.{◌≡◌, map}
use Rattle.cpc_tree.specs.Erase.{Names, text_of}
use Rattle.cpc_convert_routines.specs.Names.{node_label}
use Rattle.cpc_convert_names.specs.Tables.{HasGrown, Spells}
use Rattle.cpc_convert_names.specs.Counted.{counted}
use Rattle.cpc_convert_names.proofs.called.labels.Given as goal

-- the labels so far
abbrev pub invariant-loop-number : goal.invariant-loop-number
invariant-loop-number l = record {
  grown : HasGrown l.initial.names l.names;
  are : (to : Names) → Spells l.names to → map (text_of to) l.all.items ≡ counted node_label 0 l.number;
}
