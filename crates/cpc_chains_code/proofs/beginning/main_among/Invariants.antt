use Rattle.std.proofs.Common.{◌≡◌, drop}
use Rattle.cpc_tree.specs.Erase.{in_table}
use Rattle.cpc_meaning.specs.Start.{main_name}
use Rattle.cpc_convert_names.specs.Book.{find}
use Rattle.cpc_chains_code.proofs.beginning.main_among.Given as goal

-- it is among those that are left, if it is there
abbrev pub invariant-loop-called : goal.invariant-loop-called
invariant-loop-called l = find (in_table l.texts) l.functions main_name ≡ find (in_table l.texts) (drop l.called-index l.functions) main_name
