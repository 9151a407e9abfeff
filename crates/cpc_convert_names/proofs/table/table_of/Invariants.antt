use Rattle.std.proofs.Common.{◌≡◌, take}
use Rattle.cpc_convert_names.proofs.table.table_of.Given as goal

-- the texts so far
abbrev pub invariant-loop-number : goal.invariant-loop-number
invariant-loop-number l = l.names ≡ take l.number l.source
