use Rattle.std.proofs.Common.{◌≡◌, ◌++◌, drop}
use Rattle.cpc_split.specs.Flags.{flag_leaders}
use Rattle.cpc_split.proofs.beginning.leader_numbers.Given as goal

-- with the leaders that are left, all are there
abbrev pub invariant-loop-i : goal.invariant-loop-i
invariant-loop-i l = l.numbers.items ++ flag_leaders l.i (drop l.i l.leads) ≡ flag_leaders 0 l.leads
