use Rattle.std.proofs.Common.{◌≡◌, ◌++◌, drop}
use Rattle.cpc_split.specs.Seen.{places_of}
use Rattle.cpc_split.specs.Flags.{flag_marks}
use Rattle.cpc_split.proofs.beginning.leader_marks.Given as goal

-- with the marks that are left, all are there
abbrev pub invariant-loop-i : goal.invariant-loop-i
invariant-loop-i l = places_of l.marks.items ++ flag_marks l.i (drop l.i l.leads) ≡ flag_marks 0 l.leads
