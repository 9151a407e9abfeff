use Rattle.std.proofs.Common.{◌≡◌, take}
use Rattle.cpc_pool_sections.proofs.same.same_values.Given as goal

abbrev pub invariant-loop-i : goal.invariant-loop-i
invariant-loop-i l = take l.i l.first ≡ take l.i l.second
