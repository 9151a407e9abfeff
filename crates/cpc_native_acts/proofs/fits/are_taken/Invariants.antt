use Rattle.std.proofs.Common.{◌≡◌, Some, map, drop}
use Rattle.cpc_native_acts.specs.Taken.{are_taken}
use Rattle.cpc_native_acts.proofs.fits.are_taken.Given as goal

-- the values that are left decide
abbrev pub invariant-loop-i : goal.invariant-loop-i
invariant-loop-i l = are_taken (map Some l.takes) l.values ≡ are_taken (map Some (drop l.i l.takes)) (drop l.i l.values)
