use Rattle.std.proofs.Common.{◌≡◌, ◌++◌, take, drop}
use Rattle.cpc_meaning.specs.Start.{before_underscores}
use Rattle.cpc_run_shown.proofs.outcome.before_underscores.Given as goal

abbrev pub invariant-loop-i : goal.invariant-loop-i
invariant-loop-i l = before_underscores l.text ≡ take l.i l.text ++ before_underscores (drop l.i l.text)
