use Rattle.std.proofs.Common.{◌≡◌, drop}
use Rattle.cpc_check_rules.specs.FunctionRules.{holds_underscores}
use Rattle.cpc_check_names.proofs.reserved.holds_underscores.Given as goal

-- what is left holds two where the text does
abbrev pub invariant-loop-start : goal.invariant-loop-start
invariant-loop-start l = holds_underscores (drop l.start l.text) ≡ holds_underscores l.text
