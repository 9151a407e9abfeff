-- Rows of broken rules without their places.
use Rattle.std.specs.Prelude.{List, map}
use Rattle.cpc_check_rules.specs.declared.rule.Rule.{Rule}
use Rattle.cpc_check_rules.specs.Rule.{Broken}

-- the rules of a row, in order
abbrev pub rules_of : Broken → List Rule
rules_of broken = map (λ b. b.1) broken
