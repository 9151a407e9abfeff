-- The least pair of a row, or that there is none.
use Rattle.std.specs.Prelude.{◌≡◌, [], Option, Some, None}
use Rattle.cpc_check_rules.specs.Rule.{Broken, IsFirst}
use Rattle.cpc_check_rules.specs.declared.first.Breach.{Breach}

-- the least pair of the row, and nothing exactly where the row is empty
abbrev pub IsLeast : Broken → Option Breach → Type 0
IsLeast broken None = broken ≡ []
IsLeast broken (Some b) = IsFirst broken b.place b.rule
