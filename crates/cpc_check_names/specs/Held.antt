-- Sets of names.
use Rattle.std.specs.Prelude.{◌≡◌, ℕ, Bool, List}
use Rattle.cpc_base.specs.declared.names.Name.{Name}
use Rattle.cpc_tree.specs.Located.{Ident}
use Rattle.cpc_tree.specs.Erase.{Names}
use Rattle.cpc_check_rules.specs.FunctionRules.{among}

-- a set of numbers holds just the names of a row
abbrev pub AreHeld : Names → (ℕ → Bool) → List Ident → Type 0
AreHeld names holds row = (name : Name) → holds name.0 ≡ among (names name) row
