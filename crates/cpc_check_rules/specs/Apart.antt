-- Texts by which the code's names are told: where two names have one text they are one.
use Rattle.std.specs.Prelude.{◌≡◌, ◌==◌, ℕ, ◌<◌, ◌≤◌, Bool, false, length, None, bytes_eq, codes}
use Rattle.cpc_base.specs.Bytes.{Text}
use Rattle.cpc_base.specs.declared.names.Name.{Name}
use Rattle.cpc_base.specs.declared.stop.Dialect.{Dialect}
use Rattle.cpc_tree.specs.Erase.{Names, Table, in_table}
use Rattle.cpc_tree.specs.Primitives.{primitive_named}
use Rattle.cpc_check_rules.specs.FunctionRules.{is_reserved}

-- two names have one text only where they are one
pub record AreApart (names : Names) : Type 0 where
  pub told : (a b : Name) → bytes_eq (names a) (names b) ≡ (a.0 == b.0)

-- a text that means nothing to the language
pub record IsUnknown (x : Text) : Type 0 where
  pub reserved : (dialect : Dialect) → is_reserved dialect x ≡ false
  pub primitive : primitive_named x ≡ None
  pub main : bytes_eq x (codes "main") ≡ false

-- texts that tell names apart and are those of the table for its names
pub record Spells (table : Table) (names : Names) : Type 0 where
  pub apart : AreApart names
  pub inside : (n : Name) → n.0 < length table → names n ≡ in_table table n
  pub outside : (n : Name) → length table ≤ n.0 → IsUnknown (names n)
