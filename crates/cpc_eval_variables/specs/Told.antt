-- Texts by which the names of a function are told.
use Rattle.std.specs.Prelude.{◌≡◌, ℕ, false, List, [], slice_get, Some, None, bytes_eq}
use Rattle.cpc_base.specs.declared.names.Name.{Name}
use Rattle.cpc_tree.specs.Erase.{Names}
use Rattle.cpc_tree.specs.declared.program.Parameter.{Parameter}
use Rattle.cpc_check_rules.specs.Apart.{AreApart}

-- names are told from each other, and from a parameter that has none
pub record IsTold (names : Names) (ps : List Parameter) : Type 0 where
  pub apart : AreApart names
  pub unnamed : (k : ℕ) (p : Parameter) → slice_get ps k ≡ Some p → p.word ≡ None → (x : Name) → bytes_eq [] (names x) ≡ false
