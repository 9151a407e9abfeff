-- Primitives by the names of a table.
use Rattle.std.proofs.Common.{◌≡◌, ℕ, ◌≤◌, inl, inr, [], length, Option, Some, None, option_map, sym, ap, ◌∙◌}
use Rattle.std.specs.Prelude.{slice_get}
use Rattle.std.proofs.lemmas.Bool.{cases_lt}
use Rattle.std.proofs.lemmas.Option.{slice_get_within, slice_get-get_or, get_or_from_slice_get}
use Rattle.cpc_base.specs.Bytes.{Text}
use Rattle.cpc_base.specs.declared.names.Name.{Name}
use Rattle.cpc_tree.specs.Erase.{Names, Table}
use Rattle.cpc_tree.specs.Primitives as P
use Rattle.cpc_tree.specs.PrimitiveNames.{primitive_of}
use Rattle.cpc_check_rules.specs.Apart.{Spells}
use Rattle.cpc_tree.specs.declared.primitive.Primitive.{Primitive}

spelled : (table : Table) (names : Names) (n : Name) (text : Text) → Spells table names → slice_get table n.0 ≡ Some text → names n ≡ text
spelled table names n text s e = s.inside n (slice_get_within table n.0 text e) ∙ get_or_from_slice_get table n.0 text [] e

-- a name of the table
pub primitive_some : (table : Table) (names : Names) (n : Name) (text : Text) (o : Option Primitive) → Spells table names → Some text ≡ slice_get table n.0
    → option_map primitive_of o ≡ P.primitive_named text → option_map primitive_of o ≡ P.primitive_named (names n)
primitive_some table names n text o s e h = h ∙ ap P.primitive_named (sym (spelled table names n text s (sym e)))

past : (table : Table) (n : ℕ) → None ≡ slice_get table n → length table ≤ n
past table n e = elim (cases_lt n (length table)) [
  | inl h ↦ absurd (none_some (e ∙ slice_get-get_or table n [] h))
  | inr h ↦ h
] where
  none_some : {x : Text} → None ≡ Some x → ⊥
  none_some e = cc

-- a name that the table does not have
pub primitive_none : (table : Table) (names : Names) (n : Name) → Spells table names → None ≡ slice_get table n.0 → None ≡ P.primitive_named (names n)
primitive_none table names n s e = sym ((s.outside n (past table n.0 e)).primitive)
