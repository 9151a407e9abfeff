-- The numbers of cells of types, and the offsets of fields, capped.
use Rattle.std.specs.Prelude.{ℕ, Option, option_map}
use Rattle.cpc_tree.specs.Syntax.{Ty}
pub use Rattle.cpc_types_structs.specs.Sized.{capped, capped_size}

-- the offset of a field, capped, and its type
abbrev pub capped_field : Option (ℕ × Ty) → Option (ℕ × Ty)
capped_field o = option_map (λ (f : ℕ × Ty). (capped f.0, f.1)) o
