-- The cells of variables, by their types.
use Rattle.std.specs.Prelude.{ℕ, ◌+◌, List, [], ◌∷◌}
use Rattle.cpc_tree.specs.Syntax.{Ty, Program}
use Rattle.cpc_tree.specs.Typing.{size}
use Rattle.cpc_meaning_laws.specs.Cell.Cells.{or_zero}

-- of variables of these types
abbrev pub types_cells : Program → List Ty → ℕ
types_cells p [] = 0
types_cells p (t ∷ ts) = or_zero (size p t) + types_cells p ts
