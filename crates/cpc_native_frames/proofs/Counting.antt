-- The cells of variables, one after the other; the greatest number of 64 bits stands for every greater one.
use Rattle.std.proofs.Common.{◌≡◌, ℕ, ◌+◌, ◌-◌, ◌^◌, ◌<◌, ◌≤◌, min, List, [], ◌∷◌, length, get_or, drop, Option, Some, None, option_map, refl, ap, arith}
use Rattle.std.proofs.lemmas.List.{drop_all}
use Rattle.cpc_base.proofs.Lists.{drop_to_item}
use Rattle.cpc_tree.specs.Erase.{Names, type_of}
use Rattle.cpc_tree.specs.Syntax.{Variable, Program}
use Rattle.cpc_tree.specs.Typing as T
use Rattle.cpc_meaning_laws.specs.Cell.Cells.{or_zero, variables_cells}
use Rattle.cpc_eval_index.specs.Sized.{capped}
use Rattle.cpc_eval_locals.specs.declared.variables.Variable as V
use Rattle.cpc_eval_locals.specs.Kept.{kept_by}
use Rattle.cpc_eval_variables.specs.Kept.{types_kept}
use Rattle.cpc_eval_variables.specs.Typed.{types_in}
use Rattle.cpc_native_frames.specs.Costs.{types_cells}

pub sized : (o : Option ℕ) (r : ℕ) → r ≡ or_zero (option_map capped o) → r ≡ capped (or_zero o)
sized o r e = go o e
  where
    go : (o : Option ℕ) → r ≡ or_zero (option_map capped o) → r ≡ capped (or_zero o)
    go None e = omega arith
    go (Some n) e = e

module _ (p : Program) where
  pub cells_by_types : (xs : List Variable) → types_cells p (types_in xs) ≡ variables_cells p xs
  cells_by_types [] = refl
  cells_by_types (x ∷ xs) = ap (λ n. or_zero (T.size p x.type) + n) (cells_by_types xs)

  module _ (names : Names) (vs : List V.Variable) (i : ℕ) where
    -- one more variable
    pub cells_more : (v : V.Variable) (t c r : ℕ) → i < length vs → v ≡ get_or vs i v → c ≡ capped (or_zero (T.size p (type_of names v.of))) → r ≡ min (t + c) (2 ^ 64 - 1)
        → capped (r + types_cells p (types_kept (kept_by names (drop (i + 1) vs)))) ≡ capped (t + types_cells p (types_kept (kept_by names (drop i vs))))
    cells_more v t c r h e k q =
        let all : types_cells p (types_kept (kept_by names (drop i vs))) ≡ or_zero (T.size p (type_of names v.of)) + types_cells p (types_kept (kept_by names (drop (i + 1) vs))) =
        ap (λ ws. types_cells p (types_kept (kept_by names ws))) (drop_to_item vs i v h e) in
        omega arith

    -- none is left
    pub cells_end : (t : ℕ) → length vs ≤ i → t < 2 ^ 64 → t ≡ capped (t + types_cells p (types_kept (kept_by names (drop i vs))))
    cells_end t h low =
        let none : types_cells p (types_kept (kept_by names (drop i vs))) ≡ 0 = ap (λ ws. types_cells p (types_kept (kept_by names ws))) (drop_all i vs h) in
        omega arith
