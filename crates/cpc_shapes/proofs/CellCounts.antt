-- The numbers of cells of arrays and of fields.
use Rattle.std.proofs.Common.{◌≡◌, ℕ, ◌+◌, ◌*◌, suc, zero, List, ◌∷◌, ◌++◌, length, reverse, Some, None, option_map, refl, ap, arith, length-append}
use Rattle.cpc_tree.specs.Syntax.{Ty, TyArray, Variable, Program}
use Rattle.cpc_tree.specs.Typing as T
use Rattle.cpc_tree.specs.Typing.{◌>>=◌}
use Rattle.cpc_shapes.specs.Counted.{count, fields_count}

length_times : (n : ℕ) (xs : List Ty) → length (T.times n xs) ≡ n * length xs
length_times zero xs = omega arith
length_times (suc n) xs =
    let h : length (T.times n xs) ≡ n * length xs = length_times n xs in
    let e : length (xs ++ T.times n xs) ≡ length xs + length (T.times n xs) = length-append xs (T.times n xs) in
    omega arith

array_cells : (o : T.Cells) (n : ℕ) → ((o >>= (λ (xs : List Ty). Some (T.times n xs))) >>= (λ (xs : List Ty). Some (length xs))) ≡ option_map (λ k. n * k) (o >>= (λ (xs : List Ty). Some (length xs)))
array_cells None n = refl
array_cells (Some xs) n = ap Some (length_times n xs)

pub size_array : (p : Program) (t : Ty) (n : ℕ) → T.size p (TyArray t n) ≡ option_map (λ k. n * k) (T.size p t)
size_array p t n = array_cells (T.cells p t) n

both_count : (a b : T.Cells) → count (T.both a b) ≡ (count a >>= (λ (m : ℕ). count b >>= (λ (n : ℕ). Some (m + n))))
both_count None b = refl
both_count (Some xs) None = refl
both_count (Some xs) (Some ys) = ap Some (length-append xs ys)

-- the cells of fields are those of the first and of the others
pub fields_next : (p : Program) (f : Variable) (fs : List Variable) → fields_count p (f ∷ fs) ≡ (T.size p f.type >>= (λ (m : ℕ). fields_count p fs >>= (λ (n : ℕ). Some (m + n))))
fields_next p f fs = both_count (T.cells p f.type) (T.fields_cells (T.struct_cells (reverse p)) fs)
