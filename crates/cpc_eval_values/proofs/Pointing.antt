-- Pointers into blocks: what the code's store says of the store that is meant.
use Rattle.std.proofs.Common.{◌≡◌, ℕ, ◌<◌, ◌≤◌, true, false, List, length, Option, Some, None, ℤ, pos, ◌+ℤ◌, ◌≤ℤ◌, ◌<ℤ◌, Ok, Err, refl, sym, ◌∙◌, arith}
use Rattle.std.proofs.lemmas.Int.{ints}
use Rattle.std.specs.Option.{option_map}
use Rattle.std.specs.Int.{w128, saturate_signed}
use Rattle.std.specs.Prelude.{int_le, unsigned_abs, ◌&&◌}
use Rattle.cpc_base.specs.declared.names.Name.{Name}
use Rattle.cpc_base.proofs.Truth.{and_with_false}
use Rattle.cpc_num.specs.declared.kinds.Fault.TheVariants as F
use Rattle.cpc_store.specs.declared.values.Class.{Class}
use Rattle.cpc_store.specs.Store.{Value, At, StoreOf, cells_of, size, store_cells}
use Rattle.cpc_store.proofs.CodeLemmas.{size-map}
use Rattle.cpc_store.proofs.CellLemmas.{store_cells-free}
use Rattle.cpc_tree.specs.Erase.{Names}
use Rattle.cpc_meaning.specs.Answer.{Gives, Faults}
use Rattle.cpc_meaning.specs.Eval.{moved_within}
use Rattle.cpc_eval_values.specs.Meets.{Meets}
use Rattle.cpc_eval_values.specs.Shown.{store_of}
use Rattle.cpc_eval_values.specs.Ordered.{AreAlike}
use Rattle.cpc_eval_values.proofs.Moves.{inside, before, behind}

-- a block has no more cells than the store
pub size_below : (c : Class) (n k : ℕ) (s : StoreOf Name) → Some k ≡ size c n s → k ≤ store_cells s
size_below c n k s e = let h = store_cells-free c n k s (sym e) in omega arith

-- the cells of the store that is meant
pub length_meant : (names : Names) (c : Class) (n : ℕ) (o : Option ℕ) (s : StoreOf Name) → o ≡ size c n s → option_map length (cells_of c n (store_of names s)) ≡ o
length_meant names c n o s e = size-map names c n s ∙ sym e

given_at : (o : Option (List Value)) (c : Class) (n k : ℕ) (z : ℤ) → option_map length o ≡ Some k → pos 0 ≤ℤ z → z ≤ℤ pos k → moved_within o c n z ≡ Gives (At c n (unsigned_abs z))
given_at None c n k z e low high = let no : ⊥ = cc in absurd no
given_at (Some cells) c n k z e low high =
    let l : length cells ≡ k = cc in
    let a : int_le (pos 0) z ≡ true = grind (arith, ints) in
    let b : int_le z (pos (length cells)) ≡ true = rw l (grind (arith, ints)) in
    rw (a, b) refl

below_at : (o : Option (List Value)) (c : Class) (n k : ℕ) (z : ℤ) → option_map length o ≡ Some k → z <ℤ pos 0 → moved_within o c n z ≡ Faults F.Bounds
below_at None c n k z e low = let no : ⊥ = cc in absurd no
below_at (Some cells) c n k z e low = let a : int_le (pos 0) z ≡ false = grind (arith, ints) in rw a refl

above_at : (o : Option (List Value)) (c : Class) (n k : ℕ) (z : ℤ) → option_map length o ≡ Some k → pos k <ℤ z → moved_within o c n z ≡ Faults F.Bounds
above_at None c n k z e high = let no : ⊥ = cc in absurd no
above_at (Some cells) c n k z e high =
    let l : length cells ≡ k = cc in
    let b : int_le z (pos (length cells)) ≡ false = rw l (grind (arith, ints)) in
    let both : (int_le (pos 0) z && int_le z (pos (length cells))) ≡ false = rw b (and_with_false (int_le (pos 0) z)) in
    rw both refl

-- a pointer that comes to an offset of its block, or to its end
pub within : (names : Names) (s : StoreOf Name) (c : Class) (n offset k : ℕ) (d by t : ℤ) → Some k ≡ size c n s → offset < 9223372036854775808 → k < 9223372036854775808 → AreAlike d by → t ≡ saturate_signed w128 (pos offset +ℤ by) → pos 0 ≤ℤ t → t ≤ℤ pos k
    → Meets (Ok (At c n (unsigned_abs t))) (moved_within (cells_of c n (store_of names s)) c n (pos offset +ℤ d))
within names s c n offset k d by t e h g alike f low high =
    rw (inside offset k d by t h g alike f low high, given_at (cells_of c n (store_of names s)) c n k t (length_meant names c n (Some k) s e) low high) refl

-- one that leaves its block
pub leaves_down : (names : Names) (s : StoreOf Name) (c : Class) (n offset k : ℕ) (d by t : ℤ) → Some k ≡ size c n s → offset < 9223372036854775808 → AreAlike d by → t ≡ saturate_signed w128 (pos offset +ℤ by) → t <ℤ pos 0
    → Meets {A = Value} (Err F.Bounds) (moved_within (cells_of c n (store_of names s)) c n (pos offset +ℤ d))
leaves_down names s c n offset k d by t e h alike f low =
    rw (below_at (cells_of c n (store_of names s)) c n k (pos offset +ℤ d) (length_meant names c n (Some k) s e) (before offset k d by t h alike f low)) refl

pub leaves_up : (names : Names) (s : StoreOf Name) (c : Class) (n offset k : ℕ) (d by t : ℤ) → Some k ≡ size c n s → offset < 9223372036854775808 → k < 9223372036854775808 → AreAlike d by → t ≡ saturate_signed w128 (pos offset +ℤ by) → pos k <ℤ t
    → Meets {A = Value} (Err F.Bounds) (moved_within (cells_of c n (store_of names s)) c n (pos offset +ℤ d))
leaves_up names s c n offset k d by t e h g alike f high =
    rw (above_at (cells_of c n (store_of names s)) c n k (pos offset +ℤ d) (length_meant names c n (Some k) s e) (behind offset k d by t h g alike f high)) refl
