-- The numbers of cells of types, capped.
use Rattle.std.proofs.Common.{◌≡◌, ℕ, ◌+◌, ◌*◌, ◌-◌, ◌^◌, ◌<◌, ◌≤◌, min, suc, zero, inl, inr, List, length, get_or, drop, map, Option, Some, None, option_map, refl, ap, sym, ◌∙◌, arith}
use Rattle.std.proofs.lemmas.Bool.{cases_lt}
use Rattle.cpc_base.proofs.Lists.{drop_to_item}
use Rattle.cpc_tree.proofs.Counted.{present_step, absent_step}
use Rattle.cpc_tree.specs.Erase.{Names, type_of, field_of}
use Rattle.cpc_tree.specs.Syntax.{Ty, TyArray, Program}
use Rattle.cpc_tree.specs.Typing as T
use Rattle.cpc_tree.specs.declared.program.Field.{Field}
use Rattle.cpc_shapes.specs.Counted.{fields_count}
use Rattle.cpc_shapes.proofs.CellCounts.{size_array, fields_next}
use Rattle.cpc_types_structs.specs.Sized.{capped, capped_size}

-- ---- the greatest number

pub capped_low : (n : ℕ) → n < 2 ^ 64 → capped n ≡ n
capped_low n h = omega arith

capped_high : (n : ℕ) → 2 ^ 64 - 1 ≤ n → capped n ≡ 2 ^ 64 - 1
capped_high n h = omega arith

above : (n k : ℕ) → 2 ^ 64 - 1 < k → capped ((2 ^ 64 - 1) * n) ≡ capped (n * k)
above zero k h = let e : (2 ^ 64 - 1) * 0 ≡ 0 * k = omega arith in ap capped e
above (suc m) k h =
    let f : 2 ^ 64 - 1 ≤ (2 ^ 64 - 1) * suc m = omega arith in
    let g : 2 ^ 64 - 1 ≤ suc m * k = omega arith in
    capped_high _ f ∙ sym (capped_high _ g)

-- a product with a capped number, capped
pub product_capped : (n k : ℕ) → capped (capped k * n) ≡ capped (n * k)
product_capped n k = elim (cases_lt (2 ^ 64 - 1) k) [
  | inl h ↦ let f : capped k ≡ 2 ^ 64 - 1 = omega arith in ap (λ x. capped (x * n)) f ∙ above n k h
  | inr h ↦ let f : capped k ≡ k = omega arith in let d : k * n ≡ n * k = omega arith in ap (λ x. capped (x * n)) f ∙ ap capped d
]

-- ---- arrays

array_capped : (o : Option ℕ) (n c : ℕ) → Some c ≡ option_map capped o → Some (min (c * n) (2 ^ 64 - 1)) ≡ option_map capped (option_map (λ k. n * k) o)
array_capped None n c e = cc
array_capped (Some k) n c e = let f : c ≡ capped k = cc in ap Some (ap (λ x. capped (x * n)) f ∙ product_capped n k)

pub measure_array : (p : Program) (t : Ty) (n c : ℕ) → Some c ≡ capped_size p t → Some (min (c * n) (2 ^ 64 - 1)) ≡ capped_size p (TyArray t n)
measure_array p t n c e = array_capped (T.size p t) n c e ∙ sym (ap (option_map capped) (size_array p t n))

array_absent : (o : Option ℕ) (n : ℕ) → None ≡ option_map capped o → None ≡ option_map capped (option_map (λ k. n * k) o)
array_absent None n e = refl
array_absent (Some k) n e = cc

pub measure_incomplete : (p : Program) (t : Ty) (n : ℕ) → None ≡ capped_size p t → None ≡ capped_size p (TyArray t n)
measure_incomplete p t n e = array_absent (T.size p t) n e ∙ sym (ap (option_map capped) (size_array p t n))

-- ---- fields

-- one more field is counted
pub field_counted : (names : Names) (p : Program) (fs : List Field) (i : ℕ) (x : Field) (total c : ℕ) → i < length fs → x ≡ get_or fs i x → Some c ≡ capped_size p (type_of names x.of)
    → option_map (λ n. capped (total + n)) (fields_count p (map (field_of names) (drop i fs))) ≡ option_map (λ n. capped (min (total + c) (2 ^ 64 - 1) + n)) (fields_count p (map (field_of names) (drop (i + 1) fs)))
field_counted names p fs i x total c h is e =
    let rest = map (field_of names) (drop (i + 1) fs) in
    ap (λ gs. option_map (λ n. capped (total + n)) (fields_count p (map (field_of names) gs))) (drop_to_item fs i x h is)
    ∙ ap (option_map (λ n. capped (total + n))) (fields_next p (field_of names x) rest)
    ∙ present_step (T.size p (type_of names x.of)) (fields_count p rest) total c e

-- one that is incomplete leaves no count
pub field_uncounted : (names : Names) (p : Program) (fs : List Field) (i : ℕ) (x : Field) (total : ℕ) → i < length fs → x ≡ get_or fs i x → None ≡ capped_size p (type_of names x.of)
    → option_map (λ n. capped (total + n)) (fields_count p (map (field_of names) (drop i fs))) ≡ None
field_uncounted names p fs i x total h is e =
    let rest = map (field_of names) (drop (i + 1) fs) in
    ap (λ gs. option_map (λ n. capped (total + n)) (fields_count p (map (field_of names) gs))) (drop_to_item fs i x h is)
    ∙ ap (option_map (λ n. capped (total + n))) (fields_next p (field_of names x) rest)
    ∙ absent_step (T.size p (type_of names x.of)) (fields_count p rest) total e
