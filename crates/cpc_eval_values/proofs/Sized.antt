-- Operators that count elements, where their size is known.
use Rattle.std.proofs.Common.{◌≡◌, ℕ, suc, ◌/◌, ◌<◌, ◌≤◌, inl, inr, Option, Some, None, ℤ, pos, negsuc, ◌-ℤ◌, ◌≤ℤ◌, Result, Ok, refl, sym, ap, ◌∙◌, arith, FitsSigned, to_z, of_z, to_z-of_z}
use Rattle.std.proofs.lemmas.Bool.{cases_lt}
use Rattle.std.proofs.lemmas.Int.{ints}
use Rattle.std.proofs.Math.Nat.{div-eq_of_lt}
use Rattle.std.specs.Prelude.{int_div, neg_ℤ}
use Rattle.std.specs.Int.{w128}
use Rattle.cpc_num.specs.Number.{IsOfSome}
use Rattle.cpc_num.specs.declared.kinds.Fault.{Fault}
use Rattle.cpc_num.specs.declared.kinds.Kind.TheVariants.{Long}
use Rattle.cpc_tree.specs.Syntax.{Ty, TyPointer, Program}
use Rattle.cpc_tree.specs.Typing.{size}
use Rattle.cpc_store.specs.Store.{Value, Whole, Store}
use Rattle.cpc_meaning.specs.Answer.{Answer, Gives, ◌>>=◌, needed}
use Rattle.cpc_meaning.specs.Eval.{element_size, offsets, distance}
use Rattle.cpc_eval_values.specs.Meets.{Meets}
use Rattle.cpc_eval_values.specs.Counted.{capped, IsSize}
use Rattle.cpc_eval_values.proofs.Meeting.{meets_then}

by_need : {A : Type 0} (o : Option ℕ) (known : Option ℕ) (f : ℕ → Answer A) (r : Result A Fault) → IsSize known (needed o) → ((n : ℕ) → known ≡ Some (capped n) → Meets r (f n)) → Meets r (needed o >>= f)
by_need (Some n) known f r h g = g n (h n refl)
by_need None known f r h g = tt

-- what is done with the size of what a pointer points to
pub by_size : {A : Type 0} (p : Program) (t : Option Ty) (known : Option ℕ) (f : ℕ → Answer A) (r : Result A Fault) → IsSize known (element_size p t) → ((n : ℕ) → known ≡ Some (capped n) → Meets r (f n)) → Meets r (element_size p t >>= f)
by_size p (Some (TyPointer t)) known f r h g = by_need (size p t) known f r h g
by_size p _ known f r h g = tt

some_is : (m n : ℕ) → Some m ≡ Some n → m ≡ n
some_is m n e = cc

-- the elements between two pointers
pub distance_given : (p : Program) (s : Store) (t : Option Ty) (v w : Value) (j k cells : ℕ) (z : ℤ) → Meets (Ok (j, k)) (offsets s v w) → IsSize (Some cells) (element_size p t) → ((n : ℕ) → cells ≡ capped n → z ≡ int_div (pos j -ℤ pos k) (pos n))
    → Meets (Ok (Whole Long z)) (distance p s t v w)
distance_given p s t v w j k cells z h known is =
    meets_then (j, k) (offsets s v w) _ (Ok (Whole Long z)) h
    (by_size p t (Some cells) (λ n. Gives (Whole Long (int_div (pos j -ℤ pos k) (pos n)))) (Ok (Whole Long z)) known
    (λ n e. ap (λ x. Ok (Whole Long x)) (is n (some_is _ _ e))))

-- a quotient by a size that is capped
pub quotient_capped : (x : ℤ) (n cells : ℕ) → cells ≡ capped n → negsuc 9223372036854775807 ≤ℤ x → x ≤ℤ pos 9223372036854775807 → int_div x (pos cells) ≡ int_div x (pos n)
quotient_capped x n cells e low high = elim (cases_lt n 18446744073709551615) [
  | inl below ↦ (let same : cells ≡ n = omega arith in ap (λ m. int_div x (pos m)) same)
  | inr past ↦ none x n cells (omega arith) (omega arith) low high
]
  where
    quotient : (a m : ℕ) → a < m → a / m ≡ 0
    quotient a m h = div-eq_of_lt h

    none : (x : ℤ) (n cells : ℕ) → 18446744073709551615 ≤ n → 18446744073709551615 ≤ cells → negsuc 9223372036854775807 ≤ℤ x → x ≤ℤ pos 9223372036854775807 → int_div x (pos cells) ≡ int_div x (pos n)
    none (pos a) n cells h g low high = ap pos (quotient a cells (omega (arith, ints)) ∙ sym (quotient a n (omega (arith, ints))))
    none (negsuc a) n cells h g low high = ap (λ m. neg_ℤ (pos m)) (quotient (suc a) cells (omega (arith, ints)) ∙ sym (quotient (suc a) n (omega (arith, ints))))

-- a size that is not known is any
pub size_or : (size : Option ℕ) (cells : ℕ) (a : Answer ℕ) → ((n : ℕ) → size ≡ Some n → cells ≡ n) → IsSize size a → IsSize (Some cells) a
size_or size cells a h known = λ n e. ap Some (h (capped n) (known n e))

-- ---- numbers as the code passes them

fits_between : (x : ℤ) → negsuc 18446744073709551616 ≤ℤ x → x ≤ℤ pos 18446744073709551616 → FitsSigned w128 x
fits_between (pos n) low high = record { sfits = omega (arith, ints) }
fits_between (negsuc n) low high = record { sfits = omega (arith, ints) }

pub difference_passed : (a b : ℤ) (j k : ℕ) → a ≡ pos j → b ≡ pos k → j < 9223372036854775808 → k < 9223372036854775808 → to_z w128 (of_z w128 (a -ℤ b)) ≡ pos j -ℤ pos k
difference_passed a b j k e f h g = rw (e, f) (to_z-of_z (fits_between (pos j -ℤ pos k) (omega (arith, ints)) (omega (arith, ints))))

pub negated_passed : (a z : ℤ) → a ≡ z → IsOfSome z → to_z w128 (of_z w128 (pos 0 -ℤ a)) ≡ pos 0 -ℤ z
negated_passed a z e h = rw e (to_z-of_z (fits_between (pos 0 -ℤ z) (omega (arith, ints)) (omega (arith, ints))))
