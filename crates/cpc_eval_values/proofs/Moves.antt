-- Moves of pointers that no block tells apart.
use Rattle.std.proofs.Common.{◌≡◌, ℕ, zero, suc, ◌*◌, ◌<◌, ◌≤◌, ◌⊎◌, inl, inr, min, ℤ, pos, negsuc, ◌+ℤ◌, ◌*ℤ◌, ◌≤ℤ◌, ◌<ℤ◌, refl, sym, ap, ◌∙◌, arith}
use Rattle.std.proofs.lemmas.Bool.{cases_lt}
use Rattle.std.proofs.lemmas.Int.{ints}
use Rattle.std.proofs.Math.IntN.{pos-*ℤ-pos, negsuc-*ℤ-pos}
use Rattle.std.specs.Int.{w128, saturate_signed}
use Rattle.std.specs.Prelude.{neg_ℤ}
use Rattle.cpc_eval_values.specs.Ordered.{limited, AreAlike}
use Rattle.cpc_eval_values.specs.Counted.{capped}

-- a move that was limited to 128 bits
same_limit : (d : ℤ) → limited d ≡ limited (saturate_signed w128 d)
same_limit (pos n) = ap pos (omega arith)
same_limit (negsuc n) = ap negsuc (omega arith)

pub alike_limited : (d : ℤ) → AreAlike d (saturate_signed w128 d)
alike_limited d = record { limited = same_limit d }

pub alike_same : (d : ℤ) → AreAlike d d
alike_same d = record { limited = refl }

up : (m : ℕ) → 9223372036854775808 ≤ m → limited (pos m) ≡ pos 9223372036854775808
up m h = ap pos (omega arith)

down : (m : ℕ) → 9223372036854775808 ≤ m → limited (neg_ℤ (pos m)) ≡ negsuc 9223372036854775807
down zero h = absurd (omega arith)
down (suc m) h = ap negsuc (omega arith)

-- so many elements, of a size that is too great
far : (z : ℤ) (n cells : ℕ) → 9223372036854775808 ≤ n → 9223372036854775808 ≤ cells → limited (z *ℤ pos n) ≡ limited (z *ℤ pos cells)
far (pos zero) n cells h g = ap limited (pos-*ℤ-pos zero n) ∙ ap (λ m. limited (pos m)) (omega arith) ∙ sym (ap limited (pos-*ℤ-pos zero cells))
far (pos (suc a)) n cells h g = ap limited (pos-*ℤ-pos (suc a) n) ∙ up (suc a * n) (omega arith) ∙ sym (up (suc a * cells) (omega arith)) ∙ sym (ap limited (pos-*ℤ-pos (suc a) cells))
far (negsuc a) n cells h g = ap limited (negsuc-*ℤ-pos a n) ∙ down (suc a * n) (omega arith) ∙ sym (down (suc a * cells) (omega arith)) ∙ sym (ap limited (negsuc-*ℤ-pos a cells))

limited_product : (z : ℤ) (n cells : ℕ) → cells ≡ capped n → limited (z *ℤ pos n) ≡ limited (z *ℤ pos cells)
limited_product z n cells e = elim (cases_lt n 18446744073709551615) [
  | inl below ↦ (let same : n ≡ cells = omega arith in ap (λ m. limited (z *ℤ pos m)) same)
  | inr past ↦ far z n cells (omega arith) (omega arith)
]

-- so many elements, of a size that is capped
pub alike_product : (z : ℤ) (n cells : ℕ) → cells ≡ capped n → AreAlike (z *ℤ pos n) (saturate_signed w128 (z *ℤ pos cells))
alike_product z n cells e = record { limited = limited_product z n cells e ∙ same_limit (z *ℤ pos cells) }

-- a count of cells that is capped
pub alike_capped : (n cells : ℕ) → cells ≡ capped n → AreAlike (pos n) (pos cells)
alike_capped n cells e = record { limited = ap pos (omega arith) }

-- ---- where a pointer comes to

-- a number that was limited to 128 bits
limits : (x : ℤ) → (saturate_signed w128 x ≡ x) ⊎ (((pos 170141183460469231731687303715884105727 ≤ℤ x) × (saturate_signed w128 x ≡ pos 170141183460469231731687303715884105727)) ⊎ ((x ≤ℤ negsuc 170141183460469231731687303715884105727) × (saturate_signed w128 x ≡ negsuc 170141183460469231731687303715884105727)))
limits (pos n) = elim (cases_lt n 170141183460469231731687303715884105727) [
  | inl below ↦ inl (ap pos (omega arith))
  | inr past ↦ inr (inl (omega (arith, ints), ap pos (omega arith)))
]
limits (negsuc n) = elim (cases_lt n 170141183460469231731687303715884105727) [
  | inl below ↦ inl (ap negsuc (omega arith))
  | inr past ↦ inr (inr (omega (arith, ints), ap negsuc (omega arith)))
]

pos_is : (m n : ℕ) → pos m ≡ pos n → m ≡ n
pos_is m n e = cc

negsuc_is : (m n : ℕ) → negsuc m ≡ negsuc n → m ≡ n
negsuc_is m n e = cc

-- two moves are one, or both go past every block
alike : (d e : ℤ) → limited d ≡ limited e → (d ≡ e) ⊎ (((pos 9223372036854775808 ≤ℤ d) × (pos 9223372036854775808 ≤ℤ e)) ⊎ ((d ≤ℤ negsuc 9223372036854775807) × (e ≤ℤ negsuc 9223372036854775807)))
alike (pos m) (pos n) h = let f : min m 9223372036854775808 ≡ min n 9223372036854775808 = pos_is _ _ h in elim (cases_lt m 9223372036854775808) [
  | inl below ↦ inl (ap pos (omega arith))
  | inr past ↦ inr (inl (omega (arith, ints), omega (arith, ints)))
]
alike (pos m) (negsuc n) h = let no : ⊥ = cc in absurd no
alike (negsuc m) (pos n) h = let no : ⊥ = cc in absurd no
alike (negsuc m) (negsuc n) h = let f : min m 9223372036854775807 ≡ min n 9223372036854775807 = negsuc_is _ _ h in elim (cases_lt m 9223372036854775807) [
  | inl below ↦ inl (ap negsuc (omega arith))
  | inr past ↦ inr (inr (omega (arith, ints), omega (arith, ints)))
]

-- an offset within a block
pub inside : (offset size : ℕ) (d by t : ℤ) → offset < 9223372036854775808 → size < 9223372036854775808 → AreAlike d by → t ≡ saturate_signed w128 (pos offset +ℤ by) → pos 0 ≤ℤ t → t ≤ℤ pos size → pos offset +ℤ d ≡ t
inside offset size d by t h g e f low high = elim (alike d by e.limited) [
  | inl same ↦ rw same (elim (limits (pos offset +ℤ by)) [
    | inl is ↦ sym (f ∙ is)
    | inr past ↦ elim past [ inl p ↦ absurd (omega (arith, ints)) | inr p ↦ absurd (omega (arith, ints)) ]
  ])
  | inr past ↦ elim past [
    | inl p ↦ elim (limits (pos offset +ℤ by)) [ inl is ↦ absurd (omega (arith, ints)) | inr q ↦ elim q [ inl r ↦ absurd (omega (arith, ints)) | inr r ↦ absurd (omega (arith, ints)) ] ]
    | inr p ↦ elim (limits (pos offset +ℤ by)) [ inl is ↦ absurd (omega (arith, ints)) | inr q ↦ elim q [ inl r ↦ absurd (omega (arith, ints)) | inr r ↦ absurd (omega (arith, ints)) ] ]
  ]
]

-- an offset before a block, or behind its end
pub before : (offset size : ℕ) (d by t : ℤ) → offset < 9223372036854775808 → AreAlike d by → t ≡ saturate_signed w128 (pos offset +ℤ by) → t <ℤ pos 0 → (pos offset +ℤ d) <ℤ pos 0
before offset size d by t h e f low = elim (alike d by e.limited) [
  | inl same ↦ rw same (elim (limits (pos offset +ℤ by)) [ inl is ↦ omega (arith, ints) | inr q ↦ elim q [ inl r ↦ omega (arith, ints) | inr r ↦ omega (arith, ints) ] ])
  | inr past ↦ elim past [
    | inl p ↦ elim (limits (pos offset +ℤ by)) [ inl is ↦ absurd (omega (arith, ints)) | inr q ↦ elim q [ inl r ↦ absurd (omega (arith, ints)) | inr r ↦ absurd (omega (arith, ints)) ] ]
    | inr p ↦ omega (arith, ints)
  ]
]

pub behind : (offset size : ℕ) (d by t : ℤ) → offset < 9223372036854775808 → size < 9223372036854775808 → AreAlike d by → t ≡ saturate_signed w128 (pos offset +ℤ by) → pos size <ℤ t → pos size <ℤ (pos offset +ℤ d)
behind offset size d by t h g e f high = elim (alike d by e.limited) [
  | inl same ↦ rw same (elim (limits (pos offset +ℤ by)) [ inl is ↦ omega (arith, ints) | inr q ↦ elim q [ inl r ↦ omega (arith, ints) | inr r ↦ omega (arith, ints) ] ])
  | inr past ↦ elim past [
    | inl p ↦ omega (arith, ints)
    | inr p ↦ elim (limits (pos offset +ℤ by)) [ inl is ↦ absurd (omega (arith, ints)) | inr q ↦ elim q [ inl r ↦ absurd (omega (arith, ints)) | inr r ↦ absurd (omega (arith, ints)) ] ]
  ]
]
