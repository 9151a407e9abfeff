-- Names that are made have two underscores, and tell the function and what comes after.
use Rattle.std.proofs.Common.{◌≡◌, ℕ, ◌<◌, ◌^◌, ◌==◌, Bool, true, false, [], ◌∷◌, ◌++◌, length, get_or, decimal, bytes_eq, cond, refl, sym, ◌∙◌, ap, subst, arith, codes}
use Rattle.std.proofs.lemmas.Fmt.{decimal_injective, decimal_is_IsNumeral}
use Rattle.std.specs.Str.Parse.{AllDigits}
use Rattle.std.specs.Char.{digit_value}
use Rattle.cpc_base.specs.Bytes.{Text}
use Rattle.cpc_base.proofs.Truth.{true_not_false, not_under_ten}
use Rattle.cpc_convert_common.specs.Converted.{marked}
use Rattle.cpc_meaning.proofs.Functions.{texts_differ}
use Rattle.cpc_convert_common.specs.Marks.{marks_in, has_marks}

-- ---- marks

either_true : (e a b : Bool) → a ≡ true → b ≡ true → cond e a b ≡ true
either_true true a b h g = h
either_true false a b h g = g

marks_marked : (b : Bool) (f rest : Text) → marks_in b (f ++ 95 ∷ 95 ∷ rest) ≡ true
marks_marked true [] rest = refl
marks_marked false [] rest = refl
marks_marked true (c ∷ f) rest = either_true (c == 95) true (marks_in false (f ++ 95 ∷ 95 ∷ rest)) refl (marks_marked false f rest)
marks_marked false (c ∷ f) rest = either_true (c == 95) (marks_in true (f ++ 95 ∷ 95 ∷ rest)) (marks_in false (f ++ 95 ∷ 95 ∷ rest)) (marks_marked true f rest) (marks_marked false f rest)

pub marked_has : (f rest : Text) → has_marks (marked f rest) ≡ true
marked_has f rest = marks_marked false f rest

-- a name without marks is none that is made
pub marked_differs : (f rest x : Text) → has_marks x ≡ false → bytes_eq (marked f rest) x ≡ false
marked_differs f rest x h = texts_differ (marked f rest) x (λ (e : marked f rest ≡ x). true_not_false (sym (marked_has f rest) ∙ ap has_marks e ∙ h))

pub differs_marked : (f rest x : Text) → has_marks x ≡ false → bytes_eq x (marked f rest) ≡ false
differs_marked f rest x h = texts_differ x (marked f rest) (λ (e : x ≡ marked f rest). true_not_false (sym (marked_has f rest) ∙ sym (ap has_marks e) ∙ h))

weaker : (x : Text) → marks_in true x ≡ false → marks_in false x ≡ false
weaker [] h = refl
weaker (c ∷ x) h = go (c == 95) h
  where
    go : (e : Bool) → cond e true (marks_in false x) ≡ false → cond e (marks_in true x) (marks_in false x) ≡ false
    go true k = cc
    go false k = k

tail_marks : (c : ℕ) (x : Text) → has_marks (c ∷ x) ≡ false → has_marks x ≡ false
tail_marks c x h = go (c == 95) h
  where
    go : (e : Bool) → cond e (marks_in true x) (marks_in false x) ≡ false → marks_in false x ≡ false
    go true k = weaker x k
    go false k = k

pub record NoUnderscore (d : Text) : Type 0 where
  pub none : (e : Text) → d ≡ 95 ∷ e → ⊥

short_first : (d e : Text) (c : ℕ) (g : Text) → NoUnderscore d → has_marks (c ∷ g) ≡ false → 95 ∷ 95 ∷ d ≡ c ∷ (g ++ 95 ∷ 95 ∷ e) → ⊥
short_first d e c [] n h k = let g : d ≡ 95 ∷ e = cc in n.none e g
short_first d e c (b ∷ g) n h k =
    let m : c ∷ b ∷ g ≡ 95 ∷ 95 ∷ g = cc in
    true_not_false (sym (ap has_marks m) ∙ h)

pub marked_is : (f g d e : Text) → has_marks f ≡ false → has_marks g ≡ false → NoUnderscore d → NoUnderscore e → marked f d ≡ marked g e → (f ≡ g) × (d ≡ e)
marked_is [] [] d e hf hg nd ne k = (refl, cc)
marked_is [] (c ∷ g) d e hf hg nd ne k = absurd (short_first d e c g nd hg k)
marked_is (c ∷ f) [] d e hf hg nd ne k = absurd (short_first e d c f ne hf (sym k))
marked_is (a ∷ f) (b ∷ g) d e hf hg nd ne k =
    let h = marked_is f g d e (tail_marks a f hf) (tail_marks b g hg) nd ne (cc) in
    let x : a ≡ b = cc in
    let y = h.0 in (cc, h.1)

-- ---- what comes after the marks

pub no_bar_of : (d : Text) → (get_or d 0 0 ≡ 95 → ⊥) → NoUnderscore d
no_bar_of d h = record { none = λ e k. h (ap (λ x. get_or x 0 0) k) }

number_apart : (n : ℕ) → n ≡ 115 → n ≡ 95 → ⊥
number_apart n h g = absurd (omega arith)

pub no_bar_spawn : NoUnderscore (codes "spawn")
no_bar_spawn = no_bar_of (codes "spawn") (number_apart 115 refl)

pub not_digits : (c : ℕ) (d e : Text) → (digit_value c < 10 → ⊥) → AllDigits 10 d → d ≡ c ∷ e → ⊥
not_digits c d e h a k = h (subst (AllDigits 10) k a).0

digits_of : (n : ℕ) → n < 2 ^ 63 → AllDigits 10 (decimal n)
digits_of n h = (decimal_is_IsNumeral n (omega arith)).0.1

pub no_bar_decimal : (n : ℕ) → n < 2 ^ 63 → NoUnderscore (decimal n)
no_bar_decimal n h = record { none = λ e k. not_digits 95 (decimal n) e (not_under_ten 36 (omega arith)) (digits_of n h) k }

pub decimal_no_spawn : (n : ℕ) → n < 2 ^ 63 → decimal n ≡ codes "spawn" → ⊥
decimal_no_spawn n h k = not_digits 115 (decimal n) _ (not_under_ten 28 (omega arith)) (digits_of n h) k

pub decimal_is : (m n : ℕ) → m < 2 ^ 63 → n < 2 ^ 63 → decimal m ≡ decimal n → m ≡ n
decimal_is m n h g k = decimal_injective m n (omega arith) (omega arith) k

no_bar_empty : NoUnderscore []
no_bar_empty = record { none = λ e k. absurd (cc) }

decimal_some : (n : ℕ) → n < 2 ^ 63 → [] ≡ decimal n → ⊥
decimal_some n h k = absurd (let l = (decimal_is_IsNumeral n (omega arith)).0.0 in let z : 0 ≡ length (decimal n) = ap (λ x. length x) k in omega arith)

empty_apart : [] ≡ codes "spawn" → ⊥
empty_apart k = absurd (cc)

-- a name of two underscores at its end is none of those that are made
pub bar_piece : (x f : Text) (n : ℕ) → has_marks x ≡ false → has_marks f ≡ false → n < 2 ^ 63 → bytes_eq (marked x []) (marked f (decimal n)) ≡ false
bar_piece x f n hx hf h = texts_differ (marked x []) (marked f (decimal n)) (λ (e : marked x [] ≡ marked f (decimal n)). decimal_some n h (marked_is x f [] (decimal n) hx hf no_bar_empty (no_bar_decimal n h) e).1)
