-- The first of what was noted does not depend on the order in which rows are noted.
use Rattle.std.proofs.Common.{◌≡◌, ℕ, ◌<◌, ◌≤◌, Bool, true, false, ◌||◌, ◌&&◌, nat_lt, [], ◌∷◌, Option, Some, None, refl, sym, ap, ◌∙◌, arith, inl, inr}
use Rattle.std.specs.Prelude.{◌⊎◌, ◌==◌, if◌then◌else◌}
use Rattle.cpc_base.specs.declared.stop.Place.{Place}
use Rattle.cpc_check_rules.specs.declared.rule.Rule.{Rule}
use Rattle.cpc_check_rules.specs.declared.rule.Rule.TheVariants.{Undeclared, Twice, Disagree, NoPlace, WrongNumber, CpsInNative, NoLabel, LabelTwice, Stray, NoField, Incomplete, Reserved, BadReturn, NotClosed, CpsAsValue, NoMain, TooMany, TooBroad, CallInside, RtCall, CpsForm}
use Rattle.cpc_check_rules.specs.Rule.{Broken, number}
use Rattle.cpc_check_rules.specs.Noted.{comes_before, earlier, noted}

abbrev Firsts : Type 0
Firsts = Option (Place × Rule)

-- ---- rules by their numbers

abbrev rule_at : ℕ → Rule
rule_at n =
    if n == 1 then Undeclared else (if n == 2 then Twice else (if n == 3 then Disagree else (if n == 4 then NoPlace else (if n == 5 then WrongNumber else (if n == 6 then CpsInNative else (if n == 7 then NoLabel
    else (if n == 8 then LabelTwice else (if n == 9 then Stray else (if n == 10 then NoField else (if n == 11 then Incomplete else (if n == 12 then Reserved else (if n == 13 then BadReturn else (if n == 14 then NotClosed
    else (if n == 15 then CpsAsValue else (if n == 16 then NoMain else (if n == 17 then TooMany else (if n == 18 then TooBroad else (if n == 19 then CallInside else (if n == 20 then RtCall else CpsForm)))))))))))))))))))

rule_back : (r : Rule) → rule_at (number r) ≡ r
rule_back Undeclared = refl
rule_back Twice = refl
rule_back Disagree = refl
rule_back NoPlace = refl
rule_back WrongNumber = refl
rule_back CpsInNative = refl
rule_back NoLabel = refl
rule_back LabelTwice = refl
rule_back Stray = refl
rule_back NoField = refl
rule_back Incomplete = refl
rule_back Reserved = refl
rule_back BadReturn = refl
rule_back NotClosed = refl
rule_back CpsAsValue = refl
rule_back NoMain = refl
rule_back TooMany = refl
rule_back TooBroad = refl
rule_back CallInside = refl
rule_back RtCall = refl
rule_back CpsForm = refl

same_rule : (r s : Rule) → number r ≡ number s → r ≡ s
same_rule r s e = sym (rule_back r) ∙ ap rule_at e ∙ rule_back s

-- ---- the order of pairs

before : ℕ → ℕ → ℕ → ℕ → ℕ → ℕ → Type 0
before i j k l m n = (i < j) ⊎ ((i ≡ j) × ((k < l) ⊎ ((k ≡ l) × (m < n))))

no_later : ℕ → ℕ → ℕ → ℕ → ℕ → ℕ → Type 0
no_later i j k l m n = (i < j) ⊎ ((i ≡ j) × ((k < l) ⊎ ((k ≡ l) × (m ≤ n))))

by_numbers : (i j k l m n : ℕ) → (nat_lt i j || (i == j && (nat_lt k l || (k == l && nat_lt m n)))) ≡ true → before i j k l m n
unfolding before
by_numbers i j k l m n e = grind arith

not_by_numbers : (i j k l m n : ℕ) → (nat_lt i j || (i == j && (nat_lt k l || (k == l && nat_lt m n)))) ≡ false → no_later j i l k n m
unfolding no_later
not_by_numbers i j k l m n e = grind arith

before_not : (i j k l m n : ℕ) → before i j k l m n → no_later j i l k n m → ⊥
unfolding before no_later
before_not i j k l m n (inl x) (inl y) = omega arith
before_not i j k l m n (inl x) (inr (e, y)) = omega arith
before_not i j k l m n (inr (e, x)) (inl y) = omega arith
before_not i j k l m n (inr (e, inl x)) (inr (f, inl y)) = omega arith
before_not i j k l m n (inr (e, inl x)) (inr (f, inr (g, y))) = omega arith
before_not i j k l m n (inr (e, inr (h, x))) (inr (f, inl y)) = omega arith
before_not i j k l m n (inr (e, inr (h, x))) (inr (f, inr (g, y))) = omega arith

before_later : (i j k l m n : ℕ) → before i j k l m n → no_later i j k l m n
unfolding before no_later
before_later i j k l m n (inl x) = inl x
before_later i j k l m n (inr (e, inl x)) = inr (e, inl x)
before_later i j k l m n (inr (e, inr (f, x))) = inr (e, inr (f, omega arith))

before_before : (i j h k l g m n f : ℕ) → before i j k l m n → before j h l g n f → before i h k g m f
unfolding before
before_before i j h k l g m n f (inl x) (inl y) = inl (omega arith)
before_before i j h k l g m n f (inl x) (inr (e, y)) = inl (omega arith)
before_before i j h k l g m n f (inr (e, x)) (inl y) = inl (omega arith)
before_before i j h k l g m n f (inr (e, inl x)) (inr (d, inl y)) = inr (omega arith, inl (omega arith))
before_before i j h k l g m n f (inr (e, inl x)) (inr (d, inr (c, y))) = inr (omega arith, inl (omega arith))
before_before i j h k l g m n f (inr (e, inr (c, x))) (inr (d, inl y)) = inr (omega arith, inl (omega arith))
before_before i j h k l g m n f (inr (e, inr (c, x))) (inr (d, inr (b, y))) = inr (omega arith, inr (omega arith, omega arith))

equal_numbers : (i j k l m n : ℕ) → no_later i j k l m n → no_later j i l k n m → (i ≡ j) × (k ≡ l) × (m ≡ n)
unfolding no_later
equal_numbers i j k l m n (inl x) (inl y) = absurd (omega arith)
equal_numbers i j k l m n (inl x) (inr (e, y)) = absurd (omega arith)
equal_numbers i j k l m n (inr (e, x)) (inl y) = absurd (omega arith)
equal_numbers i j k l m n (inr (e, inl x)) (inr (f, inl y)) = absurd (omega arith)
equal_numbers i j k l m n (inr (e, inl x)) (inr (f, inr (g, y))) = absurd (omega arith)
equal_numbers i j k l m n (inr (e, inr (h, x))) (inr (f, inl y)) = absurd (omega arith)
equal_numbers i j k l m n (inr (e, inr (h, x))) (inr (f, inr (g, y))) = (e, h, omega arith)

same_pair : (a b : Place × Rule) → a.0.line ≡ b.0.line → a.0.column ≡ b.0.column → a.1 ≡ b.1 → a ≡ b
same_pair a b e f g = grind arith

neither_first : (a b : Place × Rule) → comes_before a b ≡ false → comes_before b a ≡ false → a ≡ b
neither_first a b e f =
    let x = not_by_numbers a.0.line b.0.line a.0.column b.0.column (number a.1) (number b.1) e in
    let y = not_by_numbers b.0.line a.0.line b.0.column a.0.column (number b.1) (number a.1) f in
    let s = equal_numbers a.0.line b.0.line a.0.column b.0.column (number a.1) (number b.1) y x in
    same_pair a b s.0 s.1 (same_rule a.1 b.1 s.2)

before_is : (a b : Place × Rule) → comes_before a b ≡ true → before a.0.line b.0.line a.0.column b.0.column (number a.1) (number b.1)
before_is a b e = by_numbers a.0.line b.0.line a.0.column b.0.column (number a.1) (number b.1) e

not_both : (a b : Place × Rule) → comes_before a b ≡ true → comes_before b a ≡ true → ⊥
not_both a b e f =
    before_not a.0.line b.0.line a.0.column b.0.column (number a.1) (number b.1) (before_is a b e)
    (before_later b.0.line a.0.line b.0.column a.0.column (number b.1) (number a.1) (before_is b a f))

through : (a b c : Place × Rule) → comes_before a b ≡ true → comes_before b c ≡ true → comes_before a c ≡ false → ⊥
through a b c e f g =
    before_not a.0.line c.0.line a.0.column c.0.column (number a.1) (number c.1)
    (before_before a.0.line b.0.line c.0.line a.0.column b.0.column c.0.column (number a.1) (number b.1) (number c.1) (before_is a b e) (before_is b c f))
    (not_by_numbers a.0.line c.0.line a.0.column c.0.column (number a.1) (number c.1) g)

-- ---- the earlier of two

first_of_two : (a b : Place × Rule) → earlier (Some a) b ≡ earlier (Some b) a
first_of_two a b = go (comes_before b a) (comes_before a b) refl refl where
  go : (x y : Bool) → comes_before b a ≡ x → comes_before a b ≡ y → (if x then Some b else Some a) ≡ (if y then Some a else Some b)
  go true true e f = absurd (not_both a b f e)
  go true false e f = refl
  go false true e f = refl
  go false false e f = ap Some (neither_first a b f e)

one_by_one : (o : Firsts) (b c : Place × Rule) → earlier (earlier o b) c ≡ earlier (earlier o c) b
one_by_one None b c = first_of_two b c
one_by_one (Some a) b c = go (comes_before b a) (comes_before c a) (comes_before c b) (comes_before b c) refl refl refl refl where
  go : (x y z w : Bool) → comes_before b a ≡ x → comes_before c a ≡ y → comes_before c b ≡ z → comes_before b c ≡ w
      → earlier (if x then Some b else Some a) c ≡ earlier (if y then Some c else Some a) b
  go true true z w d e f g = first_of_two b c
  go true false true w d e f g = absurd (through c b a f d e)
  go true false false w d e f g = rw (f, d) refl
  go false true z true d e f g = absurd (through b c a g e d)
  go false true z false d e f g = rw (e, g) refl
  go false false z w d e f g = rw (e, d) refl

past_one : (o : Firsts) (x : Place × Rule) (b : Broken) → noted (earlier o x) b ≡ earlier (noted o b) x
past_one o x [] = refl
past_one o x (y ∷ b) = ap (λ z. noted z b) (one_by_one o x y) ∙ past_one (earlier o y) x b

pub noted_swap : (o : Firsts) (a b : Broken) → noted (noted o a) b ≡ noted (noted o b) a
noted_swap o [] b = refl
noted_swap o (x ∷ a) b = noted_swap (earlier o x) a b ∙ ap (λ z. noted z a) (past_one o x b)
