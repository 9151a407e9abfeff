-- Lists of numbers: what they hold, and that each stands there once.
use Rattle.std.proofs.Common.{◌≡◌, ℕ, suc, ◌<◌, ◌≤◌, Bool, true, false, ◌||◌, ◌==◌, List, [], ◌∷◌, ◌++◌, refl, sym, ◌∙◌, ap, arith}
use Rattle.cpc_base.proofs.Truth.{eq_reflexive, or_both_fail, eq_means, eq_fails, or_by_second, false_unless_true}
use Rattle.cpc_tree.specs.Lists.{holds_number}
use Rattle.cpc_tree.proofs.Holding.{holds_both}
use Rattle.cpc_forms.specs.Pieces.{Once, NoNumber, AndOther}
use Rattle.cpc_convert_routines.specs.Routines.{number_before, chosen}

-- ---- tests

-- what is not held is not the number that is
pub not_both : (ns : List ℕ) (m n : ℕ) → holds_number ns m ≡ true → holds_number ns n ≡ false → m ≡ n → ⊥
not_both ns m n h g e = let z : true ≡ false = sym h ∙ (ap (holds_number ns) e ∙ g) in absurd (cc)

-- ---- lists

-- a number of two rows is in one of them
pub held_either : (xs ys : List ℕ) (n : ℕ) (A : Type 0) → holds_number (xs ++ ys) n ≡ true → (holds_number xs n ≡ true → A) → (holds_number ys n ≡ true → A) → A
held_either xs ys n A h f g = go (holds_number xs n) refl (sym (holds_both xs ys n) ∙ h)
  where
    go : (b : Bool) → holds_number xs n ≡ b → (b || holds_number ys n) ≡ true → A
    go true e i = f e
    go false e i = g i

pub not_in_append : (xs ys : List ℕ) (n : ℕ) → holds_number xs n ≡ false → holds_number ys n ≡ false → holds_number (xs ++ ys) n ≡ false
not_in_append xs ys n e f = holds_both xs ys n ∙ or_both_fail (holds_number xs n) (holds_number ys n) e f

pub once_append : (xs ys : List ℕ) → Once xs → Once ys → ((n : ℕ) → holds_number xs n ≡ true → holds_number ys n ≡ false) → Once (xs ++ ys)
once_append _ ys NoNumber g h = g
once_append _ ys (AndOther n ns e o) g h = AndOther n (ns ++ ys) (not_in_append ns ys n e (h n (ap (λ b. b || holds_number ns n) (eq_reflexive n)))) (once_append ns ys o g (λ m i. h m (or_by_second (n == m) (holds_number ns m) i)))

-- ---- those of which a test holds

module _ (test : ℕ → Bool) where
  -- a number of these is one of them all, of which the test holds
  pub chosen_is : (ns : List ℕ) (n : ℕ) → holds_number (chosen test ns) n ≡ true → (holds_number ns n ≡ true) × (test n ≡ true)
  chosen_is [] n h = absurd (cc)
  chosen_is (m ∷ ns) n h = go (test m) refl h (λ i. chosen_is ns n i)
    where
      here : (b : Bool) → (m == n) ≡ b → test m ≡ true → (b || holds_number (chosen test ns) n) ≡ true → (holds_number (chosen test ns) n ≡ true → (holds_number ns n ≡ true) × (test n ≡ true)) → ((b || holds_number ns n) ≡ true) × (test n ≡ true)
      here true e f g deeper = (refl, ap test (sym (eq_means m n e)) ∙ f)
      here false e f g deeper = deeper g

      go : (b : Bool) → test m ≡ b → holds_number (number_before b m (chosen test ns)) n ≡ true → (holds_number (chosen test ns) n ≡ true → (holds_number ns n ≡ true) × (test n ≡ true)) → (((m == n) || holds_number ns n) ≡ true) × (test n ≡ true)
      go true f g deeper = here (m == n) refl f g deeper
      go false f g deeper = let i = deeper g in (or_by_second (m == n) (holds_number ns n) i.0, i.1)

  pub chosen_has : (ns : List ℕ) (n : ℕ) → holds_number ns n ≡ true → test n ≡ true → holds_number (chosen test ns) n ≡ true
  chosen_has [] n h e = absurd (cc)
  chosen_has (m ∷ ns) n h e = go (test m) refl (m == n) refl h (λ i. chosen_has ns n i e)
    where
      go : (b : Bool) → test m ≡ b → (c : Bool) → (m == n) ≡ c → (c || holds_number ns n) ≡ true → (holds_number ns n ≡ true → holds_number (chosen test ns) n ≡ true) → holds_number (number_before b m (chosen test ns)) n ≡ true
      go true f true g i deeper = ap (λ c. c || holds_number (chosen test ns) n) g
      go true f false g i deeper = or_by_second (m == n) (holds_number (chosen test ns) n) (deeper i)
      go false f true g i deeper = let z : false ≡ true = sym f ∙ (ap test (eq_means m n g) ∙ e) in absurd (cc)
      go false f false g i deeper = deeper i

  -- none is held that is not among them all, or of which the test does not hold
  pub chosen_not : (ns : List ℕ) (n : ℕ) → holds_number ns n ≡ false → holds_number (chosen test ns) n ≡ false
  chosen_not ns n e = false_unless_true (holds_number (chosen test ns) n) (λ h. let z : true ≡ false = sym (chosen_is ns n h).0 ∙ e in absurd (cc))

  pub chosen_out : (ns : List ℕ) (n : ℕ) → test n ≡ false → holds_number (chosen test ns) n ≡ false
  chosen_out ns n e = false_unless_true (holds_number (chosen test ns) n) (λ h. let z : true ≡ false = sym (chosen_is ns n h).1 ∙ e in absurd (cc))

  pub once_chosen : (ns : List ℕ) → Once ns → Once (chosen test ns)
  once_chosen _ NoNumber = NoNumber
  once_chosen _ (AndOther n ns e o) = go (test n) (once_chosen ns o)
    where
      go : (b : Bool) → Once (chosen test ns) → Once (number_before b n (chosen test ns))
      go true deeper = AndOther n (chosen test ns) (chosen_not ns n e) deeper
      go false deeper = deeper

-- ---- numbers below a bound

-- each of these is below
pub data AllBelow (high : ℕ) : List ℕ → Type 0 where
  NoneBelow : AllBelow high []
  OneBelow : (n : ℕ) (ns : List ℕ) → n < high → AllBelow high ns → AllBelow high (n ∷ ns)

pub below_append : (high : ℕ) (xs ys : List ℕ) → AllBelow high xs → AllBelow high ys → AllBelow high (xs ++ ys)
below_append high _ ys NoneBelow g = g
below_append high _ ys (OneBelow n ns h b) g = OneBelow n (ns ++ ys) h (below_append high ns ys b g)

pub below_chosen : (high : ℕ) (test : ℕ → Bool) (ns : List ℕ) → AllBelow high ns → AllBelow high (chosen test ns)
below_chosen high test _ NoneBelow = NoneBelow
below_chosen high test _ (OneBelow n ns h b) = go (test n) (below_chosen high test ns b)
  where
    go : (b : Bool) → AllBelow high (chosen test ns) → AllBelow high (number_before b n (chosen test ns))
    go true deeper = OneBelow n (chosen test ns) h deeper
    go false deeper = deeper

-- numbers that rise, from this one on, below a bound
pub data Rises (high : ℕ) : (low : ℕ) → List ℕ → Type 0 where
  NoneRise : (low : ℕ) → Rises high low []
  OneRise : (low n : ℕ) (ns : List ℕ) → low ≤ n → n < high → Rises high (suc n) ns → Rises high low (n ∷ ns)

pub rises_lower : (high low more : ℕ) (ns : List ℕ) → low ≤ more → Rises high more ns → Rises high low ns
rises_lower high low more _ h (NoneRise _) = NoneRise low
rises_lower high low more _ h (OneRise _ n ns l b r) = OneRise low n ns (omega arith) b r

pub rises_below : (high low : ℕ) (ns : List ℕ) → Rises high low ns → AllBelow high ns
rises_below high low _ (NoneRise _) = NoneBelow
rises_below high low _ (OneRise _ n ns l b r) = OneBelow n ns b (rises_below high (suc n) ns r)

not_lower : (high low m : ℕ) (ns : List ℕ) → m < low → Rises high low ns → holds_number ns m ≡ false
not_lower high low m _ h (NoneRise _) = refl
not_lower high low m _ h (OneRise _ n ns l b r) = or_both_fail (n == m) (holds_number ns m) (eq_fails n m (λ e. absurd (omega arith))) (not_lower high (suc n) m ns (omega arith) r)

pub rises_once : (high low : ℕ) (ns : List ℕ) → Rises high low ns → Once ns
rises_once high low _ (NoneRise _) = NoNumber
rises_once high low _ (OneRise _ n ns l b r) = AndOther n ns (not_lower high (suc n) n ns (omega arith) r) (rises_once high (suc n) ns r)
