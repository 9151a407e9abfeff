-- What was noted of a row is the first of it.
use Rattle.std.proofs.Common.{◌≡◌, ℕ, ◌<◌, ◌≤◌, Bool, true, false, ◌||◌, ◌&&◌, nat_lt, [], ◌∷◌, ◌++◌, Option, Some, None, refl, sym, arith, inl, inr, suc, subst}
use Rattle.std.specs.Prelude.{◌⊎◌, All, ◌==◌}
use Rattle.std.specs.List.{Contains}
use Rattle.std.proofs.lemmas.List.Elements.{All-cons, All-nil}
use Rattle.cpc_base.specs.declared.stop.Place.{Place}
use Rattle.cpc_check_rules.specs.declared.rule.Rule.{Rule}
use Rattle.cpc_check_rules.specs.Rule.{Broken, number, IsNoLater, IsFirst}
use Rattle.cpc_check_rules.specs.Noted.{comes_before, earlier, noted}

-- rows one after the other
pub noted_both : (o : Option (Place × Rule)) (a b : Broken) → noted o (a ++ b) ≡ noted (noted o a) b
noted_both o [] b = refl
noted_both o (x ∷ a) b = noted_both (earlier o x) a b

-- what the test says of three numbers each
by_numbers : (i j k l m n : ℕ) → (nat_lt i j || (i == j && (nat_lt k l || (k == l && nat_lt m n)))) ≡ true
    → (i < j) ⊎ ((i ≡ j) × ((k < l) ⊎ ((k ≡ l) × (m < n))))
by_numbers i j k l m n e = grind arith

not_by_numbers : (i j k l m n : ℕ) → (nat_lt i j || (i == j && (nat_lt k l || (k == l && nat_lt m n)))) ≡ false
    → (j < i) ⊎ ((j ≡ i) × ((l < k) ⊎ ((l ≡ k) × (n ≤ m))))
not_by_numbers i j k l m n e = grind arith

same_place : (p q : Place) → p.line ≡ q.line → p.column ≡ q.column → p ≡ q
same_place p q e f = grind arith

in_order : (a b : Place × Rule) → (a.0.line < b.0.line) ⊎ ((a.0.line ≡ b.0.line) × ((a.0.column < b.0.column) ⊎ ((a.0.column ≡ b.0.column) × (number a.1 ≤ number b.1)))) → IsNoLater a b
in_order a b (inl x) = inl (inl x)
in_order a b (inr (e, inl x)) = inl (inr (e, x))
in_order a b (inr (e, inr (f, x))) = inr (same_place a.0 b.0 e f, x)

pub no_later_all : (a b c : Place × Rule) → IsNoLater a b → IsNoLater b c → IsNoLater a c
no_later_all a b c x y = grind arith

before_is : (a b : Place × Rule) → comes_before a b ≡ true → IsNoLater a b
before_is a b e = in_order a b (weakly (by_numbers a.0.line b.0.line a.0.column b.0.column (number a.1) (number b.1) e)) where
  weakly : {A B C D : Type 0} {m n : ℕ} → A ⊎ (B × (C ⊎ (D × (m < n)))) → A ⊎ (B × (C ⊎ (D × (m ≤ n))))
  weakly (inl x) = inl x
  weakly (inr (e, inl x)) = inr (e, inl x)
  weakly (inr (e, inr (f, x))) = inr (e, inr (f, omega (arith, x)))

not_before_is : (a b : Place × Rule) → comes_before b a ≡ false → IsNoLater a b
not_before_is a b e = in_order a b (not_by_numbers b.0.line a.0.line b.0.column a.0.column (number b.1) (number a.1) e)

itself : (a : Place × Rule) → IsNoLater a a
itself a = inr (refl, omega arith)

-- the least of a first one and a row
record IsLeast (a : Place × Rule) (bs : Broken) (x : Place × Rule) : Type 0 where
  pub one : (x ≡ a) ⊎ Contains bs x
  pub first : IsNoLater x a
  pub others : All (λ other. IsNoLater x other) bs

here : (b : Place × Rule) (bs : Broken) → Contains (b ∷ bs) b
here b bs = (0, omega arith, refl)

behind : (b : Place × Rule) (bs : Broken) (x : Place × Rule) → Contains bs x → Contains (b ∷ bs) x
behind b bs x (k, lt, e) = (suc k, omega (arith, lt), e)

in_row : (a b : Place × Rule) (bs : Broken) (x : Place × Rule) → (x ≡ b) ⊎ Contains bs x → (x ≡ a) ⊎ Contains (b ∷ bs) x
in_row a b bs x (inl e) = inr (subst (λ y. Contains (b ∷ bs) y) (sym e) (here b bs))
in_row a b bs x (inr c) = inr (behind b bs x c)

in_rest : (a b : Place × Rule) (bs : Broken) (x : Place × Rule) → (x ≡ a) ⊎ Contains bs x → (x ≡ a) ⊎ Contains (b ∷ bs) x
in_rest a b bs x (inl e) = inl e
in_rest a b bs x (inr c) = inr (behind b bs x c)

some_is : {A : Type 0} {x y : A} → Some x ≡ Some y → x ≡ y
some_is e = cc

least : (a : Place × Rule) (bs : Broken) (x : Place × Rule) → noted (Some a) bs ≡ Some x → IsLeast a bs x
least a [] x e = record { one = inl (sym (some_is e)); first = subst (λ y. IsNoLater y a) (some_is e) (itself a); others = All-nil _ }
least a (b ∷ bs) x e = go (λ c. least c bs x) (comes_before b a) refl where
  go : ((c : Place × Rule) → noted (Some c) bs ≡ Some x → IsLeast c bs x) → (t : Bool) → comes_before b a ≡ t → IsLeast a (b ∷ bs) x
  go below true t =
      let rest = below b (rw t at e) in
      record { one = in_row a b bs x rest.one; first = no_later_all x b a rest.first (before_is b a t); others = All-cons (λ other. IsNoLater x other) b bs rest.first rest.others }
  go below false t =
      let rest = below a (rw t at e) in
      record { one = in_rest a b bs x rest.one; first = rest.first; others = All-cons (λ other. IsNoLater x other) b bs (no_later_all x a b rest.first (not_before_is a b t)) rest.others }

in_all : (b : Place × Rule) (bs : Broken) (x : Place × Rule) → (x ≡ b) ⊎ Contains bs x → Contains (b ∷ bs) x
in_all b bs x (inl e) = subst (λ y. Contains (b ∷ bs) y) (sym e) (here b bs)
in_all b bs x (inr c) = behind b bs x c

pub is_first : (broken : Broken) (place : Place) (rule : Rule) → noted None broken ≡ Some (place, rule) → IsFirst broken place rule
is_first [] place rule e = absurd cc
is_first (b ∷ bs) place rule e =
    let l = least b bs (place, rule) e in
    (in_all b bs (place, rule) l.one, All-cons (λ other. IsNoLater (place, rule) other) b bs l.first l.others)

some_stays : (a : Place × Rule) (bs : Broken) → noted (Some a) bs ≡ None → ⊥
some_stays a [] e = cc
some_stays a (b ∷ bs) e = go (λ c. some_stays c bs) (comes_before b a) refl where
  go : ((c : Place × Rule) → noted (Some c) bs ≡ None → ⊥) → (t : Bool) → comes_before b a ≡ t → ⊥
  go below true t = below b (rw t at e)
  go below false t = below a (rw t at e)

pub is_none : (broken : Broken) → noted None broken ≡ None → broken ≡ []
is_none [] e = refl
is_none (b ∷ bs) e = absurd (some_stays b bs e)
