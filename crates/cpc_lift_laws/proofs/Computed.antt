-- What is computed by searches from the ways and the uses of code is its closures.
use Rattle.std.proofs.Common.{◌≡◌, ◌↔◌, ◌⊎◌, ⊎_elim, ℕ, zero, suc, ◌+◌, ◌<◌, ◌≤◌, Bool, true, false, List, ◌∷◌, cond, refl, sym, ◌∙◌, ap, subst, arith}
use Rattle.std.proofs.lemmas.Bool.{cases_lt}
use Rattle.cpc_base.specs.Bytes.{Text}
use Rattle.cpc_tree.specs.Lists.{holds_number}
use Rattle.cpc_meaning.specs.Plain.{Code}
use Rattle.cpc_lift_laws.specs.Closures.{InClosure, LeadsTo, Reaches, Here, Further}
use Rattle.cpc_lift_laws.specs.Search.{Link, before, keepers, closure_from, closure, WaysOf, SearchIsClosure, ComputedIsKept}
use Rattle.cpc_lift_laws.proofs.Closures.{found, reached_in_closure}
use Rattle.cpc_lift_laws.proofs.Search.{one_more, at_first, further, search_finds}

-- more of a relation
pub reaches_more : {O : Type 0} (R S : O → O → Type 0) → ((l m : O) → R l m → S l m) → (l m : O) → Reaches R l m → Reaches S l m
reaches_more R S h _ _ (Here l) = Here l
reaches_more R S h _ _ (Further l m n w r) = Further l m n (h l m w) (reaches_more R S h m n r)

module _ (ways : List Link) (uses : List Link) (l : ℕ) where
  -- the owner has the variable in its closure
  abbrev keeps : ℕ → Bool
  keeps k = holds_number (keepers ways uses k) l

  abbrev Picked : (k n j : ℕ) → Type 0
  Picked k n j = (k ≤ j) × (j < k + n) × (keeps j ≡ true)

  later : (k n j : ℕ) → Picked (suc k) n j → Picked k (suc n) j
  later k n j p = (omega (arith, p.0), omega (arith, p.1), p.2)

  pub picked : (k n j : ℕ) → holds_number (closure_from ways uses l k n) j ≡ true → Picked k n j
  picked k zero j e = absurd (cc)
  picked k (suc n) j e = here (keeps k) refl (picked (suc k) n j) e
    where
      here : (b : Bool) → keeps k ≡ b → (holds_number (closure_from ways uses l (suc k) n) j ≡ true → Picked (suc k) n j)
          → holds_number (cond b (k ∷ closure_from ways uses l (suc k) n) (closure_from ways uses l (suc k) n)) j ≡ true → Picked k (suc n) j
      here true i h e = one_more k j (closure_from ways uses l (suc k) n) (Picked k (suc n) j) (λ q. (omega (arith, q), omega (arith, q), ap keeps (sym q) ∙ i)) (λ g. later k n j (h g)) e
      here false i h e = later k n j (h e)

  pub picks : (k n j : ℕ) → Picked k n j → holds_number (closure_from ways uses l k n) j ≡ true
  picks k zero j p = absurd (omega (arith, p.0, p.1))
  picks k (suc n) j p = here (keeps k) refl (picks (suc k) n j) (cases_lt k j)
    where
      here : (b : Bool) → keeps k ≡ b → (Picked (suc k) n j → holds_number (closure_from ways uses l (suc k) n) j ≡ true) → (k < j) ⊎ (j ≤ k)
          → holds_number (cond b (k ∷ closure_from ways uses l (suc k) n) (closure_from ways uses l (suc k) n)) j ≡ true
      here true i h d =
          ⊎_elim
          (λ lt. further k j (closure_from ways uses l (suc k) n) (h (omega (arith, lt), omega (arith, p.1), p.2)))
          (λ le. let q : k ≡ j = omega (arith, le, p.0) in subst (λ x. holds_number (k ∷ closure_from ways uses l (suc k) n) x ≡ true) q (at_first k (closure_from ways uses l (suc k) n)))
          d
      here false i h d =
          ⊎_elim
          (λ lt. h (omega (arith, lt), omega (arith, p.1), p.2))
          (λ le. let q : k ≡ j = omega (arith, le, p.0) in absurd (let e = p.2 in let g : keeps j ≡ false = ap keeps (sym q) ∙ i in cc))
          d

module _ {P : Type 0} (code : Code P) (f : Text) (box : ℕ → Bool) (there : P → Bool) (owner : P → ℕ) (ways : List Link) (uses : List Link) (of : WaysOf code f box there owner ways uses) where
  keeps_closure : (l k : ℕ) → keeps ways uses l k ≡ true → InClosure code f box there owner l k
  keeps_closure l k e =
      let r = (search_finds ways uses l k).0 e in
      reached_in_closure code f box there owner l r.0 k (reaches_more (λ i j. holds_number (before ways j) i ≡ true) (LeadsTo code f box there owner) (λ i j w. (of.leads i j).0 w) l r.0 r.1) ((of.used r.0 k).0 r.2)

  closure_keeps : (l k : ℕ) → InClosure code f box there owner l k → keeps ways uses l k ≡ true
  closure_keeps l k c =
      let r = found code f box there owner l k c in
      (search_finds ways uses l k).1
      (r.0, reaches_more (LeadsTo code f box there owner) (λ i j. holds_number (before ways j) i ≡ true) (λ i j w. (of.leads i j).1 w) l r.0 r.1, (of.used r.0 k).1 r.2)

  pub computed : (n l k : ℕ) → (holds_number (closure ways uses n l) k ≡ true) ↔ ((k < n) × InClosure code f box there owner l k)
  computed n l k = (
    λ e. let p = picked ways uses l 0 n k e in (omega (arith, p.1), keeps_closure l k p.2),
    λ c. picks ways uses l 0 n k (omega arith, omega (arith, c.0), closure_keeps l k c.1),
  )

pub search_is_closure : (P : Type 0) → SearchIsClosure P
search_is_closure P code f box there owner ways uses of n l k = computed code f box there owner ways uses of n l k

pub computed_is_kept : (P : Type 0) → ComputedIsKept P
computed_is_kept P code f box there owner ways uses n of below = record {
  least = λ a k t e. ((computed code f box there owner ways uses of n (owner a) k).0 e).1;
  whole = λ a k t c. (computed code f box there owner ways uses of n (owner a) k).1 (below (owner a) k c, c);
}
