-- What lifting computes of a split program is enough to keep.
use Rattle.std.proofs.Common.{◌≡◌, ◌↔◌, ◌⊎◌, ⊎_elim, inl, inr, ◌+◌, ◌<◌, ◌≤◌, ℕ, zero, suc, Bool, true, false, ◌∷◌, cond, Option, Some, None, refl, sym, ◌∙◌, ap, subst, arith}
use Rattle.std.proofs.lemmas.Bool.{cases_lt}
use Rattle.cpc_base.specs.Bytes.{Text}
use Rattle.cpc_tree.specs.Syntax.{Function, Program}
use Rattle.cpc_tree.specs.Lists.{holds_number}
use Rattle.cpc_tree.specs.Typing.{function_named}
use Rattle.cpc_meaning.specs.Plain.{Form}
use Rattle.cpc_lift_laws.specs.Boxes.{is_box, is_box_in}
use Rattle.cpc_lift_laws.specs.Closures.{KeepsAll, IsClosure}
use Rattle.cpc_lift_laws.specs.Nodes.{ways_of_nodes, uses_of_nodes}
use Rattle.cpc_lift_laws.specs.Lift.{variables_in, variable_count, boxes_from, boxes, Split, closure_in, kept_in, IsSplit, LiftIsClosed}
use Rattle.cpc_lift_laws.proofs.Below.{used_are_below}
use Rattle.cpc_lift_laws.proofs.Boxes.{boxes_are_below}
use Rattle.cpc_lift_laws.proofs.Closures.{closures_are_below, split_is_closed}
use Rattle.cpc_lift_laws.proofs.Computed.{computed_is_kept}
use Rattle.cpc_lift_laws.proofs.Nodes.{nodes_give_ways}
use Rattle.cpc_lift_laws.proofs.Search.{one_more, at_first, further}

-- ---- the boxes of a function

module _ (p : Program) (f : Text) where
  abbrev Boxed : (k n j : ℕ) → Type 0
  Boxed k n j = (k ≤ j) × (j < k + n) × (is_box p f j ≡ true)

  boxes_are : (k n j : ℕ) → holds_number (boxes_from p f k n) j ≡ true → is_box p f j ≡ true
  boxes_are k zero j e = absurd (cc)
  boxes_are k (suc n) j e = here (is_box p f k) refl (boxes_are (suc k) n j) e
    where
      here : (b : Bool) → is_box p f k ≡ b → (holds_number (boxes_from p f (suc k) n) j ≡ true → is_box p f j ≡ true)
          → holds_number (cond b (k ∷ boxes_from p f (suc k) n) (boxes_from p f (suc k) n)) j ≡ true → is_box p f j ≡ true
      here true i h e = one_more k j (boxes_from p f (suc k) n) (is_box p f j ≡ true) (λ q. ap (is_box p f) (sym q) ∙ i) h e
      here false i h e = h e

  are_boxes : (k n j : ℕ) → Boxed k n j → holds_number (boxes_from p f k n) j ≡ true
  are_boxes k zero j b = absurd (omega (arith, b.0, b.1))
  are_boxes k (suc n) j b = here (is_box p f k) refl (are_boxes (suc k) n j) (cases_lt k j)
    where
      here : (c : Bool) → is_box p f k ≡ c → (Boxed (suc k) n j → holds_number (boxes_from p f (suc k) n) j ≡ true) → (k < j) ⊎ (j ≤ k)
          → holds_number (cond c (k ∷ boxes_from p f (suc k) n) (boxes_from p f (suc k) n)) j ≡ true
      here true i h d =
          ⊎_elim
          (λ lt. further k j (boxes_from p f (suc k) n) (h (omega (arith, lt), omega (arith, b.1), b.2)))
          (λ le. let q : k ≡ j = omega (arith, le, b.0) in subst (λ x. holds_number (k ∷ boxes_from p f (suc k) n) x ≡ true) q (at_first k (boxes_from p f (suc k) n)))
          d
      here false i h d =
          ⊎_elim
          (λ lt. h (omega (arith, lt), omega (arith, b.1), b.2))
          (λ le. let q : k ≡ j = omega (arith, le, b.0) in absurd (let e = b.2 in let g : is_box p f j ≡ false = ap (is_box p f) (sym q) ∙ i in cc))
          d

  boxes_below : (o : Option Function) → function_named p f ≡ o → (k : ℕ) → is_box p f k ≡ true → k < variables_in o
  boxes_below None e k b = absurd (let g = ap (λ z. is_box_in z k) e in cc)
  boxes_below (Some g) e k b = boxes_are_below p f g e k b

  pub boxes_exact : (k : ℕ) → (holds_number (boxes p f) k ≡ true) ↔ (is_box p f k ≡ true)
  boxes_exact k = (
    boxes_are 0 (variable_count p f) k,
    λ b. let lt = boxes_below (function_named p f) refl k b in are_boxes 0 (variable_count p f) k (omega arith, omega (arith, lt), b),
  )

-- ---- what is computed

module _ {P : Type 0} (p : Form P) (s : Split P) (is : IsSplit p s) (f : Text) where
  abbrev Keeps : (P → ℕ → Bool) → Type 0
  Keeps kept = KeepsAll (s.there f) kept ⊎ IsClosure p.code f (is_box p.program f) (s.there f) (s.owner f) kept

  abbrev computed : P → ℕ → Bool
  computed a k = holds_number (closure_in p s f (s.owner f a)) k

  exact : s.whole f ≡ false → IsClosure p.code f (is_box p.program f) (s.there f) (s.owner f) computed
  exact w =
      computed_is_kept P p.code f (is_box p.program f) (s.there f) (s.owner f) (ways_of_nodes p.code f (s.owner f) (s.nodes f)) (uses_of_nodes p.code f (s.owner f) (boxes p.program f) (s.nodes f)) (variable_count p.program f)
      (nodes_give_ways P p.code f (is_box p.program f) (s.there f) (s.owner f) (s.nodes f) (boxes p.program f) (is.nodes f w) (boxes_exact p.program f))
      (closures_are_below P ℕ p.code f (is_box p.program f) (s.there f) (s.owner f) (variable_count p.program f)
      (λ a k t e. used_are_below (p.code.scope f a) (variable_count p.program f) (is.scopes f w a t) (p.code.stood f a) k e)
      (boxes_below p.program f (function_named p.program f) refl))

  keeps : (w : Bool) → s.whole f ≡ w → Keeps (λ a k. cond w true (computed a k))
  keeps true e = inl (λ a k t. refl)
  keeps false e = inr (exact e)

pub lift_is_closed : (P : Type 0) → LiftIsClosed P
lift_is_closed P p s is = split_is_closed P ℕ p (is_box p.program) s.there s.owner (kept_in p s) is.stands (λ f. keeps p s is f (s.whole f) refl)
