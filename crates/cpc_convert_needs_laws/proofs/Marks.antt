-- The boxes of a function of a program are its variables that are no registers, and its closures are those that the forms have.
use Rattle.std.proofs.Common.{◌≡◌, ◌<◌, ◌+◌, ◌==◌, ◌||◌, ℕ, zero, suc, Bool, true, false, not, cond, List, [], ◌∷◌, ◌++◌, map, length, slice_get, Option, Some, None, arith, refl, ap, subst, ◌∙◌}
use Rattle.std.specs.List.{All}
use Rattle.std.proofs.lemmas.Bool.Decides.{nat_tests}
use Rattle.std.proofs.lemmas.List.Elements.{All-nil, All-cons}
use Rattle.cpc_base.specs.Bytes.{Text}
use Rattle.cpc_base.proofs.Truth.{eq_holds}
use Rattle.cpc_tree.specs.Erase.{Names}
use Rattle.cpc_tree.specs.Lists.{holds_number}
use Rattle.cpc_tree.specs.Registers.{variables, is_register}
use Rattle.cpc_tree.specs.Syntax.{Variable, Function, Program}
use Rattle.cpc_tree.specs.Typing.{function_named}
use Rattle.cpc_meaning.specs.Plain.{Code}
use Rattle.cpc_forms.specs.Flow.{Place, Start, At, Flow, is_leader}
use Rattle.cpc_forms.specs.Split.{Position, InTree, InGraph, number_if, leaders_from}
use Rattle.cpc_lift_laws.specs.Boxes.{is_box}
use Rattle.cpc_lift_laws.specs.Lift.{variables_in, boxes_from, boxes}
use Rattle.cpc_lift_laws.specs.Nodes.{ways_of_nodes, uses_of_nodes, way_to, ways_from, uses_from}
use Rattle.cpc_lift_laws.proofs.Boxes.{programs_have_marks}
use Rattle.cpc_forms_code.specs.Lifts as L
use Rattle.cpc_forms_code.specs.Points.{marked_from, variable_seen}
use Rattle.cpc_forms_code.specs.declared.boxed.Variable as V
use Rattle.cpc_convert_routines.specs.Routines as R
use Rattle.cpc_convert_needs.specs.Known as K

-- ---- boxes

unless_not : (b : Bool) (k : ℕ) (ks : List ℕ) → cond (not b) (k ∷ ks) ks ≡ L.unless b k ks
unless_not true k ks = refl
unless_not false k ks = refl

module _ (p : Program) (f : Function) (named : function_named p f.called ≡ Some f) where
  boxes_along : (k : ℕ) (xs : List Variable) → ((j : ℕ) (x : Variable) → slice_get xs j ≡ Some x → is_box p f.called (k + j) ≡ not (is_register f (k + j) x)) → boxes_from p f.called k (length xs) ≡ L.boxes_among k (marked_from f k xs)
  boxes_along k [] h = refl
  boxes_along k (x ∷ xs) h =
      let at_k : k + 0 ≡ k = omega arith in
      let here : is_box p f.called k ≡ not (is_register f k x) = subst (λ j. is_box p f.called j ≡ not (is_register f j x)) at_k (h 0 x refl) in
      let rest = boxes_along (suc k) xs (λ j y e. let next : k + suc j ≡ suc k + j = omega arith in subst (λ i. is_box p f.called i ≡ not (is_register f i y)) next (h (suc j) y e)) in
      ap (λ b. cond b (k ∷ boxes_from p f.called (suc k) (length xs)) (boxes_from p f.called (suc k) (length xs))) here
      ∙ (ap (λ (ks : List ℕ). cond (not (is_register f k x)) (k ∷ ks) ks) rest ∙ unless_not (is_register f k x) k (L.boxes_among (suc k) (marked_from f (suc k) xs)))

  pub boxes_are : boxes p f.called ≡ L.boxes_of f
  boxes_are =
      ap (λ o. boxes_from p f.called 0 (variables_in o)) named
      ∙ boxes_along 0 (variables f) (λ j x e. let at_j : j ≡ 0 + j = omega arith in subst (λ i. is_box p f.called i ≡ not (is_register f i x)) at_j ((programs_have_marks p).marked f named j x e))

pub boxes_seen : (names : Names) (k : ℕ) (vs : List V.Variable) → K.boxes_among k vs ≡ L.boxes_among k (map (variable_seen names) vs)
boxes_seen names k [] = refl
boxes_seen names k (v ∷ vs) = ap (L.unless v.is_register k) (boxes_seen names (suc k) vs)

-- ---- marks

other_number : (k j : ℕ) → j < k → (k == j) ≡ false
other_number k j h = grind (arith, nat_tests, h)

smaller_number : (k j : ℕ) → k < j → (k == j) ≡ false
smaller_number k j h = grind (arith, nat_tests, h)

none_below : (k j : ℕ) (vs : List V.Variable) → j < k → holds_number (K.boxes_among k vs) j ≡ false
none_below k j [] h = refl
none_below k j (v ∷ vs) h = go v.is_register (none_below (suc k) j vs (omega (arith, h)))
  where
    go : (b : Bool) → holds_number (K.boxes_among (suc k) vs) j ≡ false → holds_number (L.unless b k (K.boxes_among (suc k) vs)) j ≡ false
    go true i = i
    go false i = ap (λ b. b || holds_number (K.boxes_among (suc k) vs) j) (other_number k j h) ∙ i

pub marked_so : (k i : ℕ) (vs : List V.Variable) (v : V.Variable) → slice_get vs i ≡ Some v → (j : ℕ) → k + i ≡ j → holds_number (K.boxes_among k vs) j ≡ not v.is_register
marked_so k i [] v e j at = absurd (cc)
marked_so k zero (w ∷ vs) v e j at = let h : w ≡ v = cc in go w.is_register (ap (λ (u : V.Variable). u.is_register) h) (none_below (suc k) j vs (omega (arith, at)))
  where
    go : (b : Bool) → b ≡ v.is_register → holds_number (K.boxes_among (suc k) vs) j ≡ false → holds_number (L.unless b k (K.boxes_among (suc k) vs)) j ≡ not v.is_register
    go true s i = i ∙ ap not s
    go false s i = ap (λ b. b || holds_number (K.boxes_among (suc k) vs) j) (eq_holds k j (omega (arith, at))) ∙ ap not s
marked_so k (suc i) (w ∷ vs) v e j at = go w.is_register (marked_so (suc k) i vs v e j (omega (arith, at)))
  where
    go : (b : Bool) → holds_number (K.boxes_among (suc k) vs) j ≡ not v.is_register → holds_number (L.unless b k (K.boxes_among (suc k) vs)) j ≡ not v.is_register
    go true r = r
    go false r = ap (λ b. b || holds_number (K.boxes_among (suc k) vs) j) (smaller_number k j (omega (arith, at))) ∙ r

-- ---- closures

numbers_same : (l : Place) → L.owner_number l ≡ R.owner_number l
numbers_same Start = refl
numbers_same (At n) = refl

owners_same : (a : Position) → L.position_owner a ≡ R.position_owner a
owners_same (InTree point) = refl
owners_same (InGraph l n) = numbers_same l

pub positions_same : (n : ℕ) (os : List (Option Place)) → L.positions_from n os ≡ R.positions_from n os
positions_same n [] = refl
positions_same n (None ∷ os) = positions_same (suc n) os
positions_same n (Some l ∷ os) = ap (λ qs. InGraph l n ∷ qs) (positions_same (suc n) os)

module _ (code : Code Position) (f : Text) where
  way_same : (l : ℕ) (o : Option Position) → way_to code f L.position_owner l o ≡ way_to code f R.position_owner l o
  way_same l None = refl
  way_same l (Some b) = ap (λ n. record { from = l; to = n } ∷ []) (owners_same b)

  ways_from_same : (a : Position) → ways_from code f L.position_owner a ≡ ways_from code f R.position_owner a
  ways_from_same a =
      rw (owners_same a, way_same (R.position_owner a) (code.goes f a true), way_same (R.position_owner a) (code.goes f a false), way_same (R.position_owner a) (code.arrival f a)) refl

  pub ways_same : (qs : List Position) → ways_of_nodes code f L.position_owner qs ≡ ways_of_nodes code f R.position_owner qs
  ways_same [] = refl
  ways_same (a ∷ qs) = ap (λ ws. ws ++ ways_of_nodes code f L.position_owner qs) (ways_from_same a) ∙ ap (λ ws. ways_from code f R.position_owner a ++ ws) (ways_same qs)

  uses_from_same : (bs : List ℕ) (a : Position) → uses_from code f L.position_owner bs a ≡ uses_from code f R.position_owner bs a
  uses_from_same bs a = rw (owners_same a) refl

  pub uses_same : (bs : List ℕ) (qs : List Position) → uses_of_nodes code f L.position_owner bs qs ≡ uses_of_nodes code f R.position_owner bs qs
  uses_same bs [] = refl
  uses_same bs (a ∷ qs) = ap (λ us. us ++ uses_of_nodes code f L.position_owner bs qs) (uses_from_same bs a) ∙ ap (λ us. uses_from code f R.position_owner bs a ++ us) (uses_same bs qs)

-- ---- leaders

abbrev pub IsBelow : ℕ → ℕ → Type 0
IsBelow b n = n < b

if_below : (b : ℕ) (c : Bool) (n : ℕ) (ns : List ℕ) → n < b → All (IsBelow b) ns → All (IsBelow b) (number_if c n ns)
if_below b true n ns h all = All-cons (IsBelow b) n ns h all
if_below b false n ns h all = all

pub leaders_below : (flow : Flow) (b n k : ℕ) → n + k ≡ b → All (IsBelow b) (leaders_from flow n k)
leaders_below flow b n zero e = All-nil (IsBelow b)
leaders_below flow b n (suc k) e = if_below b (is_leader flow n) n (leaders_from flow (suc n) k) (omega (arith, e)) (leaders_below flow b (suc n) k (omega (arith, e)))
