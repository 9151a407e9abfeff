-- Rows of the nodes of owners.
use Rattle.std.proofs.Common.{◌≡◌, ℕ, suc, ◌+◌, ◌<◌, ◌==◌, Bool, true, false, List, [], ◌∷◌, ◌++◌, map, length, get_or, set, drop, Option, option_map, refl, sym, ◌∙◌, ap, arith}
use Rattle.std.proofs.lemmas.List.{get_or-map, get_or-set_same, get_or-set_other, length-set, append_assoc}
use Rattle.std.proofs.Math.Seq.{drop-cons}
use Rattle.cpc_base.proofs.Truth.{eq_means, eq_not_means, eq_reflexive}
use Rattle.cpc_base.proofs.Lists.{append_empty}
use Rattle.cpc_forms.specs.Flow.{Place, Start, At}
use Rattle.cpc_forms.specs.Pieces.{same_place, is_owned_by, owned_from}
use Rattle.cpc_forms.specs.Split.{number_if}
use Rattle.cpc_forms_code.specs.declared.split.Owner.{Owner}
use Rattle.cpc_forms_code.specs.Splits.{place_of, places_of}
use Rattle.cpc_convert_routines.specs.Routines.{owner_number}
use Rattle.cpc_chains_event.specs.Rows.{number_where}
use Rattle.cpc_convert_rows.proofs.Marking.{unequal}

module _ {X : Type 0} (items : X → List ℕ) where
  -- a node goes into its row, and the others stay
  pub node_added : (rows : List X) (to node : ℕ) (old new : X) (m : ℕ) → to < length rows → m < length rows → old ≡ get_or rows to old → items new ≡ items old ++ node ∷ []
      → get_or (map items (set rows to new)) m [] ≡ get_or (map items rows) m [] ++ number_where (to == m) node
  node_added rows to node old new m lt lm e f = go (to == m) refl
    where
      at_new : get_or (map items (set rows to new)) m [] ≡ items (get_or (set rows to new) m new)
      at_new = get_or-map items (set rows to new) m new [] (omega (arith, lm, length-set rows to new))

      go : (b : Bool) → (to == m) ≡ b → get_or (map items (set rows to new)) m [] ≡ get_or (map items rows) m [] ++ number_where b node
      go true i =
          let q = sym (eq_means to m i) in
          let here : get_or (map items (set rows to new)) m [] ≡ items old ++ node ∷ [] =
          at_new ∙ ap (λ n. items (get_or (set rows to new) n new)) q ∙ ap items (get_or-set_same rows to new new lt) ∙ f in
          let before : get_or (map items rows) m [] ≡ items old = get_or-map items rows m old [] lm ∙ ap (λ n. items (get_or rows n old)) q ∙ ap items (sym e) in
          here ∙ ap (λ r. r ++ node ∷ []) (sym before)
      go false i =
          let ne = eq_not_means to m i in
          let other : ¬ (m ≡ to) = λ j. ne (sym j) in
          at_new ∙ ap items (get_or-set_other rows to m new new other) ∙ sym (get_or-map items rows m new [] lm) ∙ sym (append_empty (get_or (map items rows) m []))

-- owners have numbers of their own
pub same_numbers : (k l : Place) → (owner_number k == owner_number l) ≡ same_place k l
same_numbers Start Start = refl
same_numbers Start (At n) = unequal 0 (suc n) (λ e. absurd (omega (arith, e)))
same_numbers (At m) Start = unequal (suc m) 0 (λ e. absurd (omega (arith, e)))
same_numbers (At m) (At n) = go (m == n) refl
  where
    go : (b : Bool) → (m == n) ≡ b → (suc m == suc n) ≡ (m == n)
    go true e = ap (λ k. suc k == suc n) (eq_means m n e) ∙ (eq_reflexive (suc n) ∙ sym e)
    go false e = unequal (suc m) (suc n) (λ i. eq_not_means m n e (omega (arith, i))) ∙ sym e

-- the nodes that are left, behind one more
pub owned_left : (l : Place) (os : List (Option Owner)) (i : ℕ) (d : Option Owner) (row new : List ℕ) → i < length os
    → new ≡ row ++ number_where (is_owned_by l (option_map place_of (get_or os i d))) i
    → new ++ owned_from l (i + 1) (places_of (drop (i + 1) os)) ≡ row ++ owned_from l i (places_of (drop i os))
owned_left l os i d row new lt e =
    let step : suc i ≡ i + 1 = omega arith in
    ap (λ r. r ++ owned_from l (i + 1) (places_of (drop (i + 1) os))) e
    ∙ (append_assoc row (number_where (is_owned_by l (option_map place_of (get_or os i d))) i) (owned_from l (i + 1) (places_of (drop (i + 1) os)))
    ∙ ap (λ r. row ++ r)
    (ap (λ n. number_where (is_owned_by l (option_map place_of (get_or os i d))) i ++ owned_from l n (places_of (drop n os))) (sym step)
    ∙ (go (is_owned_by l (option_map place_of (get_or os i d))) (owned_from l (suc i) (places_of (drop (suc i) os))) ∙ ap (λ x. owned_from l i (places_of x)) (sym (drop-cons os i d lt)))))
  where
    go : (b : Bool) (rest : List ℕ) → number_where b i ++ rest ≡ number_if b i rest
    go true rest = refl
    go false rest = refl
