-- What a turn finds and keeps: the last node that waits has an owner, which it hands on.
use Rattle.std.proofs.Common.{◌≡◌, ℕ, zero, suc, ◌+◌, ◌<◌, ◌||◌, true, false, List, [], ◌∷◌, ◌++◌, length, slice_get, is_some, Option, Some, None, option_map, refl, sym, ◌∙◌, ap, subst, arith}
use Rattle.std.proofs.lemmas.List.{length-map}
use Rattle.std.proofs.lemmas.Option.{slice_get_within}
use Rattle.cpc_base.proofs.Truth.{eq_reflexive}
use Rattle.cpc_tree.specs.Lists.{holds_number}
use Rattle.cpc_forms.specs.Flow.{Place, Flow, owner_of, Inside}
use Rattle.cpc_forms.specs.Split.{owners_from}
use Rattle.cpc_forms.specs.Spread.{Spread, known, mark_at, visit_all, IsSpread, left_to_do}
use Rattle.cpc_graph_laws.proofs.Formed.{in_right}
use Rattle.cpc_graph_laws.proofs.Spreads.{spread_ends, spread_goes_on}
use Rattle.cpc_split.specs.declared.steps.Step.{Step}
use Rattle.cpc_forms_code.specs.declared.split.Owner.{Owner}
use Rattle.cpc_split.specs.Steps.{step_leads, leads_of, flow_by}
use Rattle.cpc_split.specs.Seen.{place_of, places_of}
use Rattle.cpc_split.proofs.Visits.{spread}

-- a node with its owner
pub record Owned (os : List (Option Owner)) (n : ℕ) : Type 0 where
  pub owner : Owner
  pub at : slice_get os n ≡ Some (Some owner)

owned_case : (os : List (Option Owner)) (n : ℕ) → is_some (known (slice_get (places_of os) n)) ≡ true → Owned os n
owned_case [] n e = absurd (cc)
owned_case (None ∷ os) zero e = absurd (cc)
owned_case (Some o ∷ os) zero e = record { owner = o; at = refl }
owned_case (o ∷ os) (suc n) e = let x = owned_case os n e in record { owner = x.owner; at = x.at }

module _ (entry : ℕ) (steps : List Step) (inside : Inside (flow_by entry steps)) (os : List (Option Owner)) (ws rest : List ℕ) (n : ℕ) (is : IsSpread (flow_by entry steps) (spread (places_of os) ws)) (last : ws ≡ rest ++ (n ∷ [])) where
  -- the last node has an owner
  pub last_owned : Owned os n
  last_owned = owned_case os n (is.waits n (subst (λ l. holds_number l n ≡ true) (sym last) (in_right n rest (n ∷ []) (ap (λ b. b || false) (eq_reflexive n)))))

  pub last_within : n < length os
  last_within = slice_get_within os n _ last_owned.at

  -- there are as many nodes as steps
  pub as_long : length os ≡ length steps
  as_long = sym (length-map os (option_map place_of)) ∙ is.long

  -- it hands its owner on
  module _ (o : Owner) (at : slice_get os n ≡ Some (Some o)) (step : Step) (there : slice_get steps n ≡ Some step) (t : Spread) (after : t ≡ visit_all (step_leads step) (place_of o) (spread (places_of os) rest)) where
    mark : mark_at (spread (places_of os) ws) n ≡ Some (place_of o)
    mark = go os n at
      where
        go : (os : List (Option Owner)) (n : ℕ) → slice_get os n ≡ Some (Some o) → known (slice_get (places_of os) n) ≡ Some (place_of o)
        go [] n e = absurd (cc)
        go (x ∷ os) zero e = let i : x ≡ Some o = cc in ap (option_map place_of) i
        go (x ∷ os) (suc n) e = go os n e

    abbrev pub turned : Type 0
    turned = IsSpread (flow_by entry steps) t × (left_to_do t < left_to_do (spread (places_of os) ws))

    pub handed_on : turned
    handed_on =
        subst (λ u. IsSpread (flow_by entry steps) u × (left_to_do u < left_to_do (spread (places_of os) ws))) (sym after)
        (subst (λ x. IsSpread (flow_by entry steps) (visit_all (leads_of x) (place_of o) (spread (places_of os) rest)) × (left_to_do (visit_all (leads_of x) (place_of o) (spread (places_of os) rest)) < left_to_do (spread (places_of os) ws))) there
        (spread_goes_on (flow_by entry steps) inside (spread (places_of os) ws) rest n (place_of o) is last mark))

-- ---- the end

entry_known : (xs : List (Option Place)) (n : ℕ) (o : Option Place) → n < length xs → known (slice_get xs n) ≡ o → slice_get xs n ≡ Some o
entry_known [] n o h e = absurd (omega arith)
entry_known (x ∷ xs) zero o h e = ap (λ y. Some y) e
entry_known (x ∷ xs) (suc n) o h e = entry_known xs n o (omega arith) e

all_owners : (flow : Flow) (k : ℕ) (xs : List (Option Place)) → ((n : ℕ) → n < length xs → slice_get xs n ≡ Some (owner_of flow (k + n))) → xs ≡ owners_from flow k (length xs)
all_owners flow k [] h = refl
all_owners flow k (x ∷ xs) h =
    let first : x ≡ owner_of flow (k + 0) = let i : Some x ≡ Some (owner_of flow (k + 0)) = h 0 (omega arith) in cc in
    ap (λ y. y ∷ xs) (first ∙ (let z : k + 0 ≡ k = omega arith in ap (owner_of flow) z))
    ∙ ap (λ ys. owner_of flow k ∷ ys) (all_owners flow (suc k) xs (λ n l. h (suc n) (omega arith) ∙ (let z : k + suc n ≡ suc k + n = omega arith in ap (λ j. Some (owner_of flow j)) z)))

-- where none waits, all owners are known
pub ended : (entry : ℕ) (steps : List Step) → Inside (flow_by entry steps) → (os : List (Option Owner)) (ws : List ℕ) → IsSpread (flow_by entry steps) (spread (places_of os) ws) → ws ≡ [] → places_of os ≡ owners_from (flow_by entry steps) 0 (length steps)
ended entry steps inside os ws is none =
    let flow = flow_by entry steps in
    all_owners flow 0 (places_of os) (λ n h. entry_known (places_of os) n _ h (spread_ends flow (spread (places_of os) ws) inside is none n ∙ (let z : n ≡ 0 + n = omega arith in ap (owner_of flow) z)))
    ∙ ap (owners_from flow 0) is.long
