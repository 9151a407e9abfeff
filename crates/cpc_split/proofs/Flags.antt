-- Flags that tell the leaders give the marks with which the search for owners begins.
use Rattle.std.proofs.Common.{◌≡◌, ℕ, suc, ◌+◌, ◌<◌, Bool, false, List, [], ◌∷◌, length, get_or, Option, refl, sym, ◌∙◌, ap, subst, arith}
use Rattle.std.proofs.lemmas.List.{length-map}
use Rattle.cpc_forms.specs.Flow.{Start, Flow, Inside, is_leader}
use Rattle.cpc_forms.specs.Split.{number_if, leaders_from}
use Rattle.cpc_forms.specs.Spread.{Spread, visit, leader_mark, leader_marks, with_leaders, IsSpread}
use Rattle.cpc_graph_laws.proofs.Spreads.{spread_begins}
use Rattle.cpc_split.specs.declared.steps.Step.{Step}
use Rattle.cpc_forms_code.specs.declared.split.Owner.{Owner}
use Rattle.cpc_split.specs.Steps.{flow_by}
use Rattle.cpc_split.specs.Seen.{places_of}
use Rattle.cpc_split.specs.Flags.{flag_marks, flag_leaders, flag_spread}
use Rattle.cpc_split.proofs.Visits.{spread}

flags_length : (n : ℕ) (bs : List Bool) → length (flag_marks n bs) ≡ length bs
flags_length n [] = refl
flags_length n (b ∷ bs) = ap (λ k. suc k) (flags_length (suc n) bs)

pub marks_long : (os : List (Option Owner)) (bs : List Bool) → places_of os ≡ flag_marks 0 bs → length os ≡ length bs
marks_long os bs e = sym (length-map os _) ∙ ap (λ xs. length xs) e ∙ flags_length 0 bs

module _ (flow : Flow) where
  -- flags that tell the leaders from the number n on
  abbrev Tells : ℕ → List Bool → Type 0
  Tells n bs = (k : ℕ) → k < length bs → get_or bs k false ≡ is_leader flow (n + k)

  first_told : (n : ℕ) (b : Bool) (bs : List Bool) → Tells n (b ∷ bs) → b ≡ is_leader flow n
  first_told n b bs t = let e : n + 0 ≡ n = omega arith in t 0 (omega arith) ∙ ap (is_leader flow) e

  rest_told : (n : ℕ) (b : Bool) (bs : List Bool) → Tells n (b ∷ bs) → Tells (suc n) bs
  rest_told n b bs t k h = let e : n + suc k ≡ suc n + k = omega arith in t (suc k) (omega arith) ∙ ap (is_leader flow) e

  told_marks : (n : ℕ) (bs : List Bool) → Tells n bs → flag_marks n bs ≡ leader_marks flow n (length bs)
  told_marks n [] t = refl
  told_marks n (b ∷ bs) t = ap (λ x. leader_mark x n ∷ flag_marks (suc n) bs) (first_told n b bs t) ∙ ap (λ xs. leader_mark (is_leader flow n) n ∷ xs) (told_marks (suc n) bs (rest_told n b bs t))

  told_leaders : (n : ℕ) (bs : List Bool) → Tells n bs → flag_leaders n bs ≡ leaders_from flow n (length bs)
  told_leaders n [] t = refl
  told_leaders n (b ∷ bs) t = ap (λ x. number_if x n (flag_leaders (suc n) bs)) (first_told n b bs t) ∙ ap (number_if (is_leader flow n) n) (told_leaders (suc n) bs (rest_told n b bs t))

  pub told_numbers : (bs : List Bool) → length bs ≡ flow.size → Tells 0 bs → flag_leaders 0 bs ≡ leaders_from flow 0 flow.size
  told_numbers bs e t = told_leaders 0 bs t ∙ ap (leaders_from flow 0) e

  told : (bs : List Bool) → length bs ≡ flow.size → Tells 0 bs → flag_spread bs ≡ with_leaders flow
  told bs e t =
      ap (λ xs. spread xs (flag_leaders 0 bs)) (told_marks 0 bs t ∙ ap (leader_marks flow 0) e)
      ∙ ap (spread (leader_marks flow 0 flow.size)) (told_leaders 0 bs t ∙ ap (leaders_from flow 0) e)

-- the marks with which the search begins
pub begins : (entry : ℕ) (steps : List Step) → Inside (flow_by entry steps) → (bs : List Bool) → length bs ≡ length steps → ((k : ℕ) → k < length steps → get_or bs k false ≡ is_leader (flow_by entry steps) k)
    → (s : Spread) → s ≡ visit entry Start (flag_spread bs) → IsSpread (flow_by entry steps) s
begins entry steps inside bs long flags s e =
    let flow = flow_by entry steps in
    let t : Tells flow 0 bs = λ k h. flags k (subst (λ j. k < j) long h) ∙ (let z : k ≡ 0 + k = omega arith in ap (is_leader flow) z) in
    subst (IsSpread flow) (sym (e ∙ ap (visit entry Start) (told flow bs long t))) (spread_begins flow inside)

-- the numbers of the leaders
pub numbers_told : (entry : ℕ) (steps : List Step) (bs : List Bool) → length bs ≡ length steps → ((k : ℕ) → k < length steps → get_or bs k false ≡ is_leader (flow_by entry steps) k) → flag_leaders 0 bs ≡ leaders_from (flow_by entry steps) 0 (length steps)
numbers_told entry steps bs long flags =
    let flow = flow_by entry steps in
    told_numbers flow bs long (λ k h. flags k (subst (λ j. k < j) long h) ∙ (let z : k ≡ 0 + k = omega arith in ap (is_leader flow) z))
