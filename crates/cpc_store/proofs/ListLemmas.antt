-- A list made of a look-up by number, when the look-up changes at one number or one number is added.
use Rattle.std.proofs.Common.{◌≡◌, ◌≢◌, ℕ, zero, suc, ◌+◌, ◌<◌, ◌≤◌, List, [], ◌∷◌, ◌++◌, length, get_or, map, replicate, Option, Some, None, inl, inr, refl, sym, ap, ◌∙◌, arith}
use Rattle.std.specs.Prelude.{slice_get, slice_set}
use Rattle.std.proofs.lemmas.List.{get_or-set_same, get_or-set_other, set-get_or, set_past}
use Rattle.std.proofs.lemmas.List.FromFn.{length-map-range_with_len, get_or-map-range_with_len, map-range_with_len_more, fill_by_all}
use Rattle.std.proofs.lemmas.Option.{slice_get-get_or, slice_get_past, get_or_from_slice_get}
use Rattle.std.proofs.lemmas.Bool.{cases_eq, cases_lt}
use Rattle.std.proofs.Math.ListN.{length-set}
use Rattle.cpc_store.specs.Blocks.{listed}
use Rattle.cpc_store.specs.Store.{ValueOf, BlocksOf, live}

pub length-listed : {X : Type 0} (made : ℕ) (at : ℕ → X) → length (listed made at) ≡ made
length-listed made at = length-map-range_with_len at 0 made

-- look-ups that agree below the count give one list
pub listed-same : {X : Type 0} (made : ℕ) (f g : ℕ → X) (d : X) → ((n : ℕ) → n < made → f n ≡ g n) → listed made f ≡ listed made g
listed-same made f g d h =
    fill_by_all g (listed made f) made d (length-listed made f) (λ k l. get_or-map-range_with_len f 0 made k k d l (omega arith) ∙ h k l)

-- one number more
pub listed-more : {X : Type 0} (made : ℕ) (f g : ℕ → X) (x : X) → ((n : ℕ) → n < made → g n ≡ f n) → g made ≡ x → listed (made + 1) g ≡ listed made f ++ x ∷ []
listed-more made f g x h e =
    map-range_with_len_more g 0 made made (omega arith) ∙ ap (λ xs. xs ++ g made ∷ []) (listed-same made g f x h) ∙ ap (λ y. listed made f ++ y ∷ []) e

-- another value at one number
pub listed-set : {X : Type 0} (made : ℕ) (f g : ℕ → X) (n : ℕ) (x : X) → ((q : ℕ) → q ≢ n → g q ≡ f q) → g n ≡ x → listed made g ≡ slice_set (listed made f) n x
listed-set made f g n x h e =
    sym (fill_by_all g (slice_set (listed made f) n x) made x (length-set (listed made f) n x ∙ length-listed made f) (λ k l. at k l))
  where
    at : (k : ℕ) → k < made → get_or (slice_set (listed made f) n x) k x ≡ g k
    at k l = elim (cases_eq k n) [
      | inl same ↦ rw same (get_or-set_same (listed made f) n x x (rw (length-listed made f, ← same) l) ∙ sym e)
      | inr apart ↦ get_or-set_other (listed made f) n k x x apart ∙ get_or-map-range_with_len f 0 made k k x l (omega arith) ∙ sym (h k apart)
    ]

-- the block at a number is what the look-up has, which has nothing from the count on
pub live-listed : {C : Type 0} (made : ℕ) (at : ℕ → Option (List (ValueOf C))) → ((n : ℕ) → made ≤ n → at n ≡ None) → (n : ℕ) → live (slice_get (listed made at) n) ≡ at n
live-listed made at h n = elim (cases_lt n made) [
  | inl below ↦ ap live (slice_get-get_or (listed made at) n None (rw (length-listed made at) below)) ∙ get_or-map-range_with_len at 0 made n n None below (omega arith)
  | inr past ↦ ap live (slice_get_past (listed made at) n (rw (length-listed made at) past)) ∙ sym (h n past)
]

pub map-replicate : {X Y : Type 0} (f : X → Y) (n : ℕ) (x : X) → map f (replicate n x) ≡ replicate n (f x)
map-replicate f zero x = refl
map-replicate f (suc n) x = ap (λ ys. f x ∷ ys) (map-replicate f n x)

-- a write of what stands there
pub slice_set-kept : {X : Type 0} (xs : List X) (n : ℕ) (x : X) → slice_get xs n ≡ Some x → slice_set xs n x ≡ xs
slice_set-kept xs n x h = ap (λ y. slice_set xs n y) (sym (get_or_from_slice_get xs n x x h)) ∙ set-get_or xs n x

-- the block at a number, if it is live
pub found : {C : Type 0} (o : Option (Option (List (ValueOf C)))) (cells : List (ValueOf C)) → live o ≡ Some cells → o ≡ Some (Some cells)
found None cells h = let g : None ≡ Some cells = h in absurd (cc)
found (Some block) cells h = ap Some h

-- a block that is not live is freed already, or was never made
pub slice_set-none : {C : Type 0} (bs : BlocksOf C) (n : ℕ) → live (slice_get bs n) ≡ None → slice_set bs n None ≡ bs
slice_set-none {C} bs n h = go (slice_get bs n) refl h
  where
    go : (o : Option (Option (List (ValueOf C)))) → slice_get bs n ≡ o → live o ≡ None → slice_set bs n None ≡ bs
    go None e f = elim (cases_lt n (length bs))
        [ inl below ↦ (let g : slice_get bs n ≡ Some (get_or bs n None) = slice_get-get_or bs n None below in absurd (cc)) | inr past ↦ set_past bs n None past ]
    go (Some None) e f = slice_set-kept bs n None e
    go (Some (Some cells)) e f = absurd (cc)
