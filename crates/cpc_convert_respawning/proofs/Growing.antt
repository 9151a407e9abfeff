-- Lists that grow by one in each turn of a loop.
use Rattle.std.proofs.Common.{◌≡◌, ℕ, ◌+◌, ◌<◌, List, [], ◌∷◌, ◌++◌, map, length, get_or, take, append_assoc, refl, sym, ap, ◌∙◌}
use Rattle.std.proofs.lemmas.List.{map-append}
use Rattle.cpc_shapes.proofs.Indexes.{next_item}

-- a list of what each of a row gives gets one more
pub more : {A B : Type 0} (g : A → B) (start old new : List B) (xs : List A) (i : ℕ) (x : A) → i < length xs → x ≡ get_or xs i x → old ≡ start ++ map g (take i xs) → new ≡ old ++ g x ∷ []
    → new ≡ start ++ map g (take (i + 1) xs)
more g start old new xs i x lt is before one =
    one ∙ (ap (λ u. u ++ g x ∷ []) before ∙ (append_assoc start (map g (take i xs)) (g x ∷ []) ∙ (ap (λ u. start ++ u) (sym (map-append g (take i xs) (x ∷ []))) ∙ ap (λ u. start ++ map g u) (sym (next_item xs i x lt is)))))

-- the same, where the list began empty, and each gives what its copy gives
pub copied_more : {A B : Type 0} (g : A → B) (old new : List A) (xs : List A) (i : ℕ) (x y : A) → i < length xs → x ≡ get_or xs i x → map g old ≡ map g (take i xs) → new ≡ old ++ y ∷ [] → g y ≡ g x
    → map g new ≡ map g (take (i + 1) xs)
copied_more g old new xs i x y lt is before one same =
    ap (map g) one ∙ (map-append g old (y ∷ []) ∙ (ap (λ u. u ++ g y ∷ []) before ∙ (ap (λ u. map g (take i xs) ++ u ∷ []) same ∙ (sym (map-append g (take i xs) (x ∷ [])) ∙ ap (map g) (sym (next_item xs i x lt is))))))

pub mapped_twice : {A B C : Type 0} (f : B → C) (g : A → B) (xs : List A) → map (λ x. f (g x)) xs ≡ map f (map g xs)
mapped_twice f g [] = refl
mapped_twice f g (x ∷ xs) = ap (λ u. f (g x) ∷ u) (mapped_twice f g xs)
