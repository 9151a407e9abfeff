-- What holds of each of a list holds of the first and of the rest, and of the same list by another name.
use Rattle.std.proofs.Common.{◌≡◌, ◌+◌, ℕ, List, [], ◌++◌, length, subst, sym, ◌∙◌, Option, Some, None}
use Rattle.std.specs.Prelude.{All, MatchOption, option_to_list}
use Rattle.std.proofs.lemmas.List.{nil_from_length}
use Rattle.std.proofs.lemmas.List.Elements.{All-head, All-tail}

rest : {X : Type 0} (P : X → Type 0) (r : Option X) (xs : List X) → All P (option_to_list r ++ xs) → All P xs
rest P None xs h = h
rest P (Some x) xs h = All-tail P x xs h

pub behind : {X : Type 0} (P : X → Type 0) (r : Option X) (xs ys : List X) → ys ≡ option_to_list r ++ xs → All P ys → All P xs
behind P r xs ys e h = rest P r xs (subst (All P) e h)

-- where none is taken, of n left m, the list was empty
pub ahead : {X : Type 0} (P : X → Type 0) (r : Option X) (xs ys : List X) (n m : ℕ) → ys ≡ option_to_list r ++ xs → MatchOption r ((n ≡ 0) × (m ≡ 0)) (λ _. m + 1 ≡ n) → length ys ≡ n → All P ys → MatchOption r (ys ≡ []) P
ahead P None xs ys n m e c l h = nil_from_length ys (l ∙ c.0)
ahead P (Some x) xs ys n m e c l h = All-head P x xs (subst (All P) e h)

-- how many there were before one was taken
pub counted : {X : Type 0} (r : Option X) (n m : ℕ) → MatchOption r ((n ≡ 0) × (m ≡ 0)) (λ _. m + 1 ≡ n) → MatchOption r (n ≡ 0) (λ _. n ≡ m + 1)
counted None n m c = c.0
counted (Some x) n m c = sym c
