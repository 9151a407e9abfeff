-- Members of two lists, one behind the other.
use Rattle.std.proofs.Common.{◌⊎◌, inl, inr, ⊎_elim, List, [], ◌∷◌, ◌++◌}
use Rattle.cpc_convert_common.specs.Members.{Has, OnTop, Below}

pub has_left : {A : Type 0} (x : A) (xs ys : List A) → Has x xs → Has x (xs ++ ys)
has_left x _ ys (OnTop _ xs) = OnTop x (xs ++ ys)
has_left x _ ys (Below _ y xs h) = Below x y (xs ++ ys) (has_left x xs ys h)

pub has_right : {A : Type 0} (x : A) (xs ys : List A) → Has x ys → Has x (xs ++ ys)
has_right x [] ys h = h
has_right x (y ∷ xs) ys h = Below x y (xs ++ ys) (has_right x xs ys h)

pub has_either : {A : Type 0} (x : A) (xs ys : List A) → Has x (xs ++ ys) → Has x xs ⊎ Has x ys
has_either x [] ys h = inr h
has_either x (y ∷ xs) ys (OnTop _ _) = inl (OnTop y xs)
has_either x (y ∷ xs) ys (Below _ _ _ h) = ⊎_elim (λ a. inl (Below x y xs a)) (λ b. inr b) (has_either x xs ys h)
