-- Names that are made are not kept, where the name that they are made from is not.
use Rattle.std.proofs.Common.{◌≡◌, Bool, true, false, ◌&&◌, not, [], ◌∷◌, ◌++◌, bytes_eq, codes, refl}
use Rattle.cpc_base.specs.Bytes.{Text}
use Rattle.cpc_base.proofs.Truth.{or_neither, or_both_fail}
use Rattle.cpc_check_rules.specs.FunctionRules.{begins_with, is_kept}
use Rattle.cpc_convert_common.specs.Converted.{marked}
use Rattle.cpc_convert_common.proofs.Marks.{marked_differs}

-- a word without underscores
abbrev barless : Text → Bool
barless [] = true
barless (c ∷ w) = not (bytes_eq (c ∷ []) (95 ∷ [])) && barless w

-- a name that begins with a word and one underscore, and not with the word and two
abbrev one_bar : Text → Text → Bool
one_bar w x = begins_with (w ++ 95 ∷ []) x && not (begins_with (w ++ 95 ∷ 95 ∷ []) x)

-- the name ends in one underscore, or its next character tells
one_bar_first : (a : Bool) (f rest : Text) → ((a && true) && not (a && begins_with (95 ∷ []) f)) ≡ false → ((a && true) && not (a && begins_with (95 ∷ []) (f ++ 95 ∷ 95 ∷ rest))) ≡ false
one_bar_first false f rest h = refl
one_bar_first true [] rest h = refl
one_bar_first true (c ∷ f) rest h = h

rest_barless : (a b : Bool) → (not a && b) ≡ true → (a ≡ false) × (b ≡ true)
rest_barless true b h = absurd cc
rest_barless false b h = (refl, h)

-- where a name does not so begin, none that is made from it does
one_bar_made : (w f rest : Text) → barless w ≡ true → one_bar w f ≡ false → one_bar w (f ++ 95 ∷ 95 ∷ rest) ≡ false
one_bar_made [] [] rest g h = refl
one_bar_made [] (c ∷ f) rest g h = one_bar_first (bytes_eq (95 ∷ []) (c ∷ [])) f rest h
one_bar_made (a ∷ w) [] rest g h = go (bytes_eq (a ∷ []) (95 ∷ [])) (rest_barless (bytes_eq (a ∷ []) (95 ∷ [])) (barless w) g).0
  where
    go : (b : Bool) → b ≡ false → ((b && begins_with (w ++ 95 ∷ []) (95 ∷ rest)) && not (b && begins_with (w ++ 95 ∷ 95 ∷ []) (95 ∷ rest))) ≡ false
    go true e = absurd cc
    go false e = refl
one_bar_made (a ∷ w) (c ∷ f) rest g h =
    go (bytes_eq (a ∷ []) (c ∷ [])) h (one_bar_made w f rest (rest_barless (bytes_eq (a ∷ []) (95 ∷ [])) (barless w) g).1)
  where
    go : (b : Bool) → ((b && begins_with (w ++ 95 ∷ []) f) && not (b && begins_with (w ++ 95 ∷ 95 ∷ []) f)) ≡ false
        → (one_bar w f ≡ false → one_bar w (f ++ 95 ∷ 95 ∷ rest) ≡ false)
        → ((b && begins_with (w ++ 95 ∷ []) (f ++ 95 ∷ 95 ∷ rest)) && not (b && begins_with (w ++ 95 ∷ 95 ∷ []) (f ++ 95 ∷ 95 ∷ rest))) ≡ false
    go true e later = later e
    go false e later = refl

-- a name that is made from one that is not kept is not kept
pub made_unkept : (f rest : Text) → is_kept f ≡ false → is_kept (marked f rest) ≡ false
made_unkept f rest h =
    let a = or_neither (one_bar (codes "cpc") f) _ h in
    let b = or_neither (one_bar (codes "rt") f) _ a.1 in
    or_both_fail (one_bar (codes "cpc") (marked f rest)) _ (one_bar_made (codes "cpc") f rest refl a.0)
    (or_both_fail (one_bar (codes "rt") (marked f rest)) _ (one_bar_made (codes "rt") f rest refl b.0)
    (or_both_fail (bytes_eq (marked f rest) (codes "malloc")) _ (marked_differs f rest (codes "malloc") refl) (marked_differs f rest (codes "free") refl)))
