-- The place of what is left of tokens.
use Rattle.std.proofs.Common.{◌≡◌, ℕ, suc, ◌+◌, ◌-◌, ◌≤◌, ◌<◌, List, [], ◌∷◌, ◌++◌, length, get_or, refl, ap, ◌∙◌, arith}
use Rattle.std.proofs.lemmas.List.{length-append, length-map}
use Rattle.cpc_base.specs.declared.stop.Place.{Place}
use Rattle.cpc_tree.specs.Erase.{Names}
use Rattle.cpc_tree.specs.declared.token.Token.{Token}
use Rattle.cpc_tree.specs.Tokens.{Placed, placed_of}
use Rattle.cpc_tree.specs.Grammar.{first_place}
use Rattle.cpc_parser_types.specs.Views.{placed}
use Rattle.cpc_parser_types.proofs.ParamWords.{tail_is}

none_left : (t : Placed) (f : List Placed) → [] ≡ t ∷ f → ⊥
none_left t f e = cc

long : (names : Names) (ts : List Token) (front rest : List Placed) → placed names ts ≡ front ++ rest → length rest ≤ length ts
long names ts front rest e =
    let a : length (placed names ts) ≡ length ts = length-map ts (placed_of names) in
    let b : length (front ++ rest) ≡ length front + length rest = length-append front rest in
    let c : length (placed names ts) ≡ length (front ++ rest) = ap length e in
    omega (arith, a, b, c)

-- the place of the first token that is left
left_place : (names : Names) (ts : List Token) (front rest : List Placed) (d : Token) (end : Place) → placed names ts ≡ front ++ rest → 0 < length rest
    → (get_or ts (length ts - length rest) d).place ≡ first_place end rest
left_place names ts front [] d end e l = absurd (omega arith)
left_place names [] [] (u ∷ rest) d end e l = absurd (none_left u rest e)
left_place names (t ∷ ts) [] (u ∷ rest) d end e l =
    let a : length (placed names (t ∷ ts)) ≡ length (t ∷ ts) = length-map (t ∷ ts) (placed_of names) in
    let c : length (placed names (t ∷ ts)) ≡ length (u ∷ rest) = ap length e in
    let i : length (t ∷ ts) - length (u ∷ rest) ≡ 0 = omega (arith, a, c) in
    rw i (ap (first_place end) e)
left_place names [] (f ∷ front) (u ∷ rest) d end e l = absurd (none_left f (front ++ u ∷ rest) e)
left_place names (t ∷ ts) (f ∷ front) (u ∷ rest) d end e l =
    let k : placed names ts ≡ front ++ u ∷ rest = tail_is (placed_of names t) f (placed names ts) (front ++ u ∷ rest) e in
    let b = long names ts front (u ∷ rest) k in
    let i : length (t ∷ ts) - length (u ∷ rest) ≡ suc (length ts - length (u ∷ rest)) = omega (arith, b) in
    rw i (left_place names ts front (u ∷ rest) d end k l)

-- nothing is left
end_place : (names : Names) (ts : List Token) (front rest : List Placed) (end : Place) → placed names ts ≡ front ++ rest → length ts ≤ length ts - length rest → end ≡ first_place end rest
end_place names ts front [] end e l = refl
end_place names ts front (u ∷ rest) end e l = let b = long names ts front (u ∷ rest) e in absurd (omega (arith, b, l))

-- what stands there is the first token that is left
pub at_left : (names : Names) (ts : List Token) (t : Token) (front rest : List Placed) (i left : ℕ) (end : Place) → placed names ts ≡ front ++ rest → length rest ≡ left → i ≡ length ts - left → i < length ts → t ≡ get_or ts i t
    → t.place ≡ first_place end rest
at_left names ts t front rest i left end e l k b g =
    let m : i ≡ length ts - length rest = omega (arith, l, k) in
    ap (λ u. u.place) g ∙ (ap (λ n. (get_or ts n t).place) m ∙ left_place names ts front rest t end e (omega (arith, m, b)))

-- nothing stands there, and nothing is left
pub at_end : (names : Names) (ts : List Token) (front rest : List Placed) (i left : ℕ) (end : Place) → placed names ts ≡ front ++ rest → length rest ≡ left → i ≡ length ts - left → length ts ≤ i → end ≡ first_place end rest
at_end names ts front rest i left end e l k b = end_place names ts front rest end e (omega (arith, l, k, b))
