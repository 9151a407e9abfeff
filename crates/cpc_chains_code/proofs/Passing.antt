-- Parts that are made of all functions, one function after the other.
use Rattle.std.proofs.Common.{◌≡◌, ℕ, suc, ◌+◌, ◌<◌, ◌≤◌, List, [], ◌∷◌, ◌++◌, map, length, get_or, drop, append_assoc, sym, ap, ◌∙◌, arith}
use Rattle.std.proofs.lemmas.List.{append-nil, drop_all}
use Rattle.std.proofs.Math.Seq.{drop-cons}
use Rattle.cpc_tree.specs.Syntax.{Item}
use Rattle.cpc_convert_routines.specs.Routines.{Routine}

-- one function more
pub part_more : {X : Type 0} (routine : X → Routine) (part : Routine → List Item) (all : List Routine → List Item) → ((r : Routine) (rs : List Routine) → all (r ∷ rs) ≡ part r ++ all rs)
    → (xs : List X) (i : ℕ) (x : X) (old new end : List Item) → i < length xs → x ≡ get_or xs i x → old ++ all (map routine (drop i xs)) ≡ end → new ≡ old ++ part (routine x)
    → new ++ all (map routine (drop (i + 1) xs)) ≡ end
part_more {X} routine part all first xs i x old new end lt is before one =
    let next : suc i ≡ i + 1 = omega arith in
    let rest = all (map routine (drop (suc i) xs)) in
    let step : all (map routine (drop i xs)) ≡ part (routine x) ++ rest =
    ap (λ (l : List X). all (map routine l)) (drop-cons xs i x lt ∙ ap (λ (y : X). y ∷ drop (suc i) xs) (sym is)) ∙ first (routine x) (map routine (drop (suc i) xs)) in
    ap (λ j. new ++ all (map routine (drop j xs))) (sym next) ∙ (ap (λ u. u ++ rest) one ∙ (append_assoc old (part (routine x)) rest ∙ (ap (λ u. old ++ u) (sym step) ∙ before)))

-- when none is left
pub part_done : {X : Type 0} (routine : X → Routine) (all : List Routine → List Item) → all [] ≡ [] → (xs : List X) (i : ℕ) (old end : List Item) → length xs ≤ i → old ++ all (map routine (drop i xs)) ≡ end → old ≡ end
part_done {X} routine all none xs i old end past before =
    sym (append-nil old) ∙ (ap (λ u. old ++ u) (sym none ∙ ap (λ (l : List X). all (map routine l)) (sym (drop_all i xs past))) ∙ before)
