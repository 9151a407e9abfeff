-- Rows of names, and their texts.
use Rattle.std.proofs.Common.{◌≡◌, ℕ, zero, suc, ◌+◌, ◌<◌, ◌≤◌, true, false, nat_lt, List, [], ◌∷◌, ◌++◌, map, length, Some, option_map, slice_get, get_or, take, arith, refl, sym, ap, ◌∙◌}
use Rattle.std.proofs.lemmas.Bool.Decides.{nat_tests}
use Rattle.std.proofs.lemmas.List.{length-map, map-append}
use Rattle.std.proofs.lemmas.Option.{slice_get-map, slice_get_within, slice_get-get_or, slice_get_read}
use Rattle.cpc_base.specs.Bytes.{Text}
use Rattle.cpc_base.specs.declared.names.Name.{Name}
use Rattle.cpc_tree.specs.Erase.{Names, text_of}
use Rattle.cpc_forms_code.specs.declared.boxed.Variable.{Variable}
use Rattle.cpc_convert_common.specs.Converted.{spawner_name}
use Rattle.cpc_convert_routines.specs.Names.{variable_name}
use Rattle.cpc_convert_names.specs.Counted.{counted, called_of, locals_from}

-- ---- where they end

pub counted_length : (f : ℕ → Text) (k n : ℕ) → length (counted f k n) ≡ n
counted_length f k zero = refl
counted_length f k (suc n) = ap suc (counted_length f (suc k) n)

pub locals_length : (to : Names) (k : ℕ) (vs : List Variable) → length (locals_from to k vs) ≡ length vs
locals_length to k [] = refl
locals_length to k (v ∷ vs) = ap suc (locals_length to (suc k) vs)

-- ---- what is there

counted_at : (f : ℕ → Text) (k n i j : ℕ) (x : Text) → slice_get (counted f k n) i ≡ Some x → j ≡ k + i → x ≡ f j
counted_at f k zero i j x e is = let h : i < 0 = slice_get_within [] i x e in absurd (omega (arith, h))
counted_at f k (suc n) zero j x e is = let h : f k ≡ x = cc in let g : k ≡ j = omega (arith, is) in sym h ∙ ap f g
counted_at f k (suc n) (suc i) j x e is = counted_at f (suc k) n i j x e (omega (arith, is))

locals_at : (to : Names) (k : ℕ) (vs : List Variable) (i j : ℕ) (x : Text) (v : Variable) → slice_get (locals_from to k vs) i ≡ Some x → slice_get vs i ≡ Some v → j ≡ k + i → x ≡ variable_name j (called_of to v)
locals_at to k [] i j x v e g is = let h : i < 0 = slice_get_within [] i v g in absurd (omega (arith, h))
locals_at to k (u ∷ vs) zero j x v e g is =
    let h : variable_name k (called_of to u) ≡ x = cc in
    let same : u ≡ v = cc in
    let l : k ≡ j = omega (arith, is) in
    sym h ∙ (ap (λ w. variable_name k (called_of to w)) same ∙ ap (λ m. variable_name m (called_of to v)) l)
locals_at to k (u ∷ vs) (suc i) j x v e g is = locals_at to (suc k) vs i j x v e g (omega (arith, is))

inside : (i n : ℕ) → true ≡ nat_lt i n → i < n
inside i n e = grind (arith, nat_tests)

outside : (i n : ℕ) → false ≡ nat_lt i n → n ≤ i
outside i n e = grind (arith, nat_tests)

seen_at : (to : Names) (ns xs : List Name) (i : ℕ) (n : Name) → xs ≡ ns → i < length xs → n ≡ get_or xs i n → slice_get (map (text_of to) ns) i ≡ Some (to n)
seen_at to ns xs i n same lt is = slice_get-map (text_of to) ns i ∙ ap (option_map (text_of to)) (ap (λ (l : List Name). slice_get l i) (sym same) ∙ slice_get_read xs (length xs) i n refl lt is)

pub row_at : (to : Names) (f : ℕ → Text) (ns xs : List Name) (count i : ℕ) (n : Name) → map (text_of to) ns ≡ counted f 0 count → xs ≡ ns → true ≡ nat_lt i (length xs) → n ≡ get_or xs i n → to n ≡ f i
row_at to f ns xs count i n e same test is =
    let lt : i < length xs = inside i (length xs) test in
    counted_at f 0 count i i (to n) (ap (λ (l : List Text). slice_get l i) (sym e) ∙ seen_at to ns xs i n same lt is) (omega arith)

pub row_ended : (to : Names) (f : ℕ → Text) (ns xs : List Name) (count i : ℕ) → map (text_of to) ns ≡ counted f 0 count → xs ≡ ns → false ≡ nat_lt i (length xs) → i < count → ⊥
row_ended to f ns xs count i e same test lt =
    let le : length xs ≤ i = outside i (length xs) test in
    let long : length ns ≡ count = sym (length-map ns (text_of to)) ∙ (ap length e ∙ counted_length f 0 count) in
    let equal : length xs ≡ length ns = ap length same in
    omega (arith, le, lt, long, equal)

pub local_at : (to : Names) (vs : List Variable) (ns xs : List Name) (i : ℕ) (n : Name) (v : Variable) → map (text_of to) ns ≡ locals_from to 0 vs → xs ≡ ns → true ≡ nat_lt i (length xs) → n ≡ get_or xs i n → slice_get vs i ≡ Some v
    → to n ≡ variable_name i (called_of to v)
local_at to vs ns xs i n v e same test is at =
    let lt : i < length xs = inside i (length xs) test in
    locals_at to 0 vs i i (to n) v (ap (λ (l : List Text). slice_get l i) (sym e) ∙ seen_at to ns xs i n same lt is) at (omega arith)

pub locals_ended : (to : Names) (vs : List Variable) (ns xs : List Name) (i : ℕ) (v : Variable) → map (text_of to) ns ≡ locals_from to 0 vs → xs ≡ ns → false ≡ nat_lt i (length xs) → slice_get vs i ≡ Some v → ⊥
locals_ended to vs ns xs i v e same test at =
    let le : length xs ≤ i = outside i (length xs) test in
    let long : length ns ≡ length vs = sym (length-map ns (text_of to)) ∙ (ap length e ∙ locals_length to 0 vs) in
    let equal : length xs ≡ length ns = ap length same in
    let lt : i < length vs = slice_get_within vs i v at in
    omega (arith, le, lt, long, equal)

-- ---- spawners

pub spawner_at : (source : List Text) (to : Names) (ns xs : List Name) (i : ℕ) (n : Name) (o : Text) → map (text_of to) ns ≡ map spawner_name source → xs ≡ ns → true ≡ nat_lt i (length xs) → n ≡ get_or xs i n → get_or source i [] ≡ o
    → to n ≡ spawner_name o
spawner_at source to ns xs i n o e same test is at =
    let lt : i < length xs = inside i (length xs) test in
    let long : length ns ≡ length source = sym (length-map ns (text_of to)) ∙ (ap length e ∙ length-map source spawner_name) in
    let equal : length xs ≡ length ns = ap length same in
    let within : i < length source = omega (arith, lt, long, equal) in
    let found : Some (to n) ≡ Some (spawner_name (get_or source i [])) =
    sym (seen_at to ns xs i n same lt is) ∙ (ap (λ (l : List Text). slice_get l i) e ∙ (slice_get-map spawner_name source i ∙ ap (option_map spawner_name) (slice_get-get_or source i [] within))) in
    let one : to n ≡ spawner_name (get_or source i []) = cc in
    one ∙ ap spawner_name at

-- ---- one more

pub counted_more : (f : ℕ → Text) (k n j : ℕ) → j ≡ k + n → counted f k n ++ f j ∷ [] ≡ counted f k (suc n)
counted_more f k zero j is = let g : j ≡ k = omega (arith, is) in ap (λ m. f m ∷ []) g
counted_more f k (suc n) j is = ap (λ l. f k ∷ l) (counted_more f (suc k) n j (omega (arith, is)))

pub row_more : (to : Names) (f : ℕ → Text) (ns new : List Name) (k j : ℕ) (n : Name) → new ≡ ns ++ n ∷ [] → map (text_of to) ns ≡ counted f 0 k → to n ≡ f k → j ≡ suc k → map (text_of to) new ≡ counted f 0 j
row_more to f ns new k j n is before one next =
    ap (map (text_of to)) is ∙ (map-append (text_of to) ns (n ∷ []) ∙ (ap (λ (l : List Text). l ++ to n ∷ []) before ∙ (ap (λ t. counted f 0 k ++ t ∷ []) one ∙ (counted_more f 0 k k (omega arith) ∙ ap (counted f 0) (sym next)))))

locals_more : (to : Names) (k i j : ℕ) (vs : List Variable) (v : Variable) → slice_get vs i ≡ Some v → j ≡ k + i → locals_from to k (take i vs) ++ variable_name j (called_of to v) ∷ [] ≡ locals_from to k (take (suc i) vs)
locals_more to k i j [] v at is = let h : i < 0 = slice_get_within [] i v at in absurd (omega (arith, h))
locals_more to k zero j (u ∷ vs) v at is =
    let same : v ≡ u = cc in
    let l : j ≡ k = omega (arith, is) in
    ap (λ w. variable_name j (called_of to w) ∷ []) same ∙ ap (λ m. variable_name m (called_of to u) ∷ []) l
locals_more to k (suc i) j (u ∷ vs) v at is = ap (λ (l : List Text). variable_name k (called_of to u) ∷ l) (locals_more to (suc k) i j vs v at (omega (arith, is)))

pub row_of_locals : (to : Names) (vs : List Variable) (ns new : List Name) (k j : ℕ) (n : Name) (v : Variable) → new ≡ ns ++ n ∷ [] → map (text_of to) ns ≡ locals_from to 0 (take k vs) → k < length vs → v ≡ get_or vs k v
    → to n ≡ variable_name k (called_of to v) → j ≡ suc k → map (text_of to) new ≡ locals_from to 0 (take j vs)
row_of_locals to vs ns new k j n v is before lt at one next =
    ap (map (text_of to)) is ∙ (map-append (text_of to) ns (n ∷ []) ∙ (ap (λ (l : List Text). l ++ to n ∷ []) before ∙ (ap (λ t. locals_from to 0 (take k vs) ++ t ∷ []) one
    ∙ (locals_more to 0 k k vs v (slice_get_read vs (length vs) k v refl lt at) (omega arith) ∙ ap (λ m. locals_from to 0 (take m vs)) (sym next)))))

-- two functions that agree on a list agree on its elements
pub agree_at : (f g : Variable → Text) (vs : List Variable) (i : ℕ) (v : Variable) → map f vs ≡ map g vs → i < length vs → v ≡ get_or vs i v → f v ≡ g v
agree_at f g vs i v e lt is =
    let at : slice_get vs i ≡ Some v = slice_get_read vs (length vs) i v refl lt is in
    let both : Some (f v) ≡ Some (g v) = sym (ap (option_map f) at) ∙ (sym (slice_get-map f vs i) ∙ (ap (λ (l : List Text). slice_get l i) e ∙ (slice_get-map g vs i ∙ ap (option_map g) at))) in
    cc
