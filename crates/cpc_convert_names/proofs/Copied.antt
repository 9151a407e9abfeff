-- A table that is copied text by text.
use Rattle.std.proofs.Common.{◌≡◌, ℕ, zero, suc, ◌<◌, Bool, true, false, cond, List, [], ◌∷◌, ◌++◌, take, Some, slice_get, get_or, map, bytes_eq, arith, refl, sym, ap, ◌∙◌}
use Rattle.std.specs.List.{list_any}
use Rattle.std.proofs.lemmas.Option.{slice_get_within}
use Rattle.cpc_base.specs.Bytes.{Text}
use Rattle.cpc_base.specs.Texts.{with_text, AreDistinct}
use Rattle.cpc_base.proofs.TextLemmas.{same_place}
use Rattle.std.proofs.lemmas.List.{map-append}
use Rattle.std.proofs.lemmas.Option.{get_or_from_slice_get}
use Rattle.cpc_base.specs.declared.names.Name.{Name}
use Rattle.cpc_tree.specs.Erase.{Names, Table, in_table, text_of}
use Rattle.cpc_convert_common.specs.Converted.{spawner_name}
use Rattle.cpc_convert_names.specs.Tables.{HasGrown, Spells}
use Rattle.cpc_convert_names.proofs.Growing.{spells_before}

taken_at : (xs : Table) (n i : ℕ) (x : Text) → slice_get (take n xs) i ≡ Some x → slice_get xs i ≡ Some x
taken_at xs zero i x e = let h : i < 0 = slice_get_within [] i x e in absurd (omega (arith, h))
taken_at [] (suc n) i x e = e
taken_at (y ∷ xs) (suc n) zero x e = e
taken_at (y ∷ xs) (suc n) (suc i) x e = taken_at xs n i x e

taken_short : (xs : Table) (n i : ℕ) (x : Text) → slice_get (take n xs) i ≡ Some x → i < n
taken_short xs zero i x e = let h : i < 0 = slice_get_within [] i x e in absurd (omega (arith, h))
taken_short [] (suc n) i x e = let h : i < 0 = slice_get_within [] i x e in absurd (omega (arith, h))
taken_short (y ∷ xs) (suc n) zero x e = omega arith
taken_short (y ∷ xs) (suc n) (suc i) x e = let h : i < n = taken_short xs n i x e in omega (arith, h)

pub taken_more : (xs : Table) (n : ℕ) (x : Text) → slice_get xs n ≡ Some x → take n xs ++ x ∷ [] ≡ take (suc n) xs
taken_more [] n x e = let h : n < 0 = slice_get_within [] n x e in absurd (omega (arith, h))
taken_more (y ∷ xs) zero x e = let h : y ≡ x = cc in ap (λ u. u ∷ []) (sym h)
taken_more (y ∷ xs) (suc n) x e = ap (λ l. y ∷ l) (taken_more xs n x e)

-- the next text of a table goes behind those before it
pub copied : (source new : Table) (n m j : ℕ) (x : Text) → AreDistinct source → Some x ≡ slice_get source n → slice_get new m ≡ Some x → new ≡ with_text (take n source) x → j ≡ suc n → new ≡ take j source
copied source new n m j x distinct at there is next = by (list_any (bytes_eq x) (take n source)) refl
  where
    by : (b : Bool) → list_any (bytes_eq x) (take n source) ≡ b → new ≡ take j source
    by true e =
        let old : new ≡ take n source = is ∙ ap (λ b. cond b (take n source) (take n source ++ x ∷ [])) e in
        let seen : slice_get (take n source) m ≡ Some x = ap (λ l. slice_get l m) (sym old) ∙ there in
        let same : m ≡ n = same_place source x m n distinct (taken_at source n m x seen) (sym at) in
        let below : m < n = taken_short source n m x seen in
        absurd (omega (arith, same, below))
    by false e = is ∙ (ap (λ b. cond b (take n source) (take n source ++ x ∷ [])) e ∙ (taken_more source n x (sym at) ∙ ap (λ k. take k source) (sym next)))

-- ---- the spawners of its names

pub reads_there : (source now : Table) (to : Names) (n : Name) (x : Text) → HasGrown source now → Spells now to → Some x ≡ slice_get source n.0 → in_table source n ≡ to n
reads_there source now to n x g s at = sym ((spells_before source now to g s).spelled n (slice_get_within source n.0 x (sym at)))

pub spawners_more : (source : Table) (to : Names) (ns new : List Name) (k j : ℕ) (m n : Name) (x : Text) → new ≡ ns ++ n ∷ [] → map (text_of to) ns ≡ map spawner_name (take k source) → m.0 ≡ k → Some x ≡ slice_get source k → in_table source m ≡ to m
    → to n ≡ spawner_name (to m) → j ≡ suc k → map (text_of to) new ≡ map spawner_name (take j source)
spawners_more source to ns new k j m n x is before same at reads one next =
    let text : get_or source k [] ≡ x = get_or_from_slice_get source k x [] (sym at) in
    let meant : to m ≡ x = sym reads ∙ (ap (λ i. get_or source i []) same ∙ text) in
    ap (map (text_of to)) is ∙ (map-append (text_of to) ns (n ∷ []) ∙ (ap (λ (l : List Text). l ++ to n ∷ []) before ∙ (ap (λ t. map spawner_name (take k source) ++ t ∷ []) (one ∙ ap spawner_name meant)
    ∙ (sym (map-append spawner_name (take k source) (x ∷ [])) ∙ ap (map spawner_name) (taken_more source k x (sym at) ∙ ap (λ i. take i source) (sym next))))))
