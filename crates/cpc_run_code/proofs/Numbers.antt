-- Numbers of values, one by one.
use Rattle.std.proofs.Common.{◌≡◌, ℤ, List, [], ◌∷◌, ◌++◌, length, suc, refl, ap, subst, ◌∙◌}
use Rattle.cpc_base.proofs.Lists.{length_of_map}
use Rattle.cpc_tree.specs.Erase.{Names}
use Rattle.cpc_store.specs.declared.values.Value as V
use Rattle.cpc_store.specs.Store as S
use Rattle.cpc_meaning.specs.Answer.{Gives, ◌>>=◌}
use Rattle.cpc_meaning.specs.Machine.{int_of, ints_of}
use Rattle.cpc_meaning.proofs.Functions.{gives_then}
use Rattle.cpc_meaning_laws.proofs.Pointer.Blocks.{Only, any_then, only_then}
use Rattle.cpc_eval_values.specs.Shown.{value_of, values_of}

-- what stands behind a list is told behind its numbers
with_last : (vs : List S.Value) (v : S.Value) (zs : List ℤ) (z : ℤ) → ints_of vs ≡ Gives zs → int_of v ≡ Gives z → ints_of (vs ++ v ∷ []) ≡ Gives (zs ++ z ∷ [])
with_last [] v zs z e f =
    let none : [] ≡ zs = cc e in
    ap (λ a. a >>= λ y. Gives (y ∷ [])) f ∙ ap (λ ys. Gives (ys ++ z ∷ [])) none
with_last (w ∷ vs) v zs z e f =
    let a = gives_then (int_of w) (λ y. ints_of vs >>= λ ys. Gives (y ∷ ys)) zs e in
    let b = gives_then (ints_of vs) (λ ys. Gives (a.0 ∷ ys)) zs a.2 in
    let whole : a.0 ∷ b.0 ≡ zs = let g = b.2 in cc g in
    ap (λ x. x >>= λ y. ints_of (vs ++ v ∷ []) >>= λ ys. Gives (y ∷ ys)) a.1
    ∙ ap (λ x. x >>= λ ys. Gives (a.0 ∷ ys)) (with_last vs v b.0 z b.1 f)
    ∙ ap (λ ys. Gives (ys ++ z ∷ [])) whole

shown_last : (names : Names) (vs : List V.Value) (v : V.Value) → values_of names (vs ++ v ∷ []) ≡ values_of names vs ++ value_of names v ∷ []
shown_last names [] v = refl
shown_last names (w ∷ vs) v = ap (λ xs. value_of names w ∷ xs) (shown_last names vs v)

pub ints_more : (names : Names) (vs : List V.Value) (v : V.Value) (zs : List ℤ) (z : ℤ) → ints_of (values_of names vs) ≡ Gives zs → int_of (value_of names v) ≡ Gives z → ints_of (values_of names (vs ++ v ∷ [])) ≡ Gives (zs ++ z ∷ [])
ints_more names vs v zs z e f = ap ints_of (shown_last names vs v) ∙ with_last (values_of names vs) (value_of names v) zs z e f

-- there are as many as values
as_many : (vs : List S.Value) → Only (λ (zs : List ℤ). length zs ≡ length vs) (ints_of vs)
as_many [] = refl
as_many (v ∷ vs) =
    any_then (λ (zs : List ℤ). length zs ≡ length (v ∷ vs)) (int_of v) _ λ z.
    only_then (λ (zs : List ℤ). length zs ≡ length vs) (λ (zs : List ℤ). length zs ≡ length (v ∷ vs)) (ints_of vs) _ (as_many vs) (λ zs h. ap suc h)

pub ints_many : (names : Names) (vs : List V.Value) (zs : List ℤ) → ints_of (values_of names vs) ≡ Gives zs → length zs ≡ length vs
ints_many names vs zs e = subst (Only (λ (ys : List ℤ). length ys ≡ length (values_of names vs))) e (as_many (values_of names vs)) ∙ length_of_map (value_of names) vs
