-- What stands before the first two underscores.
use Rattle.std.proofs.Common.{◌≡◌, ℕ, ◌+◌, ◌-◌, ◌<◌, true, false, [], ◌∷◌, ◌++◌, length, get_or, take, drop, refl, sym, ap, ◌∙◌, append_assoc, add-one}
use Rattle.std.proofs.lemmas.List.{take_more}
use Rattle.std.proofs.Math.Seq.{drop-cons}
use Rattle.cpc_base.specs.Bytes.{Text}
use Rattle.cpc_meaning.specs.Start.{begins_with_underscores, cut_where, before_underscores}

-- where a text begins with underscores, nothing stands before them
pub here : (text : Text) → begins_with_underscores text ≡ true → before_underscores text ≡ []
here [] e = refl
here (b ∷ bs) e = ap (λ x. cut_where x (b ∷ before_underscores bs)) e

-- where it does not, its first byte does
pub behind : (b : ℕ) (bs : Text) → begins_with_underscores (b ∷ bs) ≡ false → before_underscores (b ∷ bs) ≡ b ∷ before_underscores bs
behind b bs e = ap (λ x. cut_where x (b ∷ before_underscores bs)) e

-- one more byte stands before them
pub one_more : (text : Text) (i : ℕ) → i < length text → begins_with_underscores (drop i text) ≡ false → before_underscores text ≡ take i text ++ before_underscores (drop i text)
    → before_underscores text ≡ take (i + 1) text ++ before_underscores (drop (i + 1) text)
one_more text i lt e h =
    let b = get_or text i 0 in
    let rest : drop i text ≡ b ∷ drop (i + 1) text = rw add-one (drop-cons text i 0 lt) in
    let none : begins_with_underscores (b ∷ drop (i + 1) text) ≡ false = ap begins_with_underscores (sym rest) ∙ e in
    h ∙ ap (λ t. take i text ++ before_underscores t) rest ∙ ap (λ t. take i text ++ t) (behind b (drop (i + 1) text) none)
    ∙ sym (append_assoc (take i text) (b ∷ []) (before_underscores (drop (i + 1) text)))
    ∙ ap (λ t. t ++ before_underscores (drop (i + 1) text)) (sym (take_more text i 0 lt))
