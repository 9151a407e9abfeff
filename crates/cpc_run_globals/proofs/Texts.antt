-- The cells over which a string is written, one by one.
use Rattle.std.proofs.Common.{◌≡◌, ℕ, zero, suc, ◌+◌, ◌<◌, List, [], ◌∷◌, ◌++◌, length, take, drop, get_or, map, refl, sym, ap, subst, ◌∙◌, add-one, arith, append_assoc}
use Rattle.std.specs.List.{All}
use Rattle.std.proofs.lemmas.List.{map-append}
use Rattle.std.proofs.lemmas.List.Elements.{All-append, All-cons, All-nil}
use Rattle.std.proofs.Math.Seq.{take-suc, drop-nil}
use Rattle.cpc_base.specs.Bytes.{Text}
use Rattle.cpc_store.specs.declared.values.Scalar.{Scalar}
use Rattle.cpc_store.specs.declared.values.Value as V
use Rattle.cpc_store.specs.Store.{Value}
use Rattle.cpc_store.specs.Seen.{seen, IsLawful}
use Rattle.cpc_tree.specs.Erase.{Names}
use Rattle.cpc_meaning.specs.Start.{zero_of, text_over}
use Rattle.cpc_eval_values.specs.Shown.{value_of, values_of}
use Rattle.cpc_run_globals.specs.Starts.{text_cell}

-- one more cell for which nothing is written
pub zeros_next : (names : Names) (vs : List V.Value) (v : V.Value) (row : List Scalar) (k : ℕ) (d : Scalar) → k < length row → values_of names vs ≡ map zero_of (take k row) → value_of names v ≡ zero_of (get_or row k d)
    → values_of names (vs ++ v ∷ []) ≡ map zero_of (take (k + 1) row)
zeros_next names vs v row k d lt h e =
    let more : map zero_of (take (k + 1) row) ≡ map zero_of (take k row) ++ zero_of (get_or row k d) ∷ [] =
    ap (λ m. map zero_of (take m row)) (add-one k) ∙ ap (map zero_of) (take-suc row k d lt) ∙ map-append zero_of (take k row) (get_or row k d ∷ []) in
    map-append (value_of names) vs (v ∷ []) ∙ ap (λ xs. xs ++ value_of names v ∷ []) h ∙ ap (λ x. map zero_of (take k row) ++ x ∷ []) e ∙ sym more

text_at : (bs : Text) (row : List Scalar) (k : ℕ) (d : Scalar) → k < length row
    → text_over (drop k bs) (map zero_of (drop k row)) ≡ text_cell bs k (get_or row k d) ∷ text_over (drop (suc k) bs) (map zero_of (drop (suc k) row))
text_at bs [] k d lt = absurd (omega arith)
text_at [] (x ∷ []) zero d lt = refl
text_at [] (x ∷ y ∷ row) zero d lt = refl
text_at (b ∷ bs) (x ∷ row) zero d lt = refl
text_at [] (x ∷ row) (suc k) d lt =
    let e : drop k [] ≡ [] = drop-nil k in
    ap (λ cs. text_over cs (map zero_of (drop k row))) (sym e) ∙ text_at [] row k d (omega arith) ∙ ap (λ cs. text_cell [] k (get_or row k d) ∷ text_over cs (map zero_of (drop (suc k) row))) (drop-nil (suc k))
text_at (b ∷ bs) (x ∷ row) (suc k) d lt = text_at bs row k d (omega arith)

-- one more cell of a string
pub text_next : (names : Names) (vs : List V.Value) (v : V.Value) (bs : Text) (row : List Scalar) (k : ℕ) (d : Scalar) (whole : List Value) → k < length row
    → whole ≡ values_of names vs ++ text_over (drop k bs) (map zero_of (drop k row)) → value_of names v ≡ text_cell bs k (get_or row k d)
    → whole ≡ values_of names (vs ++ v ∷ []) ++ text_over (drop (k + 1) bs) (map zero_of (drop (k + 1) row))
text_next names vs v bs row k d whole lt h e =
    let rest = text_over (drop (k + 1) bs) (map zero_of (drop (k + 1) row)) in
    let more : text_over (drop k bs) (map zero_of (drop k row)) ≡ value_of names v ∷ rest =
    text_at bs row k d lt ∙ ap (λ m. text_cell bs k (get_or row k d) ∷ text_over (drop m bs) (map zero_of (drop m row))) (sym (add-one k)) ∙ ap (λ x. x ∷ rest) (sym e) in
    h ∙ ap (λ xs. values_of names vs ++ xs) more ∙ sym (append_assoc (values_of names vs) (value_of names v ∷ []) rest) ∙ ap (λ xs. xs ++ rest) (sym (map-append (value_of names) vs (v ∷ [])))

-- one more lawful value
pub all_next : (vs : List V.Value) (v : V.Value) (new : List V.Value) → All (λ v. IsLawful (seen v)) vs → IsLawful (seen v) → new ≡ vs ++ v ∷ [] → All (λ v. IsLawful (seen v)) new
all_next vs v new h k e =
    subst (All (λ v. IsLawful (seen v))) (sym e) (All-append (λ v. IsLawful (seen v)) vs (v ∷ []) h (All-cons (λ v. IsLawful (seen v)) v [] k (All-nil (λ v. IsLawful (seen v)))))
