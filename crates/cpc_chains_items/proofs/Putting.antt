-- Rows of statements that are written.
use Rattle.std.proofs.Common.{◌≡◌, ℕ, ◌+◌, ◌<◌, List, [], ◌∷◌, ◌++◌, None, map, length, get_or, take, append_assoc, sym, ap, ◌∙◌}
use Rattle.std.proofs.lemmas.List.{map-append, append-nil}
use Rattle.cpc_tree.specs.Syntax.{Stmt, NoStmt}
use Rattle.cpc_shapes.proofs.Indexes.{next_item}
use Rattle.cpc_convert_flat_laws.specs.Flat.{before}
use Rattle.cpc_convert_flat_laws.proofs.Rows.{before_append}
use Rattle.cpc_chains_lines.specs.Written.{Written, puts}
use Rattle.cpc_chains_lines.proofs.Puts.{puts_both}

-- one more of a row
pub put_more : {A : Type 0} (g : A → Stmt) (start old new : Written) (xs : List A) (i : ℕ) (x : A) → i < length xs → x ≡ get_or xs i x → old ≡ puts start (map g (take i xs)) → new ≡ puts old (g x ∷ [])
    → new ≡ puts start (map g (take (i + 1) xs))
put_more g start old new xs i x lt is so_far one =
    one ∙ (ap (λ u. puts u (g x ∷ [])) so_far ∙ (sym (puts_both start (map g (take i xs)) (g x ∷ [])) ∙ (ap (puts start) (sym (map-append g (take i xs) (x ∷ []))) ∙ ap (λ u. puts start (map g u)) (sym (next_item xs i x lt is)))))

-- what is written where nothing was
pub puts_done : (done xs : List Stmt) → (puts (record { done = done; label = None }) xs).done ≡ done ++ xs
puts_done done [] = sym (append-nil done)
puts_done done (x ∷ xs) = puts_done (done ++ x ∷ []) xs ∙ append_assoc done (x ∷ []) xs

-- three rows that are written where nothing was, as one
pub three_rows : (xs ys zs : List Stmt) → before (puts (puts (puts (record { done = []; label = None }) xs) ys) zs).done NoStmt ≡ before xs (before ys (before zs NoStmt))
three_rows xs ys zs =
    let none : Written = record { done = []; label = None } in
    ap (λ w. before w.done NoStmt) (sym (puts_both (puts none xs) ys zs) ∙ sym (puts_both none xs (ys ++ zs)))
    ∙ (ap (λ u. before u NoStmt) (puts_done [] (xs ++ (ys ++ zs))) ∙ (before_append xs (ys ++ zs) NoStmt ∙ ap (before xs) (before_append ys zs NoStmt)))
