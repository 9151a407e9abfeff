-- What is written, statement by statement.
use Rattle.std.proofs.Common.{◌≡◌, ℕ, Bool, true, false, List, [], ◌∷◌, ◌++◌, map, Option, None, refl, sym, ◌∙◌, ap}
use Rattle.std.proofs.lemmas.List.{append_assoc}
use Rattle.cpc_base.specs.Bytes.{Text}
use Rattle.cpc_base.proofs.Lists.{append_empty}
use Rattle.cpc_tree.specs.Syntax.{Stmt, Label}
use Rattle.cpc_convert_routines.specs.Names.{node_label}
use Rattle.cpc_chains_event.specs.Rows.{label_if}
use Rattle.cpc_chains_lines.specs.Written.{Written, put, puts}
use Rattle.cpc_chains_lines.proofs.Puts.{behind}
use Rattle.cpc_chains_opening.specs.Labels.{label_where}

-- statements without a label
abbrev pub plain : List Stmt → Written
plain d = record { done = d; label = None }

pub puts_plain : (d ss : List Stmt) → puts (plain d) ss ≡ plain (d ++ ss)
puts_plain d [] = ap plain (sym (append_empty d))
puts_plain d (s ∷ ss) = puts_plain (d ++ s ∷ []) ss ∙ ap plain (append_assoc d (s ∷ []) ss)

pub puts_both : (w : Written) (xs ys : List Stmt) → puts (puts w xs) ys ≡ puts w (xs ++ ys)
puts_both w [] ys = refl
puts_both w (x ∷ xs) ys = puts_both (put w x) xs ys

-- a row behind its label
pub row_done : (d ss : List Stmt) (b : Bool) (n : ℕ) → (puts (record { done = d; label = label_where b n }) ss).done ≡ d ++ label_if b (node_label n) ss
row_done d [] true n = sym (append_empty d)
row_done d [] false n = sym (append_empty d)
row_done d (s ∷ ss) true n = ap (λ (w : Written). w.done) (puts_plain (d ++ Label (node_label n) s ∷ []) ss) ∙ append_assoc d (Label (node_label n) s ∷ []) ss
row_done d (s ∷ ss) false n = ap (λ (w : Written). w.done) (puts_plain (d ++ s ∷ []) ss) ∙ append_assoc d (s ∷ []) ss

-- statements behind which this label stands
abbrev pub labelled_by : List Stmt → Option Text → Written
labelled_by d l = record { done = d; label = l }

-- a row that is written
pub row_written : (w a b c : Written) (ss : List Stmt) (t : Bool) (n : ℕ) (l : Option Text) → a ≡ record { done = w.done; label = l } → l ≡ label_where t n → b ≡ puts a ss → c ≡ record { done = b.done; label = None }
    → c ≡ record { done = w.done ++ label_if t (node_label n) ss; label = None }
row_written w a b c ss t n l e f g h =
    h ∙ ap plain (ap (λ (x : Written). x.done) (g ∙ ap (λ x. puts x ss) (e ∙ ap (λ x. labelled_by w.done x) f)) ∙ row_done w.done ss t n)

-- four things, one after the other
pub four_written : (w a b c d : Written) (xs ys zs us : List Stmt) → a ≡ puts w xs → b ≡ puts a ys → c ≡ puts b zs → d ≡ puts c us → d ≡ puts w (xs ++ (ys ++ (zs ++ us)))
four_written w a b c d xs ys zs us e f g h =
    h ∙ (ap (λ x. puts x us) (g ∙ ap (λ x. puts x zs) (f ∙ ap (λ x. puts x ys) e))
    ∙ (puts_both (puts (puts w xs) ys) zs us ∙ (puts_both (puts w xs) ys (zs ++ us) ∙ puts_both w xs (ys ++ (zs ++ us)))))

pub map_both : {A B : Type 0} (f : A → B) (xs ys : List A) → map f (xs ++ ys) ≡ map f xs ++ map f ys
map_both f [] ys = refl
map_both f (x ∷ xs) ys = ap (λ l. f x ∷ l) (map_both f xs ys)

-- three things
pub three_written : (w a b c : Written) (xs ys zs : List Stmt) → a ≡ puts w xs → b ≡ puts a ys → c ≡ puts b zs → c ≡ puts w (xs ++ (ys ++ zs))
three_written w a b c xs ys zs e f g = behind w a c xs (ys ++ zs) e (behind a b c ys zs f g)
