-- Rows that are written, one after the other.
use Rattle.std.proofs.Common.{◌≡◌, ℕ, suc, ◌+◌, ◌<◌, ◌≤◌, Bool, List, ◌++◌, map, length, drop, slice_get, get_or, Option, None, sym, ◌∙◌, ap, arith}
use Rattle.std.proofs.lemmas.List.{append_assoc, drop_all}
use Rattle.std.proofs.Math.Seq.{drop-cons}
use Rattle.cpc_base.proofs.Lists.{append_empty}
use Rattle.cpc_tree.specs.Syntax.{Stmt, Program}
use Rattle.cpc_forms.specs.Flow.{Place}
use Rattle.cpc_convert_routines.specs.Names.{node_label}
use Rattle.cpc_convert_routines.specs.Routines.{Routine}
use Rattle.cpc_chains_event.specs.Rows.{PutRow, row_of, put_lines, put_rows, put_statement, is_wanted, label_if, rows_statements}
use Rattle.cpc_convert_rows.proofs.Wanting.{first_left}
use Rattle.cpc_chains_lines.specs.Written.{Written}
use Rattle.cpc_chains_opening.proofs.Written.{plain, labelled_by}

-- one row more
pub row_more : (p : Program) (r : Routine) (l : Place) (ns : List ℕ) (i : ℕ) (all : List PutRow) (d new : List Stmt) (o : Option ℕ) (b : Bool) → i < length ns → o ≡ slice_get ns (suc i)
    → b ≡ is_wanted (get_or ns i 0) all → new ≡ d ++ label_if b (node_label (get_or ns i 0)) (map put_statement (put_lines o (row_of p r l (get_or ns i 0)).lines))
    → new ++ rows_statements all (put_rows (map (row_of p r l) (drop (i + 1) ns))) ≡ d ++ rows_statements all (put_rows (map (row_of p r l) (drop i ns)))
row_more p r l ns i all d new o b lt next want e =
    let n = get_or ns i 0 in
    let step : suc i ≡ i + 1 = omega arith in
    let rest = rows_statements all (put_rows (map (row_of p r l) (drop (suc i) ns))) in
    ap (λ j. new ++ rows_statements all (put_rows (map (row_of p r l) (drop j ns)))) (sym step)
    ∙ (ap (λ x. x ++ rest) e ∙ (append_assoc d (label_if b (node_label n) (map put_statement (put_lines o (row_of p r l n).lines))) rest
    ∙ (ap (λ x. d ++ (label_if x (node_label n) (map put_statement (put_lines o (row_of p r l n).lines)) ++ rest)) want
    ∙ (ap (λ x. d ++ (label_if (is_wanted n all) (node_label n) (map put_statement (put_lines x (row_of p r l n).lines)) ++ rest)) (next ∙ sym (first_left p r l ns (suc i)))
    ∙ ap (λ xs. d ++ rows_statements all (put_rows (map (row_of p r l) xs))) (sym (drop-cons ns i 0 lt))))))

-- when none is left
pub rows_done : (p : Program) (r : Routine) (l : Place) (ns : List ℕ) (i : ℕ) (all : List PutRow) (w : Written) (x : List Stmt) → length ns ≤ i → w.label ≡ None
    → w.done ++ rows_statements all (put_rows (map (row_of p r l) (drop i ns))) ≡ x → w ≡ plain x
rows_done p r l ns i all w x past none e =
    ap (labelled_by w.done) none ∙ ap plain (sym (append_empty w.done) ∙ (ap (λ xs. w.done ++ rows_statements all (put_rows (map (row_of p r l) xs))) (sym (drop_all i ns past)) ∙ e))
