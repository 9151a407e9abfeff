-- The marks of statements as the code notes them, one after the other.
use Rattle.std.proofs.Common.{◌≡◌, ℕ, zero, suc, ◌+◌, ◌<◌, ◌≤◌, Bool, true, false, List, [], ◌∷◌, ◌++◌, length, get_or, drop, Vec, Box, Global, Option, Result, Ok, Err, refl, sym, ap, ◌∙◌, arith, add-one, append_assoc, append-nil}
use Rattle.std.specs.Prelude.{OnOk}
use Rattle.std.proofs.lemmas.List.{map-append}
use Rattle.cpc_base.specs.Bytes.{Text}
use Rattle.cpc_base.specs.declared.stop.Place.{Place}
use Rattle.cpc_tree.specs.declared.program.Expr as GExpr
use Rattle.cpc_tree.specs.declared.program.Statement.{Statement}
use Rattle.cpc_tree.specs.declared.program.Statement.TheVariants as T
use Rattle.cpc_tree.specs.Syntax.{Ty, Stmt}
use Rattle.cpc_tree.specs.Erase.{Names, stmt_of, list_of}
use Rattle.cpc_tree.specs.Points.{declared}
use Rattle.cpc_tree.proofs.Nodes.{row_end, row_more, block_seen, for_seen}
use Rattle.cpc_eval_values.specs.Counted.{capped}
use Rattle.cpc_eval_locals.specs.declared.marks.Key.{Key}
use Rattle.cpc_eval_locals.specs.declared.marks.Key.TheVariants as K
use Rattle.cpc_eval_locals.specs.declared.marks.Declared.{Declared}
use Rattle.cpc_eval_locals.specs.declared.marks.Mark as G
use Rattle.cpc_eval_locals.specs.Marks.{Mark, own_of, marked_if, marked, row_key, marks, marks_row}
use Rattle.cpc_eval_locals.specs.Seen.{declared_seen, mark_seen, marks_seen}

-- ---- rows

-- one more statement of a row
pub row_next : (heads : Bool) (d : ℕ) (names : Names) (xs : List Statement) (n : ℕ) (s : Statement) (key : Key) (old new : List Mark) → n < length xs → s ≡ get_or xs n s → key ≡ row_key heads n
    → new ≡ old ++ marked key d (stmt_of names s) (marks (suc d) (stmt_of names s))
    → new ++ marks_row heads d (n + 1) (list_of names (drop (n + 1) xs)) ≡ old ++ marks_row heads d n (list_of names (drop n xs))
row_next heads d names xs n s key old new h is k e =
    let t = stmt_of names s in
    let rest = list_of names (drop (n + 1) xs) in
    ap (λ ms. ms ++ marks_row heads d (n + 1) rest) e
    ∙ append_assoc old (marked key d t (marks (suc d) t)) (marks_row heads d (n + 1) rest)
    ∙ ap (λ j. old ++ (marked j d t (marks (suc d) t) ++ marks_row heads d (n + 1) rest)) k
    ∙ ap (λ j. old ++ (marked (row_key heads n) d t (marks (suc d) t) ++ marks_row heads d j rest)) (add-one n)
    ∙ ap (λ ss. old ++ marks_row heads d n ss) (sym (row_more names xs n s h is))

-- behind the last one
pub row_done : (heads : Bool) (d : ℕ) (names : Names) (xs : List Statement) (n : ℕ) (old : List Mark) → length xs ≤ n → old ≡ old ++ marks_row heads d n (list_of names (drop n xs))
row_done heads d names xs n old h = sym (append-nil old) ∙ ap (λ ss. old ++ marks_row heads d n ss) (sym (row_end names xs n h))

-- ---- single statements

marked_some : (k : Key) (d c : ℕ) (own : Option (Text × Ty)) (inner : List Mark) → 0 < c → marked_if c k d own inner ≡ record { depth = d; key = k; count = capped c; own = own } ∷ inner
marked_some k d zero own inner h = absurd (omega arith)
marked_some k d (suc c) own inner h = refl

noted : (old pushed new : List Mark) (k : Key) (d e c : ℕ) (own : Option (Text × Ty)) (t : Stmt) → pushed ≡ old ++ record { depth = d; key = k; count = c; own = own } ∷ [] → e ≡ suc d → c ≡ capped (declared t)
    → own ≡ own_of t → 0 < c → new ≡ pushed ++ marks e t → new ≡ old ++ marked k d t (marks (suc d) t)
noted old pushed new k d e c own t push deep count is some made =
    let h : 0 < declared t = omega (arith, count, some) in
    made
    ∙ ap (λ ms. ms ++ marks e t) push
    ∙ append_assoc old (record { depth = d; key = k; count = c; own = own } ∷ []) (marks e t)
    ∙ ap (λ i. old ++ record { depth = d; key = k; count = c; own = own } ∷ marks i t) deep
    ∙ ap (λ i. old ++ record { depth = d; key = k; count = i; own = own } ∷ marks (suc d) t) count
    ∙ ap (λ w. old ++ record { depth = d; key = k; count = capped (declared t); own = w } ∷ marks (suc d) t) is
    ∙ ap (λ ms. old ++ ms) (sym (marked_some k d (declared t) (own_of t) (marks (suc d) t) h))

-- ---- what the code notes, where there was memory

pub note_ok : {A E : Type 0} (r : Result A E) (new mid old : List G.Mark) (k : Key) (d e c : ℕ) (own : Option Declared) (s : Statement)
    → mid ≡ old ++ record { depth = d; key = k; count = c; own = own } ∷ [] → e ≡ suc d → ((names : Names) → c ≡ capped (declared (stmt_of names s))) → ((names : Names) → declared_seen names own ≡ own_of (stmt_of names s)) → 0 < c
    → OnOk r ((names : Names) → marks_seen names new ≡ marks_seen names mid ++ marks e (stmt_of names s))
    → OnOk r ((names : Names) → marks_seen names new ≡ marks_seen names old ++ marked k d (stmt_of names s) (marks (suc d) (stmt_of names s)))
note_ok (Ok a) new mid old k d e c own s push deep count is some made = λ names.
    let m : G.Mark = record { depth = d; key = k; count = c; own = own } in
    noted (marks_seen names old) (marks_seen names mid) (marks_seen names new) k d e c (declared_seen names own) (stmt_of names s) (ap (marks_seen names) push ∙ map-append (mark_seen names) old (m ∷ [])) deep (count names) (is names) some (made names)
note_ok (Err a) new mid old k d e c own s push deep count is some made = made

pub block_ok : {A E : Type 0} (r : Result A E) (new old : List G.Mark) (d : ℕ) (s : Statement) (place : Place) (inner : Vec Statement Global) (xs : List Statement) → s ≡ T.Block place inner → xs ≡ inner.items
    → OnOk r ((names : Names) → marks_seen names new ≡ marks_seen names old ++ marks_row false d 0 (list_of names xs))
    → OnOk r ((names : Names) → marks_seen names new ≡ marks_seen names old ++ marks d (stmt_of names s))
block_ok (Ok a) new old d s place inner xs is row made = λ names.
    made names
    ∙ ap (λ ys. marks_seen names old ++ marks_row false d 0 (list_of names ys)) row
    ∙ ap (λ t. marks_seen names old ++ marks d t) (sym (block_seen names s place inner is))
block_ok (Err a) new old d s place inner xs is row made = made

pub for_ok : {A E : Type 0} (r : Result A E) (new mid old : List G.Mark) (d : ℕ) (s : Statement) (place : Place) (first : Vec Statement Global) (test : Option GExpr.Expr) (step : Option (Box Statement Global)) (body : Box Statement Global) (xs : List Statement) (b : Statement)
    → s ≡ T.For place first test step body → xs ≡ first.items → b ≡ body.value
    → ((names : Names) → marks_seen names mid ≡ marks_seen names old ++ marks_row true d 0 (list_of names xs))
    → OnOk r ((names : Names) → marks_seen names new ≡ marks_seen names mid ++ marked K.Body d (stmt_of names b) (marks (suc d) (stmt_of names b)))
    → OnOk r ((names : Names) → marks_seen names new ≡ marks_seen names old ++ marks d (stmt_of names s))
for_ok (Ok a) new mid old d s place first test step body xs b is row inner begun made = λ names.
    let last : Statement → List Mark = λ y. marked K.Body d (stmt_of names y) (marks (suc d) (stmt_of names y)) in
    made names
    ∙ ap (λ ms. ms ++ last b) (begun names)
    ∙ append_assoc (marks_seen names old) (marks_row true d 0 (list_of names xs)) (last b)
    ∙ ap (λ ys. marks_seen names old ++ (marks_row true d 0 (list_of names ys) ++ last b)) row
    ∙ ap (λ (y : Statement). marks_seen names old ++ (marks_row true d 0 (list_of names first.items) ++ last y)) inner
    ∙ ap (λ t. marks_seen names old ++ marks d t) (sym (for_seen names s place first test step body is))
for_ok (Err a) new mid old d s place first test step body xs b is row inner begun made = made
