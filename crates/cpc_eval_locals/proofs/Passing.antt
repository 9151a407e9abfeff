-- Marks along a path: past a part and into it.
use Rattle.std.proofs.Common.{◌≡◌, ℕ, zero, suc, ◌+◌, Bool, true, false, List, [], ◌++◌, length, None, refl, sym, ap, ◌∙◌, arith, length-append, append_assoc}
use Rattle.cpc_base.specs.Bytes.{Text}
use Rattle.cpc_tree.specs.Syntax as S
use Rattle.cpc_tree.specs.Syntax.{Stmt, Stmts, NoStmt, AndStmt, MaybeStmt, Absent, Present}
use Rattle.cpc_tree.specs.Points.{Path, declared, locals, locals_in, locals_arm}
use Rattle.cpc_eval_values.specs.Counted.{capped}
use Rattle.cpc_eval_locals.specs.declared.marks.Key.{Key}
use Rattle.cpc_eval_locals.specs.declared.marks.Key.TheVariants as K
use Rattle.cpc_eval_locals.specs.Held.{Held, held_after, held_behind, count_behind, held_at}
use Rattle.cpc_eval_locals.specs.Marks.{Mark, own_of, marked_if, marked, row_key, marks, marks_row, marks_arm, Down, Past, way, own_after, look}
use Rattle.cpc_eval_locals.proofs.Marking.{again, twice, order_same, look_way, deep, Ends, Stops}

-- ---- a statement that declares none

own_none : (s : Stmt) → declared s ≡ 0 → own_of s ≡ None
own_none (S.Declare y t start) e = absurd (omega (arith, e))
own_none _ e = refl

no_marked : (k : Key) (d : ℕ) (s : Stmt) (inner : List Mark) → declared s ≡ 0 → marked k d s inner ≡ []
no_marked k d s inner e = ap (λ c. marked_if c k d (own_of s) inner) e

no_row : (heads : Bool) (d i : ℕ) (ss : Stmts) → length (locals_in ss) ≡ 0 → marks_row heads d i ss ≡ []
no_row heads d i NoStmt e = refl
no_row heads d i (AndStmt s ss) e =
    let l : length (locals s ++ locals_in ss) ≡ declared s + length (locals_in ss) = length-append (locals s) (locals_in ss) in
    let a : declared s ≡ 0 = omega (arith, l, e) in
    let b : length (locals_in ss) ≡ 0 = omega (arith, l, e) in
    ap (λ ms. ms ++ marks_row heads d (suc i) ss) (no_marked (row_key heads i) d s (marks (suc d) s) a) ∙ no_row heads d (suc i) ss b

no_arm : (d : ℕ) (b : MaybeStmt) → length (locals_arm b) ≡ 0 → marks_arm d b ≡ []
no_arm d Absent e = refl
no_arm d (Present s) e = no_marked K.No d s (marks (suc d) s) e

no_marks : (d : ℕ) (s : Stmt) → declared s ≡ 0 → marks d s ≡ []
no_marks d (S.Block ss) e = no_row false d 0 ss e
no_marks d (S.If t a b) e =
    let l : length (locals a ++ locals_arm b) ≡ declared a + length (locals_arm b) = length-append (locals a) (locals_arm b) in
    let f : declared a ≡ 0 = omega (arith, l, e) in
    let g : length (locals_arm b) ≡ 0 = omega (arith, l, e) in
    ap (λ ms. ms ++ marks_arm d b) (no_marked K.Yes d a (marks (suc d) a) f) ∙ no_arm d b g
no_marks d (S.While t s) e = no_marked K.Body d s (marks (suc d) s) e
no_marks d (S.DoWhile s t) e = no_marked K.Body d s (marks (suc d) s) e
no_marks d (S.For first t step s) e =
    let l : length (locals_in first ++ locals s) ≡ length (locals_in first) + declared s = length-append (locals_in first) (locals s) in
    let f : length (locals_in first) ≡ 0 = omega (arith, l, e) in
    let g : declared s ≡ 0 = omega (arith, l, e) in
    ap (λ ms. ms ++ marked K.Body d s (marks (suc d) s)) (no_row true d 0 first f) ∙ no_marked K.Body d s (marks (suc d) s) g
no_marks d (S.Label l s) e = no_marked K.Body d s (marks (suc d) s) e
no_marks d _ e = refl

-- ---- past a part, and into it

pub stays : (d : ℕ) (p : Path) (k : Key) → way k p ≡ Past true → (s : Stmt) (c : ℕ) → declared s ≡ c → (x : Text) (n : ℕ) (o : Held) (rest : List Mark) → n ≡ capped n
    → look x n o d p (marked_if c k d (own_of s) (marks (suc d) s) ++ rest) ≡ look x (capped (n + c)) (own_after x n o (own_of s)) d p rest
stays d p k w s zero e x n o rest small =
    let z : n ≡ capped (n + 0) = omega (arith, small) in
    ap (λ i. look x i o d p rest) z ∙ ap (λ own. look x (capped (n + 0)) (own_after x n o own) d p rest) (sym (own_none s e))
stays d p k w s (suc c) e x n o rest small =
    let m : Mark = record { depth = d; key = k; count = capped (suc c); own = own_of s } in
    look_way x n o d p m (marks (suc d) s ++ rest) (Past true) (order_same d) w
    ∙ deep d (suc d) (omega arith) s x (capped (n + capped (suc c))) (own_after x n o (own_of s)) p rest
    ∙ ap (λ i. look x i (own_after x n o (own_of s)) d p rest) (twice n (suc c))

pub leaves : (d : ℕ) (p : Path) (k : Key) → way k p ≡ Past false → (s : Stmt) (c : ℕ) → declared s ≡ c → (x : Text) (n : ℕ) (o : Held) (rest : List Mark) → n ≡ capped n
    → look x n o d p (marked_if c k d (own_of s) (marks (suc d) s) ++ rest) ≡ look x (capped (n + c)) o d p rest
leaves d p k w s zero e x n o rest small =
    let z : n ≡ capped (n + 0) = omega (arith, small) in
    ap (λ i. look x i o d p rest) z
leaves d p k w s (suc c) e x n o rest small =
    let m : Mark = record { depth = d; key = k; count = capped (suc c); own = own_of s } in
    look_way x n o d p m (marks (suc d) s ++ rest) (Past false) (order_same d) w
    ∙ deep d (suc d) (omega arith) s x (capped (n + capped (suc c))) o p rest
    ∙ ap (λ i. look x i o d p rest) (twice n (suc c))

pub down : (d : ℕ) (p q : Path) (k : Key) → way k p ≡ Down q → (s : Stmt) (c : ℕ) → declared s ≡ c → (x : Text) (n : ℕ) (o : Held) (rest : List Mark) → Ends (suc d) rest → Stops d p rest
    → look x n (own_after x n o (own_of s)) (suc d) q (marks (suc d) s ++ rest) ≡ held_at x n o s q
    → look x n o d p (marked_if c k d (own_of s) (marks (suc d) s) ++ rest) ≡ held_at x n o s q
down d p q k w s zero e x n o rest ends stops inner =
    stops x n o
    ∙ sym (ends (suc d) (omega arith) x n o q)
    ∙ ap (λ own. look x n (own_after x n o own) (suc d) q rest) (sym (own_none s e))
    ∙ ap (λ ms. look x n (own_after x n o (own_of s)) (suc d) q (ms ++ rest)) (sym (no_marks (suc d) s e))
    ∙ inner
down d p q k w s (suc c) e x n o rest ends stops inner =
    let m : Mark = record { depth = d; key = k; count = capped (suc c); own = own_of s } in
    look_way x n o d p m (marks (suc d) s ++ rest) (Down q) (order_same d) w ∙ inner

-- ---- past a row

pub after_own : (x : Text) (n : ℕ) (o : Held) (s : Stmt) → own_after x n o (own_of s) ≡ held_after x n o s
after_own x n o (S.Declare y t start) = refl
after_own x n o _ = refl

pub behind : (d : ℕ) (p : Path) → ((i : ℕ) → way (K.Head i) p ≡ Past true) → (i : ℕ) (ss : Stmts) (x : Text) (n : ℕ) (o : Held) (rest : List Mark) → n ≡ capped n
    → look x n o d p (marks_row true d i ss ++ rest) ≡ look x (count_behind n ss) (held_behind x n o ss) d p rest
behind d p w i NoStmt x n o rest small = refl
behind d p w i (AndStmt s ss) x n o rest small =
    ap (look x n o d p) (append_assoc (marked (K.Head i) d s (marks (suc d) s)) (marks_row true d (suc i) ss) rest)
    ∙ stays d p (K.Head i) (w i) s (declared s) refl x n o (marks_row true d (suc i) ss ++ rest) small
    ∙ ap (λ q. look x (capped (n + declared s)) q d p (marks_row true d (suc i) ss ++ rest)) (after_own x n o s)
    ∙ behind d p w (suc i) ss x (capped (n + declared s)) (held_after x n o s) rest (again n (declared s))

pub capped_behind : (n : ℕ) (ss : Stmts) → n ≡ capped n → count_behind n ss ≡ capped (count_behind n ss)
capped_behind n NoStmt small = small
capped_behind n (AndStmt s ss) small = capped_behind (capped (n + declared s)) ss (again n (declared s))
