-- What a name stands for at a path is what the marks of the body give.
use Rattle.std.proofs.Common.{◌≡◌, ℕ, zero, suc, ◌+◌, ◌≤◌, Bool, true, false, List, [], ◌∷◌, ◌++◌, refl, sym, ap, ◌∙◌, arith, append_assoc, append-nil}
use Rattle.std.specs.Ordering.{nat_cmp}
use Rattle.cpc_base.specs.Bytes.{Text}
use Rattle.cpc_base.proofs.Truth.{order_above}
use Rattle.cpc_tree.specs.Syntax as S
use Rattle.cpc_tree.specs.Syntax.{Stmt, Stmts, NoStmt, AndStmt, MaybeStmt, Absent, Present}
use Rattle.cpc_tree.specs.Points.{Path, Nth, TheTest, TheYes, TheNo, TheStep, TheBody, declared}
use Rattle.cpc_eval_values.specs.Counted.{capped}
use Rattle.cpc_eval_locals.specs.declared.marks.Key.TheVariants as K
use Rattle.cpc_eval_locals.specs.Held.{Held, held_after, held_behind, count_behind, held_at, held_in, held_arm}
use Rattle.cpc_eval_locals.specs.Marks.{Mark, own_of, marked, row_key, marks, marks_row, marks_arm, by_order, Down, Past, Off, row_way, way, own_after, look}
use Rattle.cpc_eval_locals.proofs.Marking.{again, order_less, order_same, Ends, ends_marked, ends_row, ends_arm, Stops, off_marked, off_row, off_arm}
use Rattle.cpc_eval_locals.proofs.Passing.{stays, leaves, down, after_own, behind, capped_behind}

-- the n-th of a row, also at the head of a loop
way_row : (heads : Bool) (i k : ℕ) (p : Path) → way (row_key heads i) (Nth k ∷ p) ≡ row_way i k p
way_row true i k p = refl
way_row false i k p = refl

way_here : (heads : Bool) (i k : ℕ) (p : Path) → k ≡ i → way (row_key heads i) (Nth k ∷ p) ≡ Down p
way_here heads i k p e = way_row heads i k p ∙ ap (λ r. by_order r (Past true) (Down p) Off) (ap (nat_cmp i) e ∙ order_same i)

way_past : (heads : Bool) (i k j : ℕ) (p : Path) → k ≡ i + suc j → way (row_key heads i) (Nth k ∷ p) ≡ Past true
way_past heads i k j p e = way_row heads i k p ∙ ap (λ r. by_order r (Past true) (Down p) Off) (order_less i k (omega (arith, e)))

way_off : (heads : Bool) (i k : ℕ) (p : Path) → k ≡ i → (j : ℕ) → suc i ≤ j → way (row_key heads j) (Nth k ∷ p) ≡ Off
way_off heads i k p e j h = way_row heads j k p ∙ ap (λ r. by_order r (Past true) (Down p) Off) (order_above j k (omega (arith, e, h)))

deeper : (d : ℕ) (rest : List Mark) → Ends d rest → Ends (suc d) rest
deeper d rest f = λ e h. f e (omega arith)

here : (d : ℕ) (p : Path) (rest : List Mark) → Ends d rest → Stops d p rest
here d p rest f = λ x n o. f d (omega arith) x n o p

-- into the body of a loop, or the statement that a label is put before
into_body : (x : Text) (n : ℕ) (o : Held) (d : ℕ) (rest : List Mark) → Ends d rest → (s : Stmt) (p : Path) → look x n (own_after x n o (own_of s)) (suc d) p (marks (suc d) s ++ rest) ≡ held_at x n o s p
    → look x n o d (TheBody ∷ p) (marked K.Body d s (marks (suc d) s) ++ rest) ≡ held_at x n o s p
into_body x n o d rest f s p inner = down d (TheBody ∷ p) p K.Body refl s (declared s) refl x n o rest (deeper d rest f) (here d (TheBody ∷ p) rest f) inner

mutual
  meets : (x : Text) (n : ℕ) (o : Held) (d : ℕ) (rest : List Mark) → n ≡ capped n → Ends d rest → (s : Stmt) (p : Path) → look x n (own_after x n o (own_of s)) d p (marks d s ++ rest) ≡ held_at x n o s p
  meets x n o d rest c f (S.Block ss) (Nth k ∷ p) = in_row x n o d rest c (deeper d rest f) k p (here d (Nth k ∷ p) rest f) false 0 ss k (omega arith)
  meets x n o d rest c f (S.Block ss) p = off_row d p false 0 (λ j h. refl) ss rest (here d p rest f) x n o
  meets x n o d rest c f (S.If t a b) (TheYes ∷ p) =
      ap (look x n o d (TheYes ∷ p)) (append_assoc (marked K.Yes d a (marks (suc d) a)) (marks_arm d b) rest)
      ∙ down d (TheYes ∷ p) p K.Yes refl a (declared a) refl x n o (marks_arm d b ++ rest) (ends_arm d b rest (deeper d rest f)) (off_arm d (TheYes ∷ p) refl b rest (here d (TheYes ∷ p) rest f))
      (meets x n o (suc d) (marks_arm d b ++ rest) c (ends_arm d b rest (deeper d rest f)) a p)
  meets x n o d rest c f (S.If t a b) (TheNo ∷ p) =
      ap (look x n o d (TheNo ∷ p)) (append_assoc (marked K.Yes d a (marks (suc d) a)) (marks_arm d b) rest)
      ∙ leaves d (TheNo ∷ p) K.Yes refl a (declared a) refl x n o (marks_arm d b ++ rest) c
      ∙ in_arm x (capped (n + declared a)) o d rest (again n (declared a)) f b p
  meets x n o d rest c f (S.If t a b) p =
      ap (look x n o d p) (append_assoc (marked K.Yes d a (marks (suc d) a)) (marks_arm d b) rest)
      ∙ off_marked d p K.Yes refl (declared a) (own_of a) (marks (suc d) a) (marks_arm d b ++ rest) (off_arm d p refl b rest (here d p rest f)) x n o
  meets x n o d rest c f (S.While t s) (TheBody ∷ p) = into_body x n o d rest f s p (meets x n o (suc d) rest c (deeper d rest f) s p)
  meets x n o d rest c f (S.While t s) p = off_marked d p K.Body refl (declared s) (own_of s) (marks (suc d) s) rest (here d p rest f) x n o
  meets x n o d rest c f (S.DoWhile s t) (TheBody ∷ p) = into_body x n o d rest f s p (meets x n o (suc d) rest c (deeper d rest f) s p)
  meets x n o d rest c f (S.DoWhile s t) p = off_marked d p K.Body refl (declared s) (own_of s) (marks (suc d) s) rest (here d p rest f) x n o
  meets x n o d rest c f (S.For first t step s) (Nth k ∷ p) =
      ap (look x n o d (Nth k ∷ p)) (append_assoc (marks_row true d 0 first) (marked K.Body d s (marks (suc d) s)) rest)
      ∙ in_row x n o d (marked K.Body d s (marks (suc d) s) ++ rest) c (ends_marked d K.Body (declared s) (own_of s) (marks (suc d) s) rest (deeper d rest f)) k p
      (off_marked d (Nth k ∷ p) K.Body refl (declared s) (own_of s) (marks (suc d) s) rest (here d (Nth k ∷ p) rest f)) true 0 first k (omega arith)
  meets x n o d rest c f (S.For first t step s) (TheTest ∷ p) =
      ap (look x n o d (TheTest ∷ p)) (append_assoc (marks_row true d 0 first) (marked K.Body d s (marks (suc d) s)) rest)
      ∙ behind d (TheTest ∷ p) (λ i. refl) 0 first x n o (marked K.Body d s (marks (suc d) s) ++ rest) c
      ∙ off_marked d (TheTest ∷ p) K.Body refl (declared s) (own_of s) (marks (suc d) s) rest (here d (TheTest ∷ p) rest f) x (count_behind n first) (held_behind x n o first)
  meets x n o d rest c f (S.For first t step s) (TheStep ∷ p) =
      ap (look x n o d (TheStep ∷ p)) (append_assoc (marks_row true d 0 first) (marked K.Body d s (marks (suc d) s)) rest)
      ∙ behind d (TheStep ∷ p) (λ i. refl) 0 first x n o (marked K.Body d s (marks (suc d) s) ++ rest) c
      ∙ off_marked d (TheStep ∷ p) K.Body refl (declared s) (own_of s) (marks (suc d) s) rest (here d (TheStep ∷ p) rest f) x (count_behind n first) (held_behind x n o first)
  meets x n o d rest c f (S.For first t step s) (TheBody ∷ p) =
      ap (look x n o d (TheBody ∷ p)) (append_assoc (marks_row true d 0 first) (marked K.Body d s (marks (suc d) s)) rest)
      ∙ behind d (TheBody ∷ p) (λ i. refl) 0 first x n o (marked K.Body d s (marks (suc d) s) ++ rest) c
      ∙ into_body x (count_behind n first) (held_behind x n o first) d rest f s p (meets x (count_behind n first) (held_behind x n o first) (suc d) rest (capped_behind n first c) (deeper d rest f) s p)
  meets x n o d rest c f (S.For first t step s) p =
      ap (look x n o d p) (append_assoc (marks_row true d 0 first) (marked K.Body d s (marks (suc d) s)) rest)
      ∙ off_row d p true 0 (λ j h. refl) first (marked K.Body d s (marks (suc d) s) ++ rest) (off_marked d p K.Body refl (declared s) (own_of s) (marks (suc d) s) rest (here d p rest f)) x n o
  meets x n o d rest c f (S.Label l s) (TheBody ∷ p) = into_body x n o d rest f s p (meets x n o (suc d) rest c (deeper d rest f) s p)
  meets x n o d rest c f (S.Label l s) p = off_marked d p K.Body refl (declared s) (own_of s) (marks (suc d) s) rest (here d p rest f) x n o
  meets x n o d rest c f (S.Declare y t start) p = f d (omega arith) x n (own_after x n o (own_of (S.Declare y t start))) p
  meets x n o d rest c f _ p = f d (omega arith) x n o p

  in_row : (x : Text) (n : ℕ) (o : Held) (d : ℕ) (rest : List Mark) → n ≡ capped n → Ends (suc d) rest → (k : ℕ) (p : Path) → Stops d (Nth k ∷ p) rest → (heads : Bool) (i : ℕ) (ss : Stmts) (j : ℕ) → k ≡ i + j
      → look x n o d (Nth k ∷ p) (marks_row heads d i ss ++ rest) ≡ held_in x n o ss j p
  in_row x n o d rest c f k p g heads i (AndStmt s ss) zero e =
      let w : k ≡ i = omega (arith, e) in
      ap (look x n o d (Nth k ∷ p)) (append_assoc (marked (row_key heads i) d s (marks (suc d) s)) (marks_row heads d (suc i) ss) rest)
      ∙ down d (Nth k ∷ p) p (row_key heads i) (way_here heads i k p w) s (declared s) refl x n o (marks_row heads d (suc i) ss ++ rest) (ends_row d heads (suc i) ss rest f)
      (off_row d (Nth k ∷ p) heads (suc i) (way_off heads i k p w) ss rest g)
      (meets x n o (suc d) (marks_row heads d (suc i) ss ++ rest) c (ends_row d heads (suc i) ss rest f) s p)
  in_row x n o d rest c f k p g heads i (AndStmt s ss) (suc j) e =
      ap (look x n o d (Nth k ∷ p)) (append_assoc (marked (row_key heads i) d s (marks (suc d) s)) (marks_row heads d (suc i) ss) rest)
      ∙ stays d (Nth k ∷ p) (row_key heads i) (way_past heads i k j p e) s (declared s) refl x n o (marks_row heads d (suc i) ss ++ rest) c
      ∙ ap (λ q. look x (capped (n + declared s)) q d (Nth k ∷ p) (marks_row heads d (suc i) ss ++ rest)) (after_own x n o s)
      ∙ in_row x (capped (n + declared s)) (held_after x n o s) d rest (again n (declared s)) f k p g heads (suc i) ss j (omega (arith, e))
  in_row x n o d rest c f k p g heads i NoStmt j e = g x n o

  in_arm : (x : Text) (n : ℕ) (o : Held) (d : ℕ) (rest : List Mark) → n ≡ capped n → Ends d rest → (b : MaybeStmt) (p : Path) → look x n o d (TheNo ∷ p) (marks_arm d b ++ rest) ≡ held_arm x n o b p
  in_arm x n o d rest c f Absent p = here d (TheNo ∷ p) rest f x n o
  in_arm x n o d rest c f (Present s) p = down d (TheNo ∷ p) p K.No refl s (declared s) refl x n o rest (deeper d rest f) (here d (TheNo ∷ p) rest f) (meets x n o (suc d) rest c (deeper d rest f) s p)

-- the marks of a statement give what a name stands for at each path of it
pub looked : (x : Text) (n : ℕ) (o : Held) (s : Stmt) (p : Path) → n ≡ capped n → look x n (own_after x n o (own_of s)) 0 p (marks 0 s) ≡ held_at x n o s p
looked x n o s p c = ap (look x n (own_after x n o (own_of s)) 0 p) (sym (append-nil (marks 0 s))) ∙ meets x n o 0 [] c (λ e h x n o p. refl) s p
