-- How marks are gone over: past those of other depths, past a part, and into it.
use Rattle.std.proofs.Common.{◌≡◌, ℕ, zero, suc, ◌+◌, ◌<◌, ◌≤◌, Bool, true, false, List, ◌∷◌, ◌++◌, Option, refl, sym, ap, subst, ◌∙◌, arith, append_assoc}
use Rattle.std.proofs.lemmas.Bool.Decides.{nat_tests}
use Rattle.std.specs.Ordering.{nat_cmp}
use Rattle.std.specs.declared.cmp.Ordering.{Ordering}
use Rattle.std.specs.declared.cmp.Ordering.TheVariants.{Less, Equal, Greater}
use Rattle.cpc_base.specs.Bytes.{Text}
use Rattle.cpc_base.proofs.Truth.{order_above}
use Rattle.cpc_tree.specs.Syntax as S
use Rattle.cpc_tree.specs.Syntax.{Ty, Stmt, Stmts, NoStmt, AndStmt, MaybeStmt, Absent, Present}
use Rattle.cpc_tree.specs.Points.{Path, declared}
use Rattle.cpc_eval_values.specs.Counted.{capped}
use Rattle.cpc_eval_locals.specs.declared.marks.Key.{Key}
use Rattle.cpc_eval_locals.specs.declared.marks.Key.TheVariants as K
use Rattle.cpc_eval_locals.specs.Held.{Held}
use Rattle.cpc_eval_locals.specs.Marks.{Mark, own_of, marked_if, marked, row_key, marks, marks_row, marks_arm, by_order, Way, Off, way, by_way, own_after, look}

-- ---- numbers

pub order_less : (i k : ℕ) → i < k → nat_cmp i k ≡ Less
order_less i k h = grind (arith, nat_tests)

pub order_same : (i : ℕ) → nat_cmp i i ≡ Equal
order_same i = grind (arith, nat_tests)

pub twice : (n c : ℕ) → capped (n + capped c) ≡ capped (n + c)
twice n c = omega arith

pub again : (n c : ℕ) → capped (n + c) ≡ capped (capped (n + c))
again n c = omega arith

-- ---- one mark

-- a mark, by the order of the depths and by the way of the path
abbrev pub one : Text → ℕ → Held → ℕ → Path → Mark → List Mark → Ordering → Way → Held
one x n o d p m ms r w = by_order r (look x n o d p ms) (by_way w (λ q. look x n (own_after x n o m.own) (suc d) q ms) (look x (capped (n + m.count)) (own_after x n o m.own) d p ms) (look x (capped (n + m.count)) o d p ms) o) o

module _ (x : Text) (n : ℕ) (o : Held) (d : ℕ) (p : Path) (m : Mark) (ms : List Mark) where
  pub look_less : nat_cmp d m.depth ≡ Less → look x n o d p (m ∷ ms) ≡ look x n o d p ms
  look_less h = ap (λ r. one x n o d p m ms r (way m.key p)) h

  pub look_more : nat_cmp d m.depth ≡ Greater → look x n o d p (m ∷ ms) ≡ o
  look_more h = ap (λ r. one x n o d p m ms r (way m.key p)) h

  pub look_way : (w : Way) → nat_cmp d m.depth ≡ Equal → way m.key p ≡ w → look x n o d p (m ∷ ms) ≡ one x n o d p m ms Equal w
  look_way w h e = ap (λ r. one x n o d p m ms r (way m.key p)) h ∙ ap (one x n o d p m ms Equal) e

-- ---- marks of other depths

-- marks that do not matter to what stands so deep
abbrev pub Skips : ℕ → List Mark → Type 0
Skips e ms = (x : Text) (n : ℕ) (o : Held) (p : Path) (rest : List Mark) → look x n o e p (ms ++ rest) ≡ look x n o e p rest

skips_both : (e : ℕ) (ms ns : List Mark) → Skips e ms → Skips e ns → Skips e (ms ++ ns)
skips_both e ms ns f g = λ x n o p rest. ap (look x n o e p) (append_assoc ms ns rest) ∙ f x n o p (ns ++ rest) ∙ g x n o p rest

skips_marked : (e d : ℕ) → e < d → (k : Key) (c : ℕ) (own : Option (Text × Ty)) (inner : List Mark) → Skips e inner → Skips e (marked_if c k d own inner)
skips_marked e d h k zero own inner f = λ x n o p rest. refl
skips_marked e d h k (suc c) own inner f = λ x n o p rest.
    let m : Mark = record { depth = d; key = k; count = capped (suc c); own = own } in
    look_less x n o e p m (inner ++ rest) (order_less e d h) ∙ f x n o p rest

mutual
  -- those of the parts of a statement that stands deeper
  pub deep : (e d : ℕ) → e < d → (s : Stmt) → Skips e (marks d s)
  deep e d h (S.Block ss) = deep_row e d h false 0 ss
  deep e d h (S.If t a b) = skips_both e (marked K.Yes d a (marks (suc d) a)) (marks_arm d b) (skips_marked e d h K.Yes (declared a) (own_of a) (marks (suc d) a) (deep e (suc d) (omega arith) a)) (deep_arm e d h b)
  deep e d h (S.While t s) = skips_marked e d h K.Body (declared s) (own_of s) (marks (suc d) s) (deep e (suc d) (omega arith) s)
  deep e d h (S.DoWhile s t) = skips_marked e d h K.Body (declared s) (own_of s) (marks (suc d) s) (deep e (suc d) (omega arith) s)
  deep e d h (S.For first t step s) = skips_both e (marks_row true d 0 first) (marked K.Body d s (marks (suc d) s)) (deep_row e d h true 0 first) (skips_marked e d h K.Body (declared s) (own_of s) (marks (suc d) s) (deep e (suc d) (omega arith) s))
  deep e d h (S.Label l s) = skips_marked e d h K.Body (declared s) (own_of s) (marks (suc d) s) (deep e (suc d) (omega arith) s)
  deep e d h _ = λ x n o p rest. refl

  deep_row : (e d : ℕ) → e < d → (heads : Bool) (i : ℕ) (ss : Stmts) → Skips e (marks_row heads d i ss)
  deep_row e d h heads i NoStmt = λ x n o p rest. refl
  deep_row e d h heads i (AndStmt s ss) = skips_both e (marked (row_key heads i) d s (marks (suc d) s)) (marks_row heads d (suc i) ss) (skips_marked e d h (row_key heads i) (declared s) (own_of s) (marks (suc d) s) (deep e (suc d) (omega arith) s)) (deep_row e d h heads (suc i) ss)

  deep_arm : (e d : ℕ) → e < d → (b : MaybeStmt) → Skips e (marks_arm d b)
  deep_arm e d h Absent = λ x n o p rest. refl
  deep_arm e d h (Present s) = skips_marked e d h K.No (declared s) (own_of s) (marks (suc d) s) (deep e (suc d) (omega arith) s)

-- marks that end what was found so deep or deeper
abbrev pub Ends : ℕ → List Mark → Type 0
Ends d rest = (e : ℕ) → d ≤ e → (x : Text) (n : ℕ) (o : Held) (p : Path) → look x n o e p rest ≡ o

pub ends_marked : (d : ℕ) (k : Key) (c : ℕ) (own : Option (Text × Ty)) (inner rest : List Mark) → Ends (suc d) rest → Ends (suc d) (marked_if c k d own inner ++ rest)
ends_marked d k zero own inner rest f = f
ends_marked d k (suc c) own inner rest f = λ e h x n o p.
    let m : Mark = record { depth = d; key = k; count = capped (suc c); own = own } in
    look_more x n o e p m (inner ++ rest) (order_above e d (omega arith))

pub ends_row : (d : ℕ) (heads : Bool) (i : ℕ) (ss : Stmts) (rest : List Mark) → Ends (suc d) rest → Ends (suc d) (marks_row heads d i ss ++ rest)
ends_row d heads i NoStmt rest f = f
ends_row d heads i (AndStmt s ss) rest f =
    let P : List Mark → Type 0 = Ends (suc d) in
    subst P (sym (append_assoc (marked (row_key heads i) d s (marks (suc d) s)) (marks_row heads d (suc i) ss) rest))
    (ends_marked d (row_key heads i) (declared s) (own_of s) (marks (suc d) s) (marks_row heads d (suc i) ss ++ rest) (ends_row d heads (suc i) ss rest f))

pub ends_arm : (d : ℕ) (b : MaybeStmt) (rest : List Mark) → Ends (suc d) rest → Ends (suc d) (marks_arm d b ++ rest)
ends_arm d Absent rest f = f
ends_arm d (Present s) rest f = ends_marked d K.No (declared s) (own_of s) (marks (suc d) s) rest f

-- ---- marks beside a path

-- marks that end what was found at a path
abbrev pub Stops : ℕ → Path → List Mark → Type 0
Stops d p rest = (x : Text) (n : ℕ) (o : Held) → look x n o d p rest ≡ o

pub off_marked : (d : ℕ) (p : Path) (k : Key) → way k p ≡ Off → (c : ℕ) (own : Option (Text × Ty)) (inner rest : List Mark) → Stops d p rest → Stops d p (marked_if c k d own inner ++ rest)
off_marked d p k w zero own inner rest f = f
off_marked d p k w (suc c) own inner rest f = λ x n o.
    let m : Mark = record { depth = d; key = k; count = capped (suc c); own = own } in
    look_way x n o d p m (inner ++ rest) Off (order_same d) w

pub off_row : (d : ℕ) (p : Path) (heads : Bool) (i : ℕ) → ((j : ℕ) → i ≤ j → way (row_key heads j) p ≡ Off) → (ss : Stmts) (rest : List Mark) → Stops d p rest → Stops d p (marks_row heads d i ss ++ rest)
off_row d p heads i f NoStmt rest g = g
off_row d p heads i f (AndStmt s ss) rest g =
    let P : List Mark → Type 0 = Stops d p in
    subst P (sym (append_assoc (marked (row_key heads i) d s (marks (suc d) s)) (marks_row heads d (suc i) ss) rest))
    (off_marked d p (row_key heads i) (f i (omega arith)) (declared s) (own_of s) (marks (suc d) s) (marks_row heads d (suc i) ss ++ rest) (off_row d p heads (suc i) (λ j h. f j (omega arith)) ss rest g))

pub off_arm : (d : ℕ) (p : Path) → way K.No p ≡ Off → (b : MaybeStmt) (rest : List Mark) → Stops d p rest → Stops d p (marks_arm d b ++ rest)
off_arm d p w Absent rest f = f
off_arm d p w (Present s) rest f = off_marked d p K.No w (declared s) (own_of s) (marks (suc d) s) rest f
