-- The statements of a body that declare locals, themselves or in their parts, in the order of the text.
use Rattle.std.specs.Prelude.{ℕ, zero, suc, ◌+◌, Bool, true, false, if◌then◌else◌, List, [], ◌∷◌, ◌++◌, Option, Some, None, bytes_eq}
use Rattle.std.specs.Ordering.{nat_cmp}
use Rattle.std.specs.declared.cmp.Ordering.{Ordering}
use Rattle.std.specs.declared.cmp.Ordering.TheVariants.{Less, Equal, Greater}
use Rattle.cpc_base.specs.Bytes.{Text}
use Rattle.cpc_tree.specs.Syntax.{Ty, Stmt, Block, Declare, If, While, DoWhile, For, Label, Stmts, NoStmt, AndStmt, MaybeStmt, Absent, Present}
use Rattle.cpc_tree.specs.Points.{Path, Nth, TheTest, TheYes, TheNo, TheStep, TheBody, declared}
use Rattle.cpc_eval_values.specs.Counted.{capped}
use Rattle.cpc_eval_locals.specs.Held.{Held}
use Rattle.cpc_eval_locals.specs.declared.marks.Key.{Key}
use Rattle.cpc_eval_locals.specs.declared.marks.Key.TheVariants as K

-- a statement that declares some: how deep it stands, which part it is of the statement around it, how many locals it declares in all, and the one that it is
pub record Mark : Type 0 where
  pub depth : ℕ
  pub key : Key
  pub count : ℕ
  pub own : Option (Text × Ty)

-- ---- the marks of a statement

-- the local that a statement is
abbrev pub own_of : Stmt → Option (Text × Ty)
own_of (Declare y t start) = Some (y, t)
own_of _ = None

-- a part that declares some has a mark, and behind it those of its own parts
abbrev pub marked_if : (count : ℕ) → Key → ℕ → Option (Text × Ty) → List Mark → List Mark
marked_if zero k d own inner = []
marked_if (suc n) k d own inner = record { depth = d; key = k; count = capped (suc n); own = own } ∷ inner

abbrev pub marked : Key → ℕ → Stmt → List Mark → List Mark
marked k d s inner = marked_if (declared s) k d (own_of s) inner

-- which part the n-th of a row is; the rows at the heads of loops are told from others
abbrev pub row_key : (heads : Bool) → ℕ → Key
row_key true n = K.Head n
row_key false n = K.Row n

abbrev mutual
  -- those of the parts of a statement, which stand so deep
  pub marks : ℕ → Stmt → List Mark
  marks d (Block ss) = marks_row false d 0 ss
  marks d (If t a b) = marked K.Yes d a (marks (suc d) a) ++ marks_arm d b
  marks d (While t s) = marked K.Body d s (marks (suc d) s)
  marks d (DoWhile s t) = marked K.Body d s (marks (suc d) s)
  marks d (For first t step s) = marks_row true d 0 first ++ marked K.Body d s (marks (suc d) s)
  marks d (Label l s) = marked K.Body d s (marks (suc d) s)
  marks d _ = []

  -- of a row, whose first is the n-th
  pub marks_row : Bool → ℕ → ℕ → Stmts → List Mark
  marks_row heads d n NoStmt = []
  marks_row heads d n (AndStmt s ss) = marked (row_key heads n) d s (marks (suc d) s) ++ marks_row heads d (suc n) ss

  pub marks_arm : ℕ → MaybeStmt → List Mark
  marks_arm d Absent = []
  marks_arm d (Present s) = marked K.No d s (marks (suc d) s)

-- ---- what a name stands for, by marks

-- one of three, by how two numbers compare
abbrev pub by_order : {A : Type 0} → Ordering → (less same more : A) → A
by_order Less a b c = a
by_order Equal a b c = b
by_order Greater a b c = c

-- how a path goes at a part: into it, past it, where a local that the part is may stay in scope, or elsewhere
pub data Way : Type 0 where
  Down : Path → Way
  Past : (stays : Bool) → Way
  Off : Way

abbrev pub row_way : ℕ → ℕ → Path → Way
row_way i k p = by_order (nat_cmp i k) (Past true) (Down p) Off

abbrev pub way : Key → Path → Way
way (K.Row i) (Nth k ∷ p) = row_way i k p
way (K.Head i) (Nth k ∷ p) = row_way i k p
way (K.Head i) (TheTest ∷ p) = Past true
way (K.Head i) (TheStep ∷ p) = Past true
way (K.Head i) (TheBody ∷ p) = Past true
way K.Yes (TheYes ∷ p) = Down p
way K.Yes (TheNo ∷ p) = Past false
way K.No (TheNo ∷ p) = Down p
way K.Body (TheBody ∷ p) = Down p
way _ _ = Off

abbrev pub by_way : Way → (down : Path → Held) → (stays leaves : Held) → (off : Held) → Held
by_way (Down p) f a b o = f p
by_way (Past true) f a b o = a
by_way (Past false) f a b o = b
by_way Off f a b o = o

-- what a name stands for behind a local, where n come before it
abbrev pub own_after : Text → ℕ → Held → Option (Text × Ty) → Held
own_after x n o None = o
own_after x n o (Some f) = if bytes_eq f.0 x then Some (n, f.1) else o

-- what it stands for at a path from such a depth on, by the marks from there on
abbrev pub look : Text → ℕ → Held → ℕ → Path → List Mark → Held
look x n o d p [] = o
look x n o d p (m ∷ ms) = by_order (nat_cmp d m.depth)
    (look x n o d p ms)
    (by_way (way m.key p) (λ q. look x n (own_after x n o m.own) (suc d) q ms) (look x (capped (n + m.count)) (own_after x n o m.own) d p ms) (look x (capped (n + m.count)) o d p ms) o)
    o
