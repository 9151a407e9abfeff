-- The labels that are noted with their numbers lead where a goto leads.
use Rattle.std.proofs.Common.{◌≡◌, ℕ, ◌+◌, Bool, true, false, List, [], ◌∷◌, ◌++◌, length, Option, Some, None, option_map, cond, bytes_eq, refl, sym, ◌∙◌, ap, arith}
use Rattle.cpc_base.specs.Bytes.{Text}
use Rattle.cpc_base.specs.Lists.{or_place}
use Rattle.cpc_tree.specs.Syntax.{Stmt, Block, Empty, Declare, Assign, Call, Detach, Spawn, If, While, DoWhile, For, Goto, Label, Break, Continue, Return, Stmts, NoStmt, AndStmt, MaybeStmt, Absent, Present}
use Rattle.cpc_tree.specs.Points.{Part, Nth, TheTest, TheYes, TheNo, TheStep, TheBody, Path, enter, path_under, path_later, or_else, labelled, labelled_in, labelled_arm}
use Rattle.cpc_forms.specs.Order.{points_of, number, number_in, number_arm}
use Rattle.cpc_forms.specs.Table.{test_of, body_of, Marked, labels_of, labels_in, labels_arm, marked}
use Rattle.cpc_graph_laws.proofs.MoreFacts.{enter_number}

marked_case : (b : Bool) (n : ℕ) (o : Option ℕ) (r : Option ℕ) → cond b (Some n) (or_place o r) ≡ or_place (cond b (Some n) o) r
marked_case true n o r = refl
marked_case false n o r = refl

-- of two lists
marked_both : (xs ys : List Marked) (l : Text) → marked (xs ++ ys) l ≡ or_place (marked xs l) (marked ys l)
marked_both [] ys l = refl
marked_both (m ∷ xs) ys l = ap (λ o. cond (bytes_eq m.0 l) (Some m.1) o) (marked_both xs ys l) ∙ marked_case (bytes_eq m.0 l) m.1 (marked xs l) (marked ys l)

module _ (num : Path → ℕ) where
  -- a path in a part, by its number there
  under_number : (part : Part) (num' : Path → ℕ) → ((path : Path) → num (part ∷ path) ≡ num' path) → (o : Option Path) → option_map num (path_under part o) ≡ option_map num' o
  under_number part num' e None = refl
  under_number part num' e (Some path) = ap (λ n. Some n) (e path)

  or_else_number : (o r : Option Path) → option_map num (or_else o r) ≡ or_place (option_map num o) (option_map num r)
  or_else_number None r = refl
  or_else_number (Some path) r = refl

-- a path that begins in a row
abbrev IsRowPath : Option Path → Type 0
IsRowPath None = Unit {0}
IsRowPath (Some (Nth k ∷ path)) = Unit {0}
IsRowPath (Some _) = ⊥

row_under : (o : Option Path) → IsRowPath (path_under (Nth 0) o)
row_under None = tt
row_under (Some path) = tt

row_later : (o : Option Path) → IsRowPath o → IsRowPath (path_later o)
row_later None r = tt
row_later (Some (Nth k ∷ path)) r = tt
row_later (Some []) r = absurd r
row_later (Some (TheTest ∷ path)) r = absurd r
row_later (Some (TheYes ∷ path)) r = absurd r
row_later (Some (TheNo ∷ path)) r = absurd r
row_later (Some (TheStep ∷ path)) r = absurd r
row_later (Some (TheBody ∷ path)) r = absurd r

row_or : (o r : Option Path) → IsRowPath o → IsRowPath r → IsRowPath (or_else o r)
row_or None r a b = b
row_or (Some path) r a b = a

row_labelled : (l : Text) (ss : Stmts) → IsRowPath (labelled_in l ss)
row_labelled l NoStmt = tt
row_labelled l (AndStmt s ss) = row_or (path_under (Nth 0) (labelled l s)) (path_later (labelled_in l ss)) (row_under (labelled l s)) (row_later (labelled_in l ss) (row_labelled l ss))

-- the numbers of a row, from n on
abbrev pub row_number : Stmts → ℕ → Path → ℕ
row_number ss n (Nth k ∷ path) = n + number_in ss k path false
row_number ss n _ = n

later_number : (s : Stmt) (ss : Stmts) (n : ℕ) (o : Option Path) → IsRowPath o → option_map (row_number (AndStmt s ss) n) (path_later o) ≡ option_map (row_number ss (n + length (points_of s))) o
later_number s ss n None r = refl
later_number s ss n (Some (Nth k ∷ path)) r = ap (λ m. Some m) (let e : n + (length (points_of s) + number_in ss k path false) ≡ n + length (points_of s) + number_in ss k path false = omega arith in e)
later_number s ss n (Some []) r = absurd r
later_number s ss n (Some (TheTest ∷ path)) r = absurd r
later_number s ss n (Some (TheYes ∷ path)) r = absurd r
later_number s ss n (Some (TheNo ∷ path)) r = absurd r
later_number s ss n (Some (TheStep ∷ path)) r = absurd r
later_number s ss n (Some (TheBody ∷ path)) r = absurd r

-- numbers that agree on a row
row_agrees : (ss : Stmts) (n : ℕ) (num : Path → ℕ) → ((k : ℕ) (path : Path) → row_number ss n (Nth k ∷ path) ≡ num (Nth k ∷ path)) → (o : Option Path) → IsRowPath o → option_map (row_number ss n) o ≡ option_map num o
row_agrees ss n num e None r = refl
row_agrees ss n num e (Some (Nth k ∷ path)) r = ap (λ m. Some m) (e k path)
row_agrees ss n num e (Some []) r = absurd r
row_agrees ss n num e (Some (TheTest ∷ path)) r = absurd r
row_agrees ss n num e (Some (TheYes ∷ path)) r = absurd r
row_agrees ss n num e (Some (TheNo ∷ path)) r = absurd r
row_agrees ss n num e (Some (TheStep ∷ path)) r = absurd r
row_agrees ss n num e (Some (TheBody ∷ path)) r = absurd r

-- the numbers of a statement, from n on
abbrev pub from : Stmt → ℕ → Path → ℕ
from s n path = n + number s path false

label_case : (b : Bool) (n : ℕ) (s : Stmt) (m : Text) (r : Option Path) → (o : Option ℕ) → o ≡ option_map (from (Label m s) n) r → cond b (Some n) o ≡ option_map (from (Label m s) n) (cond b (Some (TheBody ∷ enter s)) r)
label_case true n s m r o e = ap (λ k. Some k) (let x = enter_number s in let y : n ≡ n + number s (enter s) false = omega arith in y)
label_case false n s m r o e = e

mutual
  labels_number : (l : Text) (s : Stmt) (n : ℕ) → marked (labels_of s n) l ≡ option_map (from s n) (labelled l s)
  labels_number l (Block NoStmt) n = refl
  labels_number l (Block (AndStmt s ss)) n = labels_number_in l (AndStmt s ss) n ∙ row_agrees (AndStmt s ss) n (from (Block (AndStmt s ss)) n) (λ k path. refl) (labelled_in l (AndStmt s ss)) (row_labelled l (AndStmt s ss))
  labels_number l (If t a b) n =
      marked_both (labels_of a (n + 1)) (labels_arm b (n + 1 + length (points_of a))) l
      ∙ ap (λ o. or_place o (marked (labels_arm b (n + 1 + length (points_of a))) l))
      (labels_number l a (n + 1) ∙ sym (under_number (from (If t a b) n) TheYes (from a (n + 1)) (λ path. omega arith) (labelled l a)))
      ∙ ap (or_place (option_map (from (If t a b) n) (path_under TheYes (labelled l a))))
      (labels_number_arm l b (n + 1 + length (points_of a)) ∙ sym (under_number (from (If t a b) n) TheNo (λ path. n + 1 + length (points_of a) + number_arm b path false) (λ path. omega arith) (labelled_arm l b)))
      ∙ sym (or_else_number (from (If t a b) n) (path_under TheYes (labelled l a)) (path_under TheNo (labelled_arm l b)))
  labels_number l (While t s) n = labels_number l s (n + 1) ∙ sym (under_number (from (While t s) n) TheBody (from s (n + 1)) (λ path. omega arith) (labelled l s))
  labels_number l (DoWhile s t) n = labels_number l s n ∙ sym (under_number (from (DoWhile s t) n) TheBody (from s n) (λ path. refl) (labelled l s))
  labels_number l (For first t step s) n =
      labels_number l s (body_of step (test_of first n))
      ∙ sym (under_number (from (For first t step s) n) TheBody (from s (body_of step (test_of first n))) (λ path. omega arith) (labelled l s))
  labels_number l (Label m s) n =
      label_case (bytes_eq m l) n s m (path_under TheBody (labelled l s)) (marked (labels_of s n) l)
      (labels_number l s n ∙ sym (under_number (from (Label m s) n) TheBody (from s n) (λ path. refl) (labelled l s)))
  labels_number l Empty n = refl
  labels_number l (Declare x t start) n = refl
  labels_number l (Assign x op v) n = refl
  labels_number l (Call x f es) n = refl
  labels_number l (Detach x f es) n = refl
  labels_number l (Spawn f es) n = refl
  labels_number l (Goto m) n = refl
  labels_number l Break n = refl
  labels_number l Continue n = refl
  labels_number l (Return v) n = refl

  labels_number_in : (l : Text) (ss : Stmts) (n : ℕ) → marked (labels_in ss n) l ≡ option_map (row_number ss n) (labelled_in l ss)
  labels_number_in l NoStmt n = refl
  labels_number_in l (AndStmt s ss) n =
      marked_both (labels_of s n) (labels_in ss (n + length (points_of s))) l
      ∙ ap (λ o. or_place o (marked (labels_in ss (n + length (points_of s))) l))
      (labels_number l s n ∙ sym (under_number (row_number (AndStmt s ss) n) (Nth 0) (from s n) (λ path. refl) (labelled l s)))
      ∙ ap (or_place (option_map (row_number (AndStmt s ss) n) (path_under (Nth 0) (labelled l s))))
      (labels_number_in l ss (n + length (points_of s)) ∙ sym (later_number s ss n (labelled_in l ss) (row_labelled l ss)))
      ∙ sym (or_else_number (row_number (AndStmt s ss) n) (path_under (Nth 0) (labelled l s)) (path_later (labelled_in l ss)))

  labels_number_arm : (l : Text) (b : MaybeStmt) (n : ℕ) → marked (labels_arm b n) l ≡ option_map (λ path. n + number_arm b path false) (labelled_arm l b)
  labels_number_arm l Absent n = refl
  labels_number_arm l (Present s) n = labels_number l s n

-- a goto's label in a body
pub label_number : (l : Text) (body : Stmt) → marked (labels_of body 0) l ≡ option_map (λ path. number body path false) (labelled l body)
label_number l body = labels_number l body 0 ∙ same (labelled l body)
  where
    same : (o : Option Path) → option_map (from body 0) o ≡ option_map (λ path. number body path false) o
    same None = refl
    same (Some path) = ap (λ n. Some n) (let e : 0 + number body path false ≡ number body path false = omega arith in e)
