-- What a name stands for among the locals at a path, with numbers that stand still at the greatest of 64 bits.
use Rattle.std.specs.Prelude.{ℕ, zero, suc, ◌+◌, if◌then◌else◌, List, [], ◌∷◌, Option, Some, None, option_map, bytes_eq}
use Rattle.cpc_base.specs.Bytes.{Text}
use Rattle.cpc_tree.specs.Syntax.{Ty, Stmt, Block, Declare, If, While, DoWhile, For, Label, Stmts, NoStmt, AndStmt, MaybeStmt, Absent, Present, Parameter}
use Rattle.cpc_tree.specs.Typing.{Scope}
use Rattle.cpc_tree.specs.Points.{Path, Nth, TheTest, TheYes, TheNo, TheStep, TheBody, declared}
use Rattle.cpc_tree.specs.Registers.{or_empty}
use Rattle.cpc_eval_values.specs.Counted.{capped}

-- the number and the type of a local, where a name stands for one
abbrev pub Held : Type 0
Held = Option (ℕ × Ty)

-- what a name stands for in a scope
abbrev pub local_in : Scope → Text → Held
local_in [] x = None
local_in (l ∷ scope) x = if bytes_eq l.called x then Some (l.slot, l.type) else local_in scope x

-- the same, its number capped
abbrev pub capped_held : Held → Held
capped_held o = option_map (λ (f : ℕ × Ty). (capped f.0, f.1)) o

-- the last of these parameters that has a name, where n come before them; its number capped
abbrev pub held_from : Text → ℕ → Held → List Parameter → Held
held_from x n o [] = o
held_from x n o (p ∷ ps) = held_from x (suc n) (if bytes_eq (or_empty p.called) x then Some (capped n, p.type) else o) ps

abbrev pub held_among : Text → ℕ → List Parameter → Held
held_among x n ps = held_from x n None ps

-- what a name stands for after a statement of a row, where n locals come before it
abbrev pub held_after : Text → ℕ → Held → Stmt → Held
held_after x n o (Declare y t start) = if bytes_eq y x then Some (n, t) else o
held_after x n o _ = o

-- behind all statements of a row
abbrev pub held_behind : Text → ℕ → Held → Stmts → Held
held_behind x n o NoStmt = o
held_behind x n o (AndStmt s ss) = held_behind x (capped (n + declared s)) (held_after x n o s) ss

-- how many locals come before the end of a row
abbrev pub count_behind : ℕ → Stmts → ℕ
count_behind n NoStmt = n
count_behind n (AndStmt s ss) = count_behind (capped (n + declared s)) ss

abbrev mutual
  -- at a path, where n locals come before the statement
  pub held_at : Text → ℕ → Held → Stmt → Path → Held
  held_at x n o (Block ss) (Nth k ∷ p) = held_in x n o ss k p
  held_at x n o (If t a b) (TheYes ∷ p) = held_at x n o a p
  held_at x n o (If t a b) (TheNo ∷ p) = held_arm x (capped (n + declared a)) o b p
  held_at x n o (While t s) (TheBody ∷ p) = held_at x n o s p
  held_at x n o (DoWhile s t) (TheBody ∷ p) = held_at x n o s p
  held_at x n o (For first t step s) (Nth k ∷ p) = held_in x n o first k p
  held_at x n o (For first t step s) (TheTest ∷ p) = held_behind x n o first
  held_at x n o (For first t step s) (TheStep ∷ p) = held_behind x n o first
  held_at x n o (For first t step s) (TheBody ∷ p) = held_at x (count_behind n first) (held_behind x n o first) s p
  held_at x n o (Label l s) (TheBody ∷ p) = held_at x n o s p
  held_at x n o (Declare y t start) p = held_after x n o (Declare y t start)
  held_at x n o _ _ = o

  -- at a path in the k-th one of these
  pub held_in : Text → ℕ → Held → Stmts → ℕ → Path → Held
  held_in x n o (AndStmt s ss) zero p = held_at x n o s p
  held_in x n o (AndStmt s ss) (suc k) p = held_in x (capped (n + declared s)) (held_after x n o s) ss k p
  held_in x n o NoStmt k p = o

  -- at a path in an arm
  pub held_arm : Text → ℕ → Held → MaybeStmt → Path → Held
  held_arm x n o Absent p = o
  held_arm x n o (Present s) p = held_at x n o s p
