-- What stands at a path, part by part.
use Rattle.std.proofs.Common.{◌≡◌, ℕ, zero, suc, true, false, List, [], ◌∷◌, length, refl, ap, arith}
use Rattle.std.proofs.lemmas.Bool.Decides.{nat_tests}
use Rattle.std.specs.Prelude.{◌==◌}
use Rattle.cpc_tree.specs.Syntax.{Stmt, Block, Empty, If, While, DoWhile, For, Label, Stmts, NoStmt, AndStmt, MaybeStmt, Absent, Present}
use Rattle.cpc_tree.specs.Points.{Part, Nth, TheYes, TheNo, TheStep, TheBody, Path, Simple, Nothing, found, found_in, found_arm}
use Rattle.cpc_native_points.specs.Parts.{nth, child}
use Rattle.cpc_native_points.specs.Finds.{test_of}
use Rattle.cpc_native_points.specs.declared.parts.Part as G
use Rattle.cpc_native_points.specs.Seen.{part_of, path_of}

-- a block without statements, and with some
pub stands_empty : (ss : Stmts) → Absent ≡ nth ss 0 → found (Block ss) [] ≡ Simple Empty
stands_empty NoStmt h = refl
stands_empty (AndStmt s ss) h = let no : ⊥ = cc in absurd no

pub stands_not : (ss : Stmts) (s : Stmt) → Present s ≡ nth ss 0 → found (Block ss) [] ≡ Nothing
stands_not NoStmt s h = let no : ⊥ = cc in absurd no
stands_not (AndStmt t ss) s h = refl

-- rows and arms
in_nth : (ss : Stmts) (n : ℕ) (p : Path) (c : Stmt) → nth ss n ≡ Present c → found_in ss n p ≡ found c p
in_nth NoStmt n p c e = let no : ⊥ = cc in absurd no
in_nth (AndStmt s ss) zero p c e = let same : s ≡ c = cc in ap (λ t. found t p) same
in_nth (AndStmt s ss) (suc n) p c e = in_nth ss n p c e

in_past : (ss : Stmts) (n : ℕ) (p : Path) → nth ss n ≡ Absent → found_in ss n p ≡ Nothing
in_past NoStmt n p e = refl
in_past (AndStmt s ss) zero p e = let no : ⊥ = cc in absurd no
in_past (AndStmt s ss) (suc n) p e = in_past ss n p e

in_arm : (b : MaybeStmt) (p : Path) (c : Stmt) → b ≡ Present c → found_arm b p ≡ found c p
in_arm Absent p c e = let no : ⊥ = cc in absurd no
in_arm (Present s) p c e = let same : s ≡ c = cc in ap (λ t. found t p) same

in_none : (b : MaybeStmt) (p : Path) → b ≡ Absent → found_arm b p ≡ Nothing
in_none Absent p e = refl
in_none (Present s) p e = let no : ⊥ = cc in absurd no

-- in a part that is a statement
found_child : (s : Stmt) (n : Part) (p : Path) (c : Stmt) → child s n ≡ Present c → found s (n ∷ p) ≡ found c p
found_child (Block NoStmt) (Nth k) p c e = let no : ⊥ = cc in absurd no
found_child (Block (AndStmt s ss)) (Nth k) p c e = in_nth (AndStmt s ss) k p c e
found_child (If t a b) TheYes p c e = let same : a ≡ c = cc in ap (λ x. found x p) same
found_child (If t a b) TheNo p c e = in_arm b p c e
found_child (While t s) TheBody p c e = let same : s ≡ c = cc in ap (λ x. found x p) same
found_child (DoWhile s t) TheBody p c e = let same : s ≡ c = cc in ap (λ x. found x p) same
found_child (For first t step s) (Nth k) p c e = in_nth first k p c e
found_child (For first t step s) TheStep p c e = in_arm step p c e
found_child (For first t step s) TheBody p c e = let same : s ≡ c = cc in ap (λ x. found x p) same
found_child (Label l s) TheBody p c e = let same : s ≡ c = cc in ap (λ x. found x p) same
found_child _ n p c e = let no : ⊥ = cc in absurd no

-- at a part that is none
found_part : (s : Stmt) (n : Part) → child s n ≡ Absent → found s (n ∷ []) ≡ test_of s n
found_part (Block NoStmt) n e = refl
found_part (Block (AndStmt s ss)) (Nth k) e = in_past (AndStmt s ss) k [] e
found_part (If t a b) TheYes e = let no : ⊥ = cc in absurd no
found_part (If t a b) TheNo e = in_none b [] e
found_part (While t s) TheBody e = let no : ⊥ = cc in absurd no
found_part (DoWhile s t) TheBody e = let no : ⊥ = cc in absurd no
found_part (For first t step s) (Nth k) e = in_past first k [] e
found_part (For first t step s) TheStep e = in_none step [] e
found_part (For first t step s) TheBody e = let no : ⊥ = cc in absurd no
found_part (Label l s) TheBody e = let no : ⊥ = cc in absurd no
found_part _ n e = refl

-- and further in
found_past : (s : Stmt) (n m : Part) (p : Path) → child s n ≡ Absent → found s (n ∷ m ∷ p) ≡ Nothing
found_past (Block NoStmt) n m p e = refl
found_past (Block (AndStmt s ss)) (Nth k) m p e = in_past (AndStmt s ss) k (m ∷ p) e
found_past (If t a b) TheYes m p e = let no : ⊥ = cc in absurd no
found_past (If t a b) TheNo m p e = in_none b (m ∷ p) e
found_past (While t s) TheBody m p e = let no : ⊥ = cc in absurd no
found_past (DoWhile s t) TheBody m p e = let no : ⊥ = cc in absurd no
found_past (For first t step s) (Nth k) m p e = in_past first k (m ∷ p) e
found_past (For first t step s) TheStep m p e = in_none step (m ∷ p) e
found_past (For first t step s) TheBody m p e = let no : ⊥ = cc in absurd no
found_past (Label l s) TheBody m p e = let no : ⊥ = cc in absurd no
found_past _ n m p e = refl

-- ---- paths of the code

pub child_found : (s : Stmt) (path : List G.Part) (n : G.Part) (rest : List G.Part) (c : Stmt) → path ≡ n ∷ rest → child s (part_of n) ≡ Present c → found s (path_of path) ≡ found c (path_of rest)
child_found s path n rest c e k = rw e (found_child s (part_of n) (path_of rest) c k)

no_items : (n : ℕ) → (suc n == 0) ≡ true → ⊥
no_items n h = grind (arith, nat_tests)

pub part_found : (s : Stmt) (path : List G.Part) (n : G.Part) (rest : List G.Part) → path ≡ n ∷ rest → (length rest == 0) ≡ true → child s (part_of n) ≡ Absent → found s (path_of path) ≡ test_of s (part_of n)
part_found s path n [] e h k = rw e (found_part s (part_of n) k)
part_found s path n (m ∷ rest) e h k = absurd (no_items (length rest) h)

pub none_found : (s : Stmt) (path : List G.Part) (n : G.Part) (rest : List G.Part) → path ≡ n ∷ rest → (length rest == 0) ≡ false → child s (part_of n) ≡ Absent → found s (path_of path) ≡ Nothing
none_found s path n [] e h k = absurd (grind (arith, nat_tests))
none_found s path n (m ∷ rest) e h k = rw e (found_past s (part_of n) (part_of m) (path_of rest) k)
