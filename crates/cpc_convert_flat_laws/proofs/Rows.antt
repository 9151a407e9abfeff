-- The statements of a flat block by their numbers: what stands at the k-th one, which scope, and where control goes from it.
use Rattle.std.proofs.Common.{◌≡◌, ℕ, zero, suc, ◌+◌, Bool, true, cond, List, [], ◌∷◌, ◌++◌, length, Some, None, refl, sym, ◌∙◌, ap, arith}
use Rattle.cpc_base.specs.Bytes.{Text}
use Rattle.cpc_base.proofs.Truth.{and_both}
use Rattle.cpc_tree.specs.Syntax.{Stmt, Block, Declare, Stmts, NoStmt, AndStmt, MaybeStmt, Absent, Present}
use Rattle.cpc_tree.specs.Syntax as S
use Rattle.cpc_tree.specs.Points.{Nth, Path, enter, Move, Into, Out, ToLabel, Broken, Continued, NoMove, under, later, or_out, enter_rest, after, after_all, labelled, arrived}
use Rattle.cpc_convert_flat_laws.specs.Flat.{point_at, before, dropped, is_flat, are_flat, has_label}
use Rattle.cpc_convert_flat_laws.proofs.Lines.{line_one}

-- ---- rows

pub before_append : (xs ys : List Stmt) (rest : Stmts) → before (xs ++ ys) rest ≡ before xs (before ys rest)
before_append [] ys rest = refl
before_append (x ∷ xs) ys rest = ap (AndStmt x) (before_append xs ys rest)

pub dropped_before : (xs : List Stmt) (rest : Stmts) → dropped (length xs) (before xs rest) ≡ rest
dropped_before [] rest = refl
dropped_before (x ∷ xs) rest = dropped_before xs rest

pub dropped_more : (k : ℕ) (ss : Stmts) (s : Stmt) (rest : Stmts) → dropped k ss ≡ AndStmt s rest → dropped (suc k) ss ≡ rest
dropped_more zero NoStmt s rest e = absurd (cc)
dropped_more zero (AndStmt t ss) s rest e = cc
dropped_more (suc k) NoStmt s rest e = absurd (cc)
dropped_more (suc k) (AndStmt t ss) s rest e = dropped_more k ss s rest e

pub dropped_twice : (k j : ℕ) (ss : Stmts) → dropped (k + j) ss ≡ dropped j (dropped k ss)
dropped_twice zero j ss = ap (λ n. dropped n ss) (let e : 0 + j ≡ j = omega arith in e)
dropped_twice (suc k) zero NoStmt = ap (λ n. dropped n NoStmt) (let e : suc k + 0 ≡ suc k = omega arith in e)
dropped_twice (suc k) (suc j) NoStmt = ap (λ n. dropped n NoStmt) (let e : suc k + suc j ≡ suc (k + suc j) = omega arith in e)
dropped_twice (suc k) j (AndStmt s ss) = ap (λ n. dropped n (AndStmt s ss)) (let e : suc k + j ≡ suc (k + j) = omega arith in e) ∙ dropped_twice k j ss

-- each statement of a flat row is flat
pub flat_here : (k : ℕ) (ss : Stmts) (s : Stmt) (rest : Stmts) → are_flat ss ≡ true → dropped k ss ≡ AndStmt s rest → is_flat s ≡ true
flat_here zero NoStmt s rest f e = absurd (cc)
flat_here zero (AndStmt t ss) s rest f e = let g : t ≡ s = cc in ap is_flat (sym g) ∙ (and_both (is_flat t) (are_flat ss) f).0
flat_here (suc k) NoStmt s rest f e = absurd (cc)
flat_here (suc k) (AndStmt t ss) s rest f e = flat_here k ss s rest (and_both (is_flat t) (are_flat ss) f).1 e

-- ---- where control goes from it

-- a move out of the k-th statement, before these
abbrev pub onto : ℕ → Stmts → Move
onto k NoStmt = Out
onto k (AndStmt s ss) = Into (Nth k ∷ enter s)

-- the move of a block, by the move of its k-th statement
abbrev pub moved : ℕ → Stmts → Move → Move
moved k rest (Into p) = Into (Nth k ∷ p)
moved k rest Out = onto (suc k) rest
moved k rest m = m

later_onto : (k : ℕ) (rest : Stmts) → later (onto k rest) ≡ onto (suc k) rest
later_onto k NoStmt = refl
later_onto k (AndStmt s ss) = refl

later_moved : (k : ℕ) (rest : Stmts) (m : Move) → later (moved k rest m) ≡ moved (suc k) rest m
later_moved k rest (Into p) = refl
later_moved k rest Out = later_onto (suc k) rest
later_moved k rest (ToLabel l) = refl
later_moved k rest Broken = refl
later_moved k rest Continued = refl
later_moved k rest NoMove = refl

first_moved : (rest : Stmts) (m : Move) → or_out (under (Nth 0) m) (enter_rest rest) ≡ moved 0 rest m
first_moved rest (Into p) = refl
first_moved NoStmt Out = refl
first_moved (AndStmt s ss) Out = refl
first_moved rest (ToLabel l) = refl
first_moved rest Broken = refl
first_moved rest Continued = refl
first_moved rest NoMove = refl

after_in_at : (k : ℕ) (ss : Stmts) (s : Stmt) (rest : Stmts) (p : Path) (h : Bool) → dropped k ss ≡ AndStmt s rest → after_all ss k p h ≡ moved k rest (after s p h)
after_in_at zero NoStmt s rest p h e = absurd (cc)
after_in_at zero (AndStmt t ss) s rest p h e =
    let a : t ≡ s = cc in
    let b : ss ≡ rest = cc in
    first_moved ss (after t p h) ∙ ap (λ r. moved 0 r (after t p h)) b ∙ ap (λ x. moved 0 rest (after x p h)) a
after_in_at (suc k) NoStmt s rest p h e = absurd (cc)
after_in_at (suc k) (AndStmt t ss) s rest p h e = ap later (after_in_at k ss s rest p h e) ∙ later_moved k rest (after s p h)

pub after_at : (k : ℕ) (ss : Stmts) (s : Stmt) (rest : Stmts) (p : Path) (h : Bool) → dropped k ss ≡ AndStmt s rest → after (Block ss) (Nth k ∷ p) h ≡ moved k rest (after s p h)
after_at zero NoStmt s rest p h e = absurd (cc)
after_at (suc k) NoStmt s rest p h e = absurd (cc)
after_at k (AndStmt t ss) s rest p h e = after_in_at k (AndStmt t ss) s rest p h e

pub arrived_onto : (body : Stmt) (k : ℕ) (rest : Stmts) → arrived body (onto k rest) ≡ Some (point_at k rest)
arrived_onto body k NoStmt = refl
arrived_onto body k (AndStmt s ss) = refl

-- ---- labels

-- where a goto leads within one flat statement
pub label_here : (s : Stmt) → is_flat s ≡ true → (l : Text) → labelled l s ≡ cond (has_label l s) (Some (enter s)) None
label_here (Declare x t start) f l = refl
label_here (S.Label m s) f l = (line_one (S.Label m s) f).labels l
label_here (S.If t a b) f l = (line_one (S.If t a b) f).labels l
label_here S.Empty f l = refl
label_here (S.Assign x op v) f l = refl
label_here (S.Call x g es) f l = refl
label_here (S.Detach x g es) f l = refl
label_here (S.Spawn g es) f l = refl
label_here (S.Goto m) f l = refl
label_here (S.Return v) f l = refl
label_here (S.Block ss) f l = absurd (cc)
label_here (S.While t a) f l = absurd (cc)
label_here (S.DoWhile a t) f l = absurd (cc)
label_here (S.For a t b c) f l = absurd (cc)
label_here S.Break f l = absurd (cc)
label_here S.Continue f l = absurd (cc)
