-- Moves, part by part.
use Rattle.std.proofs.Common.{◌≡◌, ℕ, zero, suc, Bool, List, [], ◌∷◌, length, refl, sym, ap, ◌∙◌, arith}
use Rattle.std.proofs.lemmas.List.{length-map}
use Rattle.cpc_native_points.specs.declared.parts.Part as G
use Rattle.cpc_native_points.specs.Seen.{part_of, path_of}
use Rattle.cpc_tree.specs.Syntax.{Stmt, Block, If, While, DoWhile, For, Label, Stmts, NoStmt, AndStmt, MaybeStmt, Absent, Present}
use Rattle.cpc_tree.specs.Erase.{Names}
use Rattle.cpc_tree.specs.Points as P
use Rattle.cpc_tree.specs.Points.{Part, Nth, TheTest, TheYes, TheNo, TheStep, TheBody, Path, Into, Out, NoMove, ToLabel, Broken, Continued, under, later, or_out, loop_out, if_holds, enter, enter_arm, enter_rest, after, after_all, after_arm}
use Rattle.cpc_native_points.specs.Parts.{nth, child, enter_part, out_of, leaf, tested, or_else}
use Rattle.cpc_native_points.specs.Leads.{Leads}
use Rattle.cpc_native_points.specs.declared.moves.Move.{Move}
use Rattle.cpc_native_points.specs.declared.moves.Move.TheVariants as M

-- a move from a part is one from the whole
pub under_leads : (names : Names) (rest : Path) (n : Part) (mv : Move) (m : P.Move) → Leads names rest mv m → Leads names (n ∷ rest) mv (under n m)
under_leads names rest n (M.Into d part t) m g = record { front = n ∷ g.front; back = g.back; whole = ap (λ p. n ∷ p) g.whole; so_many = g.so_many; is = ap (under n) g.is }
under_leads names rest n M.Out m h = ap (under n) h
under_leads names rest n (M.ToLabel l) m h = ap (under n) h
under_leads names rest n M.Broken m h = ap (under n) h
under_leads names rest n M.Continued m h = ap (under n) h
under_leads names rest n M.Nowhere m h = ap (under n) h

-- ---- rows

rest_entered : (s : Stmt) (ss : Stmts) → P.enter_rest ss ≡ enter_part (Nth 1) (nth (AndStmt s ss) 1)
rest_entered s NoStmt = refl
rest_entered s (AndStmt t ss) = refl

later_out : (n : ℕ) (m : P.Move) (o : MaybeStmt) → later (or_out (under (Nth n) m) (enter_part (Nth (suc n)) o)) ≡ or_out (under (Nth (suc n)) m) (enter_part (Nth (suc (suc n))) o)
later_out n (Into p) o = refl
later_out n Out Absent = refl
later_out n Out (Present s) = refl
later_out n (ToLabel l) o = refl
later_out n Broken o = refl
later_out n Continued o = refl
later_out n NoMove o = refl

-- from the n-th one
pub after_nth : (ss : Stmts) (n : ℕ) (p : Path) (h : Bool) (c : Stmt) → nth ss n ≡ Present c → after_all ss n p h ≡ or_out (under (Nth n) (after c p h)) (enter_part (Nth (suc n)) (nth ss (suc n)))
after_nth NoStmt n p h c e = let no : ⊥ = cc in absurd no
after_nth (AndStmt s ss) zero p h c e =
    let same : s ≡ c = cc in
    ap (λ t. or_out (under (Nth 0) (after t p h)) (P.enter_rest ss)) same ∙ ap (or_out (under (Nth 0) (after c p h))) (rest_entered s ss)
after_nth (AndStmt s ss) (suc n) p h c e = ap later (after_nth ss n p h c e) ∙ later_out n (after c p h) (nth ss (suc n))

pub after_past : (ss : Stmts) (n : ℕ) (p : Path) (h : Bool) → nth ss n ≡ Absent → after_all ss n p h ≡ NoMove
after_past NoStmt n p h e = refl
after_past (AndStmt s ss) zero p h e = let no : ⊥ = cc in absurd no
after_past (AndStmt s ss) (suc n) p h e = ap later (after_past ss n p h e)

-- ---- statements

-- with no part taken
pub after_none : (s : Stmt) (h : Bool) → after s [] h ≡ leaf s
after_none (Block NoStmt) h = refl
after_none (Block (AndStmt s ss)) h = refl
after_none _ h = refl

arm_entered : (b : MaybeStmt) → enter_arm b ≡ enter_part TheNo b
arm_entered Absent = refl
arm_entered (Present s) = refl

arm_out : (b : MaybeStmt) (p : Path) (h : Bool) (c : Stmt) → b ≡ Present c → after_arm b p h ≡ after c p h
arm_out Absent p h c e = let no : ⊥ = cc in absurd no
arm_out (Present s) p h c e = let same : s ≡ c = cc in ap (λ t. after t p h) same

arm_none : (b : MaybeStmt) (p : Path) (h : Bool) → b ≡ Absent → after_arm b p h ≡ NoMove
arm_none Absent p h e = refl
arm_none (Present s) p h e = let no : ⊥ = cc in absurd no

-- from a part that is a statement
pub after_child : (s : Stmt) (n : Part) (p : Path) (h : Bool) (c : Stmt) → child s n ≡ Present c → after s (n ∷ p) h ≡ out_of s n (after c p h)
after_child (Block NoStmt) n p h c e = let no : ⊥ = none_in n e in absurd no
  where
    none_in : (n : Part) → child (Block NoStmt) n ≡ Present c → ⊥
    none_in (Nth k) e = cc
    none_in TheTest e = cc
    none_in TheYes e = cc
    none_in TheNo e = cc
    none_in TheStep e = cc
    none_in TheBody e = cc
after_child (Block (AndStmt s ss)) (Nth k) p h c e = after_nth (AndStmt s ss) k p h c e
after_child (If t a b) TheYes p h c e = let same : a ≡ c = cc in ap (λ x. under TheYes (after x p h)) same
after_child (If t a b) TheNo p h c e = ap (under TheNo) (arm_out b p h c e)
after_child (While t s) TheBody p h c e = let same : s ≡ c = cc in ap (λ x. loop_out (under TheBody (after x p h)) (Into (TheTest ∷ []))) same
after_child (DoWhile s t) TheBody p h c e = let same : s ≡ c = cc in ap (λ x. loop_out (under TheBody (after x p h)) (Into (TheTest ∷ []))) same
after_child (For first t step s) (Nth k) p h c e = ap (λ m. or_out m (Into (TheTest ∷ []))) (after_nth first k p h c e)
after_child (For first t step s) TheStep p h c e = ap (λ m. or_out (under TheStep m) (Into (TheTest ∷ []))) (arm_out step p h c e)
after_child (For first t step s) TheBody p h c e = let same : s ≡ c = cc in ap (λ x. loop_out (under TheBody (after x p h)) (P.enter_step step)) same
after_child (Label l s) TheBody p h c e = let same : s ≡ c = cc in ap (λ x. under TheBody (after x p h)) same
after_child _ n p h c e = let no : ⊥ = cc in absurd no

-- from a part that is none
pub after_part : (s : Stmt) (n : Part) (p : Path) (h : Bool) → child s n ≡ Absent → after s (n ∷ p) h ≡ or_else (leaf s) (tested s n h)
after_part (Block NoStmt) n p h e = refl
after_part (Block (AndStmt s ss)) (Nth k) p h e = after_past (AndStmt s ss) k p h e
after_part (If t a b) TheTest p h e = ap (if_holds h (Into (TheYes ∷ enter a))) (arm_entered b)
after_part (If t a b) TheYes p h e = let no : ⊥ = cc in absurd no
after_part (If t a b) TheNo p h e = ap (under TheNo) (arm_none b p h e)
after_part (While t s) TheBody p h e = let no : ⊥ = cc in absurd no
after_part (DoWhile s t) TheBody p h e = let no : ⊥ = cc in absurd no
after_part (For first t step s) (Nth k) p h e = ap (λ m. or_out m (Into (TheTest ∷ []))) (after_past first k p h e)
after_part (For first t step s) TheStep p h e = ap (λ m. or_out (under TheStep m) (Into (TheTest ∷ []))) (arm_none step p h e)
after_part (For first t step s) TheBody p h e = let no : ⊥ = cc in absurd no
after_part (Label l s) TheBody p h e = let no : ⊥ = cc in absurd no
after_part _ n p h e = refl

-- ---- paths of the code

pub none_after : (names : Names) (s : Stmt) (path : List G.Part) (h : Bool) (r : Move) → length path ≡ 0 → Leads names (path_of path) r (leaf s) → Leads names (path_of path) r (after s (path_of path) h)
none_after names s [] h r e g = rw (after_none s h) g
none_after names s (n ∷ path) h r e g = absurd (omega arith)

pub child_after : (names : Names) (s : Stmt) (path : List G.Part) (n : G.Part) (rest : List G.Part) (h : Bool) (c : Stmt) (r : Move) → path ≡ n ∷ rest → child s (part_of n) ≡ Present c
    → Leads names (part_of n ∷ path_of rest) r (out_of s (part_of n) (after c (path_of rest) h)) → Leads names (path_of path) r (after s (path_of path) h)
child_after names s path n rest h c r e k g = rw e (rw (after_child s (part_of n) (path_of rest) h c k) g)

pub part_after : (names : Names) (s : Stmt) (path : List G.Part) (n : G.Part) (rest : List G.Part) (h : Bool) (r : Move) → path ≡ n ∷ rest → child s (part_of n) ≡ Absent
    → Leads names (part_of n ∷ path_of rest) r (or_else (leaf s) (tested s (part_of n) h)) → Leads names (path_of path) r (after s (path_of path) h)
part_after names s path n rest h r e k g = rw e (rw (after_part s (part_of n) (path_of rest) h k) g)

pub path_length : (path : List G.Part) (n : G.Part) (rest : List G.Part) → path ≡ n ∷ rest → length path ≡ length (part_of n ∷ path_of rest)
path_length path n rest e = ap length e ∙ ap suc (sym (length-map rest part_of))
