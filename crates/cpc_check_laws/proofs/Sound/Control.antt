-- Control stays in a body: from what stands there it goes to what stands there.
use Rattle.std.proofs.Common.{◌≡◌, ℕ, zero, suc, Bool, true, false, cond, [], ◌∷◌, Option, Some, None, bytes_eq, refl, sym, ap, subst}
use Rattle.cpc_base.specs.Bytes.{Text}
use Rattle.cpc_tree.specs.Syntax.{Expr, Stmt, Block, Empty, Declare, Assign, Call, Detach, Spawn, If, While, DoWhile, For, Goto, Label, Break, Continue, Return, Stmts, NoStmt, AndStmt, MaybeStmt, Absent, Present}
use Rattle.cpc_tree.specs.Points.{Part, Nth, TheTest, TheYes, TheNo, TheStep, TheBody, Path, Here, End, Found, found, found_in, found_arm, enter, Move, Into, Out, ToLabel, Broken, Continued, NoMove, under, later, or_out, loop_out, if_holds, enter_rest, enter_arm, enter_step, after, after_all, after_arm, labelled, labelled_in, labelled_arm, path_under, path_later, or_else, begin, at_label, arrived, next_point}
use Rattle.cpc_meaning.proofs.Standing.{in_block as in_row}
use Rattle.cpc_check_laws.specs.Sound.Promises.{ControlStays}
use Rattle.cpc_check_laws.specs.Sound.Control.{Controlled, AllControlled, ArmControlled, IsLabel, StaysIn, Stands, GoesOnward, IsPoint, HasNext}

-- ---- entry

pub stands_enter : (s : Stmt) → Stands (found s (enter s))
stands_enter (Block NoStmt) = tt
stands_enter (Block (AndStmt s ss)) = stands_enter s
stands_enter (If t a b) = tt
stands_enter (While t s) = tt
stands_enter (DoWhile s t) = stands_enter s
stands_enter (For NoStmt t step s) = tt
stands_enter (For (AndStmt s ss) t step body) = stands_enter s
stands_enter (Label l s) = stands_enter s
stands_enter Empty = tt
stands_enter (Declare x t start) = tt
stands_enter (Assign e op v) = tt
stands_enter (Call e f es) = tt
stands_enter (Detach e f es) = tt
stands_enter (Spawn f es) = tt
stands_enter (Goto l) = tt
stands_enter Break = tt
stands_enter Continue = tt
stands_enter (Return v) = tt

-- ---- moves, by what stands at a path

module _ (L : Text → Type 0) where
  -- a move to something that stands there, to a label, or out of a loop where one is around
  abbrev Moves : Bool → (Path → Found) → Move → Type 0
  Moves b at (Into p) = Stands (at p)
  Moves b at Out = Unit {0}
  Moves b at (ToLabel l) = L l
  Moves b at Broken = b ≡ true
  Moves b at Continued = b ≡ true
  Moves b at NoMove = ⊥

  moves_if : (b : Bool) (at : Path → Found) (h : Bool) (m n : Move) → Moves b at m → Moves b at n → Moves b at (if_holds h m n)
  moves_if b at true m n f g = f
  moves_if b at false m n f g = g

  moves_or_out : (b : Bool) (at : Path → Found) (m n : Move) → Moves b at m → Moves b at n → Moves b at (or_out m n)
  moves_or_out b at (Into p) n f g = f
  moves_or_out b at Out n f g = g
  moves_or_out b at (ToLabel l) n f g = f
  moves_or_out b at Broken n f g = f
  moves_or_out b at Continued n f g = f
  moves_or_out b at NoMove n f g = absurd f

  moves_loop_out : (b : Bool) (at : Path → Found) (m n : Move) → Moves true at m → Moves b at n → Moves b at (loop_out m n)
  moves_loop_out b at (Into p) n f g = f
  moves_loop_out b at Out n f g = g
  moves_loop_out b at (ToLabel l) n f g = f
  moves_loop_out b at Broken n f g = tt
  moves_loop_out b at Continued n f g = g
  moves_loop_out b at NoMove n f g = absurd f

  moves_under : (b : Bool) (at inner : Path → Found) (part : Part) (m : Move) → ((p : Path) → at (part ∷ p) ≡ inner p) → Moves b inner m → Moves b at (under part m)
  moves_under b at inner part (Into p) same f = subst Stands (sym (same p)) f
  moves_under b at inner part Out same f = tt
  moves_under b at inner part (ToLabel l) same f = f
  moves_under b at inner part Broken same f = f
  moves_under b at inner part Continued same f = f
  moves_under b at inner part NoMove same f = absurd f

  moves_later : (b : Bool) (s : Stmt) (ss : Stmts) (m : Move) → Moves b (in_row ss) m → Moves b (in_row (AndStmt s ss)) (later m)
  moves_later b s ss (Into (Nth n ∷ p)) f = f
  moves_later b s ss (Into []) f = absurd f
  moves_later b s ss (Into (TheTest ∷ p)) f = absurd f
  moves_later b s ss (Into (TheYes ∷ p)) f = absurd f
  moves_later b s ss (Into (TheNo ∷ p)) f = absurd f
  moves_later b s ss (Into (TheStep ∷ p)) f = absurd f
  moves_later b s ss (Into (TheBody ∷ p)) f = absurd f
  moves_later b s ss Out f = tt
  moves_later b s ss (ToLabel l) f = f
  moves_later b s ss Broken f = f
  moves_later b s ss Continued f = f
  moves_later b s ss NoMove f = absurd f

  -- the paths of a row are among those of what holds it
  moves_wider : (b : Bool) (at : Path → Found) (ss : Stmts) (m : Move) → ((n : ℕ) (p : Path) → at (Nth n ∷ p) ≡ found_in ss n p) → Moves b (in_row ss) m → Moves b at m
  moves_wider b at ss (Into (Nth n ∷ p)) same f = subst Stands (sym (same n p)) f
  moves_wider b at ss (Into []) same f = absurd f
  moves_wider b at ss (Into (TheTest ∷ p)) same f = absurd f
  moves_wider b at ss (Into (TheYes ∷ p)) same f = absurd f
  moves_wider b at ss (Into (TheNo ∷ p)) same f = absurd f
  moves_wider b at ss (Into (TheStep ∷ p)) same f = absurd f
  moves_wider b at ss (Into (TheBody ∷ p)) same f = absurd f
  moves_wider b at ss Out same f = tt
  moves_wider b at ss (ToLabel l) same f = f
  moves_wider b at ss Broken same f = f
  moves_wider b at ss Continued same f = f
  moves_wider b at ss NoMove same f = absurd f

  moves_rest : (b : Bool) (s : Stmt) (ss : Stmts) → Moves b (in_row (AndStmt s ss)) (enter_rest ss)
  moves_rest b s NoStmt = tt
  moves_rest b s (AndStmt t ss) = stands_enter t

  moves_arm : (b : Bool) (t : Expr) (a : Stmt) (c : MaybeStmt) → Moves b (found (If t a c)) (enter_arm c)
  moves_arm b t a Absent = tt
  moves_arm b t a (Present s) = stands_enter s

  moves_step : (b : Bool) (first : Stmts) (t : Option Expr) (step : MaybeStmt) (s : Stmt) → Moves b (found (For first t step s)) (enter_step step)
  moves_step b first t Absent s = tt
  moves_step b first t (Present u) s = stands_enter u

  mutual
    moves_after : (b : Bool) (s : Stmt) (p : Path) (h : Bool) → Controlled L b s → GoesOnward (found s p) → Moves b (found s) (after s p h)
    moves_after b (Block NoStmt) p h c g = tt
    moves_after b (Block (AndStmt s ss)) (Nth k ∷ p) h c g =
        moves_wider b (found (Block (AndStmt s ss))) (AndStmt s ss) (after_all (AndStmt s ss) k p h) (λ n q. refl) (moves_after_all b (AndStmt s ss) k p h c g)
    moves_after b (Block (AndStmt s ss)) _ h c g = absurd g
    moves_after b Empty p h c g = tt
    moves_after b (Declare x t start) p h c g = tt
    moves_after b (Assign e op v) p h c g = tt
    moves_after b (Call e f es) p h c g = tt
    moves_after b (Detach e f es) p h c g = tt
    moves_after b (Spawn f es) p h c g = tt
    moves_after b (If t x y) (TheTest ∷ p) h c g = moves_if b (found (If t x y)) h _ _ (stands_enter x) (moves_arm b t x y)
    moves_after b (If t x y) (TheYes ∷ p) h c g = moves_under b (found (If t x y)) (found x) TheYes (after x p h) (λ q. refl) (moves_after b x p h c.0 g)
    moves_after b (If t x y) (TheNo ∷ p) h c g = moves_under b (found (If t x y)) (found_arm y) TheNo (after_arm y p h) (λ q. refl) (moves_after_arm b y p h c.1 g)
    moves_after b (If t x y) _ h c g = absurd g
    moves_after b (While t s) (TheTest ∷ p) h c g = moves_if b (found (While t s)) h _ _ (stands_enter s) tt
    moves_after b (While t s) (TheBody ∷ p) h c g =
        moves_loop_out b (found (While t s)) (under TheBody (after s p h)) _ (moves_under true (found (While t s)) (found s) TheBody (after s p h) (λ q. refl) (moves_after true s p h c g)) tt
    moves_after b (While t s) _ h c g = absurd g
    moves_after b (DoWhile s t) (TheBody ∷ p) h c g =
        moves_loop_out b (found (DoWhile s t)) (under TheBody (after s p h)) _ (moves_under true (found (DoWhile s t)) (found s) TheBody (after s p h) (λ q. refl) (moves_after true s p h c g)) tt
    moves_after b (DoWhile s t) (TheTest ∷ p) h c g = moves_if b (found (DoWhile s t)) h _ _ (stands_enter s) tt
    moves_after b (DoWhile s t) _ h c g = absurd g
    moves_after b (For first t step s) (Nth k ∷ p) h c g =
        moves_or_out b (found (For first t step s)) (after_all first k p h) _ (moves_wider b (found (For first t step s)) first (after_all first k p h) (λ n q. refl) (moves_after_all b first k p h c.0 g)) tt
    moves_after b (For first t step s) (TheTest ∷ p) h c g = moves_if b (found (For first t step s)) h _ _ (stands_enter s) tt
    moves_after b (For first t step s) (TheStep ∷ p) h c g =
        moves_or_out b (found (For first t step s)) (under TheStep (after_arm step p h)) _ (moves_under b (found (For first t step s)) (found_arm step) TheStep (after_arm step p h) (λ q. refl) (moves_after_arm b step p h c.1 g)) tt
    moves_after b (For first t step s) (TheBody ∷ p) h c g =
        moves_loop_out b (found (For first t step s)) (under TheBody (after s p h)) _ (moves_under true (found (For first t step s)) (found s) TheBody (after s p h) (λ q. refl) (moves_after true s p h c.2 g)) (moves_step b first t step s)
    moves_after b (For first t step s) _ h c g = absurd g
    moves_after b (Goto l) p h c g = c
    moves_after b (Label l s) (TheBody ∷ p) h c g = moves_under b (found (Label l s)) (found s) TheBody (after s p h) (λ q. refl) (moves_after b s p h c g)
    moves_after b (Label l s) _ h c g = absurd g
    moves_after b Break p h c g = c
    moves_after b Continue p h c g = c
    moves_after b (Return v) [] h c g = absurd g
    moves_after b (Return v) (n ∷ p) h c g = absurd g

    moves_after_all : (b : Bool) (ss : Stmts) (k : ℕ) (p : Path) (h : Bool) → AllControlled L b ss → GoesOnward (found_in ss k p) → Moves b (in_row ss) (after_all ss k p h)
    moves_after_all b (AndStmt s ss) zero p h c g =
        moves_or_out b (in_row (AndStmt s ss)) (under (Nth 0) (after s p h)) _ (moves_under b (in_row (AndStmt s ss)) (found s) (Nth 0) (after s p h) (λ q. refl) (moves_after b s p h c.0 g)) (moves_rest b s ss)
    moves_after_all b (AndStmt s ss) (suc n) p h c g = moves_later b s ss (after_all ss n p h) (moves_after_all b ss n p h c.1 g)
    moves_after_all b NoStmt n p h c g = absurd g

    moves_after_arm : (b : Bool) (y : MaybeStmt) (p : Path) (h : Bool) → ArmControlled L b y → GoesOnward (found_arm y p) → Moves b (found_arm y) (after_arm y p h)
    moves_after_arm b Absent p h c g = absurd g
    moves_after_arm b (Present s) p h c g = moves_after b s p h c g

-- ---- labels

-- the path of a label, where there is one
abbrev Leads : (Path → Found) → Option Path → Type 0
Leads at None = Unit {0}
Leads at (Some p) = Stands (at p)

leads_under : (at inner : Path → Found) (part : Part) (o : Option Path) → ((p : Path) → at (part ∷ p) ≡ inner p) → Leads inner o → Leads at (path_under part o)
leads_under at inner part None same f = tt
leads_under at inner part (Some p) same f = subst Stands (sym (same p)) f

leads_or : (at : Path → Found) (o u : Option Path) → Leads at o → Leads at u → Leads at (or_else o u)
leads_or at None u f g = g
leads_or at (Some p) u f g = f

leads_later : (s : Stmt) (ss : Stmts) (o : Option Path) → Leads (in_row ss) o → Leads (in_row (AndStmt s ss)) (path_later o)
leads_later s ss None f = tt
leads_later s ss (Some (Nth n ∷ p)) f = f
leads_later s ss (Some []) f = absurd f
leads_later s ss (Some (TheTest ∷ p)) f = absurd f
leads_later s ss (Some (TheYes ∷ p)) f = absurd f
leads_later s ss (Some (TheNo ∷ p)) f = absurd f
leads_later s ss (Some (TheStep ∷ p)) f = absurd f
leads_later s ss (Some (TheBody ∷ p)) f = absurd f

leads_wider : (at : Path → Found) (ss : Stmts) (o : Option Path) → ((n : ℕ) (p : Path) → at (Nth n ∷ p) ≡ found_in ss n p) → Leads (in_row ss) o → Leads at o
leads_wider at ss None same f = tt
leads_wider at ss (Some (Nth n ∷ p)) same f = subst Stands (sym (same n p)) f
leads_wider at ss (Some []) same f = absurd f
leads_wider at ss (Some (TheTest ∷ p)) same f = absurd f
leads_wider at ss (Some (TheYes ∷ p)) same f = absurd f
leads_wider at ss (Some (TheNo ∷ p)) same f = absurd f
leads_wider at ss (Some (TheStep ∷ p)) same f = absurd f
leads_wider at ss (Some (TheBody ∷ p)) same f = absurd f

leads_if : (at : Path → Found) (b : Bool) (p : Path) (o : Option Path) → Stands (at p) → Leads at o → Leads at (cond b (Some p) o)
leads_if at true p o f g = f
leads_if at false p o f g = g

mutual
  leads_labelled : (l : Text) (s : Stmt) → Leads (found s) (labelled l s)
  leads_labelled l (Block NoStmt) = tt
  leads_labelled l (Block (AndStmt s ss)) = leads_wider (found (Block (AndStmt s ss))) (AndStmt s ss) (labelled_in l (AndStmt s ss)) (λ n p. refl) (leads_labelled_in l (AndStmt s ss))
  leads_labelled l (If t x y) =
      leads_or (found (If t x y)) (path_under TheYes (labelled l x)) _ (leads_under (found (If t x y)) (found x) TheYes (labelled l x) (λ p. refl) (leads_labelled l x))
      (leads_under (found (If t x y)) (found_arm y) TheNo (labelled_arm l y) (λ p. refl) (leads_labelled_arm l y))
  leads_labelled l (While t s) = leads_under (found (While t s)) (found s) TheBody (labelled l s) (λ p. refl) (leads_labelled l s)
  leads_labelled l (DoWhile s t) = leads_under (found (DoWhile s t)) (found s) TheBody (labelled l s) (λ p. refl) (leads_labelled l s)
  leads_labelled l (For first t step s) = leads_under (found (For first t step s)) (found s) TheBody (labelled l s) (λ p. refl) (leads_labelled l s)
  leads_labelled l (Label m s) =
      leads_if (found (Label m s)) (bytes_eq m l) (TheBody ∷ enter s) (path_under TheBody (labelled l s)) (stands_enter s) (leads_under (found (Label m s)) (found s) TheBody (labelled l s) (λ p. refl) (leads_labelled l s))
  leads_labelled l Empty = tt
  leads_labelled l (Declare x t start) = tt
  leads_labelled l (Assign e op v) = tt
  leads_labelled l (Call e f es) = tt
  leads_labelled l (Detach e f es) = tt
  leads_labelled l (Spawn f es) = tt
  leads_labelled l (Goto m) = tt
  leads_labelled l Break = tt
  leads_labelled l Continue = tt
  leads_labelled l (Return v) = tt

  leads_labelled_in : (l : Text) (ss : Stmts) → Leads (in_row ss) (labelled_in l ss)
  leads_labelled_in l NoStmt = tt
  leads_labelled_in l (AndStmt s ss) =
      leads_or (in_row (AndStmt s ss)) (path_under (Nth 0) (labelled l s)) (path_later (labelled_in l ss)) (leads_under (in_row (AndStmt s ss)) (found s) (Nth 0) (labelled l s) (λ p. refl) (leads_labelled l s))
      (leads_later s ss (labelled_in l ss) (leads_labelled_in l ss))

  leads_labelled_arm : (l : Text) (y : MaybeStmt) → Leads (found_arm y) (labelled_arm l y)
  leads_labelled_arm l Absent = tt
  leads_labelled_arm l (Present s) = leads_labelled l s

-- ---- bodies

pub begins : (body : Stmt) → IsPoint body (begin body)
begins body = stands_enter body

label_stands : (body : Stmt) (l : Text) (p : Path) → labelled l body ≡ Some p → Stands (found body p)
label_stands body l p e = subst (Leads (found body)) e (leads_labelled l body)

arrives_at : (body : Stmt) (m : Move) → Moves (IsLabel body) false (found body) m → HasNext body (arrived body m)
arrives_at body (Into p) f = (Here p, refl, f)
arrives_at body Out f = (End, refl, tt)
arrives_at body (ToLabel l) f = (Here f.0, ap at_label f.1, label_stands body l f.0 f.1)
arrives_at body Broken f = absurd (cc)
arrives_at body Continued f = absurd (cc)
arrives_at body NoMove f = absurd f

-- control goes on from a statement or a test
pub goes_next : (body : Stmt) (p : Path) (h : Bool) → StaysIn body → GoesOnward (found body p) → HasNext body (next_point body (Here p) h)
goes_next body p h c g = arrives_at body (after body p h) (moves_after (IsLabel body) false body p h c g)

pub control_stays : ControlStays
control_stays body = (begins body, goes_next body)
