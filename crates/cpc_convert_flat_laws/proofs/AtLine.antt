-- A line of a flat body, be it labelled or not: what stands there, which scope, and where control goes.
use Rattle.std.proofs.Common.{◌≡◌, ℕ, suc, ◌+◌, Bool, true, false, ◌∷◌, length, Some, refl, ◌∙◌, ap, subst, arith}
use Rattle.cpc_base.specs.Bytes.{Text}
use Rattle.cpc_tree.specs.Syntax.{Expr, Stmt, If, Label, Stmts, AndStmt, MaybeStmt, Absent, Function}
use Rattle.cpc_tree.specs.Syntax as S
use Rattle.cpc_tree.specs.Typing.{Scope}
use Rattle.cpc_tree.specs.Points.{Nth, TheYes, TheBody, Path, Point, Here, Simple, found, enter, Move, Into, Out, ToLabel, under, if_holds, after, next_point}
use Rattle.cpc_tree.specs.Registers.{scope_in_function}
use Rattle.cpc_meaning.proofs.Blocks.{found_at}
use Rattle.cpc_convert_flat_laws.specs.Flat.{point_at, dropped, is_line, is_test, bare, standing, onward, arm, label_in, Stands, LineAt}
use Rattle.cpc_convert_flat_laws.proofs.Lines.{PlainOne, plain_one, leads, LineOne, line_one}
use Rattle.cpc_convert_flat_laws.proofs.Flat.{path_at, passed, found_here, scope_here, next_out, next_label, next_into}

under_onward : (x : Stmt) → under TheBody (onward x) ≡ onward x
under_onward (S.Goto l) = refl
under_onward (S.Return v) = refl
under_onward S.Empty = refl
under_onward (S.Declare x t start) = refl
under_onward (S.Assign x op v) = refl
under_onward (S.Call x f es) = refl
under_onward (S.Detach x f es) = refl
under_onward (S.Spawn f es) = refl
under_onward (S.Block ss) = refl
under_onward (If t a b) = refl
under_onward (S.While t a) = refl
under_onward (S.DoWhile a t) = refl
under_onward (S.For a t b c) = refl
under_onward (Label m a) = refl
under_onward S.Break = refl
under_onward S.Continue = refl

-- control goes from a line that is no test as from what it is without labels
pub leads_onward : (s x : Stmt) (h : Bool) → bare s ≡ x → is_test x ≡ false → leads s h ≡ onward x
leads_onward (Label m s) x h e n = ap (under TheBody) (leads_onward s x h e n) ∙ under_onward x
leads_onward (If t a b) x h e n = absurd (let f : is_test (If t a b) ≡ is_test x = ap is_test e in cc)
leads_onward (S.Goto l) x h e n = ap onward e
leads_onward (S.Return v) x h e n = ap onward e
leads_onward S.Empty x h e n = ap onward e
leads_onward (S.Declare y t start) x h e n = ap onward e
leads_onward (S.Assign y op v) x h e n = ap onward e
leads_onward (S.Call y f es) x h e n = ap onward e
leads_onward (S.Detach y f es) x h e n = ap onward e
leads_onward (S.Spawn f es) x h e n = ap onward e
leads_onward (S.Block ss) x h e n = ap onward e
leads_onward (S.While t a) x h e n = ap onward e
leads_onward (S.DoWhile a t) x h e n = ap onward e
leads_onward (S.For a t b c) x h e n = ap onward e
leads_onward S.Break x h e n = ap onward e
leads_onward S.Continue x h e n = ap onward e

-- ---- tests

-- control goes from a test to the statement after it, or on
pub leads_test : (s : Stmt) (t : Expr) (a : Stmt) (h : Bool) → bare s ≡ If t a Absent → leads s h ≡ if_holds h (Into (arm s)) Out
leads_test (Label m s) t a true e = ap (under TheBody) (leads_test s t a true e)
leads_test (Label m s) t a false e = ap (under TheBody) (leads_test s t a false e)
leads_test (If u b c) t a h e = refl
leads_test (S.Goto l) t a h e = absurd (cc)
leads_test (S.Return v) t a h e = absurd (cc)
leads_test S.Empty t a h e = absurd (cc)
leads_test (S.Declare y u start) t a h e = absurd (cc)
leads_test (S.Assign y op v) t a h e = absurd (cc)
leads_test (S.Call y f es) t a h e = absurd (cc)
leads_test (S.Detach y f es) t a h e = absurd (cc)
leads_test (S.Spawn f es) t a h e = absurd (cc)
leads_test (S.Block ss) t a h e = absurd (cc)
leads_test (S.While u b) t a h e = absurd (cc)
leads_test (S.DoWhile b u) t a h e = absurd (cc)
leads_test (S.For b u c d) t a h e = absurd (cc)
leads_test S.Break t a h e = absurd (cc)
leads_test S.Continue t a h e = absurd (cc)

-- what holds of the statement after a test
pub record ArmOne (s a : Stmt) : Type 0 where
  pub stands : found s (arm s) ≡ Simple a
  pub goes : (h : Bool) → after s (arm s) h ≡ under TheYes (onward a)

arm_test : (t : Expr) (a : Stmt) → PlainOne a → ArmOne (If t a Absent) a
arm_test t a o = record { stands = o.stands; goes = λ h. ap (under TheYes) (o.goes h) }

arm_label : (m : Text) (s a : Stmt) → ArmOne s a → ArmOne (Label m s) a
arm_label m s a o = record { stands = o.stands; goes = λ h. ap (under TheBody) (o.goes h) ∙ twice a }
  where
    twice : (a : Stmt) → under TheBody (under TheYes (onward a)) ≡ under TheYes (onward a)
    twice (S.Goto l) = refl
    twice (S.Return v) = refl
    twice _ = refl

pub arm_one : (s : Stmt) (t : Expr) (a : Stmt) → is_line s ≡ true → bare s ≡ If t a Absent → ArmOne s a
arm_one (Label m s) t a l e = arm_label m s a (arm_one s t a l e)
arm_one (If u b Absent) t a l e = let f : b ≡ a = cc in subst (ArmOne (If u b Absent)) f (arm_test u b (plain_one b l))
arm_one (If u b (S.Present c)) t a l e = absurd (cc)
arm_one (S.Goto m) t a l e = absurd (cc)
arm_one (S.Return v) t a l e = absurd (cc)
arm_one S.Empty t a l e = absurd (cc)
arm_one (S.Declare y u start) t a l e = absurd (cc)
arm_one (S.Assign y op v) t a l e = absurd (cc)
arm_one (S.Call y f es) t a l e = absurd (cc)
arm_one (S.Detach y f es) t a l e = absurd (cc)
arm_one (S.Spawn f es) t a l e = absurd (cc)
arm_one (S.Block ss) t a l e = absurd (cc)
arm_one (S.While u b) t a l e = absurd (cc)
arm_one (S.DoWhile b u) t a l e = absurd (cc)
arm_one (S.For b u c d) t a l e = absurd (cc)
arm_one S.Break t a l e = absurd (cc)
arm_one S.Continue t a l e = absurd (cc)

-- ---- lines of a body

module _ (g : Function) (body : Stmts) (k : ℕ) (scope : Scope) (n : ℕ) (x : Stmt) (rest : Stmts) (w : LineAt g body k scope n x rest) where
  -- its path, and its point
  abbrev pub line_path : Path
  line_path = path_at k w.statement

  abbrev pub line_point : Point
  line_point = point_at k (AndStmt w.statement rest)

  its : LineOne w.statement
  its = line_one w.statement w.is_line

  pub line_found : found g.body line_path ≡ standing x
  line_found = found_here g body k scope n w.statement rest w.stands ∙ ap standing w.is_bare

  pub line_scope : (p : Path) → scope_in_function g (Nth k ∷ p) ≡ scope
  line_scope p = scope_here g body k scope n w.statement rest w.stands p ∙ its.extends scope n

  -- past it, the scope is as it was
  pub line_passed : Stands g body (suc k) scope n rest
  line_passed =
      let p = passed g body k scope n w.statement rest w.stands in
      record {
        is_body = p.is_body;
        flat = p.flat;
        is_left = p.is_left;
        is_scope = p.is_scope ∙ its.extends scope n;
        is_count = p.is_count ∙ ap (λ xs. n + length xs) its.declares ∙ (let e : n + 0 ≡ n = omega arith in e);
      }

  leaves_by : (h : Bool) (m : Move) → leads w.statement h ≡ m → after w.statement (enter w.statement) h ≡ m
  leaves_by h m e = its.goes h ∙ e

  pub line_next : (h : Bool) → is_test x ≡ false → onward x ≡ Out → next_point g.body (Here line_path) h ≡ Some (point_at (suc k) rest)
  line_next h t e = next_out g body k scope n w.statement rest w.stands (enter w.statement) h (leaves_by h Out (leads_onward w.statement x h w.is_bare t ∙ e))

  pub line_goes : (h : Bool) (l : Text) (j : ℕ) → is_test x ≡ false → onward x ≡ ToLabel l → label_in l body ≡ Some j → next_point g.body (Here line_path) h ≡ Some (point_at j (dropped j body))
  line_goes h l j t e i = next_label g body k scope n w.statement rest w.stands (enter w.statement) h l j (leaves_by h (ToLabel l) (leads_onward w.statement x h w.is_bare t ∙ e)) i

  -- a test that holds, and one that does not
  pub test_holds : (t : Expr) (a : Stmt) → x ≡ If t a Absent → next_point g.body (Here line_path) true ≡ Some (Here (Nth k ∷ arm w.statement))
  test_holds t a e = next_into g body k scope n w.statement rest w.stands (enter w.statement) true (arm w.statement) (leaves_by true _ (leads_test w.statement t a true (w.is_bare ∙ e)))

  pub test_fails : (t : Expr) (a : Stmt) → x ≡ If t a Absent → next_point g.body (Here line_path) false ≡ Some (point_at (suc k) rest)
  test_fails t a e = next_out g body k scope n w.statement rest w.stands (enter w.statement) false (leaves_by false Out (leads_test w.statement t a false (w.is_bare ∙ e)))

  -- the statement after it
  pub arm_found : (t : Expr) (a : Stmt) → x ≡ If t a Absent → found g.body (Nth k ∷ arm w.statement) ≡ Simple a
  arm_found t a e = found_in_it ∙ (arm_one w.statement t a w.is_line (w.is_bare ∙ e)).stands
    where
      found_in_it : found g.body (Nth k ∷ arm w.statement) ≡ found w.statement (arm w.statement)
      found_in_it = ap (λ b. found b (Nth k ∷ arm w.statement)) w.stands.is_body ∙ found_at body k w.statement rest (arm w.statement) w.stands.is_left

  pub arm_next : (t : Expr) (a : Stmt) (h : Bool) → x ≡ If t a Absent → onward a ≡ Out → next_point g.body (Here (Nth k ∷ arm w.statement)) h ≡ Some (point_at (suc k) rest)
  arm_next t a h e f = next_out g body k scope n w.statement rest w.stands (arm w.statement) h ((arm_one w.statement t a w.is_line (w.is_bare ∙ e)).goes h ∙ ap (under TheYes) f)

  pub arm_goes : (t : Expr) (a : Stmt) (h : Bool) (l : Text) (j : ℕ) → x ≡ If t a Absent → onward a ≡ ToLabel l → label_in l body ≡ Some j → next_point g.body (Here (Nth k ∷ arm w.statement)) h ≡ Some (point_at j (dropped j body))
  arm_goes t a h l j e f i = next_label g body k scope n w.statement rest w.stands (arm w.statement) h l j ((arm_one w.statement t a w.is_line (w.is_bare ∙ e)).goes h ∙ ap (under TheYes) f) i
