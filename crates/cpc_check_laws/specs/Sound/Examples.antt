-- Programs that are accepted, and programs that are not and are stuck.
use Rattle.std.specs.Prelude.{◌≡◌, ℕ, pos, map, List, [], ◌∷◌, Option, Some, None, codes}
use Rattle.cpc_base.specs.Bytes.{Text}
use Rattle.cpc_base.specs.declared.stop.Place.{Place}
use Rattle.cpc_base.specs.declared.poll.Event.TheVariants.{Done}
use Rattle.cpc_base.specs.declared.stop.Dialect.{Dialect}
use Rattle.cpc_base.specs.declared.stop.Dialect.TheVariants as D
use Rattle.cpc_num.specs.declared.kinds.Kind.TheVariants.{Int, Long}
use Rattle.cpc_num.specs.declared.kinds.Op.TheVariants.{Add, Sub, Mul, Eq}
use Rattle.cpc_tree.specs.declared.program.UnaryOp.TheVariants.{Dereference, AddressOf}
use Rattle.cpc_tree.specs.declared.program.Mode.{Mode}
use Rattle.cpc_tree.specs.declared.program.Mode.TheVariants.{Extern, Native, Cps, Detached}
use Rattle.cpc_tree.specs.Syntax.{Ty, TyVoid, TyInt, TyPointer, TyCode, TyStruct, AndTy, NoTy}
use Rattle.cpc_tree.specs.Located.{LExpr, LNamed, LInteger, LUnary, LBinary, LMember, LArrow, LExprs, NoLExpr, AndLExpr, LStmt, Block, Declare, Assign, Call, Detach, Spawn, If, While, For, Goto, Break, Return, NoLStmt, NoneLStmt, SomeLStmt, LParameter, LItem, LStruct, LGlobal, LPrototype, LFunctionItem, LProgram, bare}
use Rattle.cpc_tree.specs.StmtGrammar.{stmts}
use Rattle.cpc_check_rules.specs.declared.rule.Rule.{Rule}
use Rattle.cpc_check_rules.specs.declared.rule.Rule.TheVariants as R
use Rattle.cpc_check_rules.specs.Rules.{breaks}
use Rattle.cpc_meaning.specs.History.{History}
use Rattle.cpc_meaning.specs.Machine.{IsStuck}
use Rattle.cpc_meaning.specs.Threads.{threads, threaded}
use Rattle.cpc_meaning.specs.Events.{callbacks, event}
use Rattle.cpc_check_laws.specs.Sound.Typed.{TypedProgram}
use Rattle.cpc_check_laws.specs.Run.Refusals.{here, name as called}

-- ---- trees, all of whose parts stand at one place

abbrev name : Text → LExpr
name x = LNamed (called x)

abbrev number : ℕ → LExpr
number n = LInteger here Int (pos n)

abbrev row : List LExpr → LExprs
row [] = NoLExpr
row (e ∷ es) = AndLExpr e (row es)

abbrev set : LExpr → LExpr → LStmt
set v e = Assign here here v None e

abbrev call : Option LExpr → Text → List LExpr → LStmt
call to f es = Call here here to (name f) (row es)

abbrev local : Text → Ty → LStmt
local x t = Declare here (called x) t None

abbrev block : List LStmt → LStmt
block ss = Block here (stmts ss)

abbrev parameter : Text → Ty → LParameter
parameter x t = record { called = Some (called x); type = t }

abbrev function : Mode → Text → Ty → List LParameter → List LStmt → LItem
function mode f r ps ss = LFunctionItem (record { place = here; mode = mode; called = called f; result = r; parameters = ps; body = block ss })

abbrev program : List LItem → LProgram
program items = record { items = items; end = here }

abbrev int : Ty
int = TyInt Int

-- ---- programs that are accepted

-- struct p { int a; int b; };
-- struct p g;
-- extern long host(long);
-- detached int sum(struct p *q, int k){ q->b = q->a * k; return q->b; }
-- int twice(int x){ return x + x; }
-- cps void f(int k){ int r; int *s; s = &r; r = cpc_detached sum(&g, k); while (r) { r -= 1; if (*s == 3) break; cpc_yield(); } cpc_print(r); }
-- int main(void){ int (*h)(int); long y; h = twice; g.a = h(3); y = host(g.a); cpc_spawn f(10); return 0; }
abbrev pub example : LProgram
example = program (
    LStruct (called (codes "p")) (record { called = called (codes "a"); type = int } ∷ record { called = called (codes "b"); type = int } ∷ [])
    ∷ LGlobal (called (codes "g")) (TyStruct (codes "p")) None
    ∷ LPrototype here Extern (called (codes "host")) (TyInt Long) (record { called = None; type = TyInt Long } ∷ [])
    ∷ function Detached (codes "sum") int (parameter (codes "q") (TyPointer (TyStruct (codes "p"))) ∷ parameter (codes "k") int ∷ []) (
    set (LArrow here (name (codes "q")) (called (codes "b"))) (LBinary here Mul (LArrow here (name (codes "q")) (called (codes "a"))) (name (codes "k")))
    ∷ Return here (Some (LArrow here (name (codes "q")) (called (codes "b")))) ∷ [])
    ∷ function Native (codes "twice") int (parameter (codes "x") int ∷ []) (Return here (Some (LBinary here Add (name (codes "x")) (name (codes "x")))) ∷ [])
    ∷ function Cps (codes "f") TyVoid (parameter (codes "k") int ∷ []) (
    local (codes "r") int ∷ local (codes "s") (TyPointer int)
    ∷ set (name (codes "s")) (LUnary here AddressOf (name (codes "r")))
    ∷ Detach here here here (Some (name (codes "r"))) (called (codes "sum")) (row (LUnary here AddressOf (name (codes "g")) ∷ name (codes "k") ∷ []))
    ∷ While here (name (codes "r")) (block (
    Assign here here (name (codes "r")) (Some Sub) (number 1)
    ∷ If here (LBinary here Eq (LUnary here Dereference (name (codes "s"))) (number 3)) (Break here) NoneLStmt
    ∷ call None (codes "cpc_yield") [] ∷ []))
    ∷ call None (codes "cpc_print") (name (codes "r") ∷ []) ∷ [])
    ∷ function Native (codes "main") int [] (
    local (codes "h") (TyCode int (AndTy int NoTy)) ∷ local (codes "y") (TyInt Long)
    ∷ set (name (codes "h")) (name (codes "twice"))
    ∷ call (Some (LMember here (name (codes "g")) (called (codes "a")))) (codes "h") (number 3 ∷ [])
    ∷ call (Some (name (codes "y"))) (codes "host") (LMember here (name (codes "g")) (called (codes "a")) ∷ [])
    ∷ Spawn here (called (codes "f")) (row (number 10 ∷ []))
    ∷ Return here (Some (number 0)) ∷ [])
    ∷ [])

-- struct p { int a; int b; };
-- struct p g;
-- detached int sum(struct p *q, int k){ q->b = q->a * k; return q->b; }
-- void tick(void *k, int r){ cpc_print(r); rt_frame_free(k); }
-- int main(void){ void *k; k = rt_frame(2); rt_ready(tick, k); rt_sleep(5, tick, k); rt_detach(tick, k, sum, &g, 3); return 0; }
abbrev pub event_example : LProgram
event_example = program (
    LStruct (called (codes "p")) (record { called = called (codes "a"); type = int } ∷ record { called = called (codes "b"); type = int } ∷ [])
    ∷ LGlobal (called (codes "g")) (TyStruct (codes "p")) None
    ∷ function Detached (codes "sum") int (parameter (codes "q") (TyPointer (TyStruct (codes "p"))) ∷ parameter (codes "k") int ∷ []) (
    set (LArrow here (name (codes "q")) (called (codes "b"))) (LBinary here Mul (LArrow here (name (codes "q")) (called (codes "a"))) (name (codes "k")))
    ∷ Return here (Some (LArrow here (name (codes "q")) (called (codes "b")))) ∷ [])
    ∷ function Native (codes "tick") TyVoid (parameter (codes "k") (TyPointer TyVoid) ∷ parameter (codes "r") int ∷ []) (
    call None (codes "cpc_print") (name (codes "r") ∷ []) ∷ call None (codes "rt_frame_free") (name (codes "k") ∷ []) ∷ [])
    ∷ function Native (codes "main") int [] (
    local (codes "k") (TyPointer TyVoid)
    ∷ call (Some (name (codes "k"))) (codes "rt_frame") (number 2 ∷ [])
    ∷ call None (codes "rt_ready") (name (codes "tick") ∷ name (codes "k") ∷ [])
    ∷ call None (codes "rt_sleep") (number 5 ∷ name (codes "tick") ∷ name (codes "k") ∷ [])
    ∷ call None (codes "rt_detach") (name (codes "tick") ∷ name (codes "k") ∷ name (codes "sum") ∷ LUnary here AddressOf (name (codes "g")) ∷ number 3 ∷ [])
    ∷ Return here (Some (number 0)) ∷ [])
    ∷ [])

-- each breaks no rule of its dialect, and is well typed
pub record IsAccepted (dialect : Dialect) (p : LProgram) : Type 0 where
  pub breaks : breaks dialect p ≡ []
  pub typed : TypedProgram dialect (bare p)

-- the laws of well typed programs speak of something
abbrev pub ExamplesAreAccepted : Type 0
ExamplesAreAccepted = IsAccepted D.Cpc example × IsAccepted D.Event event_example

-- ---- programs that are stuck

-- one poll, which names the first section
abbrev one_poll : History
one_poll = record { polls = record { clock = 0; events = Done 0 ∷ [] } ∷ []; answers = []; section_bound = 1000 }

-- a program with a `main` of these statements
abbrev main_of : List LStmt → LProgram
main_of ss = program (function Native (codes "main") int [] ss ∷ [])

-- it breaks these rules, and its threads are stuck after so many steps
pub record StuckBy (p : LProgram) (rules : List Rule) (n : ℕ) : Type 0 where
  pub breaks : breaks D.Cpc p ≡ map (λ rule. (here, rule)) rules
  pub stuck : IsStuck (threads (bare p)) (threaded (bare p) one_poll n)

-- it breaks these rules of the dialect Event, and its callbacks are stuck after so many steps
pub record EventStuckBy (p : LProgram) (rules : List Rule) (n : ℕ) : Type 0 where
  pub breaks : breaks D.Event p ≡ map (λ rule. (here, rule)) rules
  pub stuck : IsStuck (callbacks (bare p)) (event (bare p) one_poll n)

-- a program that breaks one of these rules can be stuck, and so can a tree that no text is read as
abbrev pub UnacceptedAreStuck : Type 0
UnacceptedAreStuck =
    -- no `main`
    StuckBy (program []) (R.NoMain ∷ []) 1
    -- cpc_print(x);
    × StuckBy (main_of (call None (codes "cpc_print") (name (codes "x") ∷ []) ∷ [])) (R.Undeclared ∷ []) 2
    -- cpc_print();
    × StuckBy (main_of (call None (codes "cpc_print") [] ∷ [])) (R.WrongNumber ∷ []) 2
    -- goto l;
    × StuckBy (main_of (Goto here (called (codes "l")) ∷ [])) (R.NoLabel ∷ []) 2
    -- break;
    × StuckBy (main_of (Break here ∷ [])) (R.Stray ∷ []) 2
    -- struct s x;
    × StuckBy (main_of (local (codes "x") (TyStruct (codes "s")) ∷ [])) (R.Incomplete ∷ []) 1
    -- int x; int *y; y = &x; x = y;
    × StuckBy (main_of (local (codes "x") int ∷ local (codes "y") (TyPointer int) ∷ set (name (codes "y")) (LUnary here AddressOf (name (codes "x"))) ∷ set (name (codes "x")) (name (codes "y")) ∷ [])) (R.Disagree ∷ []) 5
    -- int x; return &x;
    × StuckBy (main_of (local (codes "x") int ∷ Return here (Some (LUnary here AddressOf (name (codes "x")))) ∷ [])) (R.BadReturn ∷ []) 3
    -- 5 = 3;
    × StuckBy (main_of (set (number 5) (number 3) ∷ [])) (R.NoPlace ∷ []) 2
    -- struct s { int a; }; struct s x; x.b = 3;
    × StuckBy (program (LStruct (called (codes "s")) (record { called = called (codes "a"); type = int } ∷ []) ∷ function Native (codes "main") int [] (
    local (codes "x") (TyStruct (codes "s")) ∷ set (LMember here (name (codes "x")) (called (codes "b"))) (number 3) ∷ []) ∷ [])) (R.NoField ∷ []) 3
    -- cps void f(void){} and cpc_print(f);
    × StuckBy (program (function Cps (codes "f") TyVoid [] [] ∷ function Native (codes "main") int [] (call None (codes "cpc_print") (name (codes "f") ∷ []) ∷ []) ∷ [])) (R.CpsAsValue ∷ []) 2
    -- detached int d(int *p){ cpc_print(1); return 0; } and cps void f(void){ cpc_detached d(0); }, where main spawns f: at the poll that names the section
    × StuckBy (program (
    function Detached (codes "d") int (parameter (codes "p") (TyPointer int) ∷ []) (call None (codes "cpc_print") (number 1 ∷ []) ∷ Return here (Some (number 0)) ∷ [])
    ∷ function Cps (codes "f") TyVoid [] (Detach here here here None (called (codes "d")) (row (number 0 ∷ [])) ∷ [])
    ∷ function Native (codes "main") int [] (Spawn here (called (codes "f")) NoLExpr ∷ Return here (Some (number 0)) ∷ []) ∷ [])) (R.NotClosed ∷ []) 7
    -- rt_ready(0, 0);
    × EventStuckBy (main_of (call None (codes "rt_ready") (number 0 ∷ number 0 ∷ []) ∷ [])) (R.Disagree ∷ []) 2
    -- cps void f(void){} and cpc_spawn f();
    × EventStuckBy (program (function Cps (codes "f") TyVoid [] [] ∷ function Native (codes "main") int [] (Spawn here (called (codes "f")) NoLExpr ∷ []) ∷ [])) (R.CpsForm ∷ R.CpsForm ∷ []) 2
    -- for (;; goto l) {} , which no text is read as, breaks no rule
    × StuckBy (main_of (For here NoLStmt None (SomeLStmt (Goto here (called (codes "l")))) (block []) ∷ [])) [] 4
