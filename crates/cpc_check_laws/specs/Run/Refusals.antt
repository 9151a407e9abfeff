-- Small programs that are plain but for one thing, and have other runs; and trees of another shape, of which the rules do not see enough.
use Rattle.std.specs.Prelude.{◌≡◌, true, false, [], ◌∷◌, None, codes, pos}
use Rattle.cpc_base.specs.Bytes.{Text}
use Rattle.cpc_base.specs.declared.stop.Place.{Place}
use Rattle.cpc_base.specs.declared.stop.Dialect.TheVariants as D
use Rattle.cpc_num.specs.declared.kinds.Kind.TheVariants.{Int, Long}
use Rattle.cpc_tree.specs.declared.program.Mode.{Mode}
use Rattle.cpc_tree.specs.declared.program.Mode.TheVariants.{Native, Cps}
use Rattle.cpc_tree.specs.Syntax.{TyVoid, TyInt, TyCode, NoTy, ENamed, EInteger, Exprs, NoExpr, AndExpr, Stmt, Block, Declare, Call, Detach, Spawn, Stmts, NoStmt, AndStmt, Item, FunctionItem, Program}
use Rattle.cpc_tree.specs.Located.{Ident, LNamed, NoLExpr, LStmt, NoLStmt, AndLStmt, NoneLStmt, SomeLStmt, LFunctionItem, LProgram, bare}
use Rattle.cpc_tree.specs.Located as L
use Rattle.cpc_meaning.specs.Runs.{SameRuns}
use Rattle.cpc_check_rules.specs.Rules.{breaks}
use Rattle.cpc_check_laws.specs.Native.Native.{are_native}
use Rattle.cpc_check_laws.specs.Run.Plain.{is_plain}

-- ---- plainness

-- a function without parameters that gives an int
abbrev pub int_function : Mode → Text → Stmts → Item
int_function mode x ss = FunctionItem (record { mode = mode; called = x; result = TyInt Int; parameters = []; body = Block ss })

-- int main(void){ statement }
abbrev pub main_of : Stmt → Program
main_of s = int_function Native (codes "main") (AndStmt s NoStmt) ∷ []

-- a call of a name without a place
abbrev pub call_of : Text → Exprs → Stmt
call_of x es = Call None (ENamed x) es

-- int main(void){ cpc_spawn main(); }
abbrev pub spawning : Program
spawning = main_of (Spawn (codes "main") NoExpr)

-- int main(void){ cpc_detached main(); }
abbrev pub detaching : Program
detaching = main_of (Detach None (codes "main") NoExpr)

-- int main(void){ cpc_yield(); }
abbrev pub yielding : Program
yielding = main_of (call_of (codes "cpc_yield") NoExpr)

-- int main(void){ rt_box(1L); }
abbrev pub boxing : Program
boxing = main_of (call_of (codes "rt_box") (AndExpr (EInteger Long (pos 1)) NoExpr))

-- a function that prints a variable without a value, and is called by main
abbrev pub failing : Mode → Text → Program
failing mode x = int_function mode x (AndStmt (Declare (codes "x") (TyInt Int) None) (AndStmt (call_of (codes "cpc_print") (AndExpr (ENamed (codes "x")) NoExpr)) NoStmt)) ∷ main_of (call_of x NoExpr)

-- a native function whose name holds two underscores: its event run tells the part before these
abbrev pub underscored : Program
underscored = failing Native (codes "f__g")

-- a cps function whose name ends with a underscore: its threaded run tells the name without that
abbrev pub cps_named : Program
cps_named = failing Cps (codes "f_")

-- each of them has not the same runs in both machines
pub record PlainIsNeeded : Type 0 where
  pub spawn : ¬ SameRuns spawning spawning
  pub detach : ¬ SameRuns detaching detaching
  pub yield : ¬ SameRuns yielding yielding
  pub box : ¬ SameRuns boxing boxing
  pub underscores : ¬ SameRuns underscored underscored
  pub cps : ¬ SameRuns cps_named cps_named

-- ---- shape

abbrev pub here : Place
here = record { line = 1; column = 1 }

abbrev pub name : Text → Ident
name x = record { place = here; text = x }

-- int main(void) with this body
abbrev pub main_with : LStmt → LProgram
main_with body = record { items = LFunctionItem (record { place = here; mode = Native; called = name (codes "main"); result = TyInt Int; parameters = []; body = body }) ∷ []; end = here }

-- cpc_yield();
abbrev pub yields : LStmt
yields = L.Call here here None (LNamed (name (codes "cpc_yield"))) NoLExpr

-- a body that is no block
abbrev pub no_block : LProgram
no_block = main_with yields

-- for (;; { void cpc_yield(void); cpc_yield(); }) ; , where the last part declares a local
abbrev pub local_in_step : LProgram
local_in_step = main_with (L.Block here (AndLStmt
    (L.For here NoLStmt None (SomeLStmt (L.Block here (AndLStmt (L.Declare here (name (codes "cpc_yield")) (TyCode TyVoid NoTy) None) (AndLStmt yields NoLStmt)))) (L.Empty here))
    NoLStmt))

-- native code that breaks no rule, and is not plain
pub record UnseenByRules (p : LProgram) : Type 0 where
  pub unbroken : breaks D.Cpc p ≡ []
  pub native : are_native p.items ≡ true
  pub not_plain : is_plain (bare p) ≡ false

-- the rules do not see enough of trees of another shape
abbrev pub ShapeIsNeeded : Type 0
ShapeIsNeeded = UnseenByRules no_block × UnseenByRules local_in_step
