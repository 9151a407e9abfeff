-- Small programs whose lifted machines show something else, where one thing that has to be kept is not.
use Rattle.std.specs.Prelude.{◌≡◌, ℕ, ◌==◌, not, Bool, true, false, [], ◌∷◌, None, codes, pos}
use Rattle.cpc_base.specs.Bytes.{Text}
use Rattle.cpc_num.specs.declared.kinds.Kind.TheVariants.{Int}
use Rattle.cpc_num.specs.declared.kinds.Fault.TheVariants as F
use Rattle.cpc_tree.specs.declared.program.Mode.TheVariants.{Native}
use Rattle.cpc_tree.specs.declared.program.UnaryOp.TheVariants.{Dereference, AddressOf}
use Rattle.cpc_tree.specs.Syntax.{TyVoid, TyInt, TyPointer, ENamed, EInteger, EUnary, Expr, NoExpr, AndExpr, Stmt, Block, Empty, Declare, Assign, Call, Stmts, NoStmt, AndStmt, Item, GlobalItem, FunctionItem, Program}
use Rattle.cpc_tree.specs.Points.{Point, Here, End, Nth}
use Rattle.cpc_tree.specs.Trace.{Outcome, Ended, Failed}
use Rattle.cpc_meaning_matching.specs.Systems.{run}
use Rattle.cpc_meaning.specs.Ways.{ways}
use Rattle.cpc_meaning.specs.History.{History}
use Rattle.cpc_meaning.specs.Matching.{thread_system}
use Rattle.cpc_lift_laws.specs.Lifted.{lifted_system}

-- nothing comes from outside
abbrev pub nothing : History
nothing = record { polls = []; answers = []; section_bound = 1 }

-- i = 1;
abbrev pub sets : Stmt
sets = Assign (ENamed (codes "i")) None (EInteger Int (pos 1))

-- cpc_print(e);
abbrev pub prints : Expr → Stmt
prints e = Call None (ENamed (codes "cpc_print")) (AndExpr e NoExpr)

-- void f(void) { }
abbrev pub function : Text → Stmts → Item
function x ss = FunctionItem (record { mode = Native; called = x; result = TyVoid; parameters = []; body = Block ss })

-- int i;
abbrev pub declares : Stmt
declares = Declare (codes "i") (TyInt Int) None

-- void f(void) { }  void main(void) { int i; i = 1; s; cpc_print(i); }
abbrev pub with_third : Stmt → Program
with_third s = function (codes "f") NoStmt ∷ function (codes "main") (AndStmt declares (AndStmt sets (AndStmt s (AndStmt (prints (ENamed (codes "i"))) NoStmt)))) ∷ []

-- int *g;  void f(void) { int i; i = 1; g = &i; }  void main(void) { f(); cpc_print(*g); }
abbrev pub pointing : Program
pointing =
    GlobalItem (codes "g") (TyPointer (TyInt Int)) None
    ∷ function (codes "f") (AndStmt declares (AndStmt sets (AndStmt (Assign (ENamed (codes "g")) None (EUnary AddressOf (ENamed (codes "i")))) NoStmt)))
    ∷ function (codes "main") (AndStmt (Call None (ENamed (codes "f")) NoExpr) (AndStmt (prints (EUnary Dereference (ENamed (codes "g")))) NoStmt))
    ∷ []

-- all is kept but at the n-th statement of a block
abbrev pub not_at : ℕ → Text → Point → ℕ → Bool
not_at n f (Here (Nth m ∷ path)) k = not (m == n)
not_at n f point k = true

-- all is kept but at the end
abbrev pub not_at_end : Text → Point → ℕ → Bool
not_at_end f End k = false
not_at_end f point k = true

-- how runs that are over within twenty steps end
abbrev pub end_of : Program → Outcome
end_of p = (run (thread_system (ways p) nothing) 20).outcome

-- and the lifted ones
abbrev pub lifted_end_of : (Text → Point → ℕ → Bool) → Program → Outcome
lifted_end_of kept p = (run (lifted_system kept (ways p) nothing) 20).outcome

-- what has to be kept is missed: a variable where it occurs, one that is kept further along a way, or over a call, and a box where it is freed
pub record WhatIsKeptIsNeeded : Type 0 where
  pub used : (end_of (with_third Empty) ≡ Ended 0) × (lifted_end_of (not_at 3) (with_third Empty) ≡ Failed F.Unset (codes "main"))
  pub along : (end_of (with_third Empty) ≡ Ended 0) × (lifted_end_of (not_at 2) (with_third Empty) ≡ Failed F.Unset (codes "main"))
  pub over : (end_of (with_third (Call None (ENamed (codes "f")) NoExpr)) ≡ Ended 0) × (lifted_end_of (not_at 2) (with_third (Call None (ENamed (codes "f")) NoExpr)) ≡ Failed F.Unset (codes "main"))
  pub left : (end_of pointing ≡ Failed F.Freed (codes "main")) × (lifted_end_of not_at_end pointing ≡ Ended 0)
