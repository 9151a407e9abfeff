-- A program of threads with a little of everything.
use Rattle.std.specs.Prelude.{[], ◌∷◌, pos, Some, None, codes}
use Rattle.cpc_num.specs.declared.kinds.Kind.TheVariants.{Int}
use Rattle.cpc_num.specs.declared.kinds.Op.TheVariants.{Add, Sub, Mul, Lt, Gt, Eq}
use Rattle.cpc_tree.specs.declared.program.UnaryOp.TheVariants.{Dereference, AddressOf}
use Rattle.cpc_tree.specs.declared.program.Mode.TheVariants.{Native, Cps}
use Rattle.cpc_tree.specs.Syntax.{TyVoid, TyInt, TyPointer, TyCode, TyArray, NoTy, AndTy, ENamed, EInteger, EUnary, EBinary, EIndex, NoExpr, AndExpr, Block, Declare, Assign, Call, Spawn, If, While, DoWhile, For, Goto, Label, Break, Continue, Return, NoStmt, AndStmt, Absent, GlobalItem, PrototypeItem, FunctionItem, Program}
use Rattle.cpc_tree.specs.Trace.{Ended}
use Rattle.cpc_convert_image_laws.specs.Shown.{no_polls}
use Rattle.cpc_chains_event.specs.Worked.{RunsAlike}

-- int d;
-- int *q;
-- int add(int a, int b) { return a + b; }
-- void out(int k);
-- cps void fin(int k);
-- cps int loops(int n) { while (n > 0) { n = n - 1; if (n == 2) { cpc_yield(); continue; } cpc_print(n); } return n; }
-- cps int tight(void) { again: d = d + 1; if (d < 4) goto again; return d; }
-- cps void both(int a) { int b; int c[2]; q = &a; do { b = add(a, 1); c[0] = b; cpc_yield(); a = c[0]; if (a > 5) break; } while (1); b = loops(a); cpc_print(b); b = tight(); cpc_print(b + *q); tight(); cpc_print(d); for (;;) { if (d > 8) return; d++; cpc_spawn fin(d); cpc_yield(); } }
-- cps void fin(int k) { void (*h)(int); h = out; h(k); }
-- void out(int k) { cpc_print(k * 100); }
-- cps int main(void) { both(3); cpc_print(77); return 0; }
abbrev pub mixed : Program
mixed =
    GlobalItem (codes "d") (TyInt Int) None
    ∷ GlobalItem (codes "q") (TyPointer (TyInt Int)) None
    ∷ FunctionItem (record { mode = Native; called = (codes "add"); result = (TyInt Int); parameters = (record { called = (Some (codes "a")); type = (TyInt Int) } ∷ record { called = (Some (codes "b")); type = (TyInt Int) } ∷ []); body = (Block (AndStmt (Return (Some (EBinary Add (ENamed (codes "a")) (ENamed (codes "b"))))) NoStmt)) })
    ∷ PrototypeItem Native (codes "out") TyVoid (record { called = (Some (codes "k")); type = (TyInt Int) } ∷ [])
    ∷ PrototypeItem Cps (codes "fin") TyVoid (record { called = (Some (codes "k")); type = (TyInt Int) } ∷ [])
    ∷ FunctionItem (record { mode = Cps; called = (codes "loops"); result = (TyInt Int); parameters = (record { called = (Some (codes "n")); type = (TyInt Int) } ∷ []); body = (Block (AndStmt (While (EBinary Gt (ENamed (codes "n")) (EInteger Int (pos 0))) (Block (AndStmt (Assign (ENamed (codes "n")) None (EBinary Sub (ENamed (codes "n")) (EInteger Int (pos 1)))) (AndStmt (If (EBinary Eq (ENamed (codes "n")) (EInteger Int (pos 2))) (Block (AndStmt (Call None (ENamed (codes "cpc_yield")) NoExpr) (AndStmt Continue NoStmt))) Absent) (AndStmt (Call None (ENamed (codes "cpc_print")) (AndExpr (ENamed (codes "n")) NoExpr)) NoStmt))))) (AndStmt (Return (Some (ENamed (codes "n")))) NoStmt))) })
    ∷ FunctionItem (record { mode = Cps; called = (codes "tight"); result = (TyInt Int); parameters = ([]); body = (Block (AndStmt (Label (codes "again") (Assign (ENamed (codes "d")) None (EBinary Add (ENamed (codes "d")) (EInteger Int (pos 1))))) (AndStmt (If (EBinary Lt (ENamed (codes "d")) (EInteger Int (pos 4))) (Goto (codes "again")) Absent) (AndStmt (Return (Some (ENamed (codes "d")))) NoStmt)))) })
    ∷ FunctionItem (record { mode = Cps; called = (codes "both"); result = TyVoid; parameters = (record { called = (Some (codes "a")); type = (TyInt Int) } ∷ []); body = (Block (AndStmt (Declare (codes "b") (TyInt Int) None) (AndStmt (Declare (codes "c") (TyArray (TyInt Int) 2) None) (AndStmt (Assign (ENamed (codes "q")) None (EUnary AddressOf (ENamed (codes "a")))) (AndStmt (DoWhile (Block (AndStmt (Call (Some (ENamed (codes "b"))) (ENamed (codes "add")) (AndExpr (ENamed (codes "a")) (AndExpr (EInteger Int (pos 1)) NoExpr))) (AndStmt (Assign (EIndex (ENamed (codes "c")) (EInteger Int (pos 0))) None (ENamed (codes "b"))) (AndStmt (Call None (ENamed (codes "cpc_yield")) NoExpr) (AndStmt (Assign (ENamed (codes "a")) None (EIndex (ENamed (codes "c")) (EInteger Int (pos 0)))) (AndStmt (If (EBinary Gt (ENamed (codes "a")) (EInteger Int (pos 5))) Break Absent) NoStmt)))))) (EInteger Int (pos 1))) (AndStmt (Call (Some (ENamed (codes "b"))) (ENamed (codes "loops")) (AndExpr (ENamed (codes "a")) NoExpr)) (AndStmt (Call None (ENamed (codes "cpc_print")) (AndExpr (ENamed (codes "b")) NoExpr)) (AndStmt (Call (Some (ENamed (codes "b"))) (ENamed (codes "tight")) NoExpr) (AndStmt (Call None (ENamed (codes "cpc_print")) (AndExpr (EBinary Add (ENamed (codes "b")) (EUnary Dereference (ENamed (codes "q")))) NoExpr)) (AndStmt (Call None (ENamed (codes "tight")) NoExpr) (AndStmt (Call None (ENamed (codes "cpc_print")) (AndExpr (ENamed (codes "d")) NoExpr)) (AndStmt (For NoStmt None Absent (Block (AndStmt (If (EBinary Gt (ENamed (codes "d")) (EInteger Int (pos 8))) (Return None) Absent) (AndStmt (Assign (ENamed (codes "d")) (Some Add) (EInteger Int (pos 1))) (AndStmt (Spawn (codes "fin") (AndExpr (ENamed (codes "d")) NoExpr)) (AndStmt (Call None (ENamed (codes "cpc_yield")) NoExpr) NoStmt)))))) NoStmt)))))))))))) })
    ∷ FunctionItem (record { mode = Cps; called = (codes "fin"); result = TyVoid; parameters = (record { called = (Some (codes "k")); type = (TyInt Int) } ∷ []); body = (Block (AndStmt (Declare (codes "h") (TyCode TyVoid (AndTy (TyInt Int) NoTy)) None) (AndStmt (Assign (ENamed (codes "h")) None (ENamed (codes "out"))) (AndStmt (Call None (ENamed (codes "h")) (AndExpr (ENamed (codes "k")) NoExpr)) NoStmt)))) })
    ∷ FunctionItem (record { mode = Native; called = (codes "out"); result = TyVoid; parameters = (record { called = (Some (codes "k")); type = (TyInt Int) } ∷ []); body = (Block (AndStmt (Call None (ENamed (codes "cpc_print")) (AndExpr (EBinary Mul (ENamed (codes "k")) (EInteger Int (pos 100))) NoExpr)) NoStmt)) })
    ∷ FunctionItem (record { mode = Cps; called = (codes "main"); result = (TyInt Int); parameters = ([]); body = (Block (AndStmt (Call None (ENamed (codes "both")) (AndExpr (EInteger Int (pos 3)) NoExpr)) (AndStmt (Call None (ENamed (codes "cpc_print")) (AndExpr (EInteger Int (pos 77)) NoExpr)) (AndStmt (Return (Some (EInteger Int (pos 0)))) NoStmt)))) })
    ∷ []

-- it runs as its event program: loops whose test is the first node, jumps back, native calls, boxed parameters and arrays, calls through a variable, a cps `main`
abbrev pub MixedRunsAlike : Type 0
MixedRunsAlike = RunsAlike mixed no_polls 400 2500 (codes "5\n4\n3\n1\n0\n0\n10\n5\n600\n700\n800\n900\n77\n") (Ended 0)
