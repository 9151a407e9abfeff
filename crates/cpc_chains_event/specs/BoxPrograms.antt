-- Programs of threads whose event programs run as they do: boxes of each type, and a loop that begins with the first node.
use Rattle.std.specs.Prelude.{[], ◌∷◌, pos, Some, None, codes}
use Rattle.cpc_num.specs.declared.kinds.Kind.TheVariants.{Int}
use Rattle.cpc_num.specs.declared.kinds.Op.TheVariants.{Mul, Add, Sub, Gt, Eq}
use Rattle.cpc_tree.specs.declared.program.UnaryOp.TheVariants.{Dereference, AddressOf}
use Rattle.cpc_tree.specs.declared.program.Mode.TheVariants.{Native, Cps}
use Rattle.cpc_tree.specs.Syntax.{TyVoid, TyInt, TyPointer, TyCode, TyStruct, TyArray, NoTy, ENamed, EInteger, EUnary, EBinary, ECast, EIndex, EMember, NoExpr, AndExpr, Block, Declare, Assign, Call, Spawn, If, Goto, Label, Return, NoStmt, AndStmt, Absent, StructItem, GlobalItem, FunctionItem, Program}

-- a variable of a function's code that has an address
-- void g(void) { cpc_print(7); }
-- cps void f(void) { void (*h)(void); void *p; h = g; p = (void *) &h; cpc_yield(); h(); }
-- int main(void) { cpc_spawn f(); return 0; }
abbrev pub boxed_code : Program
boxed_code =
    FunctionItem (record { mode = Native; called = (codes "g"); result = TyVoid; parameters = ([]); body = (Block (AndStmt (Call None (ENamed (codes "cpc_print")) (AndExpr (EInteger Int (pos 7)) NoExpr)) NoStmt)) })
    ∷ FunctionItem (record { mode = Cps; called = (codes "f"); result = TyVoid; parameters = ([]); body = (Block (AndStmt (Declare (codes "h") (TyCode TyVoid NoTy) None) (AndStmt (Declare (codes "p") (TyPointer TyVoid) None) (AndStmt (Assign (ENamed (codes "h")) None (ENamed (codes "g"))) (AndStmt (Assign (ENamed (codes "p")) None (ECast (TyPointer TyVoid) (EUnary AddressOf (ENamed (codes "h"))))) (AndStmt (Call None (ENamed (codes "cpc_yield")) NoExpr) (AndStmt (Call None (ENamed (codes "h")) NoExpr) NoStmt))))))) })
    ∷ FunctionItem (record { mode = Native; called = (codes "main"); result = (TyInt Int); parameters = ([]); body = (Block (AndStmt (Spawn (codes "f") NoExpr) (AndStmt (Return (Some (EInteger Int (pos 0)))) NoStmt))) })
    ∷ []

-- a struct and an array of each call, and a parameter with an address, into which another thread writes
-- struct s { int a; int b[2]; };
-- int *q;
-- cps void w(void) { *q = *q + 3; }
-- cps void f(int n) { struct s v; int c[3]; v.a = n; v.b[1] = n + 1; c[2] = 5; q = &v.b[1]; cpc_spawn w(); cpc_yield();
--   q = &n; cpc_spawn w(); cpc_yield(); cpc_print(n * 1000 + (v.a * 100 + (v.b[1] * 10 + c[2]))); }
-- int main(void) { cpc_spawn f(1); return 0; }
abbrev pub boxed_parts : Program
boxed_parts =
    StructItem (codes "s") (record { called = (codes "a"); type = (TyInt Int) } ∷ record { called = (codes "b"); type = (TyArray (TyInt Int) 2) } ∷ [])
    ∷ GlobalItem (codes "q") (TyPointer (TyInt Int)) None
    ∷ FunctionItem (record { mode = Cps; called = (codes "w"); result = TyVoid; parameters = ([]); body = (Block (AndStmt (Assign (EUnary Dereference (ENamed (codes "q"))) None (EBinary Add (EUnary Dereference (ENamed (codes "q"))) (EInteger Int (pos 3)))) NoStmt)) })
    ∷ FunctionItem (record { mode = Cps; called = (codes "f"); result = TyVoid; parameters = (record { called = (Some (codes "n")); type = (TyInt Int) } ∷ []); body = (Block (AndStmt (Declare (codes "v") (TyStruct (codes "s")) None) (AndStmt (Declare (codes "c") (TyArray (TyInt Int) 3) None) (AndStmt (Assign (EMember (ENamed (codes "v")) (codes "a")) None (ENamed (codes "n"))) (AndStmt (Assign (EIndex (EMember (ENamed (codes "v")) (codes "b")) (EInteger Int (pos 1))) None (EBinary Add (ENamed (codes "n")) (EInteger Int (pos 1)))) (AndStmt (Assign (EIndex (ENamed (codes "c")) (EInteger Int (pos 2))) None (EInteger Int (pos 5))) (AndStmt (Assign (ENamed (codes "q")) None (EUnary AddressOf (EIndex (EMember (ENamed (codes "v")) (codes "b")) (EInteger Int (pos 1))))) (AndStmt (Spawn (codes "w") NoExpr) (AndStmt (Call None (ENamed (codes "cpc_yield")) NoExpr) (AndStmt (Assign (ENamed (codes "q")) None (EUnary AddressOf (ENamed (codes "n")))) (AndStmt (Spawn (codes "w") NoExpr) (AndStmt (Call None (ENamed (codes "cpc_yield")) NoExpr) (AndStmt (Call None (ENamed (codes "cpc_print")) (AndExpr (EBinary Add (EBinary Mul (ENamed (codes "n")) (EInteger Int (pos 1000))) (EBinary Add (EBinary Mul (EMember (ENamed (codes "v")) (codes "a")) (EInteger Int (pos 100))) (EBinary Add (EBinary Mul (EIndex (EMember (ENamed (codes "v")) (codes "b")) (EInteger Int (pos 1))) (EInteger Int (pos 10))) (EIndex (ENamed (codes "c")) (EInteger Int (pos 2)))))) NoExpr)) NoStmt))))))))))))) })
    ∷ FunctionItem (record { mode = Native; called = (codes "main"); result = (TyInt Int); parameters = ([]); body = (Block (AndStmt (Spawn (codes "f") (AndExpr (EInteger Int (pos 1)) NoExpr)) (AndStmt (Return (Some (EInteger Int (pos 0)))) NoStmt))) })
    ∷ []

-- a loop without a wait, which begins with the first node
-- cps void f(int n) { again: n = n - 1; if (n > 0) goto again; if (n == 0) cpc_yield(); cpc_print(n); }
-- int main(void) { cpc_spawn f(3); return 0; }
abbrev pub counting : Program
counting =
    FunctionItem (record { mode = Cps; called = (codes "f"); result = TyVoid; parameters = (record { called = (Some (codes "n")); type = (TyInt Int) } ∷ []); body = (Block (AndStmt (Label (codes "again") (Assign (ENamed (codes "n")) None (EBinary Sub (ENamed (codes "n")) (EInteger Int (pos 1))))) (AndStmt (If (EBinary Gt (ENamed (codes "n")) (EInteger Int (pos 0))) (Goto (codes "again")) Absent) (AndStmt (If (EBinary Eq (ENamed (codes "n")) (EInteger Int (pos 0))) (Call None (ENamed (codes "cpc_yield")) NoExpr) Absent) (AndStmt (Call None (ENamed (codes "cpc_print")) (AndExpr (ENamed (codes "n")) NoExpr)) NoStmt))))) })
    ∷ FunctionItem (record { mode = Native; called = (codes "main"); result = (TyInt Int); parameters = ([]); body = (Block (AndStmt (Spawn (codes "f") (AndExpr (EInteger Int (pos 3)) NoExpr)) (AndStmt (Return (Some (EInteger Int (pos 0)))) NoStmt))) })
    ∷ []
