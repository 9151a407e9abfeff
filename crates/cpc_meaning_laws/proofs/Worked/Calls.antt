-- Calls of functions that wait, their variables and their values.
use Rattle.std.specs.Prelude.{[], ◌∷◌, pos, Some, None, codes, refl}
use Rattle.std.specs.Fmt.{digits}
use Rattle.cpc_num.specs.Number.{settle, divided}
use Rattle.cpc_num.specs.declared.kinds.Kind.TheVariants.{Int}
use Rattle.cpc_num.specs.declared.kinds.Op.TheVariants.{Mul, Add, Sub, Lt}
use Rattle.cpc_num.specs.declared.kinds.Fault.TheVariants as F
use Rattle.cpc_tree.specs.declared.program.UnaryOp.TheVariants.{AddressOf}
use Rattle.cpc_tree.specs.declared.program.Mode.TheVariants.{Native, Cps}
use Rattle.cpc_tree.specs.Syntax.{TyVoid, TyInt, TyCode, TyArray, NoTy, AndTy, ENamed, EInteger, EUnary, EBinary, EIndex, NoExpr, AndExpr, Block, Declare, Assign, Call, Spawn, If, For, Return, NoStmt, AndStmt, Absent, Present, GlobalItem, FunctionItem, Program}
use Rattle.cpc_tree.specs.Trace.{Ended, Failed}
use Rattle.cpc_meaning_laws.specs.Worked.Shown.{RunsTo, no_polls}

-- a variable that is changed across a call; the function called has one of the same name
-- cps int g(int n){ int c; c = n * 2; cpc_yield(); c = c + 1; return c; }
-- cps void f(void){ int c; int r; int i; c = 1;
--   for(i=0;i<3;i++){ c = c + 10; r = g(c); c = c + r; cpc_print(c); } }
-- int main(void){ cpc_spawn f(); return 0; }
abbrev pub two_counters : Program
two_counters = ((FunctionItem (record { mode = Cps; called = (codes "g"); result = (TyInt Int); parameters = (record { called = Some (codes "n"); type = (TyInt Int) } ∷ []); body = (Block (AndStmt (Declare (codes "c") (TyInt Int) None) (AndStmt (Assign (ENamed (codes "c")) None (EBinary Mul (ENamed (codes "n")) (EInteger Int (pos 2)))) (AndStmt (Call None (ENamed (codes "cpc_yield")) NoExpr) (AndStmt (Assign (ENamed (codes "c")) None (EBinary Add (ENamed (codes "c")) (EInteger Int (pos 1)))) (AndStmt (Return (Some (ENamed (codes "c")))) NoStmt)))))) })) ∷ (FunctionItem (record { mode = Cps; called = (codes "f"); result = TyVoid; parameters = ([]); body = (Block (AndStmt (Declare (codes "c") (TyInt Int) None) (AndStmt (Declare (codes "r") (TyInt Int) None) (AndStmt (Declare (codes "i") (TyInt Int) None) (AndStmt (Assign (ENamed (codes "c")) None (EInteger Int (pos 1))) (AndStmt (For (AndStmt (Assign (ENamed (codes "i")) None (EInteger Int (pos 0))) NoStmt) (Some (EBinary Lt (ENamed (codes "i")) (EInteger Int (pos 3)))) (Present (Assign (ENamed (codes "i")) (Some Add) (EInteger Int (pos 1)))) (Block (AndStmt (Assign (ENamed (codes "c")) None (EBinary Add (ENamed (codes "c")) (EInteger Int (pos 10)))) (AndStmt (Call (Some (ENamed (codes "r"))) (ENamed (codes "g")) (AndExpr (ENamed (codes "c")) NoExpr)) (AndStmt (Assign (ENamed (codes "c")) None (EBinary Add (ENamed (codes "c")) (ENamed (codes "r")))) (AndStmt (Call None (ENamed (codes "cpc_print")) (AndExpr (ENamed (codes "c")) NoExpr)) NoStmt)))))) NoStmt)))))) })) ∷ (FunctionItem (record { mode = Native; called = (codes "main"); result = (TyInt Int); parameters = ([]); body = (Block (AndStmt (Spawn (codes "f") NoExpr) (AndStmt (Return (Some (EInteger Int (pos 0)))) NoStmt))) })) ∷ [])

-- variables live across waits
pub each_call_has_its_own_variables : RunsTo two_counters no_polls 200 (codes "34\n133\n430\n") (Ended 0)
unfolding digits settle divided
each_call_has_its_own_variables = record { output = refl; outcome = refl }

-- a function that waits and calls itself
-- int d;
-- cps void g(void){ d = d + 1; cpc_print(d); if (d < 3) { g(); cpc_yield(); } cpc_print(d * 10); }
-- cps void h(void){ g(); cpc_print(d + 100); }
-- int main(void){ cpc_spawn h(); return 0; }
abbrev pub diving : Program
diving = ((GlobalItem (codes "d") (TyInt Int) None) ∷ (FunctionItem (record { mode = Cps; called = (codes "g"); result = TyVoid; parameters = ([]); body = (Block (AndStmt (Assign (ENamed (codes "d")) None (EBinary Add (ENamed (codes "d")) (EInteger Int (pos 1)))) (AndStmt (Call None (ENamed (codes "cpc_print")) (AndExpr (ENamed (codes "d")) NoExpr)) (AndStmt (If (EBinary Lt (ENamed (codes "d")) (EInteger Int (pos 3))) (Block (AndStmt (Call None (ENamed (codes "g")) NoExpr) (AndStmt (Call None (ENamed (codes "cpc_yield")) NoExpr) NoStmt))) Absent) (AndStmt (Call None (ENamed (codes "cpc_print")) (AndExpr (EBinary Mul (ENamed (codes "d")) (EInteger Int (pos 10))) NoExpr)) NoStmt))))) })) ∷ (FunctionItem (record { mode = Cps; called = (codes "h"); result = TyVoid; parameters = ([]); body = (Block (AndStmt (Call None (ENamed (codes "g")) NoExpr) (AndStmt (Call None (ENamed (codes "cpc_print")) (AndExpr (EBinary Add (ENamed (codes "d")) (EInteger Int (pos 100))) NoExpr)) NoStmt))) })) ∷ (FunctionItem (record { mode = Native; called = (codes "main"); result = (TyInt Int); parameters = ([]); body = (Block (AndStmt (Spawn (codes "h") NoExpr) (AndStmt (Return (Some (EInteger Int (pos 0)))) NoStmt))) })) ∷ [])

-- each call returns to the one that made it
pub calls_return_in_their_order : RunsTo diving no_polls 150 (codes "1\n2\n3\n30\n30\n30\n103\n") (Ended 0)
unfolding digits settle divided
calls_return_in_their_order = record { output = refl; outcome = refl }

-- a `main` that waits for a value
-- cps int g(void){ cpc_yield(); return 6; }
-- cps int main(void){ int r; r = g(); cpc_print(r); return 0; }
abbrev pub asking_main : Program
asking_main = ((FunctionItem (record { mode = Cps; called = (codes "g"); result = (TyInt Int); parameters = ([]); body = (Block (AndStmt (Call None (ENamed (codes "cpc_yield")) NoExpr) (AndStmt (Return (Some (EInteger Int (pos 6)))) NoStmt))) })) ∷ (FunctionItem (record { mode = Cps; called = (codes "main"); result = (TyInt Int); parameters = ([]); body = (Block (AndStmt (Declare (codes "r") (TyInt Int) None) (AndStmt (Call (Some (ENamed (codes "r"))) (ENamed (codes "g")) NoExpr) (AndStmt (Call None (ENamed (codes "cpc_print")) (AndExpr (ENamed (codes "r")) NoExpr)) (AndStmt (Return (Some (EInteger Int (pos 0)))) NoStmt))))) })) ∷ [])

-- the value of a call comes when the function returns
pub a_value_arrives_after_a_wait : RunsTo asking_main no_polls 40 (codes "6\n") (Ended 0)
unfolding digits settle divided
a_value_arrives_after_a_wait = record { output = refl; outcome = refl }

-- a loop of calls of a function that does not wait
-- cps int one(void){ return 1; }
-- cps void f(void){ int i; int r; int s; s = 0;
--   for (i = 0; i < 30; i++) { r = one(); s = s + r; } cpc_print(s); }
-- int main(void){ cpc_spawn f(); return 0; }
abbrev pub many_calls : Program
many_calls = ((FunctionItem (record { mode = Cps; called = (codes "one"); result = (TyInt Int); parameters = ([]); body = (Block (AndStmt (Return (Some (EInteger Int (pos 1)))) NoStmt)) })) ∷ (FunctionItem (record { mode = Cps; called = (codes "f"); result = TyVoid; parameters = ([]); body = (Block (AndStmt (Declare (codes "i") (TyInt Int) None) (AndStmt (Declare (codes "r") (TyInt Int) None) (AndStmt (Declare (codes "s") (TyInt Int) None) (AndStmt (Assign (ENamed (codes "s")) None (EInteger Int (pos 0))) (AndStmt (For (AndStmt (Assign (ENamed (codes "i")) None (EInteger Int (pos 0))) NoStmt) (Some (EBinary Lt (ENamed (codes "i")) (EInteger Int (pos 30)))) (Present (Assign (ENamed (codes "i")) (Some Add) (EInteger Int (pos 1)))) (Block (AndStmt (Call (Some (ENamed (codes "r"))) (ENamed (codes "one")) NoExpr) (AndStmt (Assign (ENamed (codes "s")) None (EBinary Add (ENamed (codes "s")) (ENamed (codes "r")))) NoStmt)))) (AndStmt (Call None (ENamed (codes "cpc_print")) (AndExpr (ENamed (codes "s")) NoExpr)) NoStmt))))))) })) ∷ (FunctionItem (record { mode = Native; called = (codes "main"); result = (TyInt Int); parameters = ([]); body = (Block (AndStmt (Spawn (codes "f") NoExpr) (AndStmt (Return (Some (EInteger Int (pos 0)))) NoStmt))) })) ∷ [])

-- thirty calls, one after the other
pub calls_in_a_loop_do_not_nest : RunsTo many_calls no_polls 300 (codes "30\n") (Ended 0)
unfolding digits settle divided
calls_in_a_loop_do_not_nest = record { output = refl; outcome = refl }

-- a function with a value that reaches its end
-- cps int g(void){ cpc_yield(); }
-- cps void f(void){ int r; r = g(); cpc_print(3); cpc_print(r); }
-- int main(void){ cpc_spawn f(); return 0; }
abbrev pub falling_off : Program
falling_off = ((FunctionItem (record { mode = Cps; called = (codes "g"); result = (TyInt Int); parameters = ([]); body = (Block (AndStmt (Call None (ENamed (codes "cpc_yield")) NoExpr) NoStmt)) })) ∷ (FunctionItem (record { mode = Cps; called = (codes "f"); result = TyVoid; parameters = ([]); body = (Block (AndStmt (Declare (codes "r") (TyInt Int) None) (AndStmt (Call (Some (ENamed (codes "r"))) (ENamed (codes "g")) NoExpr) (AndStmt (Call None (ENamed (codes "cpc_print")) (AndExpr (EInteger Int (pos 3)) NoExpr)) (AndStmt (Call None (ENamed (codes "cpc_print")) (AndExpr (ENamed (codes "r")) NoExpr)) NoStmt))))) })) ∷ (FunctionItem (record { mode = Native; called = (codes "main"); result = (TyInt Int); parameters = ([]); body = (Block (AndStmt (Spawn (codes "f") NoExpr) (AndStmt (Return (Some (EInteger Int (pos 0)))) NoStmt))) })) ∷ [])

-- the value of a call without a return is unset, and may be assigned
pub no_return_gives_no_value : RunsTo falling_off no_polls 60 (codes "3\n") (Failed F.Unset (codes "f"))
unfolding digits settle divided
no_return_gives_no_value = record { output = refl; outcome = refl }

-- a place that changes while the call waits
-- int a[2];
-- int k;
-- cps int g(void){ k = 1; cpc_yield(); return 9; }
-- cps void f(void){ a[k] = g(); cpc_print(a[0]); cpc_print(a[1]); }
-- int main(void){ cpc_spawn f(); return 0; }
abbrev pub moving_target : Program
moving_target = ((GlobalItem (codes "a") (TyArray (TyInt Int) 2) None) ∷ (GlobalItem (codes "k") (TyInt Int) None) ∷ (FunctionItem (record { mode = Cps; called = (codes "g"); result = (TyInt Int); parameters = ([]); body = (Block (AndStmt (Assign (ENamed (codes "k")) None (EInteger Int (pos 1))) (AndStmt (Call None (ENamed (codes "cpc_yield")) NoExpr) (AndStmt (Return (Some (EInteger Int (pos 9)))) NoStmt)))) })) ∷ (FunctionItem (record { mode = Cps; called = (codes "f"); result = TyVoid; parameters = ([]); body = (Block (AndStmt (Call (Some (EIndex (ENamed (codes "a")) (ENamed (codes "k")))) (ENamed (codes "g")) NoExpr) (AndStmt (Call None (ENamed (codes "cpc_print")) (AndExpr (EIndex (ENamed (codes "a")) (EInteger Int (pos 0))) NoExpr)) (AndStmt (Call None (ENamed (codes "cpc_print")) (AndExpr (EIndex (ENamed (codes "a")) (EInteger Int (pos 1))) NoExpr)) NoStmt)))) })) ∷ (FunctionItem (record { mode = Native; called = (codes "main"); result = (TyInt Int); parameters = ([]); body = (Block (AndStmt (Spawn (codes "f") NoExpr) (AndStmt (Return (Some (EInteger Int (pos 0)))) NoStmt))) })) ∷ [])

-- the place of a call is evaluated when the value arrives
pub the_place_is_found_when_the_value_arrives : RunsTo moving_target no_polls 60 (codes "0\n9\n") (Ended 0)
unfolding digits settle divided
the_place_is_found_when_the_value_arrives = record { output = refl; outcome = refl }

-- a function called through a pointer
-- int add(int a, int b){ return a + b; }
-- int sub(int a, int b){ return a - b; }
-- int (*op)(int, int);
-- int main(void){ int r; op = add; r = op(5, 2); cpc_print(r); op = &sub; r = op(5, 2); cpc_print(r); return 0; }
abbrev pub called_by_pointer : Program
called_by_pointer = ((FunctionItem (record { mode = Native; called = (codes "add"); result = (TyInt Int); parameters = (record { called = Some (codes "a"); type = (TyInt Int) } ∷ record { called = Some (codes "b"); type = (TyInt Int) } ∷ []); body = (Block (AndStmt (Return (Some (EBinary Add (ENamed (codes "a")) (ENamed (codes "b"))))) NoStmt)) })) ∷ (FunctionItem (record { mode = Native; called = (codes "sub"); result = (TyInt Int); parameters = (record { called = Some (codes "a"); type = (TyInt Int) } ∷ record { called = Some (codes "b"); type = (TyInt Int) } ∷ []); body = (Block (AndStmt (Return (Some (EBinary Sub (ENamed (codes "a")) (ENamed (codes "b"))))) NoStmt)) })) ∷ (GlobalItem (codes "op") (TyCode (TyInt Int) (AndTy (TyInt Int) (AndTy (TyInt Int) NoTy))) None) ∷ (FunctionItem (record { mode = Native; called = (codes "main"); result = (TyInt Int); parameters = ([]); body = (Block (AndStmt (Declare (codes "r") (TyInt Int) None) (AndStmt (Assign (ENamed (codes "op")) None (ENamed (codes "add"))) (AndStmt (Call (Some (ENamed (codes "r"))) (ENamed (codes "op")) (AndExpr (EInteger Int (pos 5)) (AndExpr (EInteger Int (pos 2)) NoExpr))) (AndStmt (Call None (ENamed (codes "cpc_print")) (AndExpr (ENamed (codes "r")) NoExpr)) (AndStmt (Assign (ENamed (codes "op")) None (EUnary AddressOf (ENamed (codes "sub")))) (AndStmt (Call (Some (ENamed (codes "r"))) (ENamed (codes "op")) (AndExpr (EInteger Int (pos 5)) (AndExpr (EInteger Int (pos 2)) NoExpr))) (AndStmt (Call None (ENamed (codes "cpc_print")) (AndExpr (ENamed (codes "r")) NoExpr)) (AndStmt (Return (Some (EInteger Int (pos 0)))) NoStmt))))))))) })) ∷ [])

-- the name of a function is its code, with or without `&`
pub a_code_is_called_by_its_type : RunsTo called_by_pointer no_polls 60 (codes "7\n3\n") (Ended 0)
unfolding digits settle divided
a_code_is_called_by_its_type = record { output = refl; outcome = refl }
