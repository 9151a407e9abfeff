-- Rounds: which thread runs, and when.
use Rattle.std.specs.Prelude.{[], ◌∷◌, pos, Some, None, codes, refl}
use Rattle.std.specs.Fmt.{digits}
use Rattle.cpc_num.specs.Number.{settle, divided}
use Rattle.cpc_num.specs.declared.kinds.Kind.TheVariants.{Int}
use Rattle.cpc_num.specs.declared.kinds.Op.TheVariants.{Add, Lt}
use Rattle.cpc_tree.specs.declared.program.Mode.TheVariants.{Native, Cps}
use Rattle.cpc_tree.specs.Syntax.{TyVoid, TyInt, ENamed, EInteger, EBinary, NoExpr, AndExpr, Block, Declare, Assign, Call, Spawn, For, Return, NoStmt, AndStmt, Present, FunctionItem, Program}
use Rattle.cpc_tree.specs.Trace.{Going, Ended, Exited}
use Rattle.cpc_meaning_laws.specs.Worked.Shown.{RunsTo, no_polls}

-- two threads that print by turns
-- cps void t(int c){ int i; for(i=1;i<4;i++){ cpc_putc(c); cpc_print(i); cpc_yield(); } }
-- int main(void){ cpc_spawn t(97); cpc_spawn t(98); return 0; }
abbrev pub alternating : Program
alternating = ((FunctionItem (record { mode = Cps; called = (codes "t"); result = TyVoid; parameters = (record { called = Some (codes "c"); type = (TyInt Int) } ∷ []); body = (Block (AndStmt (Declare (codes "i") (TyInt Int) None) (AndStmt (For (AndStmt (Assign (ENamed (codes "i")) None (EInteger Int (pos 1))) NoStmt) (Some (EBinary Lt (ENamed (codes "i")) (EInteger Int (pos 4)))) (Present (Assign (ENamed (codes "i")) (Some Add) (EInteger Int (pos 1)))) (Block (AndStmt (Call None (ENamed (codes "cpc_putc")) (AndExpr (ENamed (codes "c")) NoExpr)) (AndStmt (Call None (ENamed (codes "cpc_print")) (AndExpr (ENamed (codes "i")) NoExpr)) (AndStmt (Call None (ENamed (codes "cpc_yield")) NoExpr) NoStmt))))) NoStmt))) })) ∷ (FunctionItem (record { mode = Native; called = (codes "main"); result = (TyInt Int); parameters = ([]); body = (Block (AndStmt (Spawn (codes "t") (AndExpr (EInteger Int (pos 97)) NoExpr)) (AndStmt (Spawn (codes "t") (AndExpr (EInteger Int (pos 98)) NoExpr)) (AndStmt (Return (Some (EInteger Int (pos 0)))) NoStmt)))) })) ∷ [])

-- each thread runs once in each round
pub threads_take_turns : RunsTo alternating no_polls 100 (codes "a1\nb1\na2\nb2\na3\nb3\n") (Ended 0)
unfolding digits settle divided
threads_take_turns = record { output = refl; outcome = refl }

-- a thread that spawns others, beside one that yields
-- cps void p(int n){ cpc_print(n); }
-- cps void s(void){ int i; for(i=0;i<3;i++){ cpc_spawn p(10+i); cpc_print(i); cpc_yield(); } }
-- cps void y(void){ cpc_print(7); cpc_yield(); cpc_print(8); }
-- int main(void){ cpc_spawn s(); cpc_spawn y(); return 0; }
abbrev pub spawning : Program
spawning = ((FunctionItem (record { mode = Cps; called = (codes "p"); result = TyVoid; parameters = (record { called = Some (codes "n"); type = (TyInt Int) } ∷ []); body = (Block (AndStmt (Call None (ENamed (codes "cpc_print")) (AndExpr (ENamed (codes "n")) NoExpr)) NoStmt)) })) ∷ (FunctionItem (record { mode = Cps; called = (codes "s"); result = TyVoid; parameters = ([]); body = (Block (AndStmt (Declare (codes "i") (TyInt Int) None) (AndStmt (For (AndStmt (Assign (ENamed (codes "i")) None (EInteger Int (pos 0))) NoStmt) (Some (EBinary Lt (ENamed (codes "i")) (EInteger Int (pos 3)))) (Present (Assign (ENamed (codes "i")) (Some Add) (EInteger Int (pos 1)))) (Block (AndStmt (Spawn (codes "p") (AndExpr (EBinary Add (EInteger Int (pos 10)) (ENamed (codes "i"))) NoExpr)) (AndStmt (Call None (ENamed (codes "cpc_print")) (AndExpr (ENamed (codes "i")) NoExpr)) (AndStmt (Call None (ENamed (codes "cpc_yield")) NoExpr) NoStmt))))) NoStmt))) })) ∷ (FunctionItem (record { mode = Cps; called = (codes "y"); result = TyVoid; parameters = ([]); body = (Block (AndStmt (Call None (ENamed (codes "cpc_print")) (AndExpr (EInteger Int (pos 7)) NoExpr)) (AndStmt (Call None (ENamed (codes "cpc_yield")) NoExpr) (AndStmt (Call None (ENamed (codes "cpc_print")) (AndExpr (EInteger Int (pos 8)) NoExpr)) NoStmt)))) })) ∷ (FunctionItem (record { mode = Native; called = (codes "main"); result = (TyInt Int); parameters = ([]); body = (Block (AndStmt (Spawn (codes "s") NoExpr) (AndStmt (Spawn (codes "y") NoExpr) (AndStmt (Return (Some (EInteger Int (pos 0)))) NoStmt)))) })) ∷ [])

-- what is spawned never runs in the same round
pub a_spawned_thread_runs_in_the_next_round : RunsTo spawning no_polls 100 (codes "0\n7\n10\n1\n8\n11\n2\n12\n") (Ended 0)
unfolding digits settle divided
a_spawned_thread_runs_in_the_next_round = record { output = refl; outcome = refl }

-- one function, spawned by `main` and by a thread
-- cps void a(void){ cpc_print(1); cpc_yield(); cpc_print(2); cpc_yield(); cpc_print(3); }
-- cps void b(void){ cpc_print(10); cpc_spawn a(); cpc_yield(); cpc_print(20); }
-- int main(void){ cpc_spawn a(); cpc_spawn b(); cpc_print(0); return 0; }
abbrev pub spawning_itself_twice : Program
spawning_itself_twice = ((FunctionItem (record { mode = Cps; called = (codes "a"); result = TyVoid; parameters = ([]); body = (Block (AndStmt (Call None (ENamed (codes "cpc_print")) (AndExpr (EInteger Int (pos 1)) NoExpr)) (AndStmt (Call None (ENamed (codes "cpc_yield")) NoExpr) (AndStmt (Call None (ENamed (codes "cpc_print")) (AndExpr (EInteger Int (pos 2)) NoExpr)) (AndStmt (Call None (ENamed (codes "cpc_yield")) NoExpr) (AndStmt (Call None (ENamed (codes "cpc_print")) (AndExpr (EInteger Int (pos 3)) NoExpr)) NoStmt)))))) })) ∷ (FunctionItem (record { mode = Cps; called = (codes "b"); result = TyVoid; parameters = ([]); body = (Block (AndStmt (Call None (ENamed (codes "cpc_print")) (AndExpr (EInteger Int (pos 10)) NoExpr)) (AndStmt (Spawn (codes "a") NoExpr) (AndStmt (Call None (ENamed (codes "cpc_yield")) NoExpr) (AndStmt (Call None (ENamed (codes "cpc_print")) (AndExpr (EInteger Int (pos 20)) NoExpr)) NoStmt))))) })) ∷ (FunctionItem (record { mode = Native; called = (codes "main"); result = (TyInt Int); parameters = ([]); body = (Block (AndStmt (Spawn (codes "a") NoExpr) (AndStmt (Spawn (codes "b") NoExpr) (AndStmt (Call None (ENamed (codes "cpc_print")) (AndExpr (EInteger Int (pos 0)) NoExpr)) (AndStmt (Return (Some (EInteger Int (pos 0)))) NoStmt))))) })) ∷ [])

-- two threads of one function are in different rounds of it
pub threads_of_one_function_are_apart : RunsTo spawning_itself_twice no_polls 100 (codes "0\n1\n10\n2\n1\n20\n3\n2\n3\n") (Ended 0)
unfolding digits settle divided
threads_of_one_function_are_apart = record { output = refl; outcome = refl }

-- a `main` that yields
-- cps void t(void){ cpc_print(2); }
-- cps int main(void){ cpc_spawn t(); cpc_print(1); cpc_yield(); cpc_print(3); return 5; }
abbrev pub waiting_main : Program
waiting_main = ((FunctionItem (record { mode = Cps; called = (codes "t"); result = TyVoid; parameters = ([]); body = (Block (AndStmt (Call None (ENamed (codes "cpc_print")) (AndExpr (EInteger Int (pos 2)) NoExpr)) NoStmt)) })) ∷ (FunctionItem (record { mode = Cps; called = (codes "main"); result = (TyInt Int); parameters = ([]); body = (Block (AndStmt (Spawn (codes "t") NoExpr) (AndStmt (Call None (ENamed (codes "cpc_print")) (AndExpr (EInteger Int (pos 1)) NoExpr)) (AndStmt (Call None (ENamed (codes "cpc_yield")) NoExpr) (AndStmt (Call None (ENamed (codes "cpc_print")) (AndExpr (EInteger Int (pos 3)) NoExpr)) (AndStmt (Return (Some (EInteger Int (pos 5)))) NoStmt)))))) })) ∷ [])

-- `main` may wait, and its value is dropped
pub a_cps_main_is_a_thread : RunsTo waiting_main no_polls 40 (codes "1\n2\n3\n") (Ended 0)
unfolding digits settle divided
a_cps_main_is_a_thread = record { output = refl; outcome = refl }

-- a `main` that returns before its thread runs
-- cps void t(void){ cpc_print(1); }
-- int main(void){ cpc_spawn t(); return 3; }
abbrev pub returning_main : Program
returning_main = ((FunctionItem (record { mode = Cps; called = (codes "t"); result = TyVoid; parameters = ([]); body = (Block (AndStmt (Call None (ENamed (codes "cpc_print")) (AndExpr (EInteger Int (pos 1)) NoExpr)) NoStmt)) })) ∷ (FunctionItem (record { mode = Native; called = (codes "main"); result = (TyInt Int); parameters = ([]); body = (Block (AndStmt (Spawn (codes "t") NoExpr) (AndStmt (Return (Some (EInteger Int (pos 3)))) NoStmt))) })) ∷ [])

-- other threads go on when `main` has returned
pub threads_outlive_main : RunsTo returning_main no_polls 30 (codes "1\n") (Ended 0)
unfolding digits settle divided
threads_outlive_main = record { output = refl; outcome = refl }

-- a thread that exits while another waits
-- cps void t(void){ cpc_yield(); cpc_print(1); }
-- int main(void){ cpc_spawn t(); cpc_print(0); cpc_exit(7); return 0; }
abbrev pub leaving : Program
leaving = ((FunctionItem (record { mode = Cps; called = (codes "t"); result = TyVoid; parameters = ([]); body = (Block (AndStmt (Call None (ENamed (codes "cpc_yield")) NoExpr) (AndStmt (Call None (ENamed (codes "cpc_print")) (AndExpr (EInteger Int (pos 1)) NoExpr)) NoStmt))) })) ∷ (FunctionItem (record { mode = Native; called = (codes "main"); result = (TyInt Int); parameters = ([]); body = (Block (AndStmt (Spawn (codes "t") NoExpr) (AndStmt (Call None (ENamed (codes "cpc_print")) (AndExpr (EInteger Int (pos 0)) NoExpr)) (AndStmt (Call None (ENamed (codes "cpc_exit")) (AndExpr (EInteger Int (pos 7)) NoExpr)) (AndStmt (Return (Some (EInteger Int (pos 0)))) NoStmt))))) })) ∷ [])

-- nothing runs after an exit
pub exit_ends_the_run : RunsTo leaving no_polls 30 (codes "0\n") (Exited (pos 7))
unfolding digits settle divided
exit_ends_the_run = record { output = refl; outcome = refl }

-- a local that begins with a call is two statements
-- int f(void){ return 5; }
-- int main(void){ int x = f(); cpc_print(x); return 0; }
abbrev pub counting_steps : Program
counting_steps = ((FunctionItem (record { mode = Native; called = (codes "f"); result = (TyInt Int); parameters = ([]); body = (Block (AndStmt (Return (Some (EInteger Int (pos 5)))) NoStmt)) })) ∷ (FunctionItem (record { mode = Native; called = (codes "main"); result = (TyInt Int); parameters = ([]); body = (Block (AndStmt (Declare (codes "x") (TyInt Int) None) (AndStmt (Call (Some (ENamed (codes "x"))) (ENamed (codes "f")) NoExpr) (AndStmt (Call None (ENamed (codes "cpc_print")) (AndExpr (ENamed (codes "x")) NoExpr)) (AndStmt (Return (Some (EInteger Int (pos 0)))) NoStmt))))) })) ∷ [])

-- The steps are the turn of the round, the taking of `main`, the declaration, the call, the return in `f`, the arrival of its value,
-- the print, the return of `main`, and the end
pub the_eighth_step_is_not_the_last : RunsTo counting_steps no_polls 8 (codes "5\n") Going
unfolding digits settle divided
the_eighth_step_is_not_the_last = record { output = refl; outcome = refl }

-- the end has a step of its own
pub the_ninth_step_ends_the_run : RunsTo counting_steps no_polls 9 (codes "5\n") (Ended 0)
unfolding digits settle divided
the_ninth_step_ends_the_run = record { output = refl; outcome = refl }
