-- Conditions: waiting, signals, and waiters that are left.
use Rattle.std.specs.Prelude.{[], ◌∷◌, pos, Some, None, codes, refl}
use Rattle.std.specs.Fmt.{digits}
use Rattle.cpc_num.specs.Number.{settle, divided}
use Rattle.cpc_num.specs.declared.kinds.Kind.TheVariants.{Int}
use Rattle.cpc_num.specs.declared.kinds.Op.TheVariants.{Add}
use Rattle.cpc_tree.specs.declared.program.Mode.TheVariants.{Native, Cps}
use Rattle.cpc_tree.specs.Syntax.{TyVoid, TyInt, TyCondvar, ENamed, EInteger, EBinary, NoExpr, AndExpr, Block, Call, Spawn, Return, NoStmt, AndStmt, GlobalItem, FunctionItem, Program}
use Rattle.cpc_tree.specs.Trace.{Ended}
use Rattle.cpc_meaning_laws.specs.Worked.Shown.{RunsTo, Traces, no_polls}

-- three waiters, and signals one by one
-- cpc_condvar c;
-- cps void w(int n){ cpc_wait(c); cpc_print(n); }
-- cps void s(void){ cpc_signal(c); cpc_signal(c); cpc_yield(); cpc_signal_all(c);
--   cpc_yield(); cpc_signal(c); cpc_spawn w(9); }
-- int main(void){ c = cpc_cond_new(); cpc_spawn w(1); cpc_spawn w(2); cpc_spawn w(3);
--   cpc_spawn s(); return 0; }
abbrev pub three_waiters : Program
three_waiters = ((GlobalItem (codes "c") TyCondvar None) ∷ (FunctionItem (record { mode = Cps; called = (codes "w"); result = TyVoid; parameters = (record { called = Some (codes "n"); type = (TyInt Int) } ∷ []); body = (Block (AndStmt (Call None (ENamed (codes "cpc_wait")) (AndExpr (ENamed (codes "c")) NoExpr)) (AndStmt (Call None (ENamed (codes "cpc_print")) (AndExpr (ENamed (codes "n")) NoExpr)) NoStmt))) })) ∷ (FunctionItem (record { mode = Cps; called = (codes "s"); result = TyVoid; parameters = ([]); body = (Block (AndStmt (Call None (ENamed (codes "cpc_signal")) (AndExpr (ENamed (codes "c")) NoExpr)) (AndStmt (Call None (ENamed (codes "cpc_signal")) (AndExpr (ENamed (codes "c")) NoExpr)) (AndStmt (Call None (ENamed (codes "cpc_yield")) NoExpr) (AndStmt (Call None (ENamed (codes "cpc_signal_all")) (AndExpr (ENamed (codes "c")) NoExpr)) (AndStmt (Call None (ENamed (codes "cpc_yield")) NoExpr) (AndStmt (Call None (ENamed (codes "cpc_signal")) (AndExpr (ENamed (codes "c")) NoExpr)) (AndStmt (Spawn (codes "w") (AndExpr (EInteger Int (pos 9)) NoExpr)) NoStmt)))))))) })) ∷ (FunctionItem (record { mode = Native; called = (codes "main"); result = (TyInt Int); parameters = ([]); body = (Block (AndStmt (Call (Some (ENamed (codes "c"))) (ENamed (codes "cpc_cond_new")) NoExpr) (AndStmt (Spawn (codes "w") (AndExpr (EInteger Int (pos 1)) NoExpr)) (AndStmt (Spawn (codes "w") (AndExpr (EInteger Int (pos 2)) NoExpr)) (AndStmt (Spawn (codes "w") (AndExpr (EInteger Int (pos 3)) NoExpr)) (AndStmt (Spawn (codes "s") NoExpr) (AndStmt (Return (Some (EInteger Int (pos 0)))) NoStmt))))))) })) ∷ [])

-- waiters go on in waiting order; a signal to nobody is not remembered
pub a_signal_wakes_the_longest_waiter : RunsTo three_waiters no_polls 100 (codes "1\n2\n3\n") (Ended 1)
unfolding digits settle divided
a_signal_wakes_the_longest_waiter = record { output = refl; outcome = refl }

-- signals leave none
pub each_wait_leaves_a_mark : Traces three_waiters no_polls 100 (codes "wait 0\nwait 0\nwait 0\nout 310a\nout 320a\nout 330a\nwait 0\nwaiting 1\n")
unfolding digits settle divided
each_wait_leaves_a_mark = refl

-- two conditions, of which one is released
-- cpc_condvar a; cpc_condvar b;
-- cps void w(int n){ cpc_wait(b); cpc_print(n); cpc_cond_free(b); cpc_print(n + 1); }
-- int main(void){ a = cpc_cond_new(); b = cpc_cond_new(); cpc_cond_free(a); cpc_spawn w(4); return 0; }
abbrev pub two_conditions : Program
two_conditions = ((GlobalItem (codes "a") TyCondvar None) ∷ (GlobalItem (codes "b") TyCondvar None) ∷ (FunctionItem (record { mode = Cps; called = (codes "w"); result = TyVoid; parameters = (record { called = Some (codes "n"); type = (TyInt Int) } ∷ []); body = (Block (AndStmt (Call None (ENamed (codes "cpc_wait")) (AndExpr (ENamed (codes "b")) NoExpr)) (AndStmt (Call None (ENamed (codes "cpc_print")) (AndExpr (ENamed (codes "n")) NoExpr)) (AndStmt (Call None (ENamed (codes "cpc_cond_free")) (AndExpr (ENamed (codes "b")) NoExpr)) (AndStmt (Call None (ENamed (codes "cpc_print")) (AndExpr (EBinary Add (ENamed (codes "n")) (EInteger Int (pos 1))) NoExpr)) NoStmt))))) })) ∷ (FunctionItem (record { mode = Native; called = (codes "main"); result = (TyInt Int); parameters = ([]); body = (Block (AndStmt (Call (Some (ENamed (codes "a"))) (ENamed (codes "cpc_cond_new")) NoExpr) (AndStmt (Call (Some (ENamed (codes "b"))) (ENamed (codes "cpc_cond_new")) NoExpr) (AndStmt (Call None (ENamed (codes "cpc_cond_free")) (AndExpr (ENamed (codes "a")) NoExpr)) (AndStmt (Spawn (codes "w") (AndExpr (EInteger Int (pos 4)) NoExpr)) (AndStmt (Return (Some (EInteger Int (pos 0)))) NoStmt)))))) })) ∷ [])

-- but nobody signals here
pub a_condition_without_waiters_can_be_released : RunsTo two_conditions no_polls 40 (codes "") (Ended 1)
unfolding digits settle divided
a_condition_without_waiters_can_be_released = record { output = refl; outcome = refl }
