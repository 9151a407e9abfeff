-- Timers: sleeps, clocks and the end of the history.
use Rattle.std.specs.Prelude.{[], ◌∷◌, pos, Some, None, codes, refl}
use Rattle.std.specs.Fmt.{digits}
use Rattle.cpc_num.specs.Number.{settle, divided}
use Rattle.cpc_num.specs.declared.kinds.Kind.TheVariants.{Int, Long}
use Rattle.cpc_tree.specs.declared.program.Mode.TheVariants.{Native, Cps}
use Rattle.cpc_tree.specs.Syntax.{TyVoid, TyInt, ENamed, EInteger, NoExpr, AndExpr, Block, Declare, Call, Spawn, Return, NoStmt, AndStmt, FunctionItem, Program}
use Rattle.cpc_tree.specs.Trace.{Ended, HistoryEnded}
use Rattle.cpc_meaning_laws.specs.Worked.Shown.{RunsTo, Traces, no_polls, polls}

-- four threads that sleep
-- cps void z(long n, int id){ cpc_sleep(n); cpc_print(id); }
-- int main(void){ cpc_spawn z(5,1); cpc_spawn z(3,2); cpc_spawn z(3,3); cpc_spawn z(0,4); return 0; }
abbrev pub sleepers : Program
sleepers = ((FunctionItem (record { mode = Cps; called = (codes "z"); result = TyVoid; parameters = (record { called = Some (codes "n"); type = (TyInt Long) } ∷ record { called = Some (codes "id"); type = (TyInt Int) } ∷ []); body = (Block (AndStmt (Call None (ENamed (codes "cpc_sleep")) (AndExpr (ENamed (codes "n")) NoExpr)) (AndStmt (Call None (ENamed (codes "cpc_print")) (AndExpr (ENamed (codes "id")) NoExpr)) NoStmt))) })) ∷ (FunctionItem (record { mode = Native; called = (codes "main"); result = (TyInt Int); parameters = ([]); body = (Block (AndStmt (Spawn (codes "z") (AndExpr (EInteger Int (pos 5)) (AndExpr (EInteger Int (pos 1)) NoExpr))) (AndStmt (Spawn (codes "z") (AndExpr (EInteger Int (pos 3)) (AndExpr (EInteger Int (pos 2)) NoExpr))) (AndStmt (Spawn (codes "z") (AndExpr (EInteger Int (pos 3)) (AndExpr (EInteger Int (pos 3)) NoExpr))) (AndStmt (Spawn (codes "z") (AndExpr (EInteger Int (pos 0)) (AndExpr (EInteger Int (pos 4)) NoExpr))) (AndStmt (Return (Some (EInteger Int (pos 0)))) NoStmt)))))) })) ∷ [])

-- by deadline and then by the order of their sleeps; a clock that goes back changes nothing
pub sleepers_wake_by_deadline : RunsTo sleepers (polls (codes "poll 0\npoll 3\npoll 2\npoll 9\n")) 100 (codes "4\n2\n3\n1\n") (Ended 0)
unfolding digits settle divided
sleepers_wake_by_deadline = record { output = refl; outcome = refl }

-- with the clock as it was told
pub each_poll_leaves_a_mark : Traces sleepers (polls (codes "poll 0\npoll 3\npoll 2\npoll 9\n")) 100 (codes "sleep 5\nsleep 3\nsleep 3\nsleep 0\npoll 0\nout 340a\npoll 3\nout 320a\nout 330a\npoll 2\npoll 9\nout 310a\ndone\n")
unfolding digits settle divided
each_poll_leaves_a_mark = refl

-- where it has to poll and no poll is left
pub a_run_may_be_out_of_history : RunsTo sleepers no_polls 60 (codes "") HistoryEnded
unfolding digits settle divided
a_run_may_be_out_of_history = record { output = refl; outcome = refl }

-- a thread that tells the time
-- cps void t(void){ long a; a = cpc_now(); cpc_print(a); cpc_sleep(10); a = cpc_now(); cpc_print(a); }
-- int main(void){ cpc_spawn t(); return 0; }
abbrev pub telling_time : Program
telling_time = ((FunctionItem (record { mode = Cps; called = (codes "t"); result = TyVoid; parameters = ([]); body = (Block (AndStmt (Declare (codes "a") (TyInt Long) None) (AndStmt (Call (Some (ENamed (codes "a"))) (ENamed (codes "cpc_now")) NoExpr) (AndStmt (Call None (ENamed (codes "cpc_print")) (AndExpr (ENamed (codes "a")) NoExpr)) (AndStmt (Call None (ENamed (codes "cpc_sleep")) (AndExpr (EInteger Int (pos 10)) NoExpr)) (AndStmt (Call (Some (ENamed (codes "a"))) (ENamed (codes "cpc_now")) NoExpr) (AndStmt (Call None (ENamed (codes "cpc_print")) (AndExpr (ENamed (codes "a")) NoExpr)) NoStmt))))))) })) ∷ (FunctionItem (record { mode = Native; called = (codes "main"); result = (TyInt Int); parameters = ([]); body = (Block (AndStmt (Spawn (codes "t") NoExpr) (AndStmt (Return (Some (EInteger Int (pos 0)))) NoStmt))) })) ∷ [])

-- it is 0 at the start, and what the last poll told
pub time_passes_at_polls_alone : RunsTo telling_time (polls (codes "poll 4\npoll 12\n")) 40 (codes "0\n12\n") (Ended 0)
unfolding digits settle divided
time_passes_at_polls_alone = record { output = refl; outcome = refl }
