-- A relay with a time limit: descriptors, timers, conditions and the heap together.
use Rattle.std.specs.Prelude.{◌≡◌, [], ◌∷◌, pos, Some, None, codes, refl}
use Rattle.std.specs.Fmt.{digits}
use Rattle.cpc_num.specs.Number.{settle, divided}
use Rattle.cpc_num.specs.declared.kinds.Kind.TheVariants.{Char, Int, Long}
use Rattle.cpc_num.specs.declared.kinds.Op.TheVariants.{Add, Sub, Lt, Eq}
use Rattle.cpc_tree.specs.declared.program.Mode.TheVariants.{Native, Cps}
use Rattle.cpc_tree.specs.Syntax.{TyVoid, TyInt, TyCondvar, TyPointer, TyStruct, TyArray, ENamed, EInteger, EText, EBinary, ESizeOf, EIndex, EArrow, NoExpr, AndExpr, Block, Declare, Assign, Call, Spawn, If, For, Return, NoStmt, AndStmt, Absent, Present, StructItem, GlobalItem, FunctionItem, Program}
use Rattle.cpc_tree.specs.Trace.{Exited}
use Rattle.cpc_meaning.specs.Runs.{cost}
use Rattle.cpc_meaning_laws.specs.Worked.Shown.{RunsTo, Traces, polls}
use Rattle.cpc_tree.specs.Texts.{Over, trace_text}
use Rattle.cpc_meaning_matching.specs.Systems.{run}
use Rattle.cpc_meaning.specs.Ways.{ways}
use Rattle.cpc_meaning.specs.Matching.{thread_system}

-- each connection has a reader and a timer, and waits for one of them
-- struct conn { int fd; int got; int late; int refs; char buf[64]; cpc_condvar c; };
-- int served;
-- void drop(struct conn *k) {
--   k->refs--;
--   if (k->refs == 0) { cpc_cond_free(k->c); free(k); }
-- }
-- cps void reader(struct conn *k) {
--   int i;
--   for (i = 0; i < 2; i++) { cpc_io_wait(k->fd, 0); k->buf[i] = 65 + i; k->got++; }
--   cpc_signal(k->c);
--   drop(k);
-- }
-- cps void timer(struct conn *k, long limit) {
--   cpc_sleep(limit);
--   if (k->got < 2) k->late = 1;
--   cpc_signal(k->c);
--   drop(k);
-- }
-- cps void serve(int fd) {
--   struct conn *k;
--   k = malloc(sizeof(struct conn));
--   k->fd = fd; k->got = 0; k->late = 0; k->refs = 3;
--   k->c = cpc_cond_new();
--   cpc_spawn reader(k); cpc_spawn timer(k, 100);
--   cpc_wait(k->c);
--   cpc_print(fd);
--   if (k->late) cpc_puts("late\n"); else cpc_puts("ok\n");
--   drop(k);
--   served++;
--   if (served == 2) cpc_exit(0);
-- }
-- cps void accept(void) {
--   int n;
--   for (n = 1; n < 3; n++) { cpc_io_wait(0, 0); cpc_spawn serve(n); }
-- }
-- int main(void) { cpc_spawn accept(); return 0; }
abbrev pub relay : Program
relay = ((StructItem (codes "conn") (record { called = (codes "fd"); type = (TyInt Int) } ∷ record { called = (codes "got"); type = (TyInt Int) } ∷ record { called = (codes "late"); type = (TyInt Int) } ∷ record { called = (codes "refs"); type = (TyInt Int) } ∷ record { called = (codes "buf"); type = (TyArray (TyInt Char) 64) } ∷ record { called = (codes "c"); type = TyCondvar } ∷ [])) ∷ (GlobalItem (codes "served") (TyInt Int) None) ∷ (FunctionItem (record { mode = Native; called = (codes "drop"); result = TyVoid; parameters = (record { called = Some (codes "k"); type = (TyPointer (TyStruct (codes "conn"))) } ∷ []); body = (Block (AndStmt (Assign (EArrow (ENamed (codes "k")) (codes "refs")) (Some Sub) (EInteger Int (pos 1))) (AndStmt (If (EBinary Eq (EArrow (ENamed (codes "k")) (codes "refs")) (EInteger Int (pos 0))) (Block (AndStmt (Call None (ENamed (codes "cpc_cond_free")) (AndExpr (EArrow (ENamed (codes "k")) (codes "c")) NoExpr)) (AndStmt (Call None (ENamed (codes "free")) (AndExpr (ENamed (codes "k")) NoExpr)) NoStmt))) Absent) NoStmt))) })) ∷ (FunctionItem (record { mode = Cps; called = (codes "reader"); result = TyVoid; parameters = (record { called = Some (codes "k"); type = (TyPointer (TyStruct (codes "conn"))) } ∷ []); body = (Block (AndStmt (Declare (codes "i") (TyInt Int) None) (AndStmt (For (AndStmt (Assign (ENamed (codes "i")) None (EInteger Int (pos 0))) NoStmt) (Some (EBinary Lt (ENamed (codes "i")) (EInteger Int (pos 2)))) (Present (Assign (ENamed (codes "i")) (Some Add) (EInteger Int (pos 1)))) (Block (AndStmt (Call None (ENamed (codes "cpc_io_wait")) (AndExpr (EArrow (ENamed (codes "k")) (codes "fd")) (AndExpr (EInteger Int (pos 0)) NoExpr))) (AndStmt (Assign (EIndex (EArrow (ENamed (codes "k")) (codes "buf")) (ENamed (codes "i"))) None (EBinary Add (EInteger Int (pos 65)) (ENamed (codes "i")))) (AndStmt (Assign (EArrow (ENamed (codes "k")) (codes "got")) (Some Add) (EInteger Int (pos 1))) NoStmt))))) (AndStmt (Call None (ENamed (codes "cpc_signal")) (AndExpr (EArrow (ENamed (codes "k")) (codes "c")) NoExpr)) (AndStmt (Call None (ENamed (codes "drop")) (AndExpr (ENamed (codes "k")) NoExpr)) NoStmt))))) })) ∷ (FunctionItem (record { mode = Cps; called = (codes "timer"); result = TyVoid; parameters = (record { called = Some (codes "k"); type = (TyPointer (TyStruct (codes "conn"))) } ∷ record { called = Some (codes "limit"); type = (TyInt Long) } ∷ []); body = (Block (AndStmt (Call None (ENamed (codes "cpc_sleep")) (AndExpr (ENamed (codes "limit")) NoExpr)) (AndStmt (If (EBinary Lt (EArrow (ENamed (codes "k")) (codes "got")) (EInteger Int (pos 2))) (Assign (EArrow (ENamed (codes "k")) (codes "late")) None (EInteger Int (pos 1))) Absent) (AndStmt (Call None (ENamed (codes "cpc_signal")) (AndExpr (EArrow (ENamed (codes "k")) (codes "c")) NoExpr)) (AndStmt (Call None (ENamed (codes "drop")) (AndExpr (ENamed (codes "k")) NoExpr)) NoStmt))))) })) ∷ (FunctionItem (record { mode = Cps; called = (codes "serve"); result = TyVoid; parameters = (record { called = Some (codes "fd"); type = (TyInt Int) } ∷ []); body = (Block (AndStmt (Declare (codes "k") (TyPointer (TyStruct (codes "conn"))) None) (AndStmt (Call (Some (ENamed (codes "k"))) (ENamed (codes "malloc")) (AndExpr (ESizeOf (TyStruct (codes "conn"))) NoExpr)) (AndStmt (Assign (EArrow (ENamed (codes "k")) (codes "fd")) None (ENamed (codes "fd"))) (AndStmt (Assign (EArrow (ENamed (codes "k")) (codes "got")) None (EInteger Int (pos 0))) (AndStmt (Assign (EArrow (ENamed (codes "k")) (codes "late")) None (EInteger Int (pos 0))) (AndStmt (Assign (EArrow (ENamed (codes "k")) (codes "refs")) None (EInteger Int (pos 3))) (AndStmt (Call (Some (EArrow (ENamed (codes "k")) (codes "c"))) (ENamed (codes "cpc_cond_new")) NoExpr) (AndStmt (Spawn (codes "reader") (AndExpr (ENamed (codes "k")) NoExpr)) (AndStmt (Spawn (codes "timer") (AndExpr (ENamed (codes "k")) (AndExpr (EInteger Int (pos 100)) NoExpr))) (AndStmt (Call None (ENamed (codes "cpc_wait")) (AndExpr (EArrow (ENamed (codes "k")) (codes "c")) NoExpr)) (AndStmt (Call None (ENamed (codes "cpc_print")) (AndExpr (ENamed (codes "fd")) NoExpr)) (AndStmt (If (EArrow (ENamed (codes "k")) (codes "late")) (Call None (ENamed (codes "cpc_puts")) (AndExpr (EText (108 ∷ 97 ∷ 116 ∷ 101 ∷ 10 ∷ [])) NoExpr)) (Present (Call None (ENamed (codes "cpc_puts")) (AndExpr (EText (111 ∷ 107 ∷ 10 ∷ [])) NoExpr)))) (AndStmt (Call None (ENamed (codes "drop")) (AndExpr (ENamed (codes "k")) NoExpr)) (AndStmt (Assign (ENamed (codes "served")) (Some Add) (EInteger Int (pos 1))) (AndStmt (If (EBinary Eq (ENamed (codes "served")) (EInteger Int (pos 2))) (Call None (ENamed (codes "cpc_exit")) (AndExpr (EInteger Int (pos 0)) NoExpr)) Absent) NoStmt)))))))))))))))) })) ∷ (FunctionItem (record { mode = Cps; called = (codes "accept"); result = TyVoid; parameters = ([]); body = (Block (AndStmt (Declare (codes "n") (TyInt Int) None) (AndStmt (For (AndStmt (Assign (ENamed (codes "n")) None (EInteger Int (pos 1))) NoStmt) (Some (EBinary Lt (ENamed (codes "n")) (EInteger Int (pos 3)))) (Present (Assign (ENamed (codes "n")) (Some Add) (EInteger Int (pos 1)))) (Block (AndStmt (Call None (ENamed (codes "cpc_io_wait")) (AndExpr (EInteger Int (pos 0)) (AndExpr (EInteger Int (pos 0)) NoExpr))) (AndStmt (Spawn (codes "serve") (AndExpr (ENamed (codes "n")) NoExpr)) NoStmt)))) NoStmt))) })) ∷ (FunctionItem (record { mode = Native; called = (codes "main"); result = (TyInt Int); parameters = ([]); body = (Block (AndStmt (Spawn (codes "accept") NoExpr) (AndStmt (Return (Some (EInteger Int (pos 0)))) NoStmt))) })) ∷ [])

-- what the relay tells
pub one_is_served_and_one_is_late : RunsTo relay (polls (codes "poll 10 r0\npoll 20 r0\npoll 30 r1\npoll 40 r2 r1\npoll 50\npoll 120\npoll 130\npoll 131\n")) 400 (codes "1\nok\n2\nlate\n") (Exited (pos 0))
unfolding digits settle divided
one_is_served_and_one_is_late = record { output = refl; outcome = refl }

-- each mark of the run
pub the_whole_trace_of_the_relay : Traces relay (polls (codes "poll 10 r0\npoll 20 r0\npoll 30 r1\npoll 40 r2 r1\npoll 50\npoll 120\npoll 130\npoll 131\n")) 400 (codes "io 0 r\npoll 10 r0\nio 0 r\npoll 20 r0\nwait 0\nio 1 r\nsleep 100\nwait 1\npoll 30 r1\nio 2 r\nsleep 100\nio 1 r\npoll 40 r2 r1\nio 2 r\npoll 50\nout 310a\nout 6f6b0a\npoll 120\npoll 130\npoll 131\nout 320a\nout 6c6174650a\nexit 0\n")
unfolding digits settle divided
the_whole_trace_of_the_relay = refl

-- `reader`, `timer` and `serve` have at most two variables each
pub the_cost_of_the_relay : cost relay ≡ 80
unfolding digits settle divided
the_cost_of_the_relay = refl

-- the same over the ways that are taken alone
pub the_trace_over_the_ways_that_are_taken : trace_text (run (thread_system (ways relay) (polls (codes "poll 10 r0\npoll 20 r0\npoll 30 r1\npoll 40 r2 r1\npoll 50\npoll 120\npoll 130\npoll 131\n"))) 400).trace (Over (Exited (pos 0))) ≡ codes "io 0 r\npoll 10 r0\nio 0 r\npoll 20 r0\nwait 0\nio 1 r\nsleep 100\nwait 1\npoll 30 r1\nio 2 r\nsleep 100\nio 1 r\npoll 40 r2 r1\nio 2 r\npoll 50\nout 310a\nout 6f6b0a\npoll 120\npoll 130\npoll 131\nout 320a\nout 6c6174650a\nexit 0\n"
unfolding digits settle divided
the_trace_over_the_ways_that_are_taken = refl
