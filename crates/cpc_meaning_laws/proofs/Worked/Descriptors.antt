-- Descriptors: who waits for which, and in which direction.
use Rattle.std.specs.Prelude.{[], ◌∷◌, pos, Some, None, codes, refl}
use Rattle.std.specs.Fmt.{digits}
use Rattle.cpc_num.specs.Number.{settle, divided}
use Rattle.cpc_num.specs.declared.kinds.Kind.TheVariants.{Int}
use Rattle.cpc_num.specs.declared.kinds.Op.TheVariants.{Add}
use Rattle.cpc_tree.specs.declared.program.UnaryOp.TheVariants.{Minus}
use Rattle.cpc_tree.specs.declared.program.Mode.TheVariants.{Native, Cps}
use Rattle.cpc_tree.specs.Syntax.{TyVoid, TyInt, ENamed, EInteger, EUnary, EBinary, NoExpr, AndExpr, Block, Declare, Call, Spawn, Return, NoStmt, AndStmt, FunctionItem, Program}
use Rattle.cpc_tree.specs.Trace.{Ended}
use Rattle.cpc_meaning_laws.specs.Worked.Shown.{RunsTo, Traces, polls}

-- two threads that wait to read
-- cps void r(int n){ int k; k = cpc_io_wait(3, 0); cpc_print(n + k); }
-- int main(void){ cpc_spawn r(1); cpc_spawn r(2); return 0; }
abbrev pub two_readers : Program
two_readers = ((FunctionItem (record { mode = Cps; called = (codes "r"); result = TyVoid; parameters = (record { called = Some (codes "n"); type = (TyInt Int) } ∷ []); body = (Block (AndStmt (Declare (codes "k") (TyInt Int) None) (AndStmt (Call (Some (ENamed (codes "k"))) (ENamed (codes "cpc_io_wait")) (AndExpr (EInteger Int (pos 3)) (AndExpr (EInteger Int (pos 0)) NoExpr))) (AndStmt (Call None (ENamed (codes "cpc_print")) (AndExpr (EBinary Add (ENamed (codes "n")) (ENamed (codes "k"))) NoExpr)) NoStmt)))) })) ∷ (FunctionItem (record { mode = Native; called = (codes "main"); result = (TyInt Int); parameters = ([]); body = (Block (AndStmt (Spawn (codes "r") (AndExpr (EInteger Int (pos 1)) NoExpr)) (AndStmt (Spawn (codes "r") (AndExpr (EInteger Int (pos 2)) NoExpr)) (AndStmt (Return (Some (EInteger Int (pos 0)))) NoStmt)))) })) ∷ [])

-- in waiting order; the value of the wait is 0
pub readers_of_one_descriptor_wake_together : RunsTo two_readers (polls (codes "poll 1 r9\npoll 2 r3\n")) 100 (codes "1\n2\n") (Ended 0)
unfolding digits settle divided
readers_of_one_descriptor_wake_together = record { output = refl; outcome = refl }

-- a reader and two writers
-- cps void f(int fd, int way, int n){ cpc_io_wait(fd, way); cpc_print(n); }
-- int main(void){ cpc_spawn f(3, 0, 1); cpc_spawn f(3, 5, 2); cpc_spawn f(4, -1, 3); return 0; }
abbrev pub reader_and_writer : Program
reader_and_writer = ((FunctionItem (record { mode = Cps; called = (codes "f"); result = TyVoid; parameters = (record { called = Some (codes "fd"); type = (TyInt Int) } ∷ record { called = Some (codes "way"); type = (TyInt Int) } ∷ record { called = Some (codes "n"); type = (TyInt Int) } ∷ []); body = (Block (AndStmt (Call None (ENamed (codes "cpc_io_wait")) (AndExpr (ENamed (codes "fd")) (AndExpr (ENamed (codes "way")) NoExpr))) (AndStmt (Call None (ENamed (codes "cpc_print")) (AndExpr (ENamed (codes "n")) NoExpr)) NoStmt))) })) ∷ (FunctionItem (record { mode = Native; called = (codes "main"); result = (TyInt Int); parameters = ([]); body = (Block (AndStmt (Spawn (codes "f") (AndExpr (EInteger Int (pos 3)) (AndExpr (EInteger Int (pos 0)) (AndExpr (EInteger Int (pos 1)) NoExpr)))) (AndStmt (Spawn (codes "f") (AndExpr (EInteger Int (pos 3)) (AndExpr (EInteger Int (pos 5)) (AndExpr (EInteger Int (pos 2)) NoExpr)))) (AndStmt (Spawn (codes "f") (AndExpr (EInteger Int (pos 4)) (AndExpr (EUnary Minus (EInteger Int (pos 1))) (AndExpr (EInteger Int (pos 3)) NoExpr)))) (AndStmt (Return (Some (EInteger Int (pos 0)))) NoStmt))))) })) ∷ [])

-- events wake in the order told; any way but 0 is writing
pub directions_are_told_apart : Traces reader_and_writer (polls (codes "poll 0 w4 w3\npoll 0 w3 r3\n")) 100 (codes "io 3 r\nio 3 w\nio 4 w\npoll 0 w4 w3\nout 330a\nout 320a\npoll 0 w3 r3\nout 310a\ndone\n")
unfolding digits settle divided
directions_are_told_apart = refl
