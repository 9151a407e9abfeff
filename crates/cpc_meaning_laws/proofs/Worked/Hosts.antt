-- Functions of the host.
use Rattle.std.specs.Prelude.{[], ◌∷◌, pos, Some, None, codes, refl}
use Rattle.std.specs.Fmt.{digits}
use Rattle.cpc_num.specs.Number.{settle, divided}
use Rattle.cpc_num.specs.declared.kinds.Kind.TheVariants.{Int, Long}
use Rattle.cpc_num.specs.declared.kinds.Op.TheVariants.{Sub}
use Rattle.cpc_tree.specs.declared.program.UnaryOp.TheVariants.{Minus}
use Rattle.cpc_tree.specs.declared.program.Mode.TheVariants.{Extern, Native}
use Rattle.cpc_tree.specs.Syntax.{TyInt, ENamed, EInteger, EUnary, EBinary, NoExpr, AndExpr, Block, Declare, Call, Return, NoStmt, AndStmt, PrototypeItem, FunctionItem, Program}
use Rattle.cpc_tree.specs.Trace.{Ended}
use Rattle.cpc_meaning_laws.specs.Worked.Shown.{RunsTo, Traces, answers}

-- two functions of the host
-- extern long abs_diff(long, long);
-- extern long clamp(long, long, long);
-- int main(void){ long d; d = abs_diff(-9223372036854775807 - 1, 1); cpc_print(d);
--   d = clamp(50, 0, 9); cpc_print(d); return 0; }
abbrev pub asking_hosts : Program
asking_hosts = ((PrototypeItem Extern (codes "abs_diff") (TyInt Long) (record { called = None; type = (TyInt Long) } ∷ record { called = None; type = (TyInt Long) } ∷ [])) ∷ (PrototypeItem Extern (codes "clamp") (TyInt Long) (record { called = None; type = (TyInt Long) } ∷ record { called = None; type = (TyInt Long) } ∷ record { called = None; type = (TyInt Long) } ∷ [])) ∷ (FunctionItem (record { mode = Native; called = (codes "main"); result = (TyInt Int); parameters = ([]); body = (Block (AndStmt (Declare (codes "d") (TyInt Long) None) (AndStmt (Call (Some (ENamed (codes "d"))) (ENamed (codes "abs_diff")) (AndExpr (EBinary Sub (EUnary Minus (EInteger Long (pos 9223372036854775807))) (EInteger Int (pos 1))) (AndExpr (EInteger Int (pos 1)) NoExpr))) (AndStmt (Call None (ENamed (codes "cpc_print")) (AndExpr (ENamed (codes "d")) NoExpr)) (AndStmt (Call (Some (ENamed (codes "d"))) (ENamed (codes "clamp")) (AndExpr (EInteger Int (pos 50)) (AndExpr (EInteger Int (pos 0)) (AndExpr (EInteger Int (pos 9)) NoExpr)))) (AndStmt (Call None (ENamed (codes "cpc_print")) (AndExpr (ENamed (codes "d")) NoExpr)) (AndStmt (Return (Some (EInteger Int (pos 0)))) NoStmt))))))) })) ∷ [])

-- the mark of a call has the arguments and the answer
pub a_host_is_told_longs : Traces asking_hosts (answers (pos 9223372036854775807 ∷ pos 9 ∷ [])) 40 (codes "host abs_diff -9223372036854775808 1 = 9223372036854775807\nout 393232333337323033363835343737353830370a\nhost clamp 50 0 9 = 9\nout 390a\ndone\n")
unfolding digits settle divided
a_host_is_told_longs = refl

-- where the history has no more answers
pub an_answer_past_the_last_is_0 : RunsTo asking_hosts (answers (pos 3 ∷ [])) 40 (codes "3\n0\n") (Ended 0)
unfolding digits settle divided
an_answer_past_the_last_is_0 = record { output = refl; outcome = refl }
