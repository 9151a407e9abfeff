-- Too many sections.
use Rattle.std.specs.Prelude.{[], ◌∷◌, pos, Some, None, codes, refl}
use Rattle.std.specs.Fmt.{digits}
use Rattle.cpc_num.specs.Number.{settle, divided}
use Rattle.cpc_num.specs.declared.kinds.Kind.TheVariants.{Int}
use Rattle.cpc_num.specs.declared.kinds.Op.TheVariants.{Add, Lt}
use Rattle.cpc_num.specs.declared.kinds.Fault.TheVariants as F
use Rattle.cpc_tree.specs.declared.program.Mode.TheVariants.{Native, Cps, Detached}
use Rattle.cpc_tree.specs.Syntax.{TyVoid, TyInt, TyPointer, ENamed, EInteger, EBinary, NoExpr, AndExpr, Block, Declare, Assign, Detach, Spawn, For, Return, NoStmt, AndStmt, Present, FunctionItem, Program}
use Rattle.cpc_tree.specs.Trace.{Failed}
use Rattle.cpc_meaning_laws.specs.Worked.Shown.{RunsTo, no_polls}

-- 1,025 threads, each of which waits for a section
-- detached int z(int *p){ return 0; }
-- cps void f(void){ int r; r = cpc_detached z(0); }
-- int main(void){ int i; for (i = 0; i < 1025; i++) cpc_spawn f(); return 0; }
abbrev pub many_sections : Program
many_sections = ((FunctionItem (record { mode = Detached; called = (codes "z"); result = (TyInt Int); parameters = (record { called = Some (codes "p"); type = (TyPointer (TyInt Int)) } ∷ []); body = (Block (AndStmt (Return (Some (EInteger Int (pos 0)))) NoStmt)) })) ∷ (FunctionItem (record { mode = Cps; called = (codes "f"); result = TyVoid; parameters = ([]); body = (Block (AndStmt (Declare (codes "r") (TyInt Int) None) (AndStmt (Detach (Some (ENamed (codes "r"))) (codes "z") (AndExpr (EInteger Int (pos 0)) NoExpr)) NoStmt))) })) ∷ (FunctionItem (record { mode = Native; called = (codes "main"); result = (TyInt Int); parameters = ([]); body = (Block (AndStmt (Declare (codes "i") (TyInt Int) None) (AndStmt (For (AndStmt (Assign (ENamed (codes "i")) None (EInteger Int (pos 0))) NoStmt) (Some (EBinary Lt (ENamed (codes "i")) (EInteger Int (pos 1025)))) (Present (Assign (ENamed (codes "i")) (Some Add) (EInteger Int (pos 1)))) (Spawn (codes "f") NoExpr)) (AndStmt (Return (Some (EInteger Int (pos 0)))) NoStmt)))) })) ∷ [])

-- the thread that asks for one more faults
pub sections_are_at_most_1024 : RunsTo many_sections no_polls 8000 (codes "") (Failed F.Sections (codes "f"))
unfolding digits settle divided
sections_are_at_most_1024 = record { output = refl; outcome = refl }
