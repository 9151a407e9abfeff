-- Sections: copies of cells, and their three ends.
use Rattle.std.specs.Prelude.{[], ◌∷◌, pos, Some, None, codes, refl}
use Rattle.std.specs.Fmt.{digits}
use Rattle.cpc_num.specs.Number.{settle, divided}
use Rattle.cpc_num.specs.declared.kinds.Kind.TheVariants.{Int, Long}
use Rattle.cpc_num.specs.declared.kinds.Op.TheVariants.{Mul, Div, Add}
use Rattle.cpc_num.specs.declared.kinds.Fault.TheVariants as F
use Rattle.cpc_tree.specs.declared.program.UnaryOp.TheVariants.{Dereference, AddressOf}
use Rattle.cpc_tree.specs.declared.program.Mode.TheVariants.{Native, Cps, Detached}
use Rattle.cpc_tree.specs.Syntax.{TyVoid, TyInt, TyPointer, TyStruct, ENamed, EInteger, EUnary, EBinary, ECast, EMember, EArrow, NoExpr, AndExpr, Block, Declare, Assign, Call, Detach, Spawn, While, Return, NoStmt, AndStmt, StructItem, GlobalItem, FunctionItem, Program}
use Rattle.cpc_tree.specs.Trace.{Ended, Failed, HistoryEnded, BadHistory}
use Rattle.cpc_meaning_laws.specs.Worked.Shown.{RunsTo, Traces, polls}

-- two sections over one struct, which changes meanwhile
-- struct p { int a; int b; };
-- struct p g;
-- detached int sum(struct p *q, int k){ q->b = q->a * k; return q->a + q->b; }
-- cps void f(int k){ int r; r = cpc_detached sum(&g, k); cpc_print(r); cpc_print(g.a); cpc_print(g.b); }
-- cps void h(void){ cpc_yield(); g.a = 50; g.b = 60; cpc_print(99); }
-- int main(void){ g.a = 2; g.b = 3; cpc_spawn f(10); cpc_spawn f(100); cpc_spawn h(); return 0; }
abbrev pub two_sums : Program
two_sums = ((StructItem (codes "p") (record { called = (codes "a"); type = (TyInt Int) } ∷ record { called = (codes "b"); type = (TyInt Int) } ∷ [])) ∷ (GlobalItem (codes "g") (TyStruct (codes "p")) None) ∷ (FunctionItem (record { mode = Detached; called = (codes "sum"); result = (TyInt Int); parameters = (record { called = Some (codes "q"); type = (TyPointer (TyStruct (codes "p"))) } ∷ record { called = Some (codes "k"); type = (TyInt Int) } ∷ []); body = (Block (AndStmt (Assign (EArrow (ENamed (codes "q")) (codes "b")) None (EBinary Mul (EArrow (ENamed (codes "q")) (codes "a")) (ENamed (codes "k")))) (AndStmt (Return (Some (EBinary Add (EArrow (ENamed (codes "q")) (codes "a")) (EArrow (ENamed (codes "q")) (codes "b"))))) NoStmt))) })) ∷ (FunctionItem (record { mode = Cps; called = (codes "f"); result = TyVoid; parameters = (record { called = Some (codes "k"); type = (TyInt Int) } ∷ []); body = (Block (AndStmt (Declare (codes "r") (TyInt Int) None) (AndStmt (Detach (Some (ENamed (codes "r"))) (codes "sum") (AndExpr (EUnary AddressOf (ENamed (codes "g"))) (AndExpr (ENamed (codes "k")) NoExpr))) (AndStmt (Call None (ENamed (codes "cpc_print")) (AndExpr (ENamed (codes "r")) NoExpr)) (AndStmt (Call None (ENamed (codes "cpc_print")) (AndExpr (EMember (ENamed (codes "g")) (codes "a")) NoExpr)) (AndStmt (Call None (ENamed (codes "cpc_print")) (AndExpr (EMember (ENamed (codes "g")) (codes "b")) NoExpr)) NoStmt)))))) })) ∷ (FunctionItem (record { mode = Cps; called = (codes "h"); result = TyVoid; parameters = ([]); body = (Block (AndStmt (Call None (ENamed (codes "cpc_yield")) NoExpr) (AndStmt (Assign (EMember (ENamed (codes "g")) (codes "a")) None (EInteger Int (pos 50))) (AndStmt (Assign (EMember (ENamed (codes "g")) (codes "b")) None (EInteger Int (pos 60))) (AndStmt (Call None (ENamed (codes "cpc_print")) (AndExpr (EInteger Int (pos 99)) NoExpr)) NoStmt))))) })) ∷ (FunctionItem (record { mode = Native; called = (codes "main"); result = (TyInt Int); parameters = ([]); body = (Block (AndStmt (Assign (EMember (ENamed (codes "g")) (codes "a")) None (EInteger Int (pos 2))) (AndStmt (Assign (EMember (ENamed (codes "g")) (codes "b")) None (EInteger Int (pos 3))) (AndStmt (Spawn (codes "f") (AndExpr (EInteger Int (pos 10)) NoExpr)) (AndStmt (Spawn (codes "f") (AndExpr (EInteger Int (pos 100)) NoExpr)) (AndStmt (Spawn (codes "h") NoExpr) (AndStmt (Return (Some (EInteger Int (pos 0)))) NoStmt))))))) })) ∷ [])

-- the cells as they were submitted, written back at the poll that names the section
pub a_section_works_on_its_copy : RunsTo two_sums (polls (codes "poll 0\npoll 1 d1\npoll 2 d0\n")) 100 (codes "99\n202\n2\n200\n22\n2\n20\n") (Ended 0)
unfolding digits settle divided
a_section_works_on_its_copy = record { output = refl; outcome = refl }

-- it changes nothing and ends the run
pub a_poll_that_names_no_section_is_bad : RunsTo two_sums (polls (codes "poll 0\npoll 1 d5\n")) 60 (codes "99\n") (BadHistory 5)
unfolding digits settle divided
a_poll_that_names_no_section_is_bad = record { output = refl; outcome = refl }

-- and no marks follow
pub a_bad_poll_leaves_no_mark : Traces two_sums (polls (codes "poll 0\npoll 1 d1 d0 d1\n")) 60 (codes "section 0 sum\nsection 1 sum\npoll 0\nout 39390a\nbad history\n")
unfolding digits settle divided
a_bad_poll_leaves_no_mark = refl

-- the history ends before the other section
pub a_section_may_be_left_out : RunsTo two_sums (polls (codes "poll 0\npoll 1 d1\n")) 90 (codes "99\n202\n2\n200\n") HistoryEnded
unfolding digits settle divided
a_section_may_be_left_out = record { output = refl; outcome = refl }

-- a section that never returns
-- detached int spin(int *p){ while (1) {} return 0; }
-- cps void f(void){ int r; r = cpc_detached spin(0); cpc_print(r); }
-- int main(void){ cpc_spawn f(); return 0; }
abbrev pub endless_section : Program
endless_section = ((FunctionItem (record { mode = Detached; called = (codes "spin"); result = (TyInt Int); parameters = (record { called = Some (codes "p"); type = (TyPointer (TyInt Int)) } ∷ []); body = (Block (AndStmt (While (EInteger Int (pos 1)) (Block NoStmt)) (AndStmt (Return (Some (EInteger Int (pos 0)))) NoStmt))) })) ∷ (FunctionItem (record { mode = Cps; called = (codes "f"); result = TyVoid; parameters = ([]); body = (Block (AndStmt (Declare (codes "r") (TyInt Int) None) (AndStmt (Detach (Some (ENamed (codes "r"))) (codes "spin") (AndExpr (EInteger Int (pos 0)) NoExpr)) (AndStmt (Call None (ENamed (codes "cpc_print")) (AndExpr (ENamed (codes "r")) NoExpr)) NoStmt)))) })) ∷ (FunctionItem (record { mode = Native; called = (codes "main"); result = (TyInt Int); parameters = ([]); body = (Block (AndStmt (Spawn (codes "f") NoExpr) (AndStmt (Return (Some (EInteger Int (pos 0)))) NoStmt))) })) ∷ [])

-- the fault is one of its function, at the poll that names it
pub a_section_has_a_bound_on_its_steps : Traces endless_section (polls (codes "poll 0 d0\n")) 30 (codes "section 0 spin\npoll 0 d0\nfault section steps in spin\n")
unfolding digits settle divided
a_section_has_a_bound_on_its_steps = refl

-- while no poll names it, it waits
pub an_unfinished_section_faults_at_its_poll_alone : RunsTo endless_section (polls (codes "poll 0\npoll 1\n")) 40 (codes "") HistoryEnded
unfolding digits settle divided
an_unfinished_section_faults_at_its_poll_alone = record { output = refl; outcome = refl }

-- the block of a section is freed while it is out
-- int *g;
-- detached int inc(int *p){ *p = *p + 1; return *p; }
-- cps void f(void){ int r; g = malloc(1); *g = 4; r = cpc_detached inc(g); cpc_print(r); }
-- cps void h(void){ free(g); }
-- int main(void){ cpc_spawn f(); cpc_spawn h(); return 0; }
abbrev pub freeing_meanwhile : Program
freeing_meanwhile = ((GlobalItem (codes "g") (TyPointer (TyInt Int)) None) ∷ (FunctionItem (record { mode = Detached; called = (codes "inc"); result = (TyInt Int); parameters = (record { called = Some (codes "p"); type = (TyPointer (TyInt Int)) } ∷ []); body = (Block (AndStmt (Assign (EUnary Dereference (ENamed (codes "p"))) None (EBinary Add (EUnary Dereference (ENamed (codes "p"))) (EInteger Int (pos 1)))) (AndStmt (Return (Some (EUnary Dereference (ENamed (codes "p"))))) NoStmt))) })) ∷ (FunctionItem (record { mode = Cps; called = (codes "f"); result = TyVoid; parameters = ([]); body = (Block (AndStmt (Declare (codes "r") (TyInt Int) None) (AndStmt (Call (Some (ENamed (codes "g"))) (ENamed (codes "malloc")) (AndExpr (EInteger Int (pos 1)) NoExpr)) (AndStmt (Assign (EUnary Dereference (ENamed (codes "g"))) None (EInteger Int (pos 4))) (AndStmt (Detach (Some (ENamed (codes "r"))) (codes "inc") (AndExpr (ENamed (codes "g")) NoExpr)) (AndStmt (Call None (ENamed (codes "cpc_print")) (AndExpr (ENamed (codes "r")) NoExpr)) NoStmt)))))) })) ∷ (FunctionItem (record { mode = Cps; called = (codes "h"); result = TyVoid; parameters = ([]); body = (Block (AndStmt (Call None (ENamed (codes "free")) (AndExpr (ENamed (codes "g")) NoExpr)) NoStmt)) })) ∷ (FunctionItem (record { mode = Native; called = (codes "main"); result = (TyInt Int); parameters = ([]); body = (Block (AndStmt (Spawn (codes "f") NoExpr) (AndStmt (Spawn (codes "h") NoExpr) (AndStmt (Return (Some (EInteger Int (pos 0)))) NoStmt)))) })) ∷ [])

-- the fault is `freed`, in the function of the section
pub a_freed_block_takes_nothing_back : RunsTo freeing_meanwhile (polls (codes "poll 0 d0\n")) 50 (codes "") (Failed F.Freed (codes "inc"))
unfolding digits settle divided
a_freed_block_takes_nothing_back = record { output = refl; outcome = refl }

-- a section that faults in a function that it calls
-- detached int half(int n, int by){ return n / by; }
-- detached int s(int *p, int by){ int r; r = half(*p, by); return r; }
-- int x;
-- cps void f(int by){ int r; x = 8; r = cpc_detached s(&x, by); cpc_print(r); }
-- int main(void){ cpc_spawn f(2); cpc_spawn f(0); return 0; }
abbrev pub dividing_section : Program
dividing_section = ((FunctionItem (record { mode = Detached; called = (codes "half"); result = (TyInt Int); parameters = (record { called = Some (codes "n"); type = (TyInt Int) } ∷ record { called = Some (codes "by"); type = (TyInt Int) } ∷ []); body = (Block (AndStmt (Return (Some (EBinary Div (ENamed (codes "n")) (ENamed (codes "by"))))) NoStmt)) })) ∷ (FunctionItem (record { mode = Detached; called = (codes "s"); result = (TyInt Int); parameters = (record { called = Some (codes "p"); type = (TyPointer (TyInt Int)) } ∷ record { called = Some (codes "by"); type = (TyInt Int) } ∷ []); body = (Block (AndStmt (Declare (codes "r") (TyInt Int) None) (AndStmt (Call (Some (ENamed (codes "r"))) (ENamed (codes "half")) (AndExpr (EUnary Dereference (ENamed (codes "p"))) (AndExpr (ENamed (codes "by")) NoExpr))) (AndStmt (Return (Some (ENamed (codes "r")))) NoStmt)))) })) ∷ (GlobalItem (codes "x") (TyInt Int) None) ∷ (FunctionItem (record { mode = Cps; called = (codes "f"); result = TyVoid; parameters = (record { called = Some (codes "by"); type = (TyInt Int) } ∷ []); body = (Block (AndStmt (Declare (codes "r") (TyInt Int) None) (AndStmt (Assign (ENamed (codes "x")) None (EInteger Int (pos 8))) (AndStmt (Detach (Some (ENamed (codes "r"))) (codes "s") (AndExpr (EUnary AddressOf (ENamed (codes "x"))) (AndExpr (ENamed (codes "by")) NoExpr))) (AndStmt (Call None (ENamed (codes "cpc_print")) (AndExpr (ENamed (codes "r")) NoExpr)) NoStmt))))) })) ∷ (FunctionItem (record { mode = Native; called = (codes "main"); result = (TyInt Int); parameters = ([]); body = (Block (AndStmt (Spawn (codes "f") (AndExpr (EInteger Int (pos 2)) NoExpr)) (AndStmt (Spawn (codes "f") (AndExpr (EInteger Int (pos 0)) NoExpr)) (AndStmt (Return (Some (EInteger Int (pos 0)))) NoStmt)))) })) ∷ [])

-- in the function whose code made the step; the poll leaves its mark
pub a_section_faults_where_its_code_stands : Traces dividing_section (polls (codes "poll 0 d0\npoll 1 d1\n")) 80 (codes "section 0 s\nsection 1 s\npoll 0 d0\nout 340a\npoll 1 d1\nfault divide in half\n")
unfolding digits settle divided
a_section_faults_where_its_code_stands = refl

-- a section that writes to its copy through a pointer of its own
-- long g;
-- detached int s(long *p){ long *l; l = p; *l = 7; return 0; }
-- cps void f(void){ int r; r = cpc_detached s(&g); cpc_print(g); }
-- int main(void){ cpc_spawn f(); return 0; }
abbrev pub pointing_into_the_copy : Program
pointing_into_the_copy = ((GlobalItem (codes "g") (TyInt Long) None) ∷ (FunctionItem (record { mode = Detached; called = (codes "s"); result = (TyInt Int); parameters = (record { called = Some (codes "p"); type = (TyPointer (TyInt Long)) } ∷ []); body = (Block (AndStmt (Declare (codes "l") (TyPointer (TyInt Long)) None) (AndStmt (Assign (ENamed (codes "l")) None (ENamed (codes "p"))) (AndStmt (Assign (EUnary Dereference (ENamed (codes "l"))) None (EInteger Int (pos 7))) (AndStmt (Return (Some (EInteger Int (pos 0)))) NoStmt))))) })) ∷ (FunctionItem (record { mode = Cps; called = (codes "f"); result = TyVoid; parameters = ([]); body = (Block (AndStmt (Declare (codes "r") (TyInt Int) None) (AndStmt (Detach (Some (ENamed (codes "r"))) (codes "s") (AndExpr (EUnary AddressOf (ENamed (codes "g"))) NoExpr)) (AndStmt (Call None (ENamed (codes "cpc_print")) (AndExpr (ENamed (codes "g")) NoExpr)) NoStmt)))) })) ∷ (FunctionItem (record { mode = Native; called = (codes "main"); result = (TyInt Int); parameters = ([]); body = (Block (AndStmt (Spawn (codes "f") NoExpr) (AndStmt (Return (Some (EInteger Int (pos 0)))) NoStmt))) })) ∷ [])

-- where the section has returned
pub cells_are_written_back : RunsTo pointing_into_the_copy (polls (codes "poll 0 d0\n")) 50 (codes "7\n") (Ended 0)
unfolding digits settle divided
cells_are_written_back = record { output = refl; outcome = refl }

-- a section that leaves a pointer in a cell of its copy
-- long g;
-- detached int s(long *p){ void **v; v = (void **) p; *v = p; return 0; }
-- cps void f(void){ int r; r = cpc_detached s(&g); cpc_print(r); }
-- int main(void){ cpc_spawn f(); return 0; }
abbrev pub leaving_a_pointer : Program
leaving_a_pointer = ((GlobalItem (codes "g") (TyInt Long) None) ∷ (FunctionItem (record { mode = Detached; called = (codes "s"); result = (TyInt Int); parameters = (record { called = Some (codes "p"); type = (TyPointer (TyInt Long)) } ∷ []); body = (Block (AndStmt (Declare (codes "v") (TyPointer (TyPointer TyVoid)) None) (AndStmt (Assign (ENamed (codes "v")) None (ECast (TyPointer (TyPointer TyVoid)) (ENamed (codes "p")))) (AndStmt (Assign (EUnary Dereference (ENamed (codes "v"))) None (ENamed (codes "p"))) (AndStmt (Return (Some (EInteger Int (pos 0)))) NoStmt))))) })) ∷ (FunctionItem (record { mode = Cps; called = (codes "f"); result = TyVoid; parameters = ([]); body = (Block (AndStmt (Declare (codes "r") (TyInt Int) None) (AndStmt (Detach (Some (ENamed (codes "r"))) (codes "s") (AndExpr (EUnary AddressOf (ENamed (codes "g"))) NoExpr)) (AndStmt (Call None (ENamed (codes "cpc_print")) (AndExpr (ENamed (codes "r")) NoExpr)) NoStmt)))) })) ∷ (FunctionItem (record { mode = Native; called = (codes "main"); result = (TyInt Int); parameters = ([]); body = (Block (AndStmt (Spawn (codes "f") NoExpr) (AndStmt (Return (Some (EInteger Int (pos 0)))) NoStmt))) })) ∷ [])

-- another value in a cell is a fault of the section
pub a_section_brings_back_integers_alone : Traces leaving_a_pointer (polls (codes "poll 0 d0\n")) 50 (codes "section 0 s\npoll 0 d0\nfault kind in s\n")
unfolding digits settle divided
a_section_brings_back_integers_alone = refl

-- a local that begins with a section
-- detached int f(int *p, int k){ return k + 1; }
-- cps void g(void){ int x = cpc_detached f(0, 5); cpc_print(x); }
-- int main(void){ cpc_spawn g(); return 0; }
abbrev pub declared_section : Program
declared_section = ((FunctionItem (record { mode = Detached; called = (codes "f"); result = (TyInt Int); parameters = (record { called = Some (codes "p"); type = (TyPointer (TyInt Int)) } ∷ record { called = Some (codes "k"); type = (TyInt Int) } ∷ []); body = (Block (AndStmt (Return (Some (EBinary Add (ENamed (codes "k")) (EInteger Int (pos 1))))) NoStmt)) })) ∷ (FunctionItem (record { mode = Cps; called = (codes "g"); result = TyVoid; parameters = ([]); body = (Block (AndStmt (Declare (codes "x") (TyInt Int) None) (AndStmt (Detach (Some (ENamed (codes "x"))) (codes "f") (AndExpr (EInteger Int (pos 0)) (AndExpr (EInteger Int (pos 5)) NoExpr))) (AndStmt (Call None (ENamed (codes "cpc_print")) (AndExpr (ENamed (codes "x")) NoExpr)) NoStmt)))) })) ∷ (FunctionItem (record { mode = Native; called = (codes "main"); result = (TyInt Int); parameters = ([]); body = (Block (AndStmt (Spawn (codes "g") NoExpr) (AndStmt (Return (Some (EInteger Int (pos 0)))) NoStmt))) })) ∷ [])

-- and nothing is copied for null
pub a_local_may_begin_with_a_section : RunsTo declared_section (polls (codes "poll 0 d0\n")) 20 (codes "6\n") (Ended 0)
unfolding digits settle divided
a_local_may_begin_with_a_section = record { output = refl; outcome = refl }
