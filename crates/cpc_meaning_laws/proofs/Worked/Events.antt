-- Event programs: callbacks with continuations in frames on the heap.
use Rattle.std.proofs.Common.{arith}
use Rattle.std.specs.Prelude.{◌≡◌, [], ◌∷◌, pos, Some, None, codes, refl}
use Rattle.std.specs.Fmt.{digits}
use Rattle.cpc_num.specs.Number.{settle, divided}
use Rattle.cpc_num.specs.declared.kinds.Kind.TheVariants.{Int}
use Rattle.cpc_num.specs.declared.kinds.Op.TheVariants.{Add, Ne}
use Rattle.cpc_num.specs.declared.kinds.Fault.TheVariants as F
use Rattle.cpc_tree.specs.declared.program.UnaryOp.TheVariants.{Dereference, AddressOf}
use Rattle.cpc_tree.specs.declared.program.Mode.TheVariants.{Native, Detached}
use Rattle.cpc_tree.specs.Syntax.{TyVoid, TyInt, TyCondvar, TyPointer, TyCode, TyStruct, NoTy, AndTy, ENamed, EInteger, EText, EUnary, EBinary, ESizeOf, EArrow, NoExpr, AndExpr, Block, Declare, Assign, Call, If, While, Return, NoStmt, AndStmt, Absent, StructItem, GlobalItem, PrototypeItem, FunctionItem, Program}
use Rattle.cpc_tree.specs.Trace.{Ended, Failed}
use Rattle.cpc_meaning.specs.Events.{event}
use Rattle.cpc_meaning.specs.Runs.{live_cells, Full}
use Rattle.cpc_meaning_laws.specs.Worked.Shown.{EventRunsTo, EventTraces, no_polls, polls}

-- a function that yields and returns n + 1, as it may be printed, and a `main` that calls it with a continuation that prints
-- struct k__ { void *(*fn__)(void *); void *next__; };
-- struct v__int { void *(*fn__)(void *); void *next__; int val__; };
-- struct g__f0 { void *(*fn__)(void *); void *next__; int n; };
-- struct g__f1 { void *(*fn__)(void *); void *next__; int n; };
-- void *g__0(void *p__);
-- void *g__1(void *p__);
-- void drive__(void *p__, int r__) {
--   struct k__ *c__;
--   c__ = p__;
--   while (c__ != 0) { p__ = c__; c__ = c__->fn__(p__); }
-- }
-- void g__spawn(int n) {
--   struct g__f0 *e__;
--   e__ = rt_frame(sizeof(struct g__f0));
--   e__->fn__ = g__0; e__->next__ = 0; e__->n = n;
--   rt_ready(drive__, e__);
-- }
-- void *g__0(void *p__) {
--   struct g__f0 *e__; struct g__f1 *c__; int n; void *next__;
--   e__ = p__; n = e__->n; next__ = e__->next__;
--   rt_frame_free(p__);
--   c__ = rt_frame(sizeof(struct g__f1));
--   c__->fn__ = g__1; c__->next__ = next__; c__->n = n;
--   rt_ready(drive__, c__);
--   return 0;
-- }
-- void *g__1(void *p__) {
--   struct g__f1 *c__; struct v__int *t__; int n; int v__; void *next__;
--   c__ = p__; n = c__->n; next__ = c__->next__;
--   rt_frame_free(p__);
--   v__ = n + 1;
--   t__ = next__;
--   if (t__ != 0) t__->val__ = v__;
--   return next__;
-- }
-- void *h__1(void *p__) {
--   struct v__int *t__; int v__;
--   t__ = p__; v__ = t__->val__;
--   rt_frame_free(p__);
--   cpc_print(v__);
--   return 0;
-- }
-- int main(void) {
--   struct g__f0 *e__; struct v__int *t__;
--   g__spawn(1);
--   t__ = rt_frame(sizeof(struct v__int));
--   t__->fn__ = h__1; t__->next__ = 0;
--   e__ = rt_frame(sizeof(struct g__f0));
--   e__->fn__ = g__0; e__->next__ = t__; e__->n = 41;
--   rt_ready(drive__, e__);
--   return 0;
-- }
abbrev pub printed_text : Program
printed_text = ((StructItem (codes "k__") (record { called = (codes "fn__"); type = (TyCode (TyPointer TyVoid) (AndTy (TyPointer TyVoid) NoTy)) } ∷ record { called = (codes "next__"); type = (TyPointer TyVoid) } ∷ [])) ∷ (StructItem (codes "v__int") (record { called = (codes "fn__"); type = (TyCode (TyPointer TyVoid) (AndTy (TyPointer TyVoid) NoTy)) } ∷ record { called = (codes "next__"); type = (TyPointer TyVoid) } ∷ record { called = (codes "val__"); type = (TyInt Int) } ∷ [])) ∷ (StructItem (codes "g__f0") (record { called = (codes "fn__"); type = (TyCode (TyPointer TyVoid) (AndTy (TyPointer TyVoid) NoTy)) } ∷ record { called = (codes "next__"); type = (TyPointer TyVoid) } ∷ record { called = (codes "n"); type = (TyInt Int) } ∷ [])) ∷ (StructItem (codes "g__f1") (record { called = (codes "fn__"); type = (TyCode (TyPointer TyVoid) (AndTy (TyPointer TyVoid) NoTy)) } ∷ record { called = (codes "next__"); type = (TyPointer TyVoid) } ∷ record { called = (codes "n"); type = (TyInt Int) } ∷ [])) ∷ (PrototypeItem Native (codes "g__0") (TyPointer TyVoid) (record { called = Some (codes "p__"); type = (TyPointer TyVoid) } ∷ [])) ∷ (PrototypeItem Native (codes "g__1") (TyPointer TyVoid) (record { called = Some (codes "p__"); type = (TyPointer TyVoid) } ∷ [])) ∷ (FunctionItem (record { mode = Native; called = (codes "drive__"); result = TyVoid; parameters = (record { called = Some (codes "p__"); type = (TyPointer TyVoid) } ∷ record { called = Some (codes "r__"); type = (TyInt Int) } ∷ []); body = (Block (AndStmt (Declare (codes "c__") (TyPointer (TyStruct (codes "k__"))) None) (AndStmt (Assign (ENamed (codes "c__")) None (ENamed (codes "p__"))) (AndStmt (While (EBinary Ne (ENamed (codes "c__")) (EInteger Int (pos 0))) (Block (AndStmt (Assign (ENamed (codes "p__")) None (ENamed (codes "c__"))) (AndStmt (Call (Some (ENamed (codes "c__"))) (EArrow (ENamed (codes "c__")) (codes "fn__")) (AndExpr (ENamed (codes "p__")) NoExpr)) NoStmt)))) NoStmt)))) })) ∷ (FunctionItem (record { mode = Native; called = (codes "g__spawn"); result = TyVoid; parameters = (record { called = Some (codes "n"); type = (TyInt Int) } ∷ []); body = (Block (AndStmt (Declare (codes "e__") (TyPointer (TyStruct (codes "g__f0"))) None) (AndStmt (Call (Some (ENamed (codes "e__"))) (ENamed (codes "rt_frame")) (AndExpr (ESizeOf (TyStruct (codes "g__f0"))) NoExpr)) (AndStmt (Assign (EArrow (ENamed (codes "e__")) (codes "fn__")) None (ENamed (codes "g__0"))) (AndStmt (Assign (EArrow (ENamed (codes "e__")) (codes "next__")) None (EInteger Int (pos 0))) (AndStmt (Assign (EArrow (ENamed (codes "e__")) (codes "n")) None (ENamed (codes "n"))) (AndStmt (Call None (ENamed (codes "rt_ready")) (AndExpr (ENamed (codes "drive__")) (AndExpr (ENamed (codes "e__")) NoExpr))) NoStmt))))))) })) ∷ (FunctionItem (record { mode = Native; called = (codes "g__0"); result = (TyPointer TyVoid); parameters = (record { called = Some (codes "p__"); type = (TyPointer TyVoid) } ∷ []); body = (Block (AndStmt (Declare (codes "e__") (TyPointer (TyStruct (codes "g__f0"))) None) (AndStmt (Declare (codes "c__") (TyPointer (TyStruct (codes "g__f1"))) None) (AndStmt (Declare (codes "n") (TyInt Int) None) (AndStmt (Declare (codes "next__") (TyPointer TyVoid) None) (AndStmt (Assign (ENamed (codes "e__")) None (ENamed (codes "p__"))) (AndStmt (Assign (ENamed (codes "n")) None (EArrow (ENamed (codes "e__")) (codes "n"))) (AndStmt (Assign (ENamed (codes "next__")) None (EArrow (ENamed (codes "e__")) (codes "next__"))) (AndStmt (Call None (ENamed (codes "rt_frame_free")) (AndExpr (ENamed (codes "p__")) NoExpr)) (AndStmt (Call (Some (ENamed (codes "c__"))) (ENamed (codes "rt_frame")) (AndExpr (ESizeOf (TyStruct (codes "g__f1"))) NoExpr)) (AndStmt (Assign (EArrow (ENamed (codes "c__")) (codes "fn__")) None (ENamed (codes "g__1"))) (AndStmt (Assign (EArrow (ENamed (codes "c__")) (codes "next__")) None (ENamed (codes "next__"))) (AndStmt (Assign (EArrow (ENamed (codes "c__")) (codes "n")) None (ENamed (codes "n"))) (AndStmt (Call None (ENamed (codes "rt_ready")) (AndExpr (ENamed (codes "drive__")) (AndExpr (ENamed (codes "c__")) NoExpr))) (AndStmt (Return (Some (EInteger Int (pos 0)))) NoStmt))))))))))))))) })) ∷ (FunctionItem (record { mode = Native; called = (codes "g__1"); result = (TyPointer TyVoid); parameters = (record { called = Some (codes "p__"); type = (TyPointer TyVoid) } ∷ []); body = (Block (AndStmt (Declare (codes "c__") (TyPointer (TyStruct (codes "g__f1"))) None) (AndStmt (Declare (codes "t__") (TyPointer (TyStruct (codes "v__int"))) None) (AndStmt (Declare (codes "n") (TyInt Int) None) (AndStmt (Declare (codes "v__") (TyInt Int) None) (AndStmt (Declare (codes "next__") (TyPointer TyVoid) None) (AndStmt (Assign (ENamed (codes "c__")) None (ENamed (codes "p__"))) (AndStmt (Assign (ENamed (codes "n")) None (EArrow (ENamed (codes "c__")) (codes "n"))) (AndStmt (Assign (ENamed (codes "next__")) None (EArrow (ENamed (codes "c__")) (codes "next__"))) (AndStmt (Call None (ENamed (codes "rt_frame_free")) (AndExpr (ENamed (codes "p__")) NoExpr)) (AndStmt (Assign (ENamed (codes "v__")) None (EBinary Add (ENamed (codes "n")) (EInteger Int (pos 1)))) (AndStmt (Assign (ENamed (codes "t__")) None (ENamed (codes "next__"))) (AndStmt (If (EBinary Ne (ENamed (codes "t__")) (EInteger Int (pos 0))) (Assign (EArrow (ENamed (codes "t__")) (codes "val__")) None (ENamed (codes "v__"))) Absent) (AndStmt (Return (Some (ENamed (codes "next__")))) NoStmt)))))))))))))) })) ∷ (FunctionItem (record { mode = Native; called = (codes "h__1"); result = (TyPointer TyVoid); parameters = (record { called = Some (codes "p__"); type = (TyPointer TyVoid) } ∷ []); body = (Block (AndStmt (Declare (codes "t__") (TyPointer (TyStruct (codes "v__int"))) None) (AndStmt (Declare (codes "v__") (TyInt Int) None) (AndStmt (Assign (ENamed (codes "t__")) None (ENamed (codes "p__"))) (AndStmt (Assign (ENamed (codes "v__")) None (EArrow (ENamed (codes "t__")) (codes "val__"))) (AndStmt (Call None (ENamed (codes "rt_frame_free")) (AndExpr (ENamed (codes "p__")) NoExpr)) (AndStmt (Call None (ENamed (codes "cpc_print")) (AndExpr (ENamed (codes "v__")) NoExpr)) (AndStmt (Return (Some (EInteger Int (pos 0)))) NoStmt)))))))) })) ∷ (FunctionItem (record { mode = Native; called = (codes "main"); result = (TyInt Int); parameters = ([]); body = (Block (AndStmt (Declare (codes "e__") (TyPointer (TyStruct (codes "g__f0"))) None) (AndStmt (Declare (codes "t__") (TyPointer (TyStruct (codes "v__int"))) None) (AndStmt (Call None (ENamed (codes "g__spawn")) (AndExpr (EInteger Int (pos 1)) NoExpr)) (AndStmt (Call (Some (ENamed (codes "t__"))) (ENamed (codes "rt_frame")) (AndExpr (ESizeOf (TyStruct (codes "v__int"))) NoExpr)) (AndStmt (Assign (EArrow (ENamed (codes "t__")) (codes "fn__")) None (ENamed (codes "h__1"))) (AndStmt (Assign (EArrow (ENamed (codes "t__")) (codes "next__")) None (EInteger Int (pos 0))) (AndStmt (Call (Some (ENamed (codes "e__"))) (ENamed (codes "rt_frame")) (AndExpr (ESizeOf (TyStruct (codes "g__f0"))) NoExpr)) (AndStmt (Assign (EArrow (ENamed (codes "e__")) (codes "fn__")) None (ENamed (codes "g__0"))) (AndStmt (Assign (EArrow (ENamed (codes "e__")) (codes "next__")) None (ENamed (codes "t__"))) (AndStmt (Assign (EArrow (ENamed (codes "e__")) (codes "n")) None (EInteger Int (pos 41))) (AndStmt (Call None (ENamed (codes "rt_ready")) (AndExpr (ENamed (codes "drive__")) (AndExpr (ENamed (codes "e__")) NoExpr))) (AndStmt (Return (Some (EInteger Int (pos 0)))) NoStmt))))))))))))) })) ∷ [])

-- the driver calls one frame after another
pub a_value_is_patched_into_the_frame_above : EventRunsTo printed_text no_polls 200 (codes "42\n") (Ended 0)
unfolding digits settle divided
a_value_is_patched_into_the_frame_above = record { output = refl; outcome = refl }

-- all frames were given back
pub no_frame_is_left : live_cells (event printed_text no_polls 200) ≡ 0
unfolding digits settle divided
no_frame_is_left = refl

-- one callback that waits in each way
-- cpc_condvar c;
-- int x;
-- detached int d(int *p){ *p = *p + 1; return 5; }
-- void cb(void *k, int r){ int *p; p = k; cpc_print(*p); cpc_print(r); }
-- void wake(void *k, int r){ cpc_signal(c); cpc_print(x); rt_unbox(k); }
-- int main(void){ int *p; int *q;
--   p = rt_box(1); *p = 7; q = rt_box(2); x = 4; c = cpc_cond_new();
--   rt_wait(c, cb, p); rt_sleep(3, cb, p); rt_io(2, 0, cb, p); rt_detach(cb, p, d, &x); rt_ready(wake, q);
--   return 0; }
abbrev pub all_waits : Program
all_waits = ((GlobalItem (codes "c") TyCondvar None) ∷ (GlobalItem (codes "x") (TyInt Int) None) ∷ (FunctionItem (record { mode = Detached; called = (codes "d"); result = (TyInt Int); parameters = (record { called = Some (codes "p"); type = (TyPointer (TyInt Int)) } ∷ []); body = (Block (AndStmt (Assign (EUnary Dereference (ENamed (codes "p"))) None (EBinary Add (EUnary Dereference (ENamed (codes "p"))) (EInteger Int (pos 1)))) (AndStmt (Return (Some (EInteger Int (pos 5)))) NoStmt))) })) ∷ (FunctionItem (record { mode = Native; called = (codes "cb"); result = TyVoid; parameters = (record { called = Some (codes "k"); type = (TyPointer TyVoid) } ∷ record { called = Some (codes "r"); type = (TyInt Int) } ∷ []); body = (Block (AndStmt (Declare (codes "p") (TyPointer (TyInt Int)) None) (AndStmt (Assign (ENamed (codes "p")) None (ENamed (codes "k"))) (AndStmt (Call None (ENamed (codes "cpc_print")) (AndExpr (EUnary Dereference (ENamed (codes "p"))) NoExpr)) (AndStmt (Call None (ENamed (codes "cpc_print")) (AndExpr (ENamed (codes "r")) NoExpr)) NoStmt))))) })) ∷ (FunctionItem (record { mode = Native; called = (codes "wake"); result = TyVoid; parameters = (record { called = Some (codes "k"); type = (TyPointer TyVoid) } ∷ record { called = Some (codes "r"); type = (TyInt Int) } ∷ []); body = (Block (AndStmt (Call None (ENamed (codes "cpc_signal")) (AndExpr (ENamed (codes "c")) NoExpr)) (AndStmt (Call None (ENamed (codes "cpc_print")) (AndExpr (ENamed (codes "x")) NoExpr)) (AndStmt (Call None (ENamed (codes "rt_unbox")) (AndExpr (ENamed (codes "k")) NoExpr)) NoStmt)))) })) ∷ (FunctionItem (record { mode = Native; called = (codes "main"); result = (TyInt Int); parameters = ([]); body = (Block (AndStmt (Declare (codes "p") (TyPointer (TyInt Int)) None) (AndStmt (Declare (codes "q") (TyPointer (TyInt Int)) None) (AndStmt (Call (Some (ENamed (codes "p"))) (ENamed (codes "rt_box")) (AndExpr (EInteger Int (pos 1)) NoExpr)) (AndStmt (Assign (EUnary Dereference (ENamed (codes "p"))) None (EInteger Int (pos 7))) (AndStmt (Call (Some (ENamed (codes "q"))) (ENamed (codes "rt_box")) (AndExpr (EInteger Int (pos 2)) NoExpr)) (AndStmt (Assign (ENamed (codes "x")) None (EInteger Int (pos 4))) (AndStmt (Call (Some (ENamed (codes "c"))) (ENamed (codes "cpc_cond_new")) NoExpr) (AndStmt (Call None (ENamed (codes "rt_wait")) (AndExpr (ENamed (codes "c")) (AndExpr (ENamed (codes "cb")) (AndExpr (ENamed (codes "p")) NoExpr)))) (AndStmt (Call None (ENamed (codes "rt_sleep")) (AndExpr (EInteger Int (pos 3)) (AndExpr (ENamed (codes "cb")) (AndExpr (ENamed (codes "p")) NoExpr)))) (AndStmt (Call None (ENamed (codes "rt_io")) (AndExpr (EInteger Int (pos 2)) (AndExpr (EInteger Int (pos 0)) (AndExpr (ENamed (codes "cb")) (AndExpr (ENamed (codes "p")) NoExpr))))) (AndStmt (Call None (ENamed (codes "rt_detach")) (AndExpr (ENamed (codes "cb")) (AndExpr (ENamed (codes "p")) (AndExpr (ENamed (codes "d")) (AndExpr (EUnary AddressOf (ENamed (codes "x"))) NoExpr))))) (AndStmt (Call None (ENamed (codes "rt_ready")) (AndExpr (ENamed (codes "wake")) (AndExpr (ENamed (codes "q")) NoExpr))) (AndStmt (Return (Some (EInteger Int (pos 0)))) NoStmt)))))))))))))) })) ∷ [])

-- the loop polls first; then what was ready, the section, the descriptor, the timer, and in the next round the waiter
pub callbacks_are_called_with_the_result_of_their_wait : EventTraces all_waits (polls (codes "poll 5 r2 d0\n")) 100 (codes "wait 0\nsleep 3\nio 2 r\nsection 0 d\npoll 5 r2 d0\nout 350a\nout 370a\nout 350a\nout 370a\nout 300a\nout 370a\nout 300a\nout 370a\nout 300a\ndone\n")
unfolding digits settle divided
callbacks_are_called_with_the_result_of_their_wait = refl

-- a function that calls itself for ever
-- int f(int n){ int r; r = f(n + 1); return r; }
-- int main(void){ int r; cpc_print(1); r = f(0); return 0; }
abbrev pub diving_deep : Program
diving_deep = ((FunctionItem (record { mode = Native; called = (codes "f"); result = (TyInt Int); parameters = (record { called = Some (codes "n"); type = (TyInt Int) } ∷ []); body = (Block (AndStmt (Declare (codes "r") (TyInt Int) None) (AndStmt (Call (Some (ENamed (codes "r"))) (ENamed (codes "f")) (AndExpr (EBinary Add (ENamed (codes "n")) (EInteger Int (pos 1))) NoExpr)) (AndStmt (Return (Some (ENamed (codes "r")))) NoStmt)))) })) ∷ (FunctionItem (record { mode = Native; called = (codes "main"); result = (TyInt Int); parameters = ([]); body = (Block (AndStmt (Declare (codes "r") (TyInt Int) None) (AndStmt (Call None (ENamed (codes "cpc_print")) (AndExpr (EInteger Int (pos 1)) NoExpr)) (AndStmt (Call (Some (ENamed (codes "r"))) (ENamed (codes "f")) (AndExpr (EInteger Int (pos 0)) NoExpr)) (AndStmt (Return (Some (EInteger Int (pos 0)))) NoStmt))))) })) ∷ [])

-- the next state is above the cap
pub above_the_cap : live_cells (event diving_deep no_polls 103) ≡ 101
unfolding digits settle divided
above_the_cap = refl

-- `main` has one register and each call of `f` two: with a cap of 100 cells the next step asks for 101
pub a_cap_on_cells_is_reached : Full diving_deep no_polls 102 100
unfolding digits settle divided
a_cap_on_cells_is_reached = record { goes_on = refl; above = omega (arith, above_the_cap) }

-- the state before is below the cap
pub below_the_cap : live_cells (event diving_deep no_polls 102) ≡ 99
unfolding digits settle divided
below_the_cap = refl

-- a function that frees the block of its own variable
-- void f__2(void){ int x; int *p; p = &x; cpc_puts("gone"); rt_unbox(p); }
-- int main(void){ f__2(); return 0; }
abbrev pub freeing_its_own_box : Program
freeing_its_own_box = ((FunctionItem (record { mode = Native; called = (codes "f__2"); result = TyVoid; parameters = ([]); body = (Block (AndStmt (Declare (codes "x") (TyInt Int) None) (AndStmt (Declare (codes "p") (TyPointer (TyInt Int)) None) (AndStmt (Assign (ENamed (codes "p")) None (EUnary AddressOf (ENamed (codes "x")))) (AndStmt (Call None (ENamed (codes "cpc_puts")) (AndExpr (EText (103 ∷ 111 ∷ 110 ∷ 101 ∷ [])) NoExpr)) (AndStmt (Call None (ENamed (codes "rt_unbox")) (AndExpr (ENamed (codes "p")) NoExpr)) NoStmt)))))) })) ∷ (FunctionItem (record { mode = Native; called = (codes "main"); result = (TyInt Int); parameters = ([]); body = (Block (AndStmt (Call None (ENamed (codes "f__2")) NoExpr) (AndStmt (Return (Some (EInteger Int (pos 0)))) NoStmt))) })) ∷ [])

-- which is `badfree`; the name is shown up to its first two underscores
pub a_return_finds_its_block_freed : EventRunsTo freeing_its_own_box no_polls 30 (codes "gone") (Failed F.BadFree (codes "f"))
unfolding digits settle divided
a_return_finds_its_block_freed = record { output = refl; outcome = refl }

-- a frame that is freed as a box
-- void f__0(void){ void *p; p = rt_frame(2); rt_unbox(p); }
-- int main(void){ f__0(); return 0; }
abbrev pub wrong_class : Program
wrong_class = ((FunctionItem (record { mode = Native; called = (codes "f__0"); result = TyVoid; parameters = ([]); body = (Block (AndStmt (Declare (codes "p") (TyPointer TyVoid) None) (AndStmt (Call (Some (ENamed (codes "p"))) (ENamed (codes "rt_frame")) (AndExpr (EInteger Int (pos 2)) NoExpr)) (AndStmt (Call None (ENamed (codes "rt_unbox")) (AndExpr (ENamed (codes "p")) NoExpr)) NoStmt)))) })) ∷ (FunctionItem (record { mode = Native; called = (codes "main"); result = (TyInt Int); parameters = ([]); body = (Block (AndStmt (Call None (ENamed (codes "f__0")) NoExpr) (AndStmt (Return (Some (EInteger Int (pos 0)))) NoStmt))) })) ∷ [])

-- another is `badfree`
pub each_class_is_freed_by_its_own_call : EventRunsTo wrong_class no_polls 30 (codes "") (Failed F.BadFree (codes "f"))
unfolding digits settle divided
each_class_is_freed_by_its_own_call = record { output = refl; outcome = refl }
