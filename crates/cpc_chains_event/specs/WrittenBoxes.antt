-- The event program of a worked program with a box, written out; and that programs are converted so.
use Rattle.std.specs.Prelude.{◌≡◌, [], ◌∷◌, pos, Some, None, codes}
use Rattle.cpc_num.specs.declared.kinds.Kind.TheVariants.{Int}
use Rattle.cpc_num.specs.declared.kinds.Op.TheVariants.{Add, Ne}
use Rattle.cpc_tree.specs.declared.program.UnaryOp.TheVariants.{Dereference, AddressOf}
use Rattle.cpc_tree.specs.declared.program.Mode.TheVariants.{Native}
use Rattle.cpc_tree.specs.Syntax.{TyVoid, TyInt, TyPointer, TyCode, TyStruct, NoTy, AndTy, ENamed, EInteger, EUnary, EBinary, ECast, ESizeOf, EArrow, NoExpr, AndExpr, Block, Empty, Declare, Assign, Call, While, Return, NoStmt, AndStmt, StructItem, GlobalItem, PrototypeItem, FunctionItem, Program}
use Rattle.cpc_chains_event.specs.Converted.{converted}
use Rattle.cpc_chains_event.specs.Programs.{two_counters}
use Rattle.cpc_chains_event.specs.MorePrograms.{shared_local}
use Rattle.cpc_chains_event.specs.BoxPrograms.{counting}
use Rattle.cpc_chains_event.specs.WrittenLoop.{counting_event}
use Rattle.cpc_chains_event.specs.Written.{counters_event}

-- struct frame__ { void *(*code__)(void *); void *next__; int value__; };
-- struct w__start { void *(*code__)(void *); void *next__; int value__; };
-- struct f__start { void *(*code__)(void *); void *next__; int value__; };
-- struct f__at7 { void *(*code__)(void *); void *next__; int value__; struct f__box0 *x__0; int y__1; };
-- void w__spawn(void);
-- void *w__start(void *k__);
-- void f__spawn(void);
-- void *f__start(void *k__);
-- void *f__at7(void *k__);
-- void drive__(void *k__, int r__) {
--   struct frame__ *f__ = k__;
--   f__->value__ = r__;
--   while (f__ != 0) f__ = f__->code__(f__);
-- }
-- int *g;
-- int main(void) { f__spawn(); return 0; }
-- struct f__box0 { int x; };
-- void w__spawn(void) {
--   struct w__start *e__;
--   e__ = rt_frame(sizeof(struct w__start));
--   e__->code__ = w__start;
--   e__->next__ = 0;
--   rt_ready(drive__, e__);
-- }
-- void *w__start(void *k__) {
--   struct w__start *e__ = k__;
--   void *next__ = e__->next__;
--   rt_frame_free(k__);
--   *g = *g + 5;
--   return next__;
-- }
-- void f__spawn(void) {
--   struct f__start *e__;
--   e__ = rt_frame(sizeof(struct f__start));
--   e__->code__ = f__start;
--   e__->next__ = 0;
--   rt_ready(drive__, e__);
-- }
-- void *f__start(void *k__) {
--   struct f__start *e__ = k__;
--   void *next__ = e__->next__;
--   struct frame__ *to__;
--   int y__1;
--   struct f__box0 *x__0;
--   x__0 = rt_box(sizeof(struct f__box0));
--   rt_frame_free(k__);
--   ;
--   ;
--   x__0->x = 1;
--   y__1 = 2;
--   g = &x__0->x;
--   w__spawn();
--   to__ = rt_frame(sizeof(struct f__at7));
--   to__->code__ = f__at7;
--   to__->next__ = next__;
--   ((struct f__at7 *) to__)->x__0 = x__0;
--   ((struct f__at7 *) to__)->y__1 = y__1;
--   rt_ready(drive__, to__);
--   return 0;
-- }
-- void *f__at7(void *k__) {
--   struct f__at7 *e__ = k__;
--   void *next__ = e__->next__;
--   struct f__box0 *x__0 = e__->x__0;
--   int y__1 = e__->y__1;
--   rt_frame_free(k__);
--   ;
--   cpc_print(x__0->x + y__1);
--   rt_unbox(x__0);
--   return next__;
-- }
abbrev pub shared_event : Program
shared_event =
    StructItem (codes "frame__") (record { called = (codes "code__"); type = (TyCode (TyPointer TyVoid) (AndTy (TyPointer TyVoid) NoTy)) } ∷ record { called = (codes "next__"); type = (TyPointer TyVoid) } ∷ record { called = (codes "value__"); type = (TyInt Int) } ∷ [])
    ∷ StructItem (codes "w__start") (record { called = (codes "code__"); type = (TyCode (TyPointer TyVoid) (AndTy (TyPointer TyVoid) NoTy)) } ∷ record { called = (codes "next__"); type = (TyPointer TyVoid) } ∷ record { called = (codes "value__"); type = (TyInt Int) } ∷ [])
    ∷ StructItem (codes "f__start") (record { called = (codes "code__"); type = (TyCode (TyPointer TyVoid) (AndTy (TyPointer TyVoid) NoTy)) } ∷ record { called = (codes "next__"); type = (TyPointer TyVoid) } ∷ record { called = (codes "value__"); type = (TyInt Int) } ∷ [])
    ∷ StructItem (codes "f__at7") (record { called = (codes "code__"); type = (TyCode (TyPointer TyVoid) (AndTy (TyPointer TyVoid) NoTy)) } ∷ record { called = (codes "next__"); type = (TyPointer TyVoid) } ∷ record { called = (codes "value__"); type = (TyInt Int) } ∷ record { called = (codes "x__0"); type = (TyPointer (TyStruct (codes "f__box0"))) } ∷ record { called = (codes "y__1"); type = (TyInt Int) } ∷ [])
    ∷ PrototypeItem Native (codes "w__spawn") TyVoid ([])
    ∷ PrototypeItem Native (codes "w__start") (TyPointer TyVoid) (record { called = (Some (codes "k__")); type = (TyPointer TyVoid) } ∷ [])
    ∷ PrototypeItem Native (codes "f__spawn") TyVoid ([])
    ∷ PrototypeItem Native (codes "f__start") (TyPointer TyVoid) (record { called = (Some (codes "k__")); type = (TyPointer TyVoid) } ∷ [])
    ∷ PrototypeItem Native (codes "f__at7") (TyPointer TyVoid) (record { called = (Some (codes "k__")); type = (TyPointer TyVoid) } ∷ [])
    ∷ FunctionItem (record { mode = Native; called = (codes "drive__"); result = TyVoid; parameters = (record { called = (Some (codes "k__")); type = (TyPointer TyVoid) } ∷ record { called = (Some (codes "r__")); type = (TyInt Int) } ∷ []); body = (Block (AndStmt (Declare (codes "f__") (TyPointer (TyStruct (codes "frame__"))) (Some (ENamed (codes "k__")))) (AndStmt (Assign (EArrow (ENamed (codes "f__")) (codes "value__")) None (ENamed (codes "r__"))) (AndStmt (While (EBinary Ne (ENamed (codes "f__")) (EInteger Int (pos 0))) (Call (Some (ENamed (codes "f__"))) (EArrow (ENamed (codes "f__")) (codes "code__")) (AndExpr (ENamed (codes "f__")) NoExpr))) NoStmt)))) })
    ∷ GlobalItem (codes "g") (TyPointer (TyInt Int)) None
    ∷ FunctionItem (record { mode = Native; called = (codes "main"); result = (TyInt Int); parameters = ([]); body = (Block (AndStmt (Call None (ENamed (codes "f__spawn")) NoExpr) (AndStmt (Return (Some (EInteger Int (pos 0)))) NoStmt))) })
    ∷ StructItem (codes "f__box0") (record { called = (codes "x"); type = (TyInt Int) } ∷ [])
    ∷ FunctionItem (record { mode = Native; called = (codes "w__spawn"); result = TyVoid; parameters = ([]); body = (Block (AndStmt (Declare (codes "e__") (TyPointer (TyStruct (codes "w__start"))) None) (AndStmt (Call (Some (ENamed (codes "e__"))) (ENamed (codes "rt_frame")) (AndExpr (ESizeOf (TyStruct (codes "w__start"))) NoExpr)) (AndStmt (Assign (EArrow (ENamed (codes "e__")) (codes "code__")) None (ENamed (codes "w__start"))) (AndStmt (Assign (EArrow (ENamed (codes "e__")) (codes "next__")) None (EInteger Int (pos 0))) (AndStmt (Call None (ENamed (codes "rt_ready")) (AndExpr (ENamed (codes "drive__")) (AndExpr (ENamed (codes "e__")) NoExpr))) NoStmt)))))) })
    ∷ FunctionItem (record { mode = Native; called = (codes "w__start"); result = (TyPointer TyVoid); parameters = (record { called = (Some (codes "k__")); type = (TyPointer TyVoid) } ∷ []); body = (Block (AndStmt (Declare (codes "e__") (TyPointer (TyStruct (codes "w__start"))) (Some (ENamed (codes "k__")))) (AndStmt (Declare (codes "next__") (TyPointer TyVoid) (Some (EArrow (ENamed (codes "e__")) (codes "next__")))) (AndStmt (Call None (ENamed (codes "rt_frame_free")) (AndExpr (ENamed (codes "k__")) NoExpr)) (AndStmt (Assign (EUnary Dereference (ENamed (codes "g"))) None (EBinary Add (EUnary Dereference (ENamed (codes "g"))) (EInteger Int (pos 5)))) (AndStmt (Return (Some (ENamed (codes "next__")))) NoStmt)))))) })
    ∷ FunctionItem (record { mode = Native; called = (codes "f__spawn"); result = TyVoid; parameters = ([]); body = (Block (AndStmt (Declare (codes "e__") (TyPointer (TyStruct (codes "f__start"))) None) (AndStmt (Call (Some (ENamed (codes "e__"))) (ENamed (codes "rt_frame")) (AndExpr (ESizeOf (TyStruct (codes "f__start"))) NoExpr)) (AndStmt (Assign (EArrow (ENamed (codes "e__")) (codes "code__")) None (ENamed (codes "f__start"))) (AndStmt (Assign (EArrow (ENamed (codes "e__")) (codes "next__")) None (EInteger Int (pos 0))) (AndStmt (Call None (ENamed (codes "rt_ready")) (AndExpr (ENamed (codes "drive__")) (AndExpr (ENamed (codes "e__")) NoExpr))) NoStmt)))))) })
    ∷ FunctionItem (record { mode = Native; called = (codes "f__start"); result = (TyPointer TyVoid); parameters = (record { called = (Some (codes "k__")); type = (TyPointer TyVoid) } ∷ []); body = (Block (AndStmt (Declare (codes "e__") (TyPointer (TyStruct (codes "f__start"))) (Some (ENamed (codes "k__")))) (AndStmt (Declare (codes "next__") (TyPointer TyVoid) (Some (EArrow (ENamed (codes "e__")) (codes "next__")))) (AndStmt (Declare (codes "to__") (TyPointer (TyStruct (codes "frame__"))) None) (AndStmt (Declare (codes "y__1") (TyInt Int) None) (AndStmt (Declare (codes "x__0") (TyPointer (TyStruct (codes "f__box0"))) None) (AndStmt (Call (Some (ENamed (codes "x__0"))) (ENamed (codes "rt_box")) (AndExpr (ESizeOf (TyStruct (codes "f__box0"))) NoExpr)) (AndStmt (Call None (ENamed (codes "rt_frame_free")) (AndExpr (ENamed (codes "k__")) NoExpr)) (AndStmt Empty (AndStmt Empty (AndStmt (Assign (EArrow (ENamed (codes "x__0")) (codes "x")) None (EInteger Int (pos 1))) (AndStmt (Assign (ENamed (codes "y__1")) None (EInteger Int (pos 2))) (AndStmt (Assign (ENamed (codes "g")) None (EUnary AddressOf (EArrow (ENamed (codes "x__0")) (codes "x")))) (AndStmt (Call None (ENamed (codes "w__spawn")) NoExpr) (AndStmt (Call (Some (ENamed (codes "to__"))) (ENamed (codes "rt_frame")) (AndExpr (ESizeOf (TyStruct (codes "f__at7"))) NoExpr)) (AndStmt (Assign (EArrow (ENamed (codes "to__")) (codes "code__")) None (ENamed (codes "f__at7"))) (AndStmt (Assign (EArrow (ENamed (codes "to__")) (codes "next__")) None (ENamed (codes "next__"))) (AndStmt (Assign (EArrow (ECast (TyPointer (TyStruct (codes "f__at7"))) (ENamed (codes "to__"))) (codes "x__0")) None (ENamed (codes "x__0"))) (AndStmt (Assign (EArrow (ECast (TyPointer (TyStruct (codes "f__at7"))) (ENamed (codes "to__"))) (codes "y__1")) None (ENamed (codes "y__1"))) (AndStmt (Call None (ENamed (codes "rt_ready")) (AndExpr (ENamed (codes "drive__")) (AndExpr (ENamed (codes "to__")) NoExpr))) (AndStmt (Return (Some (EInteger Int (pos 0)))) NoStmt))))))))))))))))))))) })
    ∷ FunctionItem (record { mode = Native; called = (codes "f__at7"); result = (TyPointer TyVoid); parameters = (record { called = (Some (codes "k__")); type = (TyPointer TyVoid) } ∷ []); body = (Block (AndStmt (Declare (codes "e__") (TyPointer (TyStruct (codes "f__at7"))) (Some (ENamed (codes "k__")))) (AndStmt (Declare (codes "next__") (TyPointer TyVoid) (Some (EArrow (ENamed (codes "e__")) (codes "next__")))) (AndStmt (Declare (codes "x__0") (TyPointer (TyStruct (codes "f__box0"))) (Some (EArrow (ENamed (codes "e__")) (codes "x__0")))) (AndStmt (Declare (codes "y__1") (TyInt Int) (Some (EArrow (ENamed (codes "e__")) (codes "y__1")))) (AndStmt (Call None (ENamed (codes "rt_frame_free")) (AndExpr (ENamed (codes "k__")) NoExpr)) (AndStmt Empty (AndStmt (Call None (ENamed (codes "cpc_print")) (AndExpr (EBinary Add (EArrow (ENamed (codes "x__0")) (codes "x")) (ENamed (codes "y__1"))) NoExpr)) (AndStmt (Call None (ENamed (codes "rt_unbox")) (AndExpr (ENamed (codes "x__0")) NoExpr)) (AndStmt (Return (Some (ENamed (codes "next__")))) NoStmt)))))))))) })
    ∷ []

-- so they are converted
pub record ProgramsAreWritten : Type 0 where
  pub counters : converted two_counters ≡ counters_event
  pub shared : converted shared_local ≡ shared_event
  pub loop : converted counting ≡ counting_event
