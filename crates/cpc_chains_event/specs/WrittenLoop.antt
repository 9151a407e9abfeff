-- The event program of a worked program with a loop, written out.
use Rattle.std.specs.Prelude.{[], ◌∷◌, pos, Some, None, codes}
use Rattle.cpc_num.specs.declared.kinds.Kind.TheVariants.{Int}
use Rattle.cpc_num.specs.declared.kinds.Op.TheVariants.{Sub, Gt, Eq, Ne}
use Rattle.cpc_tree.specs.declared.program.Mode.TheVariants.{Native}
use Rattle.cpc_tree.specs.Syntax.{TyVoid, TyInt, TyPointer, TyCode, TyStruct, NoTy, AndTy, ENamed, EInteger, EBinary, ECast, ESizeOf, EArrow, NoExpr, AndExpr, Block, Empty, Declare, Assign, Call, If, While, Goto, Label, Return, NoStmt, AndStmt, Absent, StructItem, PrototypeItem, FunctionItem, Program}

-- struct frame__ { void *(*code__)(void *); void *next__; int value__; };
-- struct f__start { void *(*code__)(void *); void *next__; int value__; int n__0; };
-- struct f__at0 { void *(*code__)(void *); void *next__; int value__; int n__0; };
-- struct f__at5 { void *(*code__)(void *); void *next__; int value__; int n__0; };
-- struct f__at6 { void *(*code__)(void *); void *next__; int value__; int n__0; };
-- void f__spawn(int n__0);
-- void *f__start(void *k__);
-- void *f__at0(void *k__);
-- void *f__at5(void *k__);
-- void *f__at6(void *k__);
-- void drive__(void *k__, int r__) {
--   struct frame__ *f__ = k__;
--   f__->value__ = r__;
--   while (f__ != 0) f__ = f__->code__(f__);
-- }
-- int main(void) { f__spawn(3); return 0; }
-- void f__spawn(int n__0) {
--   struct f__start *e__;
--   e__ = rt_frame(sizeof(struct f__start));
--   e__->code__ = f__start;
--   e__->next__ = 0;
--   e__->n__0 = n__0;
--   rt_ready(drive__, e__);
-- }
-- void *f__start(void *k__) {
--   struct f__start *e__ = k__;
--   void *next__ = e__->next__;
--   int n__0 = e__->n__0;
--   struct frame__ *to__;
--   rt_frame_free(k__);
--   to__ = rt_frame(sizeof(struct f__at0));
--   to__->code__ = f__at0;
--   to__->next__ = next__;
--   ((struct f__at0 *) to__)->n__0 = n__0;
--   return to__;
-- }
-- void *f__at0(void *k__) {
--   struct f__at0 *e__ = k__;
--   void *next__ = e__->next__;
--   int n__0 = e__->n__0;
--   struct frame__ *to__;
--   rt_frame_free(k__);
-- at0__:
--   n__0 = n__0 - 1;
--   if (n__0 > 0) goto at2__;
--   goto at3__;
-- at2__:
--   goto at0__;
-- at3__:
--   if (n__0 == 0) goto at4__;
--   to__ = rt_frame(sizeof(struct f__at6));
--   to__->code__ = f__at6;
--   to__->next__ = next__;
--   ((struct f__at6 *) to__)->n__0 = n__0;
--   return to__;
-- at4__:
--   to__ = rt_frame(sizeof(struct f__at5));
--   to__->code__ = f__at5;
--   to__->next__ = next__;
--   ((struct f__at5 *) to__)->n__0 = n__0;
--   rt_ready(drive__, to__);
--   return 0;
-- }
-- void *f__at5(void *k__) {
--   struct f__at5 *e__ = k__;
--   void *next__ = e__->next__;
--   int n__0 = e__->n__0;
--   struct frame__ *to__;
--   rt_frame_free(k__);
--   ;
--   to__ = rt_frame(sizeof(struct f__at6));
--   to__->code__ = f__at6;
--   to__->next__ = next__;
--   ((struct f__at6 *) to__)->n__0 = n__0;
--   return to__;
-- }
-- void *f__at6(void *k__) {
--   struct f__at6 *e__ = k__;
--   void *next__ = e__->next__;
--   int n__0 = e__->n__0;
--   rt_frame_free(k__);
--   cpc_print(n__0);
--   return next__;
-- }
abbrev pub counting_event : Program
counting_event =
    StructItem (codes "frame__") (record { called = (codes "code__"); type = (TyCode (TyPointer TyVoid) (AndTy (TyPointer TyVoid) NoTy)) } ∷ record { called = (codes "next__"); type = (TyPointer TyVoid) } ∷ record { called = (codes "value__"); type = (TyInt Int) } ∷ [])
    ∷ StructItem (codes "f__start") (record { called = (codes "code__"); type = (TyCode (TyPointer TyVoid) (AndTy (TyPointer TyVoid) NoTy)) } ∷ record { called = (codes "next__"); type = (TyPointer TyVoid) } ∷ record { called = (codes "value__"); type = (TyInt Int) } ∷ record { called = (codes "n__0"); type = (TyInt Int) } ∷ [])
    ∷ StructItem (codes "f__at0") (record { called = (codes "code__"); type = (TyCode (TyPointer TyVoid) (AndTy (TyPointer TyVoid) NoTy)) } ∷ record { called = (codes "next__"); type = (TyPointer TyVoid) } ∷ record { called = (codes "value__"); type = (TyInt Int) } ∷ record { called = (codes "n__0"); type = (TyInt Int) } ∷ [])
    ∷ StructItem (codes "f__at5") (record { called = (codes "code__"); type = (TyCode (TyPointer TyVoid) (AndTy (TyPointer TyVoid) NoTy)) } ∷ record { called = (codes "next__"); type = (TyPointer TyVoid) } ∷ record { called = (codes "value__"); type = (TyInt Int) } ∷ record { called = (codes "n__0"); type = (TyInt Int) } ∷ [])
    ∷ StructItem (codes "f__at6") (record { called = (codes "code__"); type = (TyCode (TyPointer TyVoid) (AndTy (TyPointer TyVoid) NoTy)) } ∷ record { called = (codes "next__"); type = (TyPointer TyVoid) } ∷ record { called = (codes "value__"); type = (TyInt Int) } ∷ record { called = (codes "n__0"); type = (TyInt Int) } ∷ [])
    ∷ PrototypeItem Native (codes "f__spawn") TyVoid (record { called = (Some (codes "n__0")); type = (TyInt Int) } ∷ [])
    ∷ PrototypeItem Native (codes "f__start") (TyPointer TyVoid) (record { called = (Some (codes "k__")); type = (TyPointer TyVoid) } ∷ [])
    ∷ PrototypeItem Native (codes "f__at0") (TyPointer TyVoid) (record { called = (Some (codes "k__")); type = (TyPointer TyVoid) } ∷ [])
    ∷ PrototypeItem Native (codes "f__at5") (TyPointer TyVoid) (record { called = (Some (codes "k__")); type = (TyPointer TyVoid) } ∷ [])
    ∷ PrototypeItem Native (codes "f__at6") (TyPointer TyVoid) (record { called = (Some (codes "k__")); type = (TyPointer TyVoid) } ∷ [])
    ∷ FunctionItem (record { mode = Native; called = (codes "drive__"); result = TyVoid; parameters = (record { called = (Some (codes "k__")); type = (TyPointer TyVoid) } ∷ record { called = (Some (codes "r__")); type = (TyInt Int) } ∷ []); body = (Block (AndStmt (Declare (codes "f__") (TyPointer (TyStruct (codes "frame__"))) (Some (ENamed (codes "k__")))) (AndStmt (Assign (EArrow (ENamed (codes "f__")) (codes "value__")) None (ENamed (codes "r__"))) (AndStmt (While (EBinary Ne (ENamed (codes "f__")) (EInteger Int (pos 0))) (Call (Some (ENamed (codes "f__"))) (EArrow (ENamed (codes "f__")) (codes "code__")) (AndExpr (ENamed (codes "f__")) NoExpr))) NoStmt)))) })
    ∷ FunctionItem (record { mode = Native; called = (codes "main"); result = (TyInt Int); parameters = ([]); body = (Block (AndStmt (Call None (ENamed (codes "f__spawn")) (AndExpr (EInteger Int (pos 3)) NoExpr)) (AndStmt (Return (Some (EInteger Int (pos 0)))) NoStmt))) })
    ∷ FunctionItem (record { mode = Native; called = (codes "f__spawn"); result = TyVoid; parameters = (record { called = (Some (codes "n__0")); type = (TyInt Int) } ∷ []); body = (Block (AndStmt (Declare (codes "e__") (TyPointer (TyStruct (codes "f__start"))) None) (AndStmt (Call (Some (ENamed (codes "e__"))) (ENamed (codes "rt_frame")) (AndExpr (ESizeOf (TyStruct (codes "f__start"))) NoExpr)) (AndStmt (Assign (EArrow (ENamed (codes "e__")) (codes "code__")) None (ENamed (codes "f__start"))) (AndStmt (Assign (EArrow (ENamed (codes "e__")) (codes "next__")) None (EInteger Int (pos 0))) (AndStmt (Assign (EArrow (ENamed (codes "e__")) (codes "n__0")) None (ENamed (codes "n__0"))) (AndStmt (Call None (ENamed (codes "rt_ready")) (AndExpr (ENamed (codes "drive__")) (AndExpr (ENamed (codes "e__")) NoExpr))) NoStmt))))))) })
    ∷ FunctionItem (record { mode = Native; called = (codes "f__start"); result = (TyPointer TyVoid); parameters = (record { called = (Some (codes "k__")); type = (TyPointer TyVoid) } ∷ []); body = (Block (AndStmt (Declare (codes "e__") (TyPointer (TyStruct (codes "f__start"))) (Some (ENamed (codes "k__")))) (AndStmt (Declare (codes "next__") (TyPointer TyVoid) (Some (EArrow (ENamed (codes "e__")) (codes "next__")))) (AndStmt (Declare (codes "n__0") (TyInt Int) (Some (EArrow (ENamed (codes "e__")) (codes "n__0")))) (AndStmt (Declare (codes "to__") (TyPointer (TyStruct (codes "frame__"))) None) (AndStmt (Call None (ENamed (codes "rt_frame_free")) (AndExpr (ENamed (codes "k__")) NoExpr)) (AndStmt (Call (Some (ENamed (codes "to__"))) (ENamed (codes "rt_frame")) (AndExpr (ESizeOf (TyStruct (codes "f__at0"))) NoExpr)) (AndStmt (Assign (EArrow (ENamed (codes "to__")) (codes "code__")) None (ENamed (codes "f__at0"))) (AndStmt (Assign (EArrow (ENamed (codes "to__")) (codes "next__")) None (ENamed (codes "next__"))) (AndStmt (Assign (EArrow (ECast (TyPointer (TyStruct (codes "f__at0"))) (ENamed (codes "to__"))) (codes "n__0")) None (ENamed (codes "n__0"))) (AndStmt (Return (Some (ENamed (codes "to__")))) NoStmt))))))))))) })
    ∷ FunctionItem (record { mode = Native; called = (codes "f__at0"); result = (TyPointer TyVoid); parameters = (record { called = (Some (codes "k__")); type = (TyPointer TyVoid) } ∷ []); body = (Block (AndStmt (Declare (codes "e__") (TyPointer (TyStruct (codes "f__at0"))) (Some (ENamed (codes "k__")))) (AndStmt (Declare (codes "next__") (TyPointer TyVoid) (Some (EArrow (ENamed (codes "e__")) (codes "next__")))) (AndStmt (Declare (codes "n__0") (TyInt Int) (Some (EArrow (ENamed (codes "e__")) (codes "n__0")))) (AndStmt (Declare (codes "to__") (TyPointer (TyStruct (codes "frame__"))) None) (AndStmt (Call None (ENamed (codes "rt_frame_free")) (AndExpr (ENamed (codes "k__")) NoExpr)) (AndStmt (Label (codes "at0__") (Assign (ENamed (codes "n__0")) None (EBinary Sub (ENamed (codes "n__0")) (EInteger Int (pos 1))))) (AndStmt (If (EBinary Gt (ENamed (codes "n__0")) (EInteger Int (pos 0))) (Goto (codes "at2__")) Absent) (AndStmt (Goto (codes "at3__")) (AndStmt (Label (codes "at2__") (Goto (codes "at0__"))) (AndStmt (Label (codes "at3__") (If (EBinary Eq (ENamed (codes "n__0")) (EInteger Int (pos 0))) (Goto (codes "at4__")) Absent)) (AndStmt (Call (Some (ENamed (codes "to__"))) (ENamed (codes "rt_frame")) (AndExpr (ESizeOf (TyStruct (codes "f__at6"))) NoExpr)) (AndStmt (Assign (EArrow (ENamed (codes "to__")) (codes "code__")) None (ENamed (codes "f__at6"))) (AndStmt (Assign (EArrow (ENamed (codes "to__")) (codes "next__")) None (ENamed (codes "next__"))) (AndStmt (Assign (EArrow (ECast (TyPointer (TyStruct (codes "f__at6"))) (ENamed (codes "to__"))) (codes "n__0")) None (ENamed (codes "n__0"))) (AndStmt (Return (Some (ENamed (codes "to__")))) (AndStmt (Label (codes "at4__") (Call (Some (ENamed (codes "to__"))) (ENamed (codes "rt_frame")) (AndExpr (ESizeOf (TyStruct (codes "f__at5"))) NoExpr))) (AndStmt (Assign (EArrow (ENamed (codes "to__")) (codes "code__")) None (ENamed (codes "f__at5"))) (AndStmt (Assign (EArrow (ENamed (codes "to__")) (codes "next__")) None (ENamed (codes "next__"))) (AndStmt (Assign (EArrow (ECast (TyPointer (TyStruct (codes "f__at5"))) (ENamed (codes "to__"))) (codes "n__0")) None (ENamed (codes "n__0"))) (AndStmt (Call None (ENamed (codes "rt_ready")) (AndExpr (ENamed (codes "drive__")) (AndExpr (ENamed (codes "to__")) NoExpr))) (AndStmt (Return (Some (EInteger Int (pos 0)))) NoStmt)))))))))))))))))))))) })
    ∷ FunctionItem (record { mode = Native; called = (codes "f__at5"); result = (TyPointer TyVoid); parameters = (record { called = (Some (codes "k__")); type = (TyPointer TyVoid) } ∷ []); body = (Block (AndStmt (Declare (codes "e__") (TyPointer (TyStruct (codes "f__at5"))) (Some (ENamed (codes "k__")))) (AndStmt (Declare (codes "next__") (TyPointer TyVoid) (Some (EArrow (ENamed (codes "e__")) (codes "next__")))) (AndStmt (Declare (codes "n__0") (TyInt Int) (Some (EArrow (ENamed (codes "e__")) (codes "n__0")))) (AndStmt (Declare (codes "to__") (TyPointer (TyStruct (codes "frame__"))) None) (AndStmt (Call None (ENamed (codes "rt_frame_free")) (AndExpr (ENamed (codes "k__")) NoExpr)) (AndStmt Empty (AndStmt (Call (Some (ENamed (codes "to__"))) (ENamed (codes "rt_frame")) (AndExpr (ESizeOf (TyStruct (codes "f__at6"))) NoExpr)) (AndStmt (Assign (EArrow (ENamed (codes "to__")) (codes "code__")) None (ENamed (codes "f__at6"))) (AndStmt (Assign (EArrow (ENamed (codes "to__")) (codes "next__")) None (ENamed (codes "next__"))) (AndStmt (Assign (EArrow (ECast (TyPointer (TyStruct (codes "f__at6"))) (ENamed (codes "to__"))) (codes "n__0")) None (ENamed (codes "n__0"))) (AndStmt (Return (Some (ENamed (codes "to__")))) NoStmt)))))))))))) })
    ∷ FunctionItem (record { mode = Native; called = (codes "f__at6"); result = (TyPointer TyVoid); parameters = (record { called = (Some (codes "k__")); type = (TyPointer TyVoid) } ∷ []); body = (Block (AndStmt (Declare (codes "e__") (TyPointer (TyStruct (codes "f__at6"))) (Some (ENamed (codes "k__")))) (AndStmt (Declare (codes "next__") (TyPointer TyVoid) (Some (EArrow (ENamed (codes "e__")) (codes "next__")))) (AndStmt (Declare (codes "n__0") (TyInt Int) (Some (EArrow (ENamed (codes "e__")) (codes "n__0")))) (AndStmt (Call None (ENamed (codes "rt_frame_free")) (AndExpr (ENamed (codes "k__")) NoExpr)) (AndStmt (Call None (ENamed (codes "cpc_print")) (AndExpr (ENamed (codes "n__0")) NoExpr)) (AndStmt (Return (Some (ENamed (codes "next__")))) NoStmt))))))) })
    ∷ []
