-- Each fault, in a program of a few lines. Too many sections are in `ManySections`.
use Rattle.std.specs.Prelude.{[], ◌∷◌, pos, Some, None, codes, refl}
use Rattle.std.specs.Fmt.{digits}
use Rattle.cpc_num.specs.Number.{settle, divided, shift_left, shift_right}
use Rattle.cpc_num.specs.declared.kinds.Kind.TheVariants.{Char, Int, Long}
use Rattle.cpc_num.specs.declared.kinds.Op.TheVariants.{Rem, Add, Shl, Lt, Eq}
use Rattle.cpc_num.specs.declared.kinds.Fault.TheVariants as F
use Rattle.cpc_tree.specs.declared.program.UnaryOp.TheVariants.{Minus, Dereference, AddressOf}
use Rattle.cpc_tree.specs.declared.program.Mode.TheVariants.{Native, Cps, Detached}
use Rattle.cpc_tree.specs.Syntax.{TyVoid, TyInt, TyCondvar, TyPointer, TyCode, TyStruct, TyArray, NoTy, AndTy, ENamed, EInteger, EUnary, EBinary, ECast, EIndex, EMember, EArrow, NoExpr, AndExpr, Block, Declare, Assign, Call, Detach, Spawn, While, Return, NoStmt, AndStmt, StructItem, GlobalItem, FunctionItem, Program}
use Rattle.cpc_tree.specs.Trace.{Failed}
use Rattle.cpc_meaning_laws.specs.Worked.Shown.{RunsTo, no_polls, polls}

-- a sum past the greatest int
-- int main(void){ int x; x = 2147483647; x++; return 0; }
abbrev pub adding_one : Program
adding_one = ((FunctionItem (record { mode = Native; called = (codes "main"); result = (TyInt Int); parameters = ([]); body = (Block (AndStmt (Declare (codes "x") (TyInt Int) None) (AndStmt (Assign (ENamed (codes "x")) None (EInteger Int (pos 2147483647))) (AndStmt (Assign (ENamed (codes "x")) (Some Add) (EInteger Int (pos 1))) (AndStmt (Return (Some (EInteger Int (pos 0)))) NoStmt))))) })) ∷ [])

-- a signed result out of range
pub overflow_is_a_fault : RunsTo adding_one no_polls 30 (codes "") (Failed F.Overflow (codes "main"))
unfolding digits settle divided
overflow_is_a_fault = record { output = refl; outcome = refl }

-- a division by 0
-- int main(void){ int z; z = 0; cpc_print(1 % z); return 0; }
abbrev pub dividing : Program
dividing = ((FunctionItem (record { mode = Native; called = (codes "main"); result = (TyInt Int); parameters = ([]); body = (Block (AndStmt (Declare (codes "z") (TyInt Int) None) (AndStmt (Assign (ENamed (codes "z")) None (EInteger Int (pos 0))) (AndStmt (Call None (ENamed (codes "cpc_print")) (AndExpr (EBinary Rem (EInteger Int (pos 1)) (ENamed (codes "z"))) NoExpr)) (AndStmt (Return (Some (EInteger Int (pos 0)))) NoStmt))))) })) ∷ [])

-- also of a remainder
pub a_divisor_of_0_is_a_fault : RunsTo dividing no_polls 30 (codes "") (Failed F.Divide (codes "main"))
unfolding digits settle divided
a_divisor_of_0_is_a_fault = record { output = refl; outcome = refl }

-- a shift by the width
-- int main(void){ int n; n = 32; cpc_print(1 << n); return 0; }
abbrev pub shifting : Program
shifting = ((FunctionItem (record { mode = Native; called = (codes "main"); result = (TyInt Int); parameters = ([]); body = (Block (AndStmt (Declare (codes "n") (TyInt Int) None) (AndStmt (Assign (ENamed (codes "n")) None (EInteger Int (pos 32))) (AndStmt (Call None (ENamed (codes "cpc_print")) (AndExpr (EBinary Shl (EInteger Int (pos 1)) (ENamed (codes "n"))) NoExpr)) (AndStmt (Return (Some (EInteger Int (pos 0)))) NoStmt))))) })) ∷ [])

-- of the promoted left type
pub a_shift_by_the_width_is_a_fault : RunsTo shifting no_polls 30 (codes "") (Failed F.Shift (codes "main"))
unfolding digits settle divided shift_left shift_right
a_shift_by_the_width_is_a_fault = record { output = refl; outcome = refl }

-- a variable without a value
-- int main(void){ int x; cpc_print(x); return 0; }
abbrev pub printing_nothing : Program
printing_nothing = ((FunctionItem (record { mode = Native; called = (codes "main"); result = (TyInt Int); parameters = ([]); body = (Block (AndStmt (Declare (codes "x") (TyInt Int) None) (AndStmt (Call None (ENamed (codes "cpc_print")) (AndExpr (ENamed (codes "x")) NoExpr)) (AndStmt (Return (Some (EInteger Int (pos 0)))) NoStmt)))) })) ∷ [])

-- it is `unset`
pub an_unset_value_is_not_used : RunsTo printing_nothing no_polls 30 (codes "") (Failed F.Unset (codes "main"))
unfolding digits settle divided
an_unset_value_is_not_used = record { output = refl; outcome = refl }

-- a long, read as an int
-- int main(void){ long l; int *p; l = 5; p = (int *) &l; cpc_print(*p); return 0; }
abbrev pub reading_a_long : Program
reading_a_long = ((FunctionItem (record { mode = Native; called = (codes "main"); result = (TyInt Int); parameters = ([]); body = (Block (AndStmt (Declare (codes "l") (TyInt Long) None) (AndStmt (Declare (codes "p") (TyPointer (TyInt Int)) None) (AndStmt (Assign (ENamed (codes "l")) None (EInteger Int (pos 5))) (AndStmt (Assign (ENamed (codes "p")) None (ECast (TyPointer (TyInt Int)) (EUnary AddressOf (ENamed (codes "l"))))) (AndStmt (Call None (ENamed (codes "cpc_print")) (AndExpr (EUnary Dereference (ENamed (codes "p"))) NoExpr)) (AndStmt (Return (Some (EInteger Int (pos 0)))) NoStmt))))))) })) ∷ [])

-- read at another it is `kind`
pub a_cell_has_the_kind_that_was_written : RunsTo reading_a_long no_polls 30 (codes "") (Failed F.Kind (codes "main"))
unfolding digits settle divided
a_cell_has_the_kind_that_was_written = record { output = refl; outcome = refl }

-- a null pointer
-- int main(void){ int *p; p = 0; *p = 1; return 0; }
abbrev pub following_null : Program
following_null = ((FunctionItem (record { mode = Native; called = (codes "main"); result = (TyInt Int); parameters = ([]); body = (Block (AndStmt (Declare (codes "p") (TyPointer (TyInt Int)) None) (AndStmt (Assign (ENamed (codes "p")) None (EInteger Int (pos 0))) (AndStmt (Assign (EUnary Dereference (ENamed (codes "p"))) None (EInteger Int (pos 1))) (AndStmt (Return (Some (EInteger Int (pos 0)))) NoStmt))))) })) ∷ [])

-- it is `null`
pub null_points_to_nothing : RunsTo following_null no_polls 30 (codes "") (Failed F.Null (codes "main"))
unfolding digits settle divided
null_points_to_nothing = record { output = refl; outcome = refl }

-- an array of two
-- int main(void){ int a[2]; a[1] = 7; a[2] = 1; return 0; }
abbrev pub past_the_end : Program
past_the_end = ((FunctionItem (record { mode = Native; called = (codes "main"); result = (TyInt Int); parameters = ([]); body = (Block (AndStmt (Declare (codes "a") (TyArray (TyInt Int) 2) None) (AndStmt (Assign (EIndex (ENamed (codes "a")) (EInteger Int (pos 1))) None (EInteger Int (pos 7))) (AndStmt (Assign (EIndex (ENamed (codes "a")) (EInteger Int (pos 2))) None (EInteger Int (pos 1))) (AndStmt (Return (Some (EInteger Int (pos 0)))) NoStmt))))) })) ∷ [])

-- it is `bounds`
pub an_array_has_bounds : RunsTo past_the_end no_polls 30 (codes "") (Failed F.Bounds (codes "main"))
unfolding digits settle divided
an_array_has_bounds = record { output = refl; outcome = refl }

-- a block of the heap that was freed
-- int main(void){ int *p; p = malloc(1); *p = 3; free(p); *p = 4; return 0; }
abbrev pub using_freed : Program
using_freed = ((FunctionItem (record { mode = Native; called = (codes "main"); result = (TyInt Int); parameters = ([]); body = (Block (AndStmt (Declare (codes "p") (TyPointer (TyInt Int)) None) (AndStmt (Call (Some (ENamed (codes "p"))) (ENamed (codes "malloc")) (AndExpr (EInteger Int (pos 1)) NoExpr)) (AndStmt (Assign (EUnary Dereference (ENamed (codes "p"))) None (EInteger Int (pos 3))) (AndStmt (Call None (ENamed (codes "free")) (AndExpr (ENamed (codes "p")) NoExpr)) (AndStmt (Assign (EUnary Dereference (ENamed (codes "p"))) None (EInteger Int (pos 4))) (AndStmt (Return (Some (EInteger Int (pos 0)))) NoStmt))))))) })) ∷ [])

-- it is `freed`
pub a_freed_block_is_gone : RunsTo using_freed no_polls 30 (codes "") (Failed F.Freed (codes "main"))
unfolding digits settle divided
a_freed_block_is_gone = record { output = refl; outcome = refl }

-- pointers to two variables
-- int main(void){ int a; int b; cpc_print(&a == &b); cpc_print(&a < &b); return 0; }
abbrev pub comparing : Program
comparing = ((FunctionItem (record { mode = Native; called = (codes "main"); result = (TyInt Int); parameters = ([]); body = (Block (AndStmt (Declare (codes "a") (TyInt Int) None) (AndStmt (Declare (codes "b") (TyInt Int) None) (AndStmt (Call None (ENamed (codes "cpc_print")) (AndExpr (EBinary Eq (EUnary AddressOf (ENamed (codes "a"))) (EUnary AddressOf (ENamed (codes "b")))) NoExpr)) (AndStmt (Call None (ENamed (codes "cpc_print")) (AndExpr (EBinary Lt (EUnary AddressOf (ENamed (codes "a"))) (EUnary AddressOf (ENamed (codes "b")))) NoExpr)) (AndStmt (Return (Some (EInteger Int (pos 0)))) NoStmt)))))) })) ∷ [])

-- but they can be told apart
pub two_blocks_have_no_order : RunsTo comparing no_polls 30 (codes "0\n") (Failed F.Compare (codes "main"))
unfolding digits settle divided
two_blocks_have_no_order = record { output = refl; outcome = refl }

-- a function that is called at another type
-- struct a { int (*f)(int); };
-- struct b { int (*f)(void); };
-- int one(int n){ return n; }
-- int main(void){ struct a x; struct b *y; int r; x.f = one; y = (struct b *) &x; r = y->f(); cpc_print(r); return 0; }
abbrev pub calling_another_type : Program
calling_another_type = ((StructItem (codes "a") (record { called = (codes "f"); type = (TyCode (TyInt Int) (AndTy (TyInt Int) NoTy)) } ∷ [])) ∷ (StructItem (codes "b") (record { called = (codes "f"); type = (TyCode (TyInt Int) NoTy) } ∷ [])) ∷ (FunctionItem (record { mode = Native; called = (codes "one"); result = (TyInt Int); parameters = (record { called = Some (codes "n"); type = (TyInt Int) } ∷ []); body = (Block (AndStmt (Return (Some (ENamed (codes "n")))) NoStmt)) })) ∷ (FunctionItem (record { mode = Native; called = (codes "main"); result = (TyInt Int); parameters = ([]); body = (Block (AndStmt (Declare (codes "x") (TyStruct (codes "a")) None) (AndStmt (Declare (codes "y") (TyPointer (TyStruct (codes "b"))) None) (AndStmt (Declare (codes "r") (TyInt Int) None) (AndStmt (Assign (EMember (ENamed (codes "x")) (codes "f")) None (ENamed (codes "one"))) (AndStmt (Assign (ENamed (codes "y")) None (ECast (TyPointer (TyStruct (codes "b"))) (EUnary AddressOf (ENamed (codes "x"))))) (AndStmt (Call (Some (ENamed (codes "r"))) (EArrow (ENamed (codes "y")) (codes "f")) NoExpr) (AndStmt (Call None (ENamed (codes "cpc_print")) (AndExpr (ENamed (codes "r")) NoExpr)) (AndStmt (Return (Some (EInteger Int (pos 0)))) NoStmt))))))))) })) ∷ [])

-- a call at another type is `code`
pub a_code_has_a_type : RunsTo calling_another_type no_polls 30 (codes "") (Failed F.Code (codes "main"))
unfolding digits settle divided
a_code_has_a_type = record { output = refl; outcome = refl }

-- a section without an end
-- detached int spin(int *p){ while (1) {} return 0; }
-- cps void f(void){ cpc_detached spin(0); }
-- int main(void){ cpc_spawn f(); return 0; }
abbrev pub spinning : Program
spinning = ((FunctionItem (record { mode = Detached; called = (codes "spin"); result = (TyInt Int); parameters = (record { called = Some (codes "p"); type = (TyPointer (TyInt Int)) } ∷ []); body = (Block (AndStmt (While (EInteger Int (pos 1)) (Block NoStmt)) (AndStmt (Return (Some (EInteger Int (pos 0)))) NoStmt))) })) ∷ (FunctionItem (record { mode = Cps; called = (codes "f"); result = TyVoid; parameters = ([]); body = (Block (AndStmt (Detach None (codes "spin") (AndExpr (EInteger Int (pos 0)) NoExpr)) NoStmt)) })) ∷ (FunctionItem (record { mode = Native; called = (codes "main"); result = (TyInt Int); parameters = ([]); body = (Block (AndStmt (Spawn (codes "f") NoExpr) (AndStmt (Return (Some (EInteger Int (pos 0)))) NoStmt))) })) ∷ [])

-- within its bound
pub a_section_is_to_end : RunsTo spinning (polls (codes "poll 0 d0\n")) 30 (codes "") (Failed F.SectionSteps (codes "spin"))
unfolding digits settle divided
a_section_is_to_end = record { output = refl; outcome = refl }

-- a local that is freed
-- int main(void){ int x; free(&x); return 0; }
abbrev pub freeing_a_local : Program
freeing_a_local = ((FunctionItem (record { mode = Native; called = (codes "main"); result = (TyInt Int); parameters = ([]); body = (Block (AndStmt (Declare (codes "x") (TyInt Int) None) (AndStmt (Call None (ENamed (codes "free")) (AndExpr (EUnary AddressOf (ENamed (codes "x"))) NoExpr)) (AndStmt (Return (Some (EInteger Int (pos 0)))) NoStmt)))) })) ∷ [])

-- it is `badfree`
pub only_the_heap_is_freed : RunsTo freeing_a_local no_polls 30 (codes "") (Failed F.BadFree (codes "main"))
unfolding digits settle divided
only_the_heap_is_freed = record { output = refl; outcome = refl }

-- a pointer into a block
-- int main(void){ char *p; p = malloc(3); free(p + 1); return 0; }
abbrev pub freeing_a_part : Program
freeing_a_part = ((FunctionItem (record { mode = Native; called = (codes "main"); result = (TyInt Int); parameters = ([]); body = (Block (AndStmt (Declare (codes "p") (TyPointer (TyInt Char)) None) (AndStmt (Call (Some (ENamed (codes "p"))) (ENamed (codes "malloc")) (AndExpr (EInteger Int (pos 3)) NoExpr)) (AndStmt (Call None (ENamed (codes "free")) (AndExpr (EBinary Add (ENamed (codes "p")) (EInteger Int (pos 1))) NoExpr)) (AndStmt (Return (Some (EInteger Int (pos 0)))) NoStmt))))) })) ∷ [])

-- it is `badfree`
pub a_block_is_freed_by_its_first_cell : RunsTo freeing_a_part no_polls 30 (codes "") (Failed F.BadFree (codes "main"))
unfolding digits settle divided
a_block_is_freed_by_its_first_cell = record { output = refl; outcome = refl }

-- a condition that was released
-- int main(void){ cpc_condvar c; c = cpc_cond_new(); cpc_cond_free(c); cpc_signal(c); return 0; }
abbrev pub signalling_released : Program
signalling_released = ((FunctionItem (record { mode = Native; called = (codes "main"); result = (TyInt Int); parameters = ([]); body = (Block (AndStmt (Declare (codes "c") TyCondvar None) (AndStmt (Call (Some (ENamed (codes "c"))) (ENamed (codes "cpc_cond_new")) NoExpr) (AndStmt (Call None (ENamed (codes "cpc_cond_free")) (AndExpr (ENamed (codes "c")) NoExpr)) (AndStmt (Call None (ENamed (codes "cpc_signal")) (AndExpr (ENamed (codes "c")) NoExpr)) (AndStmt (Return (Some (EInteger Int (pos 0)))) NoStmt)))))) })) ∷ [])

-- it is `condvar`
pub a_released_condition_is_gone : RunsTo signalling_released no_polls 30 (codes "") (Failed F.CondVar (codes "main"))
unfolding digits settle divided
a_released_condition_is_gone = record { output = refl; outcome = refl }

-- a condition on which somebody waits
-- cpc_condvar c;
-- cps void w(void){ cpc_wait(c); }
-- int main(void){ c = cpc_cond_new(); cpc_spawn w(); cpc_spawn g(); return 0; }
-- cps void g(void){ cpc_cond_free(c); }
abbrev pub releasing_waited_on : Program
releasing_waited_on = ((GlobalItem (codes "c") TyCondvar None) ∷ (FunctionItem (record { mode = Cps; called = (codes "w"); result = TyVoid; parameters = ([]); body = (Block (AndStmt (Call None (ENamed (codes "cpc_wait")) (AndExpr (ENamed (codes "c")) NoExpr)) NoStmt)) })) ∷ (FunctionItem (record { mode = Native; called = (codes "main"); result = (TyInt Int); parameters = ([]); body = (Block (AndStmt (Call (Some (ENamed (codes "c"))) (ENamed (codes "cpc_cond_new")) NoExpr) (AndStmt (Spawn (codes "w") NoExpr) (AndStmt (Spawn (codes "g") NoExpr) (AndStmt (Return (Some (EInteger Int (pos 0)))) NoStmt))))) })) ∷ (FunctionItem (record { mode = Cps; called = (codes "g"); result = TyVoid; parameters = ([]); body = (Block (AndStmt (Call None (ENamed (codes "cpc_cond_free")) (AndExpr (ENamed (codes "c")) NoExpr)) NoStmt)) })) ∷ [])

-- it is `condvar`
pub a_condition_with_waiters_is_kept : RunsTo releasing_waited_on no_polls 30 (codes "") (Failed F.CondVar (codes "g"))
unfolding digits settle divided
a_condition_with_waiters_is_kept = record { output = refl; outcome = refl }

-- a block of -1 cells
-- int main(void){ int *p; p = malloc(-1); return 0; }
abbrev pub negative_length : Program
negative_length = ((FunctionItem (record { mode = Native; called = (codes "main"); result = (TyInt Int); parameters = ([]); body = (Block (AndStmt (Declare (codes "p") (TyPointer (TyInt Int)) None) (AndStmt (Call (Some (ENamed (codes "p"))) (ENamed (codes "malloc")) (AndExpr (EUnary Minus (EInteger Int (pos 1))) NoExpr)) (AndStmt (Return (Some (EInteger Int (pos 0)))) NoStmt)))) })) ∷ [])

-- it is `length`
pub a_length_is_not_negative : RunsTo negative_length no_polls 30 (codes "") (Failed F.Length (codes "main"))
unfolding digits settle divided
a_length_is_not_negative = record { output = refl; outcome = refl }
