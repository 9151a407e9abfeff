-- The order of evaluation, told by which of two faults comes.
use Rattle.std.specs.Prelude.{[], ◌∷◌, pos, Some, None, codes, refl}
use Rattle.std.specs.Fmt.{digits}
use Rattle.cpc_num.specs.Number.{settle, divided}
use Rattle.cpc_num.specs.declared.kinds.Kind.TheVariants.{Int}
use Rattle.cpc_num.specs.declared.kinds.Op.TheVariants.{Div, Add, Lt}
use Rattle.cpc_num.specs.declared.kinds.Fault.TheVariants as F
use Rattle.cpc_tree.specs.declared.program.UnaryOp.TheVariants.{Minus, Dereference, AddressOf}
use Rattle.cpc_tree.specs.declared.program.Mode.TheVariants.{Native, Cps}
use Rattle.cpc_tree.specs.Syntax.{TyVoid, TyInt, TyPointer, TyCode, NoTy, AndTy, ENamed, EInteger, EUnary, EBinary, EChoose, NoExpr, AndExpr, Block, Declare, Assign, Call, Spawn, Return, NoStmt, AndStmt, GlobalItem, FunctionItem, Program}
use Rattle.cpc_tree.specs.Trace.{Failed}
use Rattle.cpc_meaning_laws.specs.Worked.Shown.{RunsTo, Traces, no_polls}

-- a right side that faults, and a place that would
-- int main(void){ int *p; int z; p = 0; z = 0; *p = 1 / z; return 0; }
abbrev pub right_before_place : Program
right_before_place = ((FunctionItem (record { mode = Native; called = (codes "main"); result = (TyInt Int); parameters = ([]); body = (Block (AndStmt (Declare (codes "p") (TyPointer (TyInt Int)) None) (AndStmt (Declare (codes "z") (TyInt Int) None) (AndStmt (Assign (ENamed (codes "p")) None (EInteger Int (pos 0))) (AndStmt (Assign (ENamed (codes "z")) None (EInteger Int (pos 0))) (AndStmt (Assign (EUnary Dereference (ENamed (codes "p"))) None (EBinary Div (EInteger Int (pos 1)) (ENamed (codes "z")))) (AndStmt (Return (Some (EInteger Int (pos 0)))) NoStmt))))))) })) ∷ [])

-- an assignment evaluates its right side, then its place
pub the_right_side_comes_first : RunsTo right_before_place no_polls 30 (codes "") (Failed F.Divide (codes "main"))
unfolding digits settle divided
the_right_side_comes_first = record { output = refl; outcome = refl }

-- a left operand that faults, and a right one that would
-- int main(void){ int *p; int z; p = 0; z = 0; cpc_print(*p + 1 / z); return 0; }
abbrev pub left_before_right : Program
left_before_right = ((FunctionItem (record { mode = Native; called = (codes "main"); result = (TyInt Int); parameters = ([]); body = (Block (AndStmt (Declare (codes "p") (TyPointer (TyInt Int)) None) (AndStmt (Declare (codes "z") (TyInt Int) None) (AndStmt (Assign (ENamed (codes "p")) None (EInteger Int (pos 0))) (AndStmt (Assign (ENamed (codes "z")) None (EInteger Int (pos 0))) (AndStmt (Call None (ENamed (codes "cpc_print")) (AndExpr (EBinary Add (EUnary Dereference (ENamed (codes "p"))) (EBinary Div (EInteger Int (pos 1)) (ENamed (codes "z")))) NoExpr)) (AndStmt (Return (Some (EInteger Int (pos 0)))) NoStmt))))))) })) ∷ [])

-- operands are evaluated from left to right
pub the_left_operand_comes_first : RunsTo left_before_right no_polls 30 (codes "") (Failed F.Null (codes "main"))
unfolding digits settle divided
the_left_operand_comes_first = record { output = refl; outcome = refl }

-- a null function, and an argument that faults
-- int (*f)(int);
-- int main(void){ int r; int z; z = 0; f = 0; r = f(1 / z); return 0; }
abbrev pub arguments_before_call : Program
arguments_before_call = ((GlobalItem (codes "f") (TyCode (TyInt Int) (AndTy (TyInt Int) NoTy)) None) ∷ (FunctionItem (record { mode = Native; called = (codes "main"); result = (TyInt Int); parameters = ([]); body = (Block (AndStmt (Declare (codes "r") (TyInt Int) None) (AndStmt (Declare (codes "z") (TyInt Int) None) (AndStmt (Assign (ENamed (codes "z")) None (EInteger Int (pos 0))) (AndStmt (Assign (ENamed (codes "f")) None (EInteger Int (pos 0))) (AndStmt (Call (Some (ENamed (codes "r"))) (ENamed (codes "f")) (AndExpr (EBinary Div (EInteger Int (pos 1)) (ENamed (codes "z"))) NoExpr)) (AndStmt (Return (Some (EInteger Int (pos 0)))) NoStmt))))))) })) ∷ [])

-- after the arguments of its call
pub the_function_is_tested_last : RunsTo arguments_before_call no_polls 30 (codes "") (Failed F.Divide (codes "main"))
unfolding digits settle divided
the_function_is_tested_last = record { output = refl; outcome = refl }

-- an unset argument, and one that faults
-- cps void f(void){ int u; int z; z = 0; cpc_io_wait(u, 1 / z); }
-- int main(void){ cpc_spawn f(); return 0; }
abbrev pub arguments_before_tests : Program
arguments_before_tests = ((FunctionItem (record { mode = Cps; called = (codes "f"); result = TyVoid; parameters = ([]); body = (Block (AndStmt (Declare (codes "u") (TyInt Int) None) (AndStmt (Declare (codes "z") (TyInt Int) None) (AndStmt (Assign (ENamed (codes "z")) None (EInteger Int (pos 0))) (AndStmt (Call None (ENamed (codes "cpc_io_wait")) (AndExpr (ENamed (codes "u")) (AndExpr (EBinary Div (EInteger Int (pos 1)) (ENamed (codes "z"))) NoExpr))) NoStmt))))) })) ∷ (FunctionItem (record { mode = Native; called = (codes "main"); result = (TyInt Int); parameters = ([]); body = (Block (AndStmt (Spawn (codes "f") NoExpr) (AndStmt (Return (Some (EInteger Int (pos 0)))) NoStmt))) })) ∷ [])

-- all of them
pub arguments_are_evaluated_before_they_are_tested : RunsTo arguments_before_tests no_polls 30 (codes "") (Failed F.Divide (codes "f"))
unfolding digits settle divided
arguments_are_evaluated_before_they_are_tested = record { output = refl; outcome = refl }

-- null and an unset number in one sum
-- int main(void){ int *p; int u; p = 0; p = p + u; return 0; }
abbrev pub unset_before_null : Program
unset_before_null = ((FunctionItem (record { mode = Native; called = (codes "main"); result = (TyInt Int); parameters = ([]); body = (Block (AndStmt (Declare (codes "p") (TyPointer (TyInt Int)) None) (AndStmt (Declare (codes "u") (TyInt Int) None) (AndStmt (Assign (ENamed (codes "p")) None (EInteger Int (pos 0))) (AndStmt (Assign (ENamed (codes "p")) None (EBinary Add (ENamed (codes "p")) (ENamed (codes "u")))) (AndStmt (Return (Some (EInteger Int (pos 0)))) NoStmt)))))) })) ∷ [])

-- in one operator
pub unset_comes_before_null : RunsTo unset_before_null no_polls 30 (codes "") (Failed F.Unset (codes "main"))
unfolding digits settle divided
unset_comes_before_null = record { output = refl; outcome = refl }

-- null and a freed block in one comparison
-- int main(void){ int *p; int *q; p = malloc(1); free(p); q = 0; cpc_print(p < q); return 0; }
abbrev pub null_before_freed : Program
null_before_freed = ((FunctionItem (record { mode = Native; called = (codes "main"); result = (TyInt Int); parameters = ([]); body = (Block (AndStmt (Declare (codes "p") (TyPointer (TyInt Int)) None) (AndStmt (Declare (codes "q") (TyPointer (TyInt Int)) None) (AndStmt (Call (Some (ENamed (codes "p"))) (ENamed (codes "malloc")) (AndExpr (EInteger Int (pos 1)) NoExpr)) (AndStmt (Call None (ENamed (codes "free")) (AndExpr (ENamed (codes "p")) NoExpr)) (AndStmt (Assign (ENamed (codes "q")) None (EInteger Int (pos 0))) (AndStmt (Call None (ENamed (codes "cpc_print")) (AndExpr (EBinary Lt (ENamed (codes "p")) (ENamed (codes "q"))) NoExpr)) (AndStmt (Return (Some (EInteger Int (pos 0)))) NoStmt)))))))) })) ∷ [])

-- in a comparison
pub null_comes_before_freed : RunsTo null_before_freed no_polls 30 (codes "") (Failed F.Null (codes "main"))
unfolding digits settle divided
null_comes_before_freed = record { output = refl; outcome = refl }

-- a function that frees its own local and returns a value that faults
-- int main(void){ int z; int *p; z = 0; p = &z; return 1 / *p; }
abbrev pub value_before_blocks : Program
value_before_blocks = ((FunctionItem (record { mode = Native; called = (codes "main"); result = (TyInt Int); parameters = ([]); body = (Block (AndStmt (Declare (codes "z") (TyInt Int) None) (AndStmt (Declare (codes "p") (TyPointer (TyInt Int)) None) (AndStmt (Assign (ENamed (codes "z")) None (EInteger Int (pos 0))) (AndStmt (Assign (ENamed (codes "p")) None (EUnary AddressOf (ENamed (codes "z")))) (AndStmt (Return (Some (EBinary Div (EInteger Int (pos 1)) (EUnary Dereference (ENamed (codes "p")))))) NoStmt)))))) })) ∷ [])

-- and then frees its blocks
pub a_return_evaluates_its_value_first : RunsTo value_before_blocks no_polls 30 (codes "") (Failed F.Divide (codes "main"))
unfolding digits settle divided
a_return_evaluates_its_value_first = record { output = refl; outcome = refl }

-- a primitive that faults, and a place that would
-- int **q;
-- int main(void){ q = 0; *q = malloc(-1); return 0; }
abbrev pub act_before_place : Program
act_before_place = ((GlobalItem (codes "q") (TyPointer (TyPointer (TyInt Int))) None) ∷ (FunctionItem (record { mode = Native; called = (codes "main"); result = (TyInt Int); parameters = ([]); body = (Block (AndStmt (Assign (ENamed (codes "q")) None (EInteger Int (pos 0))) (AndStmt (Call (Some (EUnary Dereference (ENamed (codes "q")))) (ENamed (codes "malloc")) (AndExpr (EUnary Minus (EInteger Int (pos 1))) NoExpr)) (AndStmt (Return (Some (EInteger Int (pos 0)))) NoStmt)))) })) ∷ [])

-- of the statement
pub the_act_comes_before_the_place : RunsTo act_before_place no_polls 30 (codes "") (Failed F.Length (codes "main"))
unfolding digits settle divided
the_act_comes_before_the_place = record { output = refl; outcome = refl }

-- a primitive that does not fault, and a place that does
-- int **q;
-- int main(void){ q = 0; *q = malloc(1); return 0; }
abbrev pub place_after_act : Program
place_after_act = ((GlobalItem (codes "q") (TyPointer (TyPointer (TyInt Int))) None) ∷ (FunctionItem (record { mode = Native; called = (codes "main"); result = (TyInt Int); parameters = ([]); body = (Block (AndStmt (Assign (ENamed (codes "q")) None (EInteger Int (pos 0))) (AndStmt (Call (Some (EUnary Dereference (ENamed (codes "q")))) (ENamed (codes "malloc")) (AndExpr (EInteger Int (pos 1)) NoExpr)) (AndStmt (Return (Some (EInteger Int (pos 0)))) NoStmt)))) })) ∷ [])

-- in the same step
pub the_place_of_an_answer_may_fault : RunsTo place_after_act no_polls 30 (codes "") (Failed F.Null (codes "main"))
unfolding digits settle divided
the_place_of_an_answer_may_fault = record { output = refl; outcome = refl }

-- a sleep of a negative time
-- cps void f(void){ cpc_sleep(-1); }
-- int main(void){ cpc_spawn f(); return 0; }
abbrev pub negative_sleep : Program
negative_sleep = ((FunctionItem (record { mode = Cps; called = (codes "f"); result = TyVoid; parameters = ([]); body = (Block (AndStmt (Call None (ENamed (codes "cpc_sleep")) (AndExpr (EUnary Minus (EInteger Int (pos 1))) NoExpr)) NoStmt)) })) ∷ (FunctionItem (record { mode = Native; called = (codes "main"); result = (TyInt Int); parameters = ([]); body = (Block (AndStmt (Spawn (codes "f") NoExpr) (AndStmt (Return (Some (EInteger Int (pos 0)))) NoStmt))) })) ∷ [])

-- and changes nothing
pub a_step_that_faults_leaves_no_mark : RunsTo negative_sleep no_polls 30 (codes "") (Failed F.Length (codes "f"))
unfolding digits settle divided
a_step_that_faults_leaves_no_mark = record { output = refl; outcome = refl }

-- the trace is its last line alone
pub no_mark_of_a_negative_sleep : Traces negative_sleep no_polls 30 (codes "fault length in f\n")
unfolding digits settle divided
no_mark_of_a_negative_sleep = refl

-- a function of one name with underscores at its end
-- cps void f_(void){ int z; z = 0; cpc_print(1 / z); }
-- int main(void){ cpc_spawn f_(); return 0; }
abbrev pub underscored_name : Program
underscored_name = ((FunctionItem (record { mode = Cps; called = (codes "f_"); result = TyVoid; parameters = ([]); body = (Block (AndStmt (Declare (codes "z") (TyInt Int) None) (AndStmt (Assign (ENamed (codes "z")) None (EInteger Int (pos 0))) (AndStmt (Call None (ENamed (codes "cpc_print")) (AndExpr (EBinary Div (EInteger Int (pos 1)) (ENamed (codes "z"))) NoExpr)) NoStmt)))) })) ∷ (FunctionItem (record { mode = Native; called = (codes "main"); result = (TyInt Int); parameters = ([]); body = (Block (AndStmt (Spawn (codes "f_") NoExpr) (AndStmt (Return (Some (EInteger Int (pos 0)))) NoStmt))) })) ∷ [])

-- in the line of a fault
pub a_cps_function_is_shown_without_its_last_underscores : RunsTo underscored_name no_polls 30 (codes "") (Failed F.Divide (codes "f"))
unfolding digits settle divided
a_cps_function_is_shown_without_its_last_underscores = record { output = refl; outcome = refl }

-- the same of a native function
-- void f_(void){ int z; z = 0; cpc_print(1 / z); }
-- int main(void){ f_(); return 0; }
abbrev pub underscored_native : Program
underscored_native = ((FunctionItem (record { mode = Native; called = (codes "f_"); result = TyVoid; parameters = ([]); body = (Block (AndStmt (Declare (codes "z") (TyInt Int) None) (AndStmt (Assign (ENamed (codes "z")) None (EInteger Int (pos 0))) (AndStmt (Call None (ENamed (codes "cpc_print")) (AndExpr (EBinary Div (EInteger Int (pos 1)) (ENamed (codes "z"))) NoExpr)) NoStmt)))) })) ∷ (FunctionItem (record { mode = Native; called = (codes "main"); result = (TyInt Int); parameters = ([]); body = (Block (AndStmt (Call None (ENamed (codes "f_")) NoExpr) (AndStmt (Return (Some (EInteger Int (pos 0)))) NoStmt))) })) ∷ [])

-- in the line of a fault
pub a_native_function_is_shown_by_its_whole_name : RunsTo underscored_native no_polls 30 (codes "") (Failed F.Divide (codes "f_"))
unfolding digits settle divided
a_native_function_is_shown_by_its_whole_name = record { output = refl; outcome = refl }

-- an unset arm of a choice
-- int main(void){ int u; int x; x = 1 ? u : 2; return 0; }
abbrev pub choosing_unset : Program
choosing_unset = ((FunctionItem (record { mode = Native; called = (codes "main"); result = (TyInt Int); parameters = ([]); body = (Block (AndStmt (Declare (codes "u") (TyInt Int) None) (AndStmt (Declare (codes "x") (TyInt Int) None) (AndStmt (Assign (ENamed (codes "x")) None (EChoose (EInteger Int (pos 1)) (ENamed (codes "u")) (EInteger Int (pos 2)))) (AndStmt (Return (Some (EInteger Int (pos 0)))) NoStmt))))) })) ∷ [])

-- an unset arm that is taken is `unset`
pub a_choice_is_an_operator : RunsTo choosing_unset no_polls 30 (codes "") (Failed F.Unset (codes "main"))
unfolding digits settle divided
a_choice_is_an_operator = record { output = refl; outcome = refl }
