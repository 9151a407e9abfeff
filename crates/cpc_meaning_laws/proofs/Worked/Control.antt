-- Where control goes: loops, jumps and labels.
use Rattle.std.specs.Prelude.{[], ◌∷◌, pos, Some, None, codes, refl}
use Rattle.std.specs.Fmt.{digits}
use Rattle.cpc_num.specs.Number.{settle, divided}
use Rattle.cpc_num.specs.declared.kinds.Kind.TheVariants.{Int}
use Rattle.cpc_num.specs.declared.kinds.Op.TheVariants.{Add, Sub, Lt, Gt, Eq}
use Rattle.cpc_tree.specs.declared.program.Mode.TheVariants.{Native, Cps}
use Rattle.cpc_tree.specs.Syntax.{TyVoid, TyInt, ENamed, EInteger, EBinary, NoExpr, AndExpr, Block, Empty, Declare, Assign, Call, Spawn, If, While, DoWhile, For, Goto, Label, Break, Continue, Return, NoStmt, AndStmt, Absent, Present, GlobalItem, FunctionItem, Program}
use Rattle.cpc_tree.specs.Trace.{Going, Ended}
use Rattle.cpc_meaning_laws.specs.Worked.Shown.{RunsTo, no_polls}

-- a label that is reached from above and by a jump
-- cps void f(void){ int i; int n; i = 0; n = 0;
--   while (i < 3) { i++; mid: n = n + i; cpc_print(n); }
--   if (n < 20) { cpc_yield(); i = 1; goto mid; } }
-- int main(void){ cpc_spawn f(); return 0; }
abbrev pub two_ways_in : Program
two_ways_in = ((FunctionItem (record { mode = Cps; called = (codes "f"); result = TyVoid; parameters = ([]); body = (Block (AndStmt (Declare (codes "i") (TyInt Int) None) (AndStmt (Declare (codes "n") (TyInt Int) None) (AndStmt (Assign (ENamed (codes "i")) None (EInteger Int (pos 0))) (AndStmt (Assign (ENamed (codes "n")) None (EInteger Int (pos 0))) (AndStmt (While (EBinary Lt (ENamed (codes "i")) (EInteger Int (pos 3))) (Block (AndStmt (Assign (ENamed (codes "i")) (Some Add) (EInteger Int (pos 1))) (AndStmt (Label (codes "mid") (Assign (ENamed (codes "n")) None (EBinary Add (ENamed (codes "n")) (ENamed (codes "i"))))) (AndStmt (Call None (ENamed (codes "cpc_print")) (AndExpr (ENamed (codes "n")) NoExpr)) NoStmt))))) (AndStmt (If (EBinary Lt (ENamed (codes "n")) (EInteger Int (pos 20))) (Block (AndStmt (Call None (ENamed (codes "cpc_yield")) NoExpr) (AndStmt (Assign (ENamed (codes "i")) None (EInteger Int (pos 1))) (AndStmt (Goto (codes "mid")) NoStmt)))) Absent) NoStmt))))))) })) ∷ (FunctionItem (record { mode = Native; called = (codes "main"); result = (TyInt Int); parameters = ([]); body = (Block (AndStmt (Spawn (codes "f") NoExpr) (AndStmt (Return (Some (EInteger Int (pos 0)))) NoStmt))) })) ∷ [])

-- a goto may lead into a loop, past its test
pub a_jump_leads_into_a_loop : RunsTo two_ways_in no_polls 150 (codes "1\n3\n6\n7\n9\n12\n13\n15\n18\n19\n21\n24\n") (Ended 0)
unfolding digits settle divided
a_jump_leads_into_a_loop = record { output = refl; outcome = refl }

-- the same over globals:
-- int i; int n;
-- cps void f(void){ i = 0; n = 0; while (i < 3) { i++; mid: n = n + i; cpc_print(n); } if (n < 20) { cpc_yield(); i = 1; goto mid; } }
-- int main(void){ cpc_spawn f(); return 0; }
abbrev pub two_ways_in_over_globals : Program
two_ways_in_over_globals = (GlobalItem (codes "i") (TyInt Int) None) ∷ (GlobalItem (codes "n") (TyInt Int) None) ∷ ((FunctionItem (record { mode = Cps; called = (codes "f"); result = TyVoid; parameters = ([]); body = (Block (AndStmt (Assign (ENamed (codes "i")) None (EInteger Int (pos 0))) (AndStmt (Assign (ENamed (codes "n")) None (EInteger Int (pos 0))) (AndStmt (While (EBinary Lt (ENamed (codes "i")) (EInteger Int (pos 3))) (Block (AndStmt (Assign (ENamed (codes "i")) (Some Add) (EInteger Int (pos 1))) (AndStmt (Label (codes "mid") (Assign (ENamed (codes "n")) None (EBinary Add (ENamed (codes "n")) (ENamed (codes "i"))))) (AndStmt (Call None (ENamed (codes "cpc_print")) (AndExpr (ENamed (codes "n")) NoExpr)) NoStmt))))) (AndStmt (If (EBinary Lt (ENamed (codes "n")) (EInteger Int (pos 20))) (Block (AndStmt (Call None (ENamed (codes "cpc_yield")) NoExpr) (AndStmt (Assign (ENamed (codes "i")) None (EInteger Int (pos 1))) (AndStmt (Goto (codes "mid")) NoStmt)))) Absent) NoStmt))))) })) ∷ (FunctionItem (record { mode = Native; called = (codes "main"); result = (TyInt Int); parameters = ([]); body = (Block (AndStmt (Spawn (codes "f") NoExpr) (AndStmt (Return (Some (EInteger Int (pos 0)))) NoStmt))) })) ∷ [])

pub a_jump_leads_into_a_loop_over_globals : RunsTo two_ways_in_over_globals no_polls 150 (codes "1\n3\n6\n7\n9\n12\n13\n15\n18\n19\n21\n24\n") (Ended 0)
unfolding digits settle divided
a_jump_leads_into_a_loop_over_globals = record { output = refl; outcome = refl }

-- `break` and `continue` in each kind of loop
-- int main(void){ int i;
--   for (i = 0; i < 9; i++) { if (i == 1) continue; if (i == 4) break; cpc_print(i); }
--   while (1) { i++; if (i < 7) continue; break; }
--   cpc_print(i);
--   do { i--; if (i == 5) continue; cpc_print(i); } while (i > 3);
--   return 0; }
abbrev pub leaving_loops : Program
leaving_loops = ((FunctionItem (record { mode = Native; called = (codes "main"); result = (TyInt Int); parameters = ([]); body = (Block (AndStmt (Declare (codes "i") (TyInt Int) None) (AndStmt (For (AndStmt (Assign (ENamed (codes "i")) None (EInteger Int (pos 0))) NoStmt) (Some (EBinary Lt (ENamed (codes "i")) (EInteger Int (pos 9)))) (Present (Assign (ENamed (codes "i")) (Some Add) (EInteger Int (pos 1)))) (Block (AndStmt (If (EBinary Eq (ENamed (codes "i")) (EInteger Int (pos 1))) Continue Absent) (AndStmt (If (EBinary Eq (ENamed (codes "i")) (EInteger Int (pos 4))) Break Absent) (AndStmt (Call None (ENamed (codes "cpc_print")) (AndExpr (ENamed (codes "i")) NoExpr)) NoStmt))))) (AndStmt (While (EInteger Int (pos 1)) (Block (AndStmt (Assign (ENamed (codes "i")) (Some Add) (EInteger Int (pos 1))) (AndStmt (If (EBinary Lt (ENamed (codes "i")) (EInteger Int (pos 7))) Continue Absent) (AndStmt Break NoStmt))))) (AndStmt (Call None (ENamed (codes "cpc_print")) (AndExpr (ENamed (codes "i")) NoExpr)) (AndStmt (DoWhile (Block (AndStmt (Assign (ENamed (codes "i")) (Some Sub) (EInteger Int (pos 1))) (AndStmt (If (EBinary Eq (ENamed (codes "i")) (EInteger Int (pos 5))) Continue Absent) (AndStmt (Call None (ENamed (codes "cpc_print")) (AndExpr (ENamed (codes "i")) NoExpr)) NoStmt)))) (EBinary Gt (ENamed (codes "i")) (EInteger Int (pos 3)))) (AndStmt (Return (Some (EInteger Int (pos 0)))) NoStmt))))))) })) ∷ [])

-- `continue` goes to the step of a `for` and to the test of the others
pub continue_goes_to_the_step_or_the_test : RunsTo leaving_loops no_polls 150 (codes "0\n2\n3\n7\n6\n4\n3\n") (Ended 0)
unfolding digits settle divided
continue_goes_to_the_step_or_the_test = record { output = refl; outcome = refl }

-- a name that is hidden in a block, a loop and its body
-- int x;
-- int main(void){ int i; x = 1; i = 10;
--   { int x; x = 2; cpc_print(x); }
--   for (int i = 0; i < 2; i++) { int x; x = i + 5; cpc_print(x); }
--   cpc_print(x); cpc_print(i); return 0; }
abbrev pub inner_and_outer : Program
inner_and_outer = ((GlobalItem (codes "x") (TyInt Int) None) ∷ (FunctionItem (record { mode = Native; called = (codes "main"); result = (TyInt Int); parameters = ([]); body = (Block (AndStmt (Declare (codes "i") (TyInt Int) None) (AndStmt (Assign (ENamed (codes "x")) None (EInteger Int (pos 1))) (AndStmt (Assign (ENamed (codes "i")) None (EInteger Int (pos 10))) (AndStmt (Block (AndStmt (Declare (codes "x") (TyInt Int) None) (AndStmt (Assign (ENamed (codes "x")) None (EInteger Int (pos 2))) (AndStmt (Call None (ENamed (codes "cpc_print")) (AndExpr (ENamed (codes "x")) NoExpr)) NoStmt)))) (AndStmt (For (AndStmt (Declare (codes "i") (TyInt Int) (Some (EInteger Int (pos 0)))) NoStmt) (Some (EBinary Lt (ENamed (codes "i")) (EInteger Int (pos 2)))) (Present (Assign (ENamed (codes "i")) (Some Add) (EInteger Int (pos 1)))) (Block (AndStmt (Declare (codes "x") (TyInt Int) None) (AndStmt (Assign (ENamed (codes "x")) None (EBinary Add (ENamed (codes "i")) (EInteger Int (pos 5)))) (AndStmt (Call None (ENamed (codes "cpc_print")) (AndExpr (ENamed (codes "x")) NoExpr)) NoStmt))))) (AndStmt (Call None (ENamed (codes "cpc_print")) (AndExpr (ENamed (codes "x")) NoExpr)) (AndStmt (Call None (ENamed (codes "cpc_print")) (AndExpr (ENamed (codes "i")) NoExpr)) (AndStmt (Return (Some (EInteger Int (pos 0)))) NoStmt))))))))) })) ∷ [])

-- a name means the innermost variable
pub an_inner_name_hides_an_outer : RunsTo inner_and_outer no_polls 60 (codes "2\n5\n6\n1\n10\n") (Ended 0)
unfolding digits settle divided
an_inner_name_hides_an_outer = record { output = refl; outcome = refl }

-- a variable of a block that is entered twice
-- int main(void){ int i;
--   for (i = 0; i < 2; i++) { int x; if (i == 1) cpc_print(x); x = 8; }
--   return 0; }
abbrev pub block_entered_twice : Program
block_entered_twice = ((FunctionItem (record { mode = Native; called = (codes "main"); result = (TyInt Int); parameters = ([]); body = (Block (AndStmt (Declare (codes "i") (TyInt Int) None) (AndStmt (For (AndStmt (Assign (ENamed (codes "i")) None (EInteger Int (pos 0))) NoStmt) (Some (EBinary Lt (ENamed (codes "i")) (EInteger Int (pos 2)))) (Present (Assign (ENamed (codes "i")) (Some Add) (EInteger Int (pos 1)))) (Block (AndStmt (Declare (codes "x") (TyInt Int) None) (AndStmt (If (EBinary Eq (ENamed (codes "i")) (EInteger Int (pos 1))) (Call None (ENamed (codes "cpc_print")) (AndExpr (ENamed (codes "x")) NoExpr)) Absent) (AndStmt (Assign (ENamed (codes "x")) None (EInteger Int (pos 8))) NoStmt))))) (AndStmt (Return (Some (EInteger Int (pos 0)))) NoStmt)))) })) ∷ [])

-- there is one variable for each call, whatever blocks are entered
pub a_variable_keeps_its_value_until_the_return : RunsTo block_entered_twice no_polls 60 (codes "8\n") (Ended 0)
unfolding digits settle divided
a_variable_keeps_its_value_until_the_return = record { output = refl; outcome = refl }

-- blocks without statements are statements
-- int main(void){ {} if (1) {} else {} ; cpc_print(1); return 0; }
abbrev pub empty_blocks : Program
empty_blocks = ((FunctionItem (record { mode = Native; called = (codes "main"); result = (TyInt Int); parameters = ([]); body = (Block (AndStmt (Block NoStmt) (AndStmt (If (EInteger Int (pos 1)) (Block NoStmt) (Present (Block NoStmt))) (AndStmt Empty (AndStmt (Call None (ENamed (codes "cpc_print")) (AndExpr (EInteger Int (pos 1)) NoExpr)) (AndStmt (Return (Some (EInteger Int (pos 0)))) NoStmt)))))) })) ∷ [])

-- the turn, the taking of `main`, the empty block, the test, its empty arm, the empty statement, the print, the return, and the end
pub an_empty_block_is_one_step : RunsTo empty_blocks no_polls 8 (codes "1\n") Going
unfolding digits settle divided
an_empty_block_is_one_step = record { output = refl; outcome = refl }

-- and the ninth is the end
pub nine_steps_in_all : RunsTo empty_blocks no_polls 9 (codes "1\n") (Ended 0)
unfolding digits settle divided
nine_steps_in_all = record { output = refl; outcome = refl }
