-- Blocks and cells: variables with an address, structs, arrays and the heap.
use Rattle.std.specs.Prelude.{[], ◌∷◌, pos, Some, None, codes, refl}
use Rattle.std.specs.Fmt.{digits}
use Rattle.cpc_num.specs.Number.{settle, divided}
use Rattle.cpc_num.specs.declared.kinds.Kind.TheVariants.{Char, UChar, Int, Long}
use Rattle.cpc_num.specs.declared.kinds.Op.TheVariants.{Mul, Add, Sub, Lt, Eq, Ne}
use Rattle.cpc_num.specs.declared.kinds.Fault.TheVariants as F
use Rattle.cpc_tree.specs.declared.program.UnaryOp.TheVariants.{Minus, Dereference, AddressOf}
use Rattle.cpc_tree.specs.declared.program.Mode.TheVariants.{Native, Cps}
use Rattle.cpc_tree.specs.Syntax.{TyVoid, TyInt, TyPointer, TyCode, TyStruct, TyArray, NoTy, ENamed, EInteger, ECharacter, EText, EUnary, EBinary, ESizeOf, EIndex, EMember, EArrow, NoExpr, AndExpr, Block, Declare, Assign, Call, Spawn, While, For, Return, NoStmt, AndStmt, Present, StructItem, GlobalItem, FunctionItem, Program}
use Rattle.cpc_tree.specs.Trace.{Ended, Failed}
use Rattle.cpc_meaning_laws.specs.Worked.Shown.{RunsTo, no_polls}

-- a local that another thread changes
-- int *g;
-- cps void w(void){ *g = *g + 5; }
-- cps void f(void){ int x; int y; x = 1; y = 2; g = &x; cpc_spawn w(); cpc_yield(); cpc_print(x + y); }
-- int main(void){ cpc_spawn f(); return 0; }
abbrev pub shared_local : Program
shared_local = ((GlobalItem (codes "g") (TyPointer (TyInt Int)) None) ∷ (FunctionItem (record { mode = Cps; called = (codes "w"); result = TyVoid; parameters = ([]); body = (Block (AndStmt (Assign (EUnary Dereference (ENamed (codes "g"))) None (EBinary Add (EUnary Dereference (ENamed (codes "g"))) (EInteger Int (pos 5)))) NoStmt)) })) ∷ (FunctionItem (record { mode = Cps; called = (codes "f"); result = TyVoid; parameters = ([]); body = (Block (AndStmt (Declare (codes "x") (TyInt Int) None) (AndStmt (Declare (codes "y") (TyInt Int) None) (AndStmt (Assign (ENamed (codes "x")) None (EInteger Int (pos 1))) (AndStmt (Assign (ENamed (codes "y")) None (EInteger Int (pos 2))) (AndStmt (Assign (ENamed (codes "g")) None (EUnary AddressOf (ENamed (codes "x")))) (AndStmt (Spawn (codes "w") NoExpr) (AndStmt (Call None (ENamed (codes "cpc_yield")) NoExpr) (AndStmt (Call None (ENamed (codes "cpc_print")) (AndExpr (EBinary Add (ENamed (codes "x")) (ENamed (codes "y"))) NoExpr)) NoStmt))))))))) })) ∷ (FunctionItem (record { mode = Native; called = (codes "main"); result = (TyInt Int); parameters = ([]); body = (Block (AndStmt (Spawn (codes "f") NoExpr) (AndStmt (Return (Some (EInteger Int (pos 0)))) NoStmt))) })) ∷ [])

-- a pointer to a local is good while its function runs
pub a_local_with_an_address_is_shared : RunsTo shared_local no_polls 60 (codes "8\n") (Ended 0)
unfolding digits settle divided
a_local_with_an_address_is_shared = record { output = refl; outcome = refl }

-- a variable without a value is passed on
-- cps int g(int u, int v){ cpc_yield(); return v; }
-- cps void f(void){ int a; int r; r = g(a, 4); cpc_print(r); cpc_print(a); }
-- int main(void){ cpc_spawn f(); return 0; }
abbrev pub passing_unset : Program
passing_unset = ((FunctionItem (record { mode = Cps; called = (codes "g"); result = (TyInt Int); parameters = (record { called = Some (codes "u"); type = (TyInt Int) } ∷ record { called = Some (codes "v"); type = (TyInt Int) } ∷ []); body = (Block (AndStmt (Call None (ENamed (codes "cpc_yield")) NoExpr) (AndStmt (Return (Some (ENamed (codes "v")))) NoStmt))) })) ∷ (FunctionItem (record { mode = Cps; called = (codes "f"); result = TyVoid; parameters = ([]); body = (Block (AndStmt (Declare (codes "a") (TyInt Int) None) (AndStmt (Declare (codes "r") (TyInt Int) None) (AndStmt (Call (Some (ENamed (codes "r"))) (ENamed (codes "g")) (AndExpr (ENamed (codes "a")) (AndExpr (EInteger Int (pos 4)) NoExpr))) (AndStmt (Call None (ENamed (codes "cpc_print")) (AndExpr (ENamed (codes "r")) NoExpr)) (AndStmt (Call None (ENamed (codes "cpc_print")) (AndExpr (ENamed (codes "a")) NoExpr)) NoStmt)))))) })) ∷ (FunctionItem (record { mode = Native; called = (codes "main"); result = (TyInt Int); parameters = ([]); body = (Block (AndStmt (Spawn (codes "f") NoExpr) (AndStmt (Return (Some (EInteger Int (pos 0)))) NoStmt))) })) ∷ [])

-- an unset value may be copied, not used
pub unset_is_copied_and_not_used : RunsTo passing_unset no_polls 60 (codes "4\n") (Failed F.Unset (codes "f"))
unfolding digits settle divided
unset_is_copied_and_not_used = record { output = refl; outcome = refl }

-- a pointer to a local of a function that has returned
-- int *g;
-- cps void f(void){ int x; x = 3; g = &x; cpc_yield(); }
-- cps void h(void){ cpc_yield(); cpc_yield(); cpc_print(*g); }
-- int main(void){ cpc_spawn f(); cpc_spawn h(); return 0; }
abbrev pub outliving : Program
outliving = ((GlobalItem (codes "g") (TyPointer (TyInt Int)) None) ∷ (FunctionItem (record { mode = Cps; called = (codes "f"); result = TyVoid; parameters = ([]); body = (Block (AndStmt (Declare (codes "x") (TyInt Int) None) (AndStmt (Assign (ENamed (codes "x")) None (EInteger Int (pos 3))) (AndStmt (Assign (ENamed (codes "g")) None (EUnary AddressOf (ENamed (codes "x")))) (AndStmt (Call None (ENamed (codes "cpc_yield")) NoExpr) NoStmt))))) })) ∷ (FunctionItem (record { mode = Cps; called = (codes "h"); result = TyVoid; parameters = ([]); body = (Block (AndStmt (Call None (ENamed (codes "cpc_yield")) NoExpr) (AndStmt (Call None (ENamed (codes "cpc_yield")) NoExpr) (AndStmt (Call None (ENamed (codes "cpc_print")) (AndExpr (EUnary Dereference (ENamed (codes "g"))) NoExpr)) NoStmt)))) })) ∷ (FunctionItem (record { mode = Native; called = (codes "main"); result = (TyInt Int); parameters = ([]); body = (Block (AndStmt (Spawn (codes "f") NoExpr) (AndStmt (Spawn (codes "h") NoExpr) (AndStmt (Return (Some (EInteger Int (pos 0)))) NoStmt)))) })) ∷ [])

-- its block is freed when the function returns
pub a_local_is_freed_at_the_return : RunsTo outliving no_polls 60 (codes "") (Failed F.Freed (codes "h"))
unfolding digits settle divided
a_local_is_freed_at_the_return = record { output = refl; outcome = refl }

-- an array of structs, and a pointer at its end
-- struct s { int a; char b[3]; };
-- struct s g[2];
-- int main(void){ struct s *p; long d; char *q;
--   p = &g[0]; q = g[1].b; q[2] = 300; d = &g[1] - p;
--   cpc_print(g[1].b[2]); cpc_print(d); cpc_print(sizeof(struct s)); cpc_print(g[1].b[3]); return 0; }
abbrev pub two_structs : Program
two_structs = ((StructItem (codes "s") (record { called = (codes "a"); type = (TyInt Int) } ∷ record { called = (codes "b"); type = (TyArray (TyInt Char) 3) } ∷ [])) ∷ (GlobalItem (codes "g") (TyArray (TyStruct (codes "s")) 2) None) ∷ (FunctionItem (record { mode = Native; called = (codes "main"); result = (TyInt Int); parameters = ([]); body = (Block (AndStmt (Declare (codes "p") (TyPointer (TyStruct (codes "s"))) None) (AndStmt (Declare (codes "d") (TyInt Long) None) (AndStmt (Declare (codes "q") (TyPointer (TyInt Char)) None) (AndStmt (Assign (ENamed (codes "p")) None (EUnary AddressOf (EIndex (ENamed (codes "g")) (EInteger Int (pos 0))))) (AndStmt (Assign (ENamed (codes "q")) None (EMember (EIndex (ENamed (codes "g")) (EInteger Int (pos 1))) (codes "b"))) (AndStmt (Assign (EIndex (ENamed (codes "q")) (EInteger Int (pos 2))) None (EInteger Int (pos 300))) (AndStmt (Assign (ENamed (codes "d")) None (EBinary Sub (EUnary AddressOf (EIndex (ENamed (codes "g")) (EInteger Int (pos 1)))) (ENamed (codes "p")))) (AndStmt (Call None (ENamed (codes "cpc_print")) (AndExpr (EIndex (EMember (EIndex (ENamed (codes "g")) (EInteger Int (pos 1))) (codes "b")) (EInteger Int (pos 2))) NoExpr)) (AndStmt (Call None (ENamed (codes "cpc_print")) (AndExpr (ENamed (codes "d")) NoExpr)) (AndStmt (Call None (ENamed (codes "cpc_print")) (AndExpr (ESizeOf (TyStruct (codes "s"))) NoExpr)) (AndStmt (Call None (ENamed (codes "cpc_print")) (AndExpr (EIndex (EMember (EIndex (ENamed (codes "g")) (EInteger Int (pos 1))) (codes "b")) (EInteger Int (pos 3))) NoExpr)) (AndStmt (Return (Some (EInteger Int (pos 0)))) NoStmt))))))))))))) })) ∷ [])

-- the end of a block can be pointed to, not read
pub a_pointer_stays_in_its_block : RunsTo two_structs no_polls 40 (codes "44\n1\n4\n") (Failed F.Bounds (codes "main"))
unfolding digits settle divided
a_pointer_stays_in_its_block = record { output = refl; outcome = refl }

-- an array of each call
-- cps void f(int k){ int a[3]; int i;
--   for (i = 0; i < 3; i++) { a[i] = k + i; cpc_yield(); }
--   cpc_print(a[0] * 100 + a[1] * 10 + a[2]); }
-- int main(void){ cpc_spawn f(1); cpc_spawn f(4); return 0; }
abbrev pub two_arrays : Program
two_arrays = ((FunctionItem (record { mode = Cps; called = (codes "f"); result = TyVoid; parameters = (record { called = Some (codes "k"); type = (TyInt Int) } ∷ []); body = (Block (AndStmt (Declare (codes "a") (TyArray (TyInt Int) 3) None) (AndStmt (Declare (codes "i") (TyInt Int) None) (AndStmt (For (AndStmt (Assign (ENamed (codes "i")) None (EInteger Int (pos 0))) NoStmt) (Some (EBinary Lt (ENamed (codes "i")) (EInteger Int (pos 3)))) (Present (Assign (ENamed (codes "i")) (Some Add) (EInteger Int (pos 1)))) (Block (AndStmt (Assign (EIndex (ENamed (codes "a")) (ENamed (codes "i"))) None (EBinary Add (ENamed (codes "k")) (ENamed (codes "i")))) (AndStmt (Call None (ENamed (codes "cpc_yield")) NoExpr) NoStmt)))) (AndStmt (Call None (ENamed (codes "cpc_print")) (AndExpr (EBinary Add (EBinary Add (EBinary Mul (EIndex (ENamed (codes "a")) (EInteger Int (pos 0))) (EInteger Int (pos 100))) (EBinary Mul (EIndex (ENamed (codes "a")) (EInteger Int (pos 1))) (EInteger Int (pos 10)))) (EIndex (ENamed (codes "a")) (EInteger Int (pos 2)))) NoExpr)) NoStmt))))) })) ∷ (FunctionItem (record { mode = Native; called = (codes "main"); result = (TyInt Int); parameters = ([]); body = (Block (AndStmt (Spawn (codes "f") (AndExpr (EInteger Int (pos 1)) NoExpr)) (AndStmt (Spawn (codes "f") (AndExpr (EInteger Int (pos 4)) NoExpr)) (AndStmt (Return (Some (EInteger Int (pos 0)))) NoStmt)))) })) ∷ [])

-- arrays live across waits
pub each_call_has_its_own_array : RunsTo two_arrays no_polls 150 (codes "123\n456\n") (Ended 0)
unfolding digits settle divided
each_call_has_its_own_array = record { output = refl; outcome = refl }

-- a list that is made, summed and freed
-- struct n { int v; struct n *next; };
-- int main(void){ struct n *l; struct n *m; int i; int s;
--   l = 0; s = 0;
--   for (i = 1; i < 4; i++) { m = malloc(sizeof(struct n)); m->v = i; m->next = l; l = m; }
--   while (l != 0) { s = 10 * s + l->v; m = l; l = l->next; free(m); }
--   cpc_print(s); free(l); return 0; }
abbrev pub list_on_the_heap : Program
list_on_the_heap = ((StructItem (codes "n") (record { called = (codes "v"); type = (TyInt Int) } ∷ record { called = (codes "next"); type = (TyPointer (TyStruct (codes "n"))) } ∷ [])) ∷ (FunctionItem (record { mode = Native; called = (codes "main"); result = (TyInt Int); parameters = ([]); body = (Block (AndStmt (Declare (codes "l") (TyPointer (TyStruct (codes "n"))) None) (AndStmt (Declare (codes "m") (TyPointer (TyStruct (codes "n"))) None) (AndStmt (Declare (codes "i") (TyInt Int) None) (AndStmt (Declare (codes "s") (TyInt Int) None) (AndStmt (Assign (ENamed (codes "l")) None (EInteger Int (pos 0))) (AndStmt (Assign (ENamed (codes "s")) None (EInteger Int (pos 0))) (AndStmt (For (AndStmt (Assign (ENamed (codes "i")) None (EInteger Int (pos 1))) NoStmt) (Some (EBinary Lt (ENamed (codes "i")) (EInteger Int (pos 4)))) (Present (Assign (ENamed (codes "i")) (Some Add) (EInteger Int (pos 1)))) (Block (AndStmt (Call (Some (ENamed (codes "m"))) (ENamed (codes "malloc")) (AndExpr (ESizeOf (TyStruct (codes "n"))) NoExpr)) (AndStmt (Assign (EArrow (ENamed (codes "m")) (codes "v")) None (ENamed (codes "i"))) (AndStmt (Assign (EArrow (ENamed (codes "m")) (codes "next")) None (ENamed (codes "l"))) (AndStmt (Assign (ENamed (codes "l")) None (ENamed (codes "m"))) NoStmt)))))) (AndStmt (While (EBinary Ne (ENamed (codes "l")) (EInteger Int (pos 0))) (Block (AndStmt (Assign (ENamed (codes "s")) None (EBinary Add (EBinary Mul (EInteger Int (pos 10)) (ENamed (codes "s"))) (EArrow (ENamed (codes "l")) (codes "v")))) (AndStmt (Assign (ENamed (codes "m")) None (ENamed (codes "l"))) (AndStmt (Assign (ENamed (codes "l")) None (EArrow (ENamed (codes "l")) (codes "next"))) (AndStmt (Call None (ENamed (codes "free")) (AndExpr (ENamed (codes "m")) NoExpr)) NoStmt)))))) (AndStmt (Call None (ENamed (codes "cpc_print")) (AndExpr (ENamed (codes "s")) NoExpr)) (AndStmt (Call None (ENamed (codes "free")) (AndExpr (ENamed (codes "l")) NoExpr)) (AndStmt (Return (Some (EInteger Int (pos 0)))) NoStmt)))))))))))) })) ∷ [])

-- a heap block is a struct once its cells are written; null is freed to no effect
pub blocks_come_from_the_heap : RunsTo list_on_the_heap no_polls 150 (codes "321\n") (Ended 0)
unfolding digits settle divided
blocks_come_from_the_heap = record { output = refl; outcome = refl }

-- globals with and without a value
-- int a; long b = -5; char c = 'x'; char s[4] = "hi"; int *p; int (*f)(void); unsigned char u = 300;
-- int main(void){ cpc_print(a); cpc_print(b); cpc_putc(c); cpc_print(s[1]); cpc_print(s[3]); cpc_print(p == 0); cpc_print(f == 0); cpc_print(u); return 0; }
abbrev pub starting_globals : Program
starting_globals = ((GlobalItem (codes "a") (TyInt Int) None) ∷ (GlobalItem (codes "b") (TyInt Long) (Some (EUnary Minus (EInteger Int (pos 5))))) ∷ (GlobalItem (codes "c") (TyInt Char) (Some (ECharacter (pos 120)))) ∷ (GlobalItem (codes "s") (TyArray (TyInt Char) 4) (Some (EText (104 ∷ 105 ∷ [])))) ∷ (GlobalItem (codes "p") (TyPointer (TyInt Int)) None) ∷ (GlobalItem (codes "f") (TyCode (TyInt Int) NoTy) None) ∷ (GlobalItem (codes "u") (TyInt UChar) (Some (EInteger Int (pos 300)))) ∷ (FunctionItem (record { mode = Native; called = (codes "main"); result = (TyInt Int); parameters = ([]); body = (Block (AndStmt (Call None (ENamed (codes "cpc_print")) (AndExpr (ENamed (codes "a")) NoExpr)) (AndStmt (Call None (ENamed (codes "cpc_print")) (AndExpr (ENamed (codes "b")) NoExpr)) (AndStmt (Call None (ENamed (codes "cpc_putc")) (AndExpr (ENamed (codes "c")) NoExpr)) (AndStmt (Call None (ENamed (codes "cpc_print")) (AndExpr (EIndex (ENamed (codes "s")) (EInteger Int (pos 1))) NoExpr)) (AndStmt (Call None (ENamed (codes "cpc_print")) (AndExpr (EIndex (ENamed (codes "s")) (EInteger Int (pos 3))) NoExpr)) (AndStmt (Call None (ENamed (codes "cpc_print")) (AndExpr (EBinary Eq (ENamed (codes "p")) (EInteger Int (pos 0))) NoExpr)) (AndStmt (Call None (ENamed (codes "cpc_print")) (AndExpr (EBinary Eq (ENamed (codes "f")) (EInteger Int (pos 0))) NoExpr)) (AndStmt (Call None (ENamed (codes "cpc_print")) (AndExpr (ENamed (codes "u")) NoExpr)) (AndStmt (Return (Some (EInteger Int (pos 0)))) NoStmt)))))))))) })) ∷ [])

-- a global without a value is 0 or null
pub globals_begin_with_a_value : RunsTo starting_globals no_polls 40 (codes "0\n-5\nx105\n0\n1\n1\n44\n") (Ended 0)
unfolding digits settle divided
globals_begin_with_a_value = record { output = refl; outcome = refl }

-- pointers that are compared
-- int a[3]; int b;
-- int main(void){ int *p; int *q; p = &a[0]; q = a + 2;
--   cpc_print(q - p); cpc_print(p < q); cpc_print(p == a); cpc_print(&b != p); cpc_print(p != 0); return 0; }
abbrev pub same_block : Program
same_block = ((GlobalItem (codes "a") (TyArray (TyInt Int) 3) None) ∷ (GlobalItem (codes "b") (TyInt Int) None) ∷ (FunctionItem (record { mode = Native; called = (codes "main"); result = (TyInt Int); parameters = ([]); body = (Block (AndStmt (Declare (codes "p") (TyPointer (TyInt Int)) None) (AndStmt (Declare (codes "q") (TyPointer (TyInt Int)) None) (AndStmt (Assign (ENamed (codes "p")) None (EUnary AddressOf (EIndex (ENamed (codes "a")) (EInteger Int (pos 0))))) (AndStmt (Assign (ENamed (codes "q")) None (EBinary Add (ENamed (codes "a")) (EInteger Int (pos 2)))) (AndStmt (Call None (ENamed (codes "cpc_print")) (AndExpr (EBinary Sub (ENamed (codes "q")) (ENamed (codes "p"))) NoExpr)) (AndStmt (Call None (ENamed (codes "cpc_print")) (AndExpr (EBinary Lt (ENamed (codes "p")) (ENamed (codes "q"))) NoExpr)) (AndStmt (Call None (ENamed (codes "cpc_print")) (AndExpr (EBinary Eq (ENamed (codes "p")) (ENamed (codes "a"))) NoExpr)) (AndStmt (Call None (ENamed (codes "cpc_print")) (AndExpr (EBinary Ne (EUnary AddressOf (ENamed (codes "b"))) (ENamed (codes "p"))) NoExpr)) (AndStmt (Call None (ENamed (codes "cpc_print")) (AndExpr (EBinary Ne (ENamed (codes "p")) (EInteger Int (pos 0))) NoExpr)) (AndStmt (Return (Some (EInteger Int (pos 0)))) NoStmt))))))))))) })) ∷ [])

-- and identity never faults
pub pointers_of_one_block_have_an_order : RunsTo same_block no_polls 40 (codes "2\n1\n1\n1\n1\n") (Ended 0)
unfolding digits settle divided
pointers_of_one_block_have_an_order = record { output = refl; outcome = refl }
