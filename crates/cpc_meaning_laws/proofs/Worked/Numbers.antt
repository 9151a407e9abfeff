-- Whole numbers of six kinds.
use Rattle.std.specs.Prelude.{[], ◌∷◌, pos, Some, None, codes, refl}
use Rattle.std.specs.Fmt.{digits}
use Rattle.cpc_num.specs.Number.{settle, divided, shift_left, shift_right}
use Rattle.cpc_num.specs.declared.kinds.Kind.TheVariants.{Char, UChar, Int, UInt, Long}
use Rattle.cpc_num.specs.declared.kinds.Op.TheVariants.{Div, Rem, Add, Sub, Shl, Shr, Lt, BitAnd, BitXor, BitOr}
use Rattle.cpc_num.specs.declared.kinds.Fault.TheVariants as F
use Rattle.cpc_tree.specs.declared.program.UnaryOp.TheVariants.{Minus, Not, Complement}
use Rattle.cpc_tree.specs.declared.program.Mode.TheVariants.{Native}
use Rattle.cpc_tree.specs.Syntax.{TyInt, ENamed, EInteger, EUnary, EBinary, EAnd, EOr, EChoose, ECast, NoExpr, AndExpr, Block, Declare, Assign, Call, Return, NoStmt, AndStmt, FunctionItem, Program}
use Rattle.cpc_tree.specs.Trace.{Ended, Failed}
use Rattle.cpc_meaning_laws.specs.Worked.Shown.{RunsTo, no_polls}

-- a sum of two ints past the greatest
-- int main(void){ int x; x = 2147483647; cpc_print(x + 1); return 0; }
abbrev pub int_overflow : Program
int_overflow = ((FunctionItem (record { mode = Native; called = (codes "main"); result = (TyInt Int); parameters = ([]); body = (Block (AndStmt (Declare (codes "x") (TyInt Int) None) (AndStmt (Assign (ENamed (codes "x")) None (EInteger Int (pos 2147483647))) (AndStmt (Call None (ENamed (codes "cpc_print")) (AndExpr (EBinary Add (ENamed (codes "x")) (EInteger Int (pos 1))) NoExpr)) (AndStmt (Return (Some (EInteger Int (pos 0)))) NoStmt))))) })) ∷ [])

-- it is a fault
pub a_signed_sum_does_not_wrap : RunsTo int_overflow no_polls 20 (codes "") (Failed F.Overflow (codes "main"))
unfolding digits settle divided
a_signed_sum_does_not_wrap = record { output = refl; outcome = refl }

-- the same of an unsigned
-- int main(void){ unsigned x; x = 2147483647; cpc_print(x + 1); return 0; }
abbrev pub unsigned_sum : Program
unsigned_sum = ((FunctionItem (record { mode = Native; called = (codes "main"); result = (TyInt Int); parameters = ([]); body = (Block (AndStmt (Declare (codes "x") (TyInt UInt) None) (AndStmt (Assign (ENamed (codes "x")) None (EInteger Int (pos 2147483647))) (AndStmt (Call None (ENamed (codes "cpc_print")) (AndExpr (EBinary Add (ENamed (codes "x")) (EInteger Int (pos 1))) NoExpr)) (AndStmt (Return (Some (EInteger Int (pos 0)))) NoStmt))))) })) ∷ [])

-- the common type of an unsigned and an int is unsigned
pub an_unsigned_sum_has_more_room : RunsTo unsigned_sum no_polls 20 (codes "2147483648\n") (Ended 0)
unfolding digits settle divided
an_unsigned_sum_has_more_room = record { output = refl; outcome = refl }

-- the least int divided by -1
-- int main(void){ int x; x = -2147483647 - 1; cpc_print(x / -1); return 0; }
abbrev pub least_by_minus_one : Program
least_by_minus_one = ((FunctionItem (record { mode = Native; called = (codes "main"); result = (TyInt Int); parameters = ([]); body = (Block (AndStmt (Declare (codes "x") (TyInt Int) None) (AndStmt (Assign (ENamed (codes "x")) None (EBinary Sub (EUnary Minus (EInteger Int (pos 2147483647))) (EInteger Int (pos 1)))) (AndStmt (Call None (ENamed (codes "cpc_print")) (AndExpr (EBinary Div (ENamed (codes "x")) (EUnary Minus (EInteger Int (pos 1)))) NoExpr)) (AndStmt (Return (Some (EInteger Int (pos 0)))) NoStmt))))) })) ∷ [])

-- it is a fault
pub the_least_int_has_no_negative : RunsTo least_by_minus_one no_polls 20 (codes "") (Failed F.Overflow (codes "main"))
unfolding digits settle divided
the_least_int_has_no_negative = record { output = refl; outcome = refl }

-- numbers that are converted
-- int main(void){ char c; unsigned char u; unsigned w; long l;
--   c = 200; cpc_print(c); u = -1; cpc_print(u); w = -1; cpc_print(w); l = w; cpc_print(l + 1);
--   cpc_print((char) 384); cpc_print(-1 < 1u); cpc_print(c + u); return 0; }
abbrev pub conversions : Program
conversions = ((FunctionItem (record { mode = Native; called = (codes "main"); result = (TyInt Int); parameters = ([]); body = (Block (AndStmt (Declare (codes "c") (TyInt Char) None) (AndStmt (Declare (codes "u") (TyInt UChar) None) (AndStmt (Declare (codes "w") (TyInt UInt) None) (AndStmt (Declare (codes "l") (TyInt Long) None) (AndStmt (Assign (ENamed (codes "c")) None (EInteger Int (pos 200))) (AndStmt (Call None (ENamed (codes "cpc_print")) (AndExpr (ENamed (codes "c")) NoExpr)) (AndStmt (Assign (ENamed (codes "u")) None (EUnary Minus (EInteger Int (pos 1)))) (AndStmt (Call None (ENamed (codes "cpc_print")) (AndExpr (ENamed (codes "u")) NoExpr)) (AndStmt (Assign (ENamed (codes "w")) None (EUnary Minus (EInteger Int (pos 1)))) (AndStmt (Call None (ENamed (codes "cpc_print")) (AndExpr (ENamed (codes "w")) NoExpr)) (AndStmt (Assign (ENamed (codes "l")) None (ENamed (codes "w"))) (AndStmt (Call None (ENamed (codes "cpc_print")) (AndExpr (EBinary Add (ENamed (codes "l")) (EInteger Int (pos 1))) NoExpr)) (AndStmt (Call None (ENamed (codes "cpc_print")) (AndExpr (ECast (TyInt Char) (EInteger Int (pos 384))) NoExpr)) (AndStmt (Call None (ENamed (codes "cpc_print")) (AndExpr (EBinary Lt (EUnary Minus (EInteger Int (pos 1))) (EInteger UInt (pos 1))) NoExpr)) (AndStmt (Call None (ENamed (codes "cpc_print")) (AndExpr (EBinary Add (ENamed (codes "c")) (ENamed (codes "u"))) NoExpr)) (AndStmt (Return (Some (EInteger Int (pos 0)))) NoStmt))))))))))))))))) })) ∷ [])

-- conversion is modulo two to the width
pub conversion_keeps_the_low_bits : RunsTo conversions no_polls 40 (codes "-56\n255\n4294967295\n4294967296\n-128\n0\n199\n") (Ended 0)
unfolding digits settle divided
conversion_keeps_the_low_bits = record { output = refl; outcome = refl }

-- divisions, remainders and shifts of negative numbers
-- int main(void){ int a; a = -7; cpc_print(a / 2); cpc_print(a % 2); cpc_print(a >> 1); cpc_print(a << 2); cpc_print(~a); cpc_print(-a);
--   cpc_print(a & 15); cpc_print(7 ^ 2); cpc_print(8 | 1); return 0; }
abbrev pub divisions : Program
divisions = ((FunctionItem (record { mode = Native; called = (codes "main"); result = (TyInt Int); parameters = ([]); body = (Block (AndStmt (Declare (codes "a") (TyInt Int) None) (AndStmt (Assign (ENamed (codes "a")) None (EUnary Minus (EInteger Int (pos 7)))) (AndStmt (Call None (ENamed (codes "cpc_print")) (AndExpr (EBinary Div (ENamed (codes "a")) (EInteger Int (pos 2))) NoExpr)) (AndStmt (Call None (ENamed (codes "cpc_print")) (AndExpr (EBinary Rem (ENamed (codes "a")) (EInteger Int (pos 2))) NoExpr)) (AndStmt (Call None (ENamed (codes "cpc_print")) (AndExpr (EBinary Shr (ENamed (codes "a")) (EInteger Int (pos 1))) NoExpr)) (AndStmt (Call None (ENamed (codes "cpc_print")) (AndExpr (EBinary Shl (ENamed (codes "a")) (EInteger Int (pos 2))) NoExpr)) (AndStmt (Call None (ENamed (codes "cpc_print")) (AndExpr (EUnary Complement (ENamed (codes "a"))) NoExpr)) (AndStmt (Call None (ENamed (codes "cpc_print")) (AndExpr (EUnary Minus (ENamed (codes "a"))) NoExpr)) (AndStmt (Call None (ENamed (codes "cpc_print")) (AndExpr (EBinary BitAnd (ENamed (codes "a")) (EInteger Int (pos 15))) NoExpr)) (AndStmt (Call None (ENamed (codes "cpc_print")) (AndExpr (EBinary BitXor (EInteger Int (pos 7)) (EInteger Int (pos 2))) NoExpr)) (AndStmt (Call None (ENamed (codes "cpc_print")) (AndExpr (EBinary BitOr (EInteger Int (pos 8)) (EInteger Int (pos 1))) NoExpr)) (AndStmt (Return (Some (EInteger Int (pos 0)))) NoStmt))))))))))))) })) ∷ [])

-- towards zero, and to the floor
pub division_truncates_and_a_right_shift_does_not : RunsTo divisions no_polls 40 (codes "-3\n-1\n-4\n-28\n6\n7\n9\n5\n9\n") (Ended 0)
unfolding digits settle divided shift_left shift_right
division_truncates_and_a_right_shift_does_not = record { output = refl; outcome = refl }

-- tests of which the second is not made
-- int main(void){ int z; z = 0; cpc_print(z && 1 / z); cpc_print(1 || 1 / z); cpc_print(z ? 1 / z : 4); cpc_print(!z); return 0; }
abbrev pub short_circuits : Program
short_circuits = ((FunctionItem (record { mode = Native; called = (codes "main"); result = (TyInt Int); parameters = ([]); body = (Block (AndStmt (Declare (codes "z") (TyInt Int) None) (AndStmt (Assign (ENamed (codes "z")) None (EInteger Int (pos 0))) (AndStmt (Call None (ENamed (codes "cpc_print")) (AndExpr (EAnd (ENamed (codes "z")) (EBinary Div (EInteger Int (pos 1)) (ENamed (codes "z")))) NoExpr)) (AndStmt (Call None (ENamed (codes "cpc_print")) (AndExpr (EOr (EInteger Int (pos 1)) (EBinary Div (EInteger Int (pos 1)) (ENamed (codes "z")))) NoExpr)) (AndStmt (Call None (ENamed (codes "cpc_print")) (AndExpr (EChoose (ENamed (codes "z")) (EBinary Div (EInteger Int (pos 1)) (ENamed (codes "z"))) (EInteger Int (pos 4))) NoExpr)) (AndStmt (Call None (ENamed (codes "cpc_print")) (AndExpr (EUnary Not (ENamed (codes "z"))) NoExpr)) (AndStmt (Return (Some (EInteger Int (pos 0)))) NoStmt)))))))) })) ∷ [])

-- as in C
pub the_second_operand_may_not_be_evaluated : RunsTo short_circuits no_polls 30 (codes "0\n1\n4\n1\n") (Ended 0)
unfolding digits settle divided
the_second_operand_may_not_be_evaluated = record { output = refl; outcome = refl }
