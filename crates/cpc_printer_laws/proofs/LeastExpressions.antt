-- An expression that is read can be printed, and in the tight style it nests no deeper than it was read.
use Rattle.std.proofs.Common.{◌≡◌, ℕ, suc, ◌+◌, ◌≤◌, Bool, true, false, List, Option, Some, max, refl, subst, arith, nat_lt}
use Rattle.std.proofs.lemmas.Bool.Decides.{nat_tests}
use Rattle.cpc_tree.specs.declared.token.Punctuator.{Punctuator}
use Rattle.cpc_tree.specs.declared.token.Punctuator.TheVariants as P
use Rattle.cpc_tree.specs.Tokens.{Placed}
use Rattle.cpc_tree.specs.Syntax.{Expr, ENamed, EInteger, ECharacter, EText, EUnary, EBinary, EAnd, EOr, EChoose, ECast, ESizeOf, EIndex, EMember, EArrow, ECall}
use Rattle.cpc_tree.specs.ExprGrammar.{Rank, Primary, Postfix, Unary, Tier, Whole, Operator, Binary, And, Or, operator, Reads, a_name, an_integer, a_character, a_text, parens, a_primary, indexed, called, member, arrow, a_postfix, signed, size, a_unary, cast, an_operand, applied, unchosen, chosen, ReadsArgs, no_args, last_arg, more_args}
use Rattle.cpc_tree.specs.ExprPrint.{level, tier_below, deeper_if, expr_depth, args_depth, PrintableExpr, PrintableExprs}
use Rattle.cpc_tree.specs.Located.{LExpr, LExprs, AndLExpr, bare_expr, bare_exprs}
use Rattle.cpc_printer_laws.proofs.ExprRows.{operated, operated_bare}
use Rattle.cpc_printer_laws.proofs.LeastTypes.{type_least}

-- where more may stand no more parentheses are needed, and one pair is always enough
eased : (b c : Bool) (h : ℕ) → (c ≡ true → b ≡ true) → deeper_if c h ≤ deeper_if b h
eased true false h e = omega arith
eased false false h e = omega arith
eased true true h e = omega arith
eased false true h e = absurd (let d : false ≡ true = e refl in cc)

once : (b c : Bool) (h : ℕ) → deeper_if b h ≤ deeper_if c h + 1
once true true h = omega arith
once true false h = omega arith
once false true h = omega arith
once false false h = omega arith

pub lower : (j k l : ℕ) → j ≤ k → nat_lt k l ≡ true → nat_lt j l ≡ true
lower j k l le e = grind (arith, nat_tests)

-- an expression nests in one way, in parentheses or not
abbrev Rounded : Bool → Expr → Type 0
Rounded tight v = (l h : ℕ) × ((k : Rank) → expr_depth tight k v ≡ deeper_if (nat_lt (level k) l) h)

never : (k h : ℕ) → h ≡ deeper_if (nat_lt k 0) h
never k h = let no : nat_lt k 0 ≡ false = grind (arith, nat_tests) in rw no refl

rounded : (tight : Bool) (v : Expr) → Rounded tight v
unfolding expr_depth
rounded tight (ENamed x) = (0, 1, λ k. never (level k) 1)
rounded tight (EInteger kind z) = (0, 1, λ k. never (level k) 1)
rounded tight (ECharacter z) = (0, 1, λ k. never (level k) 1)
rounded tight (EText bytes) = (0, 1, λ k. never (level k) 1)
rounded tight (EUnary op v) = (2, _, λ k. refl)
rounded tight (EBinary op v w) = (level (Tier (suc (tier_below op))), _, λ k. refl)
rounded tight (EAnd v w) = (12, _, λ k. refl)
rounded tight (EOr v w) = (13, _, λ k. refl)
rounded tight (EChoose c v w) = (14, _, λ k. refl)
rounded tight (ECast t v) = (3, _, λ k. refl)
rounded tight (ESizeOf t) = (2, _, λ k. refl)
rounded tight (EIndex v w) = (1, _, λ k. refl)
rounded tight (EMember v x) = (1, _, λ k. refl)
rounded tight (EArrow v x) = (1, _, λ k. refl)
rounded tight (ECall v vs) = (1, _, λ k. refl)

pub higher : (tight : Bool) (v : Expr) (j k : Rank) → level j ≤ level k → expr_depth tight k v ≤ expr_depth tight j v
higher tight v j k le = let (l, h, e) = rounded tight v in rw (e j, e k) (eased (nat_lt (level j) l) (nat_lt (level k) l) h (lower (level j) (level k) l le))

paired : (tight : Bool) (v : Expr) (j k : Rank) → expr_depth tight j v ≤ expr_depth tight k v + 1
paired tight v j k = let (l, h, e) = rounded tight v in rw (e j, e k) (once (nat_lt (level j) l) (nat_lt (level k) l) h)

-- the tier of a mark is that of its operator
abbrev DepthOf : Option (ℕ × Operator) → Type 0
DepthOf (Some (suc n, op)) = (tight : Bool) (v w : Expr) → expr_depth tight (Tier (suc n)) (operated op v w) ≡ max (expr_depth tight (Tier (suc n)) v) (expr_depth tight (Tier n) w) + 1
DepthOf x = Unit {0}

depth_of : (p : Punctuator) → DepthOf (operator p)
unfolding expr_depth
depth_of P.Star = λ tight v w. refl
depth_of P.Slash = λ tight v w. refl
depth_of P.Percent = λ tight v w. refl
depth_of P.Plus = λ tight v w. refl
depth_of P.Minus = λ tight v w. refl
depth_of P.ShiftLeft = λ tight v w. refl
depth_of P.ShiftRight = λ tight v w. refl
depth_of P.Less = λ tight v w. refl
depth_of P.LessEqual = λ tight v w. refl
depth_of P.Greater = λ tight v w. refl
depth_of P.GreaterEqual = λ tight v w. refl
depth_of P.EqualEqual = λ tight v w. refl
depth_of P.NotEqual = λ tight v w. refl
depth_of P.Ampersand = λ tight v w. refl
depth_of P.Caret = λ tight v w. refl
depth_of P.Bar = λ tight v w. refl
depth_of P.AndAnd = λ tight v w. refl
depth_of P.OrOr = λ tight v w. refl
depth_of p = tt

applied_depth : (p : Punctuator) (n : ℕ) (op : Operator) → operator p ≡ Some (suc n, op) → (tight : Bool) (v w : Expr) → expr_depth tight (Tier (suc n)) (operated op v w) ≡ max (expr_depth tight (Tier (suc n)) v) (expr_depth tight (Tier n) w) + 1
applied_depth p n op e = subst DepthOf e (depth_of p)

operated_printable : (op : Operator) (v w : Expr) → PrintableExpr v → PrintableExpr w → PrintableExpr (operated op v w)
unfolding PrintableExpr
operated_printable (Binary op) v w a b = (a, b)
operated_printable And v w a b = (a, b)
operated_printable Or v w a b = (a, b)

mutual
  unfolding expr_depth args_depth PrintableExpr PrintableExprs

  pub expr_least : (k : Rank) (f : List Placed) (v : LExpr) (h : ℕ) → Reads k f v h → PrintableExpr (bare_expr v) × (expr_depth true k (bare_expr v) ≤ h)
  expr_least k f v h (a_name x) = (tt, omega arith)
  expr_least k f v h (an_integer q kind z) = (tt, omega arith)
  expr_least k f v h (a_character q z) = (tt, omega arith)
  expr_least k f v h (a_text q bytes) = (tt, omega arith)
  expr_least k f v h (parens g q p w j r) = let (a, b) = expr_least Whole g w j r in (a, omega (arith, paired true (bare_expr w) Primary Whole))
  expr_least k f v h (a_primary g w j r) = let (a, b) = expr_least Primary g w j r in (a, omega (arith, higher true (bare_expr w) Primary Postfix (omega arith)))
  expr_least k f v h (indexed g l q p u w i j r s) = let (a, b) = expr_least Postfix g u i r in let (c, d) = expr_least Whole l w j s in ((a, c), omega arith)
  expr_least k f v h (called g l q p u vs i j r s) = let (a, b) = expr_least Postfix g u i r in let (c, d) = args_least l vs j s in ((a, c), omega arith)
  expr_least k f v h (member g q u x j r) = let (a, b) = expr_least Postfix g u j r in (a, omega arith)
  expr_least k f v h (arrow g q u x j r) = let (a, b) = expr_least Postfix g u j r in (a, omega arith)
  expr_least k f v h (a_postfix g u j r) = let (a, b) = expr_least Postfix g u j r in (a, omega (arith, higher true (bare_expr u) Postfix Unary (omega arith)))
  expr_least k f v h (signed g q p op u j e r) = let (a, b) = expr_least (Tier 0) g u j r in (a, omega arith)
  expr_least k f v h (size g q o p t j r) = let (a, b) = type_least g t j r in (a, omega arith)
  expr_least k f v h (a_unary g u j r) = let (a, b) = expr_least Unary g u j r in (a, omega (arith, higher true (bare_expr u) Unary (Tier 0) (omega arith)))
  expr_least k f v h (cast g l q p t u i j r s) = let (a, b) = type_least g t i r in let (c, d) = expr_least (Tier 0) l u j s in ((a, c), omega arith)
  expr_least k f v h (an_operand n g u j r) = let (a, b) = expr_least (Tier n) g u j r in (a, omega (arith, higher true (bare_expr u) (Tier n) (Tier (suc n)) (omega arith)))
  expr_least k f v h (applied n g l q p op u w i j r e s) =
      let (a, b) = expr_least (Tier (suc n)) g u i r in let (c, d) = expr_least (Tier n) l w j s in rw (operated_bare q op u w) (operated_printable op (bare_expr u) (bare_expr w) a c, omega (arith, applied_depth p n op e true (bare_expr u) (bare_expr w)))
  expr_least k f v h (unchosen g u j r) = let (a, b) = expr_least (Tier 10) g u j r in (a, omega (arith, higher true (bare_expr u) (Tier 10) Whole (omega arith)))
  expr_least k f v h (chosen g l m q p c u w i j o r s t) = let (a, b) = expr_least (Tier 10) g c i r in let (d, e) = expr_least Whole l u j s in let (x, y) = expr_least Whole m w o t in ((a, d, x), omega arith)

  pub args_least : (f : List Placed) (vs : LExprs) (h : ℕ) → ReadsArgs f vs h → PrintableExprs (bare_exprs vs) × (args_depth true (bare_exprs vs) ≤ h)
  args_least f vs h no_args = (tt, omega arith)
  args_least f vs h (last_arg g v j r) = let (a, b) = expr_least Whole g v j r in ((a, tt), omega arith)
  args_least f vs h (more_args g l q v w us i j r s) = let (a, b) = expr_least Whole g v i r in let (c, d) = args_least l (AndLExpr w us) j s in ((a, c), omega arith)
