-- The print of an expression fits the tokens that it was read from: no parenthesis of it can be dropped.
use Rattle.std.proofs.Common.{◌≡◌, ℕ, suc, ◌≤◌, Bool, true, false, nat_lt, List, [], ◌∷◌, ◌++◌, Option, Some, None, refl, subst, arith}
use Rattle.std.proofs.lemmas.Bool.Decides.{nat_tests}
use Rattle.cpc_base.specs.declared.stop.Dialect.{Dialect}
use Rattle.cpc_tree.specs.declared.program.UnaryOp.{UnaryOp}
use Rattle.cpc_tree.specs.declared.token.Punctuator.{Punctuator}
use Rattle.cpc_tree.specs.declared.token.Punctuator.TheVariants as P
use Rattle.cpc_tree.specs.Tokens.{Lexeme, Mark, Placed}
use Rattle.cpc_tree.specs.Syntax.{Expr, ENamed, EInteger, ECharacter, EText, EUnary, EBinary, EAnd, EOr, EChoose, ECast, ESizeOf, EIndex, EMember, EArrow, ECall}
use Rattle.cpc_tree.specs.Located.{LExpr, LExprs, AndLExpr, bare_expr, bare_exprs}
use Rattle.cpc_tree.specs.ExprGrammar.{Rank, Primary, Postfix, Unary, Tier, Whole, Operator, operator, unary_operator, Reads, a_name, an_integer, a_character, a_text, parens, a_primary, indexed, called, member, arrow, a_postfix, signed, size, a_unary, cast, an_operand, applied, unchosen, chosen, ReadsArgs, no_args, last_arg, more_args}
use Rattle.cpc_tree.specs.ExprPrint.{level, tier_below, unary_mark, round, expr_row, args_row}
use Rattle.cpc_printer_laws.proofs.ExprRows.{operated, operated_bare}
use Rattle.cpc_printer_laws.proofs.LeastExpressions.{lower}
use Rattle.cpc_printer_laws.proofs.Fitting.{Within, Fits, same, chain, dropped_after, dropped_token, spelled_parts, at, at_none, at_both, at_token, lefts_both}
use Rattle.cpc_printer_laws.proofs.FitTypes.{type_fits}

-- an expression is printed in one way, in parentheses or not
abbrev Rounded : Bool → Expr → Type 0
Rounded tight v = (l : ℕ) × (f : List Lexeme) × ((k : Rank) → expr_row tight k v ≡ round (nat_lt (level k) l) f)

never : (k : ℕ) (f : List Lexeme) → f ≡ round (nat_lt k 0) f
never k f = let no : nat_lt k 0 ≡ false = grind (arith, nat_tests) in rw no refl

rounded : (tight : Bool) (v : Expr) → Rounded tight v
unfolding expr_row
rounded tight (ENamed x) = (0, _, λ k. never (level k) _)
rounded tight (EInteger kind z) = (0, _, λ k. never (level k) _)
rounded tight (ECharacter z) = (0, _, λ k. never (level k) _)
rounded tight (EText bytes) = (0, _, λ k. never (level k) _)
rounded tight (EUnary op v) = (2, _, λ k. refl)
rounded tight (EBinary op v w) = (level (Tier (suc (tier_below op))), _, λ k. refl)
rounded tight (EAnd v w) = (12, _, λ k. refl)
rounded tight (EOr v w) = (13, _, λ k. refl)
rounded tight (EChoose c v w) = (14, _, λ k. refl)
rounded tight (ECast t v) = (3, _, λ k. refl)
rounded tight (ESizeOf t) = (2, _, λ k. refl)
rounded tight (EIndex v w) = (1, _, λ k. refl)
rounded tight (EMember v x) = (1, _, λ k. refl)
rounded tight (EArrow v x) = (1, _, λ k. refl)
rounded tight (ECall v vs) = (1, _, λ k. refl)

-- where more may stand no more parentheses are needed, and one pair is always enough
eased : (d : Dialect) (b c : Bool) (f : List Lexeme) → (c ≡ true → b ≡ true) → Within d (round b f) (round c f)
eased d true true f e = same
eased d true false f e = record { fewer = omega (arith, lefts_both f (Mark P.RightParen ∷ [])); spelled = λ s. (spelled_parts d f (Mark P.RightParen ∷ []) s.1).0 }
eased d false true f e = absurd (let n : false ≡ true = e refl in cc)
eased d false false f e = same

paired : (d : Dialect) (b c : Bool) (f : List Lexeme) → Within d (Mark P.LeftParen ∷ (round b f ++ Mark P.RightParen ∷ [])) (round c f)
paired d true true f = record { fewer = omega (arith, lefts_both (Mark P.LeftParen ∷ (f ++ Mark P.RightParen ∷ [])) (Mark P.RightParen ∷ [])); spelled = λ s. (spelled_parts d (Mark P.LeftParen ∷ (f ++ Mark P.RightParen ∷ [])) (Mark P.RightParen ∷ []) s.1).0 }
paired d false true f = same
paired d false false f = eased d true false f (λ n. absurd cc)
paired d true false f = chain (dropped_token (dropped_after (Mark P.RightParen ∷ []) same)) (eased d true false f (λ n. absurd cc))

pub higher_fits : (d : Dialect) (tight : Bool) (v : Expr) (j k : Rank) → level j ≤ level k → Within d (expr_row tight j v) (expr_row tight k v)
higher_fits d tight v j k le = let (l, f, e) = rounded tight v in rw (e j, e k) (eased d (nat_lt (level j) l) (nat_lt (level k) l) f (lower (level j) (level k) l le))

pair_fits : (d : Dialect) (tight : Bool) (v : Expr) (j k : Rank) → Within d (Mark P.LeftParen ∷ (expr_row tight j v ++ Mark P.RightParen ∷ [])) (expr_row tight k v)
pair_fits d tight v j k = let (l, f, e) = rounded tight v in rw (e j, e k) (paired d (nat_lt (level j) l) (nat_lt (level k) l) f)

-- an operation is printed by the mark that it is read by
abbrev RowOf : Punctuator → Option (ℕ × Operator) → Type 0
RowOf p (Some (suc n, op)) = (tight : Bool) (v w : Expr) → expr_row tight (Tier (suc n)) (operated op v w) ≡ expr_row tight (Tier (suc n)) v ++ Mark p ∷ expr_row tight (Tier n) w
RowOf p x = Unit {0}

row_of : (p : Punctuator) → RowOf p (operator p)
unfolding expr_row
row_of P.Star = λ tight v w. refl
row_of P.Slash = λ tight v w. refl
row_of P.Percent = λ tight v w. refl
row_of P.Plus = λ tight v w. refl
row_of P.Minus = λ tight v w. refl
row_of P.ShiftLeft = λ tight v w. refl
row_of P.ShiftRight = λ tight v w. refl
row_of P.Less = λ tight v w. refl
row_of P.LessEqual = λ tight v w. refl
row_of P.Greater = λ tight v w. refl
row_of P.GreaterEqual = λ tight v w. refl
row_of P.EqualEqual = λ tight v w. refl
row_of P.NotEqual = λ tight v w. refl
row_of P.Ampersand = λ tight v w. refl
row_of P.Caret = λ tight v w. refl
row_of P.Bar = λ tight v w. refl
row_of P.AndAnd = λ tight v w. refl
row_of P.OrOr = λ tight v w. refl
row_of p = tt

applied_row : (p : Punctuator) (n : ℕ) (op : Operator) → operator p ≡ Some (suc n, op) → (tight : Bool) (v w : Expr) → expr_row tight (Tier (suc n)) (operated op v w) ≡ expr_row tight (Tier (suc n)) v ++ Mark p ∷ expr_row tight (Tier n) w
applied_row p n op e = subst (RowOf p) e (row_of p)

abbrev MarkIs : Punctuator → Option UnaryOp → Type 0
MarkIs p (Some op) = unary_mark op ≡ p
MarkIs p None = Unit {0}

unary_is : (p : Punctuator) → MarkIs p (unary_operator p)
unary_is P.Minus = refl
unary_is P.Plus = refl
unary_is P.Exclamation = refl
unary_is P.Tilde = refl
unary_is P.Star = refl
unary_is P.Ampersand = refl
unary_is p = tt

mutual
  unfolding expr_row args_row

  pub expr_fits : (d : Dialect) (tight : Bool) (k : Rank) (f : List Placed) (v : LExpr) (h : ℕ) → Reads k f v h → Fits d f (expr_row tight k (bare_expr v))
  expr_fits d tight k f v h (a_name x) = at_token at_none
  expr_fits d tight k f v h (an_integer q kind z) = at_token at_none
  expr_fits d tight k f v h (a_character q z) = at_token at_none
  expr_fits d tight k f v h (a_text q bytes) = at_token at_none
  expr_fits d tight k f v h (parens g q p w j r) = at (at_token (at_both (expr_fits d tight Whole g w j r) (at_token at_none))) (pair_fits d tight (bare_expr w) Whole Primary)
  expr_fits d tight k f v h (a_primary g w j r) = at (expr_fits d tight Primary g w j r) (higher_fits d tight (bare_expr w) Primary Postfix (omega arith))
  expr_fits d tight k f v h (indexed g l q p u w i j r s) = at_both (expr_fits d tight Postfix g u i r) (at_token (at_both (expr_fits d tight Whole l w j s) (at_token at_none)))
  expr_fits d tight k f v h (called g l q p u vs i j r s) = at_both (expr_fits d tight Postfix g u i r) (at_token (at_both (args_fit d tight l vs j s) (at_token at_none)))
  expr_fits d tight k f v h (member g q u x j r) = at_both (expr_fits d tight Postfix g u j r) (at_token (at_token at_none))
  expr_fits d tight k f v h (arrow g q u x j r) = at_both (expr_fits d tight Postfix g u j r) (at_token (at_token at_none))
  expr_fits d tight k f v h (a_postfix g u j r) = at (expr_fits d tight Postfix g u j r) (higher_fits d tight (bare_expr u) Postfix Unary (omega arith))
  expr_fits d tight k f v h (signed g q p op u j e r) = rw (subst (MarkIs p) e (unary_is p)) (at_token (expr_fits d tight (Tier 0) g u j r))
  expr_fits d tight k f v h (size g q o p t j r) = at_token (at_token (at_both (type_fits d tight g t j r) (at_token at_none)))
  expr_fits d tight k f v h (a_unary g u j r) = at (expr_fits d tight Unary g u j r) (higher_fits d tight (bare_expr u) Unary (Tier 0) (omega arith))
  expr_fits d tight k f v h (cast g l q p t u i j r s) = at_token (at_both (type_fits d tight g t i r) (at_token (expr_fits d tight (Tier 0) l u j s)))
  expr_fits d tight k f v h (an_operand n g u j r) = at (expr_fits d tight (Tier n) g u j r) (higher_fits d tight (bare_expr u) (Tier n) (Tier (suc n)) (omega arith))
  expr_fits d tight k f v h (applied n g l q p op u w i j r e s) =
      rw (operated_bare q op u w, applied_row p n op e tight (bare_expr u) (bare_expr w)) (at_both (expr_fits d tight (Tier (suc n)) g u i r) (at_token (expr_fits d tight (Tier n) l w j s)))
  expr_fits d tight k f v h (unchosen g u j r) = at (expr_fits d tight (Tier 10) g u j r) (higher_fits d tight (bare_expr u) (Tier 10) Whole (omega arith))
  expr_fits d tight k f v h (chosen g l m q p c u w i j o r s t) =
      at_both (expr_fits d tight (Tier 10) g c i r) (at_token (at_both (expr_fits d tight Whole l u j s) (at_token (expr_fits d tight Whole m w o t))))

  pub args_fit : (d : Dialect) (tight : Bool) (f : List Placed) (vs : LExprs) (h : ℕ) → ReadsArgs f vs h → Fits d f (args_row tight (bare_exprs vs))
  args_fit d tight f vs h no_args = at_none
  args_fit d tight f vs h (last_arg g v j r) = expr_fits d tight Whole g v j r
  args_fit d tight f vs h (more_args g l q v w us i j r s) = at_both (expr_fits d tight Whole g v i r) (at_token (args_fit d tight l (AndLExpr w us) j s))
