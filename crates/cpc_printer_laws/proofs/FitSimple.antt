-- The print of a simple statement fits the tokens that it was read from.
use Rattle.std.proofs.Common.{◌≡◌, ℕ, Bool, List, [], ◌∷◌, ◌++◌, Option, Some, None, option_map, pos, refl, sym, subst, ap, arith}
use Rattle.std.proofs.lemmas.Int.{ints}
use Rattle.cpc_base.specs.declared.stop.Dialect.{Dialect}
use Rattle.cpc_base.specs.declared.stop.Place.{Place}
use Rattle.cpc_num.specs.declared.kinds.Kind.TheVariants as N
use Rattle.cpc_num.specs.declared.kinds.Op.{Op}
use Rattle.cpc_num.specs.declared.kinds.Op.TheVariants as O
use Rattle.cpc_tree.specs.declared.token.Punctuator.{Punctuator}
use Rattle.cpc_tree.specs.declared.token.Punctuator.TheVariants as P
use Rattle.cpc_tree.specs.Tokens.{Lexeme, Mark, Number, Placed}
use Rattle.cpc_tree.specs.Syntax.{Expr}
use Rattle.cpc_tree.specs.Located.{Ident, LExpr, LExprs, LStmt, bare_expr, bare_exprs, bare_stmt}
use Rattle.cpc_tree.specs.TypeGrammar.{mark}
use Rattle.cpc_tree.specs.ExprGrammar.{Postfix, Unary, Whole}
use Rattle.cpc_tree.specs.ExprPrint.{expr_row}
use Rattle.cpc_tree.specs.StmtGrammar as G
use Rattle.cpc_tree.specs.StmtGrammar.{assigning, begin, ReadsCall, call_alone, call_in_parens, ReadsSection, section, ReadsRight, a_value, a_call, a_section, ReadsSimple, assigned, updated, stepped_behind, stepped_before, performed, detached, ReadsMaybe, no_value, some_value}
use Rattle.cpc_tree.specs.StmtPrint.{assigning_mark, mark_row, call_row, section_row, maybe_row, simple_row}
use Rattle.cpc_printer_laws.proofs.StmtRows.{Right, Value, Calls, Section, bare_right, given, given_bare}
use Rattle.cpc_printer_laws.proofs.Fitting.{Fits, Free, free_nothing, free_token, free_both, at, at_none, at_free, at_both, at_token, at_drop, at_first, at_added}
use Rattle.cpc_printer_laws.proofs.FitExpressions.{expr_fits, args_fit, higher_fits}

pub call_fits : (d : Dialect) (tight : Bool) (f : List Placed) (v : LExpr) (vs : LExprs) (h : ℕ) → ReadsCall f v vs h → Fits d f (call_row tight (bare_expr v) (bare_exprs vs))
call_fits d tight f v vs h (call_alone g l q r u us i j s t) = at_both (expr_fits d tight Postfix g u i s) (at_token (at_both (args_fit d tight l us j t) (at_token at_none)))
call_fits d tight f v vs h (call_in_parens g q r u us i s) = at_drop (at_first _ (call_fits d tight g u us i s))

pub section_fits : (d : Dialect) (tight : Bool) (f : List Placed) (q : Place) (x : Ident) (vs : LExprs) (h : ℕ) → ReadsSection f q x vs h → Fits d f (section_row tight x.text (bare_exprs vs))
section_fits d tight f q x vs h (section g p r s y us i t) = at_token (at_token (at_token (at_both (args_fit d tight g us i t) (at_token at_none))))

-- how what stands behind = is printed
abbrev pub right_row : Bool → Right → List Lexeme
right_row tight (Value v) = expr_row tight Whole v
right_row tight (Calls v vs) = call_row tight v vs
right_row tight (Section x vs) = section_row tight x vs

pub right_fits : (d : Dialect) (tight : Bool) (f : List Placed) (r : G.Right) (h : ℕ) → ReadsRight f r h → Fits d f (right_row tight (bare_right r))
right_fits d tight f r h (a_value g v i s e) = expr_fits d tight Whole g v i s
right_fits d tight f r h (a_call g v vs i s) = call_fits d tight g v vs i s
right_fits d tight f r h (a_section g q x vs i s) = section_fits d tight g q x vs i s

given_row : (tight : Bool) (v : Expr) (r : Right) → simple_row tight (given v r) ≡ expr_row tight Unary v ++ Mark P.Equal ∷ right_row tight r
given_row tight v (Value w) = refl
given_row tight v (Calls u us) = refl
given_row tight v (Section x us) = refl

-- the mark of an operator is that which it is read by
abbrev MarkIs : Punctuator → Option Op → Type 0
MarkIs p (Some op) = assigning_mark op ≡ Some p
MarkIs p None = Unit {0}

assigning_is : (p : Punctuator) → MarkIs p (assigning p)
assigning_is P.PlusEqual = refl
assigning_is P.MinusEqual = refl
assigning_is P.StarEqual = refl
assigning_is P.SlashEqual = refl
assigning_is P.PercentEqual = refl
assigning_is P.AmpersandEqual = refl
assigning_is P.BarEqual = refl
assigning_is P.CaretEqual = refl
assigning_is P.ShiftLeftEqual = refl
assigning_is P.ShiftRightEqual = refl
assigning_is p = tt

updated_row : (f g : List Lexeme) (o : Option Punctuator) (p : Punctuator) → o ≡ Some p → f ++ (mark_row o ++ g) ≡ f ++ Mark p ∷ g
updated_row f g o p e = ap (λ o. f ++ (mark_row o ++ g)) e

marks_free : (d : Dialect) (op : Op) → Free d (mark_row (assigning_mark op))
marks_free d O.Add = free_token refl tt free_nothing
marks_free d O.Sub = free_token refl tt free_nothing
marks_free d O.Mul = free_token refl tt free_nothing
marks_free d O.Div = free_token refl tt free_nothing
marks_free d O.Rem = free_token refl tt free_nothing
marks_free d O.BitAnd = free_token refl tt free_nothing
marks_free d O.BitOr = free_token refl tt free_nothing
marks_free d O.BitXor = free_token refl tt free_nothing
marks_free d O.Shl = free_token refl tt free_nothing
marks_free d O.Shr = free_token refl tt free_nothing
marks_free d op = free_nothing

-- what a step by one is printed as, behind its place
step_free : (d : Dialect) (op : Op) → Free d (mark_row (assigning_mark op) ++ Number N.Int (pos 1) ∷ [])
step_free d op = free_both (marks_free d op) (free_token refl (tt, grind (arith, ints)) free_nothing)

pub simple_fits : (d : Dialect) (tight : Bool) (f : List Placed) (s : LStmt) (h : ℕ) → ReadsSimple f s h → Fits d f (simple_row tight (bare_stmt s))
unfolding expr_row
simple_fits d tight f s h (assigned g l q v r i j x y) =
    rw (given_bare (begin g) q v r, given_row tight (bare_expr v) (bare_right r)) (at_both (expr_fits d tight Unary g v i x) (at_token (right_fits d tight l r j y)))
simple_fits d tight f s h (updated g l q p op v w i j x e y) =
    subst (Fits d (g ++ mark q p ∷ l)) (sym (updated_row (expr_row tight Unary (bare_expr v)) (expr_row tight Whole (bare_expr w)) (assigning_mark op) p (subst (MarkIs p) e (assigning_is p))))
    (at_both (expr_fits d tight Unary g v i x) (at_token (expr_fits d tight Whole l w j y)))
simple_fits d tight f s h (stepped_behind g q p op v i x e) = at_both (at (expr_fits d tight Postfix g v i x) (higher_fits d tight (bare_expr v) Postfix Unary (omega arith))) (at_free (step_free d op))
simple_fits d tight f s h (stepped_before g q p op v i e x) = at_drop (at_added (expr_fits d tight Unary g v i x) (step_free d op))
simple_fits d tight f s h (performed g l q r v vs i j x y) = at_both (expr_fits d tight Postfix g v i x) (at_token (at_both (args_fit d tight l vs j y) (at_token at_none)))
simple_fits d tight f s h (detached g q x vs i y) = section_fits d tight g q x vs i y

pub maybe_fits : (d : Dialect) (tight : Bool) (f : List Placed) (o : Option LExpr) (h : ℕ) → ReadsMaybe f o h → Fits d f (maybe_row tight (option_map bare_expr o))
maybe_fits d tight f o h no_value = at_none
maybe_fits d tight f o h (some_value g v i r) = expr_fits d tight Whole g v i r
