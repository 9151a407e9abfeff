-- A simple statement that is read can be printed, and in the tight style it nests no deeper than it was read.
use Rattle.std.proofs.Common.{◌≡◌, ℕ, ◌+◌, ◌≤◌, Bool, true, false, List, Option, Some, None, option_map, max, pos, subst, arith}
use Rattle.cpc_base.specs.declared.stop.Place.{Place}
use Rattle.cpc_num.specs.declared.kinds.Kind.TheVariants as N
use Rattle.cpc_num.specs.declared.kinds.Op.{Op}
use Rattle.cpc_tree.specs.declared.token.Punctuator.{Punctuator}
use Rattle.cpc_tree.specs.declared.token.Punctuator.TheVariants as P
use Rattle.cpc_tree.specs.Tokens.{Placed}
use Rattle.cpc_tree.specs.Syntax.{Expr, ENamed, EInteger, ECharacter, EText, EUnary, EBinary, EAnd, EOr, EChoose, ECast, ESizeOf, EIndex, EMember, EArrow, ECall, Assign}
use Rattle.cpc_tree.specs.Located.{Ident, LExpr, LExprs, LStmt, bare_expr, bare_exprs, bare_stmt}
use Rattle.cpc_tree.specs.ExprGrammar.{Rank, Postfix, Unary, Tier, Whole}
use Rattle.cpc_tree.specs.StmtGrammar as G
use Rattle.cpc_tree.specs.StmtGrammar.{assigning, stepping, is_call, begin, ReadsCall, call_alone, call_in_parens, ReadsSection, section, ReadsRight, a_value, a_call, a_section, ReadsSimple, assigned, updated, stepped_behind, stepped_before, performed, detached, ReadsMaybe, no_value, some_value}
use Rattle.cpc_tree.specs.ExprPrint.{deeper_if, is_loose, expr_depth, args_depth, PrintableExpr, PrintableExprs}
use Rattle.cpc_tree.specs.StmtPrint.{assigning_mark, maybe_depth, simple_depth, HasMark, PrintableMaybe, PrintableSimple}
use Rattle.cpc_printer_laws.proofs.StmtRows.{Right, Value, Calls, Section, bare_right, given, given_bare}
use Rattle.cpc_printer_laws.proofs.LeastExpressions.{expr_least, args_least, higher}

-- an expression counts one at least
more_if : (b : Bool) (h : ℕ) → 1 ≤ deeper_if b (h + 1)
more_if true h = omega arith
more_if false h = omega arith

some_depth : (tight : Bool) (k : Rank) (v : Expr) → 1 ≤ expr_depth tight k v
unfolding expr_depth
some_depth tight k (ENamed x) = omega arith
some_depth tight k (EInteger kind z) = omega arith
some_depth tight k (ECharacter z) = omega arith
some_depth tight k (EText bytes) = omega arith
some_depth tight k (EUnary op v) = more_if (is_loose k Unary) _
some_depth tight k (EBinary op v w) = more_if _ _
some_depth tight k (EAnd v w) = more_if (is_loose k (Tier 9)) _
some_depth tight k (EOr v w) = more_if (is_loose k (Tier 10)) _
some_depth tight k (EChoose c v w) = more_if (is_loose k Whole) _
some_depth tight k (ECast t v) = more_if (is_loose k (Tier 0)) _
some_depth tight k (ESizeOf t) = more_if (is_loose k Unary) _
some_depth tight k (EIndex v w) = more_if (is_loose k Postfix) _
some_depth tight k (EMember v x) = more_if (is_loose k Postfix) _
some_depth tight k (EArrow v x) = more_if (is_loose k Postfix) _
some_depth tight k (ECall v vs) = more_if (is_loose k Postfix) _

pub call_least : (f : List Placed) (v : LExpr) (vs : LExprs) (h : ℕ) → ReadsCall f v vs h → PrintableExpr (bare_expr v) × PrintableExprs (bare_exprs vs) × (max (expr_depth true Postfix (bare_expr v)) (args_depth true (bare_exprs vs)) ≤ h)
call_least f v vs h (call_alone g l q r u us i j s t) = let (a, b) = expr_least Postfix g u i s in let (c, d) = args_least l us j t in (a, c, omega arith)
call_least f v vs h (call_in_parens g q r u us i s) = let (a, c, d) = call_least g u us i s in (a, c, omega arith)

pub section_least : (f : List Placed) (q : Place) (x : Ident) (vs : LExprs) (h : ℕ) → ReadsSection f q x vs h → PrintableExprs (bare_exprs vs) × (args_depth true (bare_exprs vs) ≤ h)
section_least f q x vs h (section g p r s y us i t) = args_least g us i t

-- what can stand behind = , and how deep it nests
abbrev pub PrintableRight : Right → Type 0
PrintableRight (Value v) = PrintableExpr v × (is_call v ≡ false)
PrintableRight (Calls v vs) = PrintableExpr v × PrintableExprs vs
PrintableRight (Section x vs) = PrintableExprs vs

abbrev pub right_depth : Right → ℕ
right_depth (Value v) = expr_depth true Whole v
right_depth (Calls v vs) = max (expr_depth true Postfix v) (args_depth true vs)
right_depth (Section x vs) = args_depth true vs

pub right_least : (f : List Placed) (r : G.Right) (h : ℕ) → ReadsRight f r h → PrintableRight (bare_right r) × (right_depth (bare_right r) ≤ h)
right_least f r h (a_value g v i s e) = let (a, b) = expr_least Whole g v i s in ((a, e), b)
right_least f r h (a_call g v vs i s) = let (a, b, c) = call_least g v vs i s in ((a, b), c)
right_least f r h (a_section g q x vs i s) = section_least g q x vs i s

given_least : (v : Expr) (r : Right) (h j : ℕ) → PrintableExpr v → expr_depth true Unary v ≤ h → PrintableRight r → right_depth r ≤ j → PrintableSimple (given v r) × (simple_depth true (given v r) ≤ max h j + 1)
given_least v (Value w) h j a b c d = ((a, c), omega arith)
given_least v (Calls u us) h j a b (c, e) d = ((a, c, e), omega arith)
given_least v (Section x us) h j a b c d = ((a, c), omega arith)

-- the operator of a mark has a mark
abbrev MarkOf : Option Op → Type 0
MarkOf None = Unit {0}
MarkOf (Some op) = HasMark (assigning_mark op)

assigning_marked : (p : Punctuator) → MarkOf (assigning p)
assigning_marked P.PlusEqual = tt
assigning_marked P.MinusEqual = tt
assigning_marked P.StarEqual = tt
assigning_marked P.SlashEqual = tt
assigning_marked P.PercentEqual = tt
assigning_marked P.AmpersandEqual = tt
assigning_marked P.BarEqual = tt
assigning_marked P.CaretEqual = tt
assigning_marked P.ShiftLeftEqual = tt
assigning_marked P.ShiftRightEqual = tt
assigning_marked p = tt

stepping_marked : (p : Punctuator) → MarkOf (stepping p)
stepping_marked P.Increment = tt
stepping_marked P.Decrement = tt
stepping_marked p = tt

-- a step by one
stepped_least : (v : Expr) (op : Op) (h : ℕ) → HasMark (assigning_mark op) → PrintableExpr v → expr_depth true Unary v ≤ h
    → PrintableSimple (Assign v (Some op) (EInteger N.Int (pos 1))) × (simple_depth true (Assign v (Some op) (EInteger N.Int (pos 1))) ≤ h + 1)
unfolding expr_depth PrintableExpr
stepped_least v op h m a b = ((a, (tt, m)), omega (arith, some_depth true Unary v))

pub simple_least : (f : List Placed) (s : LStmt) (h : ℕ) → ReadsSimple f s h → PrintableSimple (bare_stmt s) × (simple_depth true (bare_stmt s) ≤ h)
simple_least f s h (assigned g l q v r i j x y) =
    let (a, b) = expr_least Unary g v i x in let (c, d) = right_least l r j y in rw (given_bare (begin g) q v r) (given_least (bare_expr v) (bare_right r) i j a b c d)
simple_least f s h (updated g l q p op v w i j x e y) = let (a, b) = expr_least Unary g v i x in let (c, d) = expr_least Whole l w j y in ((a, (c, subst MarkOf e (assigning_marked p))), omega arith)
simple_least f s h (stepped_behind g q p op v i x e) = let (a, b) = expr_least Postfix g v i x in stepped_least (bare_expr v) op i (subst MarkOf e (stepping_marked p)) a (omega (arith, higher true (bare_expr v) Postfix Unary (omega arith)))
simple_least f s h (stepped_before g q p op v i e x) = let (a, b) = expr_least Unary g v i x in stepped_least (bare_expr v) op i (subst MarkOf e (stepping_marked p)) a b
simple_least f s h (performed g l q r v vs i j x y) = let (a, b) = expr_least Postfix g v i x in let (c, d) = args_least l vs j y in ((tt, a, c), omega arith)
simple_least f s h (detached g q x vs i y) = let (c, d) = section_least g q x vs i y in ((tt, c), omega arith)

pub maybe_least : (f : List Placed) (o : Option LExpr) (h : ℕ) → ReadsMaybe f o h → PrintableMaybe (option_map bare_expr o) × (maybe_depth true (option_map bare_expr o) ≤ h)
maybe_least f o h no_value = (tt, omega arith)
maybe_least f o h (some_value g v i r) = expr_least Whole g v i r
