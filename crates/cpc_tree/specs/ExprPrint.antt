-- How expressions are printed: parentheses stand exactly where an expression binds less closely than its place asks.
use Rattle.std.specs.Prelude.{ℕ, suc, ◌+◌, Bool, true, false, List, [], ◌∷◌, ◌++◌, max, nat_lt}
use Rattle.cpc_num.specs.declared.kinds.Op.{Op}
use Rattle.cpc_num.specs.declared.kinds.Op.TheVariants as O
use Rattle.cpc_tree.specs.declared.program.UnaryOp.{UnaryOp}
use Rattle.cpc_tree.specs.declared.program.UnaryOp.TheVariants as U
use Rattle.cpc_tree.specs.declared.token.Keyword.TheVariants as K
use Rattle.cpc_tree.specs.declared.token.Punctuator.{Punctuator}
use Rattle.cpc_tree.specs.declared.token.Punctuator.TheVariants as P
use Rattle.cpc_tree.specs.Tokens.{Lexeme, Word, Mark, Named, Number, Character, Quoted}
use Rattle.cpc_tree.specs.Syntax.{Expr, ENamed, EInteger, ECharacter, EText, EUnary, EBinary, EAnd, EOr, EChoose, ECast, ESizeOf, EIndex, EMember, EArrow, ECall, Exprs, NoExpr, AndExpr}
use Rattle.cpc_tree.specs.ExprGrammar.{Rank, Primary, Postfix, Unary, Tier, Whole, top_tier}
use Rattle.cpc_tree.specs.TypePrint.{type_row, declarator_depth, PrintableType}

-- ranks in order, the closest first
abbrev pub level : Rank → ℕ
level Primary = 0
level Postfix = 1
level Unary = 2
level (Tier n) = 3 + n
level Whole = 14

-- the tier of an operator's right operand; its own is the next
abbrev pub tier_below : Op → ℕ
tier_below O.Mul = 0
tier_below O.Div = 0
tier_below O.Rem = 0
tier_below O.Add = 1
tier_below O.Sub = 1
tier_below O.Shl = 2
tier_below O.Shr = 2
tier_below O.Lt = 3
tier_below O.Le = 3
tier_below O.Gt = 3
tier_below O.Ge = 3
tier_below O.Eq = 4
tier_below O.Ne = 4
tier_below O.BitAnd = 5
tier_below O.BitXor = 6
tier_below O.BitOr = 7

abbrev pub mark_of : Op → Punctuator
mark_of O.Mul = P.Star
mark_of O.Div = P.Slash
mark_of O.Rem = P.Percent
mark_of O.Add = P.Plus
mark_of O.Sub = P.Minus
mark_of O.Shl = P.ShiftLeft
mark_of O.Shr = P.ShiftRight
mark_of O.Lt = P.Less
mark_of O.Le = P.LessEqual
mark_of O.Gt = P.Greater
mark_of O.Ge = P.GreaterEqual
mark_of O.Eq = P.EqualEqual
mark_of O.Ne = P.NotEqual
mark_of O.BitAnd = P.Ampersand
mark_of O.BitXor = P.Caret
mark_of O.BitOr = P.Bar

abbrev pub unary_mark : UnaryOp → Punctuator
unary_mark U.Minus = P.Minus
unary_mark U.Plus = P.Plus
unary_mark U.Not = P.Exclamation
unary_mark U.Complement = P.Tilde
unary_mark U.Dereference = P.Star
unary_mark U.AddressOf = P.Ampersand

-- tokens in parentheses where they must be
abbrev pub round : Bool → List Lexeme → List Lexeme
round true f = Mark P.LeftParen ∷ (f ++ Mark P.RightParen ∷ [])
round false f = f

-- a pair of parentheses counts one
abbrev pub deeper_if : Bool → ℕ → ℕ
deeper_if true h = h + 1
deeper_if false h = h

-- an expression of the one rank stands where the other is asked for only in parentheses
abbrev pub is_loose : (asked has : Rank) → Bool
is_loose asked has = nat_lt (level asked) (level has)

unfoldable mutual
  -- the tokens of an expression where a rank is asked for
  pub expr_row : Bool → Rank → Expr → List Lexeme
  expr_row tight k (ENamed x) = Named x ∷ []
  expr_row tight k (EInteger kind z) = Number kind z ∷ []
  expr_row tight k (ECharacter z) = Character z ∷ []
  expr_row tight k (EText bytes) = Quoted bytes ∷ []
  expr_row tight k (EUnary op v) = round (is_loose k Unary) (Mark (unary_mark op) ∷ expr_row tight (Tier 0) v)
  expr_row tight k (EBinary op v w) = round (is_loose k (Tier (suc (tier_below op)))) (expr_row tight (Tier (suc (tier_below op))) v ++ Mark (mark_of op) ∷ expr_row tight (Tier (tier_below op)) w)
  expr_row tight k (EAnd v w) = round (is_loose k (Tier 9)) (expr_row tight (Tier 9) v ++ Mark P.AndAnd ∷ expr_row tight (Tier 8) w)
  expr_row tight k (EOr v w) = round (is_loose k (Tier 10)) (expr_row tight (Tier 10) v ++ Mark P.OrOr ∷ expr_row tight (Tier 9) w)
  expr_row tight k (EChoose c v w) = round (is_loose k Whole) (expr_row tight (Tier top_tier) c ++ Mark P.Question ∷ (expr_row tight Whole v ++ Mark P.Colon ∷ expr_row tight Whole w))
  expr_row tight k (ECast t v) = round (is_loose k (Tier 0)) (Mark P.LeftParen ∷ (type_row tight t ++ Mark P.RightParen ∷ expr_row tight (Tier 0) v))
  expr_row tight k (ESizeOf t) = round (is_loose k Unary) (Word K.Sizeof ∷ Mark P.LeftParen ∷ (type_row tight t ++ Mark P.RightParen ∷ []))
  expr_row tight k (EIndex v w) = round (is_loose k Postfix) (expr_row tight Postfix v ++ Mark P.LeftBracket ∷ (expr_row tight Whole w ++ Mark P.RightBracket ∷ []))
  expr_row tight k (EMember v x) = round (is_loose k Postfix) (expr_row tight Postfix v ++ Mark P.Dot ∷ Named x ∷ [])
  expr_row tight k (EArrow v x) = round (is_loose k Postfix) (expr_row tight Postfix v ++ Mark P.Arrow ∷ Named x ∷ [])
  expr_row tight k (ECall v vs) = round (is_loose k Postfix) (expr_row tight Postfix v ++ Mark P.LeftParen ∷ (args_row tight vs ++ Mark P.RightParen ∷ []))

  -- expressions with commas between them
  pub args_row : Bool → Exprs → List Lexeme
  args_row tight NoExpr = []
  args_row tight (AndExpr v NoExpr) = expr_row tight Whole v
  args_row tight (AndExpr v (AndExpr w vs)) = expr_row tight Whole v ++ Mark P.Comma ∷ args_row tight (AndExpr w vs)

unfoldable mutual
  -- how deep these tokens nest
  pub expr_depth : Bool → Rank → Expr → ℕ
  expr_depth tight k (ENamed x) = 1
  expr_depth tight k (EInteger kind z) = 1
  expr_depth tight k (ECharacter z) = 1
  expr_depth tight k (EText bytes) = 1
  expr_depth tight k (EUnary op v) = deeper_if (is_loose k Unary) (expr_depth tight (Tier 0) v + 1)
  expr_depth tight k (EBinary op v w) = deeper_if (is_loose k (Tier (suc (tier_below op)))) (max (expr_depth tight (Tier (suc (tier_below op))) v) (expr_depth tight (Tier (tier_below op)) w) + 1)
  expr_depth tight k (EAnd v w) = deeper_if (is_loose k (Tier 9)) (max (expr_depth tight (Tier 9) v) (expr_depth tight (Tier 8) w) + 1)
  expr_depth tight k (EOr v w) = deeper_if (is_loose k (Tier 10)) (max (expr_depth tight (Tier 10) v) (expr_depth tight (Tier 9) w) + 1)
  expr_depth tight k (EChoose c v w) = deeper_if (is_loose k Whole) (max (expr_depth tight (Tier top_tier) c) (max (expr_depth tight Whole v) (expr_depth tight Whole w)) + 1)
  expr_depth tight k (ECast t v) = deeper_if (is_loose k (Tier 0)) (max (declarator_depth tight t) (expr_depth tight (Tier 0) v) + 1)
  expr_depth tight k (ESizeOf t) = deeper_if (is_loose k Unary) (declarator_depth tight t + 1)
  expr_depth tight k (EIndex v w) = deeper_if (is_loose k Postfix) (max (expr_depth tight Postfix v) (expr_depth tight Whole w) + 1)
  expr_depth tight k (EMember v x) = deeper_if (is_loose k Postfix) (expr_depth tight Postfix v + 1)
  expr_depth tight k (EArrow v x) = deeper_if (is_loose k Postfix) (expr_depth tight Postfix v + 1)
  expr_depth tight k (ECall v vs) = deeper_if (is_loose k Postfix) (max (expr_depth tight Postfix v) (args_depth tight vs) + 1)

  pub args_depth : Bool → Exprs → ℕ
  args_depth tight NoExpr = 0
  args_depth tight (AndExpr v NoExpr) = expr_depth tight Whole v
  args_depth tight (AndExpr v (AndExpr w vs)) = max (expr_depth tight Whole v) (args_depth tight (AndExpr w vs))

unfoldable mutual
  -- the types in an expression can be printed; nothing else is asked of it
  pub PrintableExpr : Expr → Type 0
  PrintableExpr (ENamed x) = Unit {0}
  PrintableExpr (EInteger kind z) = Unit {0}
  PrintableExpr (ECharacter z) = Unit {0}
  PrintableExpr (EText bytes) = Unit {0}
  PrintableExpr (EUnary op v) = PrintableExpr v
  PrintableExpr (EBinary op v w) = PrintableExpr v × PrintableExpr w
  PrintableExpr (EAnd v w) = PrintableExpr v × PrintableExpr w
  PrintableExpr (EOr v w) = PrintableExpr v × PrintableExpr w
  PrintableExpr (EChoose c v w) = PrintableExpr c × PrintableExpr v × PrintableExpr w
  PrintableExpr (ECast t v) = PrintableType t × PrintableExpr v
  PrintableExpr (ESizeOf t) = PrintableType t
  PrintableExpr (EIndex v w) = PrintableExpr v × PrintableExpr w
  PrintableExpr (EMember v x) = PrintableExpr v
  PrintableExpr (EArrow v x) = PrintableExpr v
  PrintableExpr (ECall v vs) = PrintableExpr v × PrintableExprs vs

  pub PrintableExprs : Exprs → Type 0
  PrintableExprs NoExpr = Unit {0}
  PrintableExprs (AndExpr v vs) = PrintableExpr v × PrintableExprs vs
