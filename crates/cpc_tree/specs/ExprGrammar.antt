-- How expressions are written (C11 6.5): which rows of tokens are which expressions, and how deep they nest.
-- Each expression counts one, and so does each pair of parentheses round one, which leaves no other trace.
use Rattle.std.specs.Prelude.{◌≡◌, ℕ, suc, ◌+◌, List, [], ◌∷◌, ◌++◌, Option, Some, None, max, ℤ}
use Rattle.cpc_base.specs.Bytes.{Text}
use Rattle.cpc_base.specs.declared.stop.Place.{Place}
use Rattle.cpc_num.specs.declared.kinds.Kind.{Kind}
use Rattle.cpc_num.specs.declared.kinds.Op.{Op}
use Rattle.cpc_num.specs.declared.kinds.Op.TheVariants as O
use Rattle.cpc_tree.specs.declared.program.UnaryOp.{UnaryOp}
use Rattle.cpc_tree.specs.declared.program.UnaryOp.TheVariants as U
use Rattle.cpc_tree.specs.declared.token.Keyword.TheVariants as K
use Rattle.cpc_tree.specs.declared.token.Punctuator.{Punctuator}
use Rattle.cpc_tree.specs.declared.token.Punctuator.TheVariants as P
use Rattle.cpc_tree.specs.Tokens.{Character, Quoted, Placed}
use Rattle.cpc_tree.specs.Syntax.{Ty}
use Rattle.cpc_tree.specs.Located.{Ident, LExpr, LNamed, LInteger, LCharacter, LText, LUnary, LBinary, LAnd, LOr, LChoose, LCast, LSizeOf, LIndex, LMember, LArrow, LCall, LExprs, NoLExpr, AndLExpr}
use Rattle.cpc_tree.specs.TypeGrammar.{word, mark, named, number, ReadsTypeName}

-- what stands between two operands
pub data Operator : Type 0 where
  Binary : Op → Operator
  And : Operator
  Or : Operator

-- the expression of two operands
abbrev pub operated : Place → Operator → LExpr → LExpr → LExpr
operated q (Binary op) v w = LBinary q op v w
operated q And v w = LAnd q v w
operated q Or v w = LOr q v w

-- How closely an expression binds. The operands of a tier are of the tier below it; the operands of the first are casts.
pub data Rank : Type 0 where
  Primary : Rank
  Postfix : Rank
  Unary : Rank
  Tier : ℕ → Rank
  Whole : Rank

-- the operator of a mark, and its tier (C11 6.5.5 to 6.5.14)
abbrev pub operator : Punctuator → Option (ℕ × Operator)
operator P.Star = Some (1, Binary O.Mul)
operator P.Slash = Some (1, Binary O.Div)
operator P.Percent = Some (1, Binary O.Rem)
operator P.Plus = Some (2, Binary O.Add)
operator P.Minus = Some (2, Binary O.Sub)
operator P.ShiftLeft = Some (3, Binary O.Shl)
operator P.ShiftRight = Some (3, Binary O.Shr)
operator P.Less = Some (4, Binary O.Lt)
operator P.LessEqual = Some (4, Binary O.Le)
operator P.Greater = Some (4, Binary O.Gt)
operator P.GreaterEqual = Some (4, Binary O.Ge)
operator P.EqualEqual = Some (5, Binary O.Eq)
operator P.NotEqual = Some (5, Binary O.Ne)
operator P.Ampersand = Some (6, Binary O.BitAnd)
operator P.Caret = Some (7, Binary O.BitXor)
operator P.Bar = Some (8, Binary O.BitOr)
operator P.AndAnd = Some (9, And)
operator P.OrOr = Some (10, Or)
operator p = None

-- the tier of the expressions with all operators
abbrev pub top_tier : ℕ
top_tier = 10

-- the operator of a mark before an operand (C11 6.5.3)
abbrev pub unary_operator : Punctuator → Option UnaryOp
unary_operator P.Minus = Some U.Minus
unary_operator P.Plus = Some U.Plus
unary_operator P.Exclamation = Some U.Not
unary_operator P.Tilde = Some U.Complement
unary_operator P.Star = Some U.Dereference
unary_operator P.Ampersand = Some U.AddressOf
unary_operator p = None

-- literals where they stand
abbrev pub character : Place → ℤ → Placed
character q z = record { place = q; lexeme = Character z }

abbrev pub quoted : Place → Text → Placed
quoted q bytes = record { place = q; lexeme = Quoted bytes }

mutual
  -- the tokens are an expression of the rank
  pub data Reads : Rank → List Placed → LExpr → ℕ → Type 0 where
    a_name : (x : Ident) → Reads Primary (named x ∷ []) (LNamed x) 1
    an_integer : (q : Place) (kind : Kind) (z : ℤ) → Reads Primary (number q kind z ∷ []) (LInteger q kind z) 1
    a_character : (q : Place) (z : ℤ) → Reads Primary (character q z ∷ []) (LCharacter q z) 1
    a_text : (q : Place) (bytes : Text) → Reads Primary (quoted q bytes ∷ []) (LText q bytes) 1
    parens : (f : List Placed) (q r : Place) (v : LExpr) (h : ℕ) → Reads Whole f v h → Reads Primary (mark q P.LeftParen ∷ (f ++ mark r P.RightParen ∷ [])) v (h + 1)
    a_primary : (f : List Placed) (v : LExpr) (h : ℕ) → Reads Primary f v h → Reads Postfix f v h
    indexed : (f g : List Placed) (q r : Place) (v w : LExpr) (h j : ℕ) → Reads Postfix f v h → Reads Whole g w j
        → Reads Postfix (f ++ mark q P.LeftBracket ∷ (g ++ mark r P.RightBracket ∷ [])) (LIndex q v w) (max h j + 1)
    called : (f g : List Placed) (q r : Place) (v : LExpr) (vs : LExprs) (h j : ℕ) → Reads Postfix f v h → ReadsArgs g vs j
        → Reads Postfix (f ++ mark q P.LeftParen ∷ (g ++ mark r P.RightParen ∷ [])) (LCall q v vs) (max h j + 1)
    member : (f : List Placed) (q : Place) (v : LExpr) (x : Ident) (h : ℕ) → Reads Postfix f v h → Reads Postfix (f ++ mark q P.Dot ∷ named x ∷ []) (LMember q v x) (h + 1)
    arrow : (f : List Placed) (q : Place) (v : LExpr) (x : Ident) (h : ℕ) → Reads Postfix f v h → Reads Postfix (f ++ mark q P.Arrow ∷ named x ∷ []) (LArrow q v x) (h + 1)
    a_postfix : (f : List Placed) (v : LExpr) (h : ℕ) → Reads Postfix f v h → Reads Unary f v h
    signed : (f : List Placed) (q : Place) (p : Punctuator) (op : UnaryOp) (v : LExpr) (h : ℕ) → unary_operator p ≡ Some op → Reads (Tier 0) f v h → Reads Unary (mark q p ∷ f) (LUnary q op v) (h + 1)
    size : (f : List Placed) (q r s : Place) (t : Ty) (h : ℕ) → ReadsTypeName f t h → Reads Unary (word q K.Sizeof ∷ mark r P.LeftParen ∷ (f ++ mark s P.RightParen ∷ [])) (LSizeOf q t) (h + 1)
    a_unary : (f : List Placed) (v : LExpr) (h : ℕ) → Reads Unary f v h → Reads (Tier 0) f v h
    cast : (f g : List Placed) (q r : Place) (t : Ty) (v : LExpr) (h j : ℕ) → ReadsTypeName f t h → Reads (Tier 0) g v j
        → Reads (Tier 0) (mark q P.LeftParen ∷ (f ++ mark r P.RightParen ∷ g)) (LCast q t v) (max h j + 1)
    an_operand : (n : ℕ) (f : List Placed) (v : LExpr) (h : ℕ) → Reads (Tier n) f v h → Reads (Tier (suc n)) f v h
    applied : (n : ℕ) (f g : List Placed) (q : Place) (p : Punctuator) (op : Operator) (v w : LExpr) (h j : ℕ) → Reads (Tier (suc n)) f v h → operator p ≡ Some (suc n, op) → Reads (Tier n) g w j
        → Reads (Tier (suc n)) (f ++ mark q p ∷ g) (operated q op v w) (max h j + 1)
    unchosen : (f : List Placed) (v : LExpr) (h : ℕ) → Reads (Tier top_tier) f v h → Reads Whole f v h
    chosen : (f g k : List Placed) (q r : Place) (c v w : LExpr) (h i j : ℕ) → Reads (Tier top_tier) f c h → Reads Whole g v i → Reads Whole k w j
        → Reads Whole (f ++ mark q P.Question ∷ (g ++ mark r P.Colon ∷ k)) (LChoose q c v w) (max h (max i j) + 1)

  -- what stands between the brackets of a call: its parentheses are round no expression
  pub data ReadsArgs : List Placed → LExprs → ℕ → Type 0 where
    no_args : ReadsArgs [] NoLExpr 0
    last_arg : (f : List Placed) (v : LExpr) (h : ℕ) → Reads Whole f v h → ReadsArgs f (AndLExpr v NoLExpr) h
    more_args : (f g : List Placed) (q : Place) (v w : LExpr) (vs : LExprs) (h j : ℕ) → Reads Whole f v h → ReadsArgs g (AndLExpr w vs) j
        → ReadsArgs (f ++ mark q P.Comma ∷ g) (AndLExpr v (AndLExpr w vs)) (max h j)
