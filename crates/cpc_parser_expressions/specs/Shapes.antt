-- What can be read where a whole call is taken apart: a call counts nothing in the nesting until more is put round it.
use Rattle.std.specs.Prelude.{◌≡◌, ℕ, suc, ◌+◌, false, List, [], ◌∷◌, ◌++◌, Some, max, ◌⊎◌}
use Rattle.cpc_base.specs.declared.stop.Place.{Place}
use Rattle.cpc_tree.specs.declared.program.UnaryOp.{UnaryOp}
use Rattle.cpc_tree.specs.declared.token.Keyword.TheVariants as K
use Rattle.cpc_tree.specs.declared.token.Punctuator.{Punctuator}
use Rattle.cpc_tree.specs.declared.token.Punctuator.TheVariants as P
use Rattle.cpc_tree.specs.Tokens.{Placed}
use Rattle.cpc_tree.specs.Syntax.{Ty}
use Rattle.cpc_tree.specs.Located.{LExpr, LUnary, LCast, LSizeOf, LChoose, LCall, LExprs, bare_expr}
use Rattle.cpc_tree.specs.TypeGrammar.{word, mark, ReadsTypeName}
use Rattle.cpc_tree.specs.ExprGrammar.{Rank, Primary, Postfix, Unary, Tier, Whole, top_tier, Operator, operated, operator, unary_operator, Reads, ReadsArgs}
use Rattle.cpc_tree.specs.StmtGrammar.{is_call}

-- which calls are taken apart: none, one that is the whole, or one that is the whole in any parentheses
pub data Apart : Type 0 where
  Never : Apart
  Bare : Apart
  Bracketed : Apart

-- What has been read: a call taken apart, with the place of its bracket, a postfix expression or another one.
pub data Shape : Type 0 where
  Calling : Place → LExpr → LExprs → Shape
  Postfixed : LExpr → Shape
  Other : LExpr → Shape

-- the expression
abbrev pub whole : Shape → LExpr
whole (Calling q v vs) = LCall q v vs
whole (Postfixed v) = v
whole (Other v) = v

-- how much the expression counts more than what has been read
abbrev pub extra : Shape → ℕ
extra (Calling q v vs) = 1
extra (Postfixed v) = 0
extra (Other v) = 0

-- a call whose bracket stands at the place, in no parentheses
pub data ReadsCalling : List Placed → Place → LExpr → LExprs → ℕ → Type 0 where
  calling : (f g : List Placed) (q r : Place) (v : LExpr) (vs : LExprs) (h j : ℕ) → Reads Postfix f v h → ReadsArgs g vs j
      → ReadsCalling (f ++ mark q P.LeftParen ∷ (g ++ mark r P.RightParen ∷ [])) q v vs (max h j)

-- the same in any parentheses, each pair of which counts one
pub data ReadsEnclosed : List Placed → Place → LExpr → LExprs → ℕ → Type 0 where
  open_call : (f : List Placed) (q : Place) (v : LExpr) (vs : LExprs) (h : ℕ) → ReadsCalling f q v vs h → ReadsEnclosed f q v vs h
  in_parens : (f : List Placed) (o q r : Place) (v : LExpr) (vs : LExprs) (h : ℕ) → ReadsEnclosed f q v vs h → ReadsEnclosed (mark o P.LeftParen ∷ (f ++ mark r P.RightParen ∷ [])) q v vs (h + 1)

-- an expression of the rank that is no postfix expression
pub data ReadsOther : Rank → List Placed → LExpr → ℕ → Type 0 where
  signed : (f : List Placed) (q : Place) (p : Punctuator) (op : UnaryOp) (v : LExpr) (h : ℕ) → unary_operator p ≡ Some op → Reads (Tier 0) f v h → ReadsOther Unary (mark q p ∷ f) (LUnary q op v) (h + 1)
  size : (f : List Placed) (q r s : Place) (t : Ty) (h : ℕ) → ReadsTypeName f t h → ReadsOther Unary (word q K.Sizeof ∷ mark r P.LeftParen ∷ (f ++ mark s P.RightParen ∷ [])) (LSizeOf q t) (h + 1)
  a_unary : (f : List Placed) (v : LExpr) (h : ℕ) → ReadsOther Unary f v h → ReadsOther (Tier 0) f v h
  cast : (f g : List Placed) (q r : Place) (t : Ty) (v : LExpr) (h j : ℕ) → ReadsTypeName f t h → Reads (Tier 0) g v j
      → ReadsOther (Tier 0) (mark q P.LeftParen ∷ (f ++ mark r P.RightParen ∷ g)) (LCast q t v) (max h j + 1)
  an_operand : (n : ℕ) (f : List Placed) (v : LExpr) (h : ℕ) → ReadsOther (Tier n) f v h → ReadsOther (Tier (suc n)) f v h
  applied : (n : ℕ) (f g : List Placed) (q : Place) (p : Punctuator) (op : Operator) (v w : LExpr) (h j : ℕ) → Reads (Tier (suc n)) f v h → operator p ≡ Some (suc n, op) → Reads (Tier n) g w j
      → ReadsOther (Tier (suc n)) (f ++ mark q p ∷ g) (operated q op v w) (max h j + 1)
  unchosen : (f : List Placed) (v : LExpr) (h : ℕ) → ReadsOther (Tier top_tier) f v h → ReadsOther Whole f v h
  chosen : (f g k : List Placed) (q r : Place) (c v w : LExpr) (h i j : ℕ) → Reads (Tier top_tier) f c h → Reads Whole g v i → Reads Whole k w j
      → ReadsOther Whole (f ++ mark q P.Question ∷ (g ++ mark r P.Colon ∷ k)) (LChoose q c v w) (max h (max i j) + 1)

-- what is left of postfix expressions where calls are taken apart
abbrev pub Kept : Apart → List Placed → LExpr → ℕ → Type 0
Kept Never f v h = Reads Postfix f v h
Kept Bare f v h = Reads Primary f v h ⊎ (Reads Postfix f v h × (is_call (bare_expr v) ≡ false))
Kept Bracketed f v h = Reads Postfix f v h × (is_call (bare_expr v) ≡ false)

-- the calls that are taken apart
abbrev pub Taken : Apart → List Placed → Place → LExpr → LExprs → ℕ → Type 0
Taken Never f q v vs h = ⊥
Taken Bare f q v vs h = ReadsCalling f q v vs h
Taken Bracketed f q v vs h = ReadsEnclosed f q v vs h

-- the tokens are what has been read, where an expression of the rank is asked for
abbrev pub ReadsShape : Apart → Rank → List Placed → Shape → ℕ → Type 0
ReadsShape apart k f (Calling q v vs) h = Taken apart f q v vs h
ReadsShape apart k f (Postfixed v) h = Kept apart f v h
ReadsShape apart k f (Other v) h = ReadsOther k f v h
