-- How statements are written (C11 6.8): which rows of tokens are which statements, and how deep they nest.
-- Each statement counts one. A whole call is a statement and no expression: what it calls and its arguments stand in it.
use Rattle.std.specs.Prelude.{◌≡◌, ℕ, ◌+◌, Bool, true, false, List, [], ◌∷◌, ◌++◌, Option, Some, None, max, pos}
use Rattle.cpc_base.specs.declared.stop.Place.{Place}
use Rattle.cpc_num.specs.declared.kinds.Kind.TheVariants as N
use Rattle.cpc_num.specs.declared.kinds.Op.{Op}
use Rattle.cpc_num.specs.declared.kinds.Op.TheVariants as O
use Rattle.cpc_tree.specs.declared.token.Keyword.TheVariants as K
use Rattle.cpc_tree.specs.declared.token.Punctuator.{Punctuator}
use Rattle.cpc_tree.specs.declared.token.Punctuator.TheVariants as P
use Rattle.cpc_tree.specs.Tokens.{Placed}
use Rattle.cpc_tree.specs.Syntax.{Ty, Expr, ECall, Stmt}
use Rattle.cpc_tree.specs.Syntax as S
use Rattle.cpc_tree.specs.Located.{Ident, LExpr, LNamed, LInteger, LExprs, LStmt, Block, Empty, Declare, Assign, Call, Detach, Spawn, If, While, DoWhile, For, Goto, Label, Break, Continue, Return, LStmts, NoLStmt, AndLStmt, MaybeLStmt, NoneLStmt, SomeLStmt, LVariable, bare_expr, bare_stmt}
use Rattle.cpc_tree.specs.TypeGrammar.{word, mark, named, ReadsBase, ReadsDeclarator}
use Rattle.cpc_tree.specs.ExprGrammar.{Postfix, Unary, Whole, Reads, ReadsArgs}

-- the operator of a compound assignment (C11 6.5.16.2)
abbrev pub assigning : Punctuator → Option Op
assigning P.PlusEqual = Some O.Add
assigning P.MinusEqual = Some O.Sub
assigning P.StarEqual = Some O.Mul
assigning P.SlashEqual = Some O.Div
assigning P.PercentEqual = Some O.Rem
assigning P.AmpersandEqual = Some O.BitAnd
assigning P.BarEqual = Some O.BitOr
assigning P.CaretEqual = Some O.BitXor
assigning P.ShiftLeftEqual = Some O.Shl
assigning P.ShiftRightEqual = Some O.Shr
assigning p = None

-- the operator of ++ and -- (C11 6.5.2.4, 6.5.3.1)
abbrev pub stepping : Punctuator → Option Op
stepping P.Increment = Some O.Add
stepping P.Decrement = Some O.Sub
stepping p = None

-- `x++` and `++x` are `x += 1`
abbrev pub stepped : Place → Place → LExpr → Op → LStmt
stepped q o v op = Assign q o v (Some op) (LInteger o N.Int (pos 1))

-- what stands behind = : a value, a whole call or a section, which has the place of its word
pub data Right : Type 0 where
  Value : LExpr → Right
  Calls : LExpr → LExprs → Right
  Section : Place → Ident → LExprs → Right

-- a place is given what stands behind =
abbrev pub given : Place → Place → LExpr → Right → LStmt
given q o v (Value w) = Assign q o v None w
given q o v (Calls f vs) = Call q o (Some v) f vs
given q o v (Section k x vs) = Detach q o k (Some v) x vs

-- a local with its initialiser: a call or a section is a statement of its own behind the declaration
abbrev pub begun : Place → LVariable → Right → List LStmt
begun q x (Value w) = Declare q x.called x.type (Some w) ∷ []
begun q x r = Declare q x.called x.type None ∷ given x.called.place x.called.place (LNamed x.called) r ∷ []

-- whether an expression is a call
abbrev pub is_call : Expr → Bool
is_call (ECall f vs) = true
is_call v = false

-- statements in a row
abbrev pub stmts : List LStmt → LStmts
stmts [] = NoLStmt
stmts (s ∷ ss) = AndLStmt s (stmts ss)

-- a statement that can be absent
abbrev pub maybe : Option LStmt → MaybeLStmt
maybe None = NoneLStmt
maybe (Some s) = SomeLStmt s

-- at the end of the statement an else would belong to an if in it
abbrev pub dangles : Stmt → Bool
dangles (S.If c s S.Absent) = true
dangles (S.If c s (S.Present r)) = dangles r
dangles (S.While c s) = dangles s
dangles (S.For first test step s) = dangles s
dangles (S.Label x s) = dangles s
dangles s = false

-- the place of the first token
abbrev pub begin : List Placed → Place
begin [] = record { line = 0; column = 0 }
begin (t ∷ f) = t.place

-- a call, in any parentheses, where the call itself counts nothing
pub data ReadsCall : List Placed → LExpr → LExprs → ℕ → Type 0 where
  call_alone : (f g : List Placed) (q r : Place) (v : LExpr) (vs : LExprs) (h j : ℕ) → Reads Postfix f v h → ReadsArgs g vs j
      → ReadsCall (f ++ mark q P.LeftParen ∷ (g ++ mark r P.RightParen ∷ [])) v vs (max h j)
  call_in_parens : (f : List Placed) (q r : Place) (v : LExpr) (vs : LExprs) (h : ℕ) → ReadsCall f v vs h → ReadsCall (mark q P.LeftParen ∷ (f ++ mark r P.RightParen ∷ [])) v vs (h + 1)

-- the tokens are a section
pub data ReadsSection : List Placed → Place → Ident → LExprs → ℕ → Type 0 where
  section : (g : List Placed) (q r s : Place) (x : Ident) (vs : LExprs) (h : ℕ) → ReadsArgs g vs h
      → ReadsSection (word q K.CpcDetached ∷ named x ∷ mark r P.LeftParen ∷ (g ++ mark s P.RightParen ∷ [])) q x vs h

-- what stands behind =
pub data ReadsRight : List Placed → Right → ℕ → Type 0 where
  a_value : (f : List Placed) (v : LExpr) (h : ℕ) → Reads Whole f v h → is_call (bare_expr v) ≡ false → ReadsRight f (Value v) h
  a_call : (f : List Placed) (v : LExpr) (vs : LExprs) (h : ℕ) → ReadsCall f v vs h → ReadsRight f (Calls v vs) h
  a_section : (f : List Placed) (q : Place) (x : Ident) (vs : LExprs) (h : ℕ) → ReadsSection f q x vs h → ReadsRight f (Section q x vs) h

-- a statement without its semicolon
pub data ReadsSimple : List Placed → LStmt → ℕ → Type 0 where
  assigned : (f g : List Placed) (q : Place) (v : LExpr) (r : Right) (h j : ℕ) → Reads Unary f v h → ReadsRight g r j → ReadsSimple (f ++ mark q P.Equal ∷ g) (given (begin f) q v r) (max h j + 1)
  updated : (f g : List Placed) (q : Place) (p : Punctuator) (op : Op) (v w : LExpr) (h j : ℕ) → Reads Unary f v h → assigning p ≡ Some op → Reads Whole g w j
      → ReadsSimple (f ++ mark q p ∷ g) (Assign (begin f) q v (Some op) w) (max h j + 1)
  stepped_behind : (f : List Placed) (q : Place) (p : Punctuator) (op : Op) (v : LExpr) (h : ℕ) → Reads Postfix f v h → stepping p ≡ Some op → ReadsSimple (f ++ mark q p ∷ []) (stepped (begin f) q v op) (h + 1)
  stepped_before : (f : List Placed) (q : Place) (p : Punctuator) (op : Op) (v : LExpr) (h : ℕ) → stepping p ≡ Some op → Reads Unary f v h → ReadsSimple (mark q p ∷ f) (stepped q q v op) (h + 1)
  performed : (f g : List Placed) (q r : Place) (v : LExpr) (vs : LExprs) (h j : ℕ) → Reads Postfix f v h → ReadsArgs g vs j
      → ReadsSimple (f ++ mark q P.LeftParen ∷ (g ++ mark r P.RightParen ∷ [])) (Call (begin f) (begin f) None v vs) (max h j + 1)
  detached : (f : List Placed) (q : Place) (x : Ident) (vs : LExprs) (h : ℕ) → ReadsSection f q x vs h → ReadsSimple f (Detach q q q None x vs) (h + 1)

-- A local of a declaration that begins at the place. A place that a call or a section is written to is an expression.
pub data ReadsLocalPart (q : Place) (base : Ty) : List Placed → List LStmt → ℕ → Type 0 where
  unset : (f : List Placed) (x : LVariable) (h : ℕ) → ReadsDeclarator base f x h → ReadsLocalPart q base f (Declare q x.called x.type None ∷ []) (h + 1)
  set : (f g : List Placed) (o : Place) (x : LVariable) (r : Right) (h j : ℕ) → ReadsDeclarator base f x h → ReadsRight g r j
      → ReadsLocalPart q base (f ++ mark o P.Equal ∷ g) (begun q x r) (max h (max 1 j) + 1)

-- declared locals with commas between them
pub data ReadsLocalRow (q : Place) (base : Ty) : List Placed → List LStmt → ℕ → Type 0 where
  last_local : (f : List Placed) (ss : List LStmt) (h : ℕ) → ReadsLocalPart q base f ss h → ReadsLocalRow q base f ss h
  more_locals : (f g : List Placed) (r : Place) (ss rs : List LStmt) (h j : ℕ) → ReadsLocalPart q base f ss h → ReadsLocalRow q base g rs j
      → ReadsLocalRow q base (f ++ mark r P.Comma ∷ g) (ss ++ rs) (max h j)

-- a declaration without its semicolon
pub data ReadsLocal : List Placed → List LStmt → ℕ → Type 0 where
  local : (a f : List Placed) (base : Ty) (ss : List LStmt) (i h : ℕ) → ReadsBase a base i → ReadsLocalRow (begin a) base f ss h → ReadsLocal (a ++ f) ss h

-- an expression that can be absent
pub data ReadsMaybe : List Placed → Option LExpr → ℕ → Type 0 where
  no_value : ReadsMaybe [] None 0
  some_value : (f : List Placed) (v : LExpr) (h : ℕ) → Reads Whole f v h → ReadsMaybe f (Some v) h

-- the first part of a for
pub data ReadsFirst : List Placed → List LStmt → ℕ → Type 0 where
  no_first : ReadsFirst [] [] 0
  simple_first : (f : List Placed) (s : LStmt) (h : ℕ) → ReadsSimple f s h → ReadsFirst f (s ∷ []) h
  local_first : (f : List Placed) (ss : List LStmt) (h : ℕ) → ReadsLocal f ss h → ReadsFirst f ss h

-- the last part of a for
pub data ReadsStep : List Placed → Option LStmt → ℕ → Type 0 where
  no_step : ReadsStep [] None 0
  some_step : (f : List Placed) (s : LStmt) (h : ℕ) → ReadsSimple f s h → ReadsStep f (Some s) h

mutual
  -- the tokens are a statement; an else belongs to the nearest if without one
  pub data ReadsStmt : List Placed → LStmt → ℕ → Type 0 where
    block : (f : List Placed) (q r : Place) (ss : List LStmt) (h : ℕ) → ReadsBlock f ss h → ReadsStmt (mark q P.LeftBrace ∷ (f ++ mark r P.RightBrace ∷ [])) (Block q (stmts ss)) (h + 1)
    empty : (q : Place) → ReadsStmt (mark q P.Semicolon ∷ []) (Empty q) 1
    simple : (f : List Placed) (q : Place) (s : LStmt) (h : ℕ) → ReadsSimple f s h → ReadsStmt (f ++ mark q P.Semicolon ∷ []) s h
    labelled : (f : List Placed) (q : Place) (x : Ident) (s : LStmt) (h : ℕ) → ReadsStmt f s h → ReadsStmt (named x ∷ mark q P.Colon ∷ f) (Label x s) (h + 1)
    if_alone : (f g : List Placed) (q r t : Place) (c : LExpr) (s : LStmt) (h i : ℕ) → Reads Whole f c h → ReadsStmt g s i
        → ReadsStmt (word q K.If ∷ mark r P.LeftParen ∷ (f ++ mark t P.RightParen ∷ g)) (If q c s NoneLStmt) (max h i + 1)
    if_else : (f g k : List Placed) (q r t u : Place) (c : LExpr) (s l : LStmt) (h i j : ℕ) → Reads Whole f c h → ReadsStmt g s i → dangles (bare_stmt s) ≡ false → ReadsStmt k l j
        → ReadsStmt (word q K.If ∷ mark r P.LeftParen ∷ (f ++ mark t P.RightParen ∷ (g ++ word u K.Else ∷ k))) (If q c s (SomeLStmt l)) (max h (max i j) + 1)
    while : (f g : List Placed) (q r t : Place) (c : LExpr) (s : LStmt) (h i : ℕ) → Reads Whole f c h → ReadsStmt g s i
        → ReadsStmt (word q K.While ∷ mark r P.LeftParen ∷ (f ++ mark t P.RightParen ∷ g)) (While q c s) (max h i + 1)
    do_while : (f g : List Placed) (q r t u w : Place) (s : LStmt) (c : LExpr) (h i : ℕ) → ReadsStmt f s h → Reads Whole g c i
        → ReadsStmt (word q K.Do ∷ (f ++ word r K.While ∷ mark t P.LeftParen ∷ (g ++ mark u P.RightParen ∷ mark w P.Semicolon ∷ []))) (DoWhile q s c) (max h i + 1)
    for : (f g k l : List Placed) (q r t u w : Place) (ss : List LStmt) (o : Option LExpr) (p : Option LStmt) (s : LStmt) (h i j m : ℕ) → ReadsFirst f ss h → ReadsMaybe g o i → ReadsStep k p j → ReadsStmt l s m
        → ReadsStmt (word q K.For ∷ mark r P.LeftParen ∷ (f ++ mark t P.Semicolon ∷ (g ++ mark u P.Semicolon ∷ (k ++ mark w P.RightParen ∷ l)))) (For q (stmts ss) o (maybe p) s) (max h (max i (max j m)) + 1)
    goto : (q r : Place) (x : Ident) → ReadsStmt (word q K.Goto ∷ named x ∷ mark r P.Semicolon ∷ []) (Goto q x) 1
    break : (q r : Place) → ReadsStmt (word q K.Break ∷ mark r P.Semicolon ∷ []) (Break q) 1
    continue : (q r : Place) → ReadsStmt (word q K.Continue ∷ mark r P.Semicolon ∷ []) (Continue q) 1
    return : (f : List Placed) (q r : Place) (o : Option LExpr) (h : ℕ) → ReadsMaybe f o h → ReadsStmt (word q K.Return ∷ (f ++ mark r P.Semicolon ∷ [])) (Return q o) (h + 1)
    spawn : (g : List Placed) (q r s t : Place) (x : Ident) (vs : LExprs) (h : ℕ) → ReadsArgs g vs h
        → ReadsStmt (word q K.CpcSpawn ∷ named x ∷ mark r P.LeftParen ∷ (g ++ mark s P.RightParen ∷ mark t P.Semicolon ∷ [])) (Spawn q x vs) (h + 1)

  -- what stands between the braces of a block
  pub data ReadsBlock : List Placed → List LStmt → ℕ → Type 0 where
    no_part : ReadsBlock [] [] 0
    a_stmt : (f g : List Placed) (s : LStmt) (ss : List LStmt) (h j : ℕ) → ReadsStmt f s h → ReadsBlock g ss j → ReadsBlock (f ++ g) (s ∷ ss) (max h j)
    a_local : (f g : List Placed) (q : Place) (rs ss : List LStmt) (h j : ℕ) → ReadsLocal f rs h → ReadsBlock g ss j → ReadsBlock (f ++ mark q P.Semicolon ∷ g) (rs ++ ss) (max h j)
