-- How statements are printed, how deep the print nests, and which statements can be printed.
use Rattle.std.specs.Prelude.{◌≡◌, ℕ, ◌+◌, Bool, true, false, List, [], ◌∷◌, ◌++◌, Option, Some, None, max}
use Rattle.cpc_base.specs.Bytes.{Text}
use Rattle.cpc_num.specs.declared.kinds.Op.{Op}
use Rattle.cpc_num.specs.declared.kinds.Op.TheVariants as O
use Rattle.cpc_tree.specs.declared.token.Keyword.TheVariants as K
use Rattle.cpc_tree.specs.declared.token.Punctuator.{Punctuator}
use Rattle.cpc_tree.specs.declared.token.Punctuator.TheVariants as P
use Rattle.cpc_tree.specs.Tokens.{Lexeme, Word, Mark, Named}
use Rattle.cpc_tree.specs.Syntax.{Ty, Expr, ENamed, Exprs, Stmt, Block, Empty, Declare, Assign, Call, Detach, Spawn, If, While, DoWhile, For, Goto, Label, Break, Continue, Return, Stmts, NoStmt, AndStmt, MaybeStmt, Absent, Present}
use Rattle.cpc_tree.specs.ExprGrammar.{Postfix, Unary, Whole}
use Rattle.cpc_tree.specs.StmtGrammar.{is_call, dangles}
use Rattle.cpc_tree.specs.TypePrint.{base_of, base_row, declarator_row, declarator_depth, PrintableVariable}
use Rattle.cpc_tree.specs.ExprPrint.{expr_row, expr_depth, args_row, args_depth, PrintableExpr, PrintableExprs}

-- the mark of a compound assignment; a comparison has none
abbrev pub assigning_mark : Op → Option Punctuator
assigning_mark O.Add = Some P.PlusEqual
assigning_mark O.Sub = Some P.MinusEqual
assigning_mark O.Mul = Some P.StarEqual
assigning_mark O.Div = Some P.SlashEqual
assigning_mark O.Rem = Some P.PercentEqual
assigning_mark O.BitAnd = Some P.AmpersandEqual
assigning_mark O.BitOr = Some P.BarEqual
assigning_mark O.BitXor = Some P.CaretEqual
assigning_mark O.Shl = Some P.ShiftLeftEqual
assigning_mark O.Shr = Some P.ShiftRightEqual
assigning_mark op = None

abbrev pub mark_row : Option Punctuator → List Lexeme
mark_row None = []
mark_row (Some p) = Mark p ∷ []

-- the mark of an assignment with or without an operator
abbrev pub assignment_mark : Option Op → Option Punctuator
assignment_mark None = Some P.Equal
assignment_mark (Some op) = assigning_mark op

-- a call, in no parentheses
abbrev pub call_row : Bool → Expr → Exprs → List Lexeme
call_row tight v vs = expr_row tight Postfix v ++ Mark P.LeftParen ∷ (args_row tight vs ++ Mark P.RightParen ∷ [])

abbrev pub section_row : Bool → Text → Exprs → List Lexeme
section_row tight x vs = Word K.CpcDetached ∷ Named x ∷ Mark P.LeftParen ∷ (args_row tight vs ++ Mark P.RightParen ∷ [])

-- an expression that can be absent
abbrev pub maybe_row : Bool → Option Expr → List Lexeme
maybe_row tight None = []
maybe_row tight (Some v) = expr_row tight Whole v

abbrev pub maybe_depth : Bool → Option Expr → ℕ
maybe_depth tight None = 0
maybe_depth tight (Some v) = expr_depth tight Whole v

-- a variable behind its base type, and what it starts with
abbrev pub local_row : Bool → Text → Ty → Option Expr → List Lexeme
local_row tight x t None = declarator_row tight (Some x) t
local_row tight x t (Some v) = declarator_row tight (Some x) t ++ Mark P.Equal ∷ expr_row tight Whole v

abbrev pub local_depth : Bool → Ty → Option Expr → ℕ
local_depth tight t None = declarator_depth tight t + 1
local_depth tight t (Some v) = max (declarator_depth tight t) (max 1 (expr_depth tight Whole v)) + 1

-- a statement without its semicolon: an assignment, a call, a section or a declaration of one local
abbrev pub simple_row : Bool → Stmt → List Lexeme
simple_row tight (Declare x t start) = base_row t ++ local_row tight x t start
simple_row tight (Assign v op w) = expr_row tight Unary v ++ (mark_row (assignment_mark op) ++ expr_row tight Whole w)
simple_row tight (Call None v vs) = call_row tight v vs
simple_row tight (Call (Some u) v vs) = expr_row tight Unary u ++ Mark P.Equal ∷ call_row tight v vs
simple_row tight (Detach None x vs) = section_row tight x vs
simple_row tight (Detach (Some u) x vs) = expr_row tight Unary u ++ Mark P.Equal ∷ section_row tight x vs
simple_row tight s = []

abbrev pub simple_depth : Bool → Stmt → ℕ
simple_depth tight (Declare x t start) = local_depth tight t start
simple_depth tight (Assign v op w) = max (expr_depth tight Unary v) (expr_depth tight Whole w) + 1
simple_depth tight (Call None v vs) = max (expr_depth tight Postfix v) (args_depth tight vs) + 1
simple_depth tight (Call (Some u) v vs) = max (expr_depth tight Unary u) (max (expr_depth tight Postfix v) (args_depth tight vs)) + 1
simple_depth tight (Detach None x vs) = args_depth tight vs + 1
simple_depth tight (Detach (Some u) x vs) = max (expr_depth tight Unary u) (args_depth tight vs) + 1
simple_depth tight s = 0

-- Further locals of a declaration. A call or section to the local before it is what that local begins with.
unfoldable pub locals_row : Bool → Stmts → List Lexeme
locals_row tight NoStmt = []
locals_row tight (AndStmt (Declare x t start) ss) = Mark P.Comma ∷ (local_row tight x t start ++ locals_row tight ss)
locals_row tight (AndStmt (Call o v vs) ss) = Mark P.Equal ∷ (call_row tight v vs ++ locals_row tight ss)
locals_row tight (AndStmt (Detach o x vs) ss) = Mark P.Equal ∷ (section_row tight x vs ++ locals_row tight ss)
locals_row tight (AndStmt s ss) = locals_row tight ss

-- the first part of a for: one declaration of locals, or one statement
abbrev pub first_row : Bool → Stmts → List Lexeme
first_row tight NoStmt = []
first_row tight (AndStmt (Declare x t start) ss) = base_row t ++ (local_row tight x t start ++ locals_row tight ss)
first_row tight (AndStmt s ss) = simple_row tight s

unfoldable pub first_depth : Bool → Stmts → ℕ
first_depth tight NoStmt = 0
first_depth tight (AndStmt s ss) = max (simple_depth tight s) (first_depth tight ss)

-- the last part of a for
abbrev pub step_row : Bool → MaybeStmt → List Lexeme
step_row tight Absent = []
step_row tight (Present s) = simple_row tight s

abbrev pub step_depth : Bool → MaybeStmt → ℕ
step_depth tight Absent = 0
step_depth tight (Present s) = simple_depth tight s

unfoldable mutual
  -- the tokens of a statement, or of a declaration of one local
  pub stmt_row : Bool → Stmt → List Lexeme
  stmt_row tight (Block ss) = Mark P.LeftBrace ∷ (block_row tight ss ++ Mark P.RightBrace ∷ [])
  stmt_row tight Empty = Mark P.Semicolon ∷ []
  stmt_row tight (Declare x t start) = simple_row tight (Declare x t start) ++ Mark P.Semicolon ∷ []
  stmt_row tight (Assign v op w) = simple_row tight (Assign v op w) ++ Mark P.Semicolon ∷ []
  stmt_row tight (Call o v vs) = simple_row tight (Call o v vs) ++ Mark P.Semicolon ∷ []
  stmt_row tight (Detach o x vs) = simple_row tight (Detach o x vs) ++ Mark P.Semicolon ∷ []
  stmt_row tight (Spawn x vs) = Word K.CpcSpawn ∷ Named x ∷ Mark P.LeftParen ∷ (args_row tight vs ++ Mark P.RightParen ∷ Mark P.Semicolon ∷ [])
  stmt_row tight (If c s Absent) = Word K.If ∷ Mark P.LeftParen ∷ (expr_row tight Whole c ++ Mark P.RightParen ∷ stmt_row tight s)
  stmt_row tight (If c s (Present r)) = Word K.If ∷ Mark P.LeftParen ∷ (expr_row tight Whole c ++ Mark P.RightParen ∷ (stmt_row tight s ++ Word K.Else ∷ stmt_row tight r))
  stmt_row tight (While c s) = Word K.While ∷ Mark P.LeftParen ∷ (expr_row tight Whole c ++ Mark P.RightParen ∷ stmt_row tight s)
  stmt_row tight (DoWhile s c) = Word K.Do ∷ (stmt_row tight s ++ Word K.While ∷ Mark P.LeftParen ∷ (expr_row tight Whole c ++ Mark P.RightParen ∷ Mark P.Semicolon ∷ []))
  stmt_row tight (For ss o p s) =
      Word K.For ∷ Mark P.LeftParen ∷ (first_row tight ss ++ Mark P.Semicolon ∷ (maybe_row tight o ++ Mark P.Semicolon ∷ (step_row tight p ++ Mark P.RightParen ∷ stmt_row tight s)))
  stmt_row tight (Goto x) = Word K.Goto ∷ Named x ∷ Mark P.Semicolon ∷ []
  stmt_row tight (Label x s) = Named x ∷ Mark P.Colon ∷ stmt_row tight s
  stmt_row tight Break = Word K.Break ∷ Mark P.Semicolon ∷ []
  stmt_row tight Continue = Word K.Continue ∷ Mark P.Semicolon ∷ []
  stmt_row tight (Return o) = Word K.Return ∷ (maybe_row tight o ++ Mark P.Semicolon ∷ [])

  -- what stands between the braces of a block
  pub block_row : Bool → Stmts → List Lexeme
  block_row tight NoStmt = []
  block_row tight (AndStmt s ss) = stmt_row tight s ++ block_row tight ss

unfoldable mutual
  -- how deep these tokens nest
  pub stmt_depth : Bool → Stmt → ℕ
  stmt_depth tight (Block ss) = block_depth tight ss + 1
  stmt_depth tight Empty = 1
  stmt_depth tight (Declare x t start) = simple_depth tight (Declare x t start)
  stmt_depth tight (Assign v op w) = simple_depth tight (Assign v op w)
  stmt_depth tight (Call o v vs) = simple_depth tight (Call o v vs)
  stmt_depth tight (Detach o x vs) = simple_depth tight (Detach o x vs)
  stmt_depth tight (Spawn x vs) = args_depth tight vs + 1
  stmt_depth tight (If c s Absent) = max (expr_depth tight Whole c) (stmt_depth tight s) + 1
  stmt_depth tight (If c s (Present r)) = max (expr_depth tight Whole c) (max (stmt_depth tight s) (stmt_depth tight r)) + 1
  stmt_depth tight (While c s) = max (expr_depth tight Whole c) (stmt_depth tight s) + 1
  stmt_depth tight (DoWhile s c) = max (stmt_depth tight s) (expr_depth tight Whole c) + 1
  stmt_depth tight (For ss o p s) = max (first_depth tight ss) (max (maybe_depth tight o) (max (step_depth tight p) (stmt_depth tight s))) + 1
  stmt_depth tight (Goto x) = 1
  stmt_depth tight (Label x s) = stmt_depth tight s + 1
  stmt_depth tight Break = 1
  stmt_depth tight Continue = 1
  stmt_depth tight (Return o) = maybe_depth tight o + 1

  pub block_depth : Bool → Stmts → ℕ
  block_depth tight NoStmt = 0
  block_depth tight (AndStmt s ss) = max (stmt_depth tight s) (block_depth tight ss)

-- whether a statement is the declaration of a local, which stands in blocks and in the first part of a for alone
abbrev pub is_local : Stmt → Bool
is_local (Declare x t start) = true
is_local s = false

-- an expression that can be absent
abbrev pub PrintableMaybe : Option Expr → Type 0
PrintableMaybe None = Unit {0}
PrintableMaybe (Some v) = PrintableExpr v

-- what a local begins with is no call: that would be a statement of its own
abbrev pub PrintableStart : Option Expr → Type 0
PrintableStart None = Unit {0}
PrintableStart (Some v) = PrintableExpr v × (is_call v ≡ false)

-- there is a mark
abbrev pub HasMark : Option Punctuator → Type 0
HasMark None = ⊥
HasMark (Some p) = Unit {0}

-- an assignment by an operator is by one that has a mark; without one, its value is no call
abbrev pub PrintableValue : Option Op → Expr → Type 0
PrintableValue None w = PrintableExpr w × (is_call w ≡ false)
PrintableValue (Some op) w = PrintableExpr w × HasMark (assigning_mark op)

abbrev pub PrintableSimple : Stmt → Type 0
PrintableSimple (Assign v op w) = PrintableExpr v × PrintableValue op w
PrintableSimple (Call o v vs) = PrintableMaybe o × PrintableExpr v × PrintableExprs vs
PrintableSimple (Detach o x vs) = PrintableMaybe o × PrintableExprs vs
PrintableSimple s = ⊥

abbrev pub PrintableLocal : Ty → Option Expr → Type 0
PrintableLocal t start = PrintableVariable t × PrintableStart start

-- The place that a call or a section may begin: the local just before it, where that has no start yet.
abbrev pub begun_place : Text → Option Expr → Option Expr
begun_place x None = Some (ENamed x)
begun_place x (Some v) = None

-- the further locals of a declaration with this base type
unfoldable pub PrintableLocals : Ty → Option Expr → Stmts → Type 0
PrintableLocals base before NoStmt = Unit {0}
PrintableLocals base before (AndStmt (Declare x t start) ss) = (base_of t ≡ base) × PrintableLocal t start × PrintableLocals base (begun_place x start) ss
PrintableLocals base before (AndStmt (Call (Some u) v vs) ss) = (before ≡ Some u) × PrintableExpr v × PrintableExprs vs × PrintableLocals base None ss
PrintableLocals base before (AndStmt (Detach (Some u) y vs) ss) = (before ≡ Some u) × PrintableExprs vs × PrintableLocals base None ss
PrintableLocals base before (AndStmt s ss) = ⊥

-- the first part of a for
abbrev pub PrintableFirst : Stmts → Type 0
PrintableFirst NoStmt = Unit {0}
PrintableFirst (AndStmt (Declare x t start) ss) = PrintableLocal t start × PrintableLocals (base_of t) (begun_place x start) ss
PrintableFirst (AndStmt s NoStmt) = PrintableSimple s
PrintableFirst (AndStmt s ss) = ⊥

abbrev pub PrintableStep : MaybeStmt → Type 0
PrintableStep Absent = Unit {0}
PrintableStep (Present s) = PrintableSimple s

unfoldable mutual
  -- a statement, or a declaration of one local
  pub PrintableStmt : Stmt → Type 0
  PrintableStmt (Block ss) = PrintableBlock ss
  PrintableStmt (Declare x t start) = PrintableLocal t start
  PrintableStmt (Assign v op w) = PrintableSimple (Assign v op w)
  PrintableStmt (Call o v vs) = PrintableSimple (Call o v vs)
  PrintableStmt (Detach o x vs) = PrintableSimple (Detach o x vs)
  PrintableStmt (Spawn x vs) = PrintableExprs vs
  PrintableStmt (If c s Absent) = PrintableExpr c × (is_local s ≡ false) × PrintableStmt s
  PrintableStmt (If c s (Present r)) = PrintableExpr c × (is_local s ≡ false) × PrintableStmt s × (dangles s ≡ false) × (is_local r ≡ false) × PrintableStmt r
  PrintableStmt (While c s) = PrintableExpr c × (is_local s ≡ false) × PrintableStmt s
  PrintableStmt (DoWhile s c) = (is_local s ≡ false) × PrintableStmt s × PrintableExpr c
  PrintableStmt (For ss o p s) = PrintableFirst ss × PrintableMaybe o × PrintableStep p × (is_local s ≡ false) × PrintableStmt s
  PrintableStmt (Label x s) = (is_local s ≡ false) × PrintableStmt s
  PrintableStmt (Return o) = PrintableMaybe o
  PrintableStmt s = Unit {0}

  pub PrintableBlock : Stmts → Type 0
  PrintableBlock NoStmt = Unit {0}
  PrintableBlock (AndStmt s ss) = PrintableStmt s × PrintableBlock ss
