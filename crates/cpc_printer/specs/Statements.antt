-- What is put of the parts of statements.
use Rattle.std.specs.Prelude.{Bool, List, [], ◌∷◌, ◌++◌, Option, Some, None}
use Rattle.cpc_tree.specs.declared.token.Keyword.TheVariants as K
use Rattle.cpc_tree.specs.declared.token.Punctuator.TheVariants as P
use Rattle.cpc_tree.specs.Tokens.{Lexeme, Word, Mark}
use Rattle.cpc_tree.specs.Syntax.{Expr, Stmt, Stmts, Empty, Declare, Assign, Call, Detach, Spawn, While, DoWhile, Label, Goto, Break, Continue, Return, MaybeStmt, Absent, Present}
use Rattle.cpc_tree.specs.ExprGrammar.{Unary}
use Rattle.cpc_tree.specs.ExprPrint.{expr_row}
use Rattle.cpc_tree.specs.StmtPrint.{stmt_row, simple_row, call_row, section_row, local_row, maybe_row, step_row, first_row}

-- the tokens of a statement with no other in it
abbrev pub jump_row : Bool → Stmt → List Lexeme
jump_row tight Empty = stmt_row tight Empty
jump_row tight (Spawn x vs) = stmt_row tight (Spawn x vs)
jump_row tight (Goto x) = stmt_row tight (Goto x)
jump_row tight Break = stmt_row tight Break
jump_row tight Continue = stmt_row tight Continue
jump_row tight (Return o) = stmt_row tight (Return o)
jump_row tight (Declare x t start) = stmt_row tight (Declare x t start)
jump_row tight (Assign v op w) = stmt_row tight (Assign v op w)
jump_row tight (Call o v vs) = stmt_row tight (Call o v vs)
jump_row tight (Detach o x vs) = stmt_row tight (Detach o x vs)
jump_row tight s = simple_row tight s ++ Mark P.Semicolon ∷ []

-- the tokens of these, and of a loop without a head of three parts or a statement behind a label
abbrev pub nested_row : Bool → Stmt → List Lexeme
nested_row tight (While c s) = stmt_row tight (While c s)
nested_row tight (DoWhile s c) = stmt_row tight (DoWhile s c)
nested_row tight (Label x s) = stmt_row tight (Label x s)
nested_row tight s = jump_row tight s

-- the word else and what stands behind it, if there is anything
abbrev pub else_row : Bool → MaybeStmt → List Lexeme
else_row tight Absent = []
else_row tight (Present s) = Word K.Else ∷ stmt_row tight s

-- the second and the third part of a for
abbrev pub parts_row : Bool → Option Expr → MaybeStmt → List Lexeme
parts_row tight test step = Mark P.Semicolon ∷ (maybe_row tight test ++ Mark P.Semicolon ∷ (step_row tight step ++ Mark P.RightParen ∷ []))

-- a for up to its body
abbrev pub for_row : Bool → Stmts → Option Expr → MaybeStmt → List Lexeme
for_row tight first test step = Word K.For ∷ Mark P.LeftParen ∷ (first_row tight first ++ parts_row tight test step)

-- the place that a value goes to
abbrev pub place_row : Bool → Option Expr → List Lexeme
place_row tight None = []
place_row tight (Some u) = expr_row tight Unary u ++ Mark P.Equal ∷ []

-- a further local, or what the local before it begins with
abbrev pub further_row : Bool → Stmt → List Lexeme
further_row tight (Declare x t start) = Mark P.Comma ∷ local_row tight x t start
further_row tight (Call o v vs) = Mark P.Equal ∷ call_row tight v vs
further_row tight (Detach o x vs) = Mark P.Equal ∷ section_row tight x vs
further_row tight s = []
