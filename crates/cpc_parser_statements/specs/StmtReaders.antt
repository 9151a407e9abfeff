-- How statements are read: what is inside is read with one room less.
use Rattle.std.specs.Prelude.{◌≡◌, ℕ, zero, suc, Bool, true, false, ◌||◌, is_some, List, [], ◌∷◌, ◌++◌, Option, Some, None, option_map, max}
use Rattle.cpc_base.specs.declared.stop.Place.{Place}
use Rattle.cpc_tree.specs.declared.token.Keyword.TheVariants as K
use Rattle.cpc_tree.specs.declared.token.Punctuator.TheVariants as P
use Rattle.cpc_tree.specs.Tokens.{Lexeme, Word, Mark, Placed}
use Rattle.cpc_tree.specs.Located.{Ident, LExpr, LExprs, LStmt, Block, Empty, Spawn, If, While, DoWhile, For, Goto, Label, Break, Continue, Return, NoneLStmt, SomeLStmt, bare_stmt}
use Rattle.cpc_tree.specs.StmtGrammar.{stmts, maybe, dangles}
use Rattle.cpc_parser_reading.specs.Reading.{Deep, Reader, nothing, one, expect, before, after, pair, mapped, made, headed, either, optional, one_of, either_two, below}
use Rattle.cpc_parser_reading.specs.Lists.{many}
use Rattle.cpc_parser_reading.specs.Operators.{tail}
use Rattle.cpc_parser_types.specs.TypeReaders.{ident_of, is_name, starts_base}
use Rattle.cpc_parser_expressions.specs.ExprReaders.{expr_at, args_at, starts_expr}
use Rattle.cpc_parser_types.specs.Begins.{is_mark, is_word}
use Rattle.cpc_parser_statements.specs.SimpleReaders.{Simple, stmt_of, First, simple_class, simple_at}
use Rattle.cpc_parser_statements.specs.LocalReaders.{Locals, declared, local_at}

-- what begins a simple statement
abbrev pub starts_simple : Lexeme → Bool
starts_simple k = is_some (simple_class k)

-- a test in parentheses, which count nothing
abbrev pub test_at : ℕ → Reader Placed LExpr
test_at d = after (λ t. is_mark P.LeftParen t.lexeme) (before (expr_at d) (λ t. is_mark P.RightParen t.lexeme))

-- an expression that can be absent, and the semicolon behind it
abbrev pub maybe_at : ℕ → Reader Placed (Option LExpr)
maybe_at d = before (optional (λ t. starts_expr t.lexeme) 1 d (expr_at d)) (λ t. is_mark P.Semicolon t.lexeme)

-- the first part of a for, if it has one
pub data Opening : Type 0 where
  Stating : Simple → Opening
  Declaring : Locals → Opening

abbrev pub opening_of : Option Opening → List LStmt
opening_of None = []
opening_of (Some (Stating s)) = stmt_of s ∷ []
opening_of (Some (Declaring v)) = declared v

-- what begins it
abbrev pub starts_opening : Lexeme → Bool
starts_opening k = starts_base k || starts_simple k

abbrev pub opening_at : ℕ → Reader Placed Opening
opening_at d = either (λ t. starts_base t.lexeme) 1 d (mapped Declaring (local_at d)) (mapped Stating (simple_at d))

-- with the semicolon behind it
abbrev pub first_at : ℕ → Reader Placed (List LStmt)
first_at d = mapped opening_of (before (optional (λ t. starts_opening t.lexeme) 1 d (opening_at d)) (λ t. is_mark P.Semicolon t.lexeme))

-- the last part of a for, and the mark behind it
abbrev pub last_of : Option Simple → Option LStmt
last_of o = option_map stmt_of o

abbrev pub last_at : ℕ → Reader Placed (Option LStmt)
last_at d = mapped last_of (before (optional (λ t. starts_simple t.lexeme) 1 d (simple_at d)) (λ t. is_mark P.RightParen t.lexeme))

-- the classes of statements, by the first token
pub data Class : Type 0 where
  Braced : Class
  Blank : Class
  IfWord : Class
  WhileWord : Class
  DoWord : Class
  ForWord : Class
  GotoWord : Class
  BreakWord : Class
  ContinueWord : Class
  ReturnWord : Class
  SpawnWord : Class
  Sentence : Class

-- a label begins with a name, as an expression can
abbrev pub if_simple : Option First → Option Class
if_simple None = None
if_simple (Some c) = Some Sentence

abbrev pub stmt_class : Lexeme → Option Class
stmt_class (Mark P.LeftBrace) = Some Braced
stmt_class (Mark P.Semicolon) = Some Blank
stmt_class (Word K.If) = Some IfWord
stmt_class (Word K.While) = Some WhileWord
stmt_class (Word K.Do) = Some DoWord
stmt_class (Word K.For) = Some ForWord
stmt_class (Word K.Goto) = Some GotoWord
stmt_class (Word K.Break) = Some BreakWord
stmt_class (Word K.Continue) = Some ContinueWord
stmt_class (Word K.Return) = Some ReturnWord
stmt_class (Word K.CpcSpawn) = Some SpawnWord
stmt_class k = if_simple (simple_class k)

-- the least nesting of each; a simple statement has its own
abbrev pub stmt_low : Class → ℕ
stmt_low IfWord = 2
stmt_low WhileWord = 2
stmt_low DoWord = 2
stmt_low ForWord = 2
stmt_low c = 1

-- what begins a statement
abbrev pub starts_stmt : Lexeme → Bool
starts_stmt k = is_some (stmt_class k)

-- a statement or a declaration of a block
pub data Entry : Type 0 where
  Stated : LStmt → Entry
  Declares : Locals → Entry

abbrev pub entry_of : Entry → List LStmt
entry_of (Stated s) = s ∷ []
entry_of (Declares v) = declared v

abbrev pub entries_of : List Entry → List LStmt
entries_of [] = []
entries_of (e ∷ es) = entry_of e ++ entries_of es

abbrev pub starts_entry : Lexeme → Bool
starts_entry k = starts_base k || starts_stmt k

abbrev pub entry_by : Reader Placed LStmt → ℕ → Reader Placed Entry
entry_by stm d = either (λ t. starts_base t.lexeme) 1 d (mapped Declares (before (local_at d) (λ t. is_mark P.Semicolon t.lexeme))) (mapped Stated stm)

-- what stands between the braces, and the closing one
abbrev pub block_by : Reader Placed LStmt → ℕ → Reader Placed (List LStmt)
block_by stm d = mapped entries_of (before (many (λ t. starts_entry t.lexeme) 1 d (entry_by stm d)) (λ t. is_mark P.RightBrace t.lexeme))

-- the statements of each class
abbrev pub block_of : Place → List LStmt → LStmt
block_of q ss = Block q (stmts ss)

abbrev pub empty_of : Place → Unit {0} → LStmt
empty_of q u = Empty q

abbrev pub break_of : Place → Unit {0} → LStmt
break_of q u = Break q

abbrev pub continue_of : Place → Unit {0} → LStmt
continue_of q u = Continue q

abbrev pub if_of : Place → LExpr × (LStmt × Option LStmt) → LStmt
if_of q (c, (s, None)) = If q c s NoneLStmt
if_of q (c, (s, Some l)) = If q c s (SomeLStmt l)

abbrev pub while_of : Place → LExpr × LStmt → LStmt
while_of q v = While q v.0 v.1

abbrev pub do_of : Place → LStmt × LExpr → LStmt
do_of q v = DoWhile q v.0 v.1

abbrev pub for_of : Place → List LStmt × (Option LExpr × (Option LStmt × LStmt)) → LStmt
for_of q v = For q (stmts v.0) v.1.0 (maybe v.1.1.0) v.1.1.1

abbrev pub spawn_of : Place → Ident × LExprs → LStmt
spawn_of q v = Spawn q v.0 v.1

abbrev pub label_of : Ident × LStmt → LStmt
label_of v = Label v.0 v.1

-- a simple statement and its semicolon
abbrev pub sentence_at : ℕ → Reader Placed LStmt
sentence_at d = mapped stmt_of (before (simple_at d) (λ t. is_mark P.Semicolon t.lexeme))

-- a label and its statement
abbrev pub label_by : Reader Placed LStmt → Reader Placed LStmt
label_by stm = made label_of (pair (before (one ident_of) (λ t. is_mark P.Colon t.lexeme)) stm)

-- what follows if and for, with the reader of the statements inside and the room there
abbrev pub if_by : Reader Placed LStmt → ℕ → Reader Placed (LExpr × (LStmt × Option LStmt))
if_by stm d = pair (test_at d) (tail stm (λ t. is_word K.Else t.lexeme) (λ h. false) (λ h j. max h j) (after (λ t. is_word K.Else t.lexeme) stm))

abbrev pub for_by : Reader Placed LStmt → ℕ → Reader Placed (List LStmt × (Option LExpr × (Option LStmt × LStmt)))
for_by stm d = after (λ t. is_mark P.LeftParen t.lexeme) (pair (first_at d) (pair (maybe_at d) (pair (last_at d) stm)))

abbrev pub stmt_part : Reader Placed LStmt → ℕ → Class → Reader Placed LStmt
stmt_part stm d Braced = headed (λ t. made (block_of t.place) (block_by stm (below d)))
stmt_part stm d Blank = headed (λ t. made (empty_of t.place) nothing)
stmt_part stm d IfWord = headed (λ t. made (if_of t.place) (if_by stm (below d)))
stmt_part stm d WhileWord = headed (λ t. made (while_of t.place) (pair (test_at (below d)) stm))
stmt_part stm d DoWord = headed (λ t. made (do_of t.place) (pair stm (after (λ u. is_word K.While u.lexeme) (before (test_at (below d)) (λ u. is_mark P.Semicolon u.lexeme)))))
stmt_part stm d ForWord = headed (λ t. made (for_of t.place) (for_by stm (below d)))
stmt_part stm d GotoWord = headed (λ t. made (Goto t.place) (before (one ident_of) (λ u. is_mark P.Semicolon u.lexeme)))
stmt_part stm d BreakWord = headed (λ t. made (break_of t.place) (expect (λ u. is_mark P.Semicolon u.lexeme)))
stmt_part stm d ContinueWord = headed (λ t. made (continue_of t.place) (expect (λ u. is_mark P.Semicolon u.lexeme)))
stmt_part stm d ReturnWord = headed (λ t. made (Return t.place) (maybe_at (below d)))
stmt_part stm d SpawnWord = headed (λ t. made (spawn_of t.place) (pair (one ident_of) (after (λ u. is_mark P.LeftParen u.lexeme) (before (args_at (below d)) (λ u. is_mark P.Semicolon u.lexeme)))))
stmt_part stm d Sentence = either_two (λ t. is_name t.lexeme) (λ t u. is_mark P.Colon u.lexeme) 2 d (label_by stm) (sentence_at d)

-- a statement
abbrev pub stmt_by : Reader Placed LStmt → ℕ → Reader Placed LStmt
stmt_by stm d = one_of (λ t. stmt_class t.lexeme) stmt_low d (stmt_part stm d)

-- what is read with nesting up to the number
unfoldable pub statement_at : ℕ → Reader Placed LStmt
statement_at zero ts = Deep ts
statement_at (suc room) ts = stmt_by (λ us. statement_at room us) (suc room) ts

-- what stands between the braces of a block, and the closing one
abbrev pub block_at : ℕ → Reader Placed (List LStmt)
block_at d = block_by (λ us. statement_at d us) d

-- what may stand behind a statement: no else, if it would belong to an if in it
abbrev pub StmtEnd : LStmt → Lexeme → Type 0
StmtEnd s k = dangles (bare_stmt s) ≡ true → is_word K.Else k ≡ false
