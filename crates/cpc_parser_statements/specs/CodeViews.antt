-- What contracts see of the classes of tokens and of lists of statements.
use Rattle.std.specs.Prelude.{ℕ, ◌+◌, ◌-◌, Bool, true, false, ◌&&◌, List, [], ◌∷◌, ◌++◌, map, max, nat_lt, Option, Some, None, Box}
use Rattle.std.specs.Global.{Global}
use Rattle.cpc_base.specs.declared.stop.Place.{Place}
use Rattle.cpc_tree.specs.Erase.{Names, type_of}
use Rattle.cpc_tree.specs.Tokens.{Lexeme, Placed}
use Rattle.cpc_num.specs.declared.kinds.Op.{Op}
use Rattle.cpc_tree.specs.Located.{LExpr, LStmt, Assign, Call, Goto, Return, LVariable}
use Rattle.cpc_tree.specs.StmtGrammar.{given, begin, begun}
use Rattle.cpc_parser_expressions.specs.ExprReaders.{expr_at, args_at}
use Rattle.cpc_parser_types.specs.TypeReaders.{ident_of, is_name}
use Rattle.cpc_tree.specs.Locate.{ident, located_stmt}
use Rattle.cpc_tree.specs.declared.program.CType.{CType}
use Rattle.cpc_tree.specs.declared.program.Word.{Word}
use Rattle.cpc_tree.specs.declared.program.Statement as GStatement
use Rattle.cpc_parser_reading.specs.Reading.{Read, Fault, Reader, ◌>>=◌, after, allowed, before, either_two, expect, made, mapped, nothing, one, optional, pair}
use Rattle.cpc_parser_reading.specs.Chain.{links}
use Rattle.cpc_parser_expressions.specs.Shapes.{Shape, Calling, Postfixed, Other}
use Rattle.cpc_parser_statements.specs.SimpleReaders as R
use Rattle.cpc_parser_statements.specs.SimpleReaders.{right_at, Simple, Begun, stmt_of, complete, more_class, more_links, simple_at}
use Rattle.cpc_tree.specs.Syntax.{Ty}
use Rattle.cpc_tree.specs.declared.token.Keyword.TheVariants as W
use Rattle.cpc_tree.specs.declared.token.Punctuator.TheVariants as P
use Rattle.cpc_parser_reading.specs.Lists.{many, separated, several}
use Rattle.cpc_parser_types.specs.Begins.{is_mark, is_word}
use Rattle.cpc_parser_statements.specs.LocalReaders.{Local, local_of, locals_of, Locals, declared, local_at, part_at}
use Rattle.cpc_parser_statements.specs.StmtReaders as C
use Rattle.cpc_parser_statements.specs.declared.class.First as GFirst
use Rattle.cpc_parser_statements.specs.declared.class.First.TheVariants as F
use Rattle.cpc_parser_statements.specs.declared.class.More as GMore
use Rattle.cpc_parser_statements.specs.declared.class.More.TheVariants as M
use Rattle.cpc_parser_statements.specs.declared.class.Class as GClass
use Rattle.cpc_parser_statements.specs.declared.class.Class.TheVariants as K

-- what a token has, of the first one
abbrev pub of_first : {C : Type 0} → (Lexeme → Option C) → List Placed → Option C
of_first f [] = None
of_first f (t ∷ rest) = f t.lexeme

-- how a simple statement begins
abbrev pub first_seen : GFirst.First → R.First
first_seen F.Section = R.Word'
first_seen (F.Step op) = R.Step op
first_seen F.Expression = R.Expression

-- whether a call is taken apart
abbrev pub is_calling : Shape → Bool
is_calling (Calling q v vs) = true
is_calling (Postfixed v) = false
is_calling (Other v) = false

-- how it goes on behind a shape
abbrev pub more_seen : Shape → GMore.More → R.More
more_seen s M.Sets = R.Sets (is_calling s)
more_seen s (M.Updates op) = R.Updates op (is_calling s)
more_seen s (M.Steps op) = R.Steps op (is_calling s)

-- which statement it is
abbrev pub class_seen : GClass.Class → C.Class
class_seen K.Block = C.Braced
class_seen K.Empty = C.Blank
class_seen K.If = C.IfWord
class_seen K.While = C.WhileWord
class_seen K.Do = C.DoWord
class_seen K.For = C.ForWord
class_seen K.Goto = C.GotoWord
class_seen K.Break = C.BreakWord
class_seen K.Continue = C.ContinueWord
class_seen K.Return = C.ReturnWord
class_seen K.Spawn = C.SpawnWord
class_seen K.Simple = C.Sentence

-- statements of a Vec
abbrev pub seen : Names → List GStatement.Statement → List LStmt
seen names ss = map (located_stmt names) ss

-- a simple statement
abbrev pub plain_at : ℕ → Reader Placed LStmt
plain_at d = mapped stmt_of (simple_at d)

-- what is left of one behind its first expression, which has this nesting
abbrev pub behind_at : ℕ → Place → Shape → ℕ → Reader Placed LStmt
behind_at d q s h ts = (links (more_links d) (Begun q s) (h + 1) ts >>= λ x. allowed (complete x.0) x) >>= λ x. Read (stmt_of x.0, x.1, x.2)

-- what is written to a place, behind = and behind an operator
abbrev pub assigned_at : ℕ → Place → Place → LExpr → ℕ → Reader Placed LStmt
assigned_at d q o v h ts = right_at d ts >>= λ z. Read (given q o v z.0, max h z.1 + 1, z.2)

abbrev pub updated_at : ℕ → Place → Place → Op → LExpr → ℕ → Reader Placed LStmt
updated_at d q o op v h ts = expr_at d ts >>= λ z. Read (Assign q o v (Some op) z.0, max h z.1 + 1, z.2)

-- a call as a statement alone
abbrev pub alone_at : Place → Shape → ℕ → Reader Placed LStmt
alone_at q (Calling o v vs) h ts = Read (Call q q None v vs, h + 1, ts)
alone_at q s h ts = Fault ts

-- a variable of a type
abbrev pub variable_seen : Names → Word → CType → LVariable
variable_seen names w t = record { called = ident names w; type = type_of names t }

-- statements with those of a local, and with those of a declaration's locals
abbrev pub with_local : List LStmt → Place → Local → List LStmt
with_local ss q x = ss ++ local_of q x

abbrev pub with_locals : List LStmt → Locals → List LStmt
with_locals ss v = ss ++ declared v

-- the locals of a declaration, behind its first token's place and its type
abbrev pub locals_at : List LStmt → Place → Ty → ℕ → Reader Placed (List LStmt)
locals_at ss q base d = mapped (λ xs. ss ++ locals_of q xs) (separated (λ t. is_mark P.Comma t.lexeme) (part_at base d))

-- what is left of them, behind some of this nesting
abbrev pub more_locals_at : List LStmt → Place → Ty → ℕ → List Local → ℕ → Reader Placed (List LStmt)
more_locals_at ss q base d xs h ts = links (several (λ t. is_mark P.Comma t.lexeme) false (after (λ t. is_mark P.Comma t.lexeme) (part_at base d))) xs h ts >>= λ x. Read (ss ++ locals_of q x.0, x.1, x.2)

-- a local's initialiser behind its mark, with the nesting of its declarator
abbrev pub started_at : List LStmt → Place → LVariable → ℕ → ℕ → Reader Placed (List LStmt)
started_at ss q x h d ts = right_at d ts >>= λ z. Read (ss ++ begun q x z.0, max h (max 1 z.1) + 1, z.2)

-- statements behind their first word, which stands at the place, with the room inside
abbrev pub goto_in : Place → Reader Placed LStmt
goto_in q = made (Goto q) (before (one ident_of) (λ t. is_mark P.Semicolon t.lexeme))

abbrev pub break_in : Place → Reader Placed LStmt
break_in q = made (C.break_of q) (expect (λ t. is_mark P.Semicolon t.lexeme))

abbrev pub continue_in : Place → Reader Placed LStmt
continue_in q = made (C.continue_of q) (expect (λ t. is_mark P.Semicolon t.lexeme))

abbrev pub return_in : Place → ℕ → Reader Placed LStmt
return_in q d = made (Return q) (C.maybe_at d)

abbrev pub spawn_in : Place → ℕ → Reader Placed LStmt
spawn_in q d = made (C.spawn_of q) (pair (one ident_of) (after (λ t. is_mark P.LeftParen t.lexeme) (before (args_at d) (λ t. is_mark P.Semicolon t.lexeme))))

abbrev pub empty_in : Place → Reader Placed LStmt
empty_in q = made (C.empty_of q) nothing

abbrev pub block_in : Place → ℕ → Reader Placed LStmt
block_in q d = made (C.block_of q) (C.block_at d)

abbrev pub if_in : Place → ℕ → Reader Placed LStmt
if_in q d = made (C.if_of q) (C.if_by (λ us. C.statement_at d us) d)

abbrev pub while_in : Place → ℕ → Reader Placed LStmt
while_in q d = made (C.while_of q) (pair (C.test_at d) (λ us. C.statement_at d us))

abbrev pub do_in : Place → ℕ → Reader Placed LStmt
do_in q d = made (C.do_of q) (pair (λ us. C.statement_at d us) (after (λ t. is_word W.While t.lexeme) (before (C.test_at d) (λ t. is_mark P.Semicolon t.lexeme))))

abbrev pub for_in : Place → ℕ → Reader Placed LStmt
for_in q d = made (C.for_of q) (C.for_by (λ us. C.statement_at d us) d)

-- those of a class that the first token tells; a sentence's does not
abbrev pub class_in : Place → ℕ → C.Class → Reader Placed LStmt
class_in q d C.Braced ts = block_in q d ts
class_in q d C.Blank ts = empty_in q ts
class_in q d C.IfWord ts = if_in q d ts
class_in q d C.WhileWord ts = while_in q d ts
class_in q d C.DoWord ts = do_in q d ts
class_in q d C.ForWord ts = for_in q d ts
class_in q d C.GotoWord ts = goto_in q ts
class_in q d C.BreakWord ts = break_in q ts
class_in q d C.ContinueWord ts = continue_in q ts
class_in q d C.ReturnWord ts = return_in q d ts
class_in q d C.SpawnWord ts = spawn_in q d ts
class_in q d C.Sentence ts = Fault ts

-- a label and its statement, or a sentence
abbrev pub label_at : ℕ → Reader Placed LStmt
label_at d = C.label_by (λ us. C.statement_at (d - 1) us)

abbrev pub labelled_at : ℕ → Reader Placed LStmt
labelled_at d = either_two (λ t. is_name t.lexeme) (λ t u. is_mark P.Colon u.lexeme) 2 d (label_at d) (C.sentence_at d)

-- whether a name and a colon come next
abbrev pub begins_label : List Placed → Bool
begins_label [] = false
begins_label (t ∷ []) = false
begins_label (t ∷ (u ∷ rest)) = is_name t.lexeme && is_mark P.Colon u.lexeme

-- whether tokens begin with what stands in a block
abbrev pub begins_entry : List Placed → Bool
begins_entry [] = false
begins_entry (t ∷ rest) = C.starts_entry t.lexeme

-- the first part of a for, without its semicolon
abbrev pub opening_at : ℕ → Reader Placed (List LStmt)
opening_at d = mapped C.opening_of (optional (λ t. C.starts_opening t.lexeme) 1 d (C.opening_at d))

-- the last part of a for, without the mark behind it
abbrev pub step_at : ℕ → Reader Placed (Option LStmt)
step_at d = mapped C.last_of (optional (λ t. C.starts_simple t.lexeme) 1 d (simple_at d))

-- statements with what stands in a block
abbrev pub with_entry : List LStmt → C.Entry → List LStmt
with_entry ss e = ss ++ C.entry_of e

-- a statement or a declaration of a block, behind statements
abbrev pub entry_at : List LStmt → ℕ → Reader Placed (List LStmt)
entry_at ss d = mapped (with_entry ss) (C.entry_by (λ us. C.statement_at d us) d)

-- a declaration and its semicolon, behind statements
abbrev pub declaration_at : List LStmt → ℕ → Reader Placed (List LStmt)
declaration_at ss d = mapped (with_locals ss) (before (local_at d) (λ t. is_mark P.Semicolon t.lexeme))

-- what stands between braces
abbrev pub entries_at : ℕ → Reader Placed (List LStmt)
entries_at d = mapped C.entries_of (many (λ t. C.starts_entry t.lexeme) 1 d (C.entry_by (λ us. C.statement_at d us) d))

-- what is left of it, behind some of this nesting
abbrev pub more_entries_at : ℕ → List C.Entry → ℕ → Reader Placed (List LStmt)
more_entries_at d es h ts = mapped C.entries_of (λ us. links (several (λ t. C.starts_entry t.lexeme) (nat_lt d 1) (C.entry_by (λ us. C.statement_at d us) d)) es h us) ts

-- a block from its brace on
abbrev pub braced_at : ℕ → Reader Placed LStmt
braced_at d ts = expect (λ t. is_mark P.LeftBrace t.lexeme) ts >>= λ x. block_in (begin ts) (d - 1) x.2

-- whether the second token is asked for, or how the statement begins
abbrev pub is_sentence : C.Class → Bool
is_sentence C.Sentence = true
is_sentence c = false

-- what an Option of a Box holds
abbrev pub held : Names → Option (Box GStatement.Statement Global) → Option LStmt
held names None = None
held names (Some b) = Some (located_stmt names b.value)
