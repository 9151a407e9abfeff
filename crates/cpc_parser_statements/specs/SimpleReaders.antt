-- How statements without their (marks P.Semicolon) are read: assignments, calls, sections and declarations.
use Rattle.std.specs.Prelude.{◌≡◌, ℕ, Bool, true, false, Option, Some, None, max, nat_lt, ◌+◌}
use Rattle.cpc_base.specs.declared.stop.Place.{Place}
use Rattle.cpc_num.specs.declared.kinds.Op.{Op}
use Rattle.cpc_tree.specs.declared.token.Keyword.TheVariants as K
use Rattle.cpc_tree.specs.declared.token.Punctuator.{Punctuator}
use Rattle.cpc_tree.specs.declared.token.Punctuator.TheVariants as P
use Rattle.cpc_tree.specs.Tokens.{Lexeme, Word, Mark, Placed}
use Rattle.cpc_tree.specs.Located.{Ident, LExpr, LExprs, LStmt, LNamed, Assign, Call, Detach, Empty}
use Rattle.cpc_tree.specs.ExprGrammar.{Unary, Whole}
use Rattle.cpc_tree.specs.StmtGrammar.{Right, Value, Calls, Section, given, begin, assigning, stepping, stepped}
use Rattle.cpc_parser_reading.specs.Reading.{Read, Reader, ◌>>=◌, nothing, one, after, pair, mapped, made, only, headed, one_of, below}
use Rattle.cpc_parser_reading.specs.Chain.{Linking, chain}
use Rattle.cpc_parser_types.specs.TypeReaders.{ident_of}
use Rattle.cpc_parser_expressions.specs.Shapes.{Never, Bare, Bracketed, Shape, Calling, Postfixed, Other, whole}
use Rattle.cpc_parser_expressions.specs.ExprReaders.{shape_at, expr_at, args_at, starts_expr, ShapeEnd}
use Rattle.cpc_parser_types.specs.Begins.{is_mark}

-- a part, with the place of its first token
abbrev pub standing : {A : Type 0} → Reader Placed A → Reader Placed (Place × A)
standing F ts = F ts >>= λ x. Read ((begin ts, x.0), x.1, x.2)

-- a section's function and arguments
abbrev pub detached_at : ℕ → Reader Placed (Ident × LExprs)
detached_at d = pair (one ident_of) (after (λ t. is_mark P.LeftParen t.lexeme) (args_at d))

-- a section whose word stands at the place
abbrev pub section_of : Place → Ident × LExprs → Right
section_of q v = Section q v.0 v.1

-- what has been read behind =
abbrev pub right_of : Shape → Right
right_of (Calling q v vs) = Calls v vs
right_of (Postfixed v) = Value v
right_of (Other v) = Value v

-- what begins a right side: a section or an expression, and the least nesting of each
pub data Side : Type 0 where
  Sectioned : Side
  Valued : Side

abbrev pub if_expr : Bool → Option Side
if_expr true = Some Valued
if_expr false = None

abbrev pub side_class : Lexeme → Option Side
side_class (Word K.CpcDetached) = Some Sectioned
side_class k = if_expr (starts_expr k)

abbrev pub side_low : Side → ℕ
side_low Sectioned = 0
side_low Valued = 1

abbrev pub side_part : ℕ → Side → Reader Placed Right
side_part d Sectioned = headed (λ t. mapped (section_of t.place) (detached_at d))
side_part d Valued = mapped right_of (shape_at d Bracketed Whole)

-- a right side
abbrev pub right_at : ℕ → Reader Placed Right
right_at d = one_of (λ t. side_class t.lexeme) side_low d (side_part d)

-- what may stand behind a right side
abbrev pub RightEnd : Right → Lexeme → Type 0
RightEnd (Value v) k = ShapeEnd Whole k
RightEnd (Calls v vs) k = ShapeEnd Whole k
RightEnd (Section q x vs) k = Unit {0}

-- What has been read of a statement that begins at a place: an expression that more is to follow, if it is no call; an
-- assignment with its operator's place; a step of ++ or -- ; or a section.
pub data Simple : Type 0 where
  Begun : Place → Shape → Simple
  Given : Place → (operator : Place) → LExpr → Right → Simple
  Updated : Place → (operator : Place) → LExpr → Op → LExpr → Simple
  SteppedBehind : Place → (operator : Place) → LExpr → Op → Simple
  SteppedBefore : Place → LExpr → Op → Simple
  Detached : Place → Ident → LExprs → Simple

-- the statement
abbrev pub stmt_of : Simple → LStmt
stmt_of (Begun q (Calling o v vs)) = Call q q None v vs
stmt_of (Begun q (Postfixed v)) = Empty q
stmt_of (Begun q (Other v)) = Empty q
stmt_of (Given q o v r) = given q o v r
stmt_of (Updated q o v op w) = Assign q o v (Some op) w
stmt_of (SteppedBehind q o v op) = stepped q o v op
stmt_of (SteppedBefore q v op) = stepped q q v op
stmt_of (Detached q x vs) = Detach q q q None x vs

-- whether it is a statement as it stands
abbrev pub complete : Simple → Bool
complete (Begun q (Calling o v vs)) = true
complete (Begun q (Postfixed v)) = false
complete (Begun q (Other v)) = false
complete s = true

-- the place of a statement, and what is written to
abbrev pub place_of : Simple → Place
place_of (Begun q s) = q
place_of (Given q o v r) = q
place_of (Updated q o v op w) = q
place_of (SteppedBehind q o v op) = q
place_of (SteppedBefore q v op) = q
place_of (Detached q x vs) = q

-- what stands first in it
abbrev pub expr_of : Simple → LExpr
expr_of (Begun q s) = whole s
expr_of (Given q o v r) = v
expr_of (Updated q o v op w) = v
expr_of (SteppedBehind q o v op) = v
expr_of (SteppedBefore q v op) = v
expr_of (Detached q x vs) = LNamed x

-- What follows an expression: = or an operator with what is written, or a step. Each remembers whether a call went
-- before, which counts one more as an expression than as a statement.
pub data More : Type 0 where
  Sets : Bool → More
  Updates : Op → Bool → More
  Steps : Op → Bool → More

-- the first that is there
abbrev pub or_more : Option More → Option More → Option More
or_more None o = o
or_more (Some c) o = Some c

abbrev pub sets : Bool → Punctuator → Option More
sets b P.Equal = Some (Sets b)
sets b p = None

abbrev pub updates : Bool → Option Op → Option More
updates b None = None
updates b (Some op) = Some (Updates op b)

-- ++ and -- follow a postfix expression only
abbrev pub steps : Bool → Bool → Option Op → Option More
steps false b o = None
steps true b None = None
steps true b (Some op) = Some (Steps op b)

abbrev pub more_mark : Bool → Bool → Punctuator → Option More
more_mark post b p = or_more (sets b p) (or_more (updates b (assigning p)) (steps post b (stepping p)))

-- the class of the next token behind a shape
abbrev pub more_shape : Shape → Punctuator → Option More
more_shape (Calling q v vs) p = more_mark true true p
more_shape (Postfixed v) p = more_mark true false p
more_shape (Other v) p = more_mark false false p

abbrev pub more_class : Simple → Lexeme → Option More
more_class (Begun q s) (Mark p) = more_shape s p
more_class s k = None

-- what follows, with the operator's place
pub data Behind : Type 0 where
  right_side : Place → Right → Behind
  new_value : Place → Op → LExpr → Behind
  step : Place → Op → Behind

abbrev pub step_of : Place → Op → Unit {0} → Behind
step_of o op u = step o op

-- what follows of each class, with the room inside
abbrev pub more_part : ℕ → More → Reader Placed Behind
more_part d (Sets b) = headed (λ t. mapped (right_side t.place) (right_at d))
more_part d (Updates op b) = headed (λ t. mapped (new_value t.place op) (expr_at d))
more_part d (Steps op b) = headed (λ t. mapped (step_of t.place op) nothing)

abbrev pub more_make : More → Simple → Behind → Simple
more_make c s (right_side o r) = Given (place_of s) o (expr_of s) r
more_make c s (new_value o op w) = Updated (place_of s) o (expr_of s) op w
more_make c s (step o op) = SteppedBehind (place_of s) o (expr_of s) op

-- how much it adds to the nesting before it and to its own, and its least nesting
abbrev pub more_left : More → ℕ
more_left (Sets true) = 1
more_left (Sets false) = 0
more_left (Updates op true) = 1
more_left (Updates op false) = 0
more_left (Steps op true) = 1
more_left (Steps op false) = 0

abbrev pub more_right : More → ℕ
more_right (Sets b) = 1
more_right (Updates op b) = 1
more_right (Steps op b) = 0

abbrev pub more_least : More → ℕ
more_least (Sets b) = 0
more_least (Updates op b) = 1
more_least (Steps op b) = 0

-- how a statement goes on behind its first expression
abbrev pub more_links : ℕ → Linking Placed More Simple Behind
more_links d = record {
  class = λ s t. more_class s t.lexeme;
  full = λ c h. nat_lt d (h + more_left c);
  part = more_part (below d);
  make = more_make;
  nest = λ c h j. max (h + more_left c) (j + more_right c);
}

-- the beginning of a statement that begins with an expression
abbrev pub begun_of : Place × Shape → Simple
begun_of v = Begun v.0 v.1

abbrev pub expression_at : ℕ → Reader Placed Simple
expression_at d = only complete (chain (made begun_of (standing (shape_at (below d) Bare Unary))) (more_links d))

-- what begins a simple statement, and its least nesting
pub data First : Type 0 where
  Word' : First
  Step : Op → First
  Expression : First

abbrev pub first_expr : Bool → Option First
first_expr true = Some Expression
first_expr false = None

abbrev pub first_step : Lexeme → Option Op → Option First
first_step k (Some op) = Some (Step op)
first_step k None = first_expr (starts_expr k)

abbrev pub simple_class : Lexeme → Option First
simple_class (Word K.CpcDetached) = Some Word'
simple_class (Mark p) = first_step (Mark p) (stepping p)
simple_class k = first_expr (starts_expr k)

abbrev pub simple_low : First → ℕ
simple_low Word' = 1
simple_low (Step op) = 2
simple_low Expression = 2

abbrev pub detach_of : Place → Ident × LExprs → Simple
detach_of q v = Detached q v.0 v.1

abbrev pub before_of : Place → Op → Shape → Simple
before_of q op s = SteppedBefore q (whole s) op

abbrev pub simple_part : ℕ → First → Reader Placed Simple
simple_part d Word' = headed (λ t. made (detach_of t.place) (detached_at (below d)))
simple_part d (Step op) = headed (λ t. made (before_of t.place op) (shape_at (below d) Never Unary))
simple_part d Expression = expression_at d

-- a statement without its semicolon
abbrev pub simple_at : ℕ → Reader Placed Simple
simple_at d = one_of (λ t. simple_class t.lexeme) simple_low d (simple_part d)

-- what may stand behind it
abbrev pub SimpleEnd : Simple → Lexeme → Type 0
SimpleEnd (Begun q s) k = ShapeEnd Unary k × (more_class (Begun q s) k ≡ None)
SimpleEnd (Given q o v r) k = RightEnd r k
SimpleEnd (Updated q o v op w) k = ShapeEnd Whole k
SimpleEnd (SteppedBehind q o v op) k = Unit {0}
SimpleEnd (SteppedBefore q v op) k = ShapeEnd Unary k
SimpleEnd (Detached q x vs) k = Unit {0}
