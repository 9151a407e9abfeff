-- How expressions are read, and how a whole call is taken apart where one is looked for.
use Rattle.std.specs.Prelude.{◌≡◌, ℕ, zero, suc, ◌+◌, Bool, true, false, is_some, List, [], ◌∷◌, Option, Some, None, max, nat_lt, if◌then◌else◌}
use Rattle.cpc_base.specs.declared.stop.Place.{Place}
use Rattle.cpc_tree.specs.declared.program.UnaryOp.{UnaryOp}
use Rattle.cpc_tree.specs.declared.token.Keyword.TheVariants as K
use Rattle.cpc_tree.specs.declared.token.Punctuator.TheVariants as P
use Rattle.cpc_tree.specs.Tokens.{Lexeme, Word, Mark, Named, Number, Character, Quoted, Placed}
use Rattle.cpc_tree.specs.Syntax.{Ty}
use Rattle.cpc_tree.specs.Located.{Ident, LExpr, LNamed, LInteger, LCharacter, LText, LUnary, LChoose, LCast, LSizeOf, LIndex, LMember, LArrow, LCall, LExprs, NoLExpr, AndLExpr}
use Rattle.cpc_tree.specs.ExprGrammar.{Rank, Primary, Postfix, Unary, Tier, Whole, top_tier, Operator, operated, operator, unary_operator}
use Rattle.cpc_parser_reading.specs.Reading.{Reading, Read, Fault, Deep, Reader, ◌>>=◌, below, nothing, one, before, after, pair, mapped, made, headed, optional, one_of, either_two}
use Rattle.cpc_parser_reading.specs.Chain.{Linking, chain}
use Rattle.cpc_parser_reading.specs.Lists.{separated, if_so}
use Rattle.cpc_parser_types.specs.TypeReaders.{is_left, is_right, is_unbracket, is_comma, ident_of, starts_base, enclosed_type_at}
use Rattle.cpc_parser_expressions.specs.Shapes.{Apart, Never, Bracketed, Shape, Calling, Postfixed, Other, whole}

-- which calls are taken apart inside parentheses
abbrev pub inside : Apart → Apart
inside Bracketed = Bracketed
inside a = Never

-- whether what has been read is a call taken apart, and how much it then counts more
abbrev pub was_call : Shape → Bool
was_call (Calling q v vs) = true
was_call s = false

abbrev pub count : Bool → ℕ
count true = 1
count false = 0

-- the class of the next token, and whether it stands behind a call taken apart
abbrev pub flagged : {C : Type 0} → Bool → Option C → Option (C × Bool)
flagged b None = None
flagged b (Some c) = Some (c, b)

-- A literal or a name, or parentheses.
pub data Atom : Type 0 where
  Literal : Atom
  Round : Atom

abbrev pub atom_class : Lexeme → Option Atom
atom_class (Named x) = Some Literal
atom_class (Number kind z) = Some Literal
atom_class (Character z) = Some Literal
atom_class (Quoted bytes) = Some Literal
atom_class (Mark P.LeftParen) = Some Round
atom_class t = None

-- the least nesting of each
abbrev pub atom_low : Atom → ℕ
atom_low Literal = 1
atom_low Round = 2

-- the expression that a token is which is one
abbrev pub literal_in : Place → Lexeme → LExpr
literal_in q (Named x) = LNamed (record { place = q; text = x })
literal_in q (Number kind z) = LInteger q kind z
literal_in q (Character z) = LCharacter q z
literal_in q (Quoted bytes) = LText q bytes
literal_in q t = LText q []

abbrev pub literal : Placed → Unit {0} → Shape
literal t u = Postfixed (literal_in t.place t.lexeme)

-- any expression in parentheses is a postfix expression
abbrev pub opened : Shape → Shape
opened (Other v) = Postfixed v
opened s = s

-- the part of each class, with the reader of what stands in parentheses
abbrev pub atom_part : Reader Placed Shape → Atom → Reader Placed Shape
atom_part within Literal = headed (λ t. made (literal t) nothing)
atom_part within Round = headed (λ t. made opened (before within (λ u. is_right u.lexeme)))

abbrev pub atom_at : Reader Placed Shape → ℕ → Reader Placed Shape
atom_at within d = one_of (λ t. atom_class t.lexeme) atom_low d (atom_part within)

-- What may follow a postfix expression.
pub data Behind : Type 0 where
  Args : Behind
  Index : Behind
  Field : Behind
  Through : Behind

abbrev pub postfix_class : Lexeme → Option Behind
postfix_class (Mark P.LeftParen) = Some Args
postfix_class (Mark P.LeftBracket) = Some Index
postfix_class (Mark P.Dot) = Some Field
postfix_class (Mark P.Arrow) = Some Through
postfix_class t = None

-- what followed, with the place of its mark
pub data Part : Type 0 where
  args_part : Place → LExprs → Part
  index_part : Place → LExpr → Part
  field_part : Place → Ident → Part
  through_part : Place → Ident → Part

-- the part of each class, with the readers of what stands in it
abbrev pub postfix_part : Reader Placed LExpr → Reader Placed LExprs → Behind → Reader Placed Part
postfix_part expr args Args = headed (λ t. mapped (args_part t.place) args)
postfix_part expr args Index = headed (λ t. mapped (index_part t.place) (before expr (λ u. is_unbracket u.lexeme)))
postfix_part expr args Field = headed (λ t. mapped (field_part t.place) (one ident_of))
postfix_part expr args Through = headed (λ t. mapped (through_part t.place) (one ident_of))

-- a call, taken apart or not
abbrev pub called : Apart → Place → LExpr → LExprs → Shape
called Never q v vs = Postfixed (LCall q v vs)
called a q v vs = Calling q v vs

-- the expression with what follows
abbrev pub postfix_make : Apart → Shape → Part → Shape
postfix_make a s (args_part q vs) = called a q (whole s) vs
postfix_make a s (index_part q w) = Postfixed (LIndex q (whole s) w)
postfix_make a s (field_part q x) = Postfixed (LMember q (whole s) x)
postfix_make a s (through_part q x) = Postfixed (LArrow q (whole s) x)

-- how much a call counts itself
abbrev pub call_count : Apart → ℕ
call_count Never = 1
call_count a = 0

-- how much a part adds to the nesting before it, and to its own
abbrev pub postfix_left : Apart → Behind × Bool → ℕ
postfix_left a (Args, b) = count b + call_count a
postfix_left a (c, b) = count b + 1

abbrev pub postfix_right : Apart → Behind × Bool → ℕ
postfix_right a (Args, b) = call_count a
postfix_right a (Index, b) = 1
postfix_right a (c, b) = 0

-- how a postfix expression goes on
abbrev pub postfix_links : Reader Placed LExpr → Reader Placed LExprs → ℕ → Apart → Linking Placed (Behind × Bool) Shape Part
postfix_links expr args d a = record {
  class = λ s t. flagged (was_call s) (postfix_class t.lexeme);
  full = λ c h. nat_lt d (h + postfix_left a c);
  part = λ c. postfix_part expr args c.0;
  make = λ c s w. postfix_make a s w;
  nest = λ c h j. max (h + postfix_left a c) (j + postfix_right a c);
}

-- A part behind which no token of the test stands.
abbrev pub ended : {T A : Type 0} → (T → Bool) → A × ℕ × List T → Reading T A
ended p (v, h, []) = Read (v, h, [])
ended p (v, h, (t ∷ rest)) = if p t then Fault (t ∷ rest) else Read (v, h, t ∷ rest)

abbrev pub ending : {T A : Type 0} → (T → Bool) → Reader T A → Reader T A
ending p F ts = F ts >>= ended p

-- whether a postfix expression would go on
abbrev pub goes_on : Lexeme → Bool
goes_on t = is_some (postfix_class t)

-- A unary expression by its first token.
pub data Prefix : Type 0 where
  Sign : UnaryOp → Prefix
  Size : Prefix
  Plain : Prefix

-- an operator before an operand
abbrev pub sign_class : Option UnaryOp → Option Prefix
sign_class None = None
sign_class (Some op) = Some (Sign op)

abbrev pub prefix_class : Lexeme → Option Prefix
prefix_class (Word K.Sizeof) = Some Size
prefix_class (Word k) = None
prefix_class (Mark P.LeftParen) = Some Plain
prefix_class (Mark p) = sign_class (unary_operator p)
prefix_class t = Some Plain

-- what begins an expression
abbrev pub starts_expr : Lexeme → Bool
starts_expr t = is_some (prefix_class t)

-- the least nesting of each
abbrev pub prefix_low : Prefix → ℕ
prefix_low (Sign op) = 2
prefix_low Size = 1
prefix_low Plain = 1

-- an operator and its operand, a type's size, and a cast
abbrev pub signed_by : UnaryOp → Placed → LExpr → Shape
signed_by op t v = Other (LUnary t.place op v)

abbrev pub sized_at : Placed → Ty → Shape
sized_at t ty = Other (LSizeOf t.place ty)

abbrev pub cast_of : Place × (Ty × LExpr) → Shape
cast_of x = Other (LCast x.0 x.1.0 x.1.1)

-- the part of each class, with the readers of an operand, of a type and of a postfix expression
abbrev pub prefix_part : Reader Placed LExpr → Reader Placed Ty → Reader Placed Shape → Prefix → Reader Placed Shape
prefix_part operand type postfix (Sign op) = headed (λ t. made (signed_by op t) operand)
prefix_part operand type postfix Size = headed (λ t. made (sized_at t) (ending (λ u. goes_on u.lexeme) (after (λ u. is_left u.lexeme) type)))
prefix_part operand type postfix Plain = postfix

-- the place of an opening parenthesis
abbrev pub left_in : Place → Lexeme → Option Place
left_in q (Mark P.LeftParen) = Some q
left_in q t = None

abbrev pub left_of : Placed → Option Place
left_of t = left_in t.place t.lexeme

-- the operator of a lexeme, and that of a tier at most
abbrev pub operator_in : Lexeme → Option (ℕ × Operator)
operator_in (Mark p) = operator p
operator_in t = None

abbrev pub at_most : ℕ → Option (ℕ × Operator) → Option (ℕ × Operator)
at_most n None = None
at_most n (Some x) = if nat_lt n x.0 then None else Some x

abbrev pub operator_at : ℕ → Lexeme → Option (ℕ × Operator)
operator_at n t = at_most n (operator_in t)

-- How an expression goes on with operators of a tier at most: the operand behind one is of the tier below it.
abbrev pub tier_links : (Rank → Reader Placed LExpr) → ℕ → ℕ → Linking Placed ((ℕ × Operator) × Bool) Shape (Place × LExpr)
tier_links inner d n = record {
  class = λ s t. flagged (was_call s) (operator_at n t.lexeme);
  full = λ c h. nat_lt d (h + (count c.1 + 1));
  part = λ c. headed (λ t. mapped (λ w. (t.place, w)) (inner (Tier (below c.0.0))));
  make = λ c s w. Other (operated w.0 c.0.1 (whole s) w.1);
  nest = λ c h j. max (h + (count c.1 + 1)) (j + 1);
}

-- marks of a choice
abbrev pub is_ask : Lexeme → Bool
is_ask (Mark P.Question) = true
is_ask t = false

abbrev pub is_colon : Lexeme → Bool
is_colon (Mark P.Colon) = true
is_colon t = false

-- how an expression goes on as the test of a choice
abbrev pub choice_links : Reader Placed LExpr → ℕ → Linking Placed (Unit {0} × Bool) Shape (Place × (LExpr × LExpr))
choice_links expr d = record {
  class = λ s t. flagged (was_call s) (if_so (is_ask t.lexeme));
  full = λ c h. nat_lt d (h + (count c.1 + 1));
  part = λ c. headed (λ t. mapped (λ w. (t.place, w)) (pair (before expr (λ u. is_colon u.lexeme)) expr));
  make = λ c s w. Other (LChoose w.0 (whole s) w.1.0 w.1.1);
  nest = λ c h j. max (h + (count c.1 + 1)) (j + 1);
}

-- arguments from a list that can be absent
abbrev pub listed : List LExpr → LExprs
listed [] = NoLExpr
listed (v ∷ vs) = AndLExpr v (listed vs)

abbrev pub listed_if : Option (List LExpr) → LExprs
listed_if None = NoLExpr
listed_if (Some vs) = listed vs

-- arguments, and the closing mark behind them
abbrev pub args_in : Reader Placed LExpr → ℕ → Reader Placed LExprs
args_in expr d = mapped listed_if (before (optional (λ t. starts_expr t.lexeme) 1 d (separated (λ t. is_comma t.lexeme) expr)) (λ t. is_right t.lexeme))

-- What is inside an expression: expressions with the room inside it, arguments, types, and what stands in parentheses.
pub record Inner : Type 0 where
  pub room : ℕ
  pub expr : Rank → Reader Placed LExpr
  pub args : Reader Placed LExprs
  pub within : Reader Placed Shape

abbrev pub postfix_at : Inner → ℕ → Apart → Reader Placed Shape
postfix_at i d a = chain (atom_at i.within d) (postfix_links (i.expr Whole) i.args d a)

abbrev pub unary_at : Inner → ℕ → Apart → Reader Placed Shape
unary_at i d a = one_of (λ t. prefix_class t.lexeme) prefix_low d (prefix_part (i.expr (Tier 0)) (enclosed_type_at i.room) (postfix_at i d a))

-- a cast, or a unary expression
abbrev pub cast_at : Inner → ℕ → Apart → Reader Placed Shape
cast_at i d a = either_two (λ t. is_left t.lexeme) (λ t u. starts_base u.lexeme) 2 d (made cast_of (pair (one left_of) (pair (enclosed_type_at i.room) (i.expr (Tier 0))))) (unary_at i d a)

abbrev pub tier_at : Inner → ℕ → ℕ → Apart → Reader Placed Shape
tier_at i d n a = chain (cast_at i d a) (tier_links i.expr d n)

abbrev pub whole_at : Inner → ℕ → Apart → Reader Placed Shape
whole_at i d a = chain (tier_at i d top_tier a) (choice_links (i.expr Whole) d)

-- an expression of each rank
abbrev pub rank_at : Inner → ℕ → Apart → Rank → Reader Placed Shape
rank_at i d a Primary = postfix_at i d a
rank_at i d a Postfix = postfix_at i d a
rank_at i d a Unary = unary_at i d a
rank_at i d a (Tier n) = tier_at i d n a
rank_at i d a Whole = whole_at i d a

-- expressions with nesting up to the number, where no call is taken apart
unfoldable pub plain_at : ℕ → Rank → Reader Placed Shape
plain_at zero r ts = Deep ts
plain_at (suc room) r ts = rank_at (record { room = room; expr = λ k. mapped whole (λ us. plain_at room k us); args = args_in (mapped whole (λ us. plain_at room Whole us)) room; within = λ us. plain_at room Whole us }) (suc room) Never r ts

-- the same without what is known of their shape
abbrev pub rank_expr_at : ℕ → Rank → Reader Placed LExpr
rank_expr_at d r = mapped whole (λ us. plain_at d r us)

-- an expression, and arguments with the closing mark
abbrev pub expr_at : ℕ → Reader Placed LExpr
expr_at d = rank_expr_at d Whole

abbrev pub args_at : ℕ → Reader Placed LExprs
args_at d = args_in (expr_at d) d

-- where a call may be taken apart, which has as much room for its arguments as it has itself
unfoldable pub shape_at : ℕ → Apart → Rank → Reader Placed Shape
shape_at zero a r ts = Deep ts
shape_at (suc room) Never r ts = plain_at (suc room) r ts
shape_at (suc room) a r ts = rank_at (record { room = room; expr = rank_expr_at room; args = args_at (suc room); within = λ us. shape_at room (inside a) Whole us }) (suc room) a r ts

-- what may stand behind an expression of a rank
abbrev pub ShapeEnd : Rank → Lexeme → Type 0
ShapeEnd Primary k = postfix_class k ≡ None
ShapeEnd Postfix k = postfix_class k ≡ None
ShapeEnd Unary k = postfix_class k ≡ None
ShapeEnd (Tier n) k = (postfix_class k ≡ None) × (operator_at n k ≡ None)
ShapeEnd Whole k = (postfix_class k ≡ None) × (operator_at top_tier k ≡ None) × (is_ask k ≡ false)
