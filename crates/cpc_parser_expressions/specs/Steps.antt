-- Single steps of the readers, for the code that goes along a chain.
use Rattle.std.specs.Prelude.{ℕ, Bool, true, false, ◌&&◌, List, [], ◌∷◌, Option, None, nat_lt, if◌then◌else◌}
use Rattle.cpc_tree.specs.Tokens.{Lexeme, Word, Mark, Placed}
use Rattle.cpc_tree.specs.declared.program.UnaryOp.{UnaryOp}
use Rattle.cpc_tree.specs.ExprGrammar.{Tier, Whole}
use Rattle.cpc_parser_reading.specs.Reading.{Read, Fault, Deep, Reader, ◌>>=◌, one, after, pair, made, headed, below}
use Rattle.cpc_parser_reading.specs.Chain.{Linking, down}
use Rattle.cpc_parser_types.specs.TypeReaders.{is_left, starts_base, enclosed_type_at}
use Rattle.cpc_parser_expressions.specs.Shapes.{Apart, Shape}
use Rattle.cpc_parser_expressions.specs.ExprReaders.{inside, call_count, literal, ending, goes_on, sized_at, signed_by, cast_of, left_of, rank_expr_at, args_at, shape_at, Inner}

-- what a token has, of the first one
abbrev pub first_of : {C : Type 0} → (Lexeme → Option C) → List Placed → Option C
first_of f [] = None
first_of f (t ∷ rest) = f t.lexeme

-- one part of a chain, of the class, if there is room for it
abbrev pub stepped : {T C A B : Type 0} → Linking T C A B → C → A → ℕ → Reader T A
stepped l c v h [] = Fault []
stepped l c v h (t ∷ rest) = if l.full c h then Deep (t ∷ rest) else (l.part c (t ∷ rest) >>= λ x. Read (l.make c v x.0, l.nest c h x.1, x.2))

-- a part that begins here, if there is room for it
abbrev pub roomy : {T A : Type 0} → ℕ → ℕ → Reader T A → Reader T A
roomy low d F [] = Fault []
roomy low d F (t ∷ rest) = if nat_lt d low then Deep (t ∷ rest) else F (t ∷ rest)

-- a part, as another value with another nesting
abbrev pub onto : {T A B : Type 0} → (A → B) → (ℕ → ℕ) → Reader T A → Reader T B
onto make nest F ts = F ts >>= λ x. Read (make x.0, nest x.1, x.2)

-- the size of a type, and an operator with its operand
abbrev pub size_at : ℕ → Reader Placed Shape
size_at room = headed (λ t. made (sized_at t) (ending (λ u. goes_on u.lexeme) (after (λ u. is_left u.lexeme) (enclosed_type_at room))))

abbrev pub sign_at : UnaryOp → ℕ → Reader Placed Shape
sign_at op room = headed (λ t. made (signed_by op t) (rank_expr_at room (Tier 0)))

-- a cast
abbrev pub typed_at : ℕ → Reader Placed Shape
typed_at room = made cast_of (pair (one left_of) (pair (enclosed_type_at room) (rank_expr_at room (Tier 0))))

-- what is inside an expression with so much room
abbrev pub args_room : Apart → ℕ → ℕ
args_room a d = down (call_count a) d

abbrev pub within_at : Apart → ℕ → Reader Placed Shape
within_at a d ts = shape_at (below d) (inside a) Whole ts

abbrev pub inner_of : Apart → ℕ → Inner
inner_of a d = record { room = below d; expr = rank_expr_at (below d); args = args_at (args_room a d); within = within_at a d }

-- whether a token is a literal or a name
abbrev pub is_literal : Lexeme → Bool
is_literal (Word k) = false
is_literal (Mark p) = false
is_literal k = true

-- a literal or a name
abbrev pub literal_at : Reader Placed Shape
literal_at [] = Fault []
literal_at (t ∷ rest) = if is_literal t.lexeme then Read (literal t tt, 1, rest) else Fault (t ∷ rest)

-- whether a type stands behind an opening parenthesis
abbrev pub second_base : List Placed → Bool
second_base [] = false
second_base (t ∷ rest) = starts_base t.lexeme

abbrev pub begins_cast : List Placed → Bool
begins_cast [] = false
begins_cast (t ∷ rest) = is_left t.lexeme && second_base rest
