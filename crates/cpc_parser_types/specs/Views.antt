-- What contracts see of the parser's own types.
use Rattle.std.specs.Prelude.{◌≡◌, ℕ, ◌==◌, if◌then◌else◌, codes, List, [], ◌∷◌, length, map, Option, Some, None, Result, Ok, Err}
use Rattle.cpc_base.specs.Bytes.{Text}
use Rattle.cpc_tree.specs.Erase.{Names}
use Rattle.cpc_tree.specs.declared.token.Token.{Token}
use Rattle.cpc_tree.specs.declared.token.TokenKind.{TokenKind}
use Rattle.cpc_tree.specs.declared.token.TokenKind.TheVariants as T
use Rattle.cpc_tree.specs.declared.token.Keyword.{Keyword}
use Rattle.cpc_tree.specs.declared.token.Punctuator.{Punctuator}
use Rattle.cpc_tree.specs.Tokens.{Lexeme, Placed, placed_of}
use Rattle.cpc_parser_reading.specs.Reading.{Reading, Read, Fault, Deep}
use Rattle.cpc_parser_types.specs.declared.refusal.Refusal as GRefusal
use Rattle.cpc_parser_types.specs.declared.refusal.Refusal.TheVariants as R
use Rattle.cpc_tree.specs.ExprGrammar as X
use Rattle.cpc_tree.specs.Grammar.{syntax_fault}
use Rattle.cpc_parser_types.specs.declared.marks.Operator as GOperator
use Rattle.cpc_parser_types.specs.declared.marks.Operator.TheVariants as O

-- what stands between two operands
abbrev pub operator_of : GOperator.Operator → X.Operator
operator_of (O.Binary op) = X.Binary op
operator_of O.And = X.And
operator_of O.Or = X.Or

-- the same with its tier
abbrev pub tiered_of : ℕ × GOperator.Operator → ℕ × X.Operator
tiered_of x = (x.0, operator_of x.1)

-- how a fault is told
abbrev pub fault_name : ℕ → Text
fault_name number = if number == syntax_fault then codes "syntax" else codes "deep"

-- what a token is, its place aside
abbrev pub lexeme : Placed → Lexeme
lexeme t = t.lexeme

-- the tokens by a table of names
abbrev pub placed : Names → List Token → List Placed
placed names list = map (placed_of names) list

-- A refusal is the reader's, with as many tokens from its place on. Want of memory says nothing.
abbrev pub Refuses : {A : Type 0} → GRefusal.Refusal → Reading Placed A → Type 0
Refuses R.Memory r = Unit {0}
Refuses (R.Syntax n) r = (left : List Placed) × (length left ≡ n) × (r ≡ Fault left)
Refuses (R.Deep n) r = (left : List Placed) × (length left ≡ n) × (r ≡ Deep left)

-- A function of the parser gives what the reader gives: the value, its nesting and the tokens behind it, or a refusal.
abbrev pub Gives : {X A : Type 0} → (X → A × ℕ × List Placed) → Result X GRefusal.Refusal → Reading Placed A → Type 0
Gives view (Ok x) r = r ≡ Read (view x)
Gives view (Err e) r = Refuses e r

-- the mark that a token is
abbrev pub mark_in : TokenKind → Option Punctuator
mark_in (T.Punctuator p) = Some p
mark_in k = None

-- the keyword that a token is
abbrev pub word_in : TokenKind → Option Keyword
word_in (T.Keyword w) = Some w
word_in k = None

-- the mark that tokens begin with
abbrev pub first_mark : List Token → Option Punctuator
first_mark [] = None
first_mark (t ∷ rest) = mark_in t.kind

-- the keyword that tokens begin with
abbrev pub first_word : List Token → Option Keyword
first_word [] = None
first_word (t ∷ rest) = word_in t.kind
