-- What the code's values stand for.
use Rattle.std.specs.Prelude.{◌≡◌, ℕ, ◌<◌, ◌≤◌, [], length, take, drop, get_or, Option, Some, None, Result, Ok, Err, pos, ◌⊎◌}
use Rattle.cpc_base.specs.Bytes.{Text}
use Rattle.cpc_base.specs.declared.stop.Dialect.{Dialect}
use Rattle.cpc_num.specs.Number.{convert}
use Rattle.cpc_num.specs.declared.kinds.Kind.{Kind}
use Rattle.cpc_num.specs.declared.kinds.Kind.TheVariants.{Char}
use Rattle.cpc_tree.specs.Erase.{Table, in_table}
use Rattle.cpc_tree.specs.declared.token.TokenKind.{TokenKind}
use Rattle.cpc_tree.specs.declared.token.TokenKind.TheVariants as T
use Rattle.cpc_tree.specs.Tokens.{Lexeme, Named, Number, Character, Quoted, lexeme_of}
use Rattle.cpc_tree.specs.Pieces.{Piece, Space, Token, Fault, State, Open, Whole, Wrong}
use Rattle.cpc_tree.specs.Pieces as S
use Rattle.cpc_tree.specs.Cut.{IsLongest, IsFaulty}
use Rattle.cpc_lexer.specs.declared.front.Front.{Front}
use Rattle.cpc_lexer.specs.declared.front.Front.TheVariants as F
use Rattle.cpc_lexer.specs.declared.quoted.Quote as Q
use Rattle.cpc_lexer.specs.declared.quoted.Quote.TheVariants as V
use Rattle.cpc_lexer.specs.declared.quoted.Escape as E
use Rattle.cpc_lexer.specs.declared.quoted.Escape.TheVariants as W
use Rattle.cpc_lexer.specs.declared.quoted.Step.{Step}
use Rattle.cpc_lexer.specs.declared.quoted.Step.TheVariants as N

-- a token that is no name
abbrev pub IsNameless : TokenKind → Type 0
IsNameless (T.Name name) = ⊥
IsNameless _ = Unit {0}

-- the bytes w as the front says what they are; its token is no name
abbrev pub front_piece : Text → Front → Piece
front_piece w F.Space = Space
front_piece w (F.Token kind) = Token (lexeme_of (in_table []) kind)
front_piece w F.Name = Token (Named w)
front_piece w (F.Fault number) = Fault number

abbrev pub IsFrontNameless : Front → Type 0
IsFrontNameless (F.Token kind) = IsNameless kind
IsFrontNameless _ = Unit {0}

-- one of the five faults
abbrev pub IsFaultNumber : ℕ → Type 0
IsFaultNumber number = (1 ≤ number) × (number ≤ 5)

abbrev pub IsFrontNumbered : Front → Type 0
IsFrontNumbered (F.Fault number) = IsFaultNumber number
IsFrontNumbered _ = Unit {0}

-- the first n bytes of the text are its longest piece
pub record IsLongestFront (dialect : Dialect) (text : Text) (n : ℕ) (x : Piece) : Type 0 where
  pub some : 0 < n
  pub within : n ≤ length text
  pub longest : IsLongest dialect (take n text) (drop n text) x

-- what a text begins with, and how many bytes that takes
abbrev pub IsFront : Dialect → Text → Front → ℕ → Type 0
IsFront dialect text (F.Fault number) n = IsFaulty dialect text number × IsFaultNumber number
IsFront dialect text front n = IsLongestFront dialect text n (front_piece (take n text) front) × IsFrontNameless front

-- a token, or none for a blank or a comment
abbrev pub kind_piece : Table → Option TokenKind → Piece
kind_piece names None = Space
kind_piece names (Some kind) = Token (lexeme_of (in_table names) kind)

-- an integer, or the number of its fault
abbrev pub integer_piece : Result (Kind × ℕ) ℕ → Piece
integer_piece (Ok r) = Token (Number r.0 (pos r.1))
integer_piece (Err number) = Fault number

abbrev pub quote_of : Q.Quote → S.Quote
quote_of V.Single = S.Single
quote_of V.Double = S.Double

abbrev pub escape_of : E.Escape → S.Escape
escape_of W.None = S.NoEscape
escape_of W.Backslash = S.Backslash
escape_of (W.OneOctal n) = S.OneOctal n
escape_of (W.TwoOctal n) = S.TwoOctal n
escape_of W.HexNone = S.HexNone
escape_of (W.Hex n) = S.Hex n

-- the digits so far make no greater value
abbrev pub IsInRange : E.Escape → Type 0
IsInRange (W.OneOctal n) = n < 8
IsInRange (W.TwoOctal n) = n < 64
IsInRange _ = Unit {0}

-- the literal of the bytes that it holds
abbrev pub literal_of : S.Quote → Text → Lexeme
literal_of S.Double held = Quoted held
literal_of S.Single held = Character (convert Char (pos (get_or held 0 0)))

abbrev pub step_state : S.Quote → Text → Step → State
step_state quote held (N.Open escape) = Open quote held (escape_of escape)
step_state quote held N.Closed = Whole (literal_of quote held)
step_state quote held N.Wrong = Wrong

abbrev pub HoldsOne : S.Quote → Text → Type 0
HoldsOne S.Single held = 0 < length held
HoldsOne S.Double held = Unit {0}

-- what a step leaves: an escape in range, and a character that holds a byte
abbrev pub IsSound : Step → S.Quote → Text → Type 0
IsSound (N.Open escape) quote held = IsInRange escape
IsSound N.Closed quote held = HoldsOne quote held
IsSound N.Wrong quote held = Unit {0}

-- + - & | <
abbrev pub IsDoubled : ℕ → Type 0
IsDoubled b = (b ≡ 43) ⊎ ((b ≡ 45) ⊎ ((b ≡ 38) ⊎ ((b ≡ 124) ⊎ (b ≡ 60))))
