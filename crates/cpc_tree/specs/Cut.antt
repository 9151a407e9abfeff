-- A text as a row of blanks, comments and tokens, or the fault where such a row ends.
use Rattle.std.specs.Prelude.{◌≡◌, ℕ, ◌+◌, ◌≤◌, ◌==◌, if◌then◌else◌, List, [], ◌∷◌, ◌++◌, length, Some}
use Rattle.cpc_base.specs.Bytes.{Text}
use Rattle.cpc_base.specs.declared.stop.Place.{Place}
use Rattle.cpc_base.specs.declared.stop.Dialect.{Dialect}
use Rattle.cpc_tree.specs.Tokens.{Lexeme, Placed}
use Rattle.cpc_tree.specs.Pieces.{Piece, Space, Token, Fault, piece_of, stray_byte}

-- where a text begins
abbrev pub text_start : Place
text_start = record { line = 1; column = 1 }

-- the place behind a byte that stands at a place
unfoldable pub place_past : Place → ℕ → Place
place_past place b =
    if b == 10 then record { line = place.line + 1; column = 1 } else record { line = place.line; column = place.column + 1 }

-- the place behind bytes
unfoldable pub place_behind : Place → Text → Place
place_behind place [] = place
place_behind place (b ∷ w) = place_behind (place_past place b) w

-- The bytes w are this piece, and no longer front of the text is a piece. So a run of letters, digits and _ is never
-- cut short, and /* and // are never two marks.
pub record IsLongest (dialect : Dialect) (w rest : Text) (x : Piece) : Type 0 where
  pub piece : piece_of dialect w ≡ Some x
  pub longest : (a b : Text) (y : Piece) → a ++ b ≡ w ++ rest → piece_of dialect a ≡ Some y → length a ≤ length w

-- from a place on the text is a row of blanks, comments and tokens, up to another place and what is left there
pub data Row (dialect : Dialect) : Place → Text → List Placed → Place → Text → Type 0 where
  nothing : (place : Place) (text : Text) → Row dialect place text [] place text
  a_space : (w : Text) (place end : Place) (text rest : Text) (list : List Placed) → IsLongest dialect w text Space → Row dialect (place_behind place w) text list end rest → Row dialect place (w ++ text) list end rest
  a_token : (w : Text) (x : Lexeme) (place end : Place) (text rest : Text) (list : List Placed) → IsLongest dialect w text (Token x) → Row dialect (place_behind place w) text list end rest → Row dialect place (w ++ text) (record { place = place; lexeme = x } ∷ list) end rest

-- the tokens of a text, in order
abbrev pub IsCut : Text → Dialect → List Placed → Type 0
IsCut text dialect list = (end : Place) × Row dialect text_start text list end []

-- what begins here is no blank, comment or token, by the number of its fault
pub data IsFaulty (dialect : Dialect) : Text → ℕ → Type 0 where
  no_piece : (b : ℕ) (rest : Text) → ((a c : Text) (y : Piece) → a ++ c ≡ b ∷ rest → piece_of dialect a ≡ Some y → ⊥) → IsFaulty dialect (b ∷ rest) stray_byte
  no_token : (w rest : Text) (number : ℕ) → IsLongest dialect w rest (Fault number) → IsFaulty dialect (w ++ rest) number

-- the first fault of a text
abbrev pub IsLexFault : Text → Dialect → Place → ℕ → Type 0
IsLexFault text dialect place number = (list : List Placed) × (rest : Text) × Row dialect text_start text list place rest × IsFaulty dialect rest number

-- an answer is a list of tokens or a fault
pub data Answer : Type 0 where
  Tokens : List Placed → Answer
  Stopped : Place → ℕ → Answer

abbrev pub Answers : Text → Dialect → Answer → Type 0
Answers text dialect (Tokens list) = IsCut text dialect list
Answers text dialect (Stopped place number) = IsLexFault text dialect place number

-- exactly one cut or exactly one fault
pub record HasOneAnswer (text : Text) (dialect : Dialect) : Type 0 where
  pub answer : Answer
  pub answers : Answers text dialect answer
  pub only : (other : Answer) → Answers text dialect other → other ≡ answer
