-- How tokens are spelled again, and which bytes may stand behind a token.
use Rattle.std.specs.Prelude.{◌≡◌, ℕ, ◌+◌, ◌/◌, ◌%◌, ◌<◌, ◌≤◌, Bool, false, not, ◌&&◌, ◌==◌, if◌then◌else◌, ℤ, pos, negsuc, unsigned_abs, List, [], ◌∷◌, ◌++◌, length, get_or, map, flat_map, decimal, is_some, None, IsTrue, All}
use Rattle.std.specs.List.{AllPass}
use Rattle.std.specs.Char.{is_ascii_digit}
use Rattle.cpc_base.specs.Bytes.{Text}
use Rattle.cpc_base.specs.declared.stop.Place.{Place}
use Rattle.cpc_base.specs.declared.stop.Dialect.{Dialect}
use Rattle.cpc_num.specs.declared.kinds.Kind.{Kind}
use Rattle.cpc_num.specs.declared.kinds.Kind.TheVariants as K
use Rattle.cpc_num.specs.Number.{is_of, bits_of}
use Rattle.cpc_tree.specs.Tokens.{Lexeme, Word, Mark, Named, Number, Character, Quoted, Placed, keyword_spelling, punctuator_spelling, keyword_of}
use Rattle.cpc_tree.specs.Pieces.{Quote, Single, Double, quote_byte, is_plain, in_word, name_limit, state_of}
use Rattle.cpc_tree.specs.Cut.{Row}

-- the suffix by which a decimal integer has a kind
abbrev pub kind_suffix : Kind → Text
kind_suffix K.Char = []
kind_suffix K.UChar = []
kind_suffix K.Int = []
kind_suffix K.UInt = 117 ∷ []
kind_suffix K.Long = 108 ∷ []
kind_suffix K.ULong = 117 ∷ 108 ∷ []

-- whether a byte of a literal may be written as it stands
abbrev pub is_bare : Quote → ℕ → Bool
is_bare quote b = is_plain quote b && (not (b == quote_byte quote) && not (b == 92))

-- Else it is written by three octal digits, so that no digit behind it is taken in.
unfoldable pub byte_spelling : Quote → ℕ → Text
byte_spelling quote b = if is_bare quote b then b ∷ [] else 92 ∷ (48 + b / 64) ∷ (48 + b / 8 % 8) ∷ (48 + b % 8) ∷ []

-- how a token is spelled: integers in decimal with the suffix of their kind
unfoldable pub spelling : Lexeme → Text
spelling (Word k) = keyword_spelling k
spelling (Mark p) = punctuator_spelling p
spelling (Named text) = text
spelling (Number kind z) = decimal (unsigned_abs z) ++ kind_suffix kind
spelling (Character z) = 39 ∷ byte_spelling Single (bits_of K.Char z) ++ 39 ∷ []
spelling (Quoted bytes) = 34 ∷ flat_map (byte_spelling Double) bytes ++ 34 ∷ []

-- letters, digits and _ that are a name
pub record IsName (dialect : Dialect) (text : Text) : Type 0 where
  pub some : 0 < length text
  pub begins : is_ascii_digit (get_or text 0 0) ≡ false
  pub word : AllPass in_word text
  pub no_keyword : keyword_of text ≡ None
  pub short : length text ≤ name_limit dialect

-- the kinds of literals
abbrev pub IsLiteralKind : Kind → Type 0
IsLiteralKind K.Char = ⊥
IsLiteralKind K.UChar = ⊥
IsLiteralKind _ = Unit {0}

-- a value of its kind that is not negative
abbrev pub IsLiteral : Kind → ℤ → Type 0
IsLiteral kind (pos n) = IsLiteralKind kind × IsTrue (is_of kind (pos n))
IsLiteral kind (negsuc n) = ⊥

-- what a token of a text can be
abbrev pub IsSpellable : Dialect → Lexeme → Type 0
IsSpellable dialect (Word k) = Unit {0}
IsSpellable dialect (Mark p) = Unit {0}
IsSpellable dialect (Named text) = IsName dialect text
IsSpellable dialect (Number kind z) = IsLiteral kind z
IsSpellable dialect (Character z) = IsTrue (is_of K.Char z)
IsSpellable dialect (Quoted bytes) = All (λ b. b < 256) bytes

-- whether a byte goes on a token that is spelled so, over comments too: the * of a comment goes on a /
unfoldable pub joins : Text → ℕ → Bool
joins [] b = false
joins (c ∷ w) b = is_some (state_of ((c ∷ w) ++ b ∷ []))

-- no byte of the text goes on the token
abbrev pub IsApart : Text → Text → Type 0
IsApart w [] = Unit {0}
IsApart w (b ∷ text) = joins w b ≡ false

-- from any place on, the text is a row of blanks and these tokens
abbrev pub CutsTo : Dialect → Text → List Lexeme → Type 0
CutsTo dialect text list = (place : Place) → (placed : List Placed) × (end : Place) × Row dialect place text placed end [] × (map (λ t. t.lexeme) placed ≡ list)
