-- Quotes, blanks, and the last token that was laid out.
use Rattle.std.specs.Prelude.{◌≡◌, ◌<◌, Bool, true, List, [], ◌∷◌, ◌++◌, length, Option, Some, None}
use Rattle.std.specs.List.{AllPass}
use Rattle.cpc_base.specs.Bytes.{Text}
use Rattle.cpc_base.specs.declared.stop.Dialect.{Dialect}
use Rattle.cpc_tree.specs.Erase.{Names}
use Rattle.cpc_tree.specs.Pieces.{is_blank}
use Rattle.cpc_tree.specs.Spelling.{spelling, IsSpellable, IsApart}
use Rattle.cpc_printer_layout.specs.declared.sheet.Lexeme.{Lexeme}
use Rattle.cpc_printer_layout.specs.Sheets.{lexeme_of}
use Rattle.cpc_tree.specs.Pieces as S
use Rattle.cpc_tree.specs.Tokens as T
use Rattle.cpc_printer_layout.specs.declared.spelling.Quote.{Quote}
use Rattle.cpc_printer_layout.specs.declared.spelling.Quote.TheVariants as Q

-- ' and " as the lexer has them
abbrev pub quote_of : Quote → S.Quote
quote_of Q.Single = S.Single
quote_of Q.Double = S.Double

-- blanks were put at the end, one at least where it is needed
pub record BlanksMore (is_needed : Bool) (was now : Text) : Type 0 where
  pub blanks : Text
  pub all : AllPass is_blank blanks
  pub some : is_needed ≡ true → 0 < length blanks
  pub put : now ≡ was ++ blanks

-- the last token so far; there may be none
abbrev pub previous_spelling : Names → Option Lexeme → Text
previous_spelling names None = []
previous_spelling names (Some x) = spelling (lexeme_of names x)

abbrev pub IsPrevious : Dialect → Names → Option Lexeme → Type 0
IsPrevious dialect names None = Unit {0}
IsPrevious dialect names (Some x) = IsSpellable dialect (lexeme_of names x)

-- The text is these tokens one behind the other, as they are spelled, each behind blanks, of which there may be none.
pub data IsLaid : List T.Lexeme → Text → Type 0 where
  NothingLaid : IsLaid [] []
  LaidNext : (xs : List T.Lexeme) (x : T.Lexeme) (text blanks : Text) → IsLaid xs text → AllPass is_blank blanks → IsLaid (xs ++ x ∷ []) ((text ++ blanks) ++ spelling x)

-- It has nothing else, but for blanks behind the last token.
pub record IsLaidOut (xs : List T.Lexeme) (text : Text) : Type 0 where
  pub tokens : Text
  pub blanks : Text
  pub laid : IsLaid xs tokens
  pub all : AllPass is_blank blanks
  pub whole : text ≡ tokens ++ blanks

-- A token was put at the end behind blanks, of which there is one at least where its first byte goes on the last token.
pub record IsSetBehind (names : Names) (last : Option Lexeme) (x : Lexeme) (was now : Text) : Type 0 where
  pub blanks : Text
  pub all : AllPass is_blank blanks
  pub apart : blanks ≡ [] → (dialect : Dialect) → IsPrevious dialect names last → IsApart (previous_spelling names last) (spelling (lexeme_of names x))
  pub put : now ≡ (was ++ blanks) ++ spelling (lexeme_of names x)
