-- The table of names as tokens are put into it.
use Rattle.std.specs.Prelude.{◌≡◌, ℕ, ◌<◌, List, [], ◌∷◌, ◌++◌, Option, Some, None}
use Rattle.cpc_base.specs.declared.stop.Place.{Place}
use Rattle.cpc_base.specs.Texts.{with_text}
use Rattle.cpc_tree.specs.Erase.{Table, in_table}
use Rattle.cpc_tree.specs.Tokens.{Lexeme, Named, Placed, lexeme_of}
use Rattle.cpc_tree.specs.declared.token.TokenKind.{TokenKind}
use Rattle.cpc_tree.specs.declared.token.TokenKind.TheVariants as T
use Rattle.cpc_tree.specs.declared.token.Token.{Token}

-- the table after a lexeme
abbrev pub with_lexeme : Table → Lexeme → Table
with_lexeme names (Named text) = with_text names text
with_lexeme names _ = names

-- the table after tokens: each new name behind the others, in order of first use
abbrev pub with_tokens : Table → List Placed → Table
with_tokens names [] = names
with_tokens names (token ∷ list) = with_tokens (with_lexeme names token.lexeme) list

-- the table after a token, or after a blank or a comment
abbrev pub with_kind : (old new : Table) → Option TokenKind → Table
with_kind old new None = old
with_kind old new (Some kind) = with_lexeme old (lexeme_of (in_table new) kind)

-- the table has only grown, at its end
abbrev pub HasGrown : (old new : Table) → Type 0
HasGrown old new = (more : Table) × (new ≡ old ++ more)

-- a name is one of the first n of the table
abbrev pub NameBelow : ℕ → TokenKind → Type 0
NameBelow n (T.Name name) = name.0 < n
NameBelow n _ = Unit {0}

abbrev pub TokenBelow : ℕ → Token → Type 0
TokenBelow n token = NameBelow n token.kind

-- what is put into the list: the token, or nothing for a blank or a comment
abbrev pub kept : Place → Option TokenKind → List Token
kept place None = []
kept place (Some kind) = record { place = place; kind = kind } ∷ []
