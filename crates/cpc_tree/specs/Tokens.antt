-- Tokens without places, in which each name is its text.
use Rattle.std.specs.Prelude.{ℤ, List, [], ◌∷◌, Option, codes, find, bytes_eq}
use Rattle.cpc_base.specs.Bytes.{Text}
use Rattle.cpc_base.specs.declared.stop.Place.{Place}
use Rattle.cpc_num.specs.declared.kinds.Kind.{Kind}
use Rattle.cpc_tree.specs.declared.token.Keyword.{Keyword}
use Rattle.cpc_tree.specs.declared.token.Keyword.TheVariants as K
use Rattle.cpc_tree.specs.declared.token.Punctuator.{Punctuator}
use Rattle.cpc_tree.specs.declared.token.Punctuator.TheVariants as P
use Rattle.cpc_tree.specs.declared.token.TokenKind.{TokenKind}
use Rattle.cpc_tree.specs.declared.token.TokenKind.TheVariants as T
use Rattle.cpc_tree.specs.declared.token.Token.{Token}
use Rattle.cpc_tree.specs.Erase.{Names, text_of}

-- what a token is, apart from where it stands
pub data Lexeme : Type 0 where
  Word : Keyword → Lexeme
  Mark : Punctuator → Lexeme
  Named : Text → Lexeme
  Number : Kind → ℤ → Lexeme
  Character : ℤ → Lexeme
  Quoted : Text → Lexeme

-- a token where it stands
pub record Placed : Type 0 where
  pub place : Place
  pub lexeme : Lexeme

-- what a token is by a table of names
abbrev pub lexeme_of : Names → TokenKind → Lexeme
lexeme_of names (T.Keyword k) = Word k
lexeme_of names (T.Punctuator p) = Mark p
lexeme_of names (T.Name n) = Named (text_of names n)
lexeme_of names (T.Integer kind z) = Number kind z
lexeme_of names (T.Character z) = Character z
lexeme_of names (T.Text bytes) = Quoted bytes.items

abbrev pub placed_of : Names → Token → Placed
placed_of names t = record { place = t.place; lexeme = lexeme_of names t.kind }

-- how a keyword is spelled
abbrev pub keyword_spelling : Keyword → Text
keyword_spelling K.Auto = codes "auto"
keyword_spelling K.Break = codes "break"
keyword_spelling K.Case = codes "case"
keyword_spelling K.Char = codes "char"
keyword_spelling K.Const = codes "const"
keyword_spelling K.Continue = codes "continue"
keyword_spelling K.Default = codes "default"
keyword_spelling K.Do = codes "do"
keyword_spelling K.Double = codes "double"
keyword_spelling K.Else = codes "else"
keyword_spelling K.Enum = codes "enum"
keyword_spelling K.Extern = codes "extern"
keyword_spelling K.Float = codes "float"
keyword_spelling K.For = codes "for"
keyword_spelling K.Goto = codes "goto"
keyword_spelling K.If = codes "if"
keyword_spelling K.Int = codes "int"
keyword_spelling K.Long = codes "long"
keyword_spelling K.Register = codes "register"
keyword_spelling K.Return = codes "return"
keyword_spelling K.Short = codes "short"
keyword_spelling K.Signed = codes "signed"
keyword_spelling K.Sizeof = codes "sizeof"
keyword_spelling K.Static = codes "static"
keyword_spelling K.Struct = codes "struct"
keyword_spelling K.Switch = codes "switch"
keyword_spelling K.Typedef = codes "typedef"
keyword_spelling K.Union = codes "union"
keyword_spelling K.Unsigned = codes "unsigned"
keyword_spelling K.Void = codes "void"
keyword_spelling K.Volatile = codes "volatile"
keyword_spelling K.While = codes "while"
keyword_spelling K.Inline = codes "inline"
keyword_spelling K.Restrict = codes "restrict"
keyword_spelling K.Cps = codes "cps"
keyword_spelling K.Detached = codes "detached"
keyword_spelling K.CpcSpawn = codes "cpc_spawn"
keyword_spelling K.CpcDetached = codes "cpc_detached"
keyword_spelling K.CpcCondvar = codes "cpc_condvar"

-- how a punctuator is spelled
abbrev pub punctuator_spelling : Punctuator → Text
punctuator_spelling P.LeftParen = codes "("
punctuator_spelling P.RightParen = codes ")"
punctuator_spelling P.LeftBrace = codes "{"
punctuator_spelling P.RightBrace = codes "}"
punctuator_spelling P.LeftBracket = codes "["
punctuator_spelling P.RightBracket = codes "]"
punctuator_spelling P.Semicolon = codes ";"
punctuator_spelling P.Comma = codes ","
punctuator_spelling P.Colon = codes ":"
punctuator_spelling P.Question = codes "?"
punctuator_spelling P.Dot = codes "."
punctuator_spelling P.Arrow = codes "->"
punctuator_spelling P.Increment = codes "++"
punctuator_spelling P.Decrement = codes "--"
punctuator_spelling P.Plus = codes "+"
punctuator_spelling P.Minus = codes "-"
punctuator_spelling P.Star = codes "*"
punctuator_spelling P.Slash = codes "/"
punctuator_spelling P.Percent = codes "%"
punctuator_spelling P.Ampersand = codes "&"
punctuator_spelling P.Bar = codes "|"
punctuator_spelling P.Caret = codes "^"
punctuator_spelling P.Tilde = codes "~"
punctuator_spelling P.Exclamation = codes "!"
punctuator_spelling P.Less = codes "<"
punctuator_spelling P.Greater = codes ">"
punctuator_spelling P.LessEqual = codes "<="
punctuator_spelling P.GreaterEqual = codes ">="
punctuator_spelling P.EqualEqual = codes "=="
punctuator_spelling P.NotEqual = codes "!="
punctuator_spelling P.AndAnd = codes "&&"
punctuator_spelling P.OrOr = codes "||"
punctuator_spelling P.ShiftLeft = codes "<<"
punctuator_spelling P.ShiftRight = codes ">>"
punctuator_spelling P.Equal = codes "="
punctuator_spelling P.PlusEqual = codes "+="
punctuator_spelling P.MinusEqual = codes "-="
punctuator_spelling P.StarEqual = codes "*="
punctuator_spelling P.SlashEqual = codes "/="
punctuator_spelling P.PercentEqual = codes "%="
punctuator_spelling P.AmpersandEqual = codes "&="
punctuator_spelling P.BarEqual = codes "|="
punctuator_spelling P.CaretEqual = codes "^="
punctuator_spelling P.ShiftLeftEqual = codes "<<="
punctuator_spelling P.ShiftRightEqual = codes ">>="

abbrev pub keywords : List Keyword
keywords = K.Auto ∷ K.Break ∷ K.Case ∷ K.Char ∷ K.Const ∷ K.Continue ∷ K.Default ∷ K.Do ∷ K.Double ∷ K.Else ∷ K.Enum ∷ K.Extern ∷ K.Float ∷ K.For ∷ K.Goto ∷ K.If ∷ K.Int ∷ K.Long ∷ K.Register ∷ K.Return ∷ K.Short ∷ K.Signed ∷ K.Sizeof ∷ K.Static ∷ K.Struct ∷ K.Switch ∷ K.Typedef ∷ K.Union ∷ K.Unsigned ∷ K.Void ∷ K.Volatile ∷ K.While ∷ K.Inline ∷ K.Restrict ∷ K.Cps ∷ K.Detached ∷ K.CpcSpawn ∷ K.CpcDetached ∷ K.CpcCondvar ∷ []

abbrev pub punctuators : List Punctuator
punctuators = P.LeftParen ∷ P.RightParen ∷ P.LeftBrace ∷ P.RightBrace ∷ P.LeftBracket ∷ P.RightBracket ∷ P.Semicolon ∷ P.Comma ∷ P.Colon ∷ P.Question ∷ P.Dot ∷ P.Arrow ∷ P.Increment ∷ P.Decrement ∷ P.Plus ∷ P.Minus ∷ P.Star ∷ P.Slash ∷ P.Percent ∷ P.Ampersand ∷ P.Bar ∷ P.Caret ∷ P.Tilde ∷ P.Exclamation ∷ P.Less ∷ P.Greater ∷ P.LessEqual ∷ P.GreaterEqual ∷ P.EqualEqual ∷ P.NotEqual ∷ P.AndAnd ∷ P.OrOr ∷ P.ShiftLeft ∷ P.ShiftRight ∷ P.Equal ∷ P.PlusEqual ∷ P.MinusEqual ∷ P.StarEqual ∷ P.SlashEqual ∷ P.PercentEqual ∷ P.AmpersandEqual ∷ P.BarEqual ∷ P.CaretEqual ∷ P.ShiftLeftEqual ∷ P.ShiftRightEqual ∷ []

-- the keyword that is spelled so
unfoldable pub keyword_of : Text → Option Keyword
keyword_of w = find (λ k. bytes_eq w (keyword_spelling k)) keywords

-- the punctuator that is spelled so
unfoldable pub punctuator_of : Text → Option Punctuator
punctuator_of w = find (λ p. bytes_eq w (punctuator_spelling p)) punctuators
