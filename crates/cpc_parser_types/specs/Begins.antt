-- Which mark or keyword a token is.
use Rattle.std.specs.Prelude.{Bool, true, false, List, [], ◌∷◌}
use Rattle.cpc_tree.specs.declared.token.Keyword.{Keyword}
use Rattle.cpc_tree.specs.declared.token.Keyword.TheVariants as K
use Rattle.cpc_tree.specs.declared.token.Punctuator.{Punctuator}
use Rattle.cpc_tree.specs.declared.token.Punctuator.TheVariants as P
use Rattle.cpc_tree.specs.Tokens.{Lexeme, Word, Mark, Placed}
use Rattle.cpc_parser_types.specs.TypeReaders.{is_name}

-- the same mark
abbrev pub same_mark : Punctuator → Punctuator → Bool
same_mark P.LeftParen P.LeftParen = true
same_mark P.RightParen P.RightParen = true
same_mark P.LeftBrace P.LeftBrace = true
same_mark P.RightBrace P.RightBrace = true
same_mark P.LeftBracket P.LeftBracket = true
same_mark P.RightBracket P.RightBracket = true
same_mark P.Semicolon P.Semicolon = true
same_mark P.Comma P.Comma = true
same_mark P.Colon P.Colon = true
same_mark P.Question P.Question = true
same_mark P.Dot P.Dot = true
same_mark P.Arrow P.Arrow = true
same_mark P.Increment P.Increment = true
same_mark P.Decrement P.Decrement = true
same_mark P.Plus P.Plus = true
same_mark P.Minus P.Minus = true
same_mark P.Star P.Star = true
same_mark P.Slash P.Slash = true
same_mark P.Percent P.Percent = true
same_mark P.Ampersand P.Ampersand = true
same_mark P.Bar P.Bar = true
same_mark P.Caret P.Caret = true
same_mark P.Tilde P.Tilde = true
same_mark P.Exclamation P.Exclamation = true
same_mark P.Less P.Less = true
same_mark P.Greater P.Greater = true
same_mark P.LessEqual P.LessEqual = true
same_mark P.GreaterEqual P.GreaterEqual = true
same_mark P.EqualEqual P.EqualEqual = true
same_mark P.NotEqual P.NotEqual = true
same_mark P.AndAnd P.AndAnd = true
same_mark P.OrOr P.OrOr = true
same_mark P.ShiftLeft P.ShiftLeft = true
same_mark P.ShiftRight P.ShiftRight = true
same_mark P.Equal P.Equal = true
same_mark P.PlusEqual P.PlusEqual = true
same_mark P.MinusEqual P.MinusEqual = true
same_mark P.StarEqual P.StarEqual = true
same_mark P.SlashEqual P.SlashEqual = true
same_mark P.PercentEqual P.PercentEqual = true
same_mark P.AmpersandEqual P.AmpersandEqual = true
same_mark P.BarEqual P.BarEqual = true
same_mark P.CaretEqual P.CaretEqual = true
same_mark P.ShiftLeftEqual P.ShiftLeftEqual = true
same_mark P.ShiftRightEqual P.ShiftRightEqual = true
same_mark p q = false

-- the same keyword
abbrev pub same_word : Keyword → Keyword → Bool
same_word K.Auto K.Auto = true
same_word K.Break K.Break = true
same_word K.Case K.Case = true
same_word K.Char K.Char = true
same_word K.Const K.Const = true
same_word K.Continue K.Continue = true
same_word K.Default K.Default = true
same_word K.Do K.Do = true
same_word K.Double K.Double = true
same_word K.Else K.Else = true
same_word K.Enum K.Enum = true
same_word K.Extern K.Extern = true
same_word K.Float K.Float = true
same_word K.For K.For = true
same_word K.Goto K.Goto = true
same_word K.If K.If = true
same_word K.Int K.Int = true
same_word K.Long K.Long = true
same_word K.Register K.Register = true
same_word K.Return K.Return = true
same_word K.Short K.Short = true
same_word K.Signed K.Signed = true
same_word K.Sizeof K.Sizeof = true
same_word K.Static K.Static = true
same_word K.Struct K.Struct = true
same_word K.Switch K.Switch = true
same_word K.Typedef K.Typedef = true
same_word K.Union K.Union = true
same_word K.Unsigned K.Unsigned = true
same_word K.Void K.Void = true
same_word K.Volatile K.Volatile = true
same_word K.While K.While = true
same_word K.Inline K.Inline = true
same_word K.Restrict K.Restrict = true
same_word K.Cps K.Cps = true
same_word K.Detached K.Detached = true
same_word K.CpcSpawn K.CpcSpawn = true
same_word K.CpcDetached K.CpcDetached = true
same_word K.CpcCondvar K.CpcCondvar = true
same_word p q = false

-- a token that is this mark
abbrev pub is_mark : Punctuator → Lexeme → Bool
is_mark p (Mark q) = same_mark p q
is_mark p k = false

-- a token that is this keyword
abbrev pub is_word : Keyword → Lexeme → Bool
is_word p (Word q) = same_word p q
is_word p k = false

-- tokens that begin with this mark
abbrev pub begins : Punctuator → List Placed → Bool
begins p [] = false
begins p (t ∷ rest) = is_mark p t.lexeme

-- tokens that begin with this keyword
abbrev pub begins_word : Keyword → List Placed → Bool
begins_word p [] = false
begins_word p (t ∷ rest) = is_word p t.lexeme

-- tokens that begin with a name
abbrev pub begins_name : List Placed → Bool
begins_name [] = false
begins_name (t ∷ rest) = is_name t.lexeme
