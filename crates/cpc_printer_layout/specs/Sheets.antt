-- Tokens that are to be printed, by a table of names.
use Rattle.std.specs.Prelude.{List, map}
use Rattle.cpc_tree.specs.Erase.{Names, text_of}
use Rattle.cpc_tree.specs.Tokens.{Word, Mark, Named, Number, Character, Quoted}
use Rattle.cpc_tree.specs.Tokens as T
use Rattle.cpc_tree.specs.TypePrint.{void_name}
use Rattle.cpc_printer_layout.specs.declared.sheet.Lexeme.{Lexeme}
use Rattle.cpc_printer_layout.specs.declared.sheet.Lexeme.TheVariants as L
use Rattle.cpc_printer_layout.specs.declared.sheet.Sheet.{Sheet}

-- what a token is by a table of names
abbrev pub lexeme_of : Names → Lexeme → T.Lexeme
lexeme_of names (L.Keyword k) = Word k
lexeme_of names (L.Punctuator p) = Mark p
lexeme_of names (L.Name n) = Named (text_of names n)
lexeme_of names L.Filler = Named void_name
lexeme_of names (L.Integer kind z) = Number kind z
lexeme_of names (L.Character z) = Character z
lexeme_of names (L.Text bytes) = Quoted bytes.items

-- the tokens of a sheet
abbrev pub row_of : Names → Sheet → List T.Lexeme
row_of names sheet = map (λ piece. lexeme_of names piece.lexeme) sheet.pieces.items
