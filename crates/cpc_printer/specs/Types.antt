-- What the parts of declarations are by a table of names.
use Rattle.std.specs.Prelude.{Bool, List, [], ◌∷◌, ◌++◌, pos, Option, Some, None}
use Rattle.cpc_base.specs.Bytes.{Text}
use Rattle.cpc_tree.specs.Erase.{Names, text_of, type_of}
use Rattle.cpc_tree.specs.Syntax.{Parameter, Ty, TyCode, TyArray, Tys, NoTy, AndTy}
use Rattle.cpc_tree.specs.Tokens.{Lexeme, Mark, Number}
use Rattle.cpc_tree.specs.TypePrint.{stars, length_kind, list_row, param_row, void_name}
use Rattle.cpc_tree.specs.declared.token.Punctuator.TheVariants as P
use Rattle.cpc_tree.specs.declared.program.CType.{CType}
use Rattle.cpc_printer.specs.declared.types.Declared.{Declared}
use Rattle.cpc_printer.specs.declared.types.Declared.TheVariants as D

-- the name of what is declared, where it has one
abbrev pub called_by : Names → Declared → Option Text
called_by names (D.Named n) = Some (text_of names n)
called_by names D.Unnamed = None
called_by names D.Filler = Some void_name

-- the types of a Vec
abbrev pub listed_types : Names → List CType → Tys
listed_types names [] = NoTy
listed_types names (t ∷ ts) = AndTy (type_of names t) (listed_types names ts)

-- what a declarator has before its name
abbrev pub before_row : Ty → List Lexeme
before_row (TyArray t n) = stars t
before_row (TyCode t ts) = stars t ++ Mark P.LeftParen ∷ Mark P.Star ∷ []
before_row t = stars t

-- what it has behind its name
abbrev pub behind_row : Bool → Ty → List Lexeme
behind_row tight (TyArray t n) = Mark P.LeftBracket ∷ Number (length_kind n) (pos n) ∷ Mark P.RightBracket ∷ []
behind_row tight (TyCode t ts) = Mark P.RightParen ∷ Mark P.LeftParen ∷ (list_row tight ts ++ Mark P.RightParen ∷ [])
behind_row tight t = []

-- a parameter of a function
abbrev pub one_param_row : Bool → Parameter → List Lexeme
one_param_row tight p = param_row tight p.called p.type

-- further parameters of a function, each behind a comma
abbrev pub further_row : Bool → List Parameter → List Lexeme
further_row tight [] = []
further_row tight (p ∷ ps) = Mark P.Comma ∷ (one_param_row tight p ++ further_row tight ps)
