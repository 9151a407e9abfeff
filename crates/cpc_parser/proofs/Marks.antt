-- Single marks of items: a sample of each, and what a token is that passes its test.
use Rattle.std.proofs.Common.{◌≡◌, true, refl, ap}
use Rattle.cpc_tree.specs.declared.token.Punctuator.TheVariants as P
use Rattle.cpc_tree.specs.Tokens.{Lexeme, Mark, Placed}
use Rattle.cpc_tree.specs.TypeGrammar.{mark}
use Rattle.cpc_parser_reading.specs.Exact.{Sample}
use Rattle.cpc_parser_types.specs.Views.{lexeme}
use Rattle.cpc_parser_types.proofs.Bases.{token}
use Rattle.cpc_parser_types.proofs.BaseWords.{at}
use Rattle.cpc_parser.specs.ItemReaders.{is_semicolon, is_equal, is_brace, is_unbrace}

pub semicolons : Sample lexeme is_semicolon
semicolons = record { token = token (Mark P.Semicolon); holds = refl }

pub equals : Sample lexeme is_equal
equals = record { token = token (Mark P.Equal); holds = refl }

pub braces : Sample lexeme is_brace
braces = record { token = token (Mark P.LeftBrace); holds = refl }

pub unbraces : Sample lexeme is_unbrace
unbraces = record { token = token (Mark P.RightBrace); holds = refl }

semicolon_in : (k : Lexeme) → is_semicolon k ≡ true → k ≡ Mark P.Semicolon
semicolon_in (Mark P.Semicolon) e = refl
semicolon_in k e = absurd cc

equal_in : (k : Lexeme) → is_equal k ≡ true → k ≡ Mark P.Equal
equal_in (Mark P.Equal) e = refl
equal_in k e = absurd cc

brace_in : (k : Lexeme) → is_brace k ≡ true → k ≡ Mark P.LeftBrace
brace_in (Mark P.LeftBrace) e = refl
brace_in k e = absurd cc

unbrace_in : (k : Lexeme) → is_unbrace k ≡ true → k ≡ Mark P.RightBrace
unbrace_in (Mark P.RightBrace) e = refl
unbrace_in k e = absurd cc

pub semicolon_is : (t : Placed) → is_semicolon t.lexeme ≡ true → t ≡ mark t.place P.Semicolon
semicolon_is t e = ap (at t.place) (semicolon_in t.lexeme e)

pub equal_is : (t : Placed) → is_equal t.lexeme ≡ true → t ≡ mark t.place P.Equal
equal_is t e = ap (at t.place) (equal_in t.lexeme e)

pub brace_is : (t : Placed) → is_brace t.lexeme ≡ true → t ≡ mark t.place P.LeftBrace
brace_is t e = ap (at t.place) (brace_in t.lexeme e)

pub unbrace_is : (t : Placed) → is_unbrace t.lexeme ≡ true → t ≡ mark t.place P.RightBrace
unbrace_is t e = ap (at t.place) (unbrace_in t.lexeme e)
