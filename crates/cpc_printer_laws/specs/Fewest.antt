-- What is printed against what was read: no parenthesis of the print can be dropped, and its tokens can be spelled.
use Rattle.std.specs.Prelude.{ℕ, ◌+◌, ◌≤◌, Bool, List, [], ◌∷◌, map, All}
use Rattle.cpc_base.specs.declared.stop.Dialect.{Dialect}
use Rattle.cpc_tree.specs.declared.token.Punctuator.TheVariants as P
use Rattle.cpc_tree.specs.Tokens.{Lexeme, Mark, Placed}
use Rattle.cpc_tree.specs.Spelling.{IsSpellable}
use Rattle.cpc_tree.specs.Located.{LItem, bare_item}
use Rattle.cpc_tree.specs.ItemGrammar.{ReadsItems}
use Rattle.cpc_tree.specs.ItemPrint.{program_row, lexemes}

-- whether a token is an opening parenthesis, as a number
abbrev pub left : Lexeme → ℕ
left (Mark P.LeftParen) = 1
left x = 0

-- how many opening parentheses there are
abbrev pub lefts : List Lexeme → ℕ
lefts [] = 0
lefts (x ∷ f) = left x + lefts f

-- Of all tokens that are read as a program, none have fewer parentheses than its print in either style.
abbrev pub PrintsFewest : Type 0
PrintsFewest = (tight : Bool) (list : List Placed) (xs : List LItem) (h : ℕ) → ReadsItems list xs h → lefts (program_row tight (map bare_item xs)) ≤ lefts (lexemes list)

-- The print of a program that was read from tokens that can be spelled is of such tokens again.
abbrev pub ReadSpellable : Type 0
ReadSpellable = (dialect : Dialect) (tight : Bool) (list : List Placed) (xs : List LItem) (h : ℕ) → All (IsSpellable dialect) (lexemes list) → ReadsItems list xs h
    → All (IsSpellable dialect) (program_row tight (map bare_item xs))
