-- What is put of the parts of items.
use Rattle.std.specs.Prelude.{Bool, List, [], ◌∷◌, ◌++◌, Some}
use Rattle.cpc_tree.specs.declared.token.Punctuator.TheVariants as P
use Rattle.cpc_tree.specs.Tokens.{Lexeme, Mark}
use Rattle.cpc_tree.specs.Syntax.{Variable, Function}
use Rattle.cpc_tree.specs.TypePrint.{base_row, declarator_row}
use Rattle.cpc_tree.specs.ItemPrint.{mode_row, head_row, body_row}

-- a field of a struct
abbrev pub field_row : Bool → Variable → List Lexeme
field_row tight x = base_row x.type ++ (declarator_row tight (Some x.called) x.type ++ Mark P.Semicolon ∷ [])

-- a function with its body
abbrev pub function_row : Bool → Function → List Lexeme
function_row tight f = mode_row f.mode ++ (head_row tight f.called f.result f.parameters ++ body_row tight f.body)
