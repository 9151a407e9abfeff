-- The names of a program that was read are in the table of its tokens.
use Rattle.std.proofs.Common.{◌≡◌, ◌<◌, suc, List, [], ◌∷◌, length, All, refl, ap, arith}
use Rattle.cpc_base.specs.declared.names.Name.{Name}
use Rattle.cpc_tree.specs.Erase.{Names, Table, in_table}
use Rattle.cpc_tree.specs.declared.token.Token.{Token}
use Rattle.cpc_tree.specs.declared.token.TokenKind.{TokenKind}
use Rattle.cpc_tree.specs.declared.token.TokenKind.TheVariants as T
use Rattle.cpc_tree.specs.Tokens.{Named, lexeme_of}
use Rattle.cpc_lexer.specs.Table.{NameBelow, TokenBelow}
use Rattle.cpc_parser_types.specs.Views.{placed}

module _ (table : Table) (names : Names) (same : (n : Name) → n.0 < length table → names n ≡ in_table table n) where
  kind_alike : (kind : TokenKind) → NameBelow (length table) kind → lexeme_of names kind ≡ lexeme_of (in_table table) kind
  kind_alike (T.Name n) below = ap Named (same n below)
  kind_alike (T.Keyword k) below = refl
  kind_alike (T.Punctuator p) below = refl
  kind_alike (T.Integer kind z) below = refl
  kind_alike (T.Character z) below = refl
  kind_alike (T.Text bytes) below = refl

  -- tokens whose names are in a table are the same by texts that agree with it
  pub placed_alike : (tokens : List Token) → All (TokenBelow (length table)) tokens → placed names tokens ≡ placed (in_table table) tokens
  placed_alike [] all = refl
  placed_alike (x ∷ tokens) all =
      let head : lexeme_of names x.kind ≡ lexeme_of (in_table table) x.kind = kind_alike x.kind (all 0 x (omega arith)) in
      let rest : placed names tokens ≡ placed (in_table table) tokens = placed_alike tokens (λ k d lt. all (suc k) d (omega (arith, lt))) in
      λ j. record { place = x.place; lexeme = head j } ∷ rest j
