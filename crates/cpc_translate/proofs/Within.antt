-- The names of a program that was read are in the table of its tokens.
use Rattle.std.proofs.Common.{◌≡◌, ◌<◌, suc, List, [], ◌∷◌, length, All, Err, refl, ap, subst, arith}
use Rattle.cpc_base.specs.declared.names.Name.{Name}
use Rattle.cpc_tree.specs.Erase.{Names, Table, in_table}
use Rattle.cpc_tree.specs.declared.token.Token.{Token}
use Rattle.cpc_tree.specs.declared.token.TokenKind.{TokenKind}
use Rattle.cpc_tree.specs.declared.token.TokenKind.TheVariants as T
use Rattle.cpc_tree.specs.Tokens.{Placed, Named, lexeme_of}
use Rattle.cpc_lexer.specs.Table.{NameBelow, TokenBelow}
use Rattle.cpc_parser_types.specs.Views.{placed}
use Rattle.cpc_base.specs.Bytes.{Text}
use Rattle.cpc_base.specs.declared.stop.Dialect.{Dialect}
use Rattle.cpc_base.specs.declared.stop.Stop.TheVariants.{Memory, Fault}
use Rattle.cpc_base.specs.declared.stop.Stop.{Stop}
use Rattle.std.specs.Prelude.{Result}
use Rattle.cpc_tree.specs.declared.program.Program.{Program}
use Rattle.cpc_tree.specs.Cut.{IsCut, IsLexFault, text_start, place_behind}
use Rattle.cpc_tree.specs.Grammar.{IsParseFault}
use Rattle.cpc_lexer.specs.Faults.{IfFault}
use Rattle.cpc_lexer.specs.declared.fault.LexFault.{LexFault}
use Rattle.cpc_parser_types.specs.declared.refusal.ParseFault.{ParseFault}
use Rattle.cpc_parser.specs.ItemViews as I
use Rattle.cpc_check.proofs.Whole.{error_is, fault_is as stop_is}
use Rattle.cpc_translate.specs.declared.fault.TextFault.{TextFault}
use Rattle.cpc_translate.specs.declared.fault.TextFault.TheVariants.{Lex, Parse}
use Rattle.cpc_translate.specs.Refusals.{IsTextFault, uncut, unread, uncut_as, unread_as}

module _ (table : Table) (names : Names) (same : (n : Name) → n.0 < length table → names n ≡ in_table table n) where
  kind_alike : (kind : TokenKind) → NameBelow (length table) kind → lexeme_of names kind ≡ lexeme_of (in_table table) kind
  kind_alike (T.Name n) below = ap Named (same n below)
  kind_alike (T.Keyword k) below = refl
  kind_alike (T.Punctuator p) below = refl
  kind_alike (T.Integer kind z) below = refl
  kind_alike (T.Character z) below = refl
  kind_alike (T.Text bytes) below = refl

  -- tokens whose names are in a table are the same by texts that agree with it
  pub placed_alike : (tokens : List Token) → All (TokenBelow (length table)) tokens → placed names tokens ≡ placed (in_table table) tokens
  placed_alike [] all = refl
  placed_alike (x ∷ tokens) all =
      let head : lexeme_of names x.kind ≡ lexeme_of (in_table table) x.kind = kind_alike x.kind (all 0 x (omega arith)) in
      let rest : placed names tokens ≡ placed (in_table table) tokens = placed_alike tokens (λ k d lt. all (suc k) d (omega (arith, lt))) in
      λ j. record { place = x.place; lexeme = head j } ∷ rest j

-- what a refusal tells
pub fault_is : {X F : Type 0} (x y : F) → ◌≡◌ {A = Result X (Stop F)} (Err (Fault x)) (Err (Fault y)) → x ≡ y
fault_is x y e = stop_is x y (error_is (Fault x) (Fault y) e)

module _ (dialect : Dialect) (text : Text) (fault : TextFault) where
  -- what stops the cut is the fault that is told
  pub uncut_told : (stop : Stop LexFault) (r : Stop TextFault) → r ≡ uncut_as stop → ◌≡◌ {A = Result Program (Stop TextFault)} (Err r) (Err (Fault fault))
      → IfFault stop (λ f. IsLexFault text dialect f.place f.number) → IsTextFault dialect text fault
  uncut_told stop r e h bad = go stop (cc) bad
    where
      go : (s : Stop LexFault) → uncut_as s ≡ Fault fault → IfFault s (λ f. IsLexFault text dialect f.place f.number) → IsTextFault dialect text fault
      go Memory k b = absurd cc
      go (Fault f) k b = subst (IsTextFault dialect text) (stop_is (Lex f) fault k) (uncut f b)

  -- what stops the reading of the tokens is the fault that is told
  pub unread_told : (list : List Placed) → IsCut text dialect list → (stop : Stop ParseFault) (r : Stop TextFault) → r ≡ unread_as stop → ◌≡◌ {A = Result Program (Stop TextFault)} (Err r) (Err (Fault fault))
      → I.IfFault {X = Program} (Err stop) (λ f. IsParseFault dialect list (place_behind text_start text) f.place f.number) → IsTextFault dialect text fault
  unread_told list cut stop r e h bad = go stop (cc) bad
    where
      go : (s : Stop ParseFault) → unread_as s ≡ Fault fault → I.IfFault {X = Program} (Err s) (λ f. IsParseFault dialect list (place_behind text_start text) f.place f.number) → IsTextFault dialect text fault
      go Memory k b = absurd cc
      go (Fault f) k b = subst (IsTextFault dialect text) (stop_is (Parse f) fault k) (unread f list cut b)
