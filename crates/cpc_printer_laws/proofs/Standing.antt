-- Tokens that stand somewhere, and trees with places behind trees without. Each relation between tokens and trees with
-- places has a version without them: wherever the lexemes stand, some tree with places is read that is the tree.
use Rattle.std.proofs.Common.{◌≡◌, List, [], ◌∷◌, ◌++◌, Option, None, Some, option_map, refl, subst}
use Rattle.cpc_base.specs.Bytes.{Text}
use Rattle.cpc_base.specs.declared.stop.Place.{Place}
use Rattle.cpc_tree.specs.Tokens.{Lexeme, Named, Placed}
use Rattle.cpc_tree.specs.Located.{Ident}
use Rattle.cpc_tree.specs.TypeGrammar.{ident_row}
use Rattle.cpc_tree.specs.TypePrint.{name_row}
use Rattle.cpc_tree.specs.ItemPrint.{lexemes}

-- the tokens are these lexemes, somewhere
pub data Stand : List Lexeme → List Placed → Type 0 where
  nowhere : Stand [] []
  next : (q : Place) (x : Lexeme) (f : List Lexeme) (ts : List Placed) → Stand f ts → Stand (x ∷ f) (record { place = q; lexeme = x } ∷ ts)

stands : (ts : List Placed) → Stand (lexemes ts) ts
stands [] = nowhere
stands (t ∷ ts) = next t.place t.lexeme (lexemes ts) ts (stands ts)

-- tokens with these lexemes stand for them
pub stands_for : (f : List Lexeme) (ts : List Placed) → lexemes ts ≡ f → Stand f ts
stands_for f ts e = subst (λ g. Stand g ts) e (stands ts)

-- it holds wherever the lexemes stand
abbrev pub Everywhere : List Lexeme → (List Placed → Type 0) → Type 0
Everywhere f P = (ts : List Placed) → Stand f ts → P ts

-- some tree with places of which R holds is this tree
abbrev pub Read : {T U : Type 0} → (T → U) → (T → Type 0) → U → Type 0
Read {T} bare R v = (w : T) × (bare w ≡ v) × R w

-- no token
pub on_none : (P : List Placed → Type 0) → P [] → Everywhere [] P
on_none P p ts nowhere = p

-- a token and a row behind it
pub on_token : (x : Lexeme) (g : List Lexeme) (P : List Placed → Type 0) → ((q : Place) (b : List Placed) → Stand g b → P (record { place = q; lexeme = x } ∷ b)) → Everywhere (x ∷ g) P
on_token x g P k ts (next q y h us s) = k q us s

-- a token alone
pub on_last : (x : Lexeme) (P : List Placed → Type 0) → ((q : Place) → P (record { place = q; lexeme = x } ∷ [])) → Everywhere (x ∷ []) P
on_last x P k = on_token x [] P (λ q. on_none (λ b. P (record { place = q; lexeme = x } ∷ b)) (k q))

-- two rows
pub on_both : (f g : List Lexeme) (P : List Placed → Type 0) → ((a : List Placed) → Stand f a → (b : List Placed) → Stand g b → P (a ++ b)) → Everywhere (f ++ g) P
on_both [] g P k ts s = k [] nowhere ts s
on_both (x ∷ f) g P k ts (next q y h us s) = on_both f g (λ vs. P (record { place = q; lexeme = x } ∷ vs)) (λ a m. k (record { place = q; lexeme = x } ∷ a) (next q x f a m)) us s

-- a row, a token and a row
pub on_between : (f : List Lexeme) (x : Lexeme) (g : List Lexeme) (P : List Placed → Type 0) → ((a : List Placed) → Stand f a → (q : Place) (b : List Placed) → Stand g b → P (a ++ record { place = q; lexeme = x } ∷ b))
    → Everywhere (f ++ x ∷ g) P
on_between f x g P k = on_both f (x ∷ g) P (λ a m. on_token x g (λ b. P (a ++ b)) (k a m))

-- a row and a token
pub on_closed : (f : List Lexeme) (x : Lexeme) (P : List Placed → Type 0) → ((a : List Placed) → Stand f a → (q : Place) → P (a ++ record { place = q; lexeme = x } ∷ [])) → Everywhere (f ++ x ∷ []) P
on_closed f x P k = on_both f (x ∷ []) P (λ a m. on_last x (λ b. P (a ++ b)) (k a m))

-- a name that can be absent, and a row behind it
pub on_name : (o : Option Text) (g : List Lexeme) (P : List Placed → Type 0) → ((w : Option Ident) → option_map (λ (x : Ident). x.text) w ≡ o → (b : List Placed) → Stand g b → P (ident_row w ++ b)) → Everywhere (name_row o ++ g) P
on_name None g P k = k None refl
on_name (Some x) g P k = on_token (Named x) g P (λ q. k (Some (record { place = q; text = x })) refl)

-- such a name alone
pub on_last_name : (o : Option Text) (P : List Placed → Type 0) → ((w : Option Ident) → option_map (λ (x : Ident). x.text) w ≡ o → P (ident_row w)) → Everywhere (name_row o) P
on_last_name None P k = on_none P (k None refl)
on_last_name (Some x) P k = on_last (Named x) P (λ q. k (Some (record { place = q; text = x })) refl)
