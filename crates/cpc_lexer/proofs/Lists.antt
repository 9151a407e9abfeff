-- The list of tokens and the table of names as the text is cut, piece by piece.
use Rattle.std.proofs.Common.{◌≡◌, ℕ, suc, ◌+◌, ◌≤◌, true, false, cond, List, [], ◌∷◌, ◌++◌, length, map, take, drop, get_or, Option, Some, None, refl, sym, ap, subst, ◌∙◌, arith, append_assoc, length-append}
use Rattle.std.specs.Prelude.{All, IfSome, bytes_eq}
use Rattle.std.specs.List.{list_any}
use Rattle.std.proofs.lemmas.List.{take-append-drop, length-take-le, length-drop, append-nil, map-append}
use Rattle.std.proofs.Math.ListN.{get_or-append}
use Rattle.std.proofs.lemmas.List.Elements.{All-append, All-cons, All-nil}
use Rattle.cpc_base.specs.Bytes.{Text}
use Rattle.cpc_base.specs.Texts.{with_text}
use Rattle.cpc_base.specs.declared.stop.Place.{Place}
use Rattle.cpc_base.specs.declared.stop.Dialect.{Dialect}
use Rattle.cpc_tree.specs.Erase.{Table, in_table}
use Rattle.cpc_tree.specs.declared.token.TokenKind.{TokenKind}
use Rattle.cpc_tree.specs.declared.token.TokenKind.TheVariants as T
use Rattle.cpc_tree.specs.declared.token.Token.{Token}
use Rattle.cpc_tree.specs.Tokens.{Lexeme, Named, Placed, lexeme_of, placed_of}
use Rattle.cpc_tree.specs.Pieces.{Piece, Space}
use Rattle.cpc_tree.specs.Pieces as S
use Rattle.cpc_tree.specs.Cut.{text_start, place_behind, IsLongest, Row, nothing, a_space, a_token}
use Rattle.cpc_lexer.proofs.Places.{behind_near}
use Rattle.cpc_lexer.specs.Fronts.{IsLongestFront, kind_piece}
use Rattle.cpc_lexer.specs.Table.{with_lexeme, with_tokens, with_kind, HasGrown, NameBelow, TokenBelow, kept}

-- a row with one more piece
row_space : {dialect : Dialect} {p q : Place} {t rest : Text} {list : List Placed} → Row dialect p t list q rest → (w text : Text) → rest ≡ w ++ text → IsLongest dialect w text Space → Row dialect p t list (place_behind q w) text
row_space {dialect} (nothing p t) w text e l = subst (λ u. Row dialect p u [] (place_behind p w) text) (sym e) (a_space w p (place_behind p w) text text [] l (nothing _ text))
row_space (a_space v p q u rest list k row) w text e l = a_space v p (place_behind q w) u text list k (row_space row w text e l)
row_space (a_token v x p q u rest list k row) w text e l = a_token v x p (place_behind q w) u text list k (row_space row w text e l)

row_token : {dialect : Dialect} {p q : Place} {t rest : Text} {list : List Placed} → Row dialect p t list q rest → (w text : Text) (x : Lexeme) → rest ≡ w ++ text → IsLongest dialect w text (S.Token x) → Row dialect p t (list ++ record { place = q; lexeme = x } ∷ []) (place_behind q w) text
row_token {dialect} (nothing p t) w text x e l = subst (λ u. Row dialect p u (record { place = p; lexeme = x } ∷ []) (place_behind p w) text) (sym e) (a_token w x p (place_behind p w) text text [] l (nothing _ text))
row_token (a_space v p q u rest list k row) w text x e l = a_space v p (place_behind q w) u text _ k (row_token row w text x e l)
row_token (a_token v y p q u rest list k row) w text x e l = a_token v y p (place_behind q w) u text _ k (row_token row w text x e l)

-- the table only grows
text_grows : (names : Table) (text : Text) → HasGrown names (with_text names text)
text_grows names text = elim (list_any (bytes_eq text) names) as (λ p. HasGrown names (cond p names (names ++ text ∷ []))) [ true ↦ ([], sym (append-nil names)) | false ↦ (text ∷ [], refl) ]

text_length : (names : Table) (text : Text) → length (with_text names text) ≤ length names + 1
text_length names text = elim (list_any (bytes_eq text) names) as (λ p. length (cond p names (names ++ text ∷ [])) ≤ length names + 1) [ true ↦ omega arith | false ↦ omega (arith, length-append names (text ∷ [])) ]

lexeme_grows : (names : Table) (x : Lexeme) → HasGrown names (with_lexeme names x)
lexeme_grows names (Named text) = text_grows names text
lexeme_grows names _ = ([], sym (append-nil names))

lexeme_length : (names : Table) (x : Lexeme) → length (with_lexeme names x) ≤ length names + 1
lexeme_length names (Named text) = text_length names text
lexeme_length names _ = omega arith

grown_more : (a b c : Table) → HasGrown a b → HasGrown b c → HasGrown a c
grown_more a b c (v, e) (w, f) = (v ++ w, f ∙ (ap (λ u. u ++ w) e ∙ append_assoc a v w))

pub tokens_grow : (names : Table) (list : List Placed) → HasGrown names (with_tokens names list)
tokens_grow names [] = ([], sym (append-nil names))
tokens_grow names (x ∷ list) = grown_more names (with_lexeme names x.lexeme) (with_tokens (with_lexeme names x.lexeme) list) (lexeme_grows names x.lexeme) (tokens_grow (with_lexeme names x.lexeme) list)

with_more : (names : Table) (list : List Placed) (x : Placed) → with_tokens names (list ++ x ∷ []) ≡ with_lexeme (with_tokens names list) x.lexeme
with_more names [] x = refl
with_more names (y ∷ list) x = with_more (with_lexeme names y.lexeme) list x

-- in a table that has grown a token means the same
kind_grown : (names more : Table) (kind : TokenKind) → NameBelow (length names) kind → lexeme_of (in_table (names ++ more)) kind ≡ lexeme_of (in_table names) kind
kind_grown names more (T.Name name) lt = ap (λ u. Named u) (get_or-append names more [] name.0 lt)
kind_grown names more _ lt = refl

placed_grown : (names more : Table) (tokens : List Token) → All (TokenBelow (length names)) tokens → map (placed_of (in_table (names ++ more))) tokens ≡ map (placed_of (in_table names)) tokens
placed_grown names more [] all = refl
placed_grown names more (x ∷ tokens) all =
    let head : lexeme_of (in_table (names ++ more)) x.kind ≡ lexeme_of (in_table names) x.kind = kind_grown names more x.kind (all 0 x (omega arith)) in
    let rest : map (placed_of (in_table (names ++ more))) tokens ≡ map (placed_of (in_table names)) tokens = placed_grown names more tokens (λ k d lt. all (suc k) d (omega arith)) in
    cc

below_more : (m n : ℕ) (kind : TokenKind) → m ≤ n → NameBelow m kind → NameBelow n kind
below_more m n (T.Name name) le lt = omega arith
below_more m n _ le lt = tt

-- what the loop keeps: the text is a row of the tokens so far, up to a place and what is left there
pub record IsCutUpTo (dialect : Dialect) (text : Text) (old names : Table) (tokens : List Token) (place : Place) (rest : Text) : Type 0 where
  pub row : Row dialect text_start text (map (placed_of (in_table names)) tokens) place rest
  pub table : names ≡ with_tokens old (map (placed_of (in_table names)) tokens)
  pub below : All (TokenBelow (length names)) tokens
  pub room : length names + length rest ≤ length old + length text
  pub line : place.line + length rest ≤ length text + 1
  pub column : place.column + length rest ≤ length text + 1

pub cut_begun : (dialect : Dialect) (text : Text) (names : Table) → IsCutUpTo dialect text names names [] text_start text
cut_begun dialect text names = record {
  row = nothing text_start text;
  table = refl;
  below = All-nil _;
  room = omega arith;
  line = omega arith;
  column = omega arith;
}

grown_length : (names : Table) (x : Lexeme) (names' : Table) → names' ≡ with_lexeme names x → length names' ≤ length names + 1
grown_length names x names' e = rw e (lexeme_length names x)

-- in the grown table the tokens so far are the same
same_tokens : (names names' : Table) (tokens : List Token) → HasGrown names names' → All (TokenBelow (length names)) tokens → map (placed_of (in_table names')) tokens ≡ map (placed_of (in_table names)) tokens
same_tokens names names' tokens (more, e) all = rw e (placed_grown names more tokens all)

below_grown : (names names' : Table) (tokens : List Token) → HasGrown names names' → All (TokenBelow (length names)) tokens → All (TokenBelow (length names')) tokens
below_grown names names' tokens (more, e) all = λ k d lt. below_more (length names) (length names') (get_or tokens k d).kind (omega (arith, ap length e, length-append names more)) (all k d lt)

left_of : (dialect : Dialect) (rest : Text) (n : ℕ) (x : Piece) → IsLongestFront dialect rest n x → rest ≡ take n rest ++ drop n rest
left_of dialect rest n x l = sym (take-append-drop n rest)

module _ (dialect : Dialect) (text : Text) (old names : Table) (tokens : List Token) (place : Place) (rest : Text) (n : ℕ) (so_far : IsCutUpTo dialect text old names tokens place rest) where
  near : n ≤ length rest → ((place_behind place (take n rest)).line + length (drop n rest) ≤ length text + 1) × ((place_behind place (take n rest)).column + length (drop n rest) ≤ length text + 1)
  near le =
      let b = behind_near place (take n rest) in
      (omega (arith, b.0, so_far.line, length-take-le n rest le, length-drop n rest), omega (arith, b.1, so_far.column, length-take-le n rest le, length-drop n rest))

  with_space : IsLongestFront dialect rest n Space → IsCutUpTo dialect text old names tokens (place_behind place (take n rest)) (drop n rest)
  with_space l = record {
    row = row_space so_far.row (take n rest) (drop n rest) (left_of dialect rest n Space l) l.longest;
    table = so_far.table;
    below = so_far.below;
    room = omega (arith, so_far.room, length-drop n rest);
    line = (near l.within).0;
    column = (near l.within).1;
  }

  with_token : (names' : Table) (kind : TokenKind) → IsLongestFront dialect rest n (S.Token (lexeme_of (in_table names') kind)) → names' ≡ with_lexeme names (lexeme_of (in_table names') kind) → NameBelow (length names') kind
      → IsCutUpTo dialect text old names' (tokens ++ record { place = place; kind = kind } ∷ []) (place_behind place (take n rest)) (drop n rest)
  with_token names' kind l table below =
      let x : Placed = record { place = place; lexeme = lexeme_of (in_table names') kind } in
      let grown : HasGrown names names' = subst (λ u. HasGrown names u) (sym table) (lexeme_grows names (lexeme_of (in_table names') kind)) in
      let same : map (placed_of (in_table names')) tokens ≡ map (placed_of (in_table names)) tokens = same_tokens names names' tokens grown so_far.below in
      let list : map (placed_of (in_table names')) (tokens ++ record { place = place; kind = kind } ∷ []) ≡ map (placed_of (in_table names)) tokens ++ x ∷ [] = map-append (placed_of (in_table names')) tokens _ ∙ ap (λ u. u ++ x ∷ []) same in
      record {
        row = rw list (row_token so_far.row (take n rest) (drop n rest) (lexeme_of (in_table names') kind) (left_of dialect rest n _ l) l.longest);
        table = table ∙ (ap (λ u. with_lexeme u (lexeme_of (in_table names') kind)) so_far.table ∙ sym (ap (λ u. with_tokens old u) list ∙ with_more old (map (placed_of (in_table names)) tokens) x));
        below = All-append (TokenBelow (length names')) tokens (record { place = place; kind = kind } ∷ []) (below_grown names names' tokens grown so_far.below) (All-cons (TokenBelow (length names')) (record { place = place; kind = kind }) [] below (All-nil (TokenBelow (length names'))));
        room = omega (arith, so_far.room, length-drop n rest, grown_length names (lexeme_of (in_table names') kind) names' table, l.some, l.within);
        line = (near l.within).0;
        column = (near l.within).1;
      }

  -- one more piece
  pub cut_goes : (names' : Table) (kind : Option TokenKind) → IsLongestFront dialect rest n (kind_piece names' kind) → names' ≡ with_kind names names' kind → IfSome kind (NameBelow (length names'))
      → IsCutUpTo dialect text old names' (tokens ++ kept place kind) (place_behind place (take n rest)) (drop n rest)
  cut_goes names' None l table below = rw (table, append-nil tokens) (with_space l)
  cut_goes names' (Some kind) l table below = with_token names' kind l table below

  pub cut_grown : (names' : Table) (kind : Option TokenKind) → names' ≡ with_kind names names' kind → HasGrown old names'
  cut_grown names' kind table = grown_more old names names' (subst (λ u. HasGrown old u) (sym so_far.table) (tokens_grow old (map (placed_of (in_table names)) tokens))) (subst (λ u. HasGrown names u) (sym table) (kind_grows kind)) where
    kind_grows : (kind : Option TokenKind) → HasGrown names (with_kind names names' kind)
    kind_grows None = ([], sym (append-nil names))
    kind_grows (Some kind) = lexeme_grows names (lexeme_of (in_table names') kind)

  pub cut_kept : HasGrown old names
  cut_kept = subst (λ u. HasGrown old u) (sym so_far.table) (tokens_grow old (map (placed_of (in_table names)) tokens))

  pub cut_room : (names' : Table) (kind : Option TokenKind) → IsLongestFront dialect rest n (kind_piece names' kind) → names' ≡ with_kind names names' kind → length names' ≤ length old + length text
  cut_room names' None l table = omega (arith, ap length table, so_far.room)
  cut_room names' (Some kind) l table = omega (arith, so_far.room, grown_length names (lexeme_of (in_table names') kind) names' table, l.some, l.within)
