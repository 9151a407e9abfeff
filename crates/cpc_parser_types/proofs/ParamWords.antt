-- What the readers of parameters read is what the grammar has.
use Rattle.std.proofs.Common.{◌≡◌, ℕ, ◌+◌, true, List, [], ◌∷◌, ◌++◌, Option, Some, None, ℤ, max, refl, sym, ap, subst, ◌∙◌, append_assoc, arith}
use Rattle.std.proofs.lemmas.List.{append-nil}
use Rattle.cpc_num.specs.declared.kinds.Kind.{Kind}
use Rattle.cpc_tree.specs.declared.token.Punctuator.TheVariants as P
use Rattle.cpc_base.specs.declared.stop.Place.{Place}
use Rattle.cpc_base.proofs.Lists.{none_not_some}
use Rattle.cpc_base.proofs.Truth.{by_false_true}
use Rattle.cpc_tree.specs.Tokens.{Lexeme, Mark, Named, Number, Placed}
use Rattle.cpc_tree.specs.Located.{Ident, LParameter}
use Rattle.cpc_tree.specs.Syntax.{Ty, TyPointer, TyCode}
use Rattle.cpc_tree.specs.TypeGrammar.{mark, named, number, ident_row, types, ReadsBase, ReadsStars, ReadsParam, array_param, sized_param, code_param}
use Rattle.cpc_parser_reading.specs.Phrase.{Expect, One, Optional}
use Rattle.cpc_parser_types.specs.TypeReaders.{Ending, ident_of, Piece, Open, Known, Closed, Going, Name, Brackets, Code, piece_class, Part, piece_type, piece_name, pieced, is_star, is_left, is_right, is_unbracket, is_number, ident_at}
use Rattle.cpc_parser_types.proofs.Bases.{Typed}
use Rattle.cpc_parser_types.proofs.BaseWords.{at, named_is, of_typed}
use Rattle.cpc_parser_types.proofs.Params.{Listed, Parts, right_mark}

-- what has been read of a parameter, in the words of the grammar
abbrev pub Shaped : List Placed → Piece → ℕ → Type 0
Shaped f (Open v) h = Typed f v h
Shaped f (Known t x) h = (g : List Placed) × (e : Ending) × (f ≡ g ++ named x ∷ []) × Typed g (t, e) h
Shaped f (Closed t o) h = ReadsParam f (record { called = o; type = t }) h

-- single marks
pub unbracket_lexeme : (k : Lexeme) → is_unbracket k ≡ true → k ≡ Mark P.RightBracket
unbracket_lexeme (Mark P.RightBracket) e = refl
unbracket_lexeme k e = by_false_true e

pub left_lexeme : (k : Lexeme) → is_left k ≡ true → k ≡ Mark P.LeftParen
left_lexeme (Mark P.LeftParen) e = refl
left_lexeme k e = by_false_true e

star_lexeme : (k : Lexeme) → is_star k ≡ true → k ≡ Mark P.Star
star_lexeme (Mark P.Star) e = refl
star_lexeme k e = by_false_true e

pub unbracket_is : (t : Placed) → is_unbracket t.lexeme ≡ true → t ≡ mark t.place P.RightBracket
unbracket_is t e = ap (λ k. at t.place k) (unbracket_lexeme t.lexeme e)

pub right_is : (t : Placed) → is_right t.lexeme ≡ true → t ≡ mark t.place P.RightParen
right_is t e = ap (λ k. at t.place k) (right_mark t.lexeme e)

pub left_is : (t : Placed) → is_left t.lexeme ≡ true → t ≡ mark t.place P.LeftParen
left_is t e = ap (λ k. at t.place k) (left_lexeme t.lexeme e)

pub star_mark : (t : Placed) → is_star t.lexeme ≡ true → t ≡ mark t.place P.Star
star_mark t e = ap (λ k. at t.place k) (star_lexeme t.lexeme e)

number_in : (q : Place) (k : Lexeme) → is_number k ≡ true → (kind : Kind) × (z : ℤ) × (at q k ≡ number q kind z)
number_in q (Number kind z) e = (kind, z, refl)
number_in q k e = by_false_true e

number_is : (t : Placed) → is_number t.lexeme ≡ true → (kind : Kind) × (z : ℤ) × (t ≡ number t.place kind z)
number_is t e = number_in t.place t.lexeme e

name_in : (p : Piece) (q : Place) (k : Lexeme) → piece_class p k ≡ Some Name → (v : Ty × Ending) × (p ≡ Open v) × (at q k ≡ named (ident_at (at q k)))
name_in (Open v) q (Named x) e = (v, refl, refl)
name_in (Open v) q (Mark P.LeftBracket) e = absurd cc
name_in (Open v) q (Mark P.LeftParen) e = absurd cc
name_in (Known t x) q (Mark P.LeftBracket) e = absurd cc
name_in p q k e = absurd (none_not_some Name e)

name_is : (p : Piece) (t : Placed) → piece_class p t.lexeme ≡ Some Name → (v : Ty × Ending) × (p ≡ Open v) × (t ≡ named (ident_at t))
name_is p t e = name_in p t.place t.lexeme e

-- a type with a name or none
pub data Naming : Piece → Type 0 where
  without : (v : Ty × Ending) → Naming (Open v)
  with_name : (t : Ty) (x : Ident) → Naming (Known t x)

brackets_in : (p : Piece) (q : Place) (k : Lexeme) → piece_class p k ≡ Some Brackets → Naming p × (at q k ≡ mark q P.LeftBracket)
brackets_in (Open v) q (Mark P.LeftBracket) e = (without v, refl)
brackets_in (Known t x) q (Mark P.LeftBracket) e = (with_name t x, refl)
brackets_in (Open v) q (Named x) e = absurd cc
brackets_in (Open v) q (Mark P.LeftParen) e = absurd cc
brackets_in p q k e = absurd (none_not_some Brackets e)

brackets_is : (p : Piece) (t : Placed) → piece_class p t.lexeme ≡ Some Brackets → Naming p × (t ≡ mark t.place P.LeftBracket)
brackets_is p t e = brackets_in p t.place t.lexeme e

code_in : (p : Piece) (q : Place) (k : Lexeme) → piece_class p k ≡ Some Code → (v : Ty × Ending) × (p ≡ Open v) × (at q k ≡ mark q P.LeftParen)
code_in (Open v) q (Mark P.LeftParen) e = (v, refl, refl)
code_in (Open v) q (Named x) e = absurd cc
code_in (Open v) q (Mark P.LeftBracket) e = absurd cc
code_in (Known t x) q (Mark P.LeftBracket) e = absurd cc
code_in p q k e = absurd (none_not_some Code e)

code_is : (p : Piece) (t : Placed) → piece_class p t.lexeme ≡ Some Code → (v : Ty × Ending) × (p ≡ Open v) × (t ≡ mark t.place P.LeftParen)
code_is p t e = code_in p t.place t.lexeme e

-- a type, and the name that may stand behind it
abbrev pub Named_type : List Placed → Piece → ℕ → Type 0
Named_type f p h = (a : List Placed) × (g : List Placed) × (base : Ty) × (f ≡ a ++ (g ++ ident_row (piece_name p))) × ReadsBase a base 0 × ReadsStars base g (piece_type p) h

pub named_type : (f : List Placed) (p : Piece) (h : ℕ) → Naming p → Shaped f p h → Named_type f p h
named_type f p h (without v) r = let b = of_typed f v h r in (b.0, b.1, b.2, b.3 ∙ ap (λ z. b.0 ++ z) (sym (append-nil b.1)), b.4, b.5)
named_type f p h (with_name t x) (g, e, i, r) =
    let b = of_typed g (t, e) h r in
    (b.0, b.1, b.2, i ∙ (ap (λ z. z ++ named x ∷ []) b.3 ∙ append_assoc b.0 b.1 (named x ∷ [])), b.4, b.5)

-- brackets behind a type
bracketed : (f g : List Placed) (q : Place) (u : Placed) (p : Piece) (o : Option (Unit {0})) (h j : ℕ) → Named_type f p h → Optional (Expect (λ t. is_number t.lexeme)) g o j → is_unbracket u.lexeme ≡ true
    → ReadsParam (f ++ mark q P.LeftBracket ∷ (g ++ u ∷ [])) (record { called = piece_name p; type = TyPointer (piece_type p) }) h
bracketed f g q u p None h j (a, s, base, e, b, r) (e1, z) c =
    let l : List Placed = mark q P.LeftBracket ∷ mark u.place P.RightBracket ∷ [] in
    rw (e, e1, unbracket_is u c, append_assoc a (s ++ ident_row (piece_name p)) l, append_assoc s (ident_row (piece_name p)) l)
    (array_param a s base (piece_type p) (piece_name p) q u.place 0 h b r)
bracketed f g q u p (Some x) h j (a, s, base, e, b, r) (y, e1, n, z) c =
    let k = number_is y n in
    let l : List Placed = mark q P.LeftBracket ∷ number y.place k.0 k.1 ∷ mark u.place P.RightBracket ∷ [] in
    rw (e, e1, k.2, unbracket_is u c, append_assoc a (s ++ ident_row (piece_name p)) l, append_assoc s (ident_row (piece_name p)) l)
    (sized_param a s base (piece_type p) (piece_name p) q u.place y.place k.0 k.1 0 h b r)

-- the types of the parameters of a pointer to a function, behind its opening mark
coded : (f : List Placed) (v : Ty × Ending) (o : Option Ident) (n : List Placed) (ps : List LParameter) (l : List Placed) (q r s u : Place) (h i j : ℕ) → Typed f v h → Optional (One ident_of) n o i → Listed l ps j
    → ReadsParam (f ++ mark q P.LeftParen ∷ mark r P.Star ∷ (n ++ mark s P.RightParen ∷ mark u P.LeftParen ∷ l)) (record { called = o; type = TyCode v.0 (types ps) }) (max h j)
coded f v None n ps l q r s u h i j x (e1, z) (w, m, e, k, (g, t, e2, c, y)) =
    let b = of_typed f v h x in
    let l : List Placed = mark q P.LeftParen ∷ mark r P.Star ∷ mark s P.RightParen ∷ mark u P.LeftParen ∷ (g ++ mark t.place P.RightParen ∷ []) in
    rw (e1, e, e2, k, right_is t c)
    (subst (λ y. ReadsParam y (record { called = None; type = TyCode v.0 (types w) }) (max h (m + 1))) (sym (ap (λ y. y ++ l) b.3 ∙ append_assoc b.0 b.1 l))
    (code_param b.0 b.1 g b.2 v.0 None q r s u t.place w 0 h m b.4 b.5 y))
coded f v (Some x) n ps l q r s u h i j a (y, e1, d, z) (w, m, e, k, (g, t, e2, c, i')) =
    let b = of_typed f v h a in
    let l : List Placed = mark q P.LeftParen ∷ mark r P.Star ∷ named x ∷ mark s P.RightParen ∷ mark u P.LeftParen ∷ (g ++ mark t.place P.RightParen ∷ []) in
    rw (e1, named_is y x d, e, e2, k, right_is t c)
    (subst (λ y'. ReadsParam y' (record { called = Some x; type = TyCode v.0 (types w) }) (max h (m + 1))) (sym (ap (λ y'. y' ++ l) b.3 ∙ append_assoc b.0 b.1 l))
    (code_param b.0 b.1 g b.2 v.0 (Some x) q r s u t.place w 0 h m b.4 b.5 i'))

-- a list of a first token and the others
pub tail_is : (t u : Placed) (k g : List Placed) → t ∷ k ≡ u ∷ g → k ≡ g
tail_is t u k g e = cc

optional_least : (g : List Placed) (o : Option (Unit {0})) (j : ℕ) → Optional (Expect (λ t. is_number t.lexeme)) g o j → j ≡ 0
optional_least g None j q = q.1
optional_least g (Some u) j q = q.3

name_least : (g : List Placed) (o : Option Ident) (j : ℕ) → Optional (One ident_of) g o j → j ≡ 0
name_least g None j q = q.1
name_least g (Some u) j q = q.3

pub with_part : (f k : List Placed) (t : Placed) (c : Going) (p : Piece) (w : Part) (h j : ℕ) → Shaped f p h → piece_class p t.lexeme ≡ Some c → Parts c (t ∷ k) w j → Shaped (f ++ t ∷ k) (pieced c p w) (max (h + 0) (j + 0))
with_part f k t Name p w h j r e (t', g, e0, b, (u, e1, (e2, z))) =
    let q = name_is p t e in
    let hd : t' ≡ t = cc in
    let tl : k ≡ [] = tail_is t t' k g e0 ∙ e2 in
    let m : max (h + 0) (j + 0) ≡ h = omega (arith, z) in
    let s : Typed f q.0 h = subst (λ y. Shaped f y h) q.1 r in
    let tk : f ++ t ∷ k ≡ f ++ named (ident_at t) ∷ [] = ap (λ y. f ++ y) (ap (λ y. t ∷ y) tl ∙ ap (λ y. y ∷ []) q.2) in
    rw (e1, m, q.1, hd) (f, q.0.1, tk, s)
with_part f k t Brackets p w h j r e (t', g, e0, b, (o, e1, (g2, u, e3, c, q))) =
    let i = brackets_is p t e in
    let tl : k ≡ g2 ++ u ∷ [] = tail_is t t' k g e0 ∙ e3 in
    let m : max (h + 0) (j + 0) ≡ h = omega (arith, optional_least g2 o j q) in
    rw (e1, m, tl) (subst (λ y. ReadsParam (f ++ y ∷ (g2 ++ u ∷ [])) (record { called = piece_name p; type = TyPointer (piece_type p) }) h) (sym i.1) (bracketed f g2 t.place u p o h j (named_type f p h i.0 r) q c))
with_part f k t Code p w h j r e (t', g, e0, b, (v, e1, (s, g3, e3, cs, x))) =
    let i = code_is p t e in
    let y = x.second in
    let z = y.4 in
    let star : Placed = mark s.place P.Star in
    let right : Placed = mark y.0.place P.RightParen in
    let left : Placed = mark z.0.place P.LeftParen in
    let tl : k ≡ star ∷ (x.left ++ right ∷ left ∷ z.1) =
    tail_is t t' k g e0 ∙ (e3 ∙ (ap (λ a. a ∷ g3) (star_mark s cs) ∙ ap (λ a. star ∷ a) (x.whole ∙ ap (λ a. x.left ++ a) (y.2 ∙ (ap (λ a. a ∷ y.1) (right_is y.0 y.3) ∙ ap (λ a. right ∷ a) (z.2 ∙ ap (λ a. a ∷ z.1) (left_is z.0 z.3))))))) in
    let n = name_least x.left v.0 x.i x.first in
    let m : max (h + 0) (j + 0) ≡ max h x.j = omega (arith, n, x.nest) in
    let r' : Typed f i.0 h = subst (λ a. Shaped f a h) i.1 r in
    let d = coded f i.0 v.0 x.left v.1 z.1 t.place s.place y.0.place z.0.place h x.i x.j r' x.first z.4 in
    rw (e1, m, tl, i.1) (subst (λ a. ReadsParam (f ++ a ∷ star ∷ (x.left ++ right ∷ left ∷ z.1)) (record { called = v.0; type = TyCode i.0.0 (types v.1) }) (max h x.j)) (sym i.2) d)
