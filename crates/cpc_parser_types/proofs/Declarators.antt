-- Declarators are read exactly, as the grammar has them.
use Rattle.std.proofs.Common.{◌≡◌, ℕ, suc, ◌+◌, ◌≤◌, ◌<◌, ◌^◌, true, false, List, [], ◌∷◌, ◌++◌, Option, Some, None, max, pos, refl, sym, ap, subst, ◌∙◌, arith, nat_lt}
use Rattle.cpc_base.specs.declared.stop.Place.{Place}
use Rattle.cpc_base.proofs.Lists.{some_of_if}
use Rattle.cpc_num.specs.declared.kinds.Kind.{Kind}
use Rattle.cpc_num.specs.declared.kinds.Kind.TheVariants as N
use Rattle.cpc_tree.specs.declared.token.Punctuator.TheVariants as P
use Rattle.cpc_tree.specs.Tokens.{Lexeme, Mark, Named, Number, Placed}
use Rattle.cpc_tree.specs.Syntax.{Ty, TyVoid, TyInt, TyCondvar, TyPointer, TyCode, TyStruct, TyArray, Tys}
use Rattle.cpc_tree.specs.Located.{Ident, LVariable, LParameter}
use Rattle.cpc_tree.specs.TypeGrammar.{mark, named, number, types, ReadsStars, no_star, a_star, ReadsParams, ReadsDeclarator, plain, array, code}
use Rattle.cpc_parser_reading.specs.Reading.{nothing, one, before, after, headed}
use Rattle.cpc_parser_reading.specs.Phrase.{Nothing, One, Before, After, Both, Bound, Mapped, Headed, Optional, OneOf}
use Rattle.cpc_parser_reading.specs.Chain.{Chained, first, further, Joint}
use Rattle.cpc_parser_reading.specs.Exact.{Any, Absent, Stops, Exact, Branch, Sample, Opens}
use Rattle.cpc_parser_reading.proofs.Readers.{exact_after, exact_as, exact_before, exact_bind, exact_chain, exact_mapped, exact_nothing, exact_one, exact_one_of, exact_optional, exact_pair, exact_seen, exact_stop, headed_branch, starts_after}
use Rattle.cpc_parser_reading.proofs.Tokens.{any_stops}
use Rattle.cpc_parser_reading.proofs.Levels.{Always}
use Rattle.cpc_parser_types.specs.Views.{lexeme}
use Rattle.cpc_parser_types.specs.TypeReaders.{ident_of, ident_at, is_star, is_left, is_right, is_unbracket, star_class}
use Rattle.cpc_parser_types.specs.Declarators.{pointed, just, stars_at, is_bracket, length_in, brackets_at, code_at, Declared, Plain, Pointer, plain_of, pointer_of, Shape, PlainShape, PointerShape, shape_class, shape_least, shape_at, declared_at, variable_of, declarator_at, DeclaratorEnd, StarsEnd, DeclaredEnd}
use Rattle.cpc_parser_types.proofs.Bases.{token, nobody, name_exact, Steps, Stars, step_branch}
use Rattle.cpc_parser_types.proofs.BaseWords.{at, named_is, star_is}
use Rattle.cpc_parser_types.proofs.Params.{Listed, stars, unbrackets, closed_exact}
use Rattle.cpc_parser_types.proofs.ParamWords.{right_is, left_is, star_mark, unbracket_is}
use Rattle.cpc_parser_types.proofs.Lists.{lists_exact}
use Rattle.cpc_parser_types.proofs.BehindSteps.{bracket_class}

-- stars behind a type, in the readers' words
abbrev Pointers : Ty → List Placed → Ty → ℕ → Type 0
Pointers base = Chained lexeme (λ t k. star_class k) Always pointed (λ c h j. max (h + 1) j) (Mapped (just base) Nothing) (Steps Stars)

pub pointers_joint : (n : ℕ) → Joint lexeme n 0 (λ (t : Ty) k. star_class k) (λ d c h. nat_lt d (h + 1)) pointed (λ c h j. max (h + 1) j) Always Stars (λ t k. Unit {0}) (λ c w k. Unit {0}) (λ c. 1) (λ c. 0) (λ c. 0)
pointers_joint n = record {
  begins = λ v k c e. e;
  clear = λ v k c e ok. tt;
  suits = λ v k c e q. tt;
  to = λ c v w k q. tt;
  of = λ c v w k q. tt;
  grows = λ c h j. omega arith;
  fits = λ d c h lo hi le e. let i : h + 1 ≤ d = grind arith in (i, omega arith);
  free = λ d c h a b. grind arith;
}

of_pointers : (base : Ty) (f : List Placed) (t : Ty) (h : ℕ) → Pointers base f t h → ReadsStars base f t h
of_pointers base f t h (first g u i (w, e, (e1, z))) = rw (e, e1, z) no_star
of_pointers base f t h (further g k t' c u w i j r e ok (t1, g', e', p, (e1, z))) =
    let b = of_pointers base g u i r in
    let tl : k ≡ [] = cc in
    let m : max (i + 1) j ≡ i + 1 = omega (arith, z) in
    let tk : t' ∷ k ≡ mark t'.place P.Star ∷ [] = rw (tl, star_is t'.place t'.lexeme c e) refl in
    rw (m, tk) (a_star g t'.place u i b)

to_pointers : (base : Ty) (f : List Placed) (t : Ty) (h : ℕ) → ReadsStars base f t h → Pointers base f t h
to_pointers base f t h no_star = first [] base 0 (tt, refl, (refl, refl))
to_pointers base f t h (a_star g q u i r) =
    let m : max (i + 1) 0 ≡ i + 1 = omega arith in
    rw (← m) (further g [] (mark q P.Star) tt u tt i 0 (to_pointers base g u i r) refl tt (mark q P.Star, [], refl, refl, (refl, refl)))

-- stars behind a type are read exactly
pub stars_exact : (n : ℕ) (base : Ty) → Exact lexeme n 0 (λ d. stars_at base d) (ReadsStars base) StarsEnd
stars_exact n base = exact_stop StarsEnd (exact_as (exact_chain (pointers_joint n) (λ c. step_branch n Stars c) (λ c. omega arith) (λ d c. headed (λ t. nothing)) (λ d c t rest a b i. refl)
    (exact_mapped (just base) (λ t k. Unit {0}) (exact_nothing n) (λ w k q. tt) (λ w k q. tt)))
    (λ d ts a b. refl) (of_pointers base) (to_pointers base)) (λ v k q. q.1) (λ v k q. (tt, q))

brackets : Sample lexeme is_bracket
brackets = record { token = token (Mark P.LeftBracket); holds = refl }

-- the length of an array
abbrev Length : List Placed → ℕ → ℕ → Type 0
Length = One (λ t. length_in t.lexeme)

length_exact : (n : ℕ) → Exact lexeme n 0 (λ d. one (λ t. length_in t.lexeme)) Length Any
length_exact n = exact_one n (λ t. length_in t.lexeme) (token (Number N.Int (pos 0))) 0 refl (λ t u e i. rw (← e) i)

-- a length in its brackets
abbrev pub Bracketed : List Placed → ℕ → ℕ → Type 0
Bracketed = After (λ t. is_bracket t.lexeme) (Before Length (λ t. is_unbracket t.lexeme))

bracketed_exact : (n : ℕ) → Exact lexeme n 0 (λ d. after (λ t. is_bracket t.lexeme) (before (one (λ t. length_in t.lexeme)) (λ t. is_unbracket t.lexeme))) Bracketed Any
bracketed_exact n = exact_after brackets (exact_before (length_exact n) unbrackets (λ v k e. tt))

-- a length in its brackets is read exactly, and so is none
pub brackets_exact : (n : ℕ) → Exact lexeme n 0 (λ d. brackets_at d) (Optional Bracketed) (Absent is_bracket Any)
brackets_exact n = exact_optional (starts_after ((exact_before (length_exact n) unbrackets (λ v k e. tt)).sample)) (bracketed_exact n)

-- behind the opening mark of a pointer to a function
abbrev pub CodeRest : List Placed → Ident × List LParameter → ℕ → Type 0
CodeRest = After (λ t. is_star t.lexeme) (Both (One ident_of) (After (λ t. is_right t.lexeme) (After (λ t. is_left t.lexeme) Listed)))

pub code_exact : (n : ℕ) → Exact lexeme n 1 (λ d. code_at d) CodeRest Any
code_exact n = exact_after stars (exact_pair (name_exact n) (closed_exact n (lists_exact n)) (λ u g v h rest r s. any_stops lexeme u (g ++ rest)))

-- the shapes, in the readers' words
abbrev IsShape : Shape → Lexeme → Type 0
IsShape c k = shape_class k ≡ Some c

abbrev pub Shapes : Shape → List Placed → Declared → ℕ → Type 0
Shapes PlainShape = Headed lexeme (IsShape PlainShape) (λ t. Mapped (plain_of (ident_at t)) (Optional Bracketed))
Shapes PointerShape = Headed lexeme (IsShape PointerShape) (λ t. Mapped pointer_of CodeRest)

plain_to : (x : Ident) (o : Option ℕ) (k : Lexeme) → Absent is_bracket Any o k → DeclaredEnd (plain_of x o) k
plain_to x None k q = q
plain_to x (Some n) k q = tt

plain_from : (x : Ident) (o : Option ℕ) (k : Lexeme) → DeclaredEnd (plain_of x o) k → Absent is_bracket Any o k
plain_from x None k q = q
plain_from x (Some n) k q = tt

shapes : (n : ℕ) (c : Shape) → Branch lexeme (λ k. shape_class k ≡ Some c) n (shape_least c) (λ d. shape_at d c) (Shapes c) DeclaredEnd
shapes n PlainShape = headed_branch (λ t e. exact_mapped (plain_of (ident_at t)) DeclaredEnd (brackets_exact n) (plain_to (ident_at t)) (plain_from (ident_at t)))
shapes n PointerShape = headed_branch (λ t e. exact_mapped pointer_of DeclaredEnd (code_exact n) (λ w k q. tt) (λ w k q. tt))

a_name : Opens (OneOf Shapes) 0 []
a_name = record { rest = named nobody ∷ []; value = Plain nobody None; nest = 0; reads = (PlainShape, (named nobody, [], refl, refl, (None, refl, (refl, refl)))); fits = omega arith }

-- what stands behind the stars is read exactly
pub declared_exact : (n : ℕ) → Exact lexeme n 0 (λ d. declared_at d) (OneOf Shapes) DeclaredEnd
declared_exact n = exact_one_of shape_class (shapes n) (λ c. omega arith) a_name

no_star_in : (k : Lexeme) (c : Shape) → shape_class k ≡ Some c → star_class k ≡ None
no_star_in (Mark P.Star) c e = absurd cc
no_star_in k c e = refl

shape_joins : (f : List Placed) (v : Declared) (h : ℕ) (rest : List Placed) → OneOf Shapes f v h → Stops lexeme (λ k. star_class k ≡ None) (f ++ rest)
shape_joins f v h rest (PlainShape, (t, g, e, i, r)) = rw e (no_star_in t.lexeme PlainShape i)
shape_joins f v h rest (PointerShape, (t, g, e, i, r)) = rw e (no_star_in t.lexeme PointerShape i)

-- how far a type reaches to its last base
abbrev reach : Ty → ℕ
reach TyVoid = 0
reach (TyInt kind) = 0
reach TyCondvar = 0
reach (TyPointer t) = suc (reach t)
reach (TyCode t ts) = suc (reach t)
reach (TyStruct x) = 0
reach (TyArray t n) = suc (reach t)

stars_reach : (base : Ty) (f : List Placed) (t : Ty) (h : ℕ) → ReadsStars base f t h → reach base ≤ reach t
stars_reach base f t h no_star = omega arith
stars_reach base f t h (a_star g q u i r) = let e = stars_reach base g u i r in omega (arith, e)

-- the base with stars is no array and no pointer to a function that the base with stars has in it
beyond : (base : Ty) (f g : List Placed) (t u : Ty) (h i : ℕ) → ReadsStars base f t h → ReadsStars base g u i → reach u ≡ suc (reach t) → (u ≡ base → ⊥) × ((w : Ty) → u ≡ TyPointer w → ⊥) → ⊥
beyond base f g t u h i a no_star e n = n.0 refl
beyond base f g t u h i a (a_star g' q w j r) e n = n.1 w refl

self : (base t : Ty) (f : List Placed) (h : ℕ) → ReadsStars base f t h → (u : Ty) → reach u ≡ suc (reach t) → u ≡ base → ⊥
self base t f h a u e i = let l = stars_reach base f t h a in let k : reach u ≡ reach base = ap reach i in omega (arith, l, k, e)

array_beyond : (base : Ty) (f g : List Placed) (t : Ty) (n h i : ℕ) → ReadsStars base f t h → ReadsStars base g (TyArray t n) i → ⊥
array_beyond base f g t n h i a b = beyond base f g t (TyArray t n) h i a b refl (self base t f h a (TyArray t n) refl, λ w e. absurd cc)

code_beyond : (base : Ty) (f g : List Placed) (t : Ty) (ts : Tys) (h i : ℕ) → ReadsStars base f t h → ReadsStars base g (TyCode t ts) i → ⊥
code_beyond base f g t ts h i a b = beyond base f g t (TyCode t ts) h i a b refl (self base t f h a (TyCode t ts) refl, λ w e. absurd cc)

-- a declarator, in the readers' words
abbrev Whole : Ty → List Placed → Ty × Declared → ℕ → Type 0
Whole base = Bound (ReadsStars base) (λ t. OneOf Shapes)

end_to : (base : Ty) (f : List Placed) (w : Ty × Declared) (h : ℕ) → Whole base f w h → (k : Lexeme) → DeclaredEnd w.1 k → DeclaratorEnd base (variable_of w) k
end_to base f (t, Plain x None) h b k q = λ g i r. q
end_to base f (t, Plain x (Some n)) h b k q = λ g i r. absurd (array_beyond base b.left g t n b.i i b.first r)
end_to base f (t, Pointer x ps) h b k q = λ g i r. absurd (code_beyond base b.left g t (types ps) b.i i b.first r)

end_of : (base : Ty) (f : List Placed) (w : Ty × Declared) (h : ℕ) → Whole base f w h → (k : Lexeme) → DeclaratorEnd base (variable_of w) k → DeclaredEnd w.1 k
end_of base f (t, Plain x None) h b k q = q b.left b.i b.first
end_of base f (t, Plain x (Some n)) h b k q = tt
end_of base f (t, Pointer x ps) h b k q = tt

pub length_is : (q : Place) (k : Lexeme) (n : ℕ) → length_in k ≡ Some n → (kind : Kind) × (n < 2 ^ 64) × (at q k ≡ number q kind (pos n))
length_is q (Number kind (pos m)) n e = let i = some_of_if (nat_lt m (2 ^ 64)) m n e in (kind, let l : m < 2 ^ 64 = grind (arith, i.0) in subst (λ z. z < 2 ^ 64) i.1 l, ap (λ z. number q kind (pos z)) i.1)
length_is q k n e = absurd cc

pub length_some : (kind : Kind) (n : ℕ) → n < 2 ^ 64 → length_in (Number kind (pos n)) ≡ Some n
length_some kind n e = grind arith

bracket_is : (t : Placed) → is_bracket t.lexeme ≡ true → t ≡ mark t.place P.LeftBracket
bracket_is t e = ap (λ k. at t.place k) (bracket_class t.lexeme e)

plain_in : (q : Place) (k : Lexeme) → shape_class k ≡ Some PlainShape → at q k ≡ named (ident_at (at q k))
plain_in q (Named x) e = refl
plain_in q (Mark P.LeftParen) e = absurd cc
plain_in q k e = absurd cc

plain_is : (t : Placed) → shape_class t.lexeme ≡ Some PlainShape → t ≡ named (ident_at t)
plain_is t e = plain_in t.place t.lexeme e

pointer_in : (k : Lexeme) → shape_class k ≡ Some PointerShape → k ≡ Mark P.LeftParen
pointer_in (Mark P.LeftParen) e = refl
pointer_in (Named x) e = absurd cc
pointer_in k e = absurd cc

pointer_is : (t : Placed) → shape_class t.lexeme ≡ Some PointerShape → t ≡ mark t.place P.LeftParen
pointer_is t e = ap (λ k. at t.place k) (pointer_in t.lexeme e)

-- brackets in the words of the grammar
bracketed_is : (f : List Placed) (n h : ℕ) → Bracketed f n h
    → (q r s : Place) × (kind : Kind) × (f ≡ mark q P.LeftBracket ∷ number s kind (pos n) ∷ mark r P.RightBracket ∷ []) × (n < 2 ^ 64) × (h ≡ 0)
bracketed_is f n h (t, g, e, c, (g1, u, e1, c1, (v, e2, c2, z))) =
    let l = length_is v.place v.lexeme n c2 in
    (t.place, u.place, v.place, l.0, e ∙ (ap (λ y. t ∷ y) (e1 ∙ ap (λ y. y ++ u ∷ []) e2) ∙ (ap (λ y. y ∷ v ∷ u ∷ []) (bracket_is t c) ∙ (ap (λ y. mark t.place P.LeftBracket ∷ y ∷ u ∷ []) l.2 ∙ ap (λ y. mark t.place P.LeftBracket ∷ number v.place l.0 (pos n) ∷ y ∷ []) (unbracket_is u c1)))), l.1, z)

code_is : (f : List Placed) (x : Ident) (ps : List LParameter) (h : ℕ) → CodeRest f (x, ps) h
    → (r s u v : Place) × (g : List Placed) × (j : ℕ) × (f ≡ mark r P.Star ∷ named x ∷ mark s P.RightParen ∷ mark u P.LeftParen ∷ (g ++ mark v P.RightParen ∷ [])) × (h ≡ j + 1) × ReadsParams g ps j
code_is f x ps h (t, g, e, c, b) =
    let y = b.first in
    let z = b.second in
    let w = z.4 in
    let l = w.4 in
    let m = l.4 in
    let star : Placed = mark t.place P.Star in
    let right : Placed = mark z.0.place P.RightParen in
    let left : Placed = mark w.0.place P.LeftParen in
    let close : Placed = mark m.1.place P.RightParen in
    let last : w.1 ≡ m.0 ++ close ∷ [] = m.2 ∙ ap (λ a. m.0 ++ a ∷ []) (right_is m.1 m.3) in
    let e3 : z.1 ≡ left ∷ (m.0 ++ close ∷ []) = w.2 ∙ (ap (λ a. a ∷ w.1) (left_is w.0 w.3) ∙ ap (λ a. left ∷ a) last) in
    let e2 : b.right ≡ right ∷ left ∷ (m.0 ++ close ∷ []) = z.2 ∙ (ap (λ a. a ∷ z.1) (right_is z.0 z.3) ∙ ap (λ a. right ∷ a) e3) in
    let e1 : g ≡ named x ∷ right ∷ left ∷ (m.0 ++ close ∷ []) = b.whole ∙ (ap (λ a. a ++ b.right) (y.1 ∙ ap (λ a. a ∷ []) (named_is y.0 x y.2)) ∙ ap (λ a. named x ∷ a) e2) in
    let n : h ≡ l.1 + 1 = omega (arith, b.nest, y.3, l.3) in
    let reads : ReadsParams m.0 ps l.1 = subst (λ a. ReadsParams m.0 a l.1) (sym l.2) m.4 in
    (t.place, z.0.place, w.0.place, m.1.place, m.0, l.1, e ∙ (ap (λ a. a ∷ g) (star_mark t c) ∙ ap (λ a. star ∷ a) e1), n, reads)

of_shape : (base : Ty) (f g : List Placed) (t : Ty) (d : Declared) (i j : ℕ) → ReadsStars base f t i → OneOf Shapes g d j → ReadsDeclarator base (f ++ g) (variable_of (t, d)) (max i j)
of_shape base f g t d i j a (PlainShape, (u, g1, e, c, (None, e2, (e3, z)))) =
    let m : max i j ≡ i = omega (arith, z) in
    let x = ident_at u in
    let l : g ≡ named x ∷ [] = e ∙ (ap (λ y. u ∷ y) e3 ∙ ap (λ y. y ∷ []) (plain_is u c)) in
    rw (l, e2, m) (plain f t x i a)
of_shape base f g t d i j a (PlainShape, (u, g1, e, c, (Some n, e2, r))) =
    let b = bracketed_is g1 n j r in
    let m : max i j ≡ i = omega (arith, b.6) in
    let x = ident_at u in
    let l = e ∙ (ap (λ y. u ∷ y) b.4 ∙ ap (λ y. y ∷ mark b.0 P.LeftBracket ∷ number b.2 b.3 (pos n) ∷ mark b.1 P.RightBracket ∷ []) (plain_is u c)) in
    rw (l, e2, m) (array f t x b.0 b.1 b.2 b.3 n i a b.5)
of_shape base f g t d i j a (PointerShape, (u, g1, e, c, ((x, ps), e2, r))) =
    let b = code_is g1 x ps j r in
    let l = e ∙ (ap (λ y. u ∷ y) b.6 ∙ ap (λ y. y ∷ mark b.0 P.Star ∷ named x ∷ mark b.1 P.RightParen ∷ mark b.2 P.LeftParen ∷ (b.4 ++ mark b.3 P.RightParen ∷ [])) (pointer_is u c)) in
    let m : max i j ≡ max i (b.5 + 1) = ap (λ y. max i y) b.7 in
    rw (m, l, e2) (code f b.4 t x u.place b.0 b.1 b.2 b.3 ps i b.5 a b.8)

of_whole : (base : Ty) (f : List Placed) (x : LVariable) (h : ℕ) → Mapped variable_of (Whole base) f x h → ReadsDeclarator base f x h
of_whole base f x h (w, e, b) = rw (e, b.whole, b.nest) (of_shape base b.left b.right w.0 w.1 b.i b.j b.first b.second)

-- stars, and what stands behind them
put : (base : Ty) (f g : List Placed) (t : Ty) (d : Declared) (i j h : ℕ) → h ≡ max i j → ReadsStars base f t i → OneOf Shapes g d j → Mapped variable_of (Whole base) (f ++ g) (variable_of (t, d)) h
put base f g t d i j h n a r = ((t, d), refl, record { left = f; right = g; i = i; j = j; whole = refl; nest = n; first = a; second = r })

to_whole : (base : Ty) (f : List Placed) (x : LVariable) (h : ℕ) → ReadsDeclarator base f x h → Mapped variable_of (Whole base) f x h
to_whole base f x h (plain g t y i a) = put base g (named y ∷ []) t (Plain y None) i 0 i (omega arith) a (PlainShape, (named y, [], refl, refl, (None, refl, (refl, refl))))
to_whole base f x h (array g t y q r s kind n i a l) =
    let close : List Placed = mark r P.RightBracket ∷ [] in
    let inside : List Placed = number s kind (pos n) ∷ close in
    put base g (named y ∷ mark q P.LeftBracket ∷ inside) t (Plain y (Some n)) i 0 i (omega arith) a
    (PlainShape, (named y, mark q P.LeftBracket ∷ inside, refl, refl, (Some n, refl, (mark q P.LeftBracket, inside, refl, refl, (number s kind (pos n) ∷ [], mark r P.RightBracket, refl, refl, (number s kind (pos n), refl, length_some kind n l, refl))))))
to_whole base f x h (code g k t y q r s u v ps i j a b) =
    let last : List Placed = k ++ mark v P.RightParen ∷ [] in
    let inner : List Placed = mark u P.LeftParen ∷ last in
    let closed : List Placed = mark s P.RightParen ∷ inner in
    let listed : Listed last ps (j + 1) = (ps, j, refl, refl, (k, mark v P.RightParen, refl, refl, b)) in
    put base g (mark q P.LeftParen ∷ mark r P.Star ∷ named y ∷ closed) t (Pointer y ps) i (j + 1) (max i (j + 1)) refl a (
      PointerShape,
      (
        mark q P.LeftParen,
        mark r P.Star ∷ named y ∷ closed,
        refl,
        refl,
        (
          (y, ps),
          refl,
          (
            mark r P.Star,
            named y ∷ closed,
            refl,
            refl,
            record {
              left = named y ∷ [];
              right = closed;
              i = 0;
              j = j + 1;
              whole = refl;
              nest = omega arith;
              first = (named y, refl, refl, refl);
              second = (mark s P.RightParen, inner, refl, refl, (mark u P.LeftParen, last, refl, refl, listed));
            },
          ),
        ),
      ),
    )

-- a declarator is read exactly
pub declarator_exact : (n : ℕ) (base : Ty) → Exact lexeme n 0 (λ d. declarator_at base d) (ReadsDeclarator base) (DeclaratorEnd base)
declarator_exact n base = exact_as (exact_seen variable_of (DeclaratorEnd base) (exact_bind (stars_exact n base) (λ t. declared_exact n) (λ u g v h rest r s. shape_joins g v h rest r)) (end_to base) (end_of base))
    (λ d ts a b. refl) (of_whole base) (to_whole base)

-- anything but a bracket may stand behind a variable
pub no_bracket : (base : Ty) (x : LVariable) (k : Lexeme) → is_bracket k ≡ false → DeclaratorEnd base x k
no_bracket base x k e = λ f h r. e
