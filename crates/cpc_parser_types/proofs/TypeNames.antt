-- Types without names are read exactly, as the grammar has them.
use Rattle.std.proofs.Common.{◌≡◌, ℕ, ◌+◌, true, List, [], ◌∷◌, ◌++◌, Some, None, max, refl, sym, ap, subst, ◌∙◌, append_assoc, arith, nat_lt}
use Rattle.cpc_tree.specs.declared.token.Punctuator.TheVariants as P
use Rattle.cpc_base.specs.declared.stop.Place.{Place}
use Rattle.cpc_tree.specs.Tokens.{Lexeme, Mark, Placed}
use Rattle.cpc_tree.specs.Located.{LParameter}
use Rattle.cpc_tree.specs.Syntax.{Ty, TyCode}
use Rattle.cpc_tree.specs.TypeGrammar.{mark, types, ReadsTypeName, plain_type, code_type}
use Rattle.cpc_parser_reading.specs.Phrase.{After, Before, Headed, Mapped}
use Rattle.cpc_parser_reading.specs.Chain.{Chained, first, further, Joint}
use Rattle.cpc_parser_reading.specs.Exact.{Any, Starts, Exact, Branch}
use Rattle.cpc_parser_reading.proofs.Readers.{starts_as, starts_before, starts_chain, starts_mapped, exact_after, exact_as, exact_before, exact_chain, exact_mapped, headed_branch, fits_room, free_room}
use Rattle.cpc_parser_types.specs.Views.{lexeme}
use Rattle.cpc_parser_types.specs.TypeReaders.{starts_base, Ending, Done, LongWord, SignedWord, UnsignedWord, next_word, Piece, Open, Known, Closed, piece_type, is_star, is_left, is_right, lists, type_class, type_coded, type_part, type_name_at, enclosed_type_at}
use Rattle.cpc_parser_types.proofs.Bases.{Typed, typed_exact}
use Rattle.cpc_parser_types.proofs.BaseWords.{at, of_typed, to_typed}
use Rattle.cpc_parser_types.proofs.Params.{starts_typed, PieceEnd, Listed, rights, lefts, stars, right_words, right_mark}
use Rattle.cpc_parser_types.proofs.ParamWords.{right_is, left_is, star_mark}
use Rattle.cpc_parser_types.proofs.Lists.{lists_exact}

-- a first token of what goes on
abbrev Begins : Unit {0} → Lexeme → Type 0
Begins c k = (p : Piece) × (type_class p k ≡ Some c)

-- the marks of a pointer to a function, and its parameters
abbrev Parts : Unit {0} → List Placed → List LParameter → ℕ → Type 0
Parts c = Headed lexeme (Begins c) (λ t. After (λ t. is_star t.lexeme) (After (λ t. is_right t.lexeme) (After (λ t. is_left t.lexeme) Listed)))

-- a type without a name, in the readers' words
abbrev Named : List Placed → Piece → ℕ → Type 0
Named = Chained lexeme type_class (λ p c. Unit {0}) type_coded (λ c h j. max (h + 0) (j + 0)) (Mapped Open Typed) Parts

paren_words : (v : Ty × Ending) → next_word v.1 (Mark P.LeftParen) ≡ None
paren_words (t, Done) = refl
paren_words (t, LongWord i) = refl
paren_words (t, SignedWord) = refl
paren_words (t, UnsignedWord) = refl

class_in : (p : Piece) (k : Lexeme) (c : Unit {0}) → type_class p k ≡ Some c → (v : Ty × Ending) × (p ≡ Open v) × (k ≡ Mark P.LeftParen)
class_in (Open v) (Mark P.LeftParen) c e = (v, refl, refl)
class_in p k c e = absurd cc

clear_by : (p : Piece) (k : Lexeme) (v : Ty × Ending) → p ≡ Open v → k ≡ Mark P.LeftParen → PieceEnd p k
clear_by p k v e i = rw (e, i) ((tt, paren_words v), refl)

pub joint : (n : ℕ) → Joint lexeme n 0 type_class (λ d c h. nat_lt d (max (h + 0) (1 + 0))) type_coded (λ c h j. max (h + 0) (j + 0)) (λ p c. Unit {0}) Begins PieceEnd (λ c w k. Unit {0}) (λ c. 0) (λ c. 0) (λ c. 1)
joint n = record {
  begins = λ p k c e. (p, e);
  clear = λ p k c e ok. let i = class_in p k c e in clear_by p k i.0 i.1 i.2;
  suits = λ p k c e q. tt;
  to = λ c p w k q. tt;
  of = λ c p w k q. tt;
  grows = λ c h j. refl;
  fits = λ d c h lo hi le e. fits_room d (h + 0) (1 + 0) e;
  free = λ d c h a b. free_room d (h + 0) (1 + 0) a b;
}

pub parts : (n : ℕ) (c : Unit {0}) → Branch lexeme (Begins c) n 1 (λ d. type_part (λ us. lists d us) c) (Parts c) (λ w k. Unit {0})
parts n c = headed_branch (λ t e. exact_after stars (exact_after rights (exact_after lefts (lists_exact n))))

named_exact : (n : ℕ) → Exact lexeme n 0 (λ d. type_name_at d) Named (λ p k. PieceEnd p k × (type_class p k ≡ None))
named_exact n = exact_chain (joint n) (parts n) (λ c. omega arith) (λ d c. type_part (λ us. lists d us) c) (λ d c t rest a b i. refl) (exact_mapped Open PieceEnd (typed_exact n) (λ w k q. q) (λ w k q. q))

right_piece : (p : Piece) → PieceEnd p (Mark P.RightParen) × (type_class p (Mark P.RightParen) ≡ None)
right_piece (Open v) = (((tt, right_words v), refl), refl)
right_piece (Known t x) = (tt, refl)
right_piece (Closed t o) = (tt, refl)

right_ends : (p : Piece) (k : Lexeme) → is_right k ≡ true → PieceEnd p k × (type_class p k ≡ None)
right_ends p k e = rw (right_mark k e) (right_piece p)

-- what has been read, in the words of the grammar
abbrev Shaped : List Placed → Piece → ℕ → Type 0
Shaped f (Open v) h = Typed f v h
Shaped f (Known t x) h = ⊥
Shaped f (Closed t o) h = ReadsTypeName f t h

with_part : (f k : List Placed) (t : Placed) (c : Unit {0}) (p : Piece) (w : List LParameter) (h j : ℕ) → Shaped f p h → type_class p t.lexeme ≡ Some c → Parts c (t ∷ k) w j → Shaped (f ++ t ∷ k) (type_coded c p w) (max (h + 0) (j + 0))
with_part f k t c p w h j r e (t', g, e0, b, (s, g1, e1, p1, (u, g2, e2, p2, (x, g3, e3, p3, (w', m, e4, n, (l, y, e5, p5, q)))))) =
    let i = class_in p t.lexeme c e in
    let a : Typed f i.0 h = subst (λ z. Shaped f z h) i.1 r in
    let d = of_typed f i.0 h a in
    let kg : k ≡ g = cc in
    let tail : List Placed = mark s.place P.Star ∷ mark u.place P.RightParen ∷ mark x.place P.LeftParen ∷ (l ++ mark y.place P.RightParen ∷ []) in
    let first : t ≡ mark t.place P.LeftParen = ap (λ z. at t.place z) i.2 in
    let nn : max (h + 0) (j + 0) ≡ max h (m + 1) = omega (arith, n) in
    let whole = code_type d.0 d.1 l d.2 i.0.0 t.place s.place u.place x.place y.place w' 0 h m d.4 d.5 q in
    let done : ReadsTypeName (f ++ mark t.place P.LeftParen ∷ tail) (TyCode i.0.0 (types w')) (max h (m + 1)) =
    subst (λ z. ReadsTypeName z (TyCode i.0.0 (types w')) (max h (m + 1))) (sym (ap (λ z. z ++ mark t.place P.LeftParen ∷ tail) d.3 ∙ append_assoc d.0 d.1 (mark t.place P.LeftParen ∷ tail))) whole in
    rw (nn, kg, e1, e2, e3, e5, e4, star_mark s p1, right_is u p2, left_is x p3, right_is y p5, i.1)
    (subst (λ z. ReadsTypeName (f ++ z ∷ tail) (TyCode i.0.0 (types w')) (max h (m + 1))) (sym first) done)

of_shape : (f : List Placed) (p : Piece) (h : ℕ) → Named f p h → Shaped f p h
of_shape f p h (first g u i (v, e, r)) = rw e r
of_shape f p h (further g k t c u w i j r e ok q) = with_part g k t c u w i j (of_shape g u i r) e q

of_piece : (f : List Placed) (p : Piece) (h : ℕ) → Shaped f p h → ReadsTypeName f (piece_type p) h
of_piece f (Open v) h r = let d = of_typed f v h r in rw (d.3) (plain_type d.0 d.1 d.2 v.0 0 h d.4 d.5)
of_piece f (Known t x) h r = absurd r
of_piece f (Closed t o) h r = r

to_named : (f : List Placed) (t : Ty) (h : ℕ) → ReadsTypeName f t h → (p : Piece) × (t ≡ piece_type p) × Named f p h
to_named f t h (plain_type a g base _ i _ b r) = let w = to_typed a base i b g t h r in (Open (t, w.0), refl, first (a ++ g) (Open (t, w.0)) h ((t, w.0), refl, w.1))
to_named f t h (code_type a g s base u q1 q2 q3 q4 q5 ps i m j b r x) =
    let w = to_typed a base i b g u m r in
    let l : List Placed = s ++ mark q5 P.RightParen ∷ [] in
    let k3 : List Placed = mark q4 P.LeftParen ∷ l in
    let k2 : List Placed = mark q3 P.RightParen ∷ k3 in
    let k : List Placed = mark q2 P.Star ∷ k2 in
    let p : Piece = Closed (TyCode u (types ps)) None in
    let nn : max (m + 0) ((j + 1) + 0) ≡ max m (j + 1) = omega arith in
    let y : Listed l ps (j + 1) = (ps, j, refl, refl, (s, mark q5 P.RightParen, refl, refl, x)) in (
      p,
      refl,
      subst (λ z. Named z p (max m (j + 1))) (append_assoc a g (mark q1 P.LeftParen ∷ k)) (subst (λ z. Named ((a ++ g) ++ mark q1 P.LeftParen ∷ k) p z) nn
          (further (a ++ g) k (mark q1 P.LeftParen) tt (Open (u, w.0)) ps m (j + 1) (first (a ++ g) (Open (u, w.0)) m ((u, w.0), refl, w.1)) refl tt
          (mark q1 P.LeftParen, k, refl, (Open (u, w.0), refl), (mark q2 P.Star, k2, refl, refl, (mark q3 P.RightParen, k3, refl, refl, (mark q4 P.LeftParen, l, refl, refl, y)))))),
    )

-- a type without a name, and the mark behind it
abbrev pub Enclosed : List Placed → Ty → ℕ → Type 0
Enclosed f t h = (g : List Placed) × (r : Place) × (f ≡ g ++ mark r P.RightParen ∷ []) × ReadsTypeName g t h

-- the same in the readers' words
abbrev Closing : List Placed → Ty → ℕ → Type 0
Closing = Mapped piece_type (Before Named (λ t. is_right t.lexeme))

of_closing : (f : List Placed) (t : Ty) (h : ℕ) → Closing f t h → Enclosed f t h
of_closing f t h (p, e, (g, u, e1, c, r)) = (g, u.place, subst (λ z. f ≡ g ++ z ∷ []) (right_is u c) e1, rw e (of_piece g p h (of_shape g p h r)))

to_closing : (f : List Placed) (t : Ty) (h : ℕ) → Enclosed f t h → Closing f t h
to_closing f t h (g, q, e, r) = let k = to_named g t h r in (k.0, k.1, (g, mark q P.RightParen, e, refl, k.2))

-- a type without a name and the mark behind it are read exactly
pub enclosed_exact : (n : ℕ) → Exact lexeme n 0 (λ d. enclosed_type_at d) Enclosed Any
enclosed_exact n = exact_as (exact_mapped piece_type Any (exact_before (named_exact n) rights right_ends) (λ w k q. tt) (λ w k q. tt)) (λ d ts a b. refl) of_closing to_closing

-- how it begins
pub starts_enclosed : Starts lexeme (λ k. starts_base k ≡ true) Enclosed
starts_enclosed = starts_as (starts_mapped (starts_before (starts_chain (starts_mapped starts_typed Open)) rights) piece_type) (λ k e. e) (λ k e. e) of_closing to_closing
