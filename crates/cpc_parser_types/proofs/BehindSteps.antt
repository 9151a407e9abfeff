-- How code reads what stands behind the type of a parameter.
use Rattle.std.proofs.Common.{◌≡◌, ℕ, ◌+◌, ◌≤◌, ◌<◌, Bool, true, false, List, [], ◌∷◌, Option, Some, None, max, refl, sym, subst, arith, nat_lt}
use Rattle.cpc_base.specs.Bytes.{Text}
use Rattle.cpc_base.specs.declared.stop.Place.{Place}
use Rattle.cpc_base.proofs.Truth.{lt_zero}
use Rattle.cpc_tree.specs.declared.token.Punctuator.TheVariants as P
use Rattle.cpc_tree.specs.Tokens.{Lexeme, Mark, Named, Placed}
use Rattle.cpc_tree.specs.Syntax.{Ty, TyPointer, TyCode}
use Rattle.cpc_tree.specs.Located.{Ident, LParameter}
use Rattle.cpc_tree.specs.TypeGrammar.{mark, types}
use Rattle.cpc_parser_reading.specs.Reading.{Reading, Read, Fault, Deep, Reader, ◌>>=◌, expect, before, after}
use Rattle.cpc_parser_reading.specs.Chain.{links}
use Rattle.cpc_parser_reading.proofs.Readers.{links_end, links_stop, links_deep, links_on, free_room}
use Rattle.cpc_parser_types.specs.Begins.{is_mark, begins}
use Rattle.cpc_parser_types.specs.TypeReaders.{Done, Going, Name, Brackets, Code, Piece, Open, Known, Closed, piece_class, piece_type, piece_name, piece_part, piece_links, pieced, going_least, param_of, code_of, bracket_of, is_left, is_right, is_star, is_name, is_unbracket, lists}
use Rattle.cpc_parser_types.specs.Declarators.{is_bracket}
use Rattle.cpc_parser_types.specs.TypeViews.{maybe_name_at, maybe_number_at, pointed_at, pointer_to, coded_at}
use Rattle.cpc_parser_types.proofs.BaseWords.{at}
use Rattle.cpc_parser_types.proofs.Params.{piece_joint, parts}
use Rattle.cpc_parser_types.proofs.Lists.{lists_exact}
use Rattle.cpc_parser_types.proofs.TypedSteps.{behind_at}

-- one part more of a parameter
piece_on : (d : ℕ) (c : Going) (p : Piece) (h : ℕ) (u : Placed) (rest : List Placed) → h ≤ d → piece_class p u.lexeme ≡ Some c → nat_lt d (max (h + 0) (going_least c + 0)) ≡ false
    → links (piece_links (λ us. lists d us) d) p h (u ∷ rest) ≡ (piece_part (λ us. lists d us) d c (u ∷ rest) >>= λ z. links (piece_links (λ us. lists d us) d) (pieced c p z.0) (max (h + 0) (z.1 + 0)) z.2)
piece_on d c p h u rest hi e f =
    links_on (piece_joint d) (parts d (lists_exact d)) (λ c. omega arith) (λ d c. piece_part (λ us. lists d us) d c) (λ d c t rest a b i. refl) d (omega arith) c p h u rest (omega arith) hi e f

closed_stays : (d : ℕ) (t : Ty) (o : Option Ident) (h : ℕ) (ts : List Placed) → links (piece_links (λ us. lists d us) d) (Closed t o) h ts ≡ Read (Closed t o, h, ts)
closed_stays d t o h [] = links_end (piece_links (λ us. lists d us) d) (Closed t o) h
closed_stays d t o h (u ∷ rest) = links_stop (piece_links (λ us. lists d us) d) (Closed t o) h u rest refl

-- a name or none
pub name_cases : (d : ℕ) (P : Reading Placed (Option Ident) → Type 0) → ((o : Option Ident) (us : List Placed) → P (Read (o, 0, us))) → (ts : List Placed) → P (maybe_name_at d ts)
name_cases d P f [] = f None []
name_cases d P f (u ∷ rest) = by u.place u.lexeme where
  by : (q : Place) (k : Lexeme) → P (maybe_name_at d (at q k ∷ rest))
  by q (Named x) = rw (lt_zero d) (f (Some (record { place = q; text = x })) rest)
  by q k = f None (at q k ∷ rest)

left_class : (t : Ty) (k : Lexeme) → is_mark P.LeftParen k ≡ true → piece_class (Open (t, Done)) k ≡ Some Code
left_class t (Mark P.LeftParen) e = refl
left_class t (Mark p) e = absurd cc
left_class t k e = absurd cc

-- without room for a parameter list
pub behind_deep : (d : ℕ) (t : Ty) (h : ℕ) (ts : List Placed) → begins P.LeftParen ts ≡ true → d ≡ 0 → behind_at d t h ts ≡ Deep ts
behind_deep d t h [] e z = absurd cc
behind_deep d t h (u ∷ rest) e z = rw (links_deep (piece_links (λ us. lists d us) d) (Open (t, Done)) h u rest Code (left_class t u.lexeme e) (grind arith)) refl

-- what is behind the marks of a pointer to a function, as a parameter
abbrev pub finished_at : ℕ → Ty → ℕ → Reader Placed LParameter
finished_at d t h ts = maybe_name_at d ts >>= λ o. coded_at t h d o.2 >>= λ p. Read (record { called = o.0; type = p.0 }, p.1, p.2)

code_list : (d : ℕ) (t : Ty) (h : ℕ) (o : Option Ident) (r : Reading Placed (List LParameter))
    → (((((r >>= λ y. Read ((o, y.0), max 0 y.1, y.2))) >>= λ x. Read (code_of x.0, x.1, x.2)) >>= λ z. links (piece_links (λ us. lists d us) d) (pieced Code (Open (t, Done)) z.0) (max (h + 0) (z.1 + 0)) z.2)
    >>= λ x. Read (param_of x.0, x.1, x.2))
    ≡ ((r >>= λ x. Read (TyCode t (types x.0), max h x.1, x.2)) >>= λ p. Read (record { called = o; type = p.0 }, p.1, p.2))
code_list d t h o (Read y) =
    let m : max (h + 0) (max 0 y.1 + 0) ≡ max h y.1 = omega arith in
    rw (closed_stays d (TyCode t (types y.0)) o (max (h + 0) (max 0 y.1 + 0)) y.2, m) refl
code_list d t h o (Fault left) = refl
code_list d t h o (Deep left) = refl

after_star : (d : ℕ) (t : Ty) (h : ℕ) (r : Reading Placed (Unit {0}))
    → ((((r >>= λ x. maybe_name_at d x.2 >>= λ o. after (λ u. is_right u.lexeme) (after (λ u. is_left u.lexeme) (λ us. lists d us)) o.2 >>= λ y. Read ((o.0, y.0), max o.1 y.1, y.2)) >>= λ x. Read (code_of x.0, x.1, x.2))
    >>= λ z. links (piece_links (λ us. lists d us) d) (pieced Code (Open (t, Done)) z.0) (max (h + 0) (z.1 + 0)) z.2)
    >>= λ x. Read (param_of x.0, x.1, x.2))
    ≡ (r >>= λ x. finished_at d t h x.2)
after_star d t h (Read x) =
    name_cases d (λ n. ((((n >>= λ o. after (λ u. is_right u.lexeme) (after (λ u. is_left u.lexeme) (λ us. lists d us)) o.2 >>= λ y. Read ((o.0, y.0), max o.1 y.1, y.2)) >>= λ x. Read (code_of x.0, x.1, x.2))
    >>= λ z. links (piece_links (λ us. lists d us) d) (pieced Code (Open (t, Done)) z.0) (max (h + 0) (z.1 + 0)) z.2)
    >>= λ x. Read (param_of x.0, x.1, x.2))
    ≡ (n >>= λ o. coded_at t h d o.2 >>= λ p. Read (record { called = o.0; type = p.0 }, p.1, p.2)))
    (λ o us. code_list d t h o (after (λ u. is_right u.lexeme) (after (λ u. is_left u.lexeme) (λ us. lists d us)) us)) x.2
after_star d t h (Fault left) = refl
after_star d t h (Deep left) = refl

-- with its opening mark
pub behind_code : (d : ℕ) (t : Ty) (h : ℕ) (q : Place) (rest : List Placed) → h ≤ d → 0 < d → behind_at d t h (mark q P.LeftParen ∷ rest) ≡ (expect (λ u. is_star u.lexeme) rest >>= λ x. finished_at d t h x.2)
behind_code d t h q rest hi room =
    let f : nat_lt d (max (h + 0) (1 + 0)) ≡ false = free_room d (h + 0) (1 + 0) (omega (arith, hi)) (omega (arith, room)) in
    rw (piece_on d Code (Open (t, Done)) h (mark q P.LeftParen) rest hi refl f) (after_star d t h (expect (λ u. is_star u.lexeme) rest))

bracket_list : (d : ℕ) (p : Piece) (h : ℕ) (r : Reading Placed (Option (Unit {0})))
    → ((r >>= λ x. Read (bracket_of x.0, x.1, x.2)) >>= λ z. links (piece_links (λ us. lists d us) d) (pieced Brackets p z.0) (max (h + 0) (z.1 + 0)) z.2) >>= (λ x. Read (param_of x.0, x.1, x.2))
    ≡ (((r >>= λ v. Read (Some v.0, v.1, v.2)) >>= λ x. Read (pointer_to (piece_type p) x.0, x.1, x.2)) >>= λ q. Read (record { called = piece_name p; type = q.0 }, max h q.1, q.2))
bracket_list d p h (Read y) =
    let m : max (h + 0) (y.1 + 0) ≡ max h y.1 = omega arith in
    rw (closed_stays d (TyPointer (piece_type p)) (piece_name p) (max (h + 0) (y.1 + 0)) y.2, m) refl
bracket_list d p h (Fault left) = refl
bracket_list d p h (Deep left) = refl

-- the mark that the test tells
pub bracket_class : (k : Lexeme) → is_bracket k ≡ true → k ≡ Mark P.LeftBracket
bracket_class (Mark P.LeftBracket) e = refl
bracket_class k e = absurd cc

-- what brackets make of a parameter whose next token is no part of another class
bracketed : (d : ℕ) (p : Piece) (h : ℕ) (ts : List Placed) → h ≤ d → piece_class p (Mark P.LeftBracket) ≡ Some Brackets
    → (begins P.LeftBracket ts ≡ false → links (piece_links (λ us. lists d us) d) p h ts ≡ Read (p, h, ts))
    → (links (piece_links (λ us. lists d us) d) p h ts >>= λ x. Read (param_of x.0, x.1, x.2)) ≡ (pointed_at (piece_type p) d ts >>= λ q. Read (record { called = piece_name p; type = q.0 }, max h q.1, q.2))
bracketed d p h [] hi c stop = let m : max h 0 ≡ h = omega arith in rw (stop refl, m) refl
bracketed d p h (u ∷ rest) hi c stop = by (is_bracket u.lexeme) refl where
  by : (b : Bool) → is_bracket u.lexeme ≡ b
      → (links (piece_links (λ us. lists d us) d) p h (u ∷ rest) >>= λ x. Read (param_of x.0, x.1, x.2)) ≡ (pointed_at (piece_type p) d (u ∷ rest) >>= λ q. Read (record { called = piece_name p; type = q.0 }, max h q.1, q.2))
  by false e = let m : max h 0 ≡ h = omega arith in rw (stop e, e, m) refl
  by true e =
      let k = bracket_class u.lexeme e in
      let f : nat_lt d (max (h + 0) (0 + 0)) ≡ false = free_room d (h + 0) (0 + 0) (omega (arith, hi)) (omega arith) in
      rw (piece_on d Brackets p h u rest hi (subst (λ l. piece_class p l ≡ Some Brackets) (sym k) c) f, e, lt_zero d)
      (bracket_list d p h (before (maybe_number_at d) (λ v. is_unbracket v.lexeme) rest))

known_class : (t : Ty) (x : Ident) (k : Lexeme) → is_mark P.LeftBracket k ≡ false → piece_class (Known t x) k ≡ None
known_class t x (Mark P.LeftBracket) e = absurd cc
known_class t x (Mark p) e = refl
known_class t x k e = refl

known_stop : (d : ℕ) (t : Ty) (x : Ident) (h : ℕ) (ts : List Placed) → begins P.LeftBracket ts ≡ false → links (piece_links (λ us. lists d us) d) (Known t x) h ts ≡ Read (Known t x, h, ts)
known_stop d t x h [] e = links_end (piece_links (λ us. lists d us) d) (Known t x) h
known_stop d t x h (u ∷ rest) e = links_stop (piece_links (λ us. lists d us) d) (Known t x) h u rest (known_class t x u.lexeme e)

open_class : (t : Ty) (k : Lexeme) → is_name k ≡ false → is_mark P.LeftParen k ≡ false → is_mark P.LeftBracket k ≡ false → piece_class (Open (t, Done)) k ≡ None
open_class t (Named x) n e f = absurd cc
open_class t (Mark P.LeftParen) n e f = absurd cc
open_class t (Mark P.LeftBracket) n e f = absurd cc
open_class t (Mark p) n e f = refl
open_class t k n e f = refl

-- a name or none, and brackets or none, as a parameter
abbrev pub plain_at : ℕ → Ty → ℕ → Reader Placed LParameter
plain_at d t h ts = maybe_name_at d ts >>= λ o. pointed_at t d o.2 >>= λ p. Read (record { called = o.0; type = p.0 }, max h p.1, p.2)

with_name : (d : ℕ) (t : Ty) (h : ℕ) (q : Place) (x : Text) (rest : List Placed) → h ≤ d → behind_at d t h (at q (Named x) ∷ rest) ≡ plain_at d t h (at q (Named x) ∷ rest)
with_name d t h q x rest hi =
    let f : nat_lt d (max (h + 0) (0 + 0)) ≡ false = free_room d (h + 0) (0 + 0) (omega (arith, hi)) (omega arith) in
    let m : max (h + 0) (0 + 0) ≡ h = omega arith in
    let y : Ident = record { place = q; text = x } in
    rw (piece_on d Name (Open (t, Done)) h (at q (Named x)) rest hi refl f, lt_zero d, m) (bracketed d (Known t y) h rest hi refl (known_stop d t y h rest))

no_name : (d : ℕ) (t : Ty) (h : ℕ) (u : Placed) (rest : List Placed) → h ≤ d → is_name u.lexeme ≡ false → is_mark P.LeftParen u.lexeme ≡ false → behind_at d t h (u ∷ rest) ≡ plain_at d t h (u ∷ rest)
no_name d t h u rest hi n e =
    rw n (bracketed d (Open (t, Done)) h (u ∷ rest) hi refl (λ f. links_stop (piece_links (λ us. lists d us) d) (Open (t, Done)) h u rest (open_class t u.lexeme n e f)))

-- without an opening mark
pub behind_plain : (d : ℕ) (t : Ty) (h : ℕ) (ts : List Placed) → h ≤ d → begins P.LeftParen ts ≡ false → behind_at d t h ts ≡ plain_at d t h ts
behind_plain d t h [] hi e = bracketed d (Open (t, Done)) h [] hi refl (λ f. links_end (piece_links (λ us. lists d us) d) (Open (t, Done)) h)
behind_plain d t h (u ∷ rest) hi e = by u.place u.lexeme e where
  by : (q : Place) (k : Lexeme) → is_mark P.LeftParen k ≡ false → behind_at d t h (at q k ∷ rest) ≡ plain_at d t h (at q k ∷ rest)
  by q (Named x) i = with_name d t h q x rest hi
  by q k i = no_name d t h (at q k) rest hi refl i
