-- How code reads what stands behind a type without a name, and parameter lists.
use Rattle.std.proofs.Common.{◌≡◌, ℕ, zero, suc, ◌+◌, ◌-◌, ◌≤◌, ◌<◌, Bool, true, false, List, [], ◌∷◌, Option, Some, None, map, max, refl, ap, ◌∙◌, arith, nat_lt}
use Rattle.cpc_base.specs.declared.stop.Place.{Place}
use Rattle.cpc_base.proofs.Truth.{lt_zero}
use Rattle.cpc_tree.specs.declared.token.Punctuator.TheVariants as P
use Rattle.cpc_tree.specs.Tokens.{Lexeme, Mark, Placed}
use Rattle.cpc_tree.specs.Syntax.{Ty, TyCode}
use Rattle.cpc_tree.specs.Located.{LParameter}
use Rattle.cpc_tree.specs.TypeGrammar.{mark, types, without_void}
use Rattle.cpc_parser_reading.specs.Reading.{Reading, Read, Fault, Deep, Reader, ◌>>=◌, expect, after, optional}
use Rattle.cpc_parser_reading.specs.Chain.{links}
use Rattle.cpc_parser_reading.specs.Lists.{separated}
use Rattle.cpc_parser_reading.proofs.Readers.{links_end, links_stop, links_deep, links_on, free_room}
use Rattle.cpc_parser_types.specs.Begins.{is_mark, begins}
use Rattle.cpc_parser_types.specs.TypeReaders.{starts_base, Done, Piece, Open, Closed, type_class, type_coded, type_part, type_links, piece_type, is_star, is_left, is_right, is_comma, lists, param_at, param_of, params_of, itself}
use Rattle.cpc_parser_types.specs.TypeViews.{coded_at, parameters_at, row_at, begins_base}
use Rattle.cpc_parser_types.proofs.Lists.{lists_is}
use Rattle.cpc_parser_types.proofs.TypeNames.{joint, parts}
use Rattle.cpc_parser_types.proofs.TypedSteps.{behind_type_at}

type_on : (d : ℕ) (p : Piece) (h : ℕ) (u : Placed) (rest : List Placed) → h ≤ d → type_class p u.lexeme ≡ Some tt → nat_lt d (max (h + 0) (1 + 0)) ≡ false
    → links (type_links (λ us. lists d us) d) p h (u ∷ rest) ≡ (type_part (λ us. lists d us) tt (u ∷ rest) >>= λ z. links (type_links (λ us. lists d us) d) (type_coded tt p z.0) (max (h + 0) (z.1 + 0)) z.2)
type_on d p h u rest hi e f =
    links_on (joint d) (parts d) (λ c. omega arith) (λ d c. type_part (λ us. lists d us) c) (λ d c t rest a b i. refl) d (omega arith) tt p h u rest (omega arith) hi e f

coded_stays : (d : ℕ) (t : Ty) (h : ℕ) (ts : List Placed) → links (type_links (λ us. lists d us) d) (Closed t None) h ts ≡ Read (Closed t None, h, ts)
coded_stays d t h [] = links_end (type_links (λ us. lists d us) d) (Closed t None) h
coded_stays d t h (u ∷ rest) = links_stop (type_links (λ us. lists d us) d) (Closed t None) h u rest refl

left_type : (t : Ty) (k : Lexeme) → is_mark P.LeftParen k ≡ true → type_class (Open (t, Done)) k ≡ Some tt
left_type t (Mark P.LeftParen) e = refl
left_type t (Mark p) e = absurd cc
left_type t k e = absurd cc

no_left_type : (t : Ty) (k : Lexeme) → is_mark P.LeftParen k ≡ false → type_class (Open (t, Done)) k ≡ None
no_left_type t (Mark P.LeftParen) e = absurd cc
no_left_type t (Mark p) e = refl
no_left_type t k e = refl

-- without room for a parameter list
pub nameless_deep : (d : ℕ) (t : Ty) (h : ℕ) (ts : List Placed) → begins P.LeftParen ts ≡ true → d ≡ 0 → behind_type_at d t h ts ≡ Deep ts
nameless_deep d t h [] e z = absurd cc
nameless_deep d t h (u ∷ rest) e z = rw (links_deep (type_links (λ us. lists d us) d) (Open (t, Done)) h u rest tt (left_type t u.lexeme e) (grind arith)) refl

-- without an opening mark
pub nameless_plain : (d : ℕ) (t : Ty) (h : ℕ) (ts : List Placed) → begins P.LeftParen ts ≡ false → behind_type_at d t h ts ≡ Read (t, h, ts)
nameless_plain d t h [] e = rw (links_end (type_links (λ us. lists d us) d) (Open (t, Done)) h) refl
nameless_plain d t h (u ∷ rest) e = rw (links_stop (type_links (λ us. lists d us) d) (Open (t, Done)) h u rest (no_left_type t u.lexeme e)) refl

nameless_list : (d : ℕ) (t : Ty) (h : ℕ) (r : Reading Placed (List LParameter))
    → ((r >>= λ z. links (type_links (λ us. lists d us) d) (type_coded tt (Open (t, Done)) z.0) (max (h + 0) (z.1 + 0)) z.2) >>= λ x. Read (piece_type x.0, x.1, x.2)) ≡ (r >>= λ x. Read (TyCode t (types x.0), max h x.1, x.2))
nameless_list d t h (Read y) =
    let m : max (h + 0) (y.1 + 0) ≡ max h y.1 = omega arith in
    rw (coded_stays d (TyCode t (types y.0)) (max (h + 0) (y.1 + 0)) y.2, m) refl
nameless_list d t h (Fault left) = refl
nameless_list d t h (Deep left) = refl

nameless_star : (d : ℕ) (t : Ty) (h : ℕ) (r : Reading Placed (Unit {0}))
    → (((r >>= λ x. after (λ u. is_right u.lexeme) (after (λ u. is_left u.lexeme) (λ us. lists d us)) x.2) >>= λ z. links (type_links (λ us. lists d us) d) (type_coded tt (Open (t, Done)) z.0) (max (h + 0) (z.1 + 0)) z.2)
    >>= λ x. Read (piece_type x.0, x.1, x.2))
    ≡ (r >>= λ x. coded_at t h d x.2)
nameless_star d t h (Read x) = nameless_list d t h (after (λ u. is_right u.lexeme) (after (λ u. is_left u.lexeme) (λ us. lists d us)) x.2)
nameless_star d t h (Fault left) = refl
nameless_star d t h (Deep left) = refl

-- with its opening mark
pub nameless_code : (d : ℕ) (t : Ty) (h : ℕ) (q : Place) (rest : List Placed) → h ≤ d → 0 < d → behind_type_at d t h (mark q P.LeftParen ∷ rest) ≡ (expect (λ u. is_star u.lexeme) rest >>= λ x. coded_at t h d x.2)
nameless_code d t h q rest hi room =
    let f : nat_lt d (max (h + 0) (1 + 0)) ≡ false = free_room d (h + 0) (1 + 0) (omega (arith, hi)) (omega (arith, room)) in
    rw (type_on d (Open (t, Done)) h (mark q P.LeftParen) rest hi refl f) (nameless_star d t h (expect (λ u. is_star u.lexeme) rest))

close_by : (t : Ty) (h : ℕ) (ps : List LParameter) (n : ℕ) (r : Reading Placed (Unit {0})) (o : Option (List Piece)) → params_of o ≡ ps
    → ((((r >>= λ y. Read (o, n, y.2)) >>= λ x. Read (params_of x.0, x.1, x.2)) >>= λ x. Read (itself x.0, x.1 + 1, x.2)) >>= λ x. Read (TyCode t (types x.0), max h x.1, x.2))
    ≡ (r >>= λ y. Read (TyCode t (types ps), max h (n + 1), y.2))
close_by t h ps n (Read y) o e = rw e refl
close_by t h ps n (Fault left) o e = refl
close_by t h ps n (Deep left) o e = refl

list_by : (t : Ty) (h : ℕ) (r : Reading Placed (Option (List Piece)))
    → ((((r >>= λ x. expect (λ u. is_right u.lexeme) x.2 >>= λ y. Read (x.0, x.1, y.2)) >>= λ x. Read (params_of x.0, x.1, x.2)) >>= λ x. Read (itself x.0, x.1 + 1, x.2)) >>= λ x. Read (TyCode t (types x.0), max h x.1, x.2))
    ≡ ((r >>= λ x. Read (params_of x.0, x.1, x.2)) >>= λ x. expect (λ u. is_right u.lexeme) x.2 >>= λ y. Read (TyCode t (types x.0), max h (x.1 + 1), y.2))
list_by t h (Read (o, n, us)) = close_by t h (params_of o) n (expect (λ u. is_right u.lexeme) us) o refl
list_by t h (Fault left) = refl
list_by t h (Deep left) = refl

-- behind both marks: the parameters, in less room, and the closing mark
pub coded_is : (t : Ty) (h d : ℕ) (q r : Place) (rest : List Placed) → 0 < d
    → coded_at t h d (mark q P.RightParen ∷ mark r P.LeftParen ∷ rest) ≡ (parameters_at (d - 1) rest >>= λ x. expect (λ u. is_right u.lexeme) x.2 >>= λ y. Read (TyCode t (types x.0), max h (x.1 + 1), y.2))
coded_is t h zero q r rest room = absurd (omega arith)
coded_is t h (suc d) q r rest room =
    let m : suc d - 1 ≡ d = omega arith in
    rw (← lists_is (suc d) rest (omega arith), m) (list_by t h (optional (λ t. starts_base t.lexeme) 0 d (separated (λ t. is_comma t.lexeme) (param_at (λ us. lists d us) d)) rest))

row_by : (r : Reading Placed (List Piece))
    → ((r >>= λ x. Read (Some x.0, x.1, x.2)) >>= λ x. Read (params_of x.0, x.1, x.2)) ≡ ((r >>= λ x. Read (map param_of x.0, x.1, x.2)) >>= λ x. Read (without_void x.0, x.1, x.2))
row_by (Read x) = refl
row_by (Fault left) = refl
row_by (Deep left) = refl

optional_begins : {A : Type 0} (p : Placed → Bool) (d : ℕ) (F : Reader Placed A) (u : Placed) (rest : List Placed) → p u ≡ true → optional p 0 d F (u ∷ rest) ≡ (F (u ∷ rest) >>= λ v. Read (Some v.0, v.1, v.2))
optional_begins p d F u rest e = rw (e, lt_zero d) refl

-- where a type begins, a row of parameters
pub parameters_row : (d : ℕ) (ts : List Placed) → begins_base ts ≡ true → parameters_at d ts ≡ (row_at d ts >>= λ x. Read (without_void x.0, x.1, x.2))
parameters_row d [] e = absurd cc
parameters_row d (u ∷ rest) e =
    ap (λ r. r >>= λ x. Read (params_of x.0, x.1, x.2)) (optional_begins (λ t. starts_base t.lexeme) d (separated (λ t. is_comma t.lexeme) (param_at (λ us. lists d us) d)) u rest e)
    ∙ row_by (separated (λ t. is_comma t.lexeme) (param_at (λ us. lists d us) d) (u ∷ rest))

-- where none begins, no parameters
pub parameters_none : (d : ℕ) (ts : List Placed) → begins_base ts ≡ false → parameters_at d ts ≡ Read ([], 0, ts)
parameters_none d [] e = refl
parameters_none d (u ∷ rest) e = rw e refl
