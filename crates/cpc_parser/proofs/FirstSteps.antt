-- How code reads what stands first behind a base type.
use Rattle.std.proofs.Common.{◌≡◌, ℕ, Bool, true, false, List, [], ◌∷◌, Some, None, max, cond, refl, sym, ap, ◌∙◌, nat_lt, arith}
use Rattle.cpc_base.proofs.Truth.{lt_zero}
use Rattle.cpc_tree.specs.declared.token.Punctuator.TheVariants as P
use Rattle.cpc_tree.specs.Tokens.{Lexeme, Mark, Placed}
use Rattle.cpc_tree.specs.Syntax.{Ty, TyArray}
use Rattle.cpc_tree.specs.Located.{Ident, LVariable, LParameter}
use Rattle.cpc_tree.specs.ItemGrammar.{Head}
use Rattle.cpc_parser_reading.specs.Reading.{Reading, Read, Fault, Deep, ◌>>=◌, one, before, either}
use Rattle.cpc_parser_reading.specs.Chain.{links}
use Rattle.cpc_parser_reading.proofs.Readers.{links_end, links_stop, links_on}
use Rattle.cpc_parser_types.specs.Begins.{is_mark, begins}
use Rattle.cpc_parser_types.specs.TypeReaders.{ident_of, is_left, is_unbracket, list_at}
use Rattle.cpc_parser_types.specs.TypeViews.{array_of, array_at}
use Rattle.cpc_parser_types.specs.Declarators.{is_bracket, length_in, stars_at, PointerShape, shape_class, code_at, pointer_of, variable_of, declared_at, declarator_at}
use Rattle.cpc_parser.specs.ItemReaders.{First, Alone, Closed, Called, Going, Brackets, Parens, size_part, list_part, first_class, first_make, first_part, first_links, named_at, alone, coded, pointer_at, second, Seen, Variable, Function, seen}
use Rattle.cpc_parser.specs.ItemViews.{flat, seen_at, signature_at, named_seen_at}
use Rattle.cpc_parser.proofs.Firsts.{named_joint, parts}
use Rattle.cpc_parser.proofs.Steps.{made_head}

module _ (b : Ty) (d : ℕ) where
  -- what stands behind the stars
  abbrev pub behind_stars : Ty × ℕ × List Placed → Reading Placed Seen
  behind_stars t = flat (λ us. either (λ u. is_left u.lexeme) 1 d (pointer_at t.0 d) (named_at t.0 d) us >>= λ v. Read (seen v.0, v.1, v.2)) t.2

  without_type : (t : Ty) (h : ℕ) (r : Reading Placed First)
      → ((((r >>= λ y. Read ((t, y.0), max h y.1, y.2)) >>= λ v. Read (second v.0, v.1, v.2)) >>= λ v. Read (seen v.0, v.1, v.2)) >>= λ v. Read (v.0, 0, v.2)) ≡ ((r >>= λ v. Read (seen v.0, v.1, v.2)) >>= λ v. Read (v.0, 0, v.2))
  without_type t h (Read y) = refl
  without_type t h (Fault left) = refl
  without_type t h (Deep left) = refl

  by_stars : (r : Reading Placed Ty)
      → ((((r >>= λ t. either (λ u. is_left u.lexeme) 1 d (pointer_at t.0 d) (named_at t.0 d) t.2 >>= λ y. Read ((t.0, y.0), max t.1 y.1, y.2)) >>= λ v. Read (second v.0, v.1, v.2)) >>= λ v. Read (seen v.0, v.1, v.2)) >>= λ v. Read (v.0, 0, v.2))
      ≡ (r >>= λ t. behind_stars t)
  by_stars (Read t) = without_type t.0 t.1 (either (λ u. is_left u.lexeme) 1 d (pointer_at t.0 d) (named_at t.0 d) t.2)
  by_stars (Fault left) = refl
  by_stars (Deep left) = refl

  pub first_steps : (ts : List Placed) → flat (seen_at b d) ts ≡ (stars_at b d ts >>= λ t. behind_stars t)
  first_steps ts = by_stars (stars_at b d ts)

  -- no pointer to a function stands there
  pub named_behind : (t : Ty) (us : List Placed) → begins P.LeftParen us ≡ false → behind_stars (t, 0, us) ≡ flat (named_seen_at t d) us
  named_behind t [] e = refl
  named_behind t (u ∷ us) e = rw e refl

  -- a variable, as what was read first
  abbrev pub as_seen : LVariable × ℕ × List Placed → Reading Placed Seen
  as_seen x = Read (Variable x.0, 0, x.2)

  pointer_seen : (t : Ty) (h : ℕ) (r : Reading Placed (Ident × List LParameter))
      → (((r >>= λ v. Read (coded t v.0, v.1, v.2)) >>= λ v. Read (seen v.0, v.1, v.2)) >>= λ v. Read (v.0, 0, v.2))
      ≡ ((((r >>= λ v. Read (pointer_of v.0, v.1, v.2)) >>= λ y. Read ((t, y.0), max h y.1, y.2)) >>= λ z. Read (variable_of z.0, z.1, z.2)) >>= λ x. as_seen x)
  pointer_seen t h (Read y) = refl
  pointer_seen t h (Fault left) = refl
  pointer_seen t h (Deep left) = refl

  by_room : (t : Ty) (h : ℕ) (u : Placed) (us : List Placed) (c : Bool)
      → (((cond c (Deep (u ∷ us)) (code_at d us >>= λ v. Read (coded t v.0, v.1, v.2)) >>= λ v. Read (seen v.0, v.1, v.2)) >>= λ v. Read (v.0, 0, v.2)))
      ≡ (((cond c (Deep (u ∷ us)) (code_at d us >>= λ v. Read (pointer_of v.0, v.1, v.2)) >>= λ y. Read ((t, y.0), max h y.1, y.2)) >>= λ z. Read (variable_of z.0, z.1, z.2)) >>= λ x. as_seen x)
  by_room t h u us true = refl
  by_room t h u us false = pointer_seen t h (code_at d us)

  left_shape : (k : Lexeme) → is_mark P.LeftParen k ≡ true → shape_class k ≡ Some PointerShape
  left_shape (Mark P.LeftParen) e = refl
  left_shape k e = absurd cc

  pointer_behind : (t : Ty) (h : ℕ) (us : List Placed) → begins P.LeftParen us ≡ true
      → behind_stars (t, h, us) ≡ (((declared_at d us >>= λ y. Read ((t, y.0), max h y.1, y.2)) >>= λ z. Read (variable_of z.0, z.1, z.2)) >>= λ x. as_seen x)
  pointer_behind t h [] e = absurd cc
  pointer_behind t h (u ∷ us) e = rw (e, left_shape u.lexeme e) (by_room t h u us (nat_lt d 1))

  -- a pointer to a function is a declarator
  pub declarator_first : (ts us : List Placed) (t : Ty) (h : ℕ) → stars_at b d ts ≡ Read (t, h, us) → begins P.LeftParen us ≡ true → flat (seen_at b d) ts ≡ (declarator_at b d ts >>= λ x. as_seen x)
  declarator_first ts us t h e c =
      first_steps ts ∙ (ap (λ r. r >>= λ t. behind_stars t) e
      ∙ (pointer_behind t h us c ∙ sym (ap (λ r. ((r >>= λ x. declared_at d x.2 >>= λ y. Read ((x.0, y.0), max x.1 y.1, y.2)) >>= λ z. Read (variable_of z.0, z.1, z.2)) >>= λ x. as_seen x) e)))

-- A name, and what goes on.
module _ (t : Ty) (d : ℕ) where
  abbrev pub going_on : Ident × ℕ × List Placed → Reading Placed Seen
  going_on x = flat (λ us. links (first_links d) (Alone x.0 t) x.1 us >>= λ v. Read (seen v.0, v.1, v.2)) x.2

  by_name : (r : Reading Placed Ident)
      → ((((r >>= λ x. Read (alone t x.0, x.1, x.2)) >>= λ x. links (first_links d) x.0 x.1 x.2) >>= λ v. Read (seen v.0, v.1, v.2)) >>= λ v. Read (v.0, 0, v.2)) ≡ (r >>= λ x. going_on x)
  by_name (Read x) = refl
  by_name (Fault left) = refl
  by_name (Deep left) = refl

  pub name_steps : (ts : List Placed) → flat (named_seen_at t d) ts ≡ (one ident_of ts >>= λ x. going_on x)
  name_steps ts = by_name (one ident_of ts)

  goes_on : (c : Going) (v : First) (u : Placed) (us : List Placed) → first_class v u.lexeme ≡ Some c
      → links (first_links d) v 0 (u ∷ us) ≡ (first_part d c (u ∷ us) >>= λ z. links (first_links d) (first_make c v z.0) (max 0 z.1) z.2)
  goes_on c v u us e = links_on (named_joint d) (parts d) (λ c. omega arith) (λ d c. first_part d c) (λ d c t rest a b i. refl) d (omega arith) c v 0 u us (omega arith) (omega arith) e refl

  closed_stays : (x : LVariable) (h : ℕ) (ts : List Placed) → links (first_links d) (Closed x) h ts ≡ Read (Closed x, h, ts)
  closed_stays x h [] = links_end (first_links d) (Closed x) h
  closed_stays x h (u ∷ us) = links_stop (first_links d) (Closed x) h u us refl

  called_stays : (x : Head) (h : ℕ) (ts : List Placed) → links (first_links d) (Called x) h ts ≡ Read (Called x, h, ts)
  called_stays x h [] = links_end (first_links d) (Called x) h
  called_stays x h (u ∷ us) = links_stop (first_links d) (Called x) h u us refl

  left_in : (k : Lexeme) → is_mark P.LeftParen k ≡ true → k ≡ Mark P.LeftParen
  left_in (Mark P.LeftParen) e = refl
  left_in k e = absurd cc

  bracket_in : (k : Lexeme) → is_bracket k ≡ true → k ≡ Mark P.LeftBracket
  bracket_in (Mark P.LeftBracket) e = refl
  bracket_in k e = absurd cc

  nothing_on : (x : Ident) (k : Lexeme) → is_mark P.LeftParen k ≡ false → is_bracket k ≡ false → first_class (Alone x t) k ≡ None
  nothing_on x (Mark P.LeftParen) e f = absurd cc
  nothing_on x (Mark P.LeftBracket) e f = absurd cc
  nothing_on x k e f = refl

  listed : (x : Ident) (r : Reading Placed (List LParameter))
      → ((((r >>= λ z. Read (list_part z.0, z.1, z.2)) >>= λ z. links (first_links d) (first_make Parens (Alone x t) z.0) (max 0 z.1) z.2) >>= λ v. Read (seen v.0, v.1, v.2)) >>= λ v. Read (v.0, 0, v.2))
      ≡ ((r >>= λ y. Read (y.0, 0, y.2)) >>= λ p. Read (Function (made_head t x p.0), 0, p.2))
  listed x (Read y) = rw (called_stays (made_head t x y.0) (max 0 y.1) y.2) refl
  listed x (Fault left) = refl
  listed x (Deep left) = refl

  -- a name with parameters
  pub name_called : (x : Ident) (us : List Placed) → begins P.LeftParen us ≡ true → going_on (x, 0, us) ≡ (flat (signature_at d) us >>= λ p. Read (Function (made_head t x p.0), 0, p.2))
  name_called x [] e = absurd cc
  name_called x (u ∷ us) e =
      let i : first_class (Alone x t) u.lexeme ≡ Some Parens = rw (left_in u.lexeme e) refl in
      rw (goes_on Parens (Alone x t) u us i, e) (listed x (list_at d us))

  sized : (x : Ident) (r : Reading Placed ℕ)
      → ((((r >>= λ z. Read (size_part z.0, z.1, z.2)) >>= λ z. links (first_links d) (first_make Brackets (Alone x t) z.0) (max 0 z.1) z.2) >>= λ v. Read (seen v.0, v.1, v.2)) >>= λ v. Read (v.0, 0, v.2))
      ≡ (((r >>= λ v. Read (Some v.0, v.1, v.2)) >>= λ z. Read (array_of t z.0, z.1, z.2)) >>= λ p. Read (Variable (record { called = x; type = p.0 }), 0, p.2))
  sized x (Read y) = rw (closed_stays (record { called = x; type = TyArray t y.0 }) (max 0 y.1) y.2) refl
  sized x (Fault left) = refl
  sized x (Deep left) = refl

  -- a name with brackets or none
  pub name_sized : (x : Ident) (us : List Placed) → begins P.LeftParen us ≡ false → going_on (x, 0, us) ≡ (array_at t d us >>= λ p. Read (Variable (record { called = x; type = p.0 }), 0, p.2))
  name_sized x [] e = rw (links_end (first_links d) (Alone x t) 0) refl
  name_sized x (u ∷ us) e = by (is_bracket u.lexeme) refl where
    by : (c : Bool) → is_bracket u.lexeme ≡ c → going_on (x, 0, u ∷ us) ≡ (array_at t d (u ∷ us) >>= λ p. Read (Variable (record { called = x; type = p.0 }), 0, p.2))
    by false f = rw (links_stop (first_links d) (Alone x t) 0 u us (nothing_on x u.lexeme e f), f) refl
    by true f =
        let i : first_class (Alone x t) u.lexeme ≡ Some Brackets = rw (bracket_in u.lexeme f) refl in
        rw (goes_on Brackets (Alone x t) u us i, f, lt_zero d) (sized x (before (one (λ z. length_in z.lexeme)) (λ z. is_unbracket z.lexeme) us))
