-- How code reads a declarator: a name, or a pointer to a function.
use Rattle.std.proofs.Common.{◌≡◌, ℕ, ◌<◌, true, false, List, [], ◌∷◌, Option, Some, None, Result, max, nat_lt, refl, sym, ap, ◌∙◌, arith}
use Rattle.std.specs.Result.{IsErrAnd}
use Rattle.std.proofs.lemmas.Result.{err_from_is_err_and}
use Rattle.cpc_base.specs.declared.stop.Place.{Place}
use Rattle.cpc_base.proofs.Truth.{lt_zero, by_false_true}
use Rattle.cpc_tree.specs.declared.token.Punctuator.TheVariants as P
use Rattle.cpc_tree.specs.declared.token.Token.{Token}
use Rattle.cpc_tree.specs.declared.token.TokenKind.TheVariants as T
use Rattle.cpc_tree.specs.Erase.{Names}
use Rattle.cpc_tree.specs.Tokens.{Lexeme, Mark, Named, Placed}
use Rattle.cpc_tree.specs.Syntax.{Ty, TyCode}
use Rattle.cpc_tree.specs.Located.{Ident, LVariable, LParameter}
use Rattle.cpc_tree.specs.TypeGrammar.{types}
use Rattle.cpc_parser_reading.specs.Reading.{Reading, Reader, Read, Fault, Deep, ◌>>=◌, one, picked, expect, after}
use Rattle.cpc_parser_types.specs.Begins.{is_mark, begins, begins_name}
use Rattle.cpc_parser_types.specs.TypeReaders.{ident_of, is_left, is_right, is_star, is_name, lists}
use Rattle.cpc_parser_types.specs.Declarators.{stars_at, brackets_at, plain_of, pointer_of, variable_of, PointerShape, shape_class, declared_at, variable_at, declarator_at}
use Rattle.cpc_parser_types.specs.TypeViews.{array_of, array_at, coded_at}
use Rattle.cpc_parser_types.specs.Views.{placed, Refuses, Gives}
use Rattle.cpc_parser_types.specs.declared.refusal.Refusal as GRefusal
use Rattle.cpc_parser_types.specs.declared.refusal.Refusal.TheVariants as R
use Rattle.cpc_parser_types.proofs.BaseWords.{at}
use Rattle.cpc_parser_types.proofs.Giving.{read_is}

named_by : (t : Ty) (h : ℕ) (x : Ident) (r : Reading Placed (Option ℕ))
    → (((r >>= λ z. Read (plain_of x z.0, z.1, z.2)) >>= λ y. Read ((t, y.0), max h y.1, y.2)) >>= λ z. Read (variable_of z.0, z.1, z.2))
    ≡ ((r >>= λ z. Read (array_of t z.0, z.1, z.2)) >>= λ p. Read (record { called = x; type = p.0 }, max h p.1, p.2))
named_by t h x (Read (None, n, us)) = refl
named_by t h x (Read (Some m, n, us)) = refl
named_by t h x (Fault left) = refl
named_by t h x (Deep left) = refl

named_at : (t : Ty) (h d : ℕ) (x : Ident) (us vs : List Placed) → one ident_of us ≡ Read (x, 0, vs)
    → ((declared_at d us >>= λ y. Read ((t, y.0), max h y.1, y.2)) >>= λ z. Read (variable_of z.0, z.1, z.2)) ≡ (array_at t d vs >>= λ p. Read (record { called = x; type = p.0 }, max h p.1, p.2))
named_at t h d x [] vs e = absurd cc
named_at t h d x (u ∷ rest) vs e = by u.place u.lexeme e where
  by : (q : Place) (k : Lexeme) → one ident_of (at q k ∷ rest) ≡ Read (x, 0, vs)
      → ((declared_at d (at q k ∷ rest) >>= λ y. Read ((t, y.0), max h y.1, y.2)) >>= λ z. Read (variable_of z.0, z.1, z.2)) ≡ (array_at t d vs >>= λ p. Read (record { called = x; type = p.0 }, max h p.1, p.2))
  by q (Named a) i =
      let y : Ident = record { place = q; text = a } in
      let k = read_is (y, 0, rest) (x, 0, vs) i in
      let m : x ≡ y = ap (λ z. z.0) (sym k) in
      let l : vs ≡ rest = ap (λ z. z.2) (sym k) in
      rw (m, l, lt_zero d) (named_by t h y (brackets_at d rest))
  by q k i = absurd cc

-- the stars, and what stands behind them
variable_of_reading : (d : ℕ) (r : Reading Placed Ty)
    → ((r >>= λ x. declared_at d x.2 >>= λ y. Read ((x.0, y.0), max x.1 y.1, y.2)) >>= λ z. Read (variable_of z.0, z.1, z.2)) ≡ (r >>= λ x. variable_at x.0 x.1 d x.2)
variable_of_reading d (Read x) = refl
variable_of_reading d (Fault left) = refl
variable_of_reading d (Deep left) = refl

pub variable_by : (base : Ty) (d : ℕ) (ts : List Placed) → declarator_at base d ts ≡ (stars_at base d ts >>= λ x. variable_at x.0 x.1 d x.2)
variable_by base d ts = variable_of_reading d (stars_at base d ts)

pub variable_behind : (base : Ty) (d : ℕ) (ts us : List Placed) (t : Ty) (h : ℕ) → stars_at base d ts ≡ Read (t, h, us) → declarator_at base d ts ≡ variable_at t h d us
variable_behind base d ts us t h e = ap (λ r. (r >>= λ x. declared_at d x.2 >>= λ y. Read ((x.0, y.0), max x.1 y.1, y.2)) >>= λ z. Read (variable_of z.0, z.1, z.2)) e

-- stars, a name, and brackets or none
pub declared_name : (base : Ty) (d : ℕ) (ts us vs : List Placed) (t : Ty) (h : ℕ) (x : Ident) → stars_at base d ts ≡ Read (t, h, us) → one ident_of us ≡ Read (x, 0, vs)
    → declarator_at base d ts ≡ (array_at t d vs >>= λ p. Read (record { called = x; type = p.0 }, max h p.1, p.2))
declared_name base d ts us vs t h x e f = variable_behind base d ts us t h e ∙ named_at t h d x us vs f

-- neither a name nor an opening mark
no_shape : (k : Lexeme) → is_name k ≡ false → is_mark P.LeftParen k ≡ false → shape_class k ≡ None
no_shape (Named x) e f = by_false_true (sym e)
no_shape (Mark P.LeftParen) e f = by_false_true (sym f)
no_shape (Mark p) e f = refl
no_shape k e f = refl

pub variable_fault : (t : Ty) (h d : ℕ) (ts : List Placed) → begins_name ts ≡ false → begins P.LeftParen ts ≡ false → variable_at t h d ts ≡ Fault ts
variable_fault t h d [] e f = refl
variable_fault t h d (u ∷ rest) e f = rw (no_shape u.lexeme e f) refl

left_shape : (k : Lexeme) → is_mark P.LeftParen k ≡ true → shape_class k ≡ Some PointerShape
left_shape (Mark P.LeftParen) e = refl
left_shape (Mark p) e = by_false_true e
left_shape k e = by_false_true e

-- without room for a parameter list
pub variable_deep : (t : Ty) (h d : ℕ) (ts : List Placed) → begins P.LeftParen ts ≡ true → d ≡ 0 → variable_at t h d ts ≡ Deep ts
variable_deep t h d [] e z = by_false_true e
variable_deep t h d (u ∷ rest) e z = rw (left_shape u.lexeme e, z) refl

-- what is behind the marks of a pointer to a function, as a variable
abbrev pub behind_star : Ty → ℕ → ℕ → Reader Placed LVariable
behind_star t h d ts = one ident_of ts >>= λ x. coded_at t h d x.2 >>= λ p. Read (record { called = x.0; type = p.0 }, p.1, p.2)

code_list : (t : Ty) (h : ℕ) (x : Ident) (r : Reading Placed (List LParameter))
    → ((((r >>= λ y. Read ((x, y.0), max 0 y.1, y.2)) >>= λ z. Read (pointer_of z.0, z.1, z.2)) >>= λ y. Read ((t, y.0), max h y.1, y.2)) >>= λ z. Read (variable_of z.0, z.1, z.2))
    ≡ ((r >>= λ y. Read (TyCode t (types y.0), max h y.1, y.2)) >>= λ p. Read (record { called = x; type = p.0 }, p.1, p.2))
code_list t h x (Read y) = let m : max 0 y.1 ≡ y.1 = omega arith in rw m refl
code_list t h x (Fault left) = refl
code_list t h x (Deep left) = refl

code_name : (t : Ty) (h d : ℕ) (o : Option Ident) (u : Placed) (rest : List Placed)
    → ((((picked o u rest >>= λ x. after (λ v. is_right v.lexeme) (after (λ v. is_left v.lexeme) (λ vs. lists d vs)) x.2 >>= λ y. Read ((x.0, y.0), max x.1 y.1, y.2)) >>= λ z. Read (pointer_of z.0, z.1, z.2))
    >>= λ y. Read ((t, y.0), max h y.1, y.2)) >>= λ z. Read (variable_of z.0, z.1, z.2))
    ≡ (picked o u rest >>= λ x. coded_at t h d x.2 >>= λ p. Read (record { called = x.0; type = p.0 }, p.1, p.2))
code_name t h d None u rest = refl
code_name t h d (Some x) u rest = code_list t h x (after (λ v. is_right v.lexeme) (after (λ v. is_left v.lexeme) (λ vs. lists d vs)) rest)

code_star : (t : Ty) (h d : ℕ) (r : Reading Placed (Unit {0}))
    → ((((r >>= λ s. one ident_of s.2 >>= λ x. after (λ v. is_right v.lexeme) (after (λ v. is_left v.lexeme) (λ vs. lists d vs)) x.2 >>= λ y. Read ((x.0, y.0), max x.1 y.1, y.2)) >>= λ z. Read (pointer_of z.0, z.1, z.2))
    >>= λ y. Read ((t, y.0), max h y.1, y.2)) >>= λ z. Read (variable_of z.0, z.1, z.2))
    ≡ (r >>= λ s. behind_star t h d s.2)
code_star t h d (Read (s, n, [])) = refl
code_star t h d (Read (s, n, u ∷ rest)) = code_name t h d (ident_of u) u rest
code_star t h d (Fault left) = refl
code_star t h d (Deep left) = refl

-- with its opening mark
pub variable_code : (names : Names) (t : Ty) (h d : ℕ) (ts rest : List Token) (q : Place) → ts ≡ record { place = q; kind = T.Punctuator P.LeftParen } ∷ rest → 0 < d
    → variable_at t h d (placed names ts) ≡ (expect (λ u. is_star u.lexeme) (placed names rest) >>= λ s. behind_star t h d s.2)
variable_code names t h d ts rest q e room =
    let f : nat_lt d 1 ≡ false = grind arith in
    rw (e, f) (code_star t h d (expect (λ u. is_star u.lexeme) (placed names rest)))

-- and its star and name
pub variable_named : (names : Names) (t : Ty) (h d : ℕ) (ts rest more behind : List Token) (q r : Place) (x : Ident)
    → ts ≡ record { place = q; kind = T.Punctuator P.LeftParen } ∷ rest → rest ≡ record { place = r; kind = T.Punctuator P.Star } ∷ more → 0 < d → one ident_of (placed names more) ≡ Read (x, 0, placed names behind)
    → variable_at t h d (placed names ts) ≡ (coded_at t h d (placed names behind) >>= λ p. Read (record { called = x; type = p.0 }, p.1, p.2))
variable_named names t h d ts rest more behind q r x e f room n =
    variable_code names t h d ts rest q e room
    ∙ (ap (λ z. expect (λ u. is_star u.lexeme) (placed names z) >>= λ s. behind_star t h d s.2) f
    ∙ ap (λ m. m >>= λ x. coded_at t h d x.2 >>= λ p. Read (record { called = x.0; type = p.0 }, p.1, p.2)) n)

-- a name that begins the tokens is not refused
name_refuses : {A : Type 0} (us : List Placed) (e : GRefusal.Refusal) (s : Reading Placed A) → begins_name us ≡ true → Refuses e (one ident_of us) → Refuses e s
name_refuses [] e s i g = by_false_true i
name_refuses (u ∷ rest) e s i g = by u.place u.lexeme e i g where
  read : (x : Ident) (e : GRefusal.Refusal) → Refuses {A = Ident} e (Read (x, 0, rest)) → Refuses e s
  read x R.Memory g = tt
  read x (R.Syntax n) g = let j = g.2 in absurd cc
  read x (R.Deep n) g = let j = g.2 in absurd cc

  by : (q : Place) (k : Lexeme) (e : GRefusal.Refusal) → is_name k ≡ true → Refuses e (one ident_of (at q k ∷ rest)) → Refuses e s
  by q (Named x) e i g = read (record { place = q; text = x }) e g
  by q k e i g = by_false_true i

pub name_err : {Y : Type 0} (view : Y → LVariable × ℕ × List Placed) (names : Names) (s : Reading Placed LVariable) (us : List Token) (x : Result Y GRefusal.Refusal) (e : GRefusal.Refusal)
    → begins_name (placed names us) ≡ true → IsErrAnd x (λ y. y ≡ e) → Refuses e (one ident_of (placed names us)) → Gives view x s
name_err view names s us x e n i g = let k = err_from_is_err_and x i in rw (k.1, k.2) (name_refuses (placed names us) e s n g)
