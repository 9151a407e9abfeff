-- How code reads brackets behind a parameter.
use Rattle.std.proofs.Common.{◌≡◌, ℕ, List, ◌∷◌, Option, Some, refl, ap}
use Rattle.cpc_base.specs.declared.stop.Place.{Place}
use Rattle.cpc_base.proofs.Truth.{lt_zero}
use Rattle.cpc_tree.specs.declared.token.Punctuator.TheVariants as P
use Rattle.cpc_tree.specs.declared.token.Token.{Token}
use Rattle.cpc_tree.specs.declared.token.TokenKind.TheVariants as T
use Rattle.cpc_tree.specs.Erase.{Names}
use Rattle.cpc_tree.specs.Tokens.{Placed}
use Rattle.cpc_tree.specs.Syntax.{Ty, TyPointer}
use Rattle.cpc_parser_reading.specs.Reading.{Reading, Read, Fault, Deep, ◌>>=◌, expect}
use Rattle.cpc_parser_types.specs.Begins.{is_mark}
use Rattle.cpc_parser_types.specs.TypeViews.{any, maybe_number_at, skipped_number_at, pointer_to, pointed_at}
use Rattle.cpc_parser_types.specs.Views.{placed}
use Rattle.cpc_parser_types.proofs.Giving.{read_is}

closing : (t : Ty) (o : Option (Unit {0})) (r : Reading Placed (Unit {0}))
    → (((r >>= λ y. Read (o, 0, y.2)) >>= λ x. Read (Some x.0, x.1, x.2)) >>= λ x. Read (pointer_to t x.0, x.1, x.2)) ≡ (r >>= λ x. Read (TyPointer t, 0, x.2))
closing t o (Read x) = refl
closing t o (Fault left) = refl
closing t o (Deep left) = refl

inside : (t : Ty) (us : List Placed) (r : Reading Placed (Option (Unit {0}))) → (r >>= λ x. Read (any x.0, x.1, x.2)) ≡ Read (tt, 0, us)
    → ((((r >>= λ x. expect (λ u. is_mark P.RightBracket u.lexeme) x.2 >>= λ y. Read (x.0, x.1, y.2)) >>= λ x. Read (Some x.0, x.1, x.2))) >>= λ x. Read (pointer_to t x.0, x.1, x.2))
    ≡ (expect (λ u. is_mark P.RightBracket u.lexeme) us >>= λ x. Read (TyPointer t, 0, x.2))
inside t us (Read (o, h, ts)) e =
    let i = read_is (tt, h, ts) (tt, 0, us) e in
    let m : h ≡ 0 = ap (λ x. x.1) i in
    let j : ts ≡ us = ap (λ x. x.2) i in
    rw (m, j) (closing t o (expect (λ u. is_mark P.RightBracket u.lexeme) us))
inside t us (Fault left) e = absurd cc
inside t us (Deep left) e = absurd cc

-- a bracket, a number or none, and the closing bracket
pub pointed_bracket : (names : Names) (d : ℕ) (t : Ty) (ts rest behind : List Token) (q : Place) → ts ≡ record { place = q; kind = T.Punctuator P.LeftBracket } ∷ rest
    → skipped_number_at d (placed names rest) ≡ Read (tt, 0, placed names behind)
    → pointed_at t d (placed names ts) ≡ (expect (λ u. is_mark P.RightBracket u.lexeme) (placed names behind) >>= λ x. Read (TyPointer t, 0, x.2))
pointed_bracket names d t ts rest behind q e i = rw (e, lt_zero d) (inside t (placed names behind) (maybe_number_at d (placed names rest)) i)
