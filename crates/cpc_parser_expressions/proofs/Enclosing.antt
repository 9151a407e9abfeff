-- A type in parentheses is a type and the closing mark behind it.
use Rattle.std.proofs.Common.{◌≡◌, ℕ, List, refl}
use Rattle.cpc_tree.specs.Tokens.{Placed}
use Rattle.cpc_parser_reading.specs.Reading.{Reading, Read, Fault, Deep, ◌>>=◌, expect}
use Rattle.cpc_parser_types.specs.TypeReaders.{Piece, piece_type, is_right, type_name_at, enclosed_type_at}
use Rattle.cpc_parser_types.specs.TypeViews.{type_at}

closed_by : (p : Piece) (h : ℕ) (r : Reading Placed (Unit {0})) → ((r >>= λ y. Read (p, h, y.2)) >>= λ x. Read (piece_type x.0, x.1, x.2)) ≡ (r >>= λ y. Read (piece_type p, h, y.2))
closed_by p h (Read y) = refl
closed_by p h (Fault left) = refl
closed_by p h (Deep left) = refl

enclosed_by : (r : Reading Placed Piece) → ((r >>= λ x. expect (λ u. is_right u.lexeme) x.2 >>= λ y. Read (x.0, x.1, y.2)) >>= λ x. Read (piece_type x.0, x.1, x.2)) ≡ ((r >>= λ x. Read (piece_type x.0, x.1, x.2)) >>= λ x. expect (λ u. is_right u.lexeme) x.2 >>= λ y. Read (x.0, x.1, y.2))
enclosed_by (Read x) = closed_by x.0 x.1 (expect (λ u. is_right u.lexeme) x.2)
enclosed_by (Fault left) = refl
enclosed_by (Deep left) = refl

pub enclosed_is : (d : ℕ) (ts : List Placed) → enclosed_type_at d ts ≡ (type_at d ts >>= λ x. expect (λ u. is_right u.lexeme) x.2 >>= λ y. Read (x.0, x.1, y.2))
enclosed_is d ts = enclosed_by (type_name_at d ts)
