-- A text that is cut in the dialect Cpc is cut alike in the dialect Event, where names may be longer, and read alike, where it may nest deeper.
use Rattle.std.proofs.Common.{◌≡◌, ◌≤◌, Bool, true, false, List, [], ◌∷◌, length, Option, Some, None, option_map, refl, ap, ◌∙◌, arith}
use Rattle.std.specs.Prelude.{nat_le, if◌then◌else◌}
use Rattle.std.specs.Char.{is_ascii_digit}
use Rattle.std.proofs.lemmas.Bool.{leb-true, le-leb}
use Rattle.cpc_base.specs.Bytes.{Text}
use Rattle.cpc_base.specs.declared.stop.Place.{Place}
use Rattle.cpc_base.specs.declared.stop.Dialect.TheVariants as D
use Rattle.cpc_tree.specs.declared.token.Keyword.{Keyword}
use Rattle.cpc_tree.specs.Tokens.{Lexeme, Named, Placed, keyword_of}
use Rattle.cpc_tree.specs.Pieces.{Piece, Space, Token, Fault, State, Gap, Run, Sign, LineComment, BlockComment, BlockCommentStar, Open, Whole, Wrong, integer, run, name_or_keyword, in_state, state_of, piece_of}
use Rattle.cpc_tree.specs.Cut.{IsLongest, Row, nothing, a_space, a_token, IsCut}
use Rattle.cpc_tree.specs.Located.{LProgram}
use Rattle.cpc_tree.specs.Grammar.{Parses, IsProgram}

-- a blank or a token
data IsFine : Piece → Type 0 where
  fine_space : IsFine Space
  fine_token : (x : Lexeme) → IsFine (Token x)

-- a name that is short enough in the one dialect is in the other
short_name : (w : Text) (b : Bool) (x : Piece) → IsFine x → nat_le (length w) 63 ≡ b → (if b then Token (Named w) else Fault 4) ≡ x → name_or_keyword D.Event w None ≡ x
short_name w true x fine h e =
    let short : length w ≤ 63 = leb-true (length w) 63 h in
    let there : nat_le (length w) 95 ≡ true = le-leb (length w) 95 (omega (arith, short)) in
    ap (λ c. if c then Token (Named w) else Fault 4) there ∙ e
short_name w false Space fine h e = absurd cc
short_name w false (Token x) fine h e = absurd cc
short_name w false (Fault n) fine h e = elim fine [ ]

name_same : (w : Text) (k : Option Keyword) (x : Piece) → IsFine x → name_or_keyword D.Cpc w k ≡ x → name_or_keyword D.Event w k ≡ x
name_same w (Some k) x fine e = e
name_same w None x fine e = short_name w (nat_le (length w) 63) x fine refl e

run_same : (w : Text) (x : Piece) → IsFine x → run D.Cpc w ≡ x → run D.Event w ≡ x
unfolding run
run_same [] x fine e = e
run_same (b ∷ w) x fine e = go (is_ascii_digit b) e
  where
    go : (d : Bool) → (if d then integer (b ∷ w) else name_or_keyword D.Cpc (b ∷ w) (keyword_of (b ∷ w))) ≡ x → (if d then integer (b ∷ w) else name_or_keyword D.Event (b ∷ w) (keyword_of (b ∷ w))) ≡ x
    go true e = e
    go false e = name_same (b ∷ w) (keyword_of (b ∷ w)) x fine e

state_same : (w : Text) (s : State) (x : Piece) → IsFine x → in_state D.Cpc w s ≡ x → in_state D.Event w s ≡ x
state_same w Gap x fine e = e
state_same w Run x fine e = run_same w x fine e
state_same w (Sign p) x fine e = e
state_same w LineComment x fine e = e
state_same w BlockComment x fine e = e
state_same w BlockCommentStar x fine e = e
state_same w (Open quote held _) x fine e = e
state_same w (Whole l) x fine e = e
state_same w Wrong x fine e = e

piece_same : (w : Text) (x : Piece) → IsFine x → piece_of D.Cpc w ≡ Some x → piece_of D.Event w ≡ Some x
unfolding piece_of
piece_same w x fine e = go (state_of w) e
  where
    inner : {y z : Piece} → Some y ≡ Some z → y ≡ z
    inner e = cc

    go : (o : Option State) → option_map (in_state D.Cpc w) o ≡ Some x → option_map (in_state D.Event w) o ≡ Some x
    go None e = absurd cc
    go (Some s) e = ap Some (state_same w s x fine (inner e))

-- what is a piece in the one dialect is one in the other
piece_there : (w : Text) (y : Piece) → piece_of D.Event w ≡ Some y → (z : Piece) × (piece_of D.Cpc w ≡ Some z)
unfolding piece_of
piece_there w y e = go (state_of w) e
  where
    go : (o : Option State) → option_map (in_state D.Event w) o ≡ Some y → (z : Piece) × (option_map (in_state D.Cpc w) o ≡ Some z)
    go None e = absurd cc
    go (Some s) e = (in_state D.Cpc w s, refl)

longest_same : (w rest : Text) (x : Piece) → IsFine x → IsLongest D.Cpc w rest x → IsLongest D.Event w rest x
longest_same w rest x fine h = record {
  piece = piece_same w x fine h.piece;
  longest = λ a b y e p. let there = piece_there a y p in h.longest a b there.0 e there.1;
}

row_same : (place end : Place) (text rest : Text) (list : List Placed) → Row D.Cpc place text list end rest → Row D.Event place text list end rest
row_same _ _ _ _ _ (nothing place text) = nothing place text
row_same _ _ _ _ _ (a_space w place end text rest list l r) = a_space w place end text rest list (longest_same w text Space fine_space l) (row_same _ _ _ _ _ r)
row_same _ _ _ _ _ (a_token w x place end text rest list l r) = a_token w x place end text rest list (longest_same w text (Token x) (fine_token x) l) (row_same _ _ _ _ _ r)

pub cut_same : (text : Text) (list : List Placed) → IsCut text D.Cpc list → IsCut text D.Event list
cut_same text list (end, r) = (end, row_same _ _ _ _ _ r)

program_same : (list : List Placed) (end : Place) (p : LProgram) → IsProgram D.Cpc list end p → IsProgram D.Event list end p
program_same list end p (e, h, le, r) = (e, h, omega (arith, le), r)

-- a text that is read as a program in the dialect Cpc is read as it in the dialect Event
pub parses_same : (text : Text) (p : LProgram) → Parses D.Cpc text p → Parses D.Event text p
parses_same text p (list, cut, program) = (list, cut_same text list cut, program_same list _ p program)
