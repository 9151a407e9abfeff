-- The front of a text, byte by byte: what its loops keep.
use Rattle.std.proofs.Common.{◌≡◌, ℕ, zero, suc, ◌+◌, ◌≤◌, ◌<◌, Bool, true, false, cond, nat_eq, [], ◌∷◌, ◌++◌, length, take, drop, get_or, Some, None, refl, sym, ap, subst, ◌∙◌, arith, add-one}
use Rattle.std.proofs.lemmas.List.{take-append-drop}
use Rattle.std.proofs.lemmas.Bool.{ne_eqb}
use Rattle.cpc_base.specs.Bytes.{Text}
use Rattle.cpc_base.specs.declared.stop.Dialect.{Dialect}
use Rattle.cpc_tree.specs.declared.token.Punctuator.TheVariants as P
use Rattle.cpc_tree.specs.Tokens.{punctuator_of}
use Rattle.cpc_tree.specs.Pieces.{Piece, Space, Fault, State, Gap, Sign, LineComment, BlockComment, BlockCommentStar, unclosed, is_blank, in_word, first_state, next_state, state_behind, state_of, in_state, piece_of}
use Rattle.cpc_tree.specs.Cut.{IsLongest, IsFaulty, no_piece, no_token}
use Rattle.cpc_tree.proofs.States.{Stops, state_of_more, state_of_one, longest_stops, piece_state, piece_none}
use Rattle.cpc_lexer.specs.declared.front.Front.{Front}
use Rattle.cpc_lexer.specs.declared.front.Front.TheVariants as F
use Rattle.cpc_lexer.specs.Fronts.{front_piece, IsFrontNameless, IsFrontNumbered, IsLongestFront, IsFront}

-- a front with one more byte
pub take_more : (t : Text) (n d : ℕ) → n < length t → take (n + 1) t ≡ take n t ++ get_or t n d ∷ []
take_more t n d lt = rw add-one (at t n lt) where
  at : (t : Text) (n : ℕ) → n < length t → take (suc n) t ≡ take n t ++ get_or t n d ∷ []
  at [] n lt = absurd (omega arith)
  at (b ∷ t) zero lt = refl
  at (b ∷ t) (suc n) lt = ap (λ u. b ∷ u) (at t n (omega arith))

-- one more byte
pub state_next : (t : Text) (n d : ℕ) (s : State) → n < length t → state_of (take n t) ≡ Some s → state_of (take (n + 1) t) ≡ next_state s (get_or t n d)
state_next t n d s lt e = rw (take_more t n d lt) (state_of_more (take n t) s (get_or t n d) e)

pub state_begun : (t : Text) (d : ℕ) → 0 < length t → state_of (take 1 t) ≡ first_state (get_or t 0 d)
state_begun [] d lt = absurd (omega arith)
state_begun (b ∷ t) d lt = state_of_one b

drop_none : (n : ℕ) → drop {A = ℕ} n [] ≡ []
drop_none zero = refl
drop_none (suc n) = refl

stops_at : (t : Text) (n d : ℕ) (s : State) → (n < length t → next_state s (get_or t n d) ≡ None) → Stops s (drop n t)
stops_at [] n d s f = rw drop_none tt
stops_at (b ∷ t) zero d s f = f (omega arith)
stops_at (b ∷ t) (suc n) d s f = stops_at t n d s (λ lt. f (omega arith))

-- Where no next byte goes on, the bytes so far are the longest piece.
pub longest_front : (dialect : Dialect) (t : Text) (n d : ℕ) (s : State) (x : Piece) → 0 < n → n ≤ length t → state_of (take n t) ≡ Some s
    → (n < length t → next_state s (get_or t n d) ≡ None) → in_state dialect (take n t) s ≡ x → IsLongestFront dialect t n x
longest_front dialect t n d s x pos le e f g = record {
  some = pos;
  within = le;
  longest = subst (λ y. IsLongest dialect (take n t) (drop n t) y) g (longest_stops dialect (take n t) (drop n t) s e (stops_at t n d s f));
}

faulty : (dialect : Dialect) (t : Text) (n k : ℕ) → IsLongestFront dialect t n (Fault k) → IsFaulty dialect t k
faulty dialect t n k l = subst (λ u. IsFaulty dialect u k) (take-append-drop n t) (no_token (take n t) (drop n t) k l.longest)

-- what a front is, from its longest piece
pub is_front : (dialect : Dialect) (t : Text) (n : ℕ) (front : Front) → IsFrontNameless front → IsFrontNumbered front → IsLongestFront dialect t n (front_piece (take n t) front) → IsFront dialect t front n
is_front dialect t n F.Space nameless numbered l = (l, tt)
is_front dialect t n (F.Token kind) nameless numbered l = (l, nameless)
is_front dialect t n F.Name nameless numbered l = (l, tt)
is_front dialect t n (F.Fault k) nameless numbered l = (faulty dialect t n k l, numbered)

no_state : (b : ℕ) (a : Text) (s : State) → first_state b ≡ None → state_of (b ∷ a) ≡ Some s → ⊥
unfolding state_of state_behind
no_state b a s e f = let g : state_behind None a ≡ Some s = rw e at f in cc

-- a byte that begins no piece
pub stray : (dialect : Dialect) (t : Text) (d : ℕ) → 0 < length t → first_state (get_or t 0 d) ≡ None → IsFaulty dialect t 1
stray dialect [] d lt e = absurd (omega arith)
stray dialect (b ∷ t) d lt e = no_piece b t no where
  no : (a c : Text) (x : Piece) → a ++ c ≡ b ∷ t → piece_of dialect a ≡ Some x → ⊥
  no [] c x f m = let g : None ≡ Some x = sym (piece_none dialect) ∙ m in cc
  no (k ∷ a) c x f m =
      let h : b ≡ k = cc in
      let s = piece_state dialect (k ∷ a) x m in
      no_state k a s.0 (rw h at e) s.1

-- comments
abbrev pub block_state : Bool → State
block_state true = BlockCommentStar
block_state false = BlockComment

slash_begins : first_state 47 ≡ Some (Sign P.Slash)
unfolding first_state is_blank in_word punctuator_of
slash_begins = refl

slash_star : next_state (Sign P.Slash) 42 ≡ Some BlockComment
unfolding next_state
slash_star = refl

slash_slash : next_state (Sign P.Slash) 47 ≡ Some LineComment
unfolding next_state
slash_slash = refl

pub block_begun : (t : Text) → 2 ≤ length t → get_or t 0 0 ≡ 47 → get_or t 1 0 ≡ 42 → state_of (take 2 t) ≡ Some BlockComment
block_begun t le e f = state_next t 1 0 (Sign P.Slash) (omega arith) (state_begun t 0 (omega arith) ∙ (ap (λ b. first_state b) e ∙ slash_begins)) ∙ (ap (λ b. next_state (Sign P.Slash) b) f ∙ slash_star)

pub line_begun : (t : Text) → 2 ≤ length t → get_or t 0 0 ≡ 47 → get_or t 1 0 ≡ 47 → state_of (take 2 t) ≡ Some LineComment
line_begun t le e f = state_next t 1 0 (Sign P.Slash) (omega arith) (state_begun t 0 (omega arith) ∙ (ap (λ b. first_state b) e ∙ slash_begins)) ∙ (ap (λ b. next_state (Sign P.Slash) b) f ∙ slash_slash)

pub next_gap : (b : ℕ) → next_state Gap b ≡ None
unfolding next_state
next_gap b = refl

next_block : (starred : Bool) (b : ℕ) → (starred ≡ true → b ≡ 47 → ⊥) → next_state (block_state starred) b ≡ Some (block_state (nat_eq b 42))
unfolding next_state
next_block true b h = rw (ne_eqb b 47 (h refl)) (elim (nat_eq b 42) as (λ p. Some (cond p BlockCommentStar BlockComment) ≡ Some (block_state p)) [ true ↦ refl | false ↦ refl ])
next_block false b h = elim (nat_eq b 42) as (λ p. Some (cond p BlockCommentStar BlockComment) ≡ Some (block_state p)) [ true ↦ refl | false ↦ refl ]

next_closed : (b : ℕ) → b ≡ 47 → next_state BlockCommentStar b ≡ Some Gap
unfolding next_state
next_closed b e = rw e refl

next_line : (b : ℕ) → (b ≡ 10 → ⊥) → next_state LineComment b ≡ Some LineComment
unfolding next_state
next_line b h = rw (ne_eqb b 10 h) refl

next_line_end : (b : ℕ) → b ≡ 10 → next_state LineComment b ≡ Some Gap
unfolding next_state
next_line_end b e = rw e refl

gap_front : (dialect : Dialect) (t : Text) (n : ℕ) → n < length t → state_of (take (n + 1) t) ≡ Some Gap → IsFront dialect t F.Space (n + 1)
gap_front dialect t n lt e = is_front dialect t (n + 1) F.Space tt tt (longest_front dialect t (n + 1) 0 Gap Space (omega arith) (omega arith) e (λ l. next_gap _) refl)

pub block_closed : (dialect : Dialect) (t : Text) (n d : ℕ) → n < length t → state_of (take n t) ≡ Some (block_state true) → get_or t n d ≡ 47 → IsFront dialect t F.Space (n + 1)
block_closed dialect t n d lt e f = gap_front dialect t n lt (state_next t n d BlockCommentStar lt e ∙ next_closed _ f)

pub line_closed : (dialect : Dialect) (t : Text) (n d : ℕ) → n < length t → state_of (take n t) ≡ Some LineComment → get_or t n d ≡ 10 → IsFront dialect t F.Space (n + 1)
line_closed dialect t n d lt e f = gap_front dialect t n lt (state_next t n d LineComment lt e ∙ next_line_end _ f)

pub block_goes : (t : Text) (n d : ℕ) (starred : Bool) → n < length t → state_of (take n t) ≡ Some (block_state starred) → (starred ≡ true → get_or t n d ≡ 47 → ⊥) → state_of (take (n + 1) t) ≡ Some (block_state (nat_eq (get_or t n d) 42))
block_goes t n d starred lt e f = state_next t n d (block_state starred) lt e ∙ next_block starred _ f

pub line_goes : (t : Text) (n d : ℕ) → n < length t → state_of (take n t) ≡ Some LineComment → (get_or t n d ≡ 10 → ⊥) → state_of (take (n + 1) t) ≡ Some LineComment
line_goes t n d lt e f = state_next t n d LineComment lt e ∙ next_line _ f

unclosed_front : (dialect : Dialect) (t : Text) (n : ℕ) (s : State) → 0 < n → n ≡ length t → state_of (take n t) ≡ Some s → in_state dialect (take n t) s ≡ Fault unclosed → IsFront dialect t (F.Fault unclosed) n
unclosed_front dialect t n s pos e f g = is_front dialect t n (F.Fault unclosed) tt (omega arith, omega arith) (longest_front dialect t n 0 s (Fault unclosed) pos (omega arith) f (λ l. absurd (omega arith)) g)

pub block_open : (dialect : Dialect) (t : Text) (n : ℕ) (starred : Bool) → 2 ≤ n → n ≡ length t → state_of (take n t) ≡ Some (block_state starred) → IsFront dialect t (F.Fault unclosed) n
block_open dialect t n true le e f = unclosed_front dialect t n BlockCommentStar (omega arith) e f refl
block_open dialect t n false le e f = unclosed_front dialect t n BlockComment (omega arith) e f refl

pub line_open : (dialect : Dialect) (t : Text) (n : ℕ) → 2 ≤ n → n ≡ length t → state_of (take n t) ≡ Some LineComment → IsFront dialect t (F.Fault unclosed) n
line_open dialect t n le e f = unclosed_front dialect t n LineComment (omega arith) e f refl
