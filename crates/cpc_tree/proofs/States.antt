-- Pieces by their states: each front of a piece is one, so the longest piece ends where no next byte goes on.
use Rattle.std.proofs.Common.{◌≡◌, ℕ, zero, suc, ◌≤◌, ◌<◌, [], ◌∷◌, ◌++◌, length, take, Option, Some, None, refl, sym, ap, ◌∙◌, arith, ◌⊎◌, inl, inr}
use Rattle.cpc_base.specs.Bytes.{Text}
use Rattle.cpc_base.specs.declared.stop.Dialect.{Dialect}
use Rattle.cpc_tree.specs.Pieces.{Piece, State, first_state, next_state, state_behind, state_of, in_state, piece_of}
use Rattle.cpc_tree.specs.Cut.{IsLongest}

behind-append : (o : Option State) (v w : Text) → state_behind o (v ++ w) ≡ state_behind (state_behind o v) w
unfolding state_behind
behind-append None v w = refl
behind-append (Some s) [] w = refl
behind-append (Some s) (b ∷ v) w = behind-append (next_state s b) v w

behind_none : (w : Text) → state_behind None w ≡ None
unfolding state_behind
behind_none w = refl

behind_more : (s : State) (b : ℕ) (w : Text) → state_behind (Some s) (b ∷ w) ≡ state_behind (next_state s b) w
unfolding state_behind
behind_more s b w = refl

-- the state of bytes with one more
pub state_of-append : (w : Text) (s : State) (b : ℕ) (v : Text) → state_of w ≡ Some s → state_of (w ++ b ∷ v) ≡ state_behind (next_state s b) v
unfolding state_of
state_of-append [] s b v e = absurd cc
state_of-append (c ∷ w) s b v e = behind-append (first_state c) w (b ∷ v) ∙ (ap (λ o. state_behind o (b ∷ v)) e ∙ behind_more s b v)

pub state_of_more : (w : Text) (s : State) (b : ℕ) → state_of w ≡ Some s → state_of (w ++ b ∷ []) ≡ next_state s b
unfolding state_behind
state_of_more w s b e = state_of-append w s b [] e ∙ elim (next_state s b) as (λ o. state_behind o [] ≡ o) [ None ↦ refl | Some x ↦ refl ]

pub state_of_one : (b : ℕ) → state_of (b ∷ []) ≡ first_state b
unfolding state_of state_behind
state_of_one b = elim (first_state b) as (λ o. state_behind o [] ≡ o) [ None ↦ refl | Some x ↦ refl ]

pub state_piece : (dialect : Dialect) (w : Text) (s : State) → state_of w ≡ Some s → piece_of dialect w ≡ Some (in_state dialect w s)
unfolding piece_of
state_piece dialect w s e = rw e refl

pub piece_state : (dialect : Dialect) (w : Text) (x : Piece) → piece_of dialect w ≡ Some x → (s : State) × (state_of w ≡ Some s) × (in_state dialect w s ≡ x)
unfolding piece_of
piece_state dialect w x e = at (state_of w) refl where
  at : (o : Option State) → state_of w ≡ o → (s : State) × (state_of w ≡ Some s) × (in_state dialect w s ≡ x)
  at None f = let d : None ≡ Some x = rw f at e in absurd cc
  at (Some s) f = let d : Some (in_state dialect w s) ≡ Some x = rw f at e in (s, f, cc)

-- no byte of what follows goes on the state
abbrev pub Stops : State → Text → Type 0
Stops s [] = Unit {0}
Stops s (b ∷ text) = next_state s b ≡ None

-- two fronts of one text
pub shorter : (a b w text : Text) → a ++ b ≡ w ++ text → (length a ≤ length w) ⊎ ((c : ℕ) × (r : Text) × (s : Text) × (a ≡ w ++ c ∷ r) × (text ≡ c ∷ s))
shorter [] b w text e = inl (omega arith)
shorter (c ∷ a) b [] text e = inr (c, a, a ++ b, refl, sym e)
shorter (c ∷ a) b (d ∷ w) text e =
    let h : c ≡ d = cc in
    let t : a ++ b ≡ w ++ text = cc in
    elim (shorter a b w text t) as (λ x. (length (c ∷ a) ≤ length (d ∷ w)) ⊎ ((k : ℕ) × (r : Text) × (s : Text) × (c ∷ a ≡ d ∷ (w ++ k ∷ r)) × (text ≡ k ∷ s))) [ inl l ↦ inl (omega arith) | inr x ↦ inr (x.0, x.1, x.2, (let f = x.3 in cc), x.4) ]

-- a piece on which the next byte does not go is the longest
pub longest_stops : (dialect : Dialect) (w text : Text) (s : State) → state_of w ≡ Some s → Stops s text → IsLongest dialect w text (in_state dialect w s)
longest_stops dialect w text s e stops = record {
  piece = state_piece dialect w s e;
  longest = λ a b y f m. elim (shorter a b w text f) as (λ z. length a ≤ length w) [ inl l ↦ l | inr z ↦ absurd (no a y m z.0 z.1 z.2 z.3 z.4) ];
} where
  no : (a : Text) (y : Piece) → piece_of dialect a ≡ Some y → (c : ℕ) (r rest : Text) → a ≡ w ++ c ∷ r → text ≡ c ∷ rest → ⊥
  no a y m c r rest f g =
      let h : Stops s (c ∷ rest) = rw g at stops in
      let j : state_of a ≡ None = ap (λ u. state_of u) f ∙ (state_of-append w s c r e ∙ (ap (λ o. state_behind o r) h ∙ behind_none r)) in
      let k = piece_state dialect a y m in
      let l : state_of a ≡ Some k.0 = k.1 in
      cc

-- from the state behind the first byte, how many bytes go on, that one counted
unfoldable pub count : Option State → Text → ℕ
count None t = 0
count (Some s) [] = 1
count (Some s) (b ∷ t) = suc (count (next_state s b) t)

-- the length of the longest piece, or 0
unfoldable pub size : Text → ℕ
size [] = 0
size (b ∷ t) = count (first_state b) t

count_fits : (o : Option State) (t : Text) (n : ℕ) → count o t ≡ suc n → (s : State) × (state_behind o (take n t) ≡ Some s)
unfolding state_behind count
count_fits None t n e = absurd (omega arith)
count_fits (Some s) [] zero e = (s, refl)
count_fits (Some s) [] (suc n) e = absurd (omega arith)
count_fits (Some s) (b ∷ t) zero e = (s, refl)
count_fits (Some s) (b ∷ t) (suc n) e = count_fits (next_state s b) t n (omega arith)

count_long : (o : Option State) (a b : Text) (s : State) → state_behind o a ≡ Some s → length a < count o (a ++ b)
unfolding state_behind count
count_long None a b z e = absurd cc
count_long (Some s) [] [] z e = omega arith
count_long (Some s) [] (c ∷ b) z e = omega arith
count_long (Some s) (c ∷ a) b z e = omega (arith, count_long (next_state s c) a b z e)

count_le : (o : Option State) (t : Text) → count o t ≤ suc (length t)
unfolding count
count_le None t = omega arith
count_le (Some s) [] = omega arith
count_le (Some s) (b ∷ t) = omega (arith, count_le (next_state s b) t)

pub size_le : (t : Text) → size t ≤ length t
unfolding size
size_le [] = omega arith
size_le (b ∷ t) = count_le (first_state b) t

-- the longest piece is one
pub size_fits : (dialect : Dialect) (t : Text) → 0 < size t → (x : Piece) × (piece_of dialect (take (size t) t) ≡ Some x)
unfolding size state_of
size_fits dialect [] lt = absurd (omega arith)
size_fits dialect (b ∷ t) lt = at (count (first_state b) t) refl lt where
  at : (n : ℕ) → count (first_state b) t ≡ n → 0 < n → (x : Piece) × (piece_of dialect (take n (b ∷ t)) ≡ Some x)
  at zero e l = absurd (omega arith)
  at (suc n) e l = let f = count_fits (first_state b) t n e in (in_state dialect (b ∷ take n t) f.0, state_piece dialect (b ∷ take n t) f.0 f.1)

-- and no longer front is one
pub size_long : (dialect : Dialect) (a b : Text) (x : Piece) → piece_of dialect a ≡ Some x → length a ≤ size (a ++ b)
unfolding size state_of
size_long dialect [] b x e = omega arith
size_long dialect (c ∷ a) b x e = let s = piece_state dialect (c ∷ a) x e in count_long (first_state c) a b s.0 s.1

pub piece_none : (dialect : Dialect) → piece_of dialect [] ≡ None
unfolding piece_of state_of
piece_none dialect = refl
