-- The statements of the small language are read exactly.
use Rattle.std.proofs.Common.{◌≡◌, ℕ, zero, suc, ◌+◌, ◌≤◌, Bool, true, false, List, [], ◌∷◌, ◌++◌, Option, Some, None, max, refl, sym, ap, subst, ◌∙◌, append_assoc, arith, nat_lt, inl, inr, ◌⊎◌}
use Rattle.cpc_parser_reading.specs.Reading.{Reader, before, after, made, either_two, below}
use Rattle.cpc_parser_reading.specs.Phrase.{One, Before, After, Headed, Both, Mapped, Made, Only, OneOf, Either}
use Rattle.cpc_parser_reading.specs.Chain.{chain, Chained, first, further, Joint, down}
use Rattle.cpc_parser_reading.specs.Lists.{many, Many, no_more, one_more}
use Rattle.cpc_parser_reading.specs.Operators.{Tailed, bare, tailed, Trails}
use Rattle.cpc_parser_reading.specs.Exact.{Stops, Any, Opens, Exact, Branch, Starts, Sample}
use Rattle.cpc_parser_reading.specs.SmallExpressions.{Kind, name, opening, closing, colon, dot, equals, semicolon, brace, unbrace, when, otherwise, Token, kind_of, Expr, named, member, Exprs, is_closing, is_colon, starts_expr, text, Rank, primary, postfix, whole, Reads, a_name, parens, a_primary, called, membered, ReadsArgs, read}
use Rattle.cpc_parser_reading.specs.SmallStatements.{Stm, assign, perform, block, choice, label, Stms, no_stm, a_stm, is_equals, is_semicolon, is_opening, is_unbrace, is_otherwise, is_name, dangles, IsStm, assigned, performed, blocked, if_alone, if_else, labelled, IsStms, is_none, is_more, Simple, place, calls, sets, expr_of, Next, Args, Field, Set, next_class, Piece, args, field, value, piece_part, next_make, next_left, next_right, next_least, next_links, complete, simple_at, stm_of, sentence_at, label_at, Class, Block, If, Other, class_of, class_low, stms_of, starts_stm, if_of, stm_part, stm_at, statement, program}
use Rattle.cpc_parser_reading.proofs.Readers.{Apart, Over, after_branch, any_stops, branch, exact_after, exact_as, exact_before, exact_chain, exact_made, exact_many, exact_mapped, exact_one_of, exact_only, exact_pair, exact_start, exact_tail, exact_two, fits_room, free_room, headed_branch, last_all, opens_as}
use Rattle.cpc_parser_reading.proofs.SmallExpressions.{Follow, closer, a_word, word_reads, starts_head, Bracketed, of_args, to_args, closes_whole, args_exact, field_exact, exact_read, teller}

-- A piece of a simple statement, in the readers' words.
abbrev Pieces : Next → List Token → Piece → ℕ → Type 0
Pieces (Args b) = Headed kind_of (λ k. (s : Simple) × (next_class s k ≡ Some (Args b))) (λ t. Mapped args Bracketed)
Pieces (Field b) = Headed kind_of (λ k. (s : Simple) × (next_class s k ≡ Some (Field b))) (λ t. Mapped field (One (λ u. text u.kind)))
Pieces (Set b) = Headed kind_of (λ k. (s : Simple) × (next_class s k ≡ Some (Set b))) (λ t. Mapped value (Reads whole))

-- no condition
abbrev Always : Simple → Next → Type 0
Always s c = Unit {0}

-- the nesting with a piece
abbrev grown : Next → ℕ → ℕ → ℕ
grown c h j = max (h + next_left c) (j + next_right c)

-- what has been read of a simple statement, as a chain
abbrev Trail : List Token → Simple → ℕ → Type 0
Trail = Chained kind_of next_class Always next_make grown (Made place (Reads primary)) Pieces

-- What has been read, in the words of the grammar.
abbrev Shaped : List Token → Simple → ℕ → Type 0
Shaped f (place v) h = (i : ℕ) × (h ≡ i + 1) × Reads postfix f v i
Shaped f (calls v vs) h = (g : List Token) × (t : Token) × (k : List Token) × (u : Token) × (i : ℕ) × (j : ℕ) × (f ≡ g ++ t ∷ (k ++ u ∷ [])) × (h ≡ max i j + 1) × Reads postfix g v i × (t.kind ≡ opening) × ReadsArgs k vs j × (is_closing u.kind ≡ true)
Shaped f (sets v w) h = (g : List Token) × (t : Token) × (k : List Token) × (i : ℕ) × (j : ℕ) × (f ≡ g ++ t ∷ k) × (h ≡ max i j + 1) × Reads postfix g v i × (is_equals t.kind ≡ true) × Reads whole k w j

-- what goes on, whether it is a call, and what that costs
abbrev Going : Simple → Type 0
Going (place v) = Unit {0}
Going (calls v vs) = Unit {0}
Going (sets v w) = ⊥

-- what a call has less, as a statement
abbrev extra : Simple → ℕ
extra (place v) = 0
extra (calls v vs) = 1
extra (sets v w) = 1

-- the class of the next token, and back: what goes on and is complete is a call
args_is : (s : Simple) (k : Kind) (b : Bool) → next_class s k ≡ Some (Args b) → (k ≡ opening) × (next_left (Args b) ≡ extra s) × Going s
args_is (place v) opening true e = absurd cc
args_is (place v) opening false e = (refl, refl, tt)
args_is (calls v vs) opening true e = (refl, refl, tt)
args_is (calls v vs) opening false e = absurd cc
args_is s k b e = absurd cc

field_is : (s : Simple) (k : Kind) (b : Bool) → next_class s k ≡ Some (Field b) → (k ≡ dot) × (next_left (Field b) ≡ extra s + 1) × Going s
field_is (place v) dot true e = absurd cc
field_is (place v) dot false e = (refl, refl, tt)
field_is (calls v vs) dot true e = (refl, refl, tt)
field_is (calls v vs) dot false e = absurd cc
field_is s k b e = absurd cc

set_is : (s : Simple) (k : Kind) (b : Bool) → next_class s k ≡ Some (Set b) → (is_equals k ≡ true) × (next_left (Set b) ≡ extra s) × Going s
set_is (place v) equals true e = absurd cc
set_is (place v) equals false e = (refl, refl, tt)
set_is (calls v vs) equals true e = (refl, refl, tt)
set_is (calls v vs) equals false e = absurd cc
set_is s k b e = absurd cc

class_opening : (s : Simple) → Going s → (next_class s opening ≡ Some (Args (complete s))) × (next_left (Args (complete s)) ≡ extra s)
class_opening (place v) g = (refl, refl)
class_opening (calls v vs) g = (refl, refl)
class_opening (sets v w) g = absurd g

class_dot : (s : Simple) → Going s → (next_class s dot ≡ Some (Field (complete s))) × (next_left (Field (complete s)) ≡ extra s + 1)
class_dot (place v) g = (refl, refl)
class_dot (calls v vs) g = (refl, refl)
class_dot (sets v w) g = absurd g

class_equals : (s : Simple) (k : Kind) → is_equals k ≡ true → Going s → (next_class s k ≡ Some (Set (complete s))) × (next_left (Set (complete s)) ≡ extra s)
class_equals (place v) equals e g = (refl, refl)
class_equals (calls v vs) equals e g = (refl, refl)
class_equals (sets v w) k e g = absurd g
class_equals s k e g = absurd cc

as_expr : (f : List Token) (s : Simple) (h : ℕ) → Going s → Shaped f s h → (i : ℕ) × (h + extra s ≡ i + 1) × Reads postfix f (expr_of s) i
as_expr f (place v) h g (i, e, r) = (i, omega (arith, e), r)
as_expr f (calls v vs) h g (k, t, l, u, i, j, e, n, r, o, q, c) = (h, omega arith, rw (e, n) (called k l t u v vs i j r o q c))
as_expr f (sets v w) h g r = absurd g

with_piece : (f k : List Token) (t : Token) (c : Next) (s : Simple) (w : Piece) (h j : ℕ) → Shaped f s h → next_class s t.kind ≡ Some c → Pieces c (t ∷ k) w j → Shaped (f ++ t ∷ k) (next_make c s w) (grown c h j)
with_piece f k t (Args b) s w h j r e (t', g, e0, p, (vs, e1, (o, e2, (g2, u, e3, c, q)))) =
    let a = args_is s t.kind b e in
    let x = as_expr f s h a.2 r in
    let m : max (h + next_left (Args b)) (j + 1) ≡ max x.0 j + 1 = omega (arith, a.1, x.1) in
    let hd : t ≡ t' = cc in
    let tl : k ≡ g2 ++ u ∷ [] = let y : k ≡ g = cc in y ∙ e3 in
    rw e1 (f, t, g2, u, x.0, j, ap (λ z. f ++ t ∷ z) tl, m, x.2, a.0, of_args g2 u vs o j e2 q, c)
with_piece f k t (Field b) s w h j r e (t', g, e0, p, (n, e1, (u, e2, q, z))) =
    let a = field_is s t.kind b e in
    let x = as_expr f s h a.2 r in
    let tl : k ≡ u ∷ [] = let y : k ≡ g = cc in y ∙ e2 in
    let m : max (h + next_left (Field b)) (j + 0) ≡ (x.0 + 1) + 1 = omega (arith, a.1, x.1, z) in
    rw (e1, tl) (x.0 + 1, m, membered f t u (expr_of s) n x.0 x.2 a.0 q)
with_piece f k t (Set b) s w h j r e (t', g, e0, p, (v, e1, q)) =
    let a = set_is s t.kind b e in
    let x = as_expr f s h a.2 r in
    let m : max (h + next_left (Set b)) (j + 1) ≡ max x.0 j + 1 = omega (arith, a.1, x.1) in
    let y : g ≡ k = cc in
    rw e1 (f, t, k, x.0, j, refl, m, x.2, a.0, subst (λ z. Reads whole z v j) y q)

of_shape : (f : List Token) (s : Simple) (h : ℕ) → Trail f s h → Shaped f s h
of_shape f s h (first g u i (w, j, e, n, r)) = rw e (j, n, a_primary g w j r)
of_shape f s h (further g k t c u w i j r e ok q) = with_piece g k t c u w i j (of_shape g u i r) e q

-- A postfix expression begins a statement.
record Begun (f : List Token) (v : Expr) (i : ℕ) : Type 0 where
  shape : Simple
  height : ℕ
  going : Going shape
  is : expr_of shape ≡ v
  high : height + extra shape ≡ i + 1
  row : Trail f shape height

called_row : (g k : List Token) (t u : Token) (w : Expr) (vs : Exprs) (i j : ℕ) → Begun g w i → t.kind ≡ opening → ReadsArgs k vs j → is_closing u.kind ≡ true → Trail (g ++ t ∷ (k ++ u ∷ [])) (calls w vs) (max i j + 1)
called_row g k t u w vs i j b o q c =
    let a = class_opening b.shape b.going in
    let e : next_class b.shape t.kind ≡ Some (Args (complete b.shape)) = rw o a.0 in
    let m : grown (Args (complete b.shape)) b.height j ≡ max i j + 1 = let h = b.high in omega (arith, a.1, h) in
    rw (← m, ← b.is) (further g (k ++ u ∷ []) t (Args (complete b.shape)) b.shape (args vs) b.height j b.row e tt
    (t, k ++ u ∷ [], refl, (b.shape, e), (vs, refl, to_args k u vs j q c)))

set_row : (g k : List Token) (t : Token) (v w : Expr) (i j : ℕ) → Begun g v i → is_equals t.kind ≡ true → Reads whole k w j → Trail (g ++ t ∷ k) (sets v w) (max i j + 1)
set_row g k t v w i j b o q =
    let a = class_equals b.shape t.kind o b.going in
    let m : grown (Set (complete b.shape)) b.height j ≡ max i j + 1 = let h = b.high in omega (arith, a.1, h) in
    rw (← m, ← b.is) (further g k t (Set (complete b.shape)) b.shape (value w) b.height j b.row a.0 tt (t, k, refl, (b.shape, a.0), (w, refl, q)))

field_row : (g : List Token) (t u : Token) (w : Expr) (n i : ℕ) → Begun g w i → t.kind ≡ dot → text u.kind ≡ Some n → Trail (g ++ t ∷ u ∷ []) (place (member w n)) ((i + 1) + 1)
field_row g t u w n i b o q =
    let a = class_dot b.shape b.going in
    let e : next_class b.shape t.kind ≡ Some (Field (complete b.shape)) = rw o a.0 in
    let m : grown (Field (complete b.shape)) b.height 0 ≡ (i + 1) + 1 = let h = b.high in omega (arith, a.1, h) in
    rw (← m, ← b.is) (further g (u ∷ []) t (Field (complete b.shape)) b.shape (field n) b.height 0 b.row e tt (t, u ∷ [], refl, (b.shape, e), (n, refl, (u, refl, q, refl))))

begun : (f : List Token) (v : Expr) (i : ℕ) → Reads postfix f v i → Begun f v i
begun f v i (a_primary _ _ _ r) = record { shape = place v; height = i + 1; going = tt; is = refl; high = omega arith; row = first f (place v) (i + 1) (v, i, refl, refl, r) }
begun f v h (called g k t u w vs i j r o q c) =
    record { shape = calls w vs; height = max i j + 1; going = tt; is = refl; high = omega arith; row = called_row g k t u w vs i j (begun g w i r) o q c }
begun f v h (membered g t u w n i r o q) =
    record { shape = place (member w n); height = (i + 1) + 1; going = tt; is = refl; high = omega arith; row = field_row g t u w n i (begun g w i r) o q }

-- A simple statement and its end.
abbrev Sentence : List Token → Stm → ℕ → Type 0
Sentence = Mapped stm_of (Before (Only complete Trail) (λ t. is_semicolon t.kind))

of_shaped : (f : List Token) (s : Simple) (h : ℕ) (u : Token) → complete s ≡ true → Shaped f s h → is_semicolon u.kind ≡ true → IsStm (f ++ u ∷ []) (stm_of s) h
of_shaped f (place v) h u ok r e = absurd cc
of_shaped f (calls v vs) h u ok (g, t, k, c, i, j, e1, n, r, o, q, cl) e =
    rw (e1, n, append_assoc g (t ∷ (k ++ c ∷ [])) (u ∷ []), append_assoc k (c ∷ []) (u ∷ [])) (performed g k t c u v vs i j r o q cl e)
of_shaped f (sets v w) h u ok (g, t, k, i, j, e1, n, r, o, q) e =
    rw (e1, n, append_assoc g (t ∷ k) (u ∷ [])) (assigned g k t u v w i j r o q e)

of_sentence : (f : List Token) (v : Stm) (h : ℕ) → Sentence f v h → IsStm f v h
of_sentence f v h (s, e, (g, u, e1, c, (ok, r))) = rw (e, e1) (of_shaped g s h u ok (of_shape g s h r) c)

performed_row : (g k : List Token) (t u s : Token) (v : Expr) (vs : Exprs) (i j : ℕ) → Reads postfix g v i → t.kind ≡ opening → ReadsArgs k vs j → is_closing u.kind ≡ true → is_semicolon s.kind ≡ true
    → Sentence (g ++ t ∷ (k ++ u ∷ s ∷ [])) (perform v vs) (max i j + 1)
performed_row g k t u s v vs i j r o q c e =
    (calls v vs, refl, (g ++ t ∷ (k ++ u ∷ []), s, rw (append_assoc g (t ∷ (k ++ u ∷ [])) (s ∷ []), append_assoc k (u ∷ []) (s ∷ [])) refl, e, (refl, called_row g k t u v vs i j (begun g v i r) o q c)))

assigned_row : (g k : List Token) (t u : Token) (v w : Expr) (i j : ℕ) → Reads postfix g v i → is_equals t.kind ≡ true → Reads whole k w j → is_semicolon u.kind ≡ true → Sentence (g ++ t ∷ (k ++ u ∷ [])) (assign v w) (max i j + 1)
assigned_row g k t u v w i j r o q e =
    (sets v w, refl, (g ++ t ∷ k, u, sym (append_assoc g (t ∷ k) (u ∷ [])), e, (refl, set_row g k t v w i j (begun g v i r) o q)))

-- what may stand behind what has been read
abbrev Ends : Simple → Kind → Type 0
Ends (place v) k = Unit {0}
Ends (calls v vs) k = Unit {0}
Ends (sets v w) k = Follow whole k

-- what may stand behind a piece
abbrev EndsPiece : Next → Piece → Kind → Type 0
EndsPiece c (args vs) k = Unit {0}
EndsPiece c (field n) k = Unit {0}
EndsPiece c (value v) k = Follow whole k

ends_to : (c : Next) (s : Simple) (w : Piece) (k : Kind) → EndsPiece c w k → Ends (next_make c s w) k
ends_to c s (args vs) k q = tt
ends_to c s (field n) k q = tt
ends_to c s (value v) k q = q

ends_of : (c : Next) (s : Simple) (w : Piece) (k : Kind) → Ends (next_make c s w) k → EndsPiece c w k
ends_of c s (args vs) k q = tt
ends_of c s (field n) k q = tt
ends_of c s (value v) k q = q

next_clear : (s : Simple) (k : Kind) (c : Next) → next_class s k ≡ Some c → Ends s k
next_clear (place v) k c e = tt
next_clear (calls v vs) k c e = tt
next_clear (sets v w) k c e = absurd cc

semicolon_ends : (s : Simple) (k : Kind) → is_semicolon k ≡ true → Ends s k × (next_class s k ≡ None)
semicolon_ends (place v) semicolon e = (tt, refl)
semicolon_ends (calls v vs) semicolon e = (tt, refl)
semicolon_ends (sets v w) semicolon e = ((refl, refl, refl), refl)
semicolon_ends s k e = absurd cc

-- what may stand behind a statement
abbrev Follows : Stm → Kind → Type 0
Follows s k = dangles s ≡ true → is_otherwise k ≡ false

simple_after : (s : Simple) (k : Kind) → Follows (stm_of s) k
simple_after (place v) k e = absurd cc
simple_after (calls v vs) k e = absurd cc
simple_after (sets v w) k e = absurd cc

ender : Sample kind_of is_semicolon
ender = record { token = record { place = 0; kind = semicolon }; holds = refl }

-- the mark of an assignment
abbrev setter : Token
setter = record { place = 0; kind = equals }

-- what is no statement yet becomes one by an assignment
finish : (d : ℕ) (front f : List Token) (s : Simple) (h : ℕ) → 2 ≤ d → Trail (front ++ f) s h → h ≤ d → Opens (Only complete Trail) d front
finish d front f (calls v vs) h le r fits = record { rest = f; value = calls v vs; nest = h; reads = (refl, r); fits = fits }
finish d front f (sets v w) h le r fits = record { rest = f; value = sets v w; nest = h; reads = (refl, r); fits = fits }
finish d front f (place v) h le r fits = record {
  rest = f ++ setter ∷ a_word ∷ [];
  value = sets v (named 0);
  nest = grown (Set false) h 1;
  reads = (
    refl,
    rw (← append_assoc front f (setter ∷ a_word ∷ [])) (further (front ++ f) (a_word ∷ []) setter (Set false) (place v) (value (named 0)) h 1 r refl tt
        (setter, a_word ∷ [], refl, (place v, refl), (named 0, refl, word_reads whole 0 a_word refl))),
  );
  fits = omega arith;
}

module _ (n : ℕ) where
  abbrev inner : ℕ → Rank → Reader Token Expr
  inner d r ts = read d r ts

  y : (r : Rank) → Exact kind_of n 1 (λ d. read d r) (Reads r) (λ v. Follow r)
  y r = exact_read n r

  abbrev up : Next → ℕ
  up (Args b) = n
  up (Field b) = suc n
  up (Set b) = n

  pieces : (c : Next) → Branch kind_of (λ k. (s : Simple) × (next_class s k ≡ Some c)) (up c) (next_least c) (λ d. piece_part (inner d) d c) (Pieces c) (EndsPiece c)
  pieces (Args b) = headed_branch (λ t e. exact_mapped args (EndsPiece (Args b)) (args_exact n y) (λ w k q. tt) (λ w k q. tt))
  pieces (Field b) = headed_branch (λ t e. exact_mapped field (EndsPiece (Field b)) (field_exact (suc n)) (λ w k q. tt) (λ w k q. tt))
  pieces (Set b) = headed_branch (λ t e. exact_mapped value (EndsPiece (Set b)) (y whole) (λ w k q. q) (λ w k q. q))

  reach : (c : Next) → suc n ≤ up c + next_right c
  reach (Args b) = omega arith
  reach (Field b) = omega arith
  reach (Set b) = omega arith

  joint : Joint kind_of (suc n) 2 next_class (λ d c h. nat_lt d (max (h + next_left c) (next_least c + next_right c))) next_make grown Always (λ c k. (s : Simple) × (next_class s k ≡ Some c)) Ends EndsPiece next_left next_right next_least
  joint = record {
    begins = λ s k c e. (s, e);
    clear = λ s k c e ok. next_clear s k c e;
    suits = λ s k c e q. tt;
    to = ends_to;
    of = ends_of;
    grows = λ c h j. refl;
    fits = λ d c h lo hi le e. fits_room d (h + next_left c) (next_least c + next_right c) e;
    free = λ d c h a b. free_room d (h + next_left c) (next_least c + next_right c) a b;
  }

  piece_at : ℕ → Next → Reader Token Piece
  piece_at d c = piece_part (inner (below d)) (below d) c

  piece_is : (d : ℕ) (c : Next) (t : Token) (rest : List Token) → piece_part (inner (down (next_right c) d)) (down (next_right c) d) c (t ∷ rest) ≡ piece_part (inner (below d)) (below d) c (t ∷ rest)
  piece_is d (Args b) t rest = refl
  piece_is d (Field b) t rest = refl
  piece_is d (Set b) t rest = refl

  row_exact : Exact kind_of (suc n) 2 (λ d. chain (made place (inner (below d) primary)) (next_links (inner (below d)) d (below d))) Trail (λ s k. Ends s k × (next_class s k ≡ None))
  row_exact = exact_chain joint pieces reach (λ d c. piece_part (inner (below d)) (below d) c) (λ d c t rest a b i. piece_is d c t rest)
      (exact_made place Ends (y primary) (λ w k q. tt) (λ w k q. tt))

  simple_exact : Exact kind_of (suc n) 2 (λ d. simple_at (inner (below d)) d (below d)) (Only complete Trail) (λ s k. Ends s k × (next_class s k ≡ None))
  simple_exact = exact_only complete row_exact (let o = row_exact.sample in finish 2 [] o.rest o.value o.nest (omega arith) o.reads o.fits)
      (λ d front a o. finish d front o.rest o.value o.nest a o.reads o.fits)

  -- a simple statement and its end are read exactly
  pub sentence_exact : Exact kind_of (suc n) 2 (λ d. sentence_at (inner (below d)) d (below d)) Sentence Follows
  sentence_exact = exact_mapped stm_of Follows (exact_before simple_exact ender semicolon_ends) (λ w k q. simple_after w k) (λ w k q. tt)

-- Labels and the rest, in the readers' words.
abbrev Named : List Token → Stm → ℕ → Type 0
Named = Made (λ v. label v.0 v.1) (Both (Before (One (λ t. text t.kind)) (λ t. is_colon t.kind)) IsStm)

-- a test in parentheses
abbrev Test : List Token → Expr → ℕ → Type 0
Test = After (λ t. is_opening t.kind) (Before (Reads whole) (λ t. is_closing t.kind))

-- an else belongs to no if inside
abbrev Closed : Stm → Type 0
Closed s = dangles s ≡ false

-- the productions by class
abbrev Branches : Class → List Token → Stm → ℕ → Type 0
Branches Block = Headed kind_of (λ k. class_of k ≡ Some Block) (λ t. Made block (Mapped stms_of (Before (Many IsStm) (λ t. is_unbrace t.kind))))
Branches If = Headed kind_of (λ k. class_of k ≡ Some If) (λ t. Made if_of (Both Test (Tailed (λ h j. max h j) IsStm Closed (After (λ t. is_otherwise t.kind) IsStm))))
Branches Other = Either Named Sentence

is_block : (k : Kind) → class_of k ≡ Some Block → k ≡ brace
is_block brace e = refl
is_block k e = absurd cc

is_if : (k : Kind) → class_of k ≡ Some If → k ≡ when
is_if when e = refl
is_if k e = absurd cc

of_many : (f : List Token) (ss : List Stm) (h : ℕ) → Many IsStm f ss h → IsStms f (stms_of ss) h
of_many f ss h no_more = is_none
of_many f ss h (one_more a b s us i j r m) = is_more a b s (stms_of us) i j r (of_many b us j m)

-- statements as a list
to_many : (f : List Token) (vs : Stms) (h : ℕ) → IsStms f vs h → (ss : List Stm) × (vs ≡ stms_of ss) × Many IsStm f ss h
to_many f vs h is_none = ([], refl, no_more)
to_many f vs h (is_more a b s us i j r m) = let k = to_many b us j m in (s ∷ k.0, ap (λ z. a_stm s z) k.1, one_more a b s k.0 i j r k.2)

of_if : (f : List Token) (t : Token) (c : Expr) (u : Stm × Option Stm) (i j : ℕ) (left right : List Token) → t.kind ≡ when → f ≡ left ++ right → Test left c i
    → Tailed (λ h j. max h j) IsStm Closed (After (λ t. is_otherwise t.kind) IsStm) right u j → IsStm (t ∷ f) (if_of (c, u)) (max i j + 1)
of_if f t c u i j left right w e (o, a, e1, p, (b, l, e2, q, r)) (bare g s h m) =
    rw (e, e1, e2, append_assoc b (l ∷ []) g) (if_alone b g t o l c s i h w p r q m)
of_if f t c u i j left right w e (o, a, e1, p, (b, l, e2, q, r)) (tailed g g' s s' h k m ok (x, y, e3, z, m')) =
    rw (e, e1, e2, e3, append_assoc b (l ∷ []) (g ++ x ∷ y)) (if_else b g y t o l x c s s' i h k w p r q m ok z m')

of_branch : (f : List Token) (v : Stm) (h : ℕ) → OneOf Branches f v h → IsStm f v h
of_branch f v h (Block, (t, g, e, p, (vs, i, e1, n, (ss, e2, (a, u, e3, c, m))))) = rw (e, e1, e2, e3, n) (blocked a t u (stms_of ss) i (is_block t.kind p) (of_many a ss i m) c)
of_branch f v h (If, (t, g, e, p, (w, i, e1, n, b))) = rw (e, e1, n, b.nest) (of_if g t w.0 w.1 b.i b.j b.left b.right (is_if t.kind p) b.whole b.first b.second)
of_branch f v h (Other, inl (w, i, e, n, b)) =
    let s = b.first in
    let x = s.4 in
    let m : i ≡ b.j = omega (arith, b.nest, x.3) in
    rw (b.whole, s.2, x.1, e, n, m) (labelled b.right x.0 s.1 w.0 w.1 b.j x.2 s.3 b.second)
of_branch f v h (Other, inr r) = of_sentence f v h r

to_branch : (f : List Token) (v : Stm) (h : ℕ) → IsStm f v h → OneOf Branches f v h
to_branch f v h (assigned g k t u w x i j r o q e) = (Other, inr (assigned_row g k t u w x i j r o q e))
to_branch f v h (performed g k t u s w vs i j r o q c e) = (Other, inr (performed_row g k t u s w vs i j r o q c e))
to_branch f v h (blocked g t u vs i o m c) =
    let k = to_many g vs i m in
    (Block, (t, g ++ u ∷ [], refl, rw o refl, (vs, i, refl, refl, (k.0, k.1, (g, u, refl, c, k.2)))))
to_branch f v h (if_alone g k t o u c s i j w p r q m) = (
  If,
  (
    t,
    o ∷ (g ++ u ∷ k),
    refl,
    rw w refl,
    (
      (c, (s, None)),
      max i j,
      refl,
      refl,
      record {
        left = o ∷ (g ++ u ∷ []);
        right = k;
        i = i;
        j = j;
        whole = ap (λ z. o ∷ z) (sym (append_assoc g (u ∷ []) k));
        nest = refl;
        first = (o, g ++ u ∷ [], refl, p, (g, u, refl, q, r));
        second = bare k s j m;
      },
    ),
  ),
)
to_branch f v h (if_else g k l t o u e c s s' i j x w p r q m d z m') = (
  If,
  (
    t,
    o ∷ (g ++ u ∷ (k ++ e ∷ l)),
    refl,
    rw w refl,
    (
      (c, (s, Some s')),
      max i (max j x),
      refl,
      refl,
      record {
        left = o ∷ (g ++ u ∷ []);
        right = k ++ e ∷ l;
        i = i;
        j = max j x;
        whole = ap (λ y. o ∷ y) (sym (append_assoc g (u ∷ []) (k ++ e ∷ l)));
        nest = refl;
        first = (o, g ++ u ∷ [], refl, p, (g, u, refl, q, r));
        second = tailed k (e ∷ l) s s' j x m d (e, l, refl, z, m');
      },
    ),
  ),
)
to_branch f v h (labelled g t u m s i e c r) =
    (Other, inl ((m, s), i, refl, refl, record { left = t ∷ u ∷ []; right = g; i = 0; j = i; whole = refl; nest = omega arith; first = (t ∷ [], u, refl, c, (t, refl, e, refl)); second = r }))

expr_starts : (k : Kind) → starts_expr k ≡ true → starts_stm k ≡ true
expr_starts (name n) e = refl
expr_starts opening e = refl
expr_starts k e = absurd cc

text_starts : (k : Kind) (n : ℕ) → text k ≡ Some n → starts_stm k ≡ true
text_starts (name n) m e = refl
text_starts k n e = absurd cc

text_name : (k : Kind) (n : ℕ) → text k ≡ Some n → is_name k ≡ true
text_name (name n) m e = refl
text_name k n e = absurd cc

colon_none : (s : Simple) → next_class s colon ≡ None
colon_none (place v) = refl
colon_none (calls v vs) = refl
colon_none (sets v w) = refl

-- How statements begin.
stm_head : (f : List Token) (v : Stm) (h : ℕ) → IsStm f v h → (t : Token) × (g : List Token) × (f ≡ t ∷ g) × (starts_stm t.kind ≡ true)
stm_head f v h (assigned g k t u w x i j r o q e) = let b = starts_head postfix g w i r in (b.0, b.1 ++ t ∷ (k ++ u ∷ []), ap (λ z. z ++ t ∷ (k ++ u ∷ [])) b.2, expr_starts b.0.kind b.3)
stm_head f v h (performed g k t u s w vs i j r o q c e) = let b = starts_head postfix g w i r in (b.0, b.1 ++ t ∷ (k ++ u ∷ s ∷ []), ap (λ z. z ++ t ∷ (k ++ u ∷ s ∷ [])) b.2, expr_starts b.0.kind b.3)
stm_head f v h (blocked g t u vs i o m c) = (t, g ++ u ∷ [], refl, rw o refl)
stm_head f v h (if_alone g k t o u c s i j w p r q m) = (t, o ∷ (g ++ u ∷ k), refl, rw w refl)
stm_head f v h (if_else g k l t o u e c s s' i j x w p r q m d z m') = (t, o ∷ (g ++ u ∷ (k ++ e ∷ l)), refl, rw w refl)
stm_head f v h (labelled g t u m s i e c r) = (t, u ∷ g, refl, text_starts t.kind m e)

stm_least : (f : List Token) (v : Stm) (h : ℕ) → IsStm f v h → 1 ≤ h
stm_least f v h (assigned g k t u w x i j r o q e) = omega arith
stm_least f v h (performed g k t u s w vs i j r o q c e) = omega arith
stm_least f v h (blocked g t u vs i o m c) = omega arith
stm_least f v h (if_alone g k t o u c s i j w p r q m) = omega arith
stm_least f v h (if_else g k l t o u e c s s' i j x w p r q m d z m') = omega arith
stm_least f v h (labelled g t u m s i e c r) = omega arith

-- a sentence has no colon behind a first name
abbrev Plain : List Token → Type 0
Plain [] = ⊥
Plain (t ∷ []) = Unit {0}
Plain (t ∷ (u ∷ g)) = is_name t.kind ≡ true → is_colon u.kind ≡ false

plain_more : (g k : List Token) (t : Token) → Plain g → is_colon t.kind ≡ false → Plain (g ++ t ∷ k)
plain_more [] k t p e = absurd p
plain_more (u ∷ []) k t p e = λ n. e
plain_more (u ∷ (w ∷ g)) k t p e = p

plain_apart : (g rest : List Token) (t : Token) → Plain g → is_colon t.kind ≡ false → Apart kind_of is_name (λ k l. is_colon l) ((g ++ t ∷ []) ++ rest)
plain_apart [] rest t p e = absurd p
plain_apart (u ∷ []) rest t p e = λ n. e
plain_apart (u ∷ (w ∷ g)) rest t p e = p

not_colon : (s : Simple) (k : Kind) (c : Next) → next_class s k ≡ Some c → is_colon k ≡ false
not_colon s colon c e = let n = colon_none s in absurd cc
not_colon s k c e = refl

semicolon_not : (k : Kind) → is_semicolon k ≡ true → is_colon k ≡ false
semicolon_not semicolon e = refl
semicolon_not k e = absurd cc

plain_primary : (f : List Token) (v : Expr) (i : ℕ) → Reads primary f v i → Plain f
plain_primary f v i (a_name t n e) = tt
plain_primary f v i (parens t u [] w h o c r) = λ n. let k : is_name opening ≡ true = subst (λ z. is_name z ≡ true) o n in absurd cc
plain_primary f v i (parens t u (x ∷ g) w h o c r) = λ n. let k : is_name opening ≡ true = subst (λ z. is_name z ≡ true) o n in absurd cc

plain_row : (f : List Token) (s : Simple) (h : ℕ) → Trail f s h → Plain f
plain_row f s h (first g u i (w, j, e, n, r)) = plain_primary g w j r
plain_row f s h (further g k t c u w i j r e ok q) = plain_more g k t (plain_row g u i r) (not_colon u t.kind c e)

sentence_apart : (f : List Token) (v : Stm) (h : ℕ) (rest : List Token) → Sentence f v h → Apart kind_of is_name (λ k l. is_colon l) (f ++ rest)
sentence_apart f v h rest (s, e, (g, u, e1, c, (ok, r))) = rw e1 (plain_apart g rest u (plain_row g s h r) (semicolon_not u.kind c))

named_begins : (f : List Token) (v : Stm) (h : ℕ) → Named f v h → (t : Token) × (u : Token) × (g : List Token) × (f ≡ t ∷ u ∷ g) × (is_name t.kind ≡ true) × (is_colon u.kind ≡ true)
named_begins f v h (w, i, e, n, b) =
    let s = b.first in
    let x = s.4 in
    (x.0, s.1, b.right, b.whole ∙ ap (λ z. z ++ b.right) (s.2 ∙ ap (λ z. z ++ s.1 ∷ []) x.1), text_name x.0.kind w.0 x.2, s.3)

-- tokens that complete the shortest texts
abbrev the : Kind → Token
the k = record { place = 0; kind = k }

opener : Sample kind_of is_opening
opener = record { token = the opening; holds = refl }

unbracer : Sample kind_of is_unbrace
unbracer = record { token = the unbrace; holds = refl }

elser : Sample kind_of is_otherwise
elser = record { token = the otherwise; holds = refl }

empty_block : IsStm (the brace ∷ the unbrace ∷ []) (block no_stm) 1
empty_block = blocked [] (the brace) (the unbrace) no_stm 0 refl is_none refl

stm_opens : Opens IsStm 1 []
stm_opens = record { rest = the brace ∷ the unbrace ∷ []; value = block no_stm; nest = 1; reads = empty_block; fits = omega arith }

name_of : (k : Kind) → is_name k ≡ true → (n : ℕ) × (k ≡ name n)
name_of (name n) e = (n, refl)
name_of k e = absurd cc

name_opens : (t : Token) → is_name t.kind ≡ true → Opens Sentence 2 (t ∷ [])
name_opens t e =
    let k = name_of t.kind e in
    record {
      rest = the equals ∷ a_word ∷ the semicolon ∷ [];
      value = assign (named k.0) (named 0);
      nest = 2;
      reads = assigned_row (t ∷ []) (a_word ∷ []) (the equals) (the semicolon) (named k.0) (named 0) 1 1 (word_reads postfix k.0 t k.1) refl (word_reads whole 0 a_word refl) refl;
      fits = omega arith;
    }

named_opens : (t : Token) → is_name t.kind ≡ true → Opens Named 2 (t ∷ [])
named_opens t e =
    let k = name_of t.kind e in
    let x : text t.kind ≡ Some k.0 = ap text k.1 in
    record {
      rest = the colon ∷ the brace ∷ the unbrace ∷ [];
      value = label k.0 (block no_stm);
      nest = 2;
      reads = ((k.0, block no_stm), 1, refl, refl, record { left = t ∷ the colon ∷ []; right = the brace ∷ the unbrace ∷ []; i = 0; j = 1; whole = refl; nest = refl; first = (t ∷ [], the colon, refl, refl, (t, refl, x, refl)); second = empty_block });
      fits = omega arith;
    }

opening_opens : (t : Token) → t.kind ≡ opening → Opens Sentence 3 (t ∷ [])
opening_opens t e = record {
  rest = a_word ∷ the closing ∷ the equals ∷ a_word ∷ the semicolon ∷ [];
  value = assign (named 0) (named 0);
  nest = 3;
  reads = assigned_row (t ∷ a_word ∷ the closing ∷ []) (a_word ∷ []) (the equals) (the semicolon) (named 0) (named 0) 2 1 (a_primary _ _ _ (parens t (the closing) (a_word ∷ []) (named 0) 1 e refl (word_reads whole 0 a_word refl))) refl (word_reads whole 0 a_word refl) refl;
  fits = omega arith;
}

if_opens : (t : Token) → t.kind ≡ when → Opens IsStm 2 (t ∷ [])
if_opens t e = record {
  rest = the opening ∷ a_word ∷ the closing ∷ the brace ∷ the unbrace ∷ [];
  value = choice (named 0) (block no_stm);
  nest = 2;
  reads = if_alone (a_word ∷ []) (the brace ∷ the unbrace ∷ []) t (the opening) (the closing) (named 0) (block no_stm) 1 1 e refl (word_reads whole 0 a_word refl) refl empty_block;
  fits = omega arith;
}

block_opens : (t : Token) → t.kind ≡ brace → Opens IsStm 1 (t ∷ [])
block_opens t e = record { rest = the unbrace ∷ []; value = block no_stm; nest = 1; reads = blocked [] t (the unbrace) no_stm 0 e is_none refl; fits = omega arith }

stm_each : (t : Token) (k : Kind) → t.kind ≡ k → starts_stm k ≡ true → (m : ℕ) × Opens IsStm m (t ∷ [])
stm_each t brace i e = (1, block_opens t i)
stm_each t when i e = (2, if_opens t i)
stm_each t (name n) i e = (2, opens_as of_sentence (name_opens t (rw i refl)))
stm_each t opening i e = (3, opens_as of_sentence (opening_opens t i))
stm_each t k i e = absurd cc

stm_starts : Starts kind_of (λ k. starts_stm k ≡ true) IsStm
stm_starts = record { head = stm_head; each = λ t e. stm_each t t.kind refl e }

class_other : (k : Kind) → class_of k ≡ Some Other → (is_name k ≡ true) ⊎ (k ≡ opening)
class_other (name n) e = inl refl
class_other opening e = inr refl
class_other k e = absurd cc

expr_other : (k : Kind) → starts_expr k ≡ true → class_of k ≡ Some Other
expr_other (name n) e = refl
expr_other opening e = refl
expr_other k e = absurd cc

name_other : (k : Kind) → is_name k ≡ true → class_of k ≡ Some Other
name_other (name n) e = refl
name_other k e = absurd cc

row_head : (f : List Token) (s : Simple) (h : ℕ) → Trail f s h → (t : Token) × (g : List Token) × (f ≡ t ∷ g) × (class_of t.kind ≡ Some Other)
row_head f s h (first g u i (w, j, e, n, r)) = let b = starts_head primary g w j r in (b.0, b.1, b.2, expr_other b.0.kind b.3)
row_head f s h (further g k t c u w i j r e ok q) = let b = row_head g u i r in (b.0, b.1 ++ t ∷ k, ap (λ z. z ++ t ∷ k) b.2, b.3)

other_head : (f : List Token) (v : Stm) (h : ℕ) → Either Named Sentence f v h → (t : Token) × (g : List Token) × (f ≡ t ∷ g) × (class_of t.kind ≡ Some Other)
other_head f v h (inl r) = let b = named_begins f v h r in (b.0, b.1 ∷ b.2, b.3, name_other b.0.kind b.4)
other_head f v h (inr (s, e, (g, u, e1, c, (ok, r)))) = let b = row_head g s h r in (b.0, b.1 ++ u ∷ [], e1 ∙ ap (λ z. z ++ u ∷ []) b.2, b.3)

other_each : (t : Token) → (is_name t.kind ≡ true) ⊎ (t.kind ≡ opening) → (m : ℕ) × Opens (Either Named Sentence) m (t ∷ [])
other_each t (inl e) = (2, opens_as (λ f v h r. inr r) (name_opens t e))
other_each t (inr e) = (3, opens_as (λ f v h r. inr r) (opening_opens t e))

unbrace_ends : (vs : List Stm) (k : Kind) → is_unbrace k ≡ true → Over starts_stm Follows vs k
unbrace_ends vs unbrace e = (last_all Follows vs unbrace (λ v d. refl), refl)
unbrace_ends vs k e = absurd cc

starts_follow : (v : Stm) (k : Kind) → starts_stm k ≡ true → Follows v k
starts_follow v otherwise e d = absurd cc
starts_follow v k e d = refl

closed_of : (b : Bool) (k : Kind) → is_otherwise k ≡ true → (b ≡ true → is_otherwise k ≡ false) → b ≡ false
closed_of false k e q = refl
closed_of true k e q = let n = q refl in absurd cc

if_to : (w : Expr × (Stm × Option Stm)) (k : Kind) → Trails is_otherwise Follows Follows w.1 k → Follows (if_of w) k
if_to (c, (s, None)) k q = λ d. q.1
if_to (c, (s, Some s')) k q = q

if_from : (w : Expr × (Stm × Option Stm)) (k : Kind) → Follows (if_of w) k → Trails is_otherwise Follows Follows w.1 k
if_from (c, (s, None)) k q = (λ d. q refl, q refl)
if_from (c, (s, Some s')) k q = q

module _ (n : ℕ) (z : Exact kind_of n 1 (λ d. statement d) IsStm Follows) where
  abbrev words : ℕ → Rank → Reader Token Expr
  words d r ts = read d r ts

  abbrev stm : ℕ → Reader Token Stm
  stm d ts = statement d ts

  any_joins : {A B : Type 0} (S : List Token → B → ℕ → Type 0) (P : B → Kind → Type 0) (u : A) (g : List Token) (v : B) (h : ℕ) (rest : List Token) → S g v h → Stops kind_of (P v) rest → Stops kind_of (Any u) (g ++ rest)
  any_joins S P u g v h rest r s = any_stops kind_of u (g ++ rest)

  named_exact : Exact kind_of (suc n) 2 (λ d. label_at (stm (below d))) Named Follows
  named_exact = exact_made (λ v. label v.0 v.1) Follows (exact_pair (exact_before (field_exact n) teller (λ v k e. tt)) z (any_joins IsStm Follows)) (λ w k q. q) (λ w k q. q)

  other_exact : Exact kind_of (suc n) 2 (λ d. either_two (λ t. is_name t.kind) (λ t u. is_colon u.kind) 2 d (label_at (stm (below d))) (sentence_at (words (below d)) d (below d))) (Either Named Sentence) Follows
  other_exact = exact_two is_name (λ k l. is_colon l) named_exact (sentence_exact n) (omega arith) named_begins (λ f v h rest r s. sentence_apart f v h rest r) named_opens name_opens
      (λ f v h r. let b = other_head f v h (inr r) in (b.0, b.1, b.2, λ e. (sentence_exact n).least f v h r))

  many_exact : Exact kind_of n 0 (λ d. many (λ t. starts_stm t.kind) 1 d (stm d)) (Many IsStm) (Over starts_stm Follows)
  many_exact = exact_many (branch stm_starts z) starts_follow

  test_exact : Exact kind_of n 1 (λ d. after (λ t. is_opening t.kind) (before (words d whole) (λ t. is_closing t.kind))) Test Any
  test_exact = exact_after opener (exact_before (exact_read n whole) closer (λ v k e. closes_whole k e))

  stm_branches : (c : Class) → Branch kind_of (λ k. class_of k ≡ Some c) (suc n) (class_low c) (λ d. stm_part (words (below d)) (stm (below d)) d (below d) c) (Branches c) Follows
  stm_branches Block = headed_branch (λ t e. exact_made block Follows (exact_mapped stms_of Any (exact_before many_exact unbracer unbrace_ends) (λ w k q. tt) (λ w k q. tt)) (λ w k q d. absurd cc) (λ w k q. tt))
  stm_branches If = headed_branch (λ t e. exact_made if_of Follows
      (exact_pair test_exact
      (exact_tail Closed z (after_branch elser z) (omega arith) (λ s k e c d. absurd cc) (λ s k e q. closed_of (dangles s) k e q))
      (any_joins (Tailed (λ h j. max h j) IsStm Closed (After (λ t. is_otherwise t.kind) IsStm)) (Trails is_otherwise Follows Follows)))
      if_to if_from)
  stm_branches Other = branch (record { head = other_head; each = λ t e. other_each t (class_other t.kind e) }) other_exact

  lowest : (c : Class) → 1 ≤ class_low c
  lowest Block = omega arith
  lowest If = omega arith
  lowest Other = omega arith

  stm_exact : Exact kind_of (suc n) 1 (λ d. stm_at (words (below d)) (stm (below d)) d (below d)) IsStm Follows
  stm_exact = exact_as (exact_one_of class_of stm_branches lowest (opens_as to_branch stm_opens)) (λ d ts a b. refl) of_branch to_branch

statement_is : (d : ℕ) (ts : List Token) → 1 ≤ d → stm_at (λ r us. read (below d) r us) (λ us. statement (below d) us) d (below d) ts ≡ statement d ts
unfolding statement
statement_is zero ts a = absurd (omega arith)
statement_is (suc d) ts a = refl

-- Statements are read exactly, with any room.
pub exact_statement : (n : ℕ) → Exact kind_of n 1 (λ d. statement d) IsStm Follows
exact_statement zero = exact_start (λ d. statement d) Follows (omega arith) stm_opens stm_least
exact_statement (suc n) = exact_as (stm_exact n (exact_statement n)) (λ d ts a b. statement_is d ts a) (λ f v h q. q) (λ f v h q. q)

program_is : (d : ℕ) (ts : List Token) → many (λ t. starts_stm t.kind) 1 d (λ us. statement d us) ts ≡ program d ts
unfolding program
program_is d ts = refl

-- Programs are read exactly.
pub exact_program : (n : ℕ) → Exact kind_of n 0 (λ d. program d) (Many IsStm) (Over starts_stm Follows)
exact_program n = exact_as (many_exact n (exact_statement n)) (λ d ts a b. program_is d ts) (λ f v h q. q) (λ f v h q. q)
