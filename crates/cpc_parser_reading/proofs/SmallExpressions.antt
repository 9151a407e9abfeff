-- The small language is read exactly.
use Rattle.std.proofs.Common.{◌≡◌, ℕ, zero, suc, ◌+◌, ◌≤◌, true, false, List, [], ◌∷◌, ◌++◌, Option, Some, None, max, refl, sym, ap, append_assoc, arith, nat_lt}
use Rattle.cpc_parser_reading.specs.Reading.{Reader, one, before, pair, below}
use Rattle.cpc_parser_reading.specs.Phrase.{Nothing, One, Before, After, Headed, Both, Mapped, Made, OneOf, Optional}
use Rattle.cpc_parser_reading.specs.Chain.{Chained, first, further, Joint}
use Rattle.cpc_parser_reading.specs.Lists.{Separated, alone, and_more}
use Rattle.cpc_parser_reading.specs.Operators.{Level, single, applied, Tailed, bare, tailed, Trails}
use Rattle.cpc_parser_reading.specs.Exact.{Any, Absent, Opens, Exact, Branch, Starts, Sample}
use Rattle.cpc_parser_reading.specs.SmallExpressions.{Kind, name, opening, closing, comma, colon, ask, plus, dot, Token, kind_of, Expr, named, sum, Exprs, an_expr, is_closing, is_comma, is_colon, is_ask, starts_expr, text, Rank, primary, postfix, sums, whole, Reads, a_name, parens, a_primary, called, membered, a_postfix, added, a_sum, chosen, ReadsArgs, no_args, last_arg, more_args, Primary, Word, Round, primary_class, primary_low, word_of, primary_part, primary_at, listed, listed_if, args_at, Postfix, Call, Member, Part, args, field, postfix_class, postfix_part, postfix_make, postfix_at, is_plus, sum_at, choice, whole_at, rank_at, read}
use Rattle.cpc_parser_reading.proofs.Readers.{Over, after_branch, any_stops, exact_as, exact_before, exact_chain, exact_level, exact_made, exact_mapped, exact_node, exact_nothing, exact_one, exact_one_of, exact_optional, exact_pair, exact_separated, exact_start, exact_stop, fits_below, free_below, headed_branch, last_all, opens_as, starts_separated}

-- what may stand behind an expression of a rank
abbrev pub Follow : Rank → Kind → Type 0
Follow primary k = Unit {0}
Follow postfix k = postfix_class k ≡ None
Follow sums k = (postfix_class k ≡ None) × (is_plus k ≡ None)
Follow whole k = (postfix_class k ≡ None) × (is_plus k ≡ None) × (is_ask k ≡ false)

-- a closing mark
pub closer : Sample kind_of is_closing
closer = record { token = record { place = 0; kind = closing }; holds = refl }

pub divider : Sample kind_of is_comma
divider = record { token = record { place = 0; kind = comma }; holds = refl }

asker : Sample kind_of is_ask
asker = record { token = record { place = 0; kind = ask }; holds = refl }

pub teller : Sample kind_of is_colon
teller = record { token = record { place = 0; kind = colon }; holds = refl }

-- a name
abbrev pub a_word : Token
a_word = record { place = 0; kind = name 0 }

word_sums : (n : ℕ) (t : Token) → t.kind ≡ name n → Reads sums (t ∷ []) (named n) 1
word_sums n t e = a_postfix (t ∷ []) (named n) 1 (a_primary (t ∷ []) (named n) 1 (a_name t n e))

-- a name is an expression of each rank
pub word_reads : (r : Rank) (n : ℕ) (t : Token) → t.kind ≡ name n → Reads r (t ∷ []) (named n) 1
word_reads primary n t e = a_name t n e
word_reads postfix n t e = a_primary (t ∷ []) (named n) 1 (a_name t n e)
word_reads sums n t e = word_sums n t e
word_reads whole n t e = a_sum (t ∷ []) (named n) 1 (word_sums n t e)

-- the shortest expression
pub word_opens : (r : Rank) → Opens (Reads r) 1 []
word_opens r = record { rest = a_word ∷ []; value = named 0; nest = 1; reads = word_reads r 0 a_word refl; fits = omega arith }

-- each expression counts one
pub reads_least : (r : Rank) (f : List Token) (v : Expr) (h : ℕ) → Reads r f v h → 1 ≤ h
reads_least r f v h (a_name t n e) = omega arith
reads_least r f v h (parens t u g w i a b c) = omega arith
reads_least r f v h (a_primary g w i c) = reads_least primary g w i c
reads_least r f v h (called g k t u w vs i j a b c e) = omega arith
reads_least r f v h (membered g t u w n i a b c) = omega arith
reads_least r f v h (a_postfix g w i c) = reads_least postfix g w i c
reads_least r f v h (added g k t w u i j a b c) = omega arith
reads_least r f v h (a_sum g w i c) = reads_least sums g w i c
reads_least r f v h (chosen g k l t u c w x i j m a b d e o) = omega arith

-- how an expression begins
pub starts_head : (r : Rank) (f : List Token) (v : Expr) (h : ℕ) → Reads r f v h → (t : Token) × (g : List Token) × (f ≡ t ∷ g) × (starts_expr t.kind ≡ true)
starts_head r f v h (a_name t n e) = (t, [], refl, rw e refl)
starts_head r f v h (parens t u g w i a b c) = (t, g ++ u ∷ [], refl, rw a refl)
starts_head r f v h (a_primary g w i c) = starts_head primary g w i c
starts_head r f v h (called g k t u w vs i j a b c e) = let s = starts_head postfix g w i a in (s.0, s.1 ++ t ∷ (k ++ u ∷ []), ap (λ z. z ++ t ∷ (k ++ u ∷ [])) s.2, s.3)
starts_head r f v h (membered g t u w n i a b c) = let s = starts_head postfix g w i a in (s.0, s.1 ++ t ∷ u ∷ [], ap (λ z. z ++ t ∷ u ∷ []) s.2, s.3)
starts_head r f v h (a_postfix g w i c) = starts_head postfix g w i c
starts_head r f v h (added g k t w u i j a b c) = let s = starts_head sums g w i a in (s.0, s.1 ++ t ∷ k, ap (λ z. z ++ t ∷ k) s.2, s.3)
starts_head r f v h (a_sum g w i c) = starts_head sums g w i c
starts_head r f v h (chosen g k l t u c w x i j m a b d e o) = let s = starts_head sums g c i a in (s.0, s.1 ++ t ∷ (k ++ u ∷ l), ap (λ z. z ++ t ∷ (k ++ u ∷ l)) s.2, s.3)

each_opens : (t : Token) (k : Kind) → t.kind ≡ k → starts_expr k ≡ true → (m : ℕ) × Opens (Reads whole) m (t ∷ [])
each_opens t (name n) i e = (1, record { rest = []; value = named n; nest = 1; reads = word_reads whole n t i; fits = omega arith })
each_opens t opening i e = (
  2,
  record {
    rest = a_word ∷ closer.token ∷ [];
    value = named 0;
    nest = 2;
    reads = a_sum _ _ _ (a_postfix _ _ _ (a_primary _ _ _ (parens t closer.token (a_word ∷ []) (named 0) 1 i closer.holds (word_reads whole 0 a_word refl))));
    fits = omega arith;
  },
)
each_opens t k i e = absurd cc

-- each such token begins one
pub starts_whole : Starts kind_of (λ k. starts_expr k ≡ true) (Reads whole)
starts_whole = record { head = starts_head whole; each = λ t e. each_opens t t.kind refl e }

-- The productions in the readers' words, and what each costs.
abbrev Primaries : Primary → List Token → Expr → ℕ → Type 0
Primaries Word = Headed kind_of (λ k. primary_class k ≡ Some Word) (λ t. Made (λ u. named (word_of t.kind)) Nothing)
Primaries Round = Headed kind_of (λ k. primary_class k ≡ Some Round) (λ t. Made (λ v. v) (Before (Reads whole) (λ u. is_closing u.kind)))

is_word : (k : Kind) → primary_class k ≡ Some Word → k ≡ name (word_of k)
is_word (name n) e = refl
is_word k e = absurd cc

is_round : (k : Kind) → primary_class k ≡ Some Round → k ≡ opening
is_round opening e = refl
is_round k e = absurd cc

of_primary : (f : List Token) (v : Expr) (h : ℕ) → OneOf Primaries f v h → Reads primary f v h
of_primary f v h (Word, (t, g, e, p, (u, i, v', n, (z, w)))) = rw (e, z, v', n, w) (a_name t (word_of t.kind) (is_word t.kind p))
of_primary f v h (Round, (t, g, e, p, (u, i, v', n, (g', u', e', c, r)))) = rw (e, e', v', n) (parens t u' g' u i (is_round t.kind p) c r)

to_primary : (f : List Token) (v : Expr) (h : ℕ) → Reads primary f v h → OneOf Primaries f v h
to_primary f v h (a_name t n e) = (Word, (t, [], refl, rw e refl, (tt, 0, rw e refl, refl, (refl, refl))))
to_primary f v h (parens t u g w i a b c) = (Round, (t, g ++ u ∷ [], refl, rw a refl, (w, i, refl, refl, (g, u, refl, b, c))))

-- arguments, as a row that can be absent
abbrev pub Row : List Token → List Expr → ℕ → Type 0
Row = Separated (λ t. is_comma t.kind) (Reads whole)

of_row : (f : List Token) (ws : List Expr) (h : ℕ) → Row f ws h → (w : Expr) × (xs : List Expr) × (ws ≡ w ∷ xs) × ReadsArgs f (an_expr w (listed xs)) h
of_row f ws h (alone _ v _ r) = (v, [], refl, last_arg f v h r)
of_row f ws h (and_more g k t v us i j r e m) =
    let b = of_row k us j m in
    (v, us, refl, rw b.2 (more_args g k t v b.0 (listed b.1) i j r e b.3))

to_row : (f : List Token) (v : Expr) (vs : Exprs) (h : ℕ) → ReadsArgs f (an_expr v vs) h → (ws : List Expr) × (an_expr v vs ≡ listed ws) × Row f ws h
to_row f v vs h (last_arg _ _ _ r) = (v ∷ [], refl, alone f v h r)
to_row f v vs h (more_args g k t _ w us i j r e m) = let b = to_row k w us j m in (v ∷ b.0, ap (λ z. an_expr v z) b.1, and_more g k t v b.0 i j r e b.2)

-- arguments and the mark behind them
abbrev pub Bracketed : List Token → Exprs → ℕ → Type 0
Bracketed = Mapped listed_if (Before (Optional Row) (λ t. is_closing t.kind))

-- such a row is arguments
pub of_args : (g : List Token) (u : Token) (vs : Exprs) (o : Option (List Expr)) (h : ℕ) → vs ≡ listed_if o → Optional Row g o h → ReadsArgs g vs h
of_args g u vs None h e r = rw (e, r.0, r.1) no_args
of_args g u vs (Some ws) h e r = let b = of_row g ws h r in rw (e, b.2) b.3

-- and back
pub to_args : (g : List Token) (u : Token) (vs : Exprs) (h : ℕ) → ReadsArgs g vs h → is_closing u.kind ≡ true → Bracketed (g ++ u ∷ []) vs h
to_args g u vs h no_args c = (None, refl, ([], u, refl, c, (refl, refl)))
to_args g u vs h (last_arg _ v _ r) c = (Some (v ∷ []), refl, (g, u, refl, c, alone g v h r))
to_args g u vs h (more_args a k t v w us i j r e m) c = let b = to_row g v (an_expr w us) h (more_args a k t v w us i j r e m) in (Some b.0, b.1, (g, u, refl, c, b.2))

-- a part behind an expression
abbrev Parts : Postfix → List Token → Part → ℕ → Type 0
Parts Call = Headed kind_of (λ k. postfix_class k ≡ Some Call) (λ t. Mapped args Bracketed)
Parts Member = Headed kind_of (λ k. postfix_class k ≡ Some Member) (λ t. Mapped field (One (λ u. text u.kind)))

-- no condition
abbrev Always : Expr → Postfix → Type 0
Always v c = Unit {0}

-- an expression and the parts behind it
abbrev Chain : List Token → Expr → ℕ → Type 0
Chain = Chained kind_of (λ v k. postfix_class k) Always postfix_make (λ c h j. max h j + 1) (Reads primary) Parts

is_call : (k : Kind) → postfix_class k ≡ Some Call → k ≡ opening
is_call opening e = refl
is_call k e = absurd cc

is_member : (k : Kind) → postfix_class k ≡ Some Member → k ≡ dot
is_member dot e = refl
is_member k e = absurd cc

with_part : (f g : List Token) (c : Postfix) (v : Expr) (w : Part) (h j : ℕ) → Reads postfix f v h → Parts c g w j → Reads postfix (f ++ g) (postfix_make c v w) (max h j + 1)
with_part f g Call v w h j r (t, g1, e, p, (vs, e1, (o, e2, (g2, u, e3, c, q)))) =
    rw (e, e1, e3) (called f g2 t u v vs h j r (is_call t.kind p) (of_args g2 u vs o j e2 q) c)
with_part f g Member v w h j r (t, g1, e, p, (n, e1, (u, e2, x, z))) =
    let m : max h j + 1 ≡ h + 1 = omega arith in
    rw (e, e1, e2, m) (membered f t u v n h r (is_member t.kind p) x)

of_chain : (f : List Token) (v : Expr) (h : ℕ) → Chain f v h → Reads postfix f v h
of_chain f v h (first g u i r) = a_primary g u i r
of_chain f v h (further g k t c u w i j r e ok q) = with_part g (t ∷ k) c u w i j (of_chain g u i r) q

to_chain : (f : List Token) (v : Expr) (h : ℕ) → Reads postfix f v h → Chain f v h
to_chain f v h (a_primary g u i r) = first g u i r
to_chain f v h (called g k t u w vs i j r o q c) =
    further g (k ++ u ∷ []) t Call w (args vs) i j (to_chain g w i r) (rw o refl) tt (t, k ++ u ∷ [], refl, rw o refl, (vs, refl, to_args k u vs j q c))
to_chain f v h (membered g t u w n i r o q) =
    let m : max i 0 + 1 ≡ i + 1 = omega arith in
    rw (← m) (further g (u ∷ []) t Member w (field n) i 0 (to_chain g w i r) (rw o refl) tt (t, u ∷ [], refl, rw o refl, (n, refl, (u, refl, q, refl))))

comma_whole : (k : Kind) → is_comma k ≡ true → Follow whole k
comma_whole comma e = (refl, refl, refl)
comma_whole k e = absurd cc

-- a closing mark may stand behind an expression
pub closes_whole : (k : Kind) → is_closing k ≡ true → Follow whole k
closes_whole closing e = (refl, refl, refl)
closes_whole k e = absurd cc

closing_is : (k : Kind) → is_closing k ≡ true → (starts_expr k ≡ false) × (is_comma k ≡ false)
closing_is closing e = (refl, refl)
closing_is k e = absurd cc

closes_args : (o : Option (List Expr)) (k : Kind) → is_closing k ≡ true → Absent starts_expr (Over is_comma (λ v. Follow whole)) o k
closes_args None k e = (closing_is k e).0
closes_args (Some vs) k e = (last_all (λ v. Follow whole) vs k (λ v. closes_whole k e), (closing_is k e).1)

-- operands and operators
abbrev Sums : List Token → Expr → ℕ → Type 0
Sums = Level kind_of is_plus (λ o t v w. sum v w) (Reads postfix) (Reads postfix)

is_sum : (k : Kind) (o : Unit {0}) → is_plus k ≡ Some o → k ≡ plus
is_sum plus o e = refl
is_sum k o e = absurd cc

of_sums : (f : List Token) (v : Expr) (h : ℕ) → Sums f v h → Reads sums f v h
of_sums f v h (single g u i r) = a_postfix g u i r
of_sums f v h (applied g k t o u w i j r e q) = added g k t u w i j (of_sums g u i r) (is_sum t.kind o e) q

to_sums : (f : List Token) (v : Expr) (h : ℕ) → Reads sums f v h → Sums f v h
to_sums f v h (a_postfix g u i r) = single g u i r
to_sums f v h (added g k t u w i j r e q) = applied g k t tt u w i j (to_sums g u i r) (rw e refl) q

-- the two arms of a choice
abbrev Rest : List Token → Expr × Expr → ℕ → Type 0
Rest = After (λ t. is_ask t.kind) (Both (Before (Reads whole) (λ t. is_colon t.kind)) (Reads whole))

-- a sum, and the arms that may follow
abbrev Chosen : List Token → Expr → ℕ → Type 0
Chosen = Mapped choice (Tailed (λ h j. max h j + 1) (Reads sums) (λ v. Unit {0}) Rest)

of_chosen : (f : List Token) (v : Expr) (h : ℕ) → Chosen f v h → Reads whole f v h
of_chosen f v h (w, e, bare g c i r) = rw e (a_sum g c i r)
of_chosen f v h (w, e, tailed g k c b i j r ok (t, l, e1, a, q)) =
    let s = q.first in
    rw (e, e1, q.whole, s.2, q.nest, append_assoc s.0 (s.1 ∷ []) q.right) (chosen g s.0 q.right t s.1 c b.0 b.1 i q.i q.j r a s.4 s.3 q.second)

to_chosen : (f : List Token) (v : Expr) (h : ℕ) → Reads whole f v h → Chosen f v h
to_chosen f v h (a_sum g c i r) = ((c, None), refl, bare g c i r)
to_chosen f v h (chosen g k l t u c w x i j m r a q b o) = (
  (c, Some (w, x)),
  refl,
  tailed g (t ∷ (k ++ u ∷ l)) c (w, x) i (max j m) r tt
      (t, k ++ u ∷ l, refl, a, record { left = k ++ u ∷ []; right = l; i = j; j = m; whole = sym (append_assoc k (u ∷ []) l); nest = refl; first = (k, u, refl, b, q); second = o }),
)

-- a name is read exactly
pub field_exact : (n : ℕ) → Exact kind_of n 0 (λ d. one (λ (u : Token). text u.kind)) (One (λ u. text u.kind)) Any
field_exact n = exact_one n (λ u. text u.kind) a_word 0 refl (λ t u e i. rw (← e) i)

module _ (n : ℕ) (y : (r : Rank) → Exact kind_of n 1 (λ d. read d r) (Reads r) (λ v. Follow r)) where
  abbrev inner : ℕ → Rank → Reader Token Expr
  inner d r ts = read d r ts

  primaries : (c : Primary) → Branch kind_of (λ k. primary_class k ≡ Some c) (suc n) (primary_low c) (λ d. primary_part (inner (below d)) c) (Primaries c) (λ v. Follow primary)
  primaries Word = headed_branch (λ t e. exact_made (λ u. named (word_of t.kind)) (λ v. Follow primary) (exact_nothing n) (λ w k q. tt) (λ w k q. tt))
  primaries Round = headed_branch (λ t e. exact_made (λ v. v) (λ v. Follow primary) (exact_before (y whole) closer (λ v k e. closes_whole k e)) (λ w k q. tt) (λ w k q. tt))

  lowest : (c : Primary) → 1 ≤ primary_low c
  lowest Word = omega arith
  lowest Round = omega arith

  exact_primary : Exact kind_of (suc n) 1 (λ d. primary_at (inner (below d)) d) (Reads primary) (λ v. Follow primary)
  exact_primary = exact_as (exact_one_of primary_class primaries lowest (opens_as to_primary (word_opens primary))) (λ d ts a b. refl) of_primary to_primary

  -- Arguments: a row of expressions that can be absent, and the mark behind it.
  pub args_exact : Exact kind_of n 0 (λ d. args_at (inner d) d) Bracketed Any
  args_exact = exact_mapped listed_if Any
      (exact_before (exact_optional (starts_separated starts_whole) (exact_separated divider (y whole) (λ v k e. comma_whole k e))) closer closes_args) (λ w k q. tt) (λ w k q. tt)

  parts : (c : Postfix) → Branch kind_of (λ k. postfix_class k ≡ Some c) n 0 (λ d. postfix_part (inner d) d c) (Parts c) (λ w k. Unit {0})
  parts Call = headed_branch (λ t e. exact_mapped args (λ w k. Unit {0}) args_exact (λ w k q. tt) (λ w k q. tt))
  parts Member = headed_branch (λ t e. exact_mapped field (λ w k. Unit {0}) (field_exact n) (λ w k q. tt) (λ w k q. tt))

  joint : Joint kind_of (suc n) 1 (λ v k. postfix_class k) (λ d c h. nat_lt (below d) h) postfix_make (λ c h j. max h j + 1) Always (λ c k. postfix_class k ≡ Some c) (λ v k. Unit {0}) (λ c w k. Unit {0}) (λ c. 1) (λ c. 1) (λ c. 0)
  joint = record {
    begins = λ v k c e. e;
    clear = λ v k c e ok. tt;
    suits = λ v k c e q. tt;
    to = λ c v w k q. tt;
    of = λ c v w k q. tt;
    grows = λ c h j. omega arith;
    fits = λ d c h lo hi le e. fits_below d h 0 (omega arith) (omega arith) e;
    free = λ d c h a b. free_below d h a;
  }

  exact_postfix : Exact kind_of (suc n) 1 (λ d. postfix_at (inner (below d)) d (below d)) (Reads postfix) (λ v. Follow postfix)
  exact_postfix = exact_stop (λ v. Follow postfix)
      (exact_as (exact_chain joint parts (λ c. omega arith) (λ d c. postfix_part (inner (below d)) (below d) c) (λ d c t rest a b i. refl) exact_primary) (λ d ts a b. refl) of_chain to_chain)
      (λ v k q. q.1) (λ v k q. (tt, q))

  plus_follows : (k : Kind) (o : Unit {0}) → is_plus k ≡ Some o → Follow postfix k
  plus_follows plus o e = refl
  plus_follows k o e = absurd cc

  exact_sums : Exact kind_of (suc n) 1 (λ d. sum_at (inner (below d)) d (below d)) (Reads sums) (λ v. Follow sums)
  exact_sums = exact_as (exact_level is_plus (λ o t v w. sum v w) exact_postfix (y postfix) (omega arith) (omega arith) (omega arith) plus_follows) (λ d ts a b. refl) of_sums to_sums

  colon_whole : (k : Kind) → is_colon k ≡ true → Follow whole k
  colon_whole colon e = (refl, refl, refl)
  colon_whole k e = absurd cc

  rest_exact : Exact kind_of n 1 (λ d. pair (before (inner d whole) (λ t. is_colon t.kind)) (inner d whole)) (Both (Before (Reads whole) (λ t. is_colon t.kind)) (Reads whole)) (λ v. Follow whole)
  rest_exact = exact_pair (exact_before (y whole) teller (λ v k e. colon_whole k e)) (y whole) (λ u g v h rest r s. any_stops kind_of u (g ++ rest))

  ask_sums : (k : Kind) → is_ask k ≡ true → Follow sums k
  ask_sums ask e = (refl, refl)
  ask_sums k e = absurd cc

  after_choice : (w : Expr × Option (Expr × Expr)) (k : Kind) → Trails is_ask (λ v. Follow sums) (λ v. Follow whole) w k → Follow whole k
  after_choice (c, None) k q = (q.0.0, q.0.1, q.1)
  after_choice (c, Some b) k q = q

  of_follow : (w : Expr × Option (Expr × Expr)) (k : Kind) → Follow whole k → Trails is_ask (λ v. Follow sums) (λ v. Follow whole) w k
  of_follow (c, None) k q = ((q.0, q.1), q.2)
  of_follow (c, Some b) k q = q

  exact_whole : Exact kind_of (suc n) 1 (λ d. whole_at (inner (below d)) d (below d)) (Reads whole) (λ v. Follow whole)
  exact_whole = exact_as
      (exact_mapped choice (λ v. Follow whole)
      (exact_node (λ v. Unit {0}) exact_sums (after_branch asker rest_exact) (omega arith) (omega arith) (omega arith) (λ a k e ok. ask_sums k e) (λ a k e q. tt))
      after_choice of_follow)
      (λ d ts a b. refl) of_chosen to_chosen

  with_more : (r : Rank) → Exact kind_of (suc n) 1 (λ d. rank_at (inner (below d)) d (below d) r) (Reads r) (λ v. Follow r)
  with_more primary = exact_primary
  with_more postfix = exact_postfix
  with_more sums = exact_sums
  with_more whole = exact_whole

read_is : (d : ℕ) (r : Rank) (ts : List Token) → 1 ≤ d → rank_at (λ s us. read (below d) s us) d (below d) r ts ≡ read d r ts
unfolding read
read_is zero r ts a = absurd (omega arith)
read_is (suc d) r ts a = refl

-- Every rank is read exactly, with any room.
pub exact_read : (n : ℕ) (r : Rank) → Exact kind_of n 1 (λ d. read d r) (Reads r) (λ v. Follow r)
exact_read zero r = exact_start (λ d. read d r) (λ v. Follow r) (omega arith) (word_opens r) (reads_least r)
exact_read (suc n) r = exact_as (with_more n (λ s. exact_read n s) r) (λ d ts a b. read_is d r ts a) (λ f v h q. q) (λ f v h q. q)
