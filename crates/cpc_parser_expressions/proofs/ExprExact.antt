-- Expressions are read exactly, with any room, and where calls are taken apart.
use Rattle.std.proofs.Common.{◌≡◌, ℕ, zero, suc, ◌+◌, ◌≤◌, ◌<◌, Bool, true, false, is_some, List, [], ◌∷◌, ◌++◌, Option, Some, None, max, refl, ap, subst, arith, nat_lt}
use Rattle.cpc_base.specs.declared.stop.Place.{Place}
use Rattle.cpc_base.proofs.Truth.{lt_fails, lt_not_means}
use Rattle.cpc_tree.specs.declared.token.Punctuator.TheVariants as P
use Rattle.cpc_tree.specs.Tokens.{Lexeme, Mark, Named, Placed}
use Rattle.cpc_tree.specs.Located.{LExpr, LChoose}
use Rattle.cpc_tree.specs.TypeGrammar.{mark, named}
use Rattle.cpc_tree.specs.ExprGrammar.{Rank, Primary, Postfix, Unary, Tier, Whole, top_tier, Operator, Binary, And, Or, operated, Reads}
use Rattle.cpc_parser_reading.specs.Reading.{Read, Reader, ◌>>=◌, one, before, pair, made, headed, mapped, below}
use Rattle.cpc_parser_reading.specs.Phrase.{One, Before, Both, OneOf}
use Rattle.cpc_parser_reading.specs.Chain.{links, Joint, down}
use Rattle.cpc_parser_reading.specs.Lists.{if_so}
use Rattle.cpc_parser_reading.specs.Exact.{Stops, Any, Absent, Took, Good, Opens, Exact, Branch, Sample}
use Rattle.cpc_parser_reading.proofs.Readers.{Over, any_stops, branch, exact_after, exact_as, exact_before, exact_chain, exact_made, exact_mapped, exact_nothing, exact_one, exact_one_of, exact_optional, exact_pair, exact_separated, exact_start, exact_stop, exact_two, headed_branch, last_all, links_on, opens_as, starts_separated}
use Rattle.cpc_parser_reading.proofs.Lists.{so, not_so, never}
use Rattle.cpc_parser_reading.proofs.Levels.{Always}
use Rattle.cpc_parser_types.specs.Views.{lexeme}
use Rattle.cpc_parser_types.specs.TypeReaders.{is_left, is_right, is_unbracket, is_comma, ident_in, ident_of, starts_base, enclosed_type_at}
use Rattle.cpc_parser_types.proofs.TypeNames.{Enclosed, enclosed_exact}
use Rattle.cpc_parser_expressions.specs.Shapes.{Never, Bare, Bracketed, Shape, Calling, Postfixed, Other, whole, ReadsShape}
use Rattle.cpc_parser_expressions.specs.Shapes as S
use Rattle.cpc_parser_expressions.specs.ExprReaders.{inside, was_call, count, flagged, Atom, Literal, Round, atom_class, atom_low, atom_part, atom_at, literal, opened, Behind, Args, Index, Field, Through, postfix_class, args_part, index_part, field_part, through_part, postfix_part, postfix_make, call_count, postfix_left, postfix_right, goes_on, Prefix, Sign, Size, Plain, prefix_class, prefix_low, prefix_part, starts_expr, signed_by, sized_at, cast_of, left_in, left_of, tier_links, choice_links, postfix_links, operator_in, operator_at, is_ask, is_colon, listed_if, Inner, postfix_at, unary_at, cast_at, tier_at, whole_at, rank_at, plain_at, rank_expr_at, expr_at, args_at, shape_at, ShapeEnd}
use Rattle.cpc_parser_expressions.proofs.Endings.{exact_ending, exact_stop_on}
use Rattle.cpc_parser_expressions.proofs.Sorts.{Above, no_other, no_other_primary, shape_least, never_of, never_to}
use Rattle.cpc_parser_expressions.proofs.PostfixWords.{Atoms, Arguments, of_closed, to_closed, Parts, flag_is, flag_none, none_flag, of_trail, to_trail, to_literal}
use Rattle.cpc_parser_expressions.proofs.UnaryWords.{Prefixes, of_prefix, to_prefix, Casts, of_cast, to_cast}
use Rattle.cpc_parser_expressions.proofs.TierWords.{op_tier, tier_of, operator_is, at_is, at_to, none_is, none_to, zero_tier, Operand, Suits, low_tier, of_tiers, to_tiers, Arms, chosen, Unchosen, shape_unchosen, of_choices, to_choices, below_is}
use Rattle.cpc_parser_expressions.proofs.Parens.{cast_begins, unary_apart, cast_opens, unary_opens, unary_high}
use Rattle.cpc_parser_expressions.proofs.ExprStarts.{starts_reads, starts_postfix, start, a_word, word_opens}

-- single marks
pub closer : Sample lexeme is_right
closer = record { token = mark start P.RightParen; holds = refl }

unbracketer : Sample lexeme is_unbracket
unbracketer = record { token = mark start P.RightBracket; holds = refl }

pub divider : Sample lexeme is_comma
divider = record { token = mark start P.Comma; holds = refl }

opener : Sample lexeme is_left
opener = record { token = mark start P.LeftParen; holds = refl }

teller : Sample lexeme is_colon
teller = record { token = mark start P.Colon; holds = refl }

-- what may stand behind a whole expression
pub right_ends : (k : Lexeme) → is_right k ≡ true → ShapeEnd Whole k
right_ends (Mark P.RightParen) e = (refl, refl, refl)
right_ends k e = absurd cc

unbracket_ends : (k : Lexeme) → is_unbracket k ≡ true → ShapeEnd Whole k
unbracket_ends (Mark P.RightBracket) e = (refl, refl, refl)
unbracket_ends k e = absurd cc

pub comma_ends : (k : Lexeme) → is_comma k ≡ true → ShapeEnd Whole k
comma_ends (Mark P.Comma) e = (refl, refl, refl)
comma_ends k e = absurd cc

colon_ends : (k : Lexeme) → is_colon k ≡ true → ShapeEnd Whole k
colon_ends (Mark P.Colon) e = (refl, refl, refl)
colon_ends k e = absurd cc

right_starts : (k : Lexeme) → is_right k ≡ true → (starts_expr k ≡ false) × (is_comma k ≡ false)
right_starts (Mark P.RightParen) e = (refl, refl)
right_starts k e = absurd cc

right_args : (o : Option (List LExpr)) (k : Lexeme) → is_right k ≡ true → Absent starts_expr (Over is_comma (λ v. ShapeEnd Whole)) o k
right_args None k e = (right_starts k e).0
right_args (Some vs) k e = (last_all (λ v. ShapeEnd Whole) vs k (λ v. right_ends k e), (right_starts k e).1)

-- a name is read exactly
no_ident : (p q : Place) (k l : Lexeme) → k ≡ l → ident_in p k ≡ None → ident_in q l ≡ None
no_ident p q (Named x) l e i = absurd cc
no_ident p q k l e i = rw (← e) refl

ident_exact : (n : ℕ) → Exact lexeme n 0 (λ d. one ident_of) (One ident_of) Any
ident_exact n = exact_one n ident_of (named a_word) a_word refl (λ t u e i. no_ident t.place u.place t.lexeme u.lexeme e i)

no_left : (p q : Place) (k l : Lexeme) → k ≡ l → left_in p k ≡ None → left_in q l ≡ None
no_left p q (Mark P.LeftParen) l e i = absurd cc
no_left p q k l e i = rw (← e) refl

left_exact : (n : ℕ) → Exact lexeme n 0 (λ d. one left_of) (One left_of) Any
left_exact n = exact_one n left_of (mark start P.LeftParen) start refl (λ t u e i. no_left t.place u.place t.lexeme u.lexeme e i)

-- an operator, a question mark and a colon are no parts of a postfix expression
operator_ends : (k : Lexeme) (x : ℕ × Operator) → operator_in k ≡ Some x → postfix_class k ≡ None
operator_ends (Mark P.LeftParen) x e = absurd cc
operator_ends (Mark P.LeftBracket) x e = absurd cc
operator_ends (Mark P.Dot) x e = absurd cc
operator_ends (Mark P.Arrow) x e = absurd cc
operator_ends k x e = refl

ask_ends : (k : Lexeme) → is_ask k ≡ true → ShapeEnd (Tier top_tier) k
ask_ends (Mark P.Question) e = (refl, refl)
ask_ends k e = absurd cc

no_goes : (k : Lexeme) → postfix_class k ≡ None → goes_on k ≡ false
no_goes k e = ap is_some e

goes_none : {A : Type 0} (o : Option A) → is_some o ≡ false → o ≡ None
goes_none None e = refl
goes_none (Some x) e = absurd cc

-- any token may stand there
pub any_joins : {A B : Type 0} (S : List Placed → B → ℕ → Type 0) (Q : B → Lexeme → Type 0) (u : A) (g : List Placed) (v : B) (h : ℕ) (rest : List Placed) → S g v h → Stops lexeme (Q v) rest → Stops lexeme (Any u) (g ++ rest)
any_joins S Q u g v h rest r s = any_stops lexeme u (g ++ rest)

module _ (n : ℕ) (e : Exact lexeme n 1 (λ d. expr_at d) (Reads Whole) (λ v. ShapeEnd Whole)) where
  -- Arguments: a row of expressions that can be absent, and the mark behind it.
  args_by : Exact lexeme n 0 (λ d. args_at d) Arguments Any
  args_by = exact_as
      (exact_mapped listed_if Any
      (exact_before (exact_optional (starts_separated starts_reads) (exact_separated divider e (λ v k i. comma_ends k i))) closer right_args) (λ w k q. tt) (λ w k q. tt))
      (λ d ts a b. refl) of_closed to_closed

-- What is inside is read exactly with less room, and the arguments of a call with the room that it leaves.
module _ (n : ℕ) (a : S.Apart) (y : (m : ℕ) → Exact lexeme n 1 (λ d. rank_expr_at d (Tier m)) (Reads (Tier m)) (λ v. ShapeEnd (Tier m))) (e : Exact lexeme n 1 (λ d. expr_at d) (Reads Whole) (λ v. ShapeEnd Whole))
    (within : ℕ → Reader Placed Shape) (z : Exact lexeme n 1 within (ReadsShape (inside a) Whole) (λ v. ShapeEnd Whole)) (up : ℕ) (x : Exact lexeme up 0 (λ d. args_at d) Arguments Any) (high : suc n ≤ up + call_count a) where
  abbrev inner : ℕ → Inner
  inner d = record { room = below d; expr = rank_expr_at (below d); args = args_at (down (call_count a) d); within = within (below d) }

  atoms : (c : Atom) → Branch lexeme (λ k. atom_class k ≡ Some c) (suc n) (atom_low c) (λ d. atom_part (within (below d)) c) (Atoms a c) Any
  atoms Literal = headed_branch (λ t i. exact_made (literal t) Any (exact_nothing n) (λ w k q. tt) (λ w k q. tt))
  atoms Round = headed_branch (λ t i. exact_made opened Any (exact_before z closer (λ v k i. right_ends k i)) (λ w k q. tt) (λ w k q. tt))

  atoms_low : (c : Atom) → 1 ≤ atom_low c
  atoms_low Literal = omega arith
  atoms_low Round = omega arith

  an_atom : Opens (OneOf (Atoms a)) 1 []
  an_atom = record { rest = named a_word ∷ []; value = _; nest = 1; reads = to_literal a start (Named []) refl; fits = omega arith }

  exact_atoms : Exact lexeme (suc n) 1 (λ d. atom_at (within (below d)) d) (OneOf (Atoms a)) Any
  exact_atoms = exact_one_of atom_class atoms atoms_low an_atom

  -- the least nesting of a part
  abbrev part_least : Behind × Bool → ℕ
  part_least (Index, b) = 1
  part_least (c, b) = 0

  abbrev part_up : Behind × Bool → ℕ
  part_up (Args, b) = up
  part_up (Index, b) = n
  part_up (c, b) = suc n

  parts : (c : Behind × Bool) → Branch lexeme (λ k. postfix_class k ≡ Some c.0) (part_up c) (part_least c) (λ d. postfix_part (expr_at d) (args_at d) c.0) (Parts c.0) Any
  parts (Args, b) = headed_branch (λ t i. exact_mapped (args_part t.place) Any x (λ w k q. tt) (λ w k q. tt))
  parts (Index, b) = headed_branch (λ t i. exact_mapped (index_part t.place) Any (exact_before e unbracketer (λ v k i. unbracket_ends k i)) (λ w k q. tt) (λ w k q. tt))
  parts (Field, b) = headed_branch (λ t i. exact_mapped (field_part t.place) Any (ident_exact (suc n)) (λ w k q. tt) (λ w k q. tt))
  parts (Through, b) = headed_branch (λ t i. exact_mapped (through_part t.place) Any (ident_exact (suc n)) (λ w k q. tt) (λ w k q. tt))

  part_high : (c : Behind × Bool) → suc n ≤ part_up c + postfix_right a c
  part_high (Args, b) = high
  part_high (Index, b) = omega arith
  part_high (Field, b) = omega arith
  part_high (Through, b) = omega arith

  part_is : (d : ℕ) (c : Behind × Bool) (t : Placed) (rest : List Placed)
      → postfix_part (expr_at (down (postfix_right a c) d)) (args_at (down (postfix_right a c) d)) c.0 (t ∷ rest) ≡ postfix_part (expr_at (below d)) (args_at (down (call_count a) d)) c.0 (t ∷ rest)
  part_is d (Args, b) t rest = refl
  part_is d (Index, b) t rest = refl
  part_is d (Field, b) t rest = refl
  part_is d (Through, b) t rest = refl

  part_fits : (d : ℕ) (c : Behind × Bool) (h : ℕ) → 1 ≤ h → nat_lt d (h + postfix_left a c) ≡ false → (h + postfix_left a c ≤ d) × (part_least c + postfix_right a c ≤ d)
  part_fits d (Args, b) h lo i = let k = lt_not_means d (h + (count b + call_count a)) i in (k, omega (arith, k))
  part_fits d (Index, b) h lo i = let k = lt_not_means d (h + (count b + 1)) i in (k, omega (arith, k, lo))
  part_fits d (Field, b) h lo i = let k = lt_not_means d (h + (count b + 1)) i in (k, omega arith)
  part_fits d (Through, b) h lo i = let k = lt_not_means d (h + (count b + 1)) i in (k, omega arith)

  part_joint : Joint lexeme (suc n) 1 (λ s k. flagged (was_call s) (postfix_class k)) (λ d c h. nat_lt d (h + postfix_left a c)) (λ c s w. postfix_make a s w) (λ c h j. max (h + postfix_left a c) (j + postfix_right a c))
      Always (λ c k. postfix_class k ≡ Some c.0) Any (λ c. Any) (postfix_left a) (postfix_right a) part_least
  part_joint = record {
    begins = λ s k c i. (flag_is (was_call s) (postfix_class k) c i).0;
    clear = λ s k c i ok. tt;
    suits = λ s k c i q. tt;
    to = λ c s w k q. tt;
    of = λ c s w k q. tt;
    grows = λ c h j. refl;
    fits = λ d c h lo hi le i. part_fits d c h lo i;
    free = λ d c h l m. lt_fails d (h + postfix_left a c) l;
  }

  exact_postfix : Exact lexeme (suc n) 1 (λ d. postfix_at (inner d) d a) (ReadsShape a Postfix) (λ v. ShapeEnd Postfix)
  exact_postfix = exact_stop (λ v. ShapeEnd Postfix)
      (exact_as (exact_chain part_joint parts part_high (λ d c. postfix_part (expr_at (below d)) (args_at (down (call_count a) d)) c.0) (λ d c t rest l m i. part_is d c t rest) exact_atoms)
      (λ d ts l m. refl) (of_trail a) (to_trail a))
      (λ s k q. flag_none (was_call s) (postfix_class k) q.1) (λ s k q. (tt, none_flag (was_call s) (postfix_class k) q))

  prefixes : (c : Prefix) → Branch lexeme (λ k. prefix_class k ≡ Some c) (suc n) (prefix_low c) (λ d. prefix_part (rank_expr_at (below d) (Tier 0)) (enclosed_type_at (below d)) (postfix_at (inner d) d a) c) (Prefixes a c) (λ v. ShapeEnd Unary)
  prefixes (Sign op) = headed_branch (λ t i. exact_made (signed_by op t) (λ v. ShapeEnd Unary) (y 0) (λ w k q. q.0) (λ w k q. (q, zero_tier k)))
  prefixes Size = headed_branch (λ t i. exact_made (sized_at t) (λ v. ShapeEnd Unary) (exact_ending goes_on (exact_after opener (enclosed_exact n))) (λ w k q. goes_none (postfix_class k) q.1) (λ w k q. (tt, no_goes k q)))
  prefixes Plain = branch (starts_postfix a) exact_postfix

  prefixes_low : (c : Prefix) → 1 ≤ prefix_low c
  prefixes_low (Sign op) = omega arith
  prefixes_low Size = omega arith
  prefixes_low Plain = omega arith

  exact_unary : Exact lexeme (suc n) 1 (λ d. unary_at (inner d) d a) (ReadsShape a Unary) (λ v. ShapeEnd Unary)
  exact_unary = exact_as (exact_one_of prefix_class prefixes prefixes_low (opens_as (to_prefix a) (word_opens a Unary))) (λ d ts l m. refl) (of_prefix a) (to_prefix a)

  casts : Exact lexeme (suc n) 2 (λ d. made cast_of (pair (one left_of) (pair (enclosed_type_at (below d)) (rank_expr_at (below d) (Tier 0))))) Casts (λ v. ShapeEnd (Tier 0))
  casts = exact_made cast_of (λ v. ShapeEnd (Tier 0))
      (exact_pair (left_exact n) (exact_pair (enclosed_exact n) (y 0) (any_joins (Reads (Tier 0)) (λ v. ShapeEnd (Tier 0)))) (any_joins (Both Enclosed (Reads (Tier 0))) (λ v. ShapeEnd (Tier 0))))
      (λ w k q. q) (λ w k q. q)

  zero_unary : Exact lexeme (suc n) 1 (λ d. unary_at (inner d) d a) (ReadsShape a Unary) (λ v. ShapeEnd (Tier 0))
  zero_unary = exact_stop (λ v. ShapeEnd (Tier 0)) exact_unary (λ v k q. (q, zero_tier k)) (λ v k q. q.0)

  exact_cast : Exact lexeme (suc n) 1 (λ d. cast_at (inner d) d a) (ReadsShape a (Tier 0)) (λ v. ShapeEnd (Tier 0))
  exact_cast = exact_as
      (exact_two is_left (λ k l. starts_base l) casts zero_unary (omega arith) cast_begins (λ f s h rest r q. unary_apart a f s h rest r) (λ t i. cast_opens t i) (λ t i. unary_opens a t i) (unary_high a))
      (λ d ts l m. refl) (of_cast a) (to_cast a)

  -- an operator of a tier behind what has been read
  abbrev TierQ : ℕ → Shape → Lexeme → Type 0
  TierQ m s k = (postfix_class k ≡ None) × ((o : ℕ × Operator) → operator_at m k ≡ Some o → tier_of s ≤ op_tier o.1)

  -- and behind an operand
  abbrev TierP : ℕ → (ℕ × Operator) × Bool → Place × LExpr → Lexeme → Type 0
  TierP m c w k = (postfix_class k ≡ None) × ((o : ℕ × Operator) → operator_at m k ≡ Some o → op_tier c.0.1 ≤ op_tier o.1)

  tier_clear : (m : ℕ) (s : Shape) (k : Lexeme) (c : (ℕ × Operator) × Bool) → operator_at m k ≡ Some c.0 → Suits s c → TierQ m s k
  tier_clear m s k c i ok = (operator_ends k c.0 (at_is m k c.0 i).0, λ o j. let u : c.0 ≡ o = cc in subst (λ v. tier_of s ≤ op_tier v.1) u ok)

  operated_tier : (q : Place) (op : Operator) (v w : LExpr) → tier_of (Other (operated q op v w)) ≡ op_tier op
  operated_tier q (Binary op) v w = refl
  operated_tier q And v w = refl
  operated_tier q Or v w = refl

  tier_joint : (m : ℕ) → Joint lexeme (suc n) 1 (λ s k. flagged (was_call s) (operator_at m k)) (λ d c h. nat_lt d (h + (count c.1 + 1))) (λ c s w. Other (operated w.0 c.0.1 (whole s) w.1)) (λ c h j. max (h + (count c.1 + 1)) (j + 1))
      Suits (λ c k. operator_at m k ≡ Some c.0) (TierQ m) (TierP m) (λ c. count c.1 + 1) (λ c. 1) (λ c. 1)
  tier_joint m = record {
    begins = λ s k c i. (flag_is (was_call s) (operator_at m k) c i).0;
    clear = λ s k c i ok. tier_clear m s k c (flag_is (was_call s) (operator_at m k) c i).0 ok;
    suits = λ s k c i q. q.1 c.0 (flag_is (was_call s) (operator_at m k) c i).0;
    to = λ c s w k q. (q.0, λ o j. let t = operated_tier w.0 c.0.1 (whole s) w.1 in let l = q.1 o j in omega (arith, t, l));
    of = λ c s w k q. (q.0, λ o j. let t = operated_tier w.0 c.0.1 (whole s) w.1 in let l = q.1 o j in omega (arith, t, l));
    grows = λ c h j. refl;
    fits = λ d c h lo hi le i. let k = lt_not_means d (h + (count c.1 + 1)) i in (k, omega (arith, k, lo));
    free = λ d c h l b. lt_fails d (h + (count c.1 + 1)) l;
  }

  operand_to : (m : ℕ) (c : (ℕ × Operator) × Bool) (w : Place × LExpr) (l k : Lexeme) → operator_at m l ≡ Some c.0 → ShapeEnd (Tier (below c.0.0)) k → TierP m c w k
  operand_to m c w l k i q =
      let a = at_is m l c.0 i in
      let b = operator_is l c.0 a.0 in (
        q.0,
        λ o j.
            let u = at_is m k o j in
            let v = operator_is k o u.0 in
            let lt = none_is (below c.0.0) k o q.1 u.0 in
            let s = below_is c.0.0 b.4 in
            omega (arith, lt, s, b.3, v.3),
      )

  operand_past : (m : ℕ) (c : (ℕ × Operator) × Bool) (w : Place × LExpr) (k : Lexeme) (o : ℕ × Operator) → TierP m c w k → c.0.0 ≤ m → 1 ≤ c.0.0 → c.0.0 ≡ op_tier c.0.1 → o.0 ≡ op_tier o.1 → operator_in k ≡ Some o → (b : Bool) → nat_lt m o.0 ≡ b → below c.0.0 < o.0
  operand_past m c w k o q le pos t u j true e = let lt : m < o.0 = grind arith in let s = below_is c.0.0 pos in omega (arith, lt, s)
  operand_past m c w k o q le pos t u j false e =
      let lt : o.0 ≤ m = grind arith in
      let x = q.1 o (at_to m k o j lt) in
      let s = below_is c.0.0 pos in
      omega (arith, x, s, t, u)

  operand_of : (m : ℕ) (c : (ℕ × Operator) × Bool) (w : Place × LExpr) (l k : Lexeme) → operator_at m l ≡ Some c.0 → TierP m c w k → ShapeEnd (Tier (below c.0.0)) k
  operand_of m c w l k i q =
      let a = at_is m l c.0 i in
      let b = operator_is l c.0 a.0 in
      (q.0, none_to (below c.0.0) k (λ o j. let v = operator_is k o j in operand_past m c w k o q a.1 b.4 b.3 v.3 j (nat_lt m o.0) refl))

  operands : (m : ℕ) (c : (ℕ × Operator) × Bool) → Branch lexeme (λ k. operator_at m k ≡ Some c.0) n 1 (λ d. headed (λ t. mapped (λ w. (t.place, w)) (rank_expr_at d (Tier (below c.0.0))))) (Operand m c) (TierP m c)
  operands m c = headed_branch (λ t i. exact_mapped (λ w. (t.place, w)) (TierP m c) (y (below c.0.0)) (λ w k q. operand_to m c (t.place, w) t.lexeme k i q) (λ w k q. operand_of m c (t.place, w) t.lexeme k i q))

  -- a cast, with what may stand behind it
  tier_first : (m : ℕ) → Exact lexeme (suc n) 1 (λ d. cast_at (inner d) d a) (ReadsShape a (Tier 0)) (TierQ m)
  tier_first m = exact_stop_on (TierQ m) exact_cast (λ f s h r k q. (q.0, λ o j. let t = low_tier a f s h r in omega (arith, t))) (λ f s h r k q. (q.0, zero_tier k))

  exact_tier : (m : ℕ) → Exact lexeme (suc n) 1 (λ d. tier_at (inner d) d m a) (ReadsShape a (Tier m)) (λ v. ShapeEnd (Tier m))
  exact_tier m = exact_stop (λ v. ShapeEnd (Tier m))
      (exact_as (exact_chain (tier_joint m) (operands m) (λ c. omega arith) (λ d c. headed (λ t. mapped (λ w. (t.place, w)) (rank_expr_at (below d) (Tier (below c.0.0))))) (λ d c t rest l b i. refl) (tier_first m))
      (λ d ts l b. refl) (of_tiers a m) (to_tiers a m))
      (λ s k q. (q.0.0, flag_none (was_call s) (operator_at m k) q.1)) (λ s k q. ((q.0, λ o j. let w = q.1 in absurd cc), none_flag (was_call s) (operator_at m k) q.1))

  -- arms behind what is no choice yet
  abbrev WholeQ : Shape → Lexeme → Type 0
  WholeQ s k = ShapeEnd (Tier top_tier) k × (chosen s ≡ true → is_ask k ≡ false)

  unchosen_clear : (s : Shape) (k : Lexeme) → is_ask k ≡ true → chosen s ≡ false → WholeQ s k
  unchosen_clear s k i c = (ask_ends k i, λ j. absurd cc)

  unchosen_suits : (s : Shape) (k : Lexeme) (b : Bool) → chosen s ≡ b → is_ask k ≡ true → WholeQ s k → chosen s ≡ false
  unchosen_suits s k false j i q = j
  unchosen_suits s k true j i q = let u = q.1 j in absurd cc

  asked : (s : Shape) (k : Lexeme) (c : Unit {0} × Bool) → flagged (was_call s) (if_so (is_ask k)) ≡ Some c → is_ask k ≡ true
  asked s k c i = so (is_ask k) c.0 (flag_is (was_call s) (if_so (is_ask k)) c i).0

  whole_joint : Joint lexeme (suc n) 1 (λ s k. flagged (was_call s) (if_so (is_ask k))) (λ d c h. nat_lt d (h + (count c.1 + 1))) (λ c s (w : Place × (LExpr × LExpr)). Other (LChoose w.0 (whole s) w.1.0 w.1.1)) (λ c h j. max (h + (count c.1 + 1)) (j + 1))
      Unchosen (λ c k. is_ask k ≡ true) WholeQ (λ c w. ShapeEnd Whole) (λ c. count c.1 + 1) (λ c. 1) (λ c. 1)
  whole_joint = record {
    begins = asked;
    clear = λ s k c i ok. unchosen_clear s k (asked s k c i) ok;
    suits = λ s k c i q. unchosen_suits s k (chosen s) refl (asked s k c i) q;
    to = λ c s w k q. ((q.0, q.1), λ i. q.2);
    of = λ c s w k q. (q.0.0, q.0.1, q.1 refl);
    grows = λ c h j. refl;
    fits = λ d c h lo hi le i. let k = lt_not_means d (h + (count c.1 + 1)) i in (k, omega (arith, k, lo));
    free = λ d c h l b. lt_fails d (h + (count c.1 + 1)) l;
  }

  two_arms : Exact lexeme n 1 (λ d. pair (before (expr_at d) (λ u. is_colon u.lexeme)) (expr_at d)) (Both (Before (Reads Whole) (λ u. is_colon u.lexeme)) (Reads Whole)) (λ v. ShapeEnd Whole)
  two_arms = exact_pair (exact_before e teller (λ v k i. colon_ends k i)) e (any_joins (Reads Whole) (λ v. ShapeEnd Whole))

  arms : Branch lexeme (λ k. is_ask k ≡ true) n 1 (λ d. headed (λ t. mapped (λ w. (t.place, w)) (pair (before (expr_at d) (λ u. is_colon u.lexeme)) (expr_at d)))) Arms (λ w. ShapeEnd Whole)
  arms = headed_branch (λ t i. exact_mapped (λ w. (t.place, w)) (λ w. ShapeEnd Whole) two_arms (λ w k q. q) (λ w k q. q))

  not_chosen : (f : List Placed) (s : Shape) (h : ℕ) (k : Lexeme) → ReadsShape a (Tier top_tier) f s h → chosen s ≡ true → is_ask k ≡ false
  not_chosen f s h k r i = let u = shape_unchosen a f s h r in absurd cc

  whole_first : Exact lexeme (suc n) 1 (λ d. tier_at (inner d) d top_tier a) (ReadsShape a (Tier top_tier)) WholeQ
  whole_first = exact_stop_on WholeQ (exact_tier top_tier) (λ f s h r k q. (q, not_chosen f s h k r)) (λ f s h r k q. q.0)

  exact_whole : Exact lexeme (suc n) 1 (λ d. whole_at (inner d) d a) (ReadsShape a Whole) (λ v. ShapeEnd Whole)
  exact_whole = exact_stop (λ v. ShapeEnd Whole)
      (exact_as (exact_chain whole_joint (λ c. arms) (λ c. omega arith) (λ d c. headed (λ t. mapped (λ w. (t.place, w)) (pair (before (expr_at (below d)) (λ u. is_colon u.lexeme)) (expr_at (below d))))) (λ d c t rest l b i. refl) whole_first)
      (λ d ts l b. refl) (of_choices a) (to_choices a))
      (λ s k q. (q.0.0.0, q.0.0.1, not_so (is_ask k) (flag_none (was_call s) (if_so (is_ask k)) q.1))) (λ s k q. (((q.0, q.1), λ i. q.2), none_flag (was_call s) (if_so (is_ask k)) (never (is_ask k) q.2)))

  primary_of : (f : List Placed) (s : Shape) (h : ℕ) → ReadsShape a Postfix f s h → ReadsShape a Primary f s h
  primary_of f (Calling q v vs) h c = c
  primary_of f (Postfixed v) h c = c
  primary_of f (Other v) h c = absurd (no_other f v h c)

  primary_to : (f : List Placed) (s : Shape) (h : ℕ) → ReadsShape a Primary f s h → ReadsShape a Postfix f s h
  primary_to f (Calling q v vs) h c = c
  primary_to f (Postfixed v) h c = c
  primary_to f (Other v) h c = absurd (no_other_primary f v h c)

  -- each rank is read exactly, with one room more
  exact_rank : (r : Rank) → Exact lexeme (suc n) 1 (λ d. rank_at (inner d) d a r) (ReadsShape a r) (λ v. ShapeEnd r)
  exact_rank Primary = exact_as exact_postfix (λ d ts l b. refl) primary_of primary_to
  exact_rank Postfix = exact_postfix
  exact_rank Unary = exact_unary
  exact_rank (Tier m) = exact_tier m
  exact_rank Whole = exact_whole

plain_is : (d : ℕ) (r : Rank) (ts : List Placed) → 1 ≤ d
    → rank_at (record { room = below d; expr = rank_expr_at (below d); args = args_at (down 1 d); within = λ us. plain_at (below d) Whole us }) d Never r ts ≡ plain_at d r ts
unfolding plain_at
plain_is zero r ts l = absurd (omega arith)
plain_is (suc d) r ts l = refl

module _ (n : ℕ) (r : Rank) (b : Above r) (x : Exact lexeme n 1 (λ d. plain_at d r) (ReadsShape Never r) (λ v. ShapeEnd r)) where
  -- where no call is taken apart, what is read are expressions
  reads_by : Exact lexeme n 1 (λ d. rank_expr_at d r) (Reads r) (λ v. ShapeEnd r)
  reads_by = exact_as (exact_mapped whole (λ v. ShapeEnd r) x (λ w k q. q) (λ w k q. q)) (λ d ts l m. refl) (λ f v h c. never_of r f v h b c) (λ f v h c. never_to r f v h c)

-- Expressions of each rank are read exactly, with any room.
plain_exact : (n : ℕ) (r : Rank) → Exact lexeme n 1 (λ d. plain_at d r) (ReadsShape Never r) (λ v. ShapeEnd r)
plain_exact zero r = exact_start (λ d. plain_at d r) (λ v. ShapeEnd r) (omega arith) (word_opens Never r) (shape_least Never r)
plain_exact (suc n) r =
    let e = reads_by n Whole tt (plain_exact n Whole) in
    exact_as (exact_rank n Never (λ m. reads_by n (Tier m) tt (plain_exact n (Tier m))) e (λ d us. plain_at d Whole us) (plain_exact n Whole) n (args_by n e) (omega arith) r)
    (λ d ts l b. plain_is d r ts l) (λ f v h q. q) (λ f v h q. q)

-- expressions of a rank
pub rank_exact : (n : ℕ) (r : Rank) → Above r → Exact lexeme n 1 (λ d. rank_expr_at d r) (Reads r) (λ v. ShapeEnd r)
rank_exact n r b = reads_by n r b (plain_exact n r)

-- whole ones
pub expr_exact : (n : ℕ) → Exact lexeme n 1 (λ d. expr_at d) (Reads Whole) (λ v. ShapeEnd Whole)
expr_exact n = rank_exact n Whole tt

-- arguments, and the closing mark behind them
pub args_exact : (n : ℕ) → Exact lexeme n 0 (λ d. args_at d) Arguments Any
args_exact n = args_by n (expr_exact n)

-- the room of the arguments of a call
abbrev args_up : S.Apart → ℕ → ℕ
args_up Never n = n
args_up a n = suc n

up_high : (a : S.Apart) (n : ℕ) → suc n ≤ args_up a n + call_count a
up_high Never n = omega arith
up_high Bare n = omega arith
up_high Bracketed n = omega arith

abbrev inner_of : S.Apart → ℕ → Inner
inner_of a d = record { room = below d; expr = rank_expr_at (below d); args = args_at (down (call_count a) d); within = λ us. shape_at (below d) (inside a) Whole us }

pub shape_is : (d : ℕ) (a : S.Apart) (r : Rank) (ts : List Placed) → 1 ≤ d → rank_at (inner_of a d) d a r ts ≡ shape_at d a r ts
unfolding plain_at shape_at
shape_is zero a r ts l = absurd (omega arith)
shape_is (suc zero) Never r ts l = refl
shape_is (suc (suc d)) Never r ts l = refl
shape_is (suc d) Bare r ts l = refl
shape_is (suc d) Bracketed r ts l = refl

-- Where calls are taken apart, expressions of each rank are read exactly, with any room.
pub shape_exact : (n : ℕ) (a : S.Apart) (r : Rank) → Exact lexeme n 1 (λ d. shape_at d a r) (ReadsShape a r) (λ v. ShapeEnd r)
shape_exact zero a r = exact_start (λ d. shape_at d a r) (λ v. ShapeEnd r) (omega arith) (word_opens a r) (shape_least a r)
shape_exact (suc n) a r =
    exact_as (exact_rank n a (λ m. rank_exact n (Tier m) tt) (expr_exact n) (λ d us. shape_at d (inside a) Whole us) (shape_exact n (inside a) Whole) (args_up a n) (args_exact (args_up a n)) (up_high a n) r)
    (λ d ts l b. shape_is d a r ts l) (λ f v h q. q) (λ f v h q. q)

-- One part more along each of the chains, where there is room for it.
module _ (a : S.Apart) (d : ℕ) where
  abbrev inside_at : ℕ → Reader Placed Shape
  inside_at e us = shape_at e (inside a) Whole us

  pub tier_on : (m : ℕ) (c : (ℕ × Operator) × Bool) (s : Shape) (h : ℕ) (t : Placed) (rest : List Placed) → 1 ≤ h → h ≤ d → flagged (was_call s) (operator_at m t.lexeme) ≡ Some c → nat_lt d (h + (count c.1 + 1)) ≡ false
      → links (tier_links (rank_expr_at (below d)) d m) s h (t ∷ rest)
      ≡ ((tier_links (rank_expr_at (below d)) d m).part c (t ∷ rest) >>= λ z. links (tier_links (rank_expr_at (below d)) d m) (Other (operated z.0.0 c.0.1 (whole s) z.0.1)) (max (h + (count c.1 + 1)) (z.1 + 1)) z.2)
  tier_on m = links_on (tier_joint d a (λ k. rank_exact d (Tier k) tt) (expr_exact d) inside_at (shape_exact d (inside a) Whole) (args_up a d) (args_exact (args_up a d)) (up_high a d) m)
      (operands d a (λ k. rank_exact d (Tier k) tt) (expr_exact d) inside_at (shape_exact d (inside a) Whole) (args_up a d) (args_exact (args_up a d)) (up_high a d) m)
      (λ c. omega arith) (λ e c. headed (λ t. mapped (λ w. (t.place, w)) (rank_expr_at (below e) (Tier (below c.0.0))))) (λ e c t rest l b i. refl) d (omega arith)

  pub choice_on : (c : Unit {0} × Bool) (s : Shape) (h : ℕ) (t : Placed) (rest : List Placed) → 1 ≤ h → h ≤ d → flagged (was_call s) (if_so (is_ask t.lexeme)) ≡ Some c → nat_lt d (h + (count c.1 + 1)) ≡ false
      → links (choice_links (expr_at (below d)) d) s h (t ∷ rest)
      ≡ ((choice_links (expr_at (below d)) d).part c (t ∷ rest) >>= λ z. links (choice_links (expr_at (below d)) d) (Other (LChoose z.0.0 (whole s) z.0.1.0 z.0.1.1)) (max (h + (count c.1 + 1)) (z.1 + 1)) z.2)
  choice_on = links_on (whole_joint d a (λ k. rank_exact d (Tier k) tt) (expr_exact d) inside_at (shape_exact d (inside a) Whole) (args_up a d) (args_exact (args_up a d)) (up_high a d))
      (λ c. arms d a (λ k. rank_exact d (Tier k) tt) (expr_exact d) inside_at (shape_exact d (inside a) Whole) (args_up a d) (args_exact (args_up a d)) (up_high a d))
      (λ c. omega arith) (λ e c. headed (λ t. mapped (λ w. (t.place, w)) (pair (before (expr_at (below e)) (λ u. is_colon u.lexeme)) (expr_at (below e))))) (λ e c t rest l b i. refl) d (omega arith)

  pub postfix_on : (c : Behind × Bool) (s : Shape) (h : ℕ) (t : Placed) (rest : List Placed) → 1 ≤ h → h ≤ d → flagged (was_call s) (postfix_class t.lexeme) ≡ Some c → nat_lt d (h + postfix_left a c) ≡ false
      → links (postfix_links (expr_at (below d)) (args_at (down (call_count a) d)) d a) s h (t ∷ rest)
      ≡ ((postfix_links (expr_at (below d)) (args_at (down (call_count a) d)) d a).part c (t ∷ rest) >>= λ z. links (postfix_links (expr_at (below d)) (args_at (down (call_count a) d)) d a) (postfix_make a s z.0) (max (h + postfix_left a c) (z.1 + postfix_right a c)) z.2)
  postfix_on = links_on (part_joint d a (λ k. rank_exact d (Tier k) tt) (expr_exact d) inside_at (shape_exact d (inside a) Whole) (args_up a d) (args_exact (args_up a d)) (up_high a d))
      (parts d a (λ k. rank_exact d (Tier k) tt) (expr_exact d) inside_at (shape_exact d (inside a) Whole) (args_up a d) (args_exact (args_up a d)) (up_high a d))
      (part_high d a (λ k. rank_exact d (Tier k) tt) (expr_exact d) inside_at (shape_exact d (inside a) Whole) (args_up a d) (args_exact (args_up a d)) (up_high a d))
      (λ e c. postfix_part (expr_at (below e)) (args_at (down (call_count a) e)) c.0)
      (λ e c t rest l m i. part_is d a (λ k. rank_exact d (Tier k) tt) (expr_exact d) inside_at (shape_exact d (inside a) Whole) (args_up a d) (args_exact (args_up a d)) (up_high a d) e c t rest) d (omega arith)

-- what stands behind a whole expression
pub expr_ends : (d : ℕ) (ts : List Placed) (v : LExpr) (h : ℕ) (rest : List Placed) → 1 ≤ d → expr_at d ts ≡ Read (v, h, rest) → Stops lexeme (ShapeEnd Whole) rest
expr_ends d ts v h rest l e =
    let k : Took lexeme (Reads Whole) (λ w. ShapeEnd Whole) d ts (v, h, rest) = subst (λ r. Good lexeme (expr_at d) (Reads Whole) (λ w. ShapeEnd Whole) d ts r) e (((expr_exact d).at d l (omega arith)).good ts) in
    k.stops
