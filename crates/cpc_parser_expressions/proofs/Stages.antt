-- The readers of expressions as the code goes through them: one part behind another.
use Rattle.std.proofs.Common.{◌≡◌, ℕ, ◌+◌, ◌-◌, ◌≤◌, ◌<◌, Bool, true, false, List, [], ◌∷◌, Option, Some, None, max, refl, sym, ap, ◌∙◌, arith, nat_lt, cond}
use Rattle.cpc_base.specs.declared.stop.Place.{Place}
use Rattle.cpc_base.proofs.Truth.{lt_holds, lt_fails}
use Rattle.cpc_tree.specs.declared.program.UnaryOp.{UnaryOp}
use Rattle.cpc_tree.specs.declared.token.Punctuator.TheVariants as P
use Rattle.cpc_tree.specs.Located.{Ident, LExpr, LExprs, LUnary, LCast, LChoose, LIndex, LMember, LArrow}
use Rattle.cpc_tree.specs.Syntax.{Ty}
use Rattle.cpc_tree.specs.Tokens.{Lexeme, Mark, Placed}
use Rattle.cpc_tree.specs.TypeGrammar.{mark}
use Rattle.cpc_tree.specs.ExprGrammar.{Tier, Whole, Operator, operated}
use Rattle.cpc_parser_reading.specs.Reading.{Reading, Read, Fault, Deep, ◌>>=◌, below, before, expect, one}
use Rattle.cpc_parser_types.specs.TypeReaders.{is_left, is_right, is_unbracket, ident_of, enclosed_type_at}
use Rattle.cpc_parser_expressions.specs.Shapes.{Apart, Never, Bare, Bracketed, Shape, Calling, Postfixed, Other, whole, extra}
use Rattle.cpc_parser_expressions.specs.ExprReaders.{Behind, was_call, count, called, call_count, Args, Index, Field, Through, args_part, index_part, field_part, through_part, postfix_make, at_most, operator_at, operator_in, is_colon, tier_links, choice_links, postfix_links, rank_expr_at, expr_at, args_at, shape_at, atom_at, inside, opened}
use Rattle.cpc_parser_expressions.specs.PartCount.{part_count}
use Rattle.cpc_parser_expressions.specs.Steps.{first_of, stepped, onto, sign_at, typed_at, args_room, within_at}
use Rattle.cpc_parser_expressions.proofs.Steps.{minus_is, assoc}
use Rattle.cpc_parser_expressions.proofs.Follow.{atom_round}
use Rattle.cpc_parser_expressions.proofs.TierWords.{operator_is}

-- a first part that was read
pub on_read : {A B : Type 0} (x : A × ℕ × List Placed) (r : Reading Placed A) (f : A × ℕ × List Placed → Reading Placed B) (to : Reading Placed B) → to ≡ (r >>= f) → r ≡ Read x → to ≡ f x
on_read x r f to e i = e ∙ ap (λ z. z >>= f) i

pub counted : (s : Shape) → count (was_call s) ≡ extra s
counted (Calling q v vs) = refl
counted (Postfixed v) = refl
counted (Other v) = refl

-- an operator's tier is not that of casts
at_most_by : (b : Bool) (y x : ℕ × Operator) → cond b None (Some y) ≡ Some x → Some y ≡ Some x
at_most_by true y x e = absurd cc
at_most_by false y x e = e

at_most_in : (n : ℕ) (o : Option (ℕ × Operator)) (x : ℕ × Operator) → at_most n o ≡ Some x → o ≡ Some x
at_most_in n None x e = absurd cc
at_most_in n (Some y) x e = at_most_by (nat_lt n y.0) y x e

pub tier_low : (n : ℕ) (ts : List Placed) (x : ℕ × Operator) → first_of (operator_at n) ts ≡ Some x → 0 < x.0
tier_low n [] x e = absurd cc
tier_low n (t ∷ rest) x e = let k = operator_is t.lexeme x (at_most_in n (operator_in t.lexeme) x e) in omega (arith, k.4)

-- An operator and the operand behind it.
module _ (d n : ℕ) (c : ℕ × Operator) (s : Shape) (h : ℕ) (t : Placed) (rest ts : List Placed) (first : ts ≡ t ∷ rest) where
  pub applied_deep : d - h ≤ extra s → stepped (tier_links (rank_expr_at (d - 1)) d n) (c, was_call s) s h ts ≡ Deep ts
  applied_deep l = let f : d < h + (count (was_call s) + 1) = omega (arith, l, counted s) in rw (first, lt_holds d (h + (count (was_call s) + 1)) f) refl

  pub applied_go : extra s < d - h
      → stepped (tier_links (rank_expr_at (d - 1)) d n) (c, was_call s) s h ts ≡ (rank_expr_at (d - 1) (Tier (c.0 - 1)) rest >>= λ x. Read (Other (operated t.place c.1 (whole s) x.0), max (h + (count (was_call s) + 1)) (x.1 + 1), x.2))
  applied_go l =
      let f : h + (count (was_call s) + 1) ≤ d = omega (arith, l, counted s) in
      rw (first, lt_fails d (h + (count (was_call s) + 1)) f, minus_is c.0)
      (assoc (rank_expr_at (d - 1) (Tier (below c.0)) rest) (λ w. Read ((t.place, w.0), w.1, w.2)) (λ x. Read (Other (operated x.0.0 c.1 (whole s) x.0.1), max (h + (count (was_call s) + 1)) (x.1 + 1), x.2)))

-- two values that were read, and one with its place
abbrev both_read : {A B : Type 0} → A → ℕ → B × ℕ × List Placed → Reading Placed (A × B)
both_read v i y = Read ((v, y.0), max i y.1, y.2)

abbrev at_place : {A : Type 0} → Place → A × ℕ × List Placed → Reading Placed (Place × A)
at_place q w = Read ((q, w.0), w.1, w.2)

-- The arms of a choice.
module _ (q : Place) (s : Shape) (k d : ℕ) where
  arm_by : (v : LExpr) (i : ℕ) (r : Reading Placed LExpr)
      → (((r >>= λ y. both_read v i y) >>= λ w. at_place q w) >>= λ x. Read (Other (LChoose x.0.0 (whole s) x.0.1.0 x.0.1.1), max k (x.1 + 1), x.2))
      ≡ (r >>= λ z. Read (Other (LChoose q (whole s) v z.0), max k (max i z.1 + 1), z.2))
  arm_by v i (Read z) = refl
  arm_by v i (Fault left) = refl
  arm_by v i (Deep left) = refl

  colon_by : (v : LExpr) (i : ℕ) (r : Reading Placed (Unit {0}))
      → ((((r >>= λ y. Read (v, i, y.2)) >>= λ x. expr_at (d - 1) x.2 >>= λ y. both_read x.0 x.1 y) >>= λ w. at_place q w) >>= λ x. Read (Other (LChoose x.0.0 (whole s) x.0.1.0 x.0.1.1), max k (x.1 + 1), x.2))
      ≡ (r >>= λ y. expr_at (d - 1) y.2 >>= λ z. Read (Other (LChoose q (whole s) v z.0), max k (max i z.1 + 1), z.2))
  colon_by v i (Read y) = arm_by v i (expr_at (d - 1) y.2)
  colon_by v i (Fault left) = refl
  colon_by v i (Deep left) = refl

  arms_by : (r : Reading Placed LExpr)
      → ((((r >>= λ x. expect (λ u. is_colon u.lexeme) x.2 >>= λ y. Read (x.0, x.1, y.2)) >>= λ x. expr_at (d - 1) x.2 >>= λ y. both_read x.0 x.1 y) >>= λ w. at_place q w) >>= λ x. Read (Other (LChoose x.0.0 (whole s) x.0.1.0 x.0.1.1), max k (x.1 + 1), x.2))
      ≡ (r >>= λ x. expect (λ u. is_colon u.lexeme) x.2 >>= λ y. expr_at (d - 1) y.2 >>= λ z. Read (Other (LChoose q (whole s) x.0 z.0), max k (max x.1 z.1 + 1), z.2))
  arms_by (Read x) = colon_by x.0 x.1 (expect (λ u. is_colon u.lexeme) x.2)
  arms_by (Fault left) = refl
  arms_by (Deep left) = refl

module _ (d : ℕ) (s : Shape) (h : ℕ) (t : Placed) (rest ts : List Placed) (first : ts ≡ t ∷ rest) where
  pub choice_deep : d - h ≤ extra s → stepped (choice_links (expr_at (d - 1)) d) (tt, was_call s) s h ts ≡ Deep ts
  choice_deep l = let f : d < h + (count (was_call s) + 1) = omega (arith, l, counted s) in rw (first, lt_holds d (h + (count (was_call s) + 1)) f) refl

  pub choice_go : extra s < d - h
      → stepped (choice_links (expr_at (d - 1)) d) (tt, was_call s) s h ts
      ≡ (expr_at (d - 1) rest >>= λ x. expect (λ u. is_colon u.lexeme) x.2 >>= λ y. expr_at (d - 1) y.2 >>= λ z. Read (Other (LChoose t.place (whole s) x.0 z.0), max (h + (count (was_call s) + 1)) (max x.1 z.1 + 1), z.2))
  choice_go l =
      let f : h + (count (was_call s) + 1) ≤ d = omega (arith, l, counted s) in
      rw (first, lt_fails d (h + (count (was_call s) + 1)) f) (arms_by t.place s (h + (count (was_call s) + 1)) d (expr_at (d - 1) rest))

-- A cast.
typed_on : (q : Place) (v : Ty) (i : ℕ) (r : Reading Placed LExpr)
    → (((r >>= λ y. both_read v i y) >>= λ y. both_read q 0 y) >>= λ x. Read (Other (LCast x.0.0 x.0.1.0 x.0.1.1), x.1 + 1, x.2)) ≡ (r >>= λ y. Read (Other (LCast q v y.0), max 0 (max i y.1) + 1, y.2))
typed_on q v i (Read y) = refl
typed_on q v i (Fault left) = refl
typed_on q v i (Deep left) = refl

typed_by : (q : Place) (room : ℕ) (r : Reading Placed Ty)
    → (((r >>= λ x. rank_expr_at room (Tier 0) x.2 >>= λ y. both_read x.0 x.1 y) >>= λ y. both_read q 0 y) >>= λ x. Read (Other (LCast x.0.0 x.0.1.0 x.0.1.1), x.1 + 1, x.2))
    ≡ (r >>= λ x. rank_expr_at room (Tier 0) x.2 >>= λ y. Read (Other (LCast q x.0 y.0), max 0 (max x.1 y.1) + 1, y.2))
typed_by q room (Read x) = typed_on q x.0 x.1 (rank_expr_at room (Tier 0) x.2)
typed_by q room (Fault left) = refl
typed_by q room (Deep left) = refl

pub typed_go : (q : Place) (room : ℕ) (rest : List Placed)
    → typed_at room (mark q P.LeftParen ∷ rest) ≡ (enclosed_type_at room rest >>= λ x. rank_expr_at room (Tier 0) x.2 >>= λ y. Read (Other (LCast q x.0 y.0), max 0 (max x.1 y.1) + 1, y.2))
typed_go q room rest = typed_by q room (enclosed_type_at room rest)

left_by : (room : ℕ) (t : Placed) (rest : List Placed) (k : Lexeme) → t.lexeme ≡ k → typed_at room (t ∷ rest) ≡ (expect (λ u. is_left u.lexeme) (t ∷ rest) >>= λ x. typed_at room (t ∷ rest))
left_by room t rest (Mark P.LeftParen) i = rw i refl
left_by room t rest (Mark p) i = rw i refl
left_by room t rest k i = rw i refl

pub typed_left : (room : ℕ) (ts : List Placed) → typed_at room ts ≡ (expect (λ u. is_left u.lexeme) ts >>= λ x. typed_at room ts)
typed_left room [] = refl
typed_left room (t ∷ rest) = left_by room t rest t.lexeme refl

-- What stands behind a postfix expression.
part_args : (a : Apart) (q : Place) (s : Shape) (k j : ℕ) (r : Reading Placed LExprs) → j ≡ k
    → ((r >>= λ v. Read (args_part q v.0, v.1, v.2)) >>= λ x. Read (postfix_make a s x.0, max j (x.1 + call_count a), x.2)) ≡ (r >>= λ x. Read (called a q (whole s) x.0, max k (x.1 + call_count a), x.2))
part_args a q s k j (Read x) e = ap (λ z. Read (called a q (whole s) x.0, max z (x.1 + call_count a), x.2)) e
part_args a q s k j (Fault left) e = refl
part_args a q s k j (Deep left) e = refl

part_index : (a : Apart) (q : Place) (s : Shape) (k j : ℕ) (r : Reading Placed LExpr) → j ≡ k
    → ((r >>= λ v. Read (index_part q v.0, v.1, v.2)) >>= λ x. Read (postfix_make a s x.0, max j (x.1 + 1), x.2)) ≡ (r >>= λ x. Read (Postfixed (LIndex q (whole s) x.0), max k (x.1 + 1), x.2))
part_index a q s k j (Read x) e = ap (λ z. Read (Postfixed (LIndex q (whole s) x.0), max z (x.1 + 1), x.2)) e
part_index a q s k j (Fault left) e = refl
part_index a q s k j (Deep left) e = refl

part_field : (a : Apart) (q : Place) (s : Shape) (k j : ℕ) (r : Reading Placed Ident) → j ≡ k
    → ((r >>= λ v. Read (field_part q v.0, v.1, v.2)) >>= λ x. Read (postfix_make a s x.0, max j (x.1 + 0), x.2)) ≡ (r >>= λ x. Read (Postfixed (LMember q (whole s) x.0), max k (x.1 + 0), x.2))
part_field a q s k j (Read x) e = ap (λ z. Read (Postfixed (LMember q (whole s) x.0), max z (x.1 + 0), x.2)) e
part_field a q s k j (Fault left) e = refl
part_field a q s k j (Deep left) e = refl

part_through : (a : Apart) (q : Place) (s : Shape) (k j : ℕ) (r : Reading Placed Ident) → j ≡ k
    → ((r >>= λ v. Read (through_part q v.0, v.1, v.2)) >>= λ x. Read (postfix_make a s x.0, max j (x.1 + 0), x.2)) ≡ (r >>= λ x. Read (Postfixed (LArrow q (whole s) x.0), max k (x.1 + 0), x.2))
part_through a q s k j (Read x) e = ap (λ z. Read (Postfixed (LArrow q (whole s) x.0), max z (x.1 + 0), x.2)) e
part_through a q s k j (Fault left) e = refl
part_through a q s k j (Deep left) e = refl

module _ (a : Apart) (d : ℕ) (s : Shape) (h : ℕ) (t : Placed) (rest ts : List Placed) (first : ts ≡ t ∷ rest) (hi : h ≤ d) where
  pub args_deep_in : d - h < extra s + call_count a → stepped (postfix_links (expr_at (d - 1)) (args_at (args_room a d)) d a) (Args, was_call s) s h ts ≡ Deep ts
  args_deep_in l = let f : d < h + (count (was_call s) + call_count a) = omega (arith, l, counted s) in rw (first, lt_holds d (h + (count (was_call s) + call_count a)) f) refl

  pub args_go : extra s + call_count a ≤ d - h
      → stepped (postfix_links (expr_at (d - 1)) (args_at (args_room a d)) d a) (Args, was_call s) s h ts ≡ onto (λ y. called a t.place (whole s) y) (λ j. max (h + extra s + call_count a) (j + call_count a)) (args_at (args_room a d)) rest
  args_go l =
      let f : h + (count (was_call s) + call_count a) ≤ d = omega (arith, l, hi, counted s) in
      let e : h + (count (was_call s) + call_count a) ≡ h + extra s + call_count a = omega (arith, counted s) in
      rw (first, lt_fails d (h + (count (was_call s) + call_count a)) f) (part_args a t.place s (h + extra s + call_count a) (h + (count (was_call s) + call_count a)) (args_at (args_room a d) rest) e)

  one_more : extra s + 1 ≤ d - h → h + (count (was_call s) + 1) ≤ d
  one_more l = omega (arith, l, hi, counted s)

  as_one : h + (count (was_call s) + 1) ≡ h + extra s + 1
  as_one = omega (arith, counted s)

  pub index_go : extra s + 1 ≤ d - h
      → stepped (postfix_links (expr_at (d - 1)) (args_at (args_room a d)) d a) (Index, was_call s) s h ts
      ≡ onto (λ y. Postfixed (LIndex t.place (whole s) y)) (λ j. max (h + extra s + 1) (j + 1)) (before (expr_at (d - 1)) (λ u. is_unbracket u.lexeme)) rest
  index_go l = rw (first, lt_fails d (h + (count (was_call s) + 1)) (one_more l)) (part_index a t.place s (h + extra s + 1) (h + (count (was_call s) + 1)) (before (expr_at (d - 1)) (λ u. is_unbracket u.lexeme) rest) as_one)

  pub field_go : extra s + 1 ≤ d - h
      → stepped (postfix_links (expr_at (d - 1)) (args_at (args_room a d)) d a) (Field, was_call s) s h ts ≡ onto (λ y. Postfixed (LMember t.place (whole s) y)) (λ j. max (h + extra s + 1) (j + 0)) (one ident_of) rest
  field_go l = rw (first, lt_fails d (h + (count (was_call s) + 1)) (one_more l)) (part_field a t.place s (h + extra s + 1) (h + (count (was_call s) + 1)) (one ident_of rest) as_one)

  pub through_go : extra s + 1 ≤ d - h
      → stepped (postfix_links (expr_at (d - 1)) (args_at (args_room a d)) d a) (Through, was_call s) s h ts ≡ onto (λ y. Postfixed (LArrow t.place (whole s) y)) (λ j. max (h + extra s + 1) (j + 0)) (one ident_of) rest
  through_go l = rw (first, lt_fails d (h + (count (was_call s) + 1)) (one_more l)) (part_through a t.place s (h + extra s + 1) (h + (count (was_call s) + 1)) (one ident_of rest) as_one)

  deep_one : d - h < extra s + 1 → nat_lt d (h + (count (was_call s) + 1)) ≡ true
  deep_one l = let f : d < h + (count (was_call s) + 1) = omega (arith, l, counted s) in lt_holds d (h + (count (was_call s) + 1)) f

  pub index_deep : d - h < extra s + 1 → stepped (postfix_links (expr_at (d - 1)) (args_at (args_room a d)) d a) (Index, was_call s) s h ts ≡ Deep ts
  index_deep l = rw (first, deep_one l) refl

  pub field_deep : d - h < extra s + 1 → stepped (postfix_links (expr_at (d - 1)) (args_at (args_room a d)) d a) (Field, was_call s) s h ts ≡ Deep ts
  field_deep l = rw (first, deep_one l) refl

  pub through_deep : d - h < extra s + 1 → stepped (postfix_links (expr_at (d - 1)) (args_at (args_room a d)) d a) (Through, was_call s) s h ts ≡ Deep ts
  through_deep l = rw (first, deep_one l) refl

  pub part_deep : (c : Behind) → d - h < extra s + part_count a c → stepped (postfix_links (expr_at (d - 1)) (args_at (args_room a d)) d a) (c, was_call s) s h ts ≡ Deep ts
  part_deep Args l = args_deep_in l
  part_deep Index l = index_deep l
  part_deep Field l = field_deep l
  part_deep Through l = through_deep l

-- An operator and its operand.
pub sign_go : (op : UnaryOp) (room : ℕ) (t : Placed) (rest ts : List Placed) → ts ≡ t ∷ rest → sign_at op room ts ≡ (rank_expr_at room (Tier 0) rest >>= λ x. Read (Other (LUnary t.place op x.0), x.1 + 1, x.2))
sign_go op room t rest ts first = rw first refl

-- An element, behind the bracket.
index_by : (q : Place) (v : LExpr) (h : ℕ) (r : Reading Placed LExpr)
    → ((r >>= λ x. expect (λ u. is_unbracket u.lexeme) x.2 >>= λ y. Read (x.0, x.1, y.2)) >>= λ x. Read (Postfixed (LIndex q v x.0), max (h + 1) (x.1 + 1), x.2))
    ≡ (r >>= λ x. expect (λ u. is_unbracket u.lexeme) x.2 >>= λ y. Read (Postfixed (LIndex q v x.0), max (h + 1) (x.1 + 1), y.2))
index_by q v h (Read x) = assoc (expect (λ u. is_unbracket u.lexeme) x.2) (λ y. Read (x.0, x.1, y.2)) (λ x. Read (Postfixed (LIndex q v x.0), max (h + 1) (x.1 + 1), x.2))
index_by q v h (Fault left) = refl
index_by q v h (Deep left) = refl

pub index_is : (q : Place) (v : LExpr) (h d : ℕ) (ts : List Placed)
    → onto (λ y. Postfixed (LIndex q v y)) (λ j. max (h + 1) (j + 1)) (before (expr_at (d - 1)) (λ u. is_unbracket u.lexeme)) ts
    ≡ (expr_at (d - 1) ts >>= λ x. expect (λ u. is_unbracket u.lexeme) x.2 >>= λ y. Read (Postfixed (LIndex q v x.0), max (h + 1) (x.1 + 1), y.2))
index_is q v h d ts = index_by q v h (expr_at (d - 1) ts)

-- An expression in parentheses.
round_by : (r : Reading Placed Shape)
    → ((r >>= λ x. expect (λ u. is_right u.lexeme) x.2 >>= λ y. Read (x.0, x.1, y.2)) >>= λ x. Read (opened x.0, x.1 + 1, x.2)) ≡ (r >>= λ x. expect (λ u. is_right u.lexeme) x.2 >>= λ y. Read (opened x.0, x.1 + 1, y.2))
round_by (Read x) = assoc (expect (λ u. is_right u.lexeme) x.2) (λ y. Read (x.0, x.1, y.2)) (λ x. Read (opened x.0, x.1 + 1, x.2))
round_by (Fault left) = refl
round_by (Deep left) = refl

pub round_go : (a b : Apart) (d : ℕ) → 0 < d → 2 ≤ d → b ≡ inside a → (q : Place) (rest ts : List Placed) → ts ≡ mark q P.LeftParen ∷ rest
    → atom_at (within_at a d) d ts ≡ (shape_at (d - 1) b Whole rest >>= λ x. expect (λ u. is_right u.lexeme) x.2 >>= λ y. Read (opened x.0, x.1 + 1, y.2))
round_go a b d pos l e q rest ts first = rw (first, e) (atom_round a d pos (mark q P.LeftParen) rest l refl ∙ round_by (shape_at (d - 1) (inside a) Whole rest))

-- A call, behind its bracket: the arguments have the room that it leaves.
args_room_is : (a : Apart) (d : ℕ) → args_room a d ≡ d - call_count a
args_room_is Never d = sym (minus_is d)
args_room_is Bare d = omega arith
args_room_is Bracketed d = omega arith

pub called_is : (a : Apart) (q : Place) (v : LExpr) (h d own : ℕ) (ts : List Placed) → own ≡ call_count a
    → onto (λ y. called a q v y) (λ j. max (h + call_count a) (j + call_count a)) (args_at (args_room a d)) ts ≡ (args_at (d - own) ts >>= λ x. Read (called a q v x.0, max (h + own) (x.1 + own), x.2))
called_is a q v h d own ts e =
    ap (λ z. args_at z ts >>= λ x. Read (called a q v x.0, max (h + call_count a) (x.1 + call_count a), x.2)) (args_room_is a d ∙ ap (λ o. d - o) (sym e))
    ∙ ap (λ o. args_at (d - own) ts >>= λ x. Read (called a q v x.0, max (h + o) (x.1 + o), x.2)) (sym e)

-- what a shape and a part count is one at most
pub extra_least : (s : Shape) → extra s ≤ 1
extra_least (Calling q v vs) = omega arith
extra_least (Postfixed v) = omega arith
extra_least (Other v) = omega arith

count_least : (a : Apart) → call_count a ≤ 1
count_least Never = omega arith
count_least Bare = omega arith
count_least Bracketed = omega arith

pub part_least : (a : Apart) (b : Behind) → part_count a b ≤ 1
part_least a Args = count_least a
part_least a Index = omega arith
part_least a Field = omega arith
part_least a Through = omega arith
