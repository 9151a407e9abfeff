-- How the code follows the readers of single parts of expressions.
use Rattle.std.proofs.Common.{◌≡◌, ℕ, zero, suc, ◌+◌, ◌-◌, ◌≤◌, ◌<◌, ◌&&◌, Bool, true, false, is_some, List, [], ◌∷◌, ◌++◌, Some, None, max, map, refl, sym, ap, ◌∙◌, arith, nat_lt, cond}
use Rattle.cpc_base.proofs.Truth.{lt_fails, lt_holds}
use Rattle.cpc_tree.specs.declared.program.UnaryOp.{UnaryOp}
use Rattle.cpc_tree.specs.declared.program.Expr.{Expr}
use Rattle.cpc_tree.specs.declared.token.Punctuator.TheVariants as P
use Rattle.cpc_tree.specs.Erase.{Names}
use Rattle.cpc_tree.specs.Locate.{located_expr, located_exprs}
use Rattle.cpc_tree.specs.Located.{LExpr, LChoose, NoLExpr, AndLExpr}
use Rattle.cpc_tree.specs.Tokens.{Lexeme, Word, Mark, Placed}
use Rattle.cpc_tree.specs.ExprGrammar.{Rank, Postfix, Unary, Tier, Whole, top_tier}
use Rattle.cpc_parser_reading.specs.Reading.{Reading, Read, Fault, Deep, ◌>>=◌, before, after, pair, expect}
use Rattle.cpc_parser_reading.specs.Chain.{Linking, links}
use Rattle.cpc_parser_reading.specs.Lists.{if_so, several, separated}
use Rattle.cpc_parser_reading.specs.Exact.{Stops}
use Rattle.cpc_parser_reading.proofs.Readers.{links_end, links_stop, separated_on}
use Rattle.cpc_parser_types.specs.Views.{lexeme}
use Rattle.cpc_parser_types.specs.Begins.{is_mark, begins}
use Rattle.cpc_parser_types.specs.TypeReaders.{is_left, is_right, is_comma, starts_base}
use Rattle.cpc_parser_expressions.specs.Shapes.{Apart, Never, Shape, Other, whole}
use Rattle.cpc_parser_expressions.specs.ExprReaders.{inside, was_call, count, opened, atom_class, Round, atom_at, Sign, Size, Plain, prefix_class, is_ask, is_colon, choice_links, listed, listed_if, cast_at, plain_at, rank_expr_at, expr_at, args_at, shape_at, ShapeEnd}
use Rattle.cpc_parser_expressions.specs.Steps.{first_of, stepped, size_at, sign_at, typed_at, inner_of, within_at, literal_at, begins_cast, second_base}
use Rattle.cpc_parser_expressions.proofs.ExprExact.{shape_is, divider, comma_ends, expr_exact, expr_ends}
use Rattle.cpc_parser_expressions.proofs.Steps.{minus_is, assoc, whole_start, choice_next, choice_stop}

-- a rank's expressions, where no call is taken apart
plain_shape : (d : ℕ) (r : Rank) (ts : List Placed) → plain_at d r ts ≡ shape_at d Never r ts
unfolding plain_at shape_at
plain_shape zero r ts = refl
plain_shape (suc d) r ts = refl

pub rank_start : (d : ℕ) (r : Rank) (ts : List Placed) → rank_expr_at d r ts ≡ (shape_at d Never r ts >>= λ x. Read (whole x.0, x.1, x.2))
rank_start d r ts = ap (λ z. z >>= λ x. Read (whole x.0, x.1, x.2)) (plain_shape d r ts)

-- How a unary expression begins.
module _ (a : Apart) (d : ℕ) (pos : 0 < d) where
  pub unary_none : (ts : List Placed) → first_of prefix_class ts ≡ None → shape_at d a Unary ts ≡ Fault ts
  unary_none [] e = sym (shape_is d a Unary [] (omega (arith, pos)))
  unary_none (t ∷ rest) e = sym (shape_is d a Unary (t ∷ rest) (omega (arith, pos))) ∙ rw e refl

  pub unary_plain : (ts : List Placed) → first_of prefix_class ts ≡ Some Plain → shape_at d a Unary ts ≡ shape_at d a Postfix ts
  unary_plain [] e = absurd cc
  unary_plain (t ∷ rest) e = sym (shape_is d a Unary (t ∷ rest) (omega (arith, pos))) ∙ (rw (e, lt_fails d 1 (omega (arith, pos))) refl ∙ shape_is d a Postfix (t ∷ rest) (omega (arith, pos)))

  pub unary_size : (ts : List Placed) → first_of prefix_class ts ≡ Some Size → shape_at d a Unary ts ≡ size_at (d - 1) ts
  unary_size [] e = absurd cc
  unary_size (t ∷ rest) e = sym (shape_is d a Unary (t ∷ rest) (omega (arith, pos))) ∙ rw (e, lt_fails d 1 (omega (arith, pos)), minus_is d) refl

  pub unary_deep : (op : UnaryOp) (ts : List Placed) → d < 2 → first_of prefix_class ts ≡ Some (Sign op) → shape_at d a Unary ts ≡ Deep ts
  unary_deep op [] l e = absurd cc
  unary_deep op (t ∷ rest) l e = sym (shape_is d a Unary (t ∷ rest) (omega (arith, pos))) ∙ rw (e, lt_holds d 2 l) refl

  pub unary_sign : (op : UnaryOp) (ts : List Placed) → 2 ≤ d → first_of prefix_class ts ≡ Some (Sign op) → shape_at d a Unary ts ≡ sign_at op (d - 1) ts
  unary_sign op [] l e = absurd cc
  unary_sign op (t ∷ rest) l e = sym (shape_is d a Unary (t ∷ rest) (omega (arith, pos))) ∙ rw (e, lt_fails d 2 l, minus_is d) refl

  -- A name or a literal, or parentheses.
  lit_by : (t : Placed) (rest : List Placed) (k : Lexeme) → t.lexeme ≡ k → is_left k ≡ false → atom_at (within_at a d) d (t ∷ rest) ≡ literal_at (t ∷ rest)
  lit_by t rest (Mark P.LeftParen) i e = absurd cc
  lit_by t rest (Mark p) i e = rw i refl
  lit_by t rest (Word k) i e = rw i refl
  lit_by t rest k i e = rw (i, lt_fails d 1 (omega (arith, pos))) refl

  pub atom_lit : (ts : List Placed) → begins P.LeftParen ts ≡ false → atom_at (within_at a d) d ts ≡ literal_at ts
  atom_lit [] e = refl
  atom_lit (t ∷ rest) e = lit_by t rest t.lexeme refl e

  left_classes : (k : Lexeme) → is_left k ≡ true → (atom_class k ≡ Some Round) × (prefix_class k ≡ Some Plain)
  left_classes (Mark P.LeftParen) e = (refl, refl)
  left_classes k e = absurd cc

  pub atom_deep : (ts : List Placed) → d < 2 → begins P.LeftParen ts ≡ true → atom_at (within_at a d) d ts ≡ Deep ts
  atom_deep [] l e = absurd cc
  atom_deep (t ∷ rest) l e = rw ((left_classes t.lexeme e).0, lt_holds d 2 l) refl

  pub atom_round : (t : Placed) (rest : List Placed) → 2 ≤ d → begins P.LeftParen (t ∷ rest) ≡ true
      → atom_at (within_at a d) d (t ∷ rest) ≡ ((shape_at (d - 1) (inside a) Whole rest >>= λ x. expect (λ u. is_right u.lexeme) x.2 >>= λ y. Read (x.0, x.1, y.2)) >>= λ x. Read (opened x.0, x.1 + 1, x.2))
  atom_round t rest l e = rw ((left_classes t.lexeme e).0, lt_fails d 2 l, minus_is d) refl

  -- A cast, or a unary expression.
  paren_deep : (t : Placed) (rest : List Placed) → d < 2 → is_left t.lexeme ≡ true → shape_at d a Unary (t ∷ rest) ≡ Deep (t ∷ rest)
  paren_deep t rest l e =
      let k = left_classes t.lexeme e in
      sym (shape_is d a Unary (t ∷ rest) (omega (arith, pos))) ∙ rw (k.1, lt_fails d 1 (omega (arith, pos)), k.0, lt_holds d 2 l) refl

  not_left : (t : Placed) (rest : List Placed) → is_left t.lexeme ≡ false → cast_at (inner_of a d) d a (t ∷ rest) ≡ shape_at d a Unary (t ∷ rest)
  not_left t rest e = rw e (shape_is d a Unary (t ∷ rest) (omega (arith, pos)))

  not_typed : (t : Placed) (rest : List Placed) → is_left t.lexeme ≡ true → second_base rest ≡ false → (b : Bool) → nat_lt d 2 ≡ b → cast_at (inner_of a d) d a (t ∷ rest) ≡ shape_at d a Unary (t ∷ rest)
  not_typed t rest e f true i = let l : d < 2 = grind arith in rw (e, i) (sym (paren_deep t rest l e))
  not_typed t [] e f false i = rw (e, i) (shape_is d a Unary (t ∷ []) (omega (arith, pos)))
  not_typed t (u ∷ rest) e f false i = rw (e, i, f) (shape_is d a Unary (t ∷ u ∷ rest) (omega (arith, pos)))

  not_by : (t : Placed) (rest : List Placed) (b : Bool) → is_left t.lexeme ≡ b → b && second_base rest ≡ false → cast_at (inner_of a d) d a (t ∷ rest) ≡ shape_at d a Unary (t ∷ rest)
  not_by t rest true e f = not_typed t rest e f (nat_lt d 2) refl
  not_by t rest false e f = not_left t rest e

  pub cast_not : (ts : List Placed) → begins_cast ts ≡ false → cast_at (inner_of a d) d a ts ≡ shape_at d a Unary ts
  cast_not [] e = shape_is d a Unary [] (omega (arith, pos))
  cast_not (t ∷ rest) e = not_by t rest (is_left t.lexeme) refl e

  both_true : (b c : Bool) → b && c ≡ true → (b ≡ true) × (c ≡ true)
  both_true true c e = (refl, e)
  both_true false c e = absurd cc

  pub cast_deep : (ts : List Placed) → d < 2 → begins_cast ts ≡ true → cast_at (inner_of a d) d a ts ≡ Deep ts
  cast_deep [] l e = absurd cc
  cast_deep (t ∷ rest) l e = let k = both_true (is_left t.lexeme) (second_base rest) e in rw (k.0, lt_holds d 2 l) refl

  pub cast_so : (ts : List Placed) → 2 ≤ d → begins_cast ts ≡ true → cast_at (inner_of a d) d a ts ≡ typed_at (d - 1) ts
  cast_so [] l e = absurd cc
  cast_so (t ∷ []) l e = let k = both_true (is_left t.lexeme) false e in absurd cc
  cast_so (t ∷ (u ∷ rest)) l e = let k = both_true (is_left t.lexeme) (starts_base u.lexeme) e in rw (k.0, lt_fails d 2 l, k.1, minus_is d) refl

row_by : (r : Reading Placed (List LExpr)) → (((r >>= λ x. Read (Some x.0, x.1, x.2)) >>= λ x. expect (λ u. is_right u.lexeme) x.2 >>= λ y. Read (x.0, x.1, y.2)) >>= λ x. Read (listed_if x.0, x.1, x.2)) ≡ (r >>= λ x. expect (λ u. is_right u.lexeme) x.2 >>= λ y. Read (listed x.0, x.1, y.2))
row_by (Read x) = assoc (expect (λ u. is_right u.lexeme) x.2) (λ y. Read (Some x.0, x.1, y.2)) (λ x. Read (listed_if x.0, x.1, x.2))
row_by (Fault left) = refl
row_by (Deep left) = refl

-- Arguments, which may be absent.
pub args_none : (d : ℕ) (ts : List Placed) → is_some (first_of prefix_class ts) ≡ false → args_at d ts ≡ (expect (λ u. is_right u.lexeme) ts >>= λ y. Read (NoLExpr, 0, y.2))
args_none d [] e = refl
args_none d (t ∷ rest) e = rw e (assoc (expect (λ u. is_right u.lexeme) (t ∷ rest)) (λ y. Read (None, 0, y.2)) (λ x. Read (listed_if x.0, x.1, x.2)))

pub args_deep : (d : ℕ) (ts : List Placed) → d < 1 → is_some (first_of prefix_class ts) ≡ true → args_at d ts ≡ Deep ts
args_deep d [] l e = absurd cc
args_deep d (t ∷ rest) l e = rw (e, lt_holds d 1 l) refl

pub args_row : (d : ℕ) (ts : List Placed) → 0 < d → is_some (first_of prefix_class ts) ≡ true
    → args_at d ts ≡ (separated (λ t. is_comma t.lexeme) (expr_at d) ts >>= λ x. expect (λ u. is_right u.lexeme) x.2 >>= λ y. Read (listed x.0, x.1, y.2))
args_row d [] l e = absurd cc
args_row d (t ∷ rest) l e = rw (e, lt_fails d 1 (omega (arith, l))) (row_by (separated (λ t. is_comma t.lexeme) (expr_at d) (t ∷ rest)))

pub listed_is : (names : Names) (es : List Expr) → listed (map (located_expr names) es) ≡ located_exprs names es
listed_is names [] = refl
listed_is names (e ∷ es) = ap (λ z. AndLExpr (located_expr names e) z) (listed_is names es)

no_ask : (ts : List Placed) → Stops lexeme (ShapeEnd Whole) ts → first_of (λ k. if_so (is_ask k)) ts ≡ None
no_ask [] s = refl
no_ask (t ∷ rest) s = rw s.2 refl

-- no question mark stands behind what was read
abbrev Ends : {A : Type 0} → Reading Placed A → Type 0
Ends (Read x) = first_of (λ k. if_so (is_ask k)) x.2 ≡ None
Ends (Fault left) = Unit {0}
Ends (Deep left) = Unit {0}

ends_map : {A B : Type 0} (r : Reading Placed A) (m : A × ℕ × List Placed → B) (n : A × ℕ × List Placed → ℕ) → Ends r → Ends (r >>= λ x. Read (m x, n x, x.2))
ends_map (Read x) m n e = e
ends_map (Fault left) m n e = tt
ends_map (Deep left) m n e = tt

ends_on : {A B : Type 0} (r : Reading Placed A) (f : A × ℕ × List Placed → Reading Placed B) → ((x : A × ℕ × List Placed) → Ends (f x)) → Ends (r >>= f)
ends_on (Read x) f e = e x
ends_on (Fault left) f e = tt
ends_on (Deep left) f e = tt

expr_by : (d : ℕ) (ts : List Placed) (r : Reading Placed LExpr) → 1 ≤ d → expr_at d ts ≡ r → Ends r
expr_by d ts (Read x) l e = no_ask x.2 (expr_ends d ts x.0 x.1 x.2 l e)
expr_by d ts (Fault left) l e = tt
expr_by d ts (Deep left) l e = tt

ends_by : (d : ℕ) (c : Unit {0} × Bool) (s : Shape) (h : ℕ) (t : Placed) (rest : List Placed) → 0 < h → (b : Bool) → nat_lt d (h + (count c.1 + 1)) ≡ b
    → Ends (cond b (Deep (t ∷ rest)) ((choice_links (expr_at (d - 1)) d).part c (t ∷ rest) >>= λ x. Read (Other (LChoose x.0.0 (whole s) x.0.1.0 x.0.1.1), max (h + (count c.1 + 1)) (x.1 + 1), x.2)))
ends_by d c s h t rest lo true i = tt
ends_by d c s h t rest lo false i =
    let room : h + (count c.1 + 1) ≤ d = grind arith in
    let l : 1 ≤ d - 1 = omega (arith, room, lo) in
    let p = ends_on (before (expr_at (d - 1)) (λ u. is_colon u.lexeme) rest) (λ x. expr_at (d - 1) x.2 >>= λ y. Read ((x.0, y.0), max x.1 y.1, y.2))
    (λ x. ends_map (expr_at (d - 1) x.2) (λ y. (x.0, y.0)) (λ y. max x.1 y.1) (expr_by (d - 1) x.2 (expr_at (d - 1) x.2) l refl)) in
    let q = ends_map (pair (before (expr_at (d - 1)) (λ u. is_colon u.lexeme)) (expr_at (d - 1)) rest) (λ x. (t.place, x.0)) (λ x. x.1) p in
    ends_map ((choice_links (expr_at (d - 1)) d).part c (t ∷ rest)) (λ x. Other (LChoose x.0.0 (whole s) x.0.1.0 x.0.1.1)) (λ x. max (h + (count c.1 + 1)) (x.1 + 1)) q

-- no further arms stand behind a choice
choice_ends : (d : ℕ) (c : Unit {0} × Bool) (s : Shape) (h : ℕ) (ts : List Placed) → 0 < h → Ends (stepped (choice_links (expr_at (d - 1)) d) c s h ts)
choice_ends d c s h [] lo = tt
choice_ends d c s h (t ∷ rest) lo = ends_by d c s h t rest lo (nat_lt d (h + (count c.1 + 1))) refl

ask_is : (k : Lexeme) → is_mark P.Question k ≡ false → is_ask k ≡ false
ask_is (Mark P.Question) e = absurd cc
ask_is k e = refl

ask_so : (k : Lexeme) → is_mark P.Question k ≡ true → is_ask k ≡ true
ask_so (Mark P.Question) e = refl
ask_so k e = absurd cc

-- A whole expression without arms, and with them.
ask_none : (ts : List Placed) → begins P.Question ts ≡ false → first_of (λ k. if_so (is_ask k)) ts ≡ None
ask_none [] e = refl
ask_none (t ∷ rest) e = let i : is_ask t.lexeme ≡ false = ask_is t.lexeme e in rw i refl

ask_some : (ts : List Placed) → begins P.Question ts ≡ true → first_of (λ k. if_so (is_ask k)) ts ≡ Some tt
ask_some [] e = absurd cc
ask_some (t ∷ rest) e = let i : is_ask t.lexeme ≡ true = ask_so t.lexeme e in rw i refl

pub whole_plain : (a : Apart) (d : ℕ) (ts us : List Placed) (s : Shape) (h : ℕ) → 0 < d → shape_at d a (Tier top_tier) ts ≡ Read (s, h, us) → begins P.Question us ≡ false → shape_at d a Whole ts ≡ Read (s, h, us)
whole_plain a d ts us s h l e i = whole_start a d ts l ∙ (rw e (choice_stop d s h us (ask_none us i)))

stepped_done : (d : ℕ) (r : Reading Placed Shape) → Ends r → (r >>= λ z. links (choice_links (expr_at (d - 1)) d) z.0 z.1 z.2) ≡ r
stepped_done d (Read z) e = choice_stop d z.0 z.1 z.2 e
stepped_done d (Fault left) e = refl
stepped_done d (Deep left) e = refl

pub whole_chosen : (a : Apart) (d : ℕ) (ts us : List Placed) (s : Shape) (h : ℕ) → 0 < d → 0 < h → h ≤ d → shape_at d a (Tier top_tier) ts ≡ Read (s, h, us) → begins P.Question us ≡ true
    → shape_at d a Whole ts ≡ stepped (choice_links (expr_at (d - 1)) d) (tt, was_call s) s h us
whole_chosen a d ts us s h l lo hi e i = whole_start a d ts l ∙ (rw e (choice_next a d s h us lo hi (ask_some us i) ∙ stepped_done d (stepped (choice_links (expr_at (d - 1)) d) (tt, was_call s) s h us) (choice_ends d (tt, was_call s) s h us lo)))

-- A row of arguments.
abbrev pub row_links : ℕ → Linking Placed (Unit {0}) (List LExpr) LExpr
row_links d = several (λ t. is_comma t.lexeme) false (after (λ t. is_comma t.lexeme) (expr_at d))

pub row_start : (d : ℕ) (ts : List Placed) → separated (λ t. is_comma t.lexeme) (expr_at d) ts ≡ (expr_at d ts >>= λ x. links (row_links d) (x.0 ∷ []) x.1 x.2)
row_start d ts = assoc (expr_at d ts) (λ x. Read (x.0 ∷ [], x.1, x.2)) (λ x. links (row_links d) x.0 x.1 x.2)

comma_so : (k : Lexeme) → is_mark P.Comma k ≡ true → is_comma k ≡ true
comma_so (Mark P.Comma) e = refl
comma_so k e = absurd cc

comma_no : (k : Lexeme) → is_mark P.Comma k ≡ false → is_comma k ≡ false
comma_no (Mark P.Comma) e = absurd cc
comma_no k e = refl

pub row_next : (d : ℕ) (vs : List LExpr) (h : ℕ) (t : Placed) (rest : List Placed) → 0 < h → h ≤ d → begins P.Comma (t ∷ rest) ≡ true
    → links (row_links d) vs h (t ∷ rest) ≡ (expr_at d rest >>= λ z. links (row_links d) (vs ++ z.0 ∷ []) (max h z.1) z.2)
row_next d vs h t rest lo hi e = separated_on divider (expr_exact d) (λ v k i. comma_ends k i) d (omega arith) vs h t rest (omega (arith, lo)) hi (comma_so t.lexeme e)

pub row_stop : (d : ℕ) (vs : List LExpr) (h : ℕ) (ts : List Placed) → begins P.Comma ts ≡ false → links (row_links d) vs h ts ≡ Read (vs, h, ts)
row_stop d vs h [] e = links_end (row_links d) vs h
row_stop d vs h (t ∷ rest) e = links_stop (row_links d) vs h t rest (rw (comma_no t.lexeme e) refl)
