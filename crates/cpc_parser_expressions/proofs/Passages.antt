-- What one function of the code reads, from its first token to its last: the steps of several readers together.
use Rattle.std.proofs.Common.{◌≡◌, ℕ, ◌+◌, ◌-◌, ◌≤◌, ◌<◌, is_some, true, false, List, [], ◌∷◌, ◌++◌, Some, max, refl, ap, ◌∙◌, arith}
use Rattle.cpc_base.specs.declared.stop.Place.{Place}
use Rattle.cpc_tree.specs.declared.program.UnaryOp.{UnaryOp}
use Rattle.cpc_tree.specs.declared.token.Punctuator.TheVariants as P
use Rattle.cpc_tree.specs.Located.{LExpr, LUnary, LCast, LChoose, LIndex, LExprs}
use Rattle.cpc_tree.specs.Tokens.{Placed}
use Rattle.cpc_tree.specs.TypeGrammar.{mark}
use Rattle.cpc_tree.specs.ExprGrammar.{Rank, Unary, Tier, Whole, top_tier, Operator, operated}
use Rattle.cpc_parser_reading.specs.Reading.{Reading, Read, Deep, ◌>>=◌, expect}
use Rattle.cpc_parser_reading.specs.Chain.{links}
use Rattle.cpc_parser_types.specs.Begins.{begins}
use Rattle.cpc_parser_types.specs.TypeReaders.{is_right, is_unbracket, enclosed_type_at}
use Rattle.cpc_parser_expressions.specs.Shapes.{Apart, Never, Shape, Postfixed, Other, whole, extra}
use Rattle.cpc_parser_expressions.specs.ExprReaders.{Behind, Args, Index, Sign, was_call, count, called, call_count, is_colon, prefix_class, listed, tier_links, postfix_links, rank_expr_at, expr_at, args_at, shape_at, cast_at}
use Rattle.cpc_parser_expressions.specs.PartCount.{part_count}
use Rattle.cpc_parser_expressions.specs.Steps.{first_of, stepped, typed_at, inner_of, args_room, begins_cast}
use Rattle.cpc_parser_expressions.proofs.Steps.{assoc}
use Rattle.cpc_parser_expressions.proofs.Follow.{rank_start, whole_chosen, unary_sign, cast_so, args_row, row_links, row_start, row_next, row_stop}
use Rattle.cpc_parser_expressions.proofs.Stages.{choice_deep, choice_go, applied_go, typed_go, sign_go, args_go, index_go, called_is, index_is}

-- an expression of a rank first, and what is made of it
rank_on : {B : Type 0} (d : ℕ) (r : Rank) (ts : List Placed) (f : LExpr × ℕ × List Placed → Reading Placed B) → (rank_expr_at d r ts >>= f) ≡ (shape_at d Never r ts >>= λ x. f (whole x.0, x.1, x.2))
rank_on d r ts f = ap (λ z. z >>= f) (rank_start d r ts) ∙ assoc (shape_at d Never r ts) (λ x. Read (whole x.0, x.1, x.2)) f

-- The arms of a choice, behind its test.
module _ (a : Apart) (d : ℕ) (ts us : List Placed) (s : Shape) (h : ℕ) (pos : 0 < d) (lo : 0 < h) (hi : h ≤ d) (test : shape_at d a (Tier top_tier) ts ≡ Read (s, h, us)) (q : Place) (rest : List Placed) (first : us ≡ mark q P.Question ∷ rest) where
  pub arms_deep : d - h ≤ extra s → shape_at d a Whole ts ≡ Deep us
  arms_deep l = whole_chosen a d ts us s h pos lo hi test (ap (begins P.Question) first) ∙ choice_deep d s h (mark q P.Question) rest us first l

  pub arms_go : extra s < d - h
      → shape_at d a Whole ts ≡ (expr_at (d - 1) rest >>= λ x. expect (λ u. is_colon u.lexeme) x.2 >>= λ y. expr_at (d - 1) y.2 >>= λ z. Read (Other (LChoose q (whole s) x.0 z.0), max (h + (count (was_call s) + 1)) (max x.1 z.1 + 1), z.2))
  arms_go l = whole_chosen a d ts us s h pos lo hi test (ap (begins P.Question) first) ∙ choice_go d s h (mark q P.Question) rest us first l

-- An operator and its second operand.
pub second_go : (d n : ℕ) (c : ℕ × Operator) (s : Shape) (h : ℕ) (t : Placed) (rest ts : List Placed) → ts ≡ t ∷ rest → extra s < d - h
    → stepped (tier_links (rank_expr_at (d - 1)) d n) (c, was_call s) s h ts ≡ (shape_at (d - 1) Never (Tier (c.0 - 1)) rest >>= λ x. Read (Other (operated t.place c.1 (whole s) (whole x.0)), max (h + (count (was_call s) + 1)) (x.1 + 1), x.2))
second_go d n c s h t rest ts first l =
    applied_go d n c s h t rest ts first l
    ∙ rank_on (d - 1) (Tier (c.0 - 1)) rest (λ x. Read (Other (operated t.place c.1 (whole s) x.0), max (h + (count (was_call s) + 1)) (x.1 + 1), x.2))

-- A cast, behind its bracket.
module _ (a : Apart) (d : ℕ) (pos : 0 < d) (ts : List Placed) (l : 2 ≤ d) (so : begins_cast ts ≡ true) (q : Place) (rest : List Placed) (first : ts ≡ mark q P.LeftParen ∷ rest) where
  pub cast_go : cast_at (inner_of a d) d a ts ≡ (enclosed_type_at (d - 1) rest >>= λ x. rank_expr_at (d - 1) (Tier 0) x.2 >>= λ y. Read (Other (LCast q x.0 y.0), max 0 (max x.1 y.1) + 1, y.2))
  cast_go = cast_so a d pos ts l so ∙ (ap (typed_at (d - 1)) first ∙ typed_go q (d - 1) rest)

-- the operand of a cast
pub cast_operand : (q : Place) (ty : _) (i d : ℕ) (ts : List Placed)
    → (rank_expr_at (d - 1) (Tier 0) ts >>= λ y. Read (Other (LCast q ty y.0), max 0 (max i y.1) + 1, y.2)) ≡ (shape_at (d - 1) Never (Tier 0) ts >>= λ y. Read (Other (LCast q ty (whole y.0)), max 0 (max i y.1) + 1, y.2))
cast_operand q ty i d ts = rank_on (d - 1) (Tier 0) ts (λ y. Read (Other (LCast q ty y.0), max 0 (max i y.1) + 1, y.2))

-- An operator and its operand.
pub operand_go : (a : Apart) (d : ℕ) → 0 < d → (op : UnaryOp) (ts : List Placed) → 2 ≤ d → first_of prefix_class ts ≡ Some (Sign op) → (t : Placed) (rest : List Placed) → ts ≡ t ∷ rest
    → shape_at d a Unary ts ≡ (shape_at (d - 1) Never (Tier 0) rest >>= λ x. Read (Other (LUnary t.place op (whole x.0)), x.1 + 1, x.2))
operand_go a d pos op ts l e t rest first =
    unary_sign a d pos op ts l e ∙ (sign_go op (d - 1) t rest ts first ∙ rank_on (d - 1) (Tier 0) rest (λ x. Read (Other (LUnary t.place op x.0), x.1 + 1, x.2)))

-- Arguments of a call, and the index of an element.
module _ (a : Apart) (d : ℕ) (s : Shape) (h : ℕ) (t : Placed) (rest ts : List Placed) (first : ts ≡ t ∷ rest) (hi : h ≤ d) (c : Behind) (more own : ℕ) (v : LExpr) (more_is : more ≡ extra s) (own_is : own ≡ part_count a c) (v_is : v ≡ whole s) (room : more + own ≤ d - h) where
  call_by : own ≡ call_count a
      → stepped (postfix_links (expr_at (d - 1)) (args_at (args_room a d)) d a) (Args, was_call s) s h ts ≡ (args_at (d - own) rest >>= λ x. Read (called a t.place v x.0, max (h + more + own) (x.1 + own), x.2))
  call_by o =
      rw (v_is, more_is) (args_go a d s h t rest ts first hi (omega (arith, room, more_is, o)) ∙ called_is a t.place (whole s) (h + extra s) d own rest o)

  pub call_go : c ≡ Args
      → stepped (postfix_links (expr_at (d - 1)) (args_at (args_room a d)) d a) (c, was_call s) s h ts ≡ (args_at (d - own) rest >>= λ x. Read (called a t.place v x.0, max (h + more + own) (x.1 + own), x.2))
  call_go e = ap (λ z. stepped (postfix_links (expr_at (d - 1)) (args_at (args_room a d)) d a) (z, was_call s) s h ts) e ∙ call_by (own_is ∙ ap (part_count a) e)

  element_by : own ≡ 1
      → stepped (postfix_links (expr_at (d - 1)) (args_at (args_room a d)) d a) (Index, was_call s) s h ts ≡ (expr_at (d - 1) rest >>= λ x. expect (λ u. is_unbracket u.lexeme) x.2 >>= λ y. Read (Postfixed (LIndex t.place v x.0), max (h + more + 1) (x.1 + 1), y.2))
  element_by o =
      rw (v_is, more_is) (index_go a d s h t rest ts first hi (omega (arith, room, more_is, o)) ∙ index_is t.place (whole s) (h + extra s) d rest)

  pub element_go : c ≡ Index
      → stepped (postfix_links (expr_at (d - 1)) (args_at (args_room a d)) d a) (c, was_call s) s h ts ≡ (expr_at (d - 1) rest >>= λ x. expect (λ u. is_unbracket u.lexeme) x.2 >>= λ y. Read (Postfixed (LIndex t.place v x.0), max (h + more + 1) (x.1 + 1), y.2))
  element_go e = ap (λ z. stepped (postfix_links (expr_at (d - 1)) (args_at (args_room a d)) d a) (z, was_call s) s h ts) e ∙ element_by (own_is ∙ ap (part_count a) e)

-- Arguments: the row, and the bracket behind it.
abbrev pub row_end : List LExpr × ℕ × List Placed → Reading Placed LExprs
row_end x = expect (λ u. is_right u.lexeme) x.2 >>= λ y. Read (listed x.0, x.1, y.2)

pub args_start : (d : ℕ) (ts : List Placed) → 0 < d → is_some (first_of prefix_class ts) ≡ true → args_at d ts ≡ (expr_at d ts >>= λ x. links (row_links d) (x.0 ∷ []) x.1 x.2 >>= row_end)
args_start d ts l e = args_row d ts l e ∙ (ap (λ z. z >>= row_end) (row_start d ts) ∙ assoc (expr_at d ts) (λ x. links (row_links d) (x.0 ∷ []) x.1 x.2) row_end)

pub args_next : (d : ℕ) (vs : List LExpr) (h : ℕ) (q : Place) (rest ts : List Placed) → 0 < h → h ≤ d → ts ≡ mark q P.Comma ∷ rest
    → (links (row_links d) vs h ts >>= row_end) ≡ (expr_at d rest >>= λ z. links (row_links d) (vs ++ z.0 ∷ []) (max h z.1) z.2 >>= row_end)
args_next d vs h q rest ts lo hi first =
    ap (λ z. links (row_links d) vs h z >>= row_end) first
    ∙ (ap (λ z. z >>= row_end) (row_next d vs h (mark q P.Comma) rest lo hi refl) ∙ assoc (expr_at d rest) (λ z. links (row_links d) (vs ++ z.0 ∷ []) (max h z.1) z.2) row_end)

pub args_stop : (d : ℕ) (vs : List LExpr) (h : ℕ) (ts : List Placed) → begins P.Comma ts ≡ false → (links (row_links d) vs h ts >>= row_end) ≡ (expect (λ u. is_right u.lexeme) ts >>= λ y. Read (listed vs, h, y.2))
args_stop d vs h ts e = ap (λ z. z >>= row_end) (row_stop d vs h ts e)
