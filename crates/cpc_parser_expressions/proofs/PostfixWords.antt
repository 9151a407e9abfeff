-- Postfix expressions in the readers' words, and back.
use Rattle.std.proofs.Common.{◌≡◌, ℕ, ◌+◌, Bool, false, List, [], ◌∷◌, ◌++◌, Option, Some, None, max, refl, sym, ap, subst, ◌∙◌, arith, inl, inr}
use Rattle.cpc_base.specs.declared.stop.Place.{Place}
use Rattle.cpc_tree.specs.declared.token.Punctuator.TheVariants as P
use Rattle.cpc_tree.specs.Tokens.{Lexeme, Mark, Named, Number, Character, Quoted, Placed}
use Rattle.cpc_tree.specs.Located.{Ident, LExpr, LIndex, LMember, LArrow, LCall, LExprs, AndLExpr, bare_expr}
use Rattle.cpc_tree.specs.TypeGrammar.{mark, named}
use Rattle.cpc_tree.specs.ExprGrammar.{Rank, Primary, Postfix, Whole, Reads, ReadsArgs, no_args, last_arg, more_args}
use Rattle.cpc_tree.specs.ExprGrammar as X
use Rattle.cpc_tree.specs.StmtGrammar.{is_call}
use Rattle.cpc_parser_reading.specs.Phrase.{Nothing, One, Before, Headed, Mapped, Made, OneOf, Optional}
use Rattle.cpc_parser_reading.specs.Chain.{Chained, first, further}
use Rattle.cpc_parser_reading.specs.Lists.{Separated, alone, and_more}
use Rattle.cpc_parser_reading.proofs.Levels.{Always}
use Rattle.cpc_parser_types.specs.Views.{lexeme}
use Rattle.cpc_parser_types.specs.TypeReaders.{is_right, is_unbracket, is_comma, ident_in, ident_of}
use Rattle.cpc_parser_types.proofs.BaseWords.{at, named_in}
use Rattle.cpc_parser_types.proofs.ParamWords.{unbracket_lexeme}
use Rattle.cpc_parser_types.proofs.Params.{right_mark, comma_mark}
use Rattle.cpc_parser_expressions.specs.Shapes.{Apart, Never, Bare, Bracketed, Shape, Calling, Postfixed, Other, whole, extra, ReadsCalling, calling, ReadsEnclosed, open_call, in_parens, Kept, Taken, ReadsShape}
use Rattle.cpc_parser_expressions.specs.ExprReaders.{inside, was_call, count, flagged, Atom, Literal, Round, atom_class, literal_in, literal, opened, Behind, Args, Index, Field, Through, postfix_class, Part, args_part, index_part, field_part, through_part, called, postfix_make, call_count, postfix_left, postfix_right, listed, listed_if}
use Rattle.cpc_parser_expressions.proofs.Sorts.{from_postfix, other_reads, other_no_call, no_other, shape_reads, keep, keep_postfix, sort, never_to}

-- the productions of primary expressions
abbrev pub Atoms : Apart → Atom → List Placed → Shape → ℕ → Type 0
Atoms a Literal = Headed lexeme (λ k. atom_class k ≡ Some Literal) (λ t. Made (literal t) Nothing)
Atoms a Round = Headed lexeme (λ k. atom_class k ≡ Some Round) (λ t. Made opened (Before (ReadsShape (inside a) Whole) (λ u. is_right u.lexeme)))

literal_reads : (q : Place) (k : Lexeme) → atom_class k ≡ Some Literal → Reads Primary (at q k ∷ []) (literal_in q k) 1 × (is_call (bare_expr (literal_in q k)) ≡ false)
literal_reads q (Named x) e = (X.a_name (record { place = q; text = x }), refl)
literal_reads q (Number kind z) e = (X.an_integer q kind z, refl)
literal_reads q (Character z) e = (X.a_character q z, refl)
literal_reads q (Quoted b) e = (X.a_text q b, refl)
literal_reads q (Mark P.LeftParen) e = absurd cc
literal_reads q k e = absurd cc

round_is : (k : Lexeme) → atom_class k ≡ Some Round → k ≡ Mark P.LeftParen
round_is (Mark P.LeftParen) e = refl
round_is k e = absurd cc

-- parentheses round what has been read
round_of : (a : Apart) (g : List Placed) (o p : Place) (w : Shape) (i : ℕ) → ReadsShape (inside a) Whole g w i → ReadsShape a Postfix (mark o P.LeftParen ∷ (g ++ mark p P.RightParen ∷ [])) (opened w) (i + 1)
round_of Never g o p (Calling q v vs) i c = absurd c
round_of Never g o p (Postfixed v) i c = X.a_primary _ _ _ (X.parens g o p v i (from_postfix Whole g v i tt c))
round_of Never g o p (Other v) i c = X.a_primary _ _ _ (X.parens g o p v i (other_reads Whole g v i c))
round_of Bare g o p (Calling q v vs) i c = absurd c
round_of Bare g o p (Postfixed v) i c = inl (X.parens g o p v i (from_postfix Whole g v i tt c))
round_of Bare g o p (Other v) i c = inl (X.parens g o p v i (other_reads Whole g v i c))
round_of Bracketed g o p (Calling q v vs) i c = in_parens g o q p v vs i c
round_of Bracketed g o p (Postfixed v) i c = (X.a_primary _ _ _ (X.parens g o p v i (from_postfix Whole g v i tt c.0)), c.1)
round_of Bracketed g o p (Other v) i c = (X.a_primary _ _ _ (X.parens g o p v i (other_reads Whole g v i c)), other_no_call Whole g v i c)

round_by : (a : Apart) (g : List Placed) (o p : Place) (k l : Lexeme) (w : Shape) (i : ℕ) → k ≡ Mark P.LeftParen → l ≡ Mark P.RightParen → ReadsShape (inside a) Whole g w i
    → ReadsShape a Postfix (at o k ∷ (g ++ at p l ∷ [])) (opened w) (i + 1)
round_by a g o p k l w i e e' c = rw (e, e') (round_of a g o p w i c)

pub of_atom : (a : Apart) (f : List Placed) (s : Shape) (h : ℕ) → OneOf (Atoms a) f s h → ReadsShape a Postfix f s h
of_atom a f s h (Literal, (t, g, e, p, (u, i, v', n, (z, w)))) =
    let b = literal_reads t.place t.lexeme p in
    rw (e, z, v', n, w) (keep a (t ∷ []) (literal_in t.place t.lexeme) 1 b.0 b.1)
of_atom a f s h (Round, (t, g, e, p, (w, i, v', n, (g', u, e', c, r)))) =
    rw (e, e', v', n) (round_by a g' t.place u.place t.lexeme u.lexeme w i (round_is t.lexeme p) (right_mark u.lexeme c) r)

-- parentheses in the readers' words
to_round : (a : Apart) (g : List Placed) (o p : Place) (w : Shape) (i : ℕ) → ReadsShape (inside a) Whole g w i → OneOf (Atoms a) (mark o P.LeftParen ∷ (g ++ mark p P.RightParen ∷ [])) (opened w) (i + 1)
to_round a g o p w i c = (Round, (mark o P.LeftParen, g ++ mark p P.RightParen ∷ [], refl, refl, (w, i, refl, refl, (g, mark p P.RightParen, refl, refl, c))))

pub to_literal : (a : Apart) (q : Place) (k : Lexeme) → atom_class k ≡ Some Literal → OneOf (Atoms a) (at q k ∷ []) (Postfixed (literal_in q k)) 1
to_literal a q k e = (Literal, (at q k, [], refl, e, (tt, 0, refl, refl, (refl, refl))))

opened_never : (g : List Placed) (s : Shape) (i : ℕ) → ReadsShape Never Whole g s i → opened s ≡ Postfixed (whole s)
opened_never g (Calling q v vs) i c = absurd c
opened_never g (Postfixed v) i c = refl
opened_never g (Other v) i c = refl

plain_round : (a : Apart) (g : List Placed) (o p : Place) (v : LExpr) (i : ℕ) → inside a ≡ Never → Reads Whole g v i → OneOf (Atoms a) (mark o P.LeftParen ∷ (g ++ mark p P.RightParen ∷ [])) (Postfixed v) (i + 1)
plain_round a g o p v i e c =
    let m = never_to Whole g v i c in
    let k : opened m.0 ≡ Postfixed v = opened_never g m.0 i m.2 ∙ ap (λ z. Postfixed z) (sym m.1) in
    subst (λ z. OneOf (Atoms a) (mark o P.LeftParen ∷ (g ++ mark p P.RightParen ∷ [])) z (i + 1)) k (to_round a g o p m.0 i (subst (λ b. ReadsShape b Whole g m.0 i) (sym e) m.2))

-- a primary expression where no call in parentheses is taken apart
to_plain : (a : Apart) (f : List Placed) (v : LExpr) (h : ℕ) → inside a ≡ Never → Reads Primary f v h → OneOf (Atoms a) f (Postfixed v) h
to_plain a f v h e (X.a_name x) = to_literal a x.place (Named x.text) refl
to_plain a f v h e (X.an_integer q k z) = to_literal a q (Number k z) refl
to_plain a f v h e (X.a_character q z) = to_literal a q (Character z) refl
to_plain a f v h e (X.a_text q b) = to_literal a q (Quoted b) refl
to_plain a f v h e (X.parens g q s w i c) = plain_round a g q s w i e c

-- Arguments, as a row that can be absent, and the mark behind them.
abbrev pub Row : List Placed → List LExpr → ℕ → Type 0
Row = Separated (λ t. is_comma t.lexeme) (Reads Whole)

abbrev pub Closed : List Placed → LExprs → ℕ → Type 0
Closed = Mapped listed_if (Before (Optional Row) (λ t. is_right t.lexeme))

-- arguments and the closing mark
abbrev pub Arguments : List Placed → LExprs → ℕ → Type 0
Arguments f vs h = (g : List Placed) × (r : Place) × (f ≡ g ++ mark r P.RightParen ∷ []) × ReadsArgs g vs h

more_by : (g k : List Placed) (q : Place) (l : Lexeme) (v w : LExpr) (vs : LExprs) (i j : ℕ) → l ≡ Mark P.Comma → Reads Whole g v i → ReadsArgs k (AndLExpr w vs) j → ReadsArgs (g ++ at q l ∷ k) (AndLExpr v (AndLExpr w vs)) (max i j)
more_by g k q l v w vs i j e r m = rw e (more_args g k q v w vs i j r m)

of_row : (f : List Placed) (ws : List LExpr) (h : ℕ) → Row f ws h → (w : LExpr) × (xs : List LExpr) × (ws ≡ w ∷ xs) × ReadsArgs f (AndLExpr w (listed xs)) h
of_row f ws h (alone _ v _ r) = (v, [], refl, last_arg f v h r)
of_row f ws h (and_more g k t v us i j r e m) =
    let b = of_row k us j m in
    (v, us, refl, rw b.2 (more_by g k t.place t.lexeme v b.0 (listed b.1) i j (comma_mark t.lexeme e) r b.3))

to_row : (f : List Placed) (v : LExpr) (vs : LExprs) (h : ℕ) → ReadsArgs f (AndLExpr v vs) h → (ws : List LExpr) × (AndLExpr v vs ≡ listed ws) × Row f ws h
to_row f v vs h (last_arg _ _ _ r) = (v ∷ [], refl, alone f v h r)
to_row f v vs h (more_args g k q _ w us i j r m) = let b = to_row k w us j m in (v ∷ b.0, ap (λ z. AndLExpr v z) b.1, and_more g k (mark q P.Comma) v b.0 i j r refl b.2)

of_optional : (g : List Placed) (vs : LExprs) (o : Option (List LExpr)) (h : ℕ) → vs ≡ listed_if o → Optional Row g o h → ReadsArgs g vs h
of_optional g vs None h e r = rw (e, r.0, r.1) no_args
of_optional g vs (Some ws) h e r = let b = of_row g ws h r in rw (e, b.2) b.3

closed_by : (g : List Placed) (q : Place) (l : Lexeme) (vs : LExprs) (h : ℕ) → l ≡ Mark P.RightParen → ReadsArgs g vs h → Arguments (g ++ at q l ∷ []) vs h
closed_by g q l vs h e r = rw e (g, q, refl, r)

pub of_closed : (f : List Placed) (vs : LExprs) (h : ℕ) → Closed f vs h → Arguments f vs h
of_closed f vs h (o, e, (g, u, e', c, r)) = rw e' (closed_by g u.place u.lexeme vs h (right_mark u.lexeme c) (of_optional g vs o h e r))

to_optional : (g : List Placed) (vs : LExprs) (h : ℕ) → ReadsArgs g vs h → (o : Option (List LExpr)) × (vs ≡ listed_if o) × Optional Row g o h
to_optional g vs h no_args = (None, refl, (refl, refl))
to_optional g vs h (last_arg _ v _ r) = (Some (v ∷ []), refl, alone g v h r)
to_optional g vs h (more_args a k q v w us i j r m) = let b = to_row g v (AndLExpr w us) h (more_args a k q v w us i j r m) in (Some b.0, b.1, b.2)

pub to_closed : (f : List Placed) (vs : LExprs) (h : ℕ) → Arguments f vs h → Closed f vs h
to_closed f vs h (g, q, e, r) = let b = to_optional g vs h r in (b.0, b.1, (g, mark q P.RightParen, e, refl, b.2))

-- a part behind an expression
abbrev pub Parts : Behind → List Placed → Part → ℕ → Type 0
Parts Args = Headed lexeme (λ k. postfix_class k ≡ Some Args) (λ t. Mapped (args_part t.place) Arguments)
Parts Index = Headed lexeme (λ k. postfix_class k ≡ Some Index) (λ t. Mapped (index_part t.place) (Before (Reads Whole) (λ u. is_unbracket u.lexeme)))
Parts Field = Headed lexeme (λ k. postfix_class k ≡ Some Field) (λ t. Mapped (field_part t.place) (One ident_of))
Parts Through = Headed lexeme (λ k. postfix_class k ≡ Some Through) (λ t. Mapped (through_part t.place) (One ident_of))

-- a postfix expression and the parts behind it
abbrev pub Trail : Apart → List Placed → Shape → ℕ → Type 0
Trail a = Chained lexeme (λ s k. flagged (was_call s) (postfix_class k)) Always (λ c s w. postfix_make a s w) (λ c h j. max (h + postfix_left a c) (j + postfix_right a c)) (OneOf (Atoms a)) (λ c. Parts c.0)

args_is : (k : Lexeme) → postfix_class k ≡ Some Args → k ≡ Mark P.LeftParen
args_is (Mark P.LeftParen) e = refl
args_is (Mark P.LeftBracket) e = absurd cc
args_is (Mark P.Dot) e = absurd cc
args_is (Mark P.Arrow) e = absurd cc
args_is k e = absurd cc

index_is : (k : Lexeme) → postfix_class k ≡ Some Index → k ≡ Mark P.LeftBracket
index_is (Mark P.LeftBracket) e = refl
index_is k e = absurd cc

field_is : (k : Lexeme) → postfix_class k ≡ Some Field → k ≡ Mark P.Dot
field_is (Mark P.Dot) e = refl
field_is k e = absurd cc

through_is : (k : Lexeme) → postfix_class k ≡ Some Through → k ≡ Mark P.Arrow
through_is (Mark P.Arrow) e = refl
through_is k e = absurd cc

-- the class without its flag
pub flag_is : {C : Type 0} (b : Bool) (o : Option C) (c : C × Bool) → flagged b o ≡ Some c → (o ≡ Some c.0) × (c.1 ≡ b)
flag_is b None c e = absurd cc
flag_is b (Some x) c e = let k : (x, b) ≡ c = cc in (ap (λ z. Some z.0) k, ap (λ z. z.1) (sym k))

pub flag_none : {C : Type 0} (b : Bool) (o : Option C) → flagged b o ≡ None → o ≡ None
flag_none b None e = refl
flag_none b (Some x) e = absurd cc

pub none_flag : {C : Type 0} (b : Bool) (o : Option C) → o ≡ None → flagged b o ≡ None
none_flag b o e = rw e refl

pub extra_is : (s : Shape) → extra s ≡ count (was_call s)
extra_is (Calling q v vs) = refl
extra_is (Postfixed v) = refl
extra_is (Other v) = refl

-- a call of what has been read
call_of : (a : Apart) (f g : List Placed) (q p : Place) (v : LExpr) (vs : LExprs) (i j : ℕ) → Reads Postfix f v i → ReadsArgs g vs j
    → ReadsShape a Postfix (f ++ mark q P.LeftParen ∷ (g ++ mark p P.RightParen ∷ [])) (called a q v vs) (max (i + call_count a) (j + call_count a))
call_of Never f g q p v vs i j r m = let n : max i j + 1 ≡ max (i + 1) (j + 1) = omega arith in rw (← n) (X.called f g q p v vs i j r m)
call_of Bare f g q p v vs i j r m = let n : max i j ≡ max (i + 0) (j + 0) = omega arith in rw (← n) (calling f g q p v vs i j r m)
call_of Bracketed f g q p v vs i j r m =
    let n : max i j ≡ max (i + 0) (j + 0) = omega arith in
    rw (← n) (open_call _ q v vs (max i j) (calling f g q p v vs i j r m))

call_by : (a : Apart) (f g : List Placed) (q : Place) (k : Lexeme) (v : LExpr) (vs : LExprs) (i j : ℕ) → k ≡ Mark P.LeftParen → Reads Postfix f v i → Arguments g vs j
    → ReadsShape a Postfix (f ++ at q k ∷ g) (called a q v vs) (max (i + call_count a) (j + call_count a))
call_by a f g q k v vs i j e r (g', p, e', m) = rw (e, e') (call_of a f g' q p v vs i j r m)

index_by : (a : Apart) (f g : List Placed) (q p : Place) (k l : Lexeme) (v w : LExpr) (i j : ℕ) → k ≡ Mark P.LeftBracket → l ≡ Mark P.RightBracket → Reads Postfix f v i → Reads Whole g w j
    → Kept a (f ++ at q k ∷ (g ++ at p l ∷ [])) (LIndex q v w) (max i j + 1)
index_by a f g q p k l v w i j e e' r c = rw (e, e') (keep_postfix a _ (LIndex q v w) _ (X.indexed f g q p v w i j r c) refl)

field_by : (a : Apart) (f : List Placed) (q p : Place) (k l : Lexeme) (v : LExpr) (x : Ident) (i : ℕ) → k ≡ Mark P.Dot → ident_in p l ≡ Some x → Reads Postfix f v i → Kept a (f ++ at q k ∷ at p l ∷ []) (LMember q v x) (i + 1)
field_by a f q p k l v x i e e' r = rw (e, named_in p l x e') (keep_postfix a _ (LMember q v x) _ (X.member f q v x i r) refl)

through_by : (a : Apart) (f : List Placed) (q p : Place) (k l : Lexeme) (v : LExpr) (x : Ident) (i : ℕ) → k ≡ Mark P.Arrow → ident_in p l ≡ Some x → Reads Postfix f v i → Kept a (f ++ at q k ∷ at p l ∷ []) (LArrow q v x) (i + 1)
through_by a f q p k l v x i e e' r = rw (e, named_in p l x e') (keep_postfix a _ (LArrow q v x) _ (X.arrow f q v x i r) refl)

with_part : (a : Apart) (f g : List Placed) (s : Shape) (c : Behind) (b : Bool) (w : Part) (h j : ℕ) → ReadsShape a Postfix f s h → b ≡ was_call s → Parts c g w j
    → ReadsShape a Postfix (f ++ g) (postfix_make a s w) (max (h + postfix_left a (c, b)) (j + postfix_right a (c, b)))
with_part a f g s Args b w h j r e (t, g', e0, p, (vs, e1, m)) =
    let x = extra_is s in
    let n : max ((h + extra s) + call_count a) (j + call_count a) ≡ max (h + (count b + call_count a)) (j + call_count a) = let y : count b ≡ extra s = ap count e ∙ sym x in omega (arith, y) in
    rw (e0, e1, ← n) ((call_by a f g' t.place t.lexeme (whole s) vs (h + extra s) j (args_is t.lexeme p) (shape_reads a Postfix f s h tt r) m))
with_part a f g s Index b w h j r e (t, g', e0, p, (v, e1, (k, u, e2, c, m))) =
    let x = extra_is s in
    let n : max (h + extra s) j + 1 ≡ max (h + (count b + 1)) (j + 1) = let y : count b ≡ extra s = ap count e ∙ sym x in omega (arith, y) in
    rw (e0, e1, e2, ← n) ((index_by a f k t.place u.place t.lexeme u.lexeme (whole s) v (h + extra s) j (index_is t.lexeme p) (unbracket_lexeme u.lexeme c) (shape_reads a Postfix f s h tt r) m))
with_part a f g s Field b w h j r e (t, g', e0, p, (x, e1, (u, e2, i, z))) =
    let y : count b ≡ extra s = ap count e ∙ sym (extra_is s) in
    let n : (h + extra s) + 1 ≡ max (h + (count b + 1)) (j + 0) = omega (arith, y, z) in
    rw (e0, e1, e2, ← n) ((field_by a f t.place u.place t.lexeme u.lexeme (whole s) x (h + extra s) (field_is t.lexeme p) i (shape_reads a Postfix f s h tt r)))
with_part a f g s Through b w h j r e (t, g', e0, p, (x, e1, (u, e2, i, z))) =
    let y : count b ≡ extra s = ap count e ∙ sym (extra_is s) in
    let n : (h + extra s) + 1 ≡ max (h + (count b + 1)) (j + 0) = omega (arith, y, z) in
    rw (e0, e1, e2, ← n) ((through_by a f t.place u.place t.lexeme u.lexeme (whole s) x (h + extra s) (through_is t.lexeme p) i (shape_reads a Postfix f s h tt r)))

pub of_trail : (a : Apart) (f : List Placed) (s : Shape) (h : ℕ) → Trail a f s h → ReadsShape a Postfix f s h
of_trail a f s h (first g u i r) = of_atom a g u i r
of_trail a f s h (further g k t c u w i j r e ok q) = let b = flag_is (was_call u) (postfix_class t.lexeme) c e in with_part a g (t ∷ k) u c.0 c.1 w i j (of_trail a g u i r) b.1 q

-- A postfix expression, as the chain that is read.
pub record Begun (a : Apart) (f : List Placed) (v : LExpr) (h : ℕ) : Type 0 where
  pub shape : Shape
  pub height : ℕ
  pub is : whole shape ≡ v
  pub high : height + extra shape ≡ h
  pub row : Trail a f shape height

opened_is : (s : Shape) → (whole (opened s) ≡ whole s) × (extra (opened s) ≡ extra s)
opened_is (Calling q v vs) = (refl, refl)
opened_is (Postfixed v) = (refl, refl)
opened_is (Other v) = (refl, refl)

begun_literal : (a : Apart) (q : Place) (k : Lexeme) (v : LExpr) → atom_class k ≡ Some Literal → literal_in q k ≡ v → Begun a (at q k ∷ []) v 1
begun_literal a q k v e i = record { shape = Postfixed (literal_in q k); height = 1; is = i; high = omega arith; row = first (at q k ∷ []) (Postfixed (literal_in q k)) 1 (to_literal a q k e) }

begun_primary : (a : Apart) (f : List Placed) (v : LExpr) (h : ℕ) → Reads Primary f v h → Begun a f v h
begun_primary a f v h (X.a_name x) = begun_literal a x.place (Named x.text) v refl refl
begun_primary a f v h (X.an_integer q k z) = begun_literal a q (Number k z) v refl refl
begun_primary a f v h (X.a_character q z) = begun_literal a q (Character z) v refl refl
begun_primary a f v h (X.a_text q b) = begun_literal a q (Quoted b) v refl refl
begun_primary a f v h (X.parens g q p w i c) =
    let s = sort (inside a) Whole g w i c in
    let o = opened_is s.shape in
    record { shape = opened s.shape; height = s.height + 1; is = o.0 ∙ s.is; high = omega (arith, o.1, s.high); row = first f (opened s.shape) (s.height + 1) (to_round a g q p s.shape s.height s.reads) }

-- a chain goes on
grow : (a : Apart) (f g : List Placed) (t : Placed) (c : Behind) (s : Shape) (w : Part) (h j : ℕ) → Trail a f s h → postfix_class t.lexeme ≡ Some c → Parts c (t ∷ g) w j
    → Trail a (f ++ t ∷ g) (postfix_make a s w) (max (h + postfix_left a (c, was_call s)) (j + postfix_right a (c, was_call s)))
grow a f g t c s w h j r e q = further f g t (c, was_call s) s w h j r (rw e refl) tt q

called_is : (a : Apart) (q : Place) (v w : LExpr) (vs : LExprs) → v ≡ w → (whole (called a q v vs) ≡ LCall q w vs) × (extra (called a q v vs) + call_count a ≡ 1)
called_is Never q v w vs e = (ap (λ z. LCall q z vs) e, refl)
called_is Bare q v w vs e = (ap (λ z. LCall q z vs) e, refl)
called_is Bracketed q v w vs e = (ap (λ z. LCall q z vs) e, refl)

begun_call : (a : Apart) (g k : List Placed) (q p : Place) (w : LExpr) (vs : LExprs) (i j : ℕ) → Begun a g w i → ReadsArgs k vs j → Begun a (g ++ mark q P.LeftParen ∷ (k ++ mark p P.RightParen ∷ [])) (LCall q w vs) (max i j + 1)
begun_call a g k q p w vs i j b m =
    let c = called_is a q (whole b.shape) w vs b.is in
    let x = extra_is b.shape in
    record {
      shape = called a q (whole b.shape) vs;
      height = max (b.height + (count (was_call b.shape) + call_count a)) (j + call_count a);
      is = c.0;
      high = omega (arith, c.1, x, b.high);
      row = grow a g (k ++ mark p P.RightParen ∷ []) (mark q P.LeftParen) Args b.shape (args_part q vs) b.height j b.row refl
          (mark q P.LeftParen, k ++ mark p P.RightParen ∷ [], refl, refl, (vs, refl, (k, p, refl, m)));
    }

begun_index : (a : Apart) (g k : List Placed) (q p : Place) (w x : LExpr) (i j : ℕ) → Begun a g w i → Reads Whole k x j → Begun a (g ++ mark q P.LeftBracket ∷ (k ++ mark p P.RightBracket ∷ [])) (LIndex q w x) (max i j + 1)
begun_index a g k q p w x i j b m =
    let y = extra_is b.shape in
    record {
      shape = Postfixed (LIndex q (whole b.shape) x);
      height = max (b.height + (count (was_call b.shape) + 1)) (j + 1);
      is = ap (λ z. LIndex q z x) b.is;
      high = omega (arith, y, b.high);
      row = grow a g (k ++ mark p P.RightBracket ∷ []) (mark q P.LeftBracket) Index b.shape (index_part q x) b.height j b.row refl
          (mark q P.LeftBracket, k ++ mark p P.RightBracket ∷ [], refl, refl, (x, refl, (k, mark p P.RightBracket, refl, refl, m)));
    }

begun_field : (a : Apart) (g : List Placed) (q : Place) (w : LExpr) (x : Ident) (i : ℕ) → Begun a g w i → Begun a (g ++ mark q P.Dot ∷ named x ∷ []) (LMember q w x) (i + 1)
begun_field a g q w x i b =
    let y = extra_is b.shape in
    record {
      shape = Postfixed (LMember q (whole b.shape) x);
      height = max (b.height + (count (was_call b.shape) + 1)) (0 + 0);
      is = ap (λ z. LMember q z x) b.is;
      high = omega (arith, y, b.high);
      row = grow a g (named x ∷ []) (mark q P.Dot) Field b.shape (field_part q x) b.height 0 b.row refl (mark q P.Dot, named x ∷ [], refl, refl, (x, refl, (named x, refl, refl, refl)));
    }

begun_through : (a : Apart) (g : List Placed) (q : Place) (w : LExpr) (x : Ident) (i : ℕ) → Begun a g w i → Begun a (g ++ mark q P.Arrow ∷ named x ∷ []) (LArrow q w x) (i + 1)
begun_through a g q w x i b =
    let y = extra_is b.shape in
    record {
      shape = Postfixed (LArrow q (whole b.shape) x);
      height = max (b.height + (count (was_call b.shape) + 1)) (0 + 0);
      is = ap (λ z. LArrow q z x) b.is;
      high = omega (arith, y, b.high);
      row = grow a g (named x ∷ []) (mark q P.Arrow) Through b.shape (through_part q x) b.height 0 b.row refl (mark q P.Arrow, named x ∷ [], refl, refl, (x, refl, (named x, refl, refl, refl)));
    }

begun : (a : Apart) (f : List Placed) (v : LExpr) (h : ℕ) → Reads Postfix f v h → Begun a f v h
begun a f v h (X.a_primary g w i c) = begun_primary a g w i c
begun a f v h (X.indexed g k q p w x i j c m) = begun_index a g k q p w x i j (begun a g w i c) m
begun a f v h (X.called g k q p w vs i j c m) = begun_call a g k q p w vs i j (begun a g w i c) m
begun a f v h (X.member g q w x i c) = begun_field a g q w x i (begun a g w i c)
begun a f v h (X.arrow g q w x i c) = begun_through a g q w x i (begun a g w i c)

-- What is kept is no call taken apart.
never_row : (f : List Placed) (v : LExpr) (s : Shape) (i h : ℕ) → whole s ≡ v → i + extra s ≡ h → Trail Never f s i → Trail Never f (Postfixed v) h
never_row f v (Calling q w ws) i h e n r = absurd (of_trail Never f (Calling q w ws) i r)
never_row f v (Postfixed w) i h e n r = let m : i ≡ h = omega (arith, n) in rw (← e, ← m) r
never_row f v (Other w) i h e n r = absurd (no_other f w i (of_trail Never f (Other w) i r))

kept_row : (a : Apart) (f : List Placed) (v : LExpr) (s : Shape) (i h : ℕ) → whole s ≡ v → i + extra s ≡ h → is_call (bare_expr v) ≡ false → Trail a f s i → Trail a f (Postfixed v) h
kept_row a f v (Calling q w ws) i h e n c r = let k : is_call (bare_expr (LCall q w ws)) ≡ false = subst (λ z. is_call (bare_expr z) ≡ false) (sym e) c in absurd cc
kept_row a f v (Postfixed w) i h e n c r = let m : i ≡ h = omega (arith, n) in rw (← e, ← m) r
kept_row a f v (Other w) i h e n c r = absurd (no_other f w i (of_trail a f (Other w) i r))

kept_trail : (a : Apart) (f : List Placed) (v : LExpr) (h : ℕ) → Kept a f v h → Trail a f (Postfixed v) h
kept_trail Never f v h c = let b = begun Never f v h c in never_row f v b.shape b.height h b.is b.high b.row
kept_trail Bare f v h (inl c) = first f (Postfixed v) h (to_plain Bare f v h refl c)
kept_trail Bare f v h (inr c) = let b = begun Bare f v h c.0 in kept_row Bare f v b.shape b.height h b.is b.high c.1 b.row
kept_trail Bracketed f v h c = let b = begun Bracketed f v h c.0 in kept_row Bracketed f v b.shape b.height h b.is b.high c.1 b.row

-- a call taken apart
call_row : (a : Apart) (f g : List Placed) (q p : Place) (v : LExpr) (vs : LExprs) (i j : ℕ) → call_count a ≡ 0 → Begun a f v i → ReadsArgs g vs j
    → Trail a (f ++ mark q P.LeftParen ∷ (g ++ mark p P.RightParen ∷ [])) (called a q v vs) (max i j)
call_row a f g q p v vs i j z b m =
    let n : max (b.height + (count (was_call b.shape) + call_count a)) (j + call_count a) ≡ max i j = let x = extra_is b.shape in omega (arith, x, b.high, z) in
    rw (← n, ← b.is) (grow a f (g ++ mark p P.RightParen ∷ []) (mark q P.LeftParen) Args b.shape (args_part q vs) b.height j b.row refl
    (mark q P.LeftParen, g ++ mark p P.RightParen ∷ [], refl, refl, (vs, refl, (g, p, refl, m))))

bare_call : (f : List Placed) (q : Place) (v : LExpr) (vs : LExprs) (h : ℕ) → ReadsCalling f q v vs h → Trail Bare f (Calling q v vs) h
bare_call f q v vs h (calling g k _ p _ _ i j r m) = call_row Bare g k q p v vs i j refl (begun Bare g v i r) m

open_row : (f : List Placed) (q : Place) (v : LExpr) (vs : LExprs) (h : ℕ) → ReadsCalling f q v vs h → Trail Bracketed f (Calling q v vs) h
open_row f q v vs h (calling g k _ p _ _ i j r m) = call_row Bracketed g k q p v vs i j refl (begun Bracketed g v i r) m

enclosed_call : (f : List Placed) (q : Place) (v : LExpr) (vs : LExprs) (h : ℕ) → ReadsEnclosed f q v vs h → Trail Bracketed f (Calling q v vs) h
enclosed_call f q v vs h (open_call _ _ _ _ _ c) = open_row f q v vs h c
enclosed_call f q v vs h (in_parens g o _ p _ _ i c) = first f (Calling q v vs) h (to_round Bracketed g o p (Calling q v vs) i c)

taken_trail : (a : Apart) (f : List Placed) (q : Place) (v : LExpr) (vs : LExprs) (h : ℕ) → Taken a f q v vs h → Trail a f (Calling q v vs) h
taken_trail Never f q v vs h c = absurd c
taken_trail Bare f q v vs h c = bare_call f q v vs h c
taken_trail Bracketed f q v vs h c = enclosed_call f q v vs h c

pub to_trail : (a : Apart) (f : List Placed) (s : Shape) (h : ℕ) → ReadsShape a Postfix f s h → Trail a f s h
to_trail a f (Calling q v vs) h c = taken_trail a f q v vs h c
to_trail a f (Postfixed v) h c = kept_trail a f v h c
to_trail a f (Other v) h c = absurd (no_other f v h c)
