-- Casts against expressions in parentheses: what stands behind an opening parenthesis, and how deep both nest.
use Rattle.std.proofs.Common.{◌≡◌, ℕ, ◌+◌, ◌≤◌, true, false, List, [], ◌∷◌, ◌++◌, Some, refl, ap, arith}
use Rattle.cpc_tree.specs.declared.program.UnaryOp.{UnaryOp}
use Rattle.cpc_tree.specs.declared.token.Keyword.TheVariants as K
use Rattle.cpc_tree.specs.declared.token.Punctuator.{Punctuator}
use Rattle.cpc_tree.specs.declared.token.Punctuator.TheVariants as P
use Rattle.cpc_base.specs.declared.stop.Place.{Place}
use Rattle.cpc_tree.specs.Tokens.{Lexeme, Word, Mark, Number, Character, Quoted, Placed}
use Rattle.cpc_tree.specs.Syntax.{TyInt}
use Rattle.cpc_num.specs.declared.kinds.Kind.TheVariants as N
use Rattle.cpc_tree.specs.Located.{LExpr, LNamed, LCast, LExprs}
use Rattle.cpc_tree.specs.TypeGrammar.{word, mark, named}
use Rattle.cpc_tree.specs.ExprGrammar.{Primary, Postfix, Unary, Tier, Whole, unary_operator, Reads}
use Rattle.cpc_tree.specs.ExprGrammar as X
use Rattle.cpc_parser_reading.specs.Exact.{Opens}
use Rattle.cpc_parser_reading.proofs.Readers as R
use Rattle.cpc_parser_types.specs.Views.{lexeme}
use Rattle.cpc_parser_types.specs.TypeReaders.{is_left, starts_base}
use Rattle.cpc_parser_types.proofs.TypeNames.{starts_enclosed}
use Rattle.cpc_parser_types.proofs.BaseWords.{at}
use Rattle.cpc_parser_types.proofs.ParamWords.{left_lexeme}
use Rattle.cpc_parser_expressions.specs.Shapes.{Apart, Never, Bare, Bracketed, Shape, Calling, Postfixed, Other, whole, extra, ReadsCalling, calling, ReadsEnclosed, open_call, in_parens, ReadsOther, Taken, ReadsShape}
use Rattle.cpc_parser_expressions.specs.Shapes as S
use Rattle.cpc_parser_expressions.specs.ExprReaders.{left_in, starts_expr}
use Rattle.cpc_parser_expressions.proofs.Sorts.{reads_least, kept_reads, shape_reads}
use Rattle.cpc_parser_expressions.proofs.UnaryWords.{Casts, cast_row}
use Rattle.cpc_parser_expressions.proofs.ExprStarts.{starts_reads, start, a_word, word_tier, int_reads, paren_opens}

-- no word of a type begins an expression
no_type : (k : Lexeme) → starts_expr k ≡ true → starts_base k ≡ false
no_type (Word K.Sizeof) e = refl
no_type (Word k) e = absurd cc
no_type k e = refl

-- no type stands behind an opening parenthesis that begins the list
abbrev Solid : List Placed → Type 0
Solid [] = ⊥
Solid (t ∷ []) = is_left t.lexeme ≡ false
Solid (t ∷ (u ∷ g)) = is_left t.lexeme ≡ true → starts_base u.lexeme ≡ false

solid_other : (t : Placed) (g : List Placed) → is_left t.lexeme ≡ false → Solid (t ∷ g)
solid_other t [] e = e
solid_other t (u ∷ g) e = λ i. absurd cc

solid_more : (f g : List Placed) → Solid f → Solid (f ++ g)
solid_more [] g s = absurd s
solid_more (t ∷ []) g s = solid_other t g s
solid_more (t ∷ (u ∷ f)) g s = s

solid_parens : (q r : Place) (f : List Placed) (v : LExpr) (h : ℕ) → Reads Whole f v h → Solid (mark q P.LeftParen ∷ (f ++ mark r P.RightParen ∷ []))
solid_parens q r f v h c = let b = starts_reads.head f v h c in let n = no_type b.0.lexeme b.3 in rw b.2 (λ i. n)

solid_primary : (f : List Placed) (v : LExpr) (h : ℕ) → Reads Primary f v h → Solid f
solid_primary f v h (X.a_name x) = refl
solid_primary f v h (X.an_integer q k z) = refl
solid_primary f v h (X.a_character q z) = refl
solid_primary f v h (X.a_text q b) = refl
solid_primary f v h (X.parens g q s w i c) = solid_parens q s g w i c

solid_postfix : (f : List Placed) (v : LExpr) (h : ℕ) → Reads Postfix f v h → Solid f
solid_postfix f v h (X.a_primary g w i c) = solid_primary g w i c
solid_postfix f v h (X.indexed g k q s w x i j a b) = solid_more g _ (solid_postfix g w i a)
solid_postfix f v h (X.called g k q s w vs i j a b) = solid_more g _ (solid_postfix g w i a)
solid_postfix f v h (X.member g q w x i c) = solid_more g _ (solid_postfix g w i c)
solid_postfix f v h (X.arrow g q w x i c) = solid_more g _ (solid_postfix g w i c)

sign_no_left : (p : Punctuator) (op : UnaryOp) → unary_operator p ≡ Some op → is_left (Mark p) ≡ false
sign_no_left P.LeftParen op e = absurd cc
sign_no_left p op e = refl

solid_unary : (f : List Placed) (v : LExpr) (h : ℕ) → Reads Unary f v h → Solid f
solid_unary f v h (X.a_postfix g w i c) = solid_postfix g w i c
solid_unary f v h (X.signed g q p op w i e c) = solid_other (mark q p) g (sign_no_left p op e)
solid_unary f v h (X.size g q s t ty i c) = solid_other (word q K.Sizeof) (mark s P.LeftParen ∷ (g ++ mark t P.RightParen ∷ [])) refl

solid_apart : (f rest : List Placed) → Solid f → R.Apart lexeme is_left (λ k l. starts_base l) (f ++ rest)
solid_apart [] rest s = absurd s
solid_apart (t ∷ []) [] s = tt
solid_apart (t ∷ []) (u ∷ us) s = λ i. absurd cc
solid_apart (t ∷ (u ∷ f)) rest s = s

-- no unary expression seems to be a cast
pub unary_apart : (a : Apart) (f : List Placed) (s : Shape) (h : ℕ) (rest : List Placed) → ReadsShape a Unary f s h → R.Apart lexeme is_left (λ k l. starts_base l) (f ++ rest)
unary_apart a f s h rest r = solid_apart f rest (solid_unary f (whole s) (h + extra s) (shape_reads a Unary f s h tt r))

-- What begins with a parenthesis counts two.
abbrev High : List Placed → ℕ → Type 0
High f h = (t : Placed) × (g : List Placed) × (f ≡ t ∷ g) × (is_left t.lexeme ≡ true → 2 ≤ h)

high_more : (f g : List Placed) (h i : ℕ) → h ≤ i → High f h → High (f ++ g) i
high_more f g h i le (t, k, e, q) = (t, k ++ g, ap (λ z. z ++ g) e, λ b. let m = q b in omega (arith, m, le))

high_other : (t : Placed) (g : List Placed) (h : ℕ) → is_left t.lexeme ≡ false → High (t ∷ g) h
high_other t g h e = (t, g, refl, λ i. absurd cc)

high_primary : (f : List Placed) (v : LExpr) (h : ℕ) → Reads Primary f v h → High f h
high_primary f v h (X.a_name x) = high_other (named x) [] h refl
high_primary f v h (X.an_integer q k z) = high_other (at q (Number k z)) [] h refl
high_primary f v h (X.a_character q z) = high_other (at q (Character z)) [] h refl
high_primary f v h (X.a_text q b) = high_other (at q (Quoted b)) [] h refl
high_primary f v h (X.parens g q s w i c) = let m = reads_least Whole g w i c in (mark q P.LeftParen, g ++ mark s P.RightParen ∷ [], refl, λ b. omega (arith, m))

high_postfix : (f : List Placed) (v : LExpr) (h : ℕ) → Reads Postfix f v h → High f h
high_postfix f v h (X.a_primary g w i c) = high_primary g w i c
high_postfix f v h (X.indexed g k q s w x i j a b) = high_more g _ i h (omega arith) (high_postfix g w i a)
high_postfix f v h (X.called g k q s w vs i j a b) = high_more g _ i h (omega arith) (high_postfix g w i a)
high_postfix f v h (X.member g q w x i c) = high_more g _ i h (omega arith) (high_postfix g w i c)
high_postfix f v h (X.arrow g q w x i c) = high_more g _ i h (omega arith) (high_postfix g w i c)

high_calling : (f : List Placed) (q : Place) (v : LExpr) (vs : LExprs) (h : ℕ) → ReadsCalling f q v vs h → High f h
high_calling f q v vs h (calling g k _ p _ _ i j r m) = high_more g _ i h (omega arith) (high_postfix g v i r)

calling_least : (f : List Placed) (q : Place) (v : LExpr) (vs : LExprs) (h : ℕ) → ReadsEnclosed f q v vs h → 1 ≤ h
calling_least f q v vs h (open_call _ _ _ _ _ (calling g k _ p _ _ i j r m)) = let l = reads_least Postfix g v i r in omega (arith, l)
calling_least f q v vs h (in_parens g o _ p _ _ i c) = omega arith

high_enclosed : (f : List Placed) (q : Place) (v : LExpr) (vs : LExprs) (h : ℕ) → ReadsEnclosed f q v vs h → High f h
high_enclosed f q v vs h (open_call _ _ _ _ _ c) = high_calling f q v vs h c
high_enclosed f q v vs h (in_parens g o _ p _ _ i c) = let l = calling_least g q v vs i c in (mark o P.LeftParen, g ++ mark p P.RightParen ∷ [], refl, λ b. omega (arith, l))

high_taken : (a : Apart) (f : List Placed) (q : Place) (v : LExpr) (vs : LExprs) (h : ℕ) → Taken a f q v vs h → High f h
high_taken Never f q v vs h c = absurd c
high_taken Bare f q v vs h c = high_calling f q v vs h c
high_taken Bracketed f q v vs h c = high_enclosed f q v vs h c

high_unary : (f : List Placed) (v : LExpr) (h : ℕ) → ReadsOther Unary f v h → High f h
high_unary f v h (S.signed g q p op w i e c) = high_other (mark q p) g h (sign_no_left p op e)
high_unary f v h (S.size g q s t ty i c) = high_other (word q K.Sizeof) _ h refl

-- so does a unary expression
pub unary_high : (a : Apart) (f : List Placed) (s : Shape) (h : ℕ) → ReadsShape a Unary f s h → High f h
unary_high a f (Calling q v vs) h c = high_taken a f q v vs h c
unary_high a f (Postfixed v) h c = high_postfix f v h (kept_reads a f v h c)
unary_high a f (Other v) h c = high_unary f v h c

left_is : (q p : Place) (k : Lexeme) → left_in q k ≡ Some p → is_left k ≡ true
left_is q p (Mark P.LeftParen) e = refl
left_is q p k e = absurd cc

joined : (f left right l r g : List Placed) (t u : Placed) → f ≡ left ++ right → left ≡ t ∷ [] → right ≡ l ++ r → l ≡ u ∷ g → f ≡ t ∷ u ∷ (g ++ r)
joined f left right l r g t u a b c d = rw (a, b, c, d) refl

-- how a cast begins
pub cast_begins : (f : List Placed) (s : Shape) (h : ℕ) → Casts f s h → (t : Placed) × (u : Placed) × (g : List Placed) × (f ≡ t ∷ u ∷ g) × (is_left t.lexeme ≡ true) × (starts_base u.lexeme ≡ true)
cast_begins f s h (x, i, e, n, b) =
    let t = b.first in
    let c = b.second in
    let o = starts_enclosed.head c.left x.1.0 c.i c.first in
    (t.0, o.0, o.1 ++ c.right, joined f b.left b.right c.left c.right o.1 t.0 o.0 b.whole t.1 c.whole o.2, left_is t.0.place x.0 t.0.lexeme t.2, o.3)

a_cast : (q : Place) (k : Lexeme) → k ≡ Mark P.LeftParen → Opens Casts 2 (at q k ∷ [])
a_cast q k e = rw e (record {
  rest = word start K.Int ∷ mark start P.RightParen ∷ named a_word ∷ [];
  value = Other (LCast q (TyInt N.Int) (LNamed a_word));
  nest = 2;
  reads = cast_row (word start K.Int ∷ []) (named a_word ∷ []) q start (TyInt N.Int) (LNamed a_word) 0 1 int_reads (word_tier 0);
  fits = omega arith;
})

-- each opening parenthesis begins a cast, and a unary expression
pub cast_opens : (t : Placed) → is_left t.lexeme ≡ true → Opens Casts 2 (t ∷ [])
cast_opens t e = a_cast t.place t.lexeme (left_lexeme t.lexeme e)

in_paren : (a : Apart) (q : Place) (k : Lexeme) → k ≡ Mark P.LeftParen → Opens (ReadsShape a Unary) 2 (at q k ∷ [])
in_paren a q k e = rw e (paren_opens a q)

pub unary_opens : (a : Apart) (t : Placed) → is_left t.lexeme ≡ true → Opens (ReadsShape a Unary) 2 (t ∷ [])
unary_opens a t e = in_paren a t.place t.lexeme (left_lexeme t.lexeme e)
