-- How expressions begin.
use Rattle.std.proofs.Common.{◌≡◌, ℕ, suc, ◌+◌, true, is_some, List, [], ◌∷◌, ◌++◌, Option, Some, None, refl, ap, arith}
use Rattle.cpc_base.specs.declared.stop.Place.{Place}
use Rattle.cpc_num.specs.declared.kinds.Kind.TheVariants as N
use Rattle.cpc_tree.specs.declared.program.UnaryOp.{UnaryOp}
use Rattle.cpc_tree.specs.declared.token.Keyword.TheVariants as K
use Rattle.cpc_tree.specs.declared.token.Punctuator.{Punctuator}
use Rattle.cpc_tree.specs.declared.token.Punctuator.TheVariants as P
use Rattle.cpc_tree.specs.Tokens.{Lexeme, Word, Mark, Named, Number, Character, Quoted, Placed}
use Rattle.cpc_tree.specs.Syntax.{TyInt}
use Rattle.cpc_tree.specs.Located.{Ident, LExpr, LNamed, LUnary, LSizeOf}
use Rattle.cpc_tree.specs.TypeGrammar.{word, mark, named, ReadsTypeName, plain_type, kind_base, int, no_star}
use Rattle.cpc_tree.specs.ExprGrammar.{Rank, Primary, Postfix, Unary, Tier, Whole, top_tier, unary_operator, Reads}
use Rattle.cpc_tree.specs.ExprGrammar as X
use Rattle.cpc_parser_reading.specs.Exact.{Opens, Starts}
use Rattle.cpc_parser_types.specs.Views.{lexeme}
use Rattle.cpc_parser_types.proofs.BaseWords.{at}
use Rattle.cpc_parser_expressions.specs.Shapes.{Apart, Postfixed, whole, extra, ReadsShape}
use Rattle.cpc_parser_expressions.specs.ExprReaders.{Prefix, Sign, Size, Plain, prefix_class, starts_expr}
use Rattle.cpc_parser_expressions.proofs.Sorts.{from_postfix, tier_up, shape_reads, keep, sort}
use Rattle.cpc_parser_expressions.proofs.UnaryWords.{sign_is, sign_to, size_is}

-- a token with what stands behind it, of a class
abbrev Head : (Lexeme → Type 0) → List Placed → Type 0
Head Q f = (t : Placed) × (g : List Placed) × (f ≡ t ∷ g) × Q t.lexeme

head_more : (Q : Lexeme → Type 0) (f g : List Placed) → Head Q f → Head Q (f ++ g)
head_more Q f g (t, k, e, q) = (t, k ++ g, ap (λ z. z ++ g) e, q)

abbrev pub IsPlain : Lexeme → Type 0
IsPlain k = prefix_class k ≡ Some Plain

-- postfix expressions begin with a literal, a name or a parenthesis
plain_head : (r : Rank) (f : List Placed) (v : LExpr) (h : ℕ) → Reads r f v h → r ≡ Primary → Head IsPlain f
plain_head r f v h (X.a_name x) e = (named x, [], refl, refl)
plain_head r f v h (X.an_integer q k z) e = (at q (Number k z), [], refl, refl)
plain_head r f v h (X.a_character q z) e = (at q (Character z), [], refl, refl)
plain_head r f v h (X.a_text q b) e = (at q (Quoted b), [], refl, refl)
plain_head r f v h (X.parens g q s w i c) e = (mark q P.LeftParen, g ++ mark s P.RightParen ∷ [], refl, refl)
plain_head r f v h c e = absurd cc

pub postfix_head : (f : List Placed) (v : LExpr) (h : ℕ) → Reads Postfix f v h → Head IsPlain f
postfix_head f v h (X.a_primary g w i c) = plain_head Primary g w i c refl
postfix_head f v h (X.indexed g k q s w x i j a b) = head_more IsPlain g _ (postfix_head g w i a)
postfix_head f v h (X.called g k q s w vs i j a b) = head_more IsPlain g _ (postfix_head g w i a)
postfix_head f v h (X.member g q w x i c) = head_more IsPlain g _ (postfix_head g w i c)
postfix_head f v h (X.arrow g q w x i c) = head_more IsPlain g _ (postfix_head g w i c)

abbrev Begins : Lexeme → Type 0
Begins k = starts_expr k ≡ true

plain_begins : (f : List Placed) → Head IsPlain f → Head Begins f
plain_begins f (t, g, e, q) = (t, g, e, ap is_some q)

pub unary_head : (f : List Placed) (v : LExpr) (h : ℕ) → Reads Unary f v h → Head Begins f
unary_head f v h (X.a_postfix g w i c) = plain_begins g (postfix_head g w i c)
unary_head f v h (X.signed g q p op w i e c) = (mark q p, g, refl, ap is_some (sign_to p op e))
unary_head f v h (X.size g q s t ty i c) = (word q K.Sizeof, mark s P.LeftParen ∷ (g ++ mark t P.RightParen ∷ []), refl, refl)

tier_head : (n : ℕ) (f : List Placed) (v : LExpr) (h : ℕ) → Reads (Tier n) f v h → Head Begins f
tier_head n f v h (X.a_unary g w i c) = unary_head g w i c
tier_head n f v h (X.cast g k q s ty w i j c b) = (mark q P.LeftParen, g ++ mark s P.RightParen ∷ k, refl, refl)
tier_head n f v h (X.an_operand m g w i c) = tier_head m g w i c
tier_head n f v h (X.applied m g k q p op w x i j a e b) = head_more Begins g _ (tier_head (suc m) g w i a)

whole_head : (f : List Placed) (v : LExpr) (h : ℕ) → Reads Whole f v h → Head Begins f
whole_head f v h (X.unchosen g w i c) = tier_head top_tier g w i c
whole_head f v h (X.chosen g k l q s c w x i j m a b d) = head_more Begins g _ (tier_head top_tier g c i a)

-- the shortest expression
abbrev pub start : Place
start = record { line = 0; column = 0 }

abbrev pub a_word : Ident
a_word = record { place = start; text = [] }

pub word_primary : Reads Primary (named a_word ∷ []) (LNamed a_word) 1
word_primary = X.a_name a_word

pub word_postfix : Reads Postfix (named a_word ∷ []) (LNamed a_word) 1
word_postfix = X.a_primary _ _ _ word_primary

pub word_tier : (n : ℕ) → Reads (Tier n) (named a_word ∷ []) (LNamed a_word) 1
word_tier n = from_postfix (Tier n) _ _ _ tt word_postfix

literal_opens : (t : Placed) (v : LExpr) → Reads Primary (t ∷ []) v 1 → Opens (Reads Postfix) 2 (t ∷ [])
literal_opens t v r = record { rest = []; value = v; nest = 1; reads = X.a_primary _ _ _ r; fits = omega arith }

-- what begins a postfix expression
plain_opens : (q : Place) (k : Lexeme) → IsPlain k → Opens (Reads Postfix) 2 (at q k ∷ [])
plain_opens q (Named x) e = literal_opens _ _ (X.a_name (record { place = q; text = x }))
plain_opens q (Number kind z) e = literal_opens _ _ (X.an_integer q kind z)
plain_opens q (Character z) e = literal_opens _ _ (X.a_character q z)
plain_opens q (Quoted b) e = literal_opens _ _ (X.a_text q b)
plain_opens q (Mark P.LeftParen) e = record {
  rest = named a_word ∷ mark start P.RightParen ∷ [];
  value = LNamed a_word;
  nest = 2;
  reads = X.a_primary _ _ _ (X.parens (named a_word ∷ []) q start (LNamed a_word) 1 (from_postfix Whole _ _ _ tt word_postfix));
  fits = omega arith;
}
plain_opens q (Word K.Sizeof) e = absurd cc
plain_opens q k e = absurd cc

pub int_reads : ReadsTypeName (word start K.Int ∷ []) (TyInt N.Int) 0
int_reads = plain_type (word start K.Int ∷ []) [] (TyInt N.Int) (TyInt N.Int) 0 0 (kind_base _ N.Int (int start)) no_star

signed_opens : (q : Place) (p : Punctuator) (op : UnaryOp) → unary_operator p ≡ Some op → Opens (Reads Unary) 2 (mark q p ∷ [])
signed_opens q p op e = record { rest = named a_word ∷ []; value = LUnary q op (LNamed a_word); nest = 2; reads = X.signed _ q p op _ 1 e (word_tier 0); fits = omega arith }

size_opens : (q : Place) → Opens (Reads Unary) 2 (word q K.Sizeof ∷ [])
size_opens q = record {
  rest = mark start P.LeftParen ∷ word start K.Int ∷ mark start P.RightParen ∷ [];
  value = LSizeOf q (TyInt N.Int);
  nest = 1;
  reads = X.size (word start K.Int ∷ []) q start start (TyInt N.Int) 0 int_reads;
  fits = omega arith;
}

sign_opens : (q : Place) (k : Lexeme) (op : UnaryOp) → (p : Punctuator) × (k ≡ Mark p) × (unary_operator p ≡ Some op) → Opens (Reads Unary) 2 (at q k ∷ [])
sign_opens q k op (p, e, i) = rw e (signed_opens q p op i)

postfix_opens : (f : List Placed) → Opens (Reads Postfix) 2 f → Opens (Reads Unary) 2 f
postfix_opens f o = record { rest = o.rest; value = o.value; nest = o.nest; reads = X.a_postfix _ _ _ o.reads; fits = o.fits }

-- what begins a unary expression
unary_opens : (q : Place) (k : Lexeme) (c : Prefix) → prefix_class k ≡ Some c → Opens (Reads Unary) 2 (at q k ∷ [])
unary_opens q k (Sign op) e = sign_opens q k op (sign_is k op e)
unary_opens q k Size e = rw (size_is k e) (size_opens q)
unary_opens q k Plain e = postfix_opens _ (plain_opens q k e)

-- a test that something is there
some_is : {A : Type 0} (o : Option A) → is_some o ≡ true → (c : A) × (o ≡ Some c)
some_is None e = absurd cc
some_is (Some c) e = (c, refl)

whole_opens : (f : List Placed) → Opens (Reads Unary) 2 f → Opens (Reads Whole) 2 f
whole_opens f o = record { rest = o.rest; value = o.value; nest = o.nest; reads = X.unchosen _ _ _ (tier_up 0 top_tier _ _ _ (omega arith) (X.a_unary _ _ _ o.reads)); fits = o.fits }

-- Whole expressions begin with these tokens, and each of them begins one.
pub starts_reads : Starts lexeme (λ k. starts_expr k ≡ true) (Reads Whole)
starts_reads = record {
  head = whole_head;
  each = λ t e. let c = some_is (prefix_class t.lexeme) e in (2, whole_opens (t ∷ []) (unary_opens t.place t.lexeme c.0 c.1));
}

-- an expression, as it is read where calls are taken apart
sorted_opens : (a : Apart) (r : Rank) (f : List Placed) → Opens (Reads r) 2 f → Opens (ReadsShape a r) 2 f
sorted_opens a r f o =
    let s = sort a r (f ++ o.rest) o.value o.nest o.reads in
    record { rest = o.rest; value = s.shape; nest = s.height; reads = s.reads; fits = omega (arith, s.high, o.fits) }

-- the same of unary expressions, where calls are taken apart
pub starts_unary : (a : Apart) → Starts lexeme (λ k. starts_expr k ≡ true) (ReadsShape a Unary)
starts_unary a = record {
  head = λ f s h r. unary_head f (whole s) (h + extra s) (shape_reads a Unary f s h tt r);
  each = λ t e. let c = some_is (prefix_class t.lexeme) e in (2, sorted_opens a Unary (t ∷ []) (unary_opens t.place t.lexeme c.0 c.1));
}

-- and of postfix expressions
pub starts_postfix : (a : Apart) → Starts lexeme IsPlain (ReadsShape a Postfix)
starts_postfix a = record {
  head = λ f s h r. postfix_head f (whole s) (h + extra s) (shape_reads a Postfix f s h tt r);
  each = λ t e. (2, sorted_opens a Postfix (t ∷ []) (plain_opens t.place t.lexeme e));
}

-- what begins with a parenthesis
pub paren_opens : (a : Apart) (q : Place) → Opens (ReadsShape a Unary) 2 (mark q P.LeftParen ∷ [])
paren_opens a q = sorted_opens a Unary _ (unary_opens q (Mark P.LeftParen) Plain refl)

-- the shortest expression, of each rank
pub word_opens : (a : Apart) (r : Rank) → Opens (ReadsShape a r) 1 []
word_opens a r = record { rest = named a_word ∷ []; value = Postfixed (LNamed a_word); nest = 1; reads = keep a _ (LNamed a_word) 1 word_primary refl; fits = omega arith }
