-- What is known of expressions and of what is read where calls are taken apart.
use Rattle.std.proofs.Common.{◌≡◌, ℕ, zero, suc, ◌+◌, ◌-◌, ◌≤◌, false, List, [], ◌∷◌, ◌++◌, max, refl, sym, subst, arith, inl, inr}
use Rattle.cpc_base.specs.declared.stop.Place.{Place}
use Rattle.cpc_tree.specs.declared.token.Punctuator.TheVariants as P
use Rattle.cpc_tree.specs.Tokens.{Placed}
use Rattle.cpc_tree.specs.Located.{LExpr, LCall, LExprs, bare_expr}
use Rattle.cpc_tree.specs.TypeGrammar.{mark}
use Rattle.cpc_tree.specs.ExprGrammar.{Rank, Primary, Postfix, Unary, Tier, Whole, top_tier, Operator, Binary, And, Or, operated, operator, unary_operator, Reads, ReadsArgs}
use Rattle.cpc_tree.specs.ExprGrammar as X
use Rattle.cpc_tree.specs.StmtGrammar.{is_call}
use Rattle.cpc_parser_reading.specs.Phrase.{Mapped}
use Rattle.cpc_parser_expressions.specs.Shapes.{Apart, Never, Bare, Bracketed, Shape, Calling, Postfixed, Other, whole, extra, ReadsCalling, calling, ReadsEnclosed, open_call, in_parens, ReadsOther, Kept, Taken, ReadsShape}
use Rattle.cpc_parser_expressions.specs.Shapes as S

-- each expression counts one
pub reads_least : (r : Rank) (f : List Placed) (v : LExpr) (h : ℕ) → Reads r f v h → 1 ≤ h
reads_least r f v h (X.a_name x) = omega arith
reads_least r f v h (X.an_integer q k z) = omega arith
reads_least r f v h (X.a_character q z) = omega arith
reads_least r f v h (X.a_text q b) = omega arith
reads_least r f v h (X.parens g q s w i c) = omega arith
reads_least r f v h (X.a_primary g w i c) = reads_least Primary g w i c
reads_least r f v h (X.indexed g k q s w x i j a b) = omega arith
reads_least r f v h (X.called g k q s w vs i j a b) = omega arith
reads_least r f v h (X.member g q w x i c) = omega arith
reads_least r f v h (X.arrow g q w x i c) = omega arith
reads_least r f v h (X.a_postfix g w i c) = reads_least Postfix g w i c
reads_least r f v h (X.signed g q p op w i e c) = omega arith
reads_least r f v h (X.size g q s t ty i c) = omega arith
reads_least r f v h (X.a_unary g w i c) = reads_least Unary g w i c
reads_least r f v h (X.cast g k q s ty w i j c b) = omega arith
reads_least r f v h (X.an_operand n g w i c) = reads_least (Tier n) g w i c
reads_least r f v h (X.applied n g k q p op w x i j a e b) = omega arith
reads_least r f v h (X.unchosen g w i c) = reads_least (Tier top_tier) g w i c
reads_least r f v h (X.chosen g k l q s c w x i j m a b d) = omega arith

-- a rank with postfix expressions
abbrev pub Above : Rank → Type 0
Above Primary = ⊥
Above r = Unit {0}

-- step by step from one number to another
pub raise : (A : ℕ → Type 0) → ((n : ℕ) → A n → A (suc n)) → (k m n : ℕ) → k + m ≡ n → A m → A n
raise A step zero m n e r = let i : m ≡ n = omega (arith, e) in subst A i r
raise A step (suc k) m zero e r = absurd (omega arith)
raise A step (suc k) m (suc n) e r = step n (raise A step k m n (omega (arith, e)) r)

-- what is of a tier is of each higher one
pub tier_up : (m n : ℕ) (f : List Placed) (v : LExpr) (h : ℕ) → m ≤ n → Reads (Tier m) f v h → Reads (Tier n) f v h
tier_up m n f v h le r = raise (λ k. Reads (Tier k) f v h) (λ k c. X.an_operand k f v h c) (n - m) m n (omega arith) r

postfix_tier : (n : ℕ) (f : List Placed) (v : LExpr) (h : ℕ) → Reads Postfix f v h → Reads (Tier n) f v h
postfix_tier n f v h r = tier_up 0 n f v h (omega arith) (X.a_unary f v h (X.a_postfix f v h r))

-- a postfix expression is an expression of each rank above
pub from_postfix : (r : Rank) (f : List Placed) (v : LExpr) (h : ℕ) → Above r → Reads Postfix f v h → Reads r f v h
from_postfix Primary f v h a r = absurd a
from_postfix Postfix f v h a r = r
from_postfix Unary f v h a r = X.a_postfix f v h r
from_postfix (Tier n) f v h a r = postfix_tier n f v h r
from_postfix Whole f v h a r = X.unchosen f v h (postfix_tier top_tier f v h r)

-- other expressions are expressions, and no calls
pub other_reads : (r : Rank) (f : List Placed) (v : LExpr) (h : ℕ) → ReadsOther r f v h → Reads r f v h
other_reads r f v h (S.signed g q p op w i e c) = X.signed g q p op w i e c
other_reads r f v h (S.size g q s t ty i c) = X.size g q s t ty i c
other_reads r f v h (S.a_unary g w i c) = X.a_unary g w i (other_reads Unary g w i c)
other_reads r f v h (S.cast g k q s ty w i j c b) = X.cast g k q s ty w i j c b
other_reads r f v h (S.an_operand n g w i c) = X.an_operand n g w i (other_reads (Tier n) g w i c)
other_reads r f v h (S.applied n g k q p op w x i j a e b) = X.applied n g k q p op w x i j a e b
other_reads r f v h (S.unchosen g w i c) = X.unchosen g w i (other_reads (Tier top_tier) g w i c)
other_reads r f v h (S.chosen g k l q s c w x i j m a b d) = X.chosen g k l q s c w x i j m a b d

operated_no_call : (q : Place) (op : Operator) (v w : LExpr) → is_call (bare_expr (operated q op v w)) ≡ false
operated_no_call q (Binary op) v w = refl
operated_no_call q And v w = refl
operated_no_call q Or v w = refl

pub other_no_call : (r : Rank) (f : List Placed) (v : LExpr) (h : ℕ) → ReadsOther r f v h → is_call (bare_expr v) ≡ false
other_no_call r f v h (S.signed g q p op w i e c) = refl
other_no_call r f v h (S.size g q s t ty i c) = refl
other_no_call r f v h (S.a_unary g w i c) = other_no_call Unary g w i c
other_no_call r f v h (S.cast g k q s ty w i j c b) = refl
other_no_call r f v h (S.an_operand n g w i c) = other_no_call (Tier n) g w i c
other_no_call r f v h (S.applied n g k q p op w x i j a e b) = operated_no_call q op w x
other_no_call r f v h (S.unchosen g w i c) = other_no_call (Tier top_tier) g w i c
other_no_call r f v h (S.chosen g k l q s c w x i j m a b d) = refl

-- the lowest ranks have no others
abbrev Low : Rank → Type 0
Low Primary = ⊥
Low Postfix = ⊥
Low r = Unit {0}

high_other : (r : Rank) (f : List Placed) (v : LExpr) (h : ℕ) → ReadsOther r f v h → Low r
high_other r f v h (S.signed g q p op w i e c) = tt
high_other r f v h (S.size g q s t ty i c) = tt
high_other r f v h (S.a_unary g w i c) = tt
high_other r f v h (S.cast g k q s ty w i j c b) = tt
high_other r f v h (S.an_operand n g w i c) = tt
high_other r f v h (S.applied n g k q p op w x i j a e b) = tt
high_other r f v h (S.unchosen g w i c) = tt
high_other r f v h (S.chosen g k l q s c w x i j m a b d) = tt

pub no_other : (f : List Placed) (v : LExpr) (h : ℕ) → ReadsOther Postfix f v h → ⊥
no_other f v h c = high_other Postfix f v h c

pub no_other_primary : (f : List Placed) (v : LExpr) (h : ℕ) → ReadsOther Primary f v h → ⊥
no_other_primary f v h c = high_other Primary f v h c

-- a call taken apart is a call
calling_reads : (f : List Placed) (q : Place) (v : LExpr) (vs : LExprs) (h : ℕ) → ReadsCalling f q v vs h → Reads Postfix f (LCall q v vs) (h + 1)
calling_reads f q v vs h (calling g k _ s _ _ i j a b) = X.called g k q s v vs i j a b

enclosed_reads : (f : List Placed) (q : Place) (v : LExpr) (vs : LExprs) (h : ℕ) → ReadsEnclosed f q v vs h → Reads Postfix f (LCall q v vs) (h + 1)
enclosed_reads f q v vs h (open_call g _ _ _ _ c) = calling_reads g q v vs h c
enclosed_reads f q v vs h (in_parens g o _ s _ _ i c) =
    X.a_primary _ _ _ (X.parens g o s (LCall q v vs) (i + 1) (from_postfix Whole g (LCall q v vs) (i + 1) tt (enclosed_reads g q v vs i c)))

-- what is kept is a postfix expression
pub kept_reads : (a : Apart) (f : List Placed) (v : LExpr) (h : ℕ) → Kept a f v h → Reads Postfix f v h
kept_reads Never f v h r = r
kept_reads Bare f v h (inl r) = X.a_primary f v h r
kept_reads Bare f v h (inr r) = r.0
kept_reads Bracketed f v h r = r.0

pub taken_reads : (a : Apart) (f : List Placed) (q : Place) (v : LExpr) (vs : LExprs) (h : ℕ) → Taken a f q v vs h → Reads Postfix f (LCall q v vs) (h + 1)
taken_reads Never f q v vs h r = absurd r
taken_reads Bare f q v vs h r = calling_reads f q v vs h r
taken_reads Bracketed f q v vs h r = enclosed_reads f q v vs h r

no_more : (h : ℕ) → h ≡ h + 0
no_more h = omega arith

-- what has been read is an expression
pub shape_reads : (a : Apart) (r : Rank) (f : List Placed) (s : Shape) (h : ℕ) → Above r → ReadsShape a r f s h → Reads r f (whole s) (h + extra s)
shape_reads a r f (Calling q v vs) h b c = from_postfix r f (LCall q v vs) (h + 1) b (taken_reads a f q v vs h c)
shape_reads a r f (Postfixed v) h b c = from_postfix r f v (h + 0) b (subst (λ i. Reads Postfix f v i) (no_more h) (kept_reads a f v h c))
shape_reads a r f (Other v) h b c = subst (λ i. Reads r f v i) (no_more h) (other_reads r f v h c)

calling_least : (f : List Placed) (q : Place) (v : LExpr) (vs : LExprs) (h : ℕ) → ReadsCalling f q v vs h → 1 ≤ h
calling_least f q v vs h (calling g k _ s _ _ i j a b) = let m = reads_least Postfix g v i a in omega arith

enclosed_least : (f : List Placed) (q : Place) (v : LExpr) (vs : LExprs) (h : ℕ) → ReadsEnclosed f q v vs h → 1 ≤ h
enclosed_least f q v vs h (open_call g _ _ _ _ c) = calling_least g q v vs h c
enclosed_least f q v vs h (in_parens g o _ s _ _ i c) = omega arith

taken_least : (a : Apart) (f : List Placed) (q : Place) (v : LExpr) (vs : LExprs) (h : ℕ) → Taken a f q v vs h → 1 ≤ h
taken_least Never f q v vs h r = absurd r
taken_least Bare f q v vs h r = calling_least f q v vs h r
taken_least Bracketed f q v vs h r = enclosed_least f q v vs h r

-- what has been read counts one at least
pub shape_least : (a : Apart) (r : Rank) (f : List Placed) (s : Shape) (h : ℕ) → ReadsShape a r f s h → 1 ≤ h
shape_least a r f (Calling q v vs) h c = taken_least a f q v vs h c
shape_least a r f (Postfixed v) h c = reads_least Postfix f v h (kept_reads a f v h c)
shape_least a r f (Other v) h c = reads_least r f v h (other_reads r f v h c)

-- An expression, as it is read where calls are taken apart.
pub record Sorted (a : Apart) (r : Rank) (f : List Placed) (v : LExpr) (h : ℕ) : Type 0 where
  pub shape : Shape
  pub height : ℕ
  pub is : whole shape ≡ v
  pub high : height + extra shape ≡ h
  pub reads : ReadsShape a r f shape height

-- a primary expression that is no call is kept
pub keep : (a : Apart) (f : List Placed) (v : LExpr) (h : ℕ) → Reads Primary f v h → is_call (bare_expr v) ≡ false → Kept a f v h
keep Never f v h r e = X.a_primary f v h r
keep Bare f v h r e = inl r
keep Bracketed f v h r e = (X.a_primary f v h r, e)

kept : (a : Apart) (r : Rank) (f : List Placed) (v : LExpr) (h : ℕ) → Kept a f v h → Sorted a r f v h
kept a r f v h c = record { shape = Postfixed v; height = h; is = refl; high = omega arith; reads = c }

literal_sorted : (a : Apart) (f : List Placed) (v : LExpr) → Reads Primary f v 1 → is_call (bare_expr v) ≡ false → Sorted a Primary f v 1
literal_sorted a f v r e = kept a Primary f v 1 (keep a f v 1 r e)

others : (a : Apart) (r : Rank) (f : List Placed) (v : LExpr) (h : ℕ) → ReadsOther r f v h → Sorted a r f v h
others a r f v h c = record { shape = Other v; height = h; is = refl; high = omega arith; reads = c }

-- what has been read of one rank, as of another
lift : (a : Apart) (r k : Rank) (f : List Placed) (s : Shape) (h : ℕ) → ((v : LExpr) → ReadsOther r f v h → ReadsOther k f v h) → ReadsShape a r f s h → ReadsShape a k f s h
lift a r k f (Calling q v vs) h to c = c
lift a r k f (Postfixed v) h to c = c
lift a r k f (Other v) h to c = to v c

lifted : (a : Apart) (r k : Rank) (f : List Placed) (v : LExpr) (h : ℕ) → ((w : LExpr) (i : ℕ) → ReadsOther r f w i → ReadsOther k f w i) → Sorted a r f v h → Sorted a k f v h
lifted a r k f v h to s = record { shape = s.shape; height = s.height; is = s.is; high = s.high; reads = lift a r k f s.shape s.height (λ w c. to w s.height c) s.reads }

-- a kept expression by what it is
pub keep_postfix : (a : Apart) (f : List Placed) (v : LExpr) (h : ℕ) → Reads Postfix f v h → is_call (bare_expr v) ≡ false → Kept a f v h
keep_postfix Never f v h r e = r
keep_postfix Bare f v h r e = inr (r, e)
keep_postfix Bracketed f v h r e = (r, e)

-- an expression in parentheses round what has been read
bracketed : (g : List Placed) (o p : Place) (s : Shape) (v : LExpr) (i h : ℕ) → whole s ≡ v → i + extra s ≡ h → ReadsShape Bracketed Whole g s i → Sorted Bracketed Primary (mark o P.LeftParen ∷ (g ++ mark p P.RightParen ∷ [])) v (h + 1)
bracketed g o p (Calling q v vs) w i h e n c = record { shape = Calling q v vs; height = i + 1; is = e; high = omega (arith, n); reads = in_parens g o q p v vs i c }
bracketed g o p (Postfixed v) w i h e n c =
    let m : i ≡ h = omega (arith, n) in
    record { shape = Postfixed v; height = i + 1; is = e; high = omega (arith, n); reads = (X.a_primary _ _ _ (X.parens g o p v i (from_postfix Whole g v i tt c.0)), c.1) }
bracketed g o p (Other v) w i h e n c =
    record { shape = Postfixed v; height = i + 1; is = e; high = omega (arith, n); reads = (X.a_primary _ _ _ (X.parens g o p v i (other_reads Whole g v i c)), other_no_call Whole g v i c) }

call_sorted : (a : Apart) (f g : List Placed) (q p : Place) (v : LExpr) (vs : LExprs) (h j : ℕ) → Reads Postfix f v h → ReadsArgs g vs j
    → Sorted a Postfix (f ++ mark q P.LeftParen ∷ (g ++ mark p P.RightParen ∷ [])) (LCall q v vs) (max h j + 1)
call_sorted Never f g q p v vs h j r b = kept Never Postfix _ _ _ (X.called f g q p v vs h j r b)
call_sorted Bare f g q p v vs h j r b = record { shape = Calling q v vs; height = max h j; is = refl; high = refl; reads = calling f g q p v vs h j r b }
call_sorted Bracketed f g q p v vs h j r b = record { shape = Calling q v vs; height = max h j; is = refl; high = refl; reads = open_call _ q v vs (max h j) (calling f g q p v vs h j r b) }

-- each expression is read where calls are taken apart
pub sort : (a : Apart) (r : Rank) (f : List Placed) (v : LExpr) (h : ℕ) → Reads r f v h → Sorted a r f v h
sort a r f v h (X.a_name x) = literal_sorted a f v (X.a_name x) refl
sort a r f v h (X.an_integer q k z) = literal_sorted a f v (X.an_integer q k z) refl
sort a r f v h (X.a_character q z) = literal_sorted a f v (X.a_character q z) refl
sort a r f v h (X.a_text q b) = literal_sorted a f v (X.a_text q b) refl
sort Never r f v h (X.parens g q s w i c) = kept Never Primary f v h (X.a_primary f v h (X.parens g q s w i c))
sort Bare r f v h (X.parens g q s w i c) = kept Bare Primary f v h (inl (X.parens g q s w i c))
sort Bracketed r f v h (X.parens g q s w i c) = let b = sort Bracketed Whole g w i c in bracketed g q s b.shape w b.height i b.is b.high b.reads
sort a r f v h (X.a_primary g w i c) = lifted a Primary Postfix g w i (λ x j b. absurd (no_other_primary g x j b)) (sort a Primary g w i c)
sort a r f v h (X.indexed g k q s w x i j c b) = kept a Postfix f v h (keep_postfix a f v h (X.indexed g k q s w x i j c b) refl)
sort a r f v h (X.called g k q s w vs i j c b) = call_sorted a g k q s w vs i j c b
sort a r f v h (X.member g q w x i c) = kept a Postfix f v h (keep_postfix a f v h (X.member g q w x i c) refl)
sort a r f v h (X.arrow g q w x i c) = kept a Postfix f v h (keep_postfix a f v h (X.arrow g q w x i c) refl)
sort a r f v h (X.a_postfix g w i c) = lifted a Postfix Unary g w i (λ x j b. absurd (no_other g x j b)) (sort a Postfix g w i c)
sort a r f v h (X.signed g q p op w i e c) = others a Unary f v h (S.signed g q p op w i e c)
sort a r f v h (X.size g q s t ty i c) = others a Unary f v h (S.size g q s t ty i c)
sort a r f v h (X.a_unary g w i c) = lifted a Unary (Tier 0) g w i (λ x j b. S.a_unary g x j b) (sort a Unary g w i c)
sort a r f v h (X.cast g k q s ty w i j c b) = others a (Tier 0) f v h (S.cast g k q s ty w i j c b)
sort a r f v h (X.an_operand n g w i c) = lifted a (Tier n) (Tier (suc n)) g w i (λ x j b. S.an_operand n g x j b) (sort a (Tier n) g w i c)
sort a r f v h (X.applied n g k q p op w x i j c e b) = others a (Tier (suc n)) f v h (S.applied n g k q p op w x i j c e b)
sort a r f v h (X.unchosen g w i c) = lifted a (Tier top_tier) Whole g w i (λ x j b. S.unchosen g x j b) (sort a (Tier top_tier) g w i c)
sort a r f v h (X.chosen g k l q s c w x i j m b d e) = others a Whole f v h (S.chosen g k l q s c w x i j m b d e)

-- Where no call is taken apart, what is read is the grammar's.
pub never_of : (r : Rank) (f : List Placed) (v : LExpr) (h : ℕ) → Above r → Mapped whole (ReadsShape Never r) f v h → Reads r f v h
never_of r f v h b (Calling q w ws, e, c) = absurd c
never_of r f v h b (Postfixed w, e, c) = rw e (from_postfix r f w h b c)
never_of r f v h b (Other w, e, c) = rw e (other_reads r f w h c)

never_by : (r : Rank) (f : List Placed) (v : LExpr) (i h : ℕ) (s : Shape) → whole s ≡ v → i + extra s ≡ h → ReadsShape Never r f s i → Mapped whole (ReadsShape Never r) f v h
never_by r f v i h (Calling q w ws) e n c = absurd c
never_by r f v i h (Postfixed w) e n c = let m : i ≡ h = omega (arith, n) in (Postfixed w, sym e, subst (λ j. Reads Postfix f w j) m c)
never_by r f v i h (Other w) e n c = let m : i ≡ h = omega (arith, n) in (Other w, sym e, subst (λ j. ReadsOther r f w j) m c)

pub never_to : (r : Rank) (f : List Placed) (v : LExpr) (h : ℕ) → Reads r f v h → Mapped whole (ReadsShape Never r) f v h
never_to r f v h c = let s = sort Never r f v h c in never_by r f v s.height h s.shape s.is s.high s.reads
