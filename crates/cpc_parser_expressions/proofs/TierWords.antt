-- Operators and choices in the readers' words, and back.
use Rattle.std.proofs.Common.{◌≡◌, ℕ, zero, suc, ◌+◌, ◌-◌, ◌≤◌, ◌<◌, Bool, true, false, List, [], ◌∷◌, ◌++◌, Option, Some, None, max, refl, sym, ap, subst, ◌∙◌, append_assoc, arith, nat_lt, cond}
use Rattle.cpc_base.specs.declared.stop.Place.{Place}
use Rattle.cpc_base.proofs.Truth.{lt_fails, lt_holds}
use Rattle.cpc_num.specs.declared.kinds.Op.TheVariants as O
use Rattle.cpc_tree.specs.declared.token.Punctuator.{Punctuator}
use Rattle.cpc_tree.specs.declared.token.Punctuator.TheVariants as P
use Rattle.cpc_tree.specs.Tokens.{Lexeme, Mark, Placed}
use Rattle.cpc_tree.specs.Located.{LExpr, LBinary, LAnd, LOr, LChoose}
use Rattle.cpc_tree.specs.TypeGrammar.{mark}
use Rattle.cpc_tree.specs.ExprGrammar.{Unary, Tier, Whole, top_tier, Operator, Binary, And, Or, operated, operator, Reads}
use Rattle.cpc_tree.specs.ExprGrammar as X
use Rattle.cpc_parser_reading.specs.Reading.{below}
use Rattle.cpc_parser_reading.specs.Phrase.{Before, Headed, Both, Mapped}
use Rattle.cpc_parser_reading.specs.Chain.{Chained, first, further}
use Rattle.cpc_parser_reading.specs.Lists.{if_so}
use Rattle.cpc_parser_types.specs.Views.{lexeme}
use Rattle.cpc_parser_types.proofs.BaseWords.{at}
use Rattle.cpc_parser_expressions.specs.Shapes.{Apart, Shape, Calling, Postfixed, Other, whole, extra, ReadsOther, ReadsShape}
use Rattle.cpc_parser_expressions.specs.Shapes as S
use Rattle.cpc_parser_expressions.specs.ExprReaders.{was_call, count, flagged, operator_in, at_most, operator_at, is_ask, is_colon}
use Rattle.cpc_parser_expressions.proofs.Sorts.{Sorted, sort, shape_reads, tier_up, raise}
use Rattle.cpc_parser_expressions.proofs.PostfixWords.{flag_is, extra_is}

-- the tier of an operator
abbrev pub op_tier : Operator → ℕ
op_tier (Binary O.Mul) = 1
op_tier (Binary O.Div) = 1
op_tier (Binary O.Rem) = 1
op_tier (Binary O.Add) = 2
op_tier (Binary O.Sub) = 2
op_tier (Binary O.Shl) = 3
op_tier (Binary O.Shr) = 3
op_tier (Binary O.Lt) = 4
op_tier (Binary O.Le) = 4
op_tier (Binary O.Gt) = 4
op_tier (Binary O.Ge) = 4
op_tier (Binary O.Eq) = 5
op_tier (Binary O.Ne) = 5
op_tier (Binary O.BitAnd) = 6
op_tier (Binary O.BitXor) = 7
op_tier (Binary O.BitOr) = 8
op_tier And = 9
op_tier Or = 10

-- the tier of what has been read: that of its last operator
abbrev pub tier_of : Shape → ℕ
tier_of (Other (LBinary q op v w)) = op_tier (Binary op)
tier_of (Other (LAnd q v w)) = 9
tier_of (Other (LOr q v w)) = 10
tier_of s = 0

-- the table of operators agrees
abbrev Right : Option (ℕ × Operator) → Type 0
Right None = Unit {0}
Right (Some x) = (x.0 ≡ op_tier x.1) × (1 ≤ x.0)

right : (p : Punctuator) → Right (operator p)
right P.Star = (refl, omega arith)
right P.Slash = (refl, omega arith)
right P.Percent = (refl, omega arith)
right P.Plus = (refl, omega arith)
right P.Minus = (refl, omega arith)
right P.ShiftLeft = (refl, omega arith)
right P.ShiftRight = (refl, omega arith)
right P.Less = (refl, omega arith)
right P.LessEqual = (refl, omega arith)
right P.Greater = (refl, omega arith)
right P.GreaterEqual = (refl, omega arith)
right P.EqualEqual = (refl, omega arith)
right P.NotEqual = (refl, omega arith)
right P.Ampersand = (refl, omega arith)
right P.Caret = (refl, omega arith)
right P.Bar = (refl, omega arith)
right P.AndAnd = (refl, omega arith)
right P.OrOr = (refl, omega arith)
right p = tt

-- the mark of an operator, and its tier
pub operator_is : (k : Lexeme) (x : ℕ × Operator) → operator_in k ≡ Some x → (p : Punctuator) × (k ≡ Mark p) × (operator p ≡ Some x) × (x.0 ≡ op_tier x.1) × (1 ≤ x.0)
operator_is (Mark p) x e = let r = subst Right e (right p) in (p, refl, e, r.0, r.1)
operator_is k x e = absurd cc

most_by : (n : ℕ) (o : Option (ℕ × Operator)) (y x : ℕ × Operator) (b : Bool) → o ≡ Some y → nat_lt n y.0 ≡ b → cond b None (Some y) ≡ Some x → (o ≡ Some x) × (x.0 ≤ n)
most_by n o y x true i e c = absurd cc
most_by n o y x false i e c =
    let k : y ≡ x = cc in
    let m : y.0 ≤ n = grind arith in
    (i ∙ ap (λ z. Some z) k, subst (λ z. z.0 ≤ n) k m)

most_is : (n : ℕ) (o : Option (ℕ × Operator)) (x : ℕ × Operator) → at_most n o ≡ Some x → (o ≡ Some x) × (x.0 ≤ n)
most_is n None x e = absurd cc
most_is n (Some y) x e = most_by n (Some y) y x (nat_lt n y.0) refl refl e

-- an operator of a tier at most
pub at_is : (n : ℕ) (k : Lexeme) (x : ℕ × Operator) → operator_at n k ≡ Some x → (operator_in k ≡ Some x) × (x.0 ≤ n)
at_is n k x e = most_is n (operator_in k) x e

pub at_to : (n : ℕ) (k : Lexeme) (x : ℕ × Operator) → operator_in k ≡ Some x → x.0 ≤ n → operator_at n k ≡ Some x
at_to n k x e le = rw (e, lt_fails n x.0 le) refl

none_by : (n : ℕ) (y : ℕ × Operator) (b : Bool) → nat_lt n y.0 ≡ b → cond b None (Some y) ≡ None → n < y.0
none_by n y true e c = grind arith
none_by n y false e c = absurd cc

none_most : (n : ℕ) (o : Option (ℕ × Operator)) (x : ℕ × Operator) → at_most n o ≡ None → o ≡ Some x → n < x.0
none_most n None x e i = absurd cc
none_most n (Some y) x e i = let k : y ≡ x = cc in subst (λ z. n < z.0) k (none_by n y (nat_lt n y.0) refl e)

-- no operator of a tier at most
pub none_is : (n : ℕ) (k : Lexeme) (x : ℕ × Operator) → operator_at n k ≡ None → operator_in k ≡ Some x → n < x.0
none_is n k x e i = none_most n (operator_in k) x e i

none_all : (n : ℕ) (o : Option (ℕ × Operator)) → ((x : ℕ × Operator) → o ≡ Some x → n < x.0) → at_most n o ≡ None
none_all n None all = refl
none_all n (Some y) all = let l = all y refl in rw (lt_holds n y.0 l) refl

pub none_to : (n : ℕ) (k : Lexeme) → ((x : ℕ × Operator) → operator_in k ≡ Some x → n < x.0) → operator_at n k ≡ None
none_to n k all = none_all n (operator_in k) all

-- no operator is of tier 0
pub zero_tier : (k : Lexeme) → operator_at 0 k ≡ None
zero_tier k = none_to 0 k (λ x e. let b = operator_is k x e in omega (arith, b.4))

operated_tier : (q : Place) (op : Operator) (v w : LExpr) → tier_of (Other (operated q op v w)) ≡ op_tier op
operated_tier q (Binary op) v w = refl
operated_tier q And v w = refl
operated_tier q Or v w = refl

-- an operator and its operand
abbrev pub Operand : ℕ → (ℕ × Operator) × Bool → List Placed → Place × LExpr → ℕ → Type 0
Operand n c = Headed lexeme (λ k. operator_at n k ≡ Some c.0) (λ t. Mapped (λ w. (t.place, w)) (Reads (Tier (below c.0.0))))

-- an operator stands behind one of its own tier or of one below it
abbrev pub Suits : Shape → (ℕ × Operator) × Bool → Type 0
Suits s c = tier_of s ≤ op_tier c.0.1

abbrev pub Tiers : Apart → ℕ → List Placed → Shape → ℕ → Type 0
Tiers a n = Chained lexeme (λ s k. flagged (was_call s) (operator_at n k)) Suits (λ c s w. Other (operated w.0 c.0.1 (whole s) w.1)) (λ c h j. max (h + (count c.1 + 1)) (j + 1)) (ReadsShape a (Tier 0)) (Operand n)

unary_tier : (f : List Placed) (v : LExpr) (h : ℕ) → ReadsOther Unary f v h → tier_of (Other v) ≡ 0
unary_tier f v h (S.signed g q p op w i e c) = refl
unary_tier f v h (S.size g q s t ty i c) = refl

cast_tier : (f : List Placed) (v : LExpr) (h : ℕ) → ReadsOther (Tier 0) f v h → tier_of (Other v) ≡ 0
cast_tier f v h (S.a_unary g w i c) = unary_tier g w i c
cast_tier f v h (S.cast g k q s ty w i j c b) = refl

pub low_tier : (a : Apart) (f : List Placed) (s : Shape) (h : ℕ) → ReadsShape a (Tier 0) f s h → tier_of s ≡ 0
low_tier a f (Calling q v vs) h c = refl
low_tier a f (Postfixed v) h c = refl
low_tier a f (Other v) h c = cast_tier f v h c

-- what has been read of a tier is so of each higher one
shape_up : (a : Apart) (m n : ℕ) (f : List Placed) (s : Shape) (h : ℕ) → m ≤ n → ReadsShape a (Tier m) f s h → ReadsShape a (Tier n) f s h
shape_up a m n f (Calling q v vs) h le c = c
shape_up a m n f (Postfixed v) h le c = c
shape_up a m n f (Other v) h le c = raise (λ k. ReadsOther (Tier k) f v h) (λ k b. S.an_operand k f v h b) (n - m) m n (omega arith) c

pub below_is : (n : ℕ) → 1 ≤ n → suc (below n) ≡ n
below_is zero le = absurd (omega arith)
below_is (suc n) le = refl

applied_by : (m : ℕ) (f g : List Placed) (q : Place) (k : Lexeme) (x : ℕ × Operator) (v w : LExpr) (h j : ℕ) → (p : Punctuator) × (k ≡ Mark p) × (operator p ≡ Some x) × (x.0 ≡ op_tier x.1) × (1 ≤ x.0)
    → m ≤ op_tier x.1 → Reads (Tier m) f v h → Reads (Tier (below x.0)) g w j → ReadsOther (Tier (op_tier x.1)) (f ++ at q k ∷ g) (operated q x.1 v w) (max h j + 1)
applied_by m f g q k x v w h j (p, e, o, t, l) le r c =
    let b = below_is x.0 l in
    let up = tier_up m (suc (below x.0)) f v h (omega (arith, t, b, le)) r in
    let s : operator p ≡ Some (suc (below x.0), x.1) = o ∙ ap (λ z. Some (z, x.1)) (sym b) in
    rw (e, ← t, ← b) (S.applied (below x.0) f g q p x.1 v w h j up s c)

-- a chain of operators that has been read
record Tiered (a : Apart) (n : ℕ) (f : List Placed) (s : Shape) (h : ℕ) : Type 0 where
  reads : ReadsShape a (Tier (tier_of s)) f s h
  fits : tier_of s ≤ n

with_operand : (a : Apart) (n : ℕ) (f g : List Placed) (s : Shape) (c : (ℕ × Operator) × Bool) (w : Place × LExpr) (h j : ℕ) → Tiered a n f s h → c.1 ≡ was_call s → Suits s c → Operand n c g w j
    → Tiered a n (f ++ g) (Other (operated w.0 c.0.1 (whole s) w.1)) (max (h + (count c.1 + 1)) (j + 1))
with_operand a n f g s c w h j r b ok (t, g', e, p, (w', e1, q)) =
    let o = at_is n t.lexeme c.0 p in
    let i = operator_is t.lexeme c.0 o.0 in
    let y : count c.1 ≡ extra s = ap count b ∙ sym (extra_is s) in
    let m : max (h + (count c.1 + 1)) (j + 1) ≡ max (h + extra s) j + 1 = omega (arith, y) in
    let x = applied_by (tier_of s) f g' t.place t.lexeme c.0 (whole s) w' (h + extra s) j i ok (shape_reads a (Tier (tier_of s)) f s h tt r.reads) q in
    let u = operated_tier t.place c.0.1 (whole s) w' in
    rw (e, e1, m) (record { reads = subst (λ z. ReadsOther (Tier z) (f ++ t ∷ g') (operated t.place c.0.1 (whole s) w') (max (h + extra s) j + 1)) (sym u) x; fits = omega (arith, u, o.1, i.3) })

tiered : (a : Apart) (n : ℕ) (f : List Placed) (s : Shape) (h : ℕ) → Tiers a n f s h → Tiered a n f s h
tiered a n f s h (first g u i r) = let z = low_tier a g u i r in record { reads = subst (λ k. ReadsShape a (Tier k) g u i) (sym z) r; fits = omega (arith, z) }
tiered a n f s h (further g k t c u w i j r e ok q) = let b = flag_is (was_call u) (operator_at n t.lexeme) c e in with_operand a n g (t ∷ k) u c w i j (tiered a n g u i r) b.1 ok q

pub of_tiers : (a : Apart) (n : ℕ) (f : List Placed) (s : Shape) (h : ℕ) → Tiers a n f s h → ReadsShape a (Tier n) f s h
of_tiers a n f s h c = let t = tiered a n f s h c in shape_up a (tier_of s) n f s h t.fits t.reads

-- An expression of a tier, as the chain that is read with operators of a tier at most.
record Led (a : Apart) (top n : ℕ) (f : List Placed) (v : LExpr) (h : ℕ) : Type 0 where
  shape : Shape
  height : ℕ
  is : whole shape ≡ v
  high : height + extra shape ≡ h
  low : tier_of shape ≤ n
  row : Tiers a top f shape height

led_row : (a : Apart) (top n : ℕ) (f g : List Placed) (q : Place) (p : Punctuator) (op : Operator) (v w : LExpr) (h j : ℕ) → suc n ≤ top → Led a top (suc n) f v h → operator p ≡ Some (suc n, op) → Reads (Tier n) g w j
    → Tiers a top (f ++ mark q p ∷ g) (Other (operated q op v w)) (max h j + 1)
led_row a top n f g q p op v w h j le b e c =
    let i = operator_is (Mark p) (suc n, op) e in
    let k : operator_at top (Mark p) ≡ Some (suc n, op) = at_to top (Mark p) (suc n, op) e le in
    let m : max (b.height + (count (was_call b.shape) + 1)) (j + 1) ≡ max h j + 1 = let x = extra_is b.shape in omega (arith, x, b.high) in
    rw (← m, ← b.is) (further f g (mark q p) ((suc n, op), was_call b.shape) b.shape (q, w) b.height j b.row (rw k refl) (omega (arith, b.low, i.3)) (mark q p, g, refl, k, (w, refl, c)))

led : (a : Apart) (top n : ℕ) (f : List Placed) (v : LExpr) (h : ℕ) → n ≤ top → Reads (Tier n) f v h → Led a top n f v h
led a top n f v h le (X.a_unary g w i c) =
    let s = sort a (Tier 0) g w i (X.a_unary g w i c) in
    let z = low_tier a g s.shape s.height s.reads in
    record { shape = s.shape; height = s.height; is = s.is; high = s.high; low = omega (arith, z); row = first g s.shape s.height s.reads }
led a top n f v h le (X.cast g k q r ty w i j c b) =
    record { shape = Other v; height = h; is = refl; high = omega arith; low = omega arith; row = first f (Other v) h (S.cast g k q r ty w i j c b) }
led a top n f v h le (X.an_operand m g w i c) =
    let b = led a top m g w i (omega (arith, le)) c in
    record { shape = b.shape; height = b.height; is = b.is; high = b.high; low = omega (arith, b.low); row = b.row }
led a top n f v h le (X.applied m g k q p op w x i j c e b) =
    let u = operator_is (Mark p) (suc m, op) e in
    let t = operated_tier q op w x in
    record { shape = Other v; height = h; is = refl; high = omega arith; low = omega (arith, t, u.3); row = led_row a top m g k q p op w x i j le (led a top (suc m) g w i le c) e b }

other_tiers : (a : Apart) (top n : ℕ) (f : List Placed) (v : LExpr) (h : ℕ) → n ≤ top → ReadsOther (Tier n) f v h → Tiers a top f (Other v) h
other_tiers a top n f v h le (S.a_unary g w i c) = first g (Other w) i (S.a_unary g w i c)
other_tiers a top n f v h le (S.cast g k q r ty w i j c b) = first f (Other v) h (S.cast g k q r ty w i j c b)
other_tiers a top n f v h le (S.an_operand m g w i c) = other_tiers a top m g w i (omega (arith, le)) c
other_tiers a top n f v h le (S.applied m g k q p op w x i j c e b) = led_row a top m g k q p op w x i j le (led a top (suc m) g w i le c) e b

pub to_tiers : (a : Apart) (n : ℕ) (f : List Placed) (s : Shape) (h : ℕ) → ReadsShape a (Tier n) f s h → Tiers a n f s h
to_tiers a n f (Calling q v vs) h c = first f (Calling q v vs) h c
to_tiers a n f (Postfixed v) h c = first f (Postfixed v) h c
to_tiers a n f (Other v) h c = other_tiers a n n f v h (omega arith) c

-- the arms of a choice
abbrev pub Arms : List Placed → Place × (LExpr × LExpr) → ℕ → Type 0
Arms = Headed lexeme (λ k. is_ask k ≡ true) (λ t. Mapped (λ w. (t.place, w)) (Both (Before (Reads Whole) (λ u. is_colon u.lexeme)) (Reads Whole)))

-- what is a choice has no further arms
abbrev pub chosen : Shape → Bool
chosen (Other (LChoose q c v w)) = true
chosen s = false

abbrev pub Unchosen : Shape → Unit {0} × Bool → Type 0
Unchosen s c = chosen s ≡ false

abbrev pub Choices : Apart → List Placed → Shape → ℕ → Type 0
Choices a = Chained lexeme (λ s k. flagged (was_call s) (if_so (is_ask k))) Unchosen (λ c s w. Other (LChoose w.0 (whole s) w.1.0 w.1.1)) (λ c h j. max (h + (count c.1 + 1)) (j + 1)) (ReadsShape a (Tier top_tier)) (λ c. Arms)

ask_is : (k : Lexeme) → is_ask k ≡ true → k ≡ Mark P.Question
ask_is (Mark P.Question) e = refl
ask_is k e = absurd cc

colon_is : (k : Lexeme) → is_colon k ≡ true → k ≡ Mark P.Colon
colon_is (Mark P.Colon) e = refl
colon_is k e = absurd cc

chosen_by : (f g k : List Placed) (q r : Place) (x y : Lexeme) (c v w : LExpr) (h i j : ℕ) → x ≡ Mark P.Question → y ≡ Mark P.Colon → Reads (Tier top_tier) f c h → Reads Whole g v i → Reads Whole k w j
    → ReadsOther Whole (f ++ at q x ∷ ((g ++ at r y ∷ []) ++ k)) (LChoose q c v w) (max h (max i j) + 1)
chosen_by f g k q r x y c v w h i j e e' a b d =
    let m : (g ++ mark r P.Colon ∷ []) ++ k ≡ g ++ mark r P.Colon ∷ k = append_assoc g (mark r P.Colon ∷ []) k in
    rw (e, e', m) (S.chosen f g k q r c v w h i j a b d)

with_arms : (a : Apart) (f g : List Placed) (s : Shape) (b : Bool) (w : Place × (LExpr × LExpr)) (h j : ℕ) → ReadsShape a (Tier top_tier) f s h → b ≡ was_call s → Arms g w j
    → ReadsOther Whole (f ++ g) (LChoose w.0 (whole s) w.1.0 w.1.1) (max (h + (count b + 1)) (j + 1))
with_arms a f g s b w h j r e (t, g', e0, p, (w', e1, q)) =
    let y : count b ≡ extra s = ap count e ∙ sym (extra_is s) in
    let m : max (h + (count b + 1)) (j + 1) ≡ max (h + extra s) (max q.i q.j) + 1 = omega (arith, y, q.nest) in
    let k = q.first in
    rw (e0, e1, q.whole, k.2, m) (chosen_by f k.0 q.right t.place k.1.place t.lexeme k.1.lexeme (whole s) w'.0 w'.1 (h + extra s) q.i q.j (ask_is t.lexeme p) (colon_is k.1.lexeme k.3) (shape_reads a (Tier top_tier) f s h tt r) k.4 q.second)

whole_of : (a : Apart) (f : List Placed) (s : Shape) (h : ℕ) → ReadsShape a (Tier top_tier) f s h → ReadsShape a Whole f s h
whole_of a f (Calling q v vs) h c = c
whole_of a f (Postfixed v) h c = c
whole_of a f (Other v) h c = S.unchosen f v h c

armed : (a : Apart) (f g : List Placed) (s : Shape) (c : Unit {0} × Bool) (w : Place × (LExpr × LExpr)) (h j : ℕ) → Choices a f s h → c.1 ≡ was_call s → Unchosen s c → Arms g w j
    → ReadsOther Whole (f ++ g) (LChoose w.0 (whole s) w.1.0 w.1.1) (max (h + (count c.1 + 1)) (j + 1))
armed a f g s c w h j (first _ _ _ r) e ok q = with_arms a f g s c.1 w h j r e q
armed a f g s c w h j (further _ _ _ _ _ _ _ _ _ _ _ _) e ok q = absurd cc

pub of_choices : (a : Apart) (f : List Placed) (s : Shape) (h : ℕ) → Choices a f s h → ReadsShape a Whole f s h
of_choices a f s h (first g u i r) = whole_of a g u i r
of_choices a f s h (further g k t c u w i j r e ok q) = let b = flag_is (was_call u) (if_so (is_ask t.lexeme)) c e in armed a g (t ∷ k) u c w i j r b.1 ok q

operated_unchosen : (q : Place) (op : Operator) (v w : LExpr) → chosen (Other (operated q op v w)) ≡ false
operated_unchosen q (Binary op) v w = refl
operated_unchosen q And v w = refl
operated_unchosen q Or v w = refl

unary_unchosen : (f : List Placed) (v : LExpr) (h : ℕ) → ReadsOther Unary f v h → chosen (Other v) ≡ false
unary_unchosen f v h (S.signed g q p op w i e c) = refl
unary_unchosen f v h (S.size g q s t ty i c) = refl

tier_unchosen : (n : ℕ) (f : List Placed) (v : LExpr) (h : ℕ) → ReadsOther (Tier n) f v h → chosen (Other v) ≡ false
tier_unchosen n f v h (S.a_unary g w i c) = unary_unchosen g w i c
tier_unchosen n f v h (S.cast g k q s ty w i j c b) = refl
tier_unchosen n f v h (S.an_operand m g w i c) = tier_unchosen m g w i c
tier_unchosen n f v h (S.applied m g k q p op w x i j c e b) = operated_unchosen q op w x

pub shape_unchosen : (a : Apart) (f : List Placed) (s : Shape) (h : ℕ) → ReadsShape a (Tier top_tier) f s h → chosen s ≡ false
shape_unchosen a f (Calling q v vs) h c = refl
shape_unchosen a f (Postfixed v) h c = refl
shape_unchosen a f (Other v) h c = tier_unchosen top_tier f v h c

choice_row : (a : Apart) (f g k : List Placed) (q r : Place) (c v w : LExpr) (h i j : ℕ) → Sorted a (Tier top_tier) f c h → Reads Whole g v i → Reads Whole k w j
    → Choices a (f ++ mark q P.Question ∷ (g ++ mark r P.Colon ∷ k)) (Other (LChoose q c v w)) (max h (max i j) + 1)
choice_row a f g k q r c v w h i j b x y =
    let m : max (b.height + (count (was_call b.shape) + 1)) (max i j + 1) ≡ max h (max i j) + 1 = let e = extra_is b.shape in omega (arith, e, b.high) in
    rw (← m, ← b.is) (further f (g ++ mark r P.Colon ∷ k) (mark q P.Question) (tt, was_call b.shape) b.shape (q, (v, w)) b.height (max i j) (first f b.shape b.height b.reads) refl (shape_unchosen a f b.shape b.height b.reads) (
      mark q P.Question,
      g ++ mark r P.Colon ∷ k,
      refl,
      refl,
      (
        (v, w),
        refl,
        record { left = g ++ mark r P.Colon ∷ []; right = k; i = i; j = j; whole = sym (append_assoc g (mark r P.Colon ∷ []) k); nest = refl; first = (g, mark r P.Colon, refl, refl, x); second = y },
      ),
    ))

other_choices : (a : Apart) (f : List Placed) (v : LExpr) (h : ℕ) → ReadsOther Whole f v h → Choices a f (Other v) h
other_choices a f v h (S.unchosen g w i c) = first g (Other w) i c
other_choices a f v h (S.chosen g k l q r c w x i j m b d e) = choice_row a g k l q r c w x i j m (sort a (Tier top_tier) g c i b) d e

pub to_choices : (a : Apart) (f : List Placed) (s : Shape) (h : ℕ) → ReadsShape a Whole f s h → Choices a f s h
to_choices a f (Calling q v vs) h c = first f (Calling q v vs) h c
to_choices a f (Postfixed v) h c = first f (Postfixed v) h c
to_choices a f (Other v) h c = other_choices a f v h c
