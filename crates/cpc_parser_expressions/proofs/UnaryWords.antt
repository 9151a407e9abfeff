-- Unary expressions and casts in the readers' words, and back.
use Rattle.std.proofs.Common.{◌≡◌, ℕ, ◌+◌, List, [], ◌∷◌, ◌++◌, Option, Some, None, max, refl, sym, ap, ◌∙◌, append_assoc, arith, inl, inr}
use Rattle.cpc_base.specs.declared.stop.Place.{Place}
use Rattle.cpc_tree.specs.declared.program.UnaryOp.{UnaryOp}
use Rattle.cpc_tree.specs.declared.token.Keyword.TheVariants as K
use Rattle.cpc_tree.specs.declared.token.Punctuator.{Punctuator}
use Rattle.cpc_tree.specs.declared.token.Punctuator.TheVariants as P
use Rattle.cpc_tree.specs.Tokens.{Lexeme, Word, Mark, Placed}
use Rattle.cpc_tree.specs.Syntax.{Ty}
use Rattle.cpc_tree.specs.Located.{LExpr, LUnary, LCast, LSizeOf}
use Rattle.cpc_tree.specs.TypeGrammar.{word, mark, ReadsTypeName}
use Rattle.cpc_tree.specs.ExprGrammar.{Postfix, Unary, Tier, unary_operator, Reads}
use Rattle.cpc_parser_reading.specs.Phrase.{One, After, Headed, Both, Made, OneOf, Either}
use Rattle.cpc_parser_types.specs.Views.{lexeme}
use Rattle.cpc_parser_types.specs.TypeReaders.{is_left}
use Rattle.cpc_parser_types.proofs.TypeNames.{Enclosed}
use Rattle.cpc_parser_types.proofs.BaseWords.{at}
use Rattle.cpc_parser_types.proofs.ParamWords.{left_lexeme}
use Rattle.cpc_parser_expressions.specs.Shapes.{Apart, Shape, Calling, Postfixed, Other, ReadsOther, ReadsShape}
use Rattle.cpc_parser_expressions.specs.Shapes as S
use Rattle.cpc_parser_expressions.specs.ExprReaders.{Prefix, Sign, Size, Plain, sign_class, prefix_class, signed_by, sized_at, cast_of, left_in, left_of}
use Rattle.cpc_parser_expressions.proofs.Sorts.{no_other}

-- the productions of unary expressions
abbrev pub Prefixes : Apart → Prefix → List Placed → Shape → ℕ → Type 0
Prefixes a (Sign op) = Headed lexeme (λ k. prefix_class k ≡ Some (Sign op)) (λ t. Made (signed_by op t) (Reads (Tier 0)))
Prefixes a Size = Headed lexeme (λ k. prefix_class k ≡ Some Size) (λ t. Made (sized_at t) (After (λ u. is_left u.lexeme) Enclosed))
Prefixes a Plain = ReadsShape a Postfix

-- the mark of an operator
sign_by : (p : Punctuator) (o : Option UnaryOp) (op : UnaryOp) → unary_operator p ≡ o → sign_class o ≡ Some (Sign op) → unary_operator p ≡ Some op
sign_by p None op i e = absurd cc
sign_by p (Some x) op i e = let k : x ≡ op = cc in i ∙ ap (λ z. Some z) k

pub sign_is : (k : Lexeme) (op : UnaryOp) → prefix_class k ≡ Some (Sign op) → (p : Punctuator) × (k ≡ Mark p) × (unary_operator p ≡ Some op)
sign_is (Mark P.LeftParen) op e = absurd cc
sign_is (Mark p) op e = (p, refl, sign_by p (unary_operator p) op refl e)
sign_is (Word K.Sizeof) op e = absurd cc
sign_is k op e = absurd cc

pub sign_to : (p : Punctuator) (op : UnaryOp) → unary_operator p ≡ Some op → prefix_class (Mark p) ≡ Some (Sign op)
sign_to P.LeftParen op e = absurd cc
sign_to p op e = ap sign_class e

pub size_is : (k : Lexeme) → prefix_class k ≡ Some Size → k ≡ Word K.Sizeof
size_is (Word K.Sizeof) e = refl
size_is (Mark P.Minus) e = absurd cc
size_is k e = absurd cc

signed_by_mark : (g : List Placed) (q : Place) (k : Lexeme) (op : UnaryOp) (v : LExpr) (i : ℕ) → (p : Punctuator) × (k ≡ Mark p) × (unary_operator p ≡ Some op) → Reads (Tier 0) g v i → ReadsOther Unary (at q k ∷ g) (LUnary q op v) (i + 1)
signed_by_mark g q k op v i (p, e, o) r = rw e (S.signed g q p op v i o r)

size_by : (g : List Placed) (q r : Place) (k l : Lexeme) (ty : Ty) (i : ℕ) → k ≡ Word K.Sizeof → l ≡ Mark P.LeftParen → Enclosed g ty i → ReadsOther Unary (at q k ∷ at r l ∷ g) (LSizeOf q ty) (i + 1)
size_by g q r k l ty i e e' (f, s, e'', c) = rw (e, e', e'') (S.size f q r s ty i c)

plain_to : (a : Apart) (f : List Placed) (s : Shape) (h : ℕ) → ReadsShape a Postfix f s h → ReadsShape a Unary f s h
plain_to a f (Calling q v vs) h c = c
plain_to a f (Postfixed v) h c = c
plain_to a f (Other v) h c = absurd (no_other f v h c)

pub of_prefix : (a : Apart) (f : List Placed) (s : Shape) (h : ℕ) → OneOf (Prefixes a) f s h → ReadsShape a Unary f s h
of_prefix a f s h (Sign op, (t, g, e, p, (v, i, e1, n, r))) = rw (e, e1, n) (signed_by_mark g t.place t.lexeme op v i (sign_is t.lexeme op p) r)
of_prefix a f s h (Size, (t, g, e, p, (ty, i, e1, n, (u, g', e2, c, r)))) = rw (e, e1, n, e2) (size_by g' t.place u.place t.lexeme u.lexeme ty i (size_is t.lexeme p) (left_lexeme u.lexeme c) r)
of_prefix a f s h (Plain, r) = plain_to a f s h r

other_prefix : (a : Apart) (f : List Placed) (v : LExpr) (h : ℕ) → ReadsOther Unary f v h → OneOf (Prefixes a) f (Other v) h
other_prefix a f v h (S.signed g q p op w i e c) = (Sign op, (mark q p, g, refl, sign_to p op e, (w, i, refl, refl, c)))
other_prefix a f v h (S.size g q r s ty i c) =
    (Size, (word q K.Sizeof, mark r P.LeftParen ∷ (g ++ mark s P.RightParen ∷ []), refl, refl, (ty, i, refl, refl, (mark r P.LeftParen, g ++ mark s P.RightParen ∷ [], refl, refl, (g, s, refl, c)))))

pub to_prefix : (a : Apart) (f : List Placed) (s : Shape) (h : ℕ) → ReadsShape a Unary f s h → OneOf (Prefixes a) f s h
to_prefix a f (Calling q v vs) h c = (Plain, c)
to_prefix a f (Postfixed v) h c = (Plain, c)
to_prefix a f (Other v) h c = other_prefix a f v h c

-- a cast
abbrev pub Casts : List Placed → Shape → ℕ → Type 0
Casts = Made cast_of (Both (One left_of) (Both Enclosed (Reads (Tier 0))))

left_token : (q : Place) (k : Lexeme) (p : Place) → left_in q k ≡ Some p → at q k ≡ mark p P.LeftParen
left_token q (Mark P.LeftParen) p e = let i : q ≡ p = cc in ap (λ z. mark z P.LeftParen) i
left_token q k p e = absurd cc

cast_by : (f g : List Placed) (q : Place) (k : Lexeme) (p : Place) (ty : Ty) (v : LExpr) (i j : ℕ) → left_in q k ≡ Some p → Enclosed f ty i → Reads (Tier 0) g v j → ReadsOther (Tier 0) (at q k ∷ (f ++ g)) (LCast p ty v) (max i j + 1)
cast_by f g q k p ty v i j e (f', r, e', c) m =
    let w : (f' ++ mark r P.RightParen ∷ []) ++ g ≡ f' ++ mark r P.RightParen ∷ g = append_assoc f' (mark r P.RightParen ∷ []) g in
    rw (left_token q k p e, e', w) (S.cast f' g p r ty v i j c m)

of_casts : (a : Apart) (f : List Placed) (s : Shape) (h : ℕ) → Casts f s h → ReadsShape a (Tier 0) f s h
of_casts a f s h (x, i, e, n, b) =
    let c = b.second in
    let t = b.first in
    let m : max c.i c.j + 1 ≡ h = omega (arith, n, b.nest, c.nest, t.3) in
    rw (b.whole, t.1, c.whole, e, ← m) (cast_by c.left c.right t.0.place t.0.lexeme x.0 x.1.0 x.1.1 c.i c.j t.2 c.first c.second)

unary_to : (a : Apart) (f : List Placed) (s : Shape) (h : ℕ) → ReadsShape a Unary f s h → ReadsShape a (Tier 0) f s h
unary_to a f (Calling q v vs) h c = c
unary_to a f (Postfixed v) h c = c
unary_to a f (Other v) h c = S.a_unary f v h c

pub of_cast : (a : Apart) (f : List Placed) (s : Shape) (h : ℕ) → Either Casts (ReadsShape a Unary) f s h → ReadsShape a (Tier 0) f s h
of_cast a f s h (inl c) = of_casts a f s h c
of_cast a f s h (inr c) = unary_to a f s h c

pub cast_row : (g k : List Placed) (q r : Place) (ty : Ty) (w : LExpr) (i j : ℕ) → ReadsTypeName g ty i → Reads (Tier 0) k w j → Casts (mark q P.LeftParen ∷ (g ++ mark r P.RightParen ∷ k)) (Other (LCast q ty w)) (max i j + 1)
cast_row g k q r ty w i j c m =
    let n : max i j ≡ max 0 (max i j) = omega arith in (
      (q, (ty, w)),
      max i j,
      refl,
      refl,
      record {
        left = mark q P.LeftParen ∷ [];
        right = (g ++ mark r P.RightParen ∷ []) ++ k;
        i = 0;
        j = max i j;
        whole = ap (λ z. mark q P.LeftParen ∷ z) (sym (append_assoc g (mark r P.RightParen ∷ []) k));
        nest = n;
        first = (mark q P.LeftParen, refl, refl, refl);
        second = record { left = g ++ mark r P.RightParen ∷ []; right = k; i = i; j = j; whole = refl; nest = refl; first = (g, r, refl, c); second = m };
      },
    )

other_cast : (a : Apart) (f : List Placed) (v : LExpr) (h : ℕ) → ReadsOther (Tier 0) f v h → Either Casts (ReadsShape a Unary) f (Other v) h
other_cast a f v h (S.a_unary g w i c) = inr c
other_cast a f v h (S.cast g k q r ty w i j c m) = inl (cast_row g k q r ty w i j c m)

pub to_cast : (a : Apart) (f : List Placed) (s : Shape) (h : ℕ) → ReadsShape a (Tier 0) f s h → Either Casts (ReadsShape a Unary) f s h
to_cast a f (Calling q v vs) h c = inr c
to_cast a f (Postfixed v) h c = inr c
to_cast a f (Other v) h c = other_cast a f v h c
