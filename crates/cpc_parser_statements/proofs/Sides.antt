-- Sections and right sides are read exactly.
use Rattle.std.proofs.Common.{◌≡◌, ℕ, ◌+◌, Bool, true, false, List, [], ◌∷◌, ◌++◌, Some, max, refl, arith, inl, inr}
use Rattle.cpc_base.specs.declared.stop.Place.{Place}
use Rattle.cpc_tree.specs.declared.token.Keyword.TheVariants as K
use Rattle.cpc_tree.specs.declared.token.Punctuator.TheVariants as P
use Rattle.cpc_tree.specs.Tokens.{Lexeme, Word, Placed}
use Rattle.cpc_tree.specs.Located.{Ident, LExpr, LExprs, bare_expr}
use Rattle.cpc_tree.specs.TypeGrammar.{word, mark, named}
use Rattle.cpc_tree.specs.ExprGrammar.{Whole, Reads}
use Rattle.cpc_tree.specs.StmtGrammar.{Right, Value, is_call, ReadsCall, call_alone, call_in_parens, ReadsSection, section, ReadsRight, a_value, a_call, a_section}
use Rattle.cpc_parser_reading.specs.Phrase.{One, After, Both, Mapped, Headed, OneOf}
use Rattle.cpc_parser_reading.specs.Exact.{Any, Exact, Branch, Starts, Opens}
use Rattle.cpc_parser_reading.proofs.Readers.{any_stops, branch, exact_after, exact_as, exact_mapped, exact_one_of, exact_pair, headed_branch, starts_as, starts_mapped}
use Rattle.cpc_parser_types.specs.Views.{lexeme}
use Rattle.cpc_parser_expressions.proofs.ExprStarts.{starts_reads}
use Rattle.cpc_parser_types.specs.TypeReaders.{ident_of}
use Rattle.cpc_parser_expressions.specs.Shapes.{Bracketed, Shape, Calling, Postfixed, Other, whole, extra, ReadsShape, calling, ReadsEnclosed, open_call, in_parens}
use Rattle.cpc_parser_expressions.specs.ExprReaders.{starts_expr, ShapeEnd}
use Rattle.cpc_parser_statements.specs.SimpleReaders.{detached_at, section_of, right_of, Side, Sectioned, Valued, if_expr, side_class, side_low, side_part, right_at, RightEnd}
use Rattle.cpc_parser_expressions.proofs.ExprExact.{shape_exact, args_exact}
use Rattle.cpc_parser_expressions.proofs.PostfixWords.{Arguments}
use Rattle.cpc_parser_statements.proofs.Splits.{whole_kind}
use Rattle.cpc_parser_expressions.proofs.Sorts.{sort, shape_reads, from_postfix, other_reads, other_no_call}
use Rattle.cpc_parser_statements.proofs.Marks.{here, as_mark, as_word, mark_is, marks}
use Rattle.cpc_parser_types.specs.Begins.{is_mark}
use Rattle.cpc_parser_types.proofs.Bases.{name_exact}
use Rattle.cpc_parser_types.proofs.BaseWords.{named_is}

-- a section's function and arguments
abbrev pub Detached' : List Placed → Ident × LExprs → ℕ → Type 0
Detached' = Both (One ident_of) (After (λ t. is_mark P.LeftParen t.lexeme) Arguments)

pub detached_exact : (n : ℕ) → Exact lexeme n 0 (λ d. detached_at d) Detached' Any
detached_exact n = exact_pair (name_exact n) (exact_after (marks P.LeftParen) (args_exact n)) (λ u g v h rest r s. any_stops lexeme u (g ++ rest))

-- behind their word they are a section
pub of_detached : (f : List Placed) (v : Ident × LExprs) (h : ℕ) (t : Placed) → t.lexeme ≡ Word K.CpcDetached → Detached' f v h → ReadsSection (t ∷ f) t.place v.0 v.1 h
of_detached f v h t w b =
    let (x, e1, p, z) = b.first in
    let (u, g, e2, q, (k, r, e3, args)) = b.second in
    let m : h ≡ b.j = omega (arith, b.nest, z) in
    rw (b.whole, e1, e2, e3, m, as_word t K.CpcDetached w, named_is x v.0 p, as_mark u P.LeftParen (mark_is P.LeftParen u.lexeme q)) (section k t.place u.place r v.0 v.1 b.j args)

-- a section is its word and such a list
pub to_detached : (f : List Placed) (q : Place) (x : Ident) (vs : LExprs) (h : ℕ) → ReadsSection f q x vs h
    → (g : List Placed) × (f ≡ word q K.CpcDetached ∷ g) × Detached' g (x, vs) h
to_detached f p y ws i (section g q r s x vs h args) = (
  named x ∷ mark r P.LeftParen ∷ (g ++ mark s P.RightParen ∷ []),
  refl,
  record {
    left = named x ∷ [];
    right = mark r P.LeftParen ∷ (g ++ mark s P.RightParen ∷ []);
    i = 0;
    j = h;
    whole = refl;
    nest = omega arith;
    first = (named x, refl, refl, refl);
    second = (mark r P.LeftParen, g ++ mark s P.RightParen ∷ [], refl, refl, (g, s, refl, args));
  },
)

-- the lists of each class of right sides
abbrev pub Sides : Side → List Placed → Right → ℕ → Type 0
Sides Sectioned = Headed lexeme (λ k. side_class k ≡ Some Sectioned) (λ t. Mapped (section_of t.place) Detached')
Sides Valued = Mapped right_of (ReadsShape Bracketed Whole)

no_section : (b : Bool) → if_expr b ≡ Some Sectioned → ⊥
no_section true e = cc
no_section false e = cc

section_class : (k : Lexeme) → side_class k ≡ Some Sectioned → k ≡ Word K.CpcDetached
section_class (Word K.CpcDetached) e = refl
section_class k e = absurd (no_section (starts_expr k) e)

if_is : (b : Bool) → if_expr b ≡ Some Valued → b ≡ true
if_is true e = refl
if_is false e = absurd cc

if_so : (b : Bool) → b ≡ true → if_expr b ≡ Some Valued
if_so b e = rw e refl

value_class : (k : Lexeme) → side_class k ≡ Some Valued → starts_expr k ≡ true
value_class (Word K.CpcDetached) e = absurd cc
value_class k e = if_is (starts_expr k) e

class_value : (k : Lexeme) → starts_expr k ≡ true → side_class k ≡ Some Valued
class_value (Word K.CpcDetached) e = absurd cc
class_value k e = if_so (starts_expr k) e

of_enclosed : (f : List Placed) (q : Place) (v : LExpr) (vs : LExprs) (h : ℕ) → ReadsEnclosed f q v vs h → ReadsCall f v vs h
of_enclosed f q v vs h (open_call g o w ws i (calling k l a r u us j m x y)) = call_alone k l a r u us j m x y
of_enclosed f q v vs h (in_parens g o p r w ws i x) = call_in_parens g o r w ws i (of_enclosed g p w ws i x)

to_enclosed : (f : List Placed) (v : LExpr) (vs : LExprs) (h : ℕ) → ReadsCall f v vs h → (q : Place) × ReadsEnclosed f q v vs h
to_enclosed f v vs h (call_alone k l a r u us j m x y) = (a, open_call (k ++ mark a P.LeftParen ∷ (l ++ mark r P.RightParen ∷ [])) a u us (max j m) (calling k l a r u us j m x y))
to_enclosed f v vs h (call_in_parens g o r w ws i x) = let k = to_enclosed g w ws i x in (k.0, in_parens g o k.0 r w ws i k.1)

of_shape : (f : List Placed) (s : Shape) (h : ℕ) → ReadsShape Bracketed Whole f s h → ReadsRight f (right_of s) h
of_shape f (Calling q v vs) h r = a_call f v vs h (of_enclosed f q v vs h r)
of_shape f (Postfixed v) h r = a_value f v h (from_postfix Whole f v h tt r.0) r.1
of_shape f (Other v) h r = a_value f v h (other_reads Whole f v h r) (other_no_call Whole f v h r)

-- A right side in the words of the grammar, and back.
pub of_sides : (f : List Placed) (r : Right) (h : ℕ) → OneOf Sides f r h → ReadsRight f r h
of_sides f r h (Sectioned, (t, g, e, p, (v, e1, d))) = rw (e, e1) (a_section (t ∷ g) t.place v.0 v.1 h (of_detached g v h t (section_class t.lexeme p) d))
of_sides f r h (Valued, (s, e, d)) = rw e (of_shape f s h d)

value_side : (f : List Placed) (v : LExpr) (h : ℕ) → Reads Whole f v h → is_call (bare_expr v) ≡ false → OneOf Sides f (Value v) h
value_side f v h r e = elim (whole_kind f v h r) [ inl a ↦ (Valued, (Postfixed v, refl, (a, e))) | inr a ↦ (Valued, (Other v, refl, a)) ]

pub to_sides : (f : List Placed) (r : Right) (h : ℕ) → ReadsRight f r h → OneOf Sides f r h
to_sides f r h (a_value g v i x e) = value_side g v i x e
to_sides f r h (a_call g v vs i x) = let k = to_enclosed g v vs i x in (Valued, (Calling k.0 v vs, refl, k.1))
to_sides f r h (a_section g q x vs i s) = let k = to_detached g q x vs i s in (Sectioned, (word q K.CpcDetached, k.0, k.1, refl, ((x, vs), refl, k.2)))

right_to : (s : Shape) (k : Lexeme) → ShapeEnd Whole k → RightEnd (right_of s) k
right_to (Calling q v vs) k e = e
right_to (Postfixed v) k e = e
right_to (Other v) k e = e

right_from : (s : Shape) (k : Lexeme) → RightEnd (right_of s) k → ShapeEnd Whole k
right_from (Calling q v vs) k e = e
right_from (Postfixed v) k e = e
right_from (Other v) k e = e

-- how they begin
side_each : (t : Placed) (m : ℕ) → Opens (Reads Whole) m (t ∷ []) → (k : ℕ) × Opens (ReadsShape Bracketed Whole) k (t ∷ [])
side_each t m o =
    let s = sort Bracketed Whole (t ∷ o.rest) o.value o.nest o.reads in
    (m, record { rest = o.rest; value = s.shape; nest = s.height; reads = s.reads; fits = omega (arith, s.high, o.fits) })

starts_side : Starts lexeme (λ k. starts_expr k ≡ true) (ReadsShape Bracketed Whole)
starts_side = record { head = λ f s h r. starts_reads.head f (whole s) (h + extra s) (shape_reads Bracketed Whole f s h tt r); each = λ t e. let k = starts_reads.each t e in side_each t k.0 k.1 }

side_branches : (n : ℕ) (c : Side) → Branch lexeme (λ k. side_class k ≡ Some c) n (side_low c) (λ d. side_part d c) (Sides c) RightEnd
side_branches n Sectioned = headed_branch (λ t e. exact_mapped (section_of t.place) RightEnd (detached_exact n) (λ w k q. tt) (λ w k q. tt))
side_branches n Valued = branch (starts_as (starts_mapped (starts_side) right_of) (λ k e. class_value k e) (λ k e. value_class k e) (λ f v h q. q) (λ f v h q. q))
    (exact_mapped right_of RightEnd (shape_exact n Bracketed Whole) right_to right_from)

side_opens : Opens (OneOf Sides) 0 []
side_opens = let o = (detached_exact 0).sample in record { rest = word here K.CpcDetached ∷ o.rest; value = section_of here o.value; nest = o.nest; reads = (Sectioned, (word here K.CpcDetached, o.rest, refl, refl, (o.value, refl, o.reads))); fits = o.fits }

-- Right sides are read exactly.
pub right_exact : (n : ℕ) → Exact lexeme n 0 (λ d. right_at d) ReadsRight RightEnd
right_exact n = exact_as (exact_one_of side_class (side_branches n) (λ c. omega arith) side_opens) (λ d ts a b. refl) of_sides to_sides
