-- What has been read of a statement that begins with an expression, in the words of the grammar.
use Rattle.std.proofs.Common.{◌≡◌, ℕ, ◌+◌, true, List, [], ◌∷◌, ◌++◌, Some, max, refl, ap, subst, ◌∙◌, arith, inl, inr}
use Rattle.cpc_base.specs.declared.stop.Place.{Place}
use Rattle.cpc_num.specs.declared.kinds.Op.{Op}
use Rattle.cpc_num.specs.declared.kinds.Op.TheVariants as O
use Rattle.cpc_tree.specs.declared.token.Punctuator.{Punctuator}
use Rattle.cpc_tree.specs.declared.token.Punctuator.TheVariants as P
use Rattle.cpc_tree.specs.Tokens.{Lexeme, Mark, Placed}
use Rattle.cpc_tree.specs.Located.{LExpr, LExprs, LCall}
use Rattle.cpc_tree.specs.TypeGrammar.{mark}
use Rattle.cpc_tree.specs.ExprGrammar.{Postfix, Unary, Whole, Reads, ReadsArgs, a_primary, indexed, called, member, arrow, a_postfix}
use Rattle.cpc_tree.specs.StmtGrammar.{begin, Right, assigning, stepping, ReadsRight, ReadsSimple, assigned, updated, stepped_behind, performed}
use Rattle.cpc_parser_reading.specs.Phrase.{Nothing, Mapped, Made, Headed}
use Rattle.cpc_parser_reading.specs.Chain.{Chained, first, further}
use Rattle.cpc_parser_types.specs.Views.{lexeme}
use Rattle.cpc_parser_expressions.specs.Shapes.{Bare, Shape, Calling, Postfixed, Other, whole, extra, ReadsShape, ReadsCalling, calling}
use Rattle.cpc_parser_statements.specs.SimpleReaders.{Simple, Begun, Given, Updated, SteppedBehind, SteppedBefore, Detached, stmt_of, complete, begun_of, More, Sets, Updates, Steps, more_mark, more_class, more_left, more_right, Behind, right_side, new_value, step, step_of, more_make}
use Rattle.cpc_parser_expressions.proofs.ExprStarts.{starts_reads}
use Rattle.cpc_parser_statements.proofs.Splits.{unary_whole}
use Rattle.cpc_parser_expressions.proofs.Sorts.{Sorted, sort, shape_reads}
use Rattle.cpc_parser_statements.proofs.Standing.{Standing}
use Rattle.cpc_parser_statements.proofs.Marks.{as_mark}
use Rattle.cpc_parser_statements.proofs.Mores.{was_call, is_post, shape_is, Says, class_says, equal_class, assign_class, step_class, left_extra}

-- a first token of a class
abbrev pub Goes : More → Lexeme → Type 0
Goes c k = (s : Simple) × (more_class s k ≡ Some c)

-- what follows, in the readers' words
abbrev pub Follows : More → List Placed → Behind → ℕ → Type 0
Follows (Sets b) = Headed lexeme (Goes (Sets b)) (λ t. Mapped (right_side t.place) ReadsRight)
Follows (Updates op b) = Headed lexeme (Goes (Updates op b)) (λ t. Mapped (new_value t.place op) (Reads Whole))
Follows (Steps op b) = Headed lexeme (Goes (Steps op b)) (λ t. Mapped (step_of t.place op) Nothing)

-- no condition
abbrev pub Always : Simple → More → Type 0
Always s c = Unit {0}

-- the nesting with what follows
abbrev pub grown : More → ℕ → ℕ → ℕ
grown c h j = max (h + more_left c) (j + more_right c)

-- an expression that begins a statement, and at most one part behind it
abbrev pub Row : List Placed → Simple → ℕ → Type 0
Row = Chained lexeme more_class Always more_make grown (Made begun_of (Standing (ReadsShape Bare Unary))) Follows

-- what is an expression as it stands
abbrev pub Meant : List Placed → Simple → ℕ → Type 0
Meant f (Begun q s) h = (i : ℕ) × (h ≡ i + 1) × (q ≡ begin f) × ReadsShape Bare Unary f s i
Meant f (Given q o v r) h = (g : List Placed) × (k : List Placed) × (i : ℕ) × (j : ℕ) × (f ≡ g ++ mark o P.Equal ∷ k) × (h ≡ max i j + 1) × (q ≡ begin g) × Reads Unary g v i × ReadsRight k r j
Meant f (Updated q o v op w) h = (g : List Placed) × (p : Punctuator) × (k : List Placed) × (i : ℕ) × (j : ℕ) × (f ≡ g ++ mark o p ∷ k) × (h ≡ max i j + 1) × (q ≡ begin g) × Reads Unary g v i × (assigning p ≡ Some op) × Reads Whole k w j
Meant f (SteppedBehind q o v op) h = (g : List Placed) × (p : Punctuator) × (i : ℕ) × (f ≡ g ++ mark o p ∷ []) × (h ≡ i + 1) × (q ≡ begin g) × Reads Postfix g v i × (stepping p ≡ Some op)
Meant f (SteppedBefore q v op) h = ⊥
Meant f (Detached q x vs) h = ⊥

of_calling : (f : List Placed) (q : Place) (v : LExpr) (vs : LExprs) (h : ℕ) → ReadsCalling f q v vs h → Reads Postfix f (LCall q v vs) (h + 1)
of_calling f q v vs h (calling g k o r w ws i j x y) = called g k o r w ws i j x y

of_kept : (f : List Placed) (v : LExpr) (h : ℕ) → ReadsShape Bare Unary f (Postfixed v) h → Reads Postfix f v h
of_kept f v h (inl r) = a_primary f v h r
of_kept f v h (inr r) = r.0

-- a postfix expression, if it is one
post_reads : (f : List Placed) (s : Shape) (h : ℕ) → is_post s ≡ true → ReadsShape Bare Unary f s h → Reads Postfix f (whole s) (h + extra s)
post_reads f (Calling q v vs) h e r = of_calling f q v vs h r
post_reads f (Postfixed v) h e r = let m : h + 0 ≡ h = omega arith in rw m (of_kept f v h r)
post_reads f (Other v) h e r = absurd cc

pub same_cons : (t u : Placed) (k g : List Placed) → t ∷ k ≡ u ∷ g → (t ≡ u) × (k ≡ g)
same_cons t u k g e = (cc, cc)

-- a token of the mark, in the words of another one that it is
the_mark : (t u : Placed) (p : Punctuator) → t ≡ u → t.lexeme ≡ Mark p → t ≡ mark u.place p
the_mark t u p e i = subst (λ x. t ≡ mark x.place p) e (as_mark t p i)

begun_more : (f k : List Placed) (t : Placed) (c : More) (q : Place) (s : Shape) (p : Punctuator) (w : Behind) (h j : ℕ) → Meant f (Begun q s) h → t.lexeme ≡ Mark p → Says (is_post s) (was_call s) p c
    → Follows c (t ∷ k) w j → Meant (f ++ t ∷ k) (more_make c (Begun q s) w) (grown c h j)
begun_more f k t (Sets b) q s p w h j (i, n, e, r) l says (u, g, e0, b0, (v, e1, x)) =
    let same = same_cons t u k g e0 in
    let tok : t ≡ mark u.place P.Equal = the_mark t u P.Equal same.0 (l ∙ ap Mark says.0) in
    let m : max (h + more_left (Sets b)) (j + 1) ≡ max (i + extra s) j + 1 = let a = (left_extra s b says.1 O.Add).0 in omega (arith, n, a) in
    rw e1 (f, g, i + extra s, j, rw (← same.1, ← tok) refl, m, e, shape_reads Bare Unary f s i tt r, x)
begun_more f k t (Updates op b) q s p w h j (i, n, e, r) l says (u, g, e0, b0, (v, e1, x)) =
    let same = same_cons t u k g e0 in
    let tok : t ≡ mark u.place p = the_mark t u p same.0 l in
    let m : max (h + more_left (Updates op b)) (j + 1) ≡ max (i + extra s) j + 1 = let a = (left_extra s b says.1 op).1 in omega (arith, n, a) in
    rw e1 (f, p, g, i + extra s, j, rw (← same.1, ← tok) refl, m, e, shape_reads Bare Unary f s i tt r, says.0, x)
begun_more f k t (Steps op b) q s p w h j (i, n, e, r) l says (u, g, e0, b0, (v, e1, x)) =
    let same = same_cons t u k g e0 in
    let tok : t ≡ mark u.place p = the_mark t u p same.0 l in
    let m : max (h + more_left (Steps op b)) (j + 0) ≡ (i + extra s) + 1 = let a = (left_extra s b says.2 op).2 in omega (arith, n, a, x.1) in
    let none : k ≡ [] = same.1 ∙ x.0 in
    rw e1 (f, p, i + extra s, rw (none, ← tok) refl, m, e, post_reads f s i says.0 r, says.1)

with_more : (f k : List Placed) (t : Placed) (c : More) (s : Simple) (w : Behind) (h j : ℕ) → Meant f s h → more_class s t.lexeme ≡ Some c → Follows c (t ∷ k) w j
    → Meant (f ++ t ∷ k) (more_make c s w) (grown c h j)
with_more f k t c s w h j m e x =
    let (q, sh, p, es, ek, says) = class_says s t.lexeme c e in
    rw es (begun_more f k t c q sh p w h j (subst (λ u. Meant f u h) es m) ek says x)

-- a row means what the grammar says
pub of_row : (f : List Placed) (s : Simple) (h : ℕ) → Row f s h → Meant f s h
of_row f s h (first g u i (v, j, e, n, r)) = rw e (j, n, r.0, r.1)
of_row f s h (further g k t c u w i j r e ok x) = with_more g k t c u w i j (of_row g u i r) e x

-- A postfix expression as it stands at the beginning of a statement.
shaped_post : (f : List Placed) (v : LExpr) (h : ℕ) → Reads Postfix f v h → (s : Sorted Bare Unary f v h) × (is_post s.shape ≡ true)
shaped_post f v h (a_primary g w i r) = (record { shape = Postfixed w; height = i; is = refl; high = omega arith; reads = inl r }, refl)
shaped_post f v h (indexed g k q o w u i j r x) = (record { shape = Postfixed v; height = h; is = refl; high = omega arith; reads = inr (indexed g k q o w u i j r x, refl) }, refl)
shaped_post f v h (called g k q o w us i j r x) = (record { shape = Calling q w us; height = max i j; is = refl; high = refl; reads = calling g k q o w us i j r x }, refl)
shaped_post f v h (member g q w y i r) = (record { shape = Postfixed v; height = h; is = refl; high = omega arith; reads = inr (member g q w y i r, refl) }, refl)
shaped_post f v h (arrow g q w y i r) = (record { shape = Postfixed v; height = h; is = refl; high = omega arith; reads = inr (arrow g q w y i r, refl) }, refl)

-- it begins a row
begin_row : (f : List Placed) (s : Shape) (i : ℕ) → ReadsShape Bare Unary f s i → Row f (Begun (begin f) s) (i + 1)
begin_row f s i r = first f (Begun (begin f) s) (i + 1) ((begin f, s), i, refl, refl, (refl, r))

-- and a part behind it goes on
further_row : (f k : List Placed) (o : Place) (p : Punctuator) (c : More) (v : LExpr) (h : ℕ) (w : Behind) (j : ℕ) (s : Sorted Bare Unary f v h) → more_class (Begun (begin f) s.shape) (Mark p) ≡ Some c
    → Follows c (mark o p ∷ k) w j → Row (f ++ mark o p ∷ k) (more_make c (Begun (begin f) s.shape) w) (grown c (s.height + 1) j)
further_row f k o p c v h w j s e x = further f k (mark o p) c (Begun (begin f) s.shape) w (s.height + 1) j (begin_row f s.shape s.height s.reads) e tt x

given_from : (f k : List Placed) (q : Place) (v : LExpr) (r : Right) (h j : ℕ) → Sorted Bare Unary f v h → ReadsRight k r j → Row (f ++ mark q P.Equal ∷ k) (Given (begin f) q v r) (max h j + 1)
given_from f k q v r h j s y =
    let b = was_call s.shape in
    let cls : more_class (Begun (begin f) s.shape) (Mark P.Equal) ≡ Some (Sets b) = shape_is s.shape P.Equal ∙ equal_class (is_post s.shape) b in
    let m : grown (Sets b) (s.height + 1) j ≡ max h j + 1 = let a = (left_extra s.shape b refl O.Add).0 in let e = s.high in omega (arith, a, e) in
    rw (← m, ← s.is) (further_row f k q P.Equal (Sets b) v h (right_side q r) j s cls (mark q P.Equal, k, refl, (Begun (begin f) s.shape, cls), (r, refl, y)))

pub given_row : (f k : List Placed) (q : Place) (v : LExpr) (r : Right) (h j : ℕ) → Reads Unary f v h → ReadsRight k r j → Row (f ++ mark q P.Equal ∷ k) (Given (begin f) q v r) (max h j + 1)
given_row f k q v r h j x y = given_from f k q v r h j (sort Bare Unary f v h x) y

updated_from : (f k : List Placed) (q : Place) (p : Punctuator) (op : Op) (v w : LExpr) (h j : ℕ) → Sorted Bare Unary f v h → assigning p ≡ Some op → Reads Whole k w j
    → Row (f ++ mark q p ∷ k) (Updated (begin f) q v op w) (max h j + 1)
updated_from f k q p op v w h j s e y =
    let b = was_call s.shape in
    let cls : more_class (Begun (begin f) s.shape) (Mark p) ≡ Some (Updates op b) = shape_is s.shape p ∙ assign_class (is_post s.shape) b p op e in
    let m : grown (Updates op b) (s.height + 1) j ≡ max h j + 1 = let a = (left_extra s.shape b refl op).1 in let i = s.high in omega (arith, a, i) in
    rw (← m, ← s.is) (further_row f k q p (Updates op b) v h (new_value q op w) j s cls (mark q p, k, refl, (Begun (begin f) s.shape, cls), (w, refl, y)))

pub updated_row : (f k : List Placed) (q : Place) (p : Punctuator) (op : Op) (v w : LExpr) (h j : ℕ) → Reads Unary f v h → assigning p ≡ Some op → Reads Whole k w j
    → Row (f ++ mark q p ∷ k) (Updated (begin f) q v op w) (max h j + 1)
updated_row f k q p op v w h j x e y = updated_from f k q p op v w h j (sort Bare Unary f v h x) e y

stepped_from : (f : List Placed) (q : Place) (p : Punctuator) (op : Op) (v : LExpr) (h : ℕ) (s : Sorted Bare Unary f v h) → is_post s.shape ≡ true → stepping p ≡ Some op
    → Row (f ++ mark q p ∷ []) (SteppedBehind (begin f) q v op) (h + 1)
stepped_from f q p op v h s post e =
    let b = was_call s.shape in
    let cls : more_class (Begun (begin f) s.shape) (Mark p) ≡ Some (Steps op b) = shape_is s.shape p ∙ (ap (λ z. more_mark z b p) post ∙ step_class b p op e) in
    let m : grown (Steps op b) (s.height + 1) 0 ≡ h + 1 = let a = (left_extra s.shape b refl op).2 in let i = s.high in omega (arith, a, i) in
    rw (← m, ← s.is) (further_row f [] q p (Steps op b) v h (step q op) 0 s cls (mark q p, [], refl, (Begun (begin f) s.shape, cls), (tt, refl, (refl, refl))))

pub stepped_row : (f : List Placed) (q : Place) (p : Punctuator) (op : Op) (v : LExpr) (h : ℕ) → Reads Postfix f v h → stepping p ≡ Some op → Row (f ++ mark q p ∷ []) (SteppedBehind (begin f) q v op) (h + 1)
stepped_row f q p op v h x e = let s = shaped_post f v h x in stepped_from f q p op v h s.0 s.1 e

-- the tokens of an expression have a first one
pub unary_begins : (f : List Placed) (v : LExpr) (h : ℕ) → Reads Unary f v h → (t : Placed) × (g : List Placed) × (f ≡ t ∷ g)
unary_begins f v h r = let k = starts_reads.head f v h (unary_whole f v h r) in (k.0, k.1, k.2)

-- what stands behind an expression doesn't change its place
begin_same : (f g : List Placed) (v : LExpr) (h : ℕ) → Reads Postfix f v h → begin (f ++ g) ≡ begin f
begin_same f g v h r = let k = unary_begins f v h (a_postfix f v h r) in rw k.2 refl

pub performed_row : (f g : List Placed) (q r : Place) (v : LExpr) (vs : LExprs) (h j : ℕ) → Reads Postfix f v h → ReadsArgs g vs j
    → Row (f ++ mark q P.LeftParen ∷ (g ++ mark r P.RightParen ∷ [])) (Begun (begin f) (Calling q v vs)) (max h j + 1)
performed_row f g q r v vs h j x y =
    let whole' : List Placed = f ++ mark q P.LeftParen ∷ (g ++ mark r P.RightParen ∷ []) in
    rw (← begin_same f (mark q P.LeftParen ∷ (g ++ mark r P.RightParen ∷ [])) v h x) (begin_row whole' (Calling q v vs) (max h j) (calling f g q r v vs h j x y))

performed_call : (f : List Placed) (o : Place) (v : LExpr) (vs : LExprs) (h : ℕ) → ReadsCalling f o v vs h → ReadsSimple f (stmt_of (Begun (begin f) (Calling o v vs))) (h + 1)
performed_call f o v vs h (calling g k q r w ws i j x y) =
    rw (begin_same g (mark q P.LeftParen ∷ (k ++ mark r P.RightParen ∷ [])) w i x) (performed g k q r w ws i j x y)

-- What is complete is a statement.
pub of_meant : (f : List Placed) (s : Simple) (h : ℕ) → complete s ≡ true → Meant f s h → ReadsSimple f (stmt_of s) h
of_meant f (Begun q (Calling o v vs)) h ok (i, n, e, r) = rw (n, e) (performed_call f o v vs i r)
of_meant f (Begun q (Postfixed v)) h ok m = absurd cc
of_meant f (Begun q (Other v)) h ok m = absurd cc
of_meant f (Given q o v r) h ok (g, k, i, j, e, n, b, x, y) = rw (e, n, b) (assigned g k o v r i j x y)
of_meant f (Updated q o v op w) h ok (g, p, k, i, j, e, n, b, x, a, y) = rw (e, n, b) (updated g k o p op v w i j x a y)
of_meant f (SteppedBehind q o v op) h ok (g, p, i, e, n, b, x, a) = rw (e, n, b) (stepped_behind g o p op v i x a)
of_meant f (SteppedBefore q v op) h ok m = absurd m
of_meant f (Detached q x vs) h ok m = absurd m
