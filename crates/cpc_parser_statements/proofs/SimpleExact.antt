-- Statements without their (marks P.Semicolon) are read exactly.
use Rattle.std.proofs.Common.{◌≡◌, ℕ, suc, ◌+◌, ◌≤◌, Bool, true, false, is_some, List, [], ◌∷◌, ◌++◌, Option, Some, None, refl, ap, subst, append_assoc, arith, nat_lt, inl, inr}
use Rattle.cpc_base.specs.declared.stop.Place.{Place}
use Rattle.cpc_base.proofs.Truth.{lt_not_means, lt_fails}
use Rattle.cpc_num.specs.declared.kinds.Op.{Op}
use Rattle.cpc_tree.specs.declared.token.Keyword.TheVariants as K
use Rattle.cpc_tree.specs.declared.token.Punctuator.{Punctuator}
use Rattle.cpc_tree.specs.declared.token.Punctuator.TheVariants as P
use Rattle.cpc_tree.specs.Tokens.{Lexeme, Word, Mark, Placed}
use Rattle.cpc_tree.specs.Located.{LExpr, NoLExpr, LStmt}
use Rattle.cpc_tree.specs.TypeGrammar.{word, mark, named}
use Rattle.cpc_tree.specs.ExprGrammar.{Unary, Whole, Reads, no_args, a_postfix}
use Rattle.cpc_tree.specs.StmtGrammar.{begin, Right, Section, ReadsRight, a_section, section, stepping, ReadsSimple, assigned, updated, stepped_behind, stepped_before, performed, detached}
use Rattle.cpc_parser_reading.specs.Reading.{below, made}
use Rattle.cpc_parser_reading.specs.Phrase.{Headed, Made, Only, OneOf}
use Rattle.cpc_parser_reading.specs.Chain.{chain, first, further, Joint, down}
use Rattle.cpc_parser_reading.specs.Exact.{Opens, Exact, Branch, Starts}
use Rattle.cpc_parser_reading.proofs.Readers.{branch, exact_chain, exact_made, exact_mapped, exact_nothing, exact_one_of, exact_only, exact_stop, headed_branch, starts_as, starts_chain, starts_made, starts_one_of}
use Rattle.cpc_parser_types.specs.Views.{lexeme}
use Rattle.cpc_parser_types.specs.TypeReaders.{is_name}
use Rattle.cpc_parser_expressions.specs.Shapes.{Never, Bare, Shape, Calling, Postfixed, Other, whole, ReadsShape}
use Rattle.cpc_parser_expressions.specs.ExprReaders.{shape_at, starts_expr, ShapeEnd}
use Rattle.cpc_parser_statements.specs.SimpleReaders.{standing, RightEnd, Simple, Begun, Given, Updated, SteppedBehind, SteppedBefore, Detached, stmt_of, complete, begun_of, More, Sets, Updates, Steps, more_class, Behind, right_side, new_value, step, step_of, more_part, more_make, more_left, more_right, more_least, more_links, expression_at, First, Word', Step, Expression, first_expr, first_step, simple_class, simple_low, detach_of, before_of, simple_part, simple_at, SimpleEnd}
use Rattle.cpc_parser_expressions.proofs.ExprExact.{shape_exact, expr_exact}
use Rattle.cpc_parser_expressions.proofs.ExprStarts.{starts_unary}
use Rattle.cpc_parser_statements.proofs.Ends.{equal_unary, assign_unary, step_unary}
use Rattle.cpc_parser_statements.proofs.Standing.{exact_standing, starts_standing}
use Rattle.cpc_parser_statements.proofs.Within.{exact_within}
use Rattle.cpc_parser_statements.proofs.Marks.{here, as_mark}
use Rattle.cpc_parser_statements.proofs.Sides.{Detached', detached_exact, of_detached, to_detached, right_exact}
use Rattle.cpc_parser_statements.proofs.Splits.{unary_kind}
use Rattle.cpc_parser_expressions.proofs.Sorts.{other_reads}
use Rattle.cpc_parser_statements.proofs.Mores.{was_call, is_post, Says, class_says}
use Rattle.cpc_parser_statements.proofs.Simples.{Goes, Follows, Always, grown, Row, of_row, of_meant, given_row, updated_row, stepped_row, performed_row}

-- what may stand behind what has been read, and behind what follows
abbrev pub FirstEnd : Simple → Lexeme → Type 0
FirstEnd (Begun q s) k = ShapeEnd Unary k
FirstEnd (Given q o v r) k = RightEnd r k
FirstEnd (Updated q o v op w) k = ShapeEnd Whole k
FirstEnd (SteppedBehind q o v op) k = Unit {0}
FirstEnd (SteppedBefore q v op) k = ShapeEnd Unary k
FirstEnd (Detached q x vs) k = Unit {0}

abbrev pub FollowEnd : More → Behind → Lexeme → Type 0
FollowEnd c (right_side o r) k = RightEnd r k
FollowEnd c (new_value o op w) k = ShapeEnd Whole k
FollowEnd c (step o op) k = Unit {0}

end_to : (c : More) (s : Simple) (w : Behind) (k : Lexeme) → FollowEnd c w k → FirstEnd (more_make c s w) k
end_to c s (right_side o r) k q = q
end_to c s (new_value o op w) k q = q
end_to c s (step o op) k q = tt

end_of : (c : More) (s : Simple) (w : Behind) (k : Lexeme) → FirstEnd (more_make c s w) k → FollowEnd c w k
end_of c s (right_side o r) k q = q
end_of c s (new_value o op w) k q = q
end_of c s (step o op) k q = tt

unary_end : (post b : Bool) (p : Punctuator) (c : More) → Says post b p c → ShapeEnd Unary (Mark p)
unary_end post b p (Sets d) says = rw says.0 equal_unary
unary_end post b p (Updates op d) says = assign_unary p op says.0
unary_end post b p (Steps op d) says = step_unary p op says.1

more_clear : (s : Simple) (k : Lexeme) (c : More) → more_class s k ≡ Some c → FirstEnd s k
more_clear s k c e =
    let (q, sh, p, es, ek, says) = class_says s k c e in
    rw (es, ek) (unary_end (is_post sh) (was_call sh) p c says)

more_cost : (c : More) → more_least c + more_right c ≤ 2
more_cost (Sets b) = omega arith
more_cost (Updates op b) = omega arith
more_cost (Steps op b) = omega arith

pub joint : (n : ℕ) → Joint lexeme (suc n) 2 more_class (λ d c h. nat_lt d (h + more_left c)) more_make grown Always Goes FirstEnd FollowEnd more_left more_right more_least
joint n = record {
  begins = λ s k c e. (s, e);
  clear = λ s k c e ok. more_clear s k c e;
  suits = λ s k c e q. tt;
  to = end_to;
  of = end_of;
  grows = λ c h j. refl;
  fits = λ d c h lo hi le e. let a = lt_not_means d (h + more_left c) e in (a, let b = more_cost c in omega (arith, b));
  free = λ d c h a b. lt_fails d (h + more_left c) a;
}

abbrev pub above : ℕ → More → ℕ
above n (Sets b) = n
above n (Updates op b) = n
above n (Steps op b) = suc n

pub pieces : (n : ℕ) (c : More) → Branch lexeme (Goes c) (above n c) (more_least c) (λ d. more_part d c) (Follows c) (FollowEnd c)
pieces n (Sets b) = headed_branch (λ t e. exact_mapped (right_side t.place) (FollowEnd (Sets b)) (right_exact n) (λ w k q. q) (λ w k q. q))
pieces n (Updates op b) = headed_branch (λ t e. exact_mapped (new_value t.place op) (FollowEnd (Updates op b)) (expr_exact n) (λ w k q. q) (λ w k q. q))
pieces n (Steps op b) = headed_branch (λ t e. exact_mapped (step_of t.place op) (FollowEnd (Steps op b)) (exact_nothing (suc n)) (λ w k q. tt) (λ w k q. tt))

pub reach : (n : ℕ) (c : More) → suc n ≤ above n c + more_right c
reach n (Sets b) = omega arith
reach n (Updates op b) = omega arith
reach n (Steps op b) = omega arith

pub piece_is : (d : ℕ) (c : More) (t : Placed) (rest : List Placed) → more_part (down (more_right c) d) c (t ∷ rest) ≡ more_part (below d) c (t ∷ rest)
piece_is d (Sets b) t rest = refl
piece_is d (Updates op b) t rest = refl
piece_is d (Steps op b) t rest = refl

shape_head : (f : List Placed) (s : Shape) (h : ℕ) → ReadsShape Bare Unary f s h → (t : Placed) × (g : List Placed) × (f ≡ t ∷ g)
shape_head f s h r = let b = (starts_unary Bare).head f s h r in (b.0, b.1, b.2)

-- with what may stand behind a row
row_exact : (n : ℕ) → Exact lexeme (suc n) 2 (λ d. chain (made begun_of (standing (shape_at (below d) Bare Unary))) (more_links d)) Row (λ s k. FirstEnd s k × (more_class s k ≡ None))
row_exact n = exact_chain (joint n) (pieces n) (reach n) (λ d c. more_part (below d) c) (λ d c t rest a b i. piece_is d c t rest)
    (exact_made begun_of FirstEnd (exact_standing (shape_exact n Bare Unary) shape_head) (λ w k q. q) (λ w k q. q))

-- the shortest section, which makes a statement of what has been read
abbrev short : List Placed
short = word here K.CpcDetached ∷ named (record { place = here; text = [] }) ∷ mark here P.LeftParen ∷ mark here P.RightParen ∷ []

abbrev the_side : Right
the_side = Section here (record { place = here; text = [] }) NoLExpr

short_side : ReadsRight short the_side 0
short_side = a_section short here (record { place = here; text = [] }) NoLExpr 0 (section [] here here here (record { place = here; text = [] }) NoLExpr 0 no_args)

set_short : (d : ℕ) (front f : List Placed) (q : Place) (s : Shape) (h : ℕ) → more_class (Begun q s) (Mark P.Equal) ≡ Some (Sets false) → 2 ≤ d → Row (front ++ f) (Begun q s) h → h ≤ d → Opens (Only complete Row) d front
set_short d front f q s h e le r fits = record {
  rest = f ++ mark here P.Equal ∷ short;
  value = Given q here (whole s) the_side;
  nest = grown (Sets false) h 0;
  reads = (
    refl,
    rw (← append_assoc front f (mark here P.Equal ∷ short)) (further (front ++ f) short (mark here P.Equal) (Sets false) (Begun q s) (right_side here the_side) h 0 r e tt
        (mark here P.Equal, short, refl, (Begun q s, e), (the_side, refl, short_side))),
  );
  fits = omega arith;
}

-- what is no statement yet becomes one
finish : (d : ℕ) (front f : List Placed) (s : Simple) (h : ℕ) → 2 ≤ d → Row (front ++ f) s h → h ≤ d → Opens (Only complete Row) d front
finish d front f (Begun q (Calling o v vs)) h le r fits = record { rest = f; value = Begun q (Calling o v vs); nest = h; reads = (refl, r); fits = fits }
finish d front f (Begun q (Postfixed v)) h le r fits = set_short d front f q (Postfixed v) h refl le r fits
finish d front f (Begun q (Other v)) h le r fits = set_short d front f q (Other v) h refl le r fits
finish d front f (Given q o v k) h le r fits = record { rest = f; value = Given q o v k; nest = h; reads = (refl, r); fits = fits }
finish d front f (Updated q o v op w) h le r fits = record { rest = f; value = Updated q o v op w; nest = h; reads = (refl, r); fits = fits }
finish d front f (SteppedBehind q o v op) h le r fits = record { rest = f; value = SteppedBehind q o v op; nest = h; reads = (refl, r); fits = fits }
finish d front f (SteppedBefore q v op) h le r fits = absurd (of_row (front ++ f) (SteppedBefore q v op) h r)
finish d front f (Detached q x vs) h le r fits = absurd (of_row (front ++ f) (Detached q x vs) h r)

row_end : (s : Simple) (k : Lexeme) → FirstEnd s k × (more_class s k ≡ None) → SimpleEnd s k
row_end (Begun q s) k e = e
row_end (Given q o v r) k e = e.0
row_end (Updated q o v op w) k e = e.0
row_end (SteppedBehind q o v op) k e = tt
row_end (SteppedBefore q v op) k e = e.0
row_end (Detached q x vs) k e = tt

end_row : (s : Simple) (k : Lexeme) → SimpleEnd s k → FirstEnd s k × (more_class s k ≡ None)
end_row (Begun q s) k e = e
end_row (Given q o v r) k e = (e, refl)
end_row (Updated q o v op w) k e = (e, refl)
end_row (SteppedBehind q o v op) k e = (tt, refl)
end_row (SteppedBefore q v op) k e = (e, refl)
end_row (Detached q x vs) k e = (tt, refl)

expression_exact : (n : ℕ) → Exact lexeme (suc n) 2 (λ d. expression_at d) (Only complete Row) SimpleEnd
expression_exact n = exact_stop SimpleEnd
    (exact_only complete (row_exact n) (let o = (row_exact n).sample in finish 2 [] o.rest o.value o.nest (omega arith) o.reads o.fits) (λ d front a o. finish d front o.rest o.value o.nest a o.reads o.fits))
    row_end end_row

-- the lists of each class of simple statements
abbrev pub Simples : First → List Placed → Simple → ℕ → Type 0
Simples Word' = Headed lexeme (λ k. simple_class k ≡ Some Word') (λ t. Made (detach_of t.place) Detached')
Simples (Step op) = Headed lexeme (λ k. simple_class k ≡ Some (Step op)) (λ t. Made (before_of t.place op) (ReadsShape Never Unary))
Simples Expression = Only complete Row

-- a simple statement, in the readers' words
abbrev pub Simply : List Placed → Simple → ℕ → Type 0
Simply = OneOf Simples

-- what each class says of the token
expr_says : (b : Bool) → first_expr b ≡ Some Expression → b ≡ true
expr_says true e = refl
expr_says false e = absurd cc

so_expr : (b : Bool) → b ≡ true → first_expr b ≡ Some Expression
so_expr b e = rw e refl

expr_no_step : (b : Bool) (op : Op) → first_expr b ≡ Some (Step op) → ⊥
expr_no_step true op e = cc
expr_no_step false op e = cc

no_expr_word : (b : Bool) → first_expr b ≡ Some Word' → ⊥
no_expr_word true e = cc
no_expr_word false e = cc

no_word : (k : Lexeme) (o : Option Op) → first_step k o ≡ Some Word' → ⊥
no_word k (Some op) e = cc
no_word k None e = no_expr_word (starts_expr k) e

first_says : (k : Lexeme) (o : Option Op) → first_step k o ≡ Some Expression → starts_expr k ≡ true
first_says k (Some op) e = absurd cc
first_says k None e = expr_says (starts_expr k) e

expr_class : (k : Lexeme) → simple_class k ≡ Some Expression → starts_expr k ≡ true
expr_class (Word K.CpcDetached) e = absurd cc
expr_class (Mark p) e = first_says (Mark p) (stepping p) e
expr_class k e = expr_says (starts_expr k) e

no_step : (p : Punctuator) → starts_expr (Mark p) ≡ true → stepping p ≡ None
no_step P.Increment e = absurd cc
no_step P.Decrement e = absurd cc
no_step p e = refl

class_expr : (k : Lexeme) → starts_expr k ≡ true → simple_class k ≡ Some Expression
class_expr (Word K.CpcDetached) e = absurd cc
class_expr (Mark p) e = rw (no_step p e) (rw e refl)
class_expr k e = so_expr (starts_expr k) e

word_class : (k : Lexeme) → simple_class k ≡ Some Word' → k ≡ Word K.CpcDetached
word_class (Word K.CpcDetached) e = refl
word_class (Mark p) e = absurd (no_word (Mark p) (stepping p) e)
word_class k e = absurd (no_word k None e)

step_of_class : (k : Lexeme) (p : Punctuator) (o : Option Op) (op : Op) → stepping p ≡ o → first_step k o ≡ Some (Step op) → stepping p ≡ Some op
step_of_class k p (Some oq) op i e = cc
step_of_class k p None op i e = absurd (expr_no_step (starts_expr k) op e)

step_says : (k : Lexeme) (op : Op) → simple_class k ≡ Some (Step op) → (p : Punctuator) × (k ≡ Mark p) × (stepping p ≡ Some op)
step_says (Word K.CpcDetached) op e = absurd cc
step_says (Mark p) op e = (p, refl, step_of_class (Mark p) p (stepping p) op refl e)
step_says k op e = absurd (expr_no_step (starts_expr k) op e)

-- an expression of which no call is taken apart
whole_reads : (f : List Placed) (s : Shape) (h : ℕ) → ReadsShape Never Unary f s h → Reads Unary f (whole s) h
whole_reads f (Calling q v vs) h r = absurd r
whole_reads f (Postfixed v) h r = a_postfix f v h r
whole_reads f (Other v) h r = other_reads Unary f v h r

reads_whole : (f : List Placed) (v : LExpr) (h : ℕ) → Reads Unary f v h → (s : Shape) × (v ≡ whole s) × ReadsShape Never Unary f s h
reads_whole f v h r = elim (unary_kind f v h r) [ inl a ↦ (Postfixed v, refl, a) | inr a ↦ (Other v, refl, a) ]

of_before : (f : List Placed) (s : Simple) (h : ℕ) (op : Op) → Simples (Step op) f s h → ReadsSimple f (stmt_of s) h
of_before f s h op (t, g, e, p, (w, i, e1, n, r)) =
    let (m, el, es) = step_says t.lexeme op p in
    rw (e, e1, n, as_mark t m el) (stepped_before g t.place m op (whole w) i es (whole_reads g w i r))

-- A simple statement in the words of the grammar, and back.
pub of_simply : (f : List Placed) (s : Simple) (h : ℕ) → Simply f s h → ReadsSimple f (stmt_of s) h
of_simply f s h (Word', (t, g, e, p, (v, i, e1, n, d))) = rw (e, e1, n) (detached (t ∷ g) t.place v.0 v.1 i (of_detached g v i t (word_class t.lexeme p) d))
of_simply f s h (Step op, r) = of_before f s h op r
of_simply f s h (Expression, (ok, r)) = of_meant f s h ok (of_row f s h r)

before_simply : (f : List Placed) (q : Place) (p : Punctuator) (op : Op) (v : LExpr) (h : ℕ) → stepping p ≡ Some op → (s : Shape) × (v ≡ whole s) × ReadsShape Never Unary f s h → Simply (mark q p ∷ f) (SteppedBefore q v op) (h + 1)
before_simply f q p op v h e (s, i, r) = (Step op, (mark q p, f, refl, rw e refl, (s, h, ap (λ u. SteppedBefore q u op) i, refl, r)))

pub to_simply : (f : List Placed) (v : LStmt) (h : ℕ) → ReadsSimple f v h → (s : Simple) × (v ≡ stmt_of s) × Simply f s h
to_simply f v h (assigned g k q w r i j x y) = (Given (begin g) q w r, refl, (Expression, (refl, given_row g k q w r i j x y)))
to_simply f v h (updated g k q p op w u i j x e y) = (Updated (begin g) q w op u, refl, (Expression, (refl, updated_row g k q p op w u i j x e y)))
to_simply f v h (stepped_behind g q p op w i x e) = (SteppedBehind (begin g) q w op, refl, (Expression, (refl, stepped_row g q p op w i x e)))
to_simply f v h (stepped_before g q p op w i e x) = (SteppedBefore q w op, refl, before_simply g q p op w i e (reads_whole g w i x))
to_simply f v h (performed g k q r w vs i j x y) = (Begun (begin g) (Calling q w vs), refl, (Expression, (refl, performed_row g k q r w vs i j x y)))
to_simply f v h (detached g q x vs i s) = let k = to_detached g q x vs i s in (Detached q x vs, refl, (Word', (word q K.CpcDetached, k.0, k.1, refl, ((x, vs), i, refl, refl, k.2))))

row_head : (f : List Placed) (s : Simple) (h : ℕ) → Only complete Row f s h → (t : Placed) × (g : List Placed) × (f ≡ t ∷ g) × (simple_class t.lexeme ≡ Some Expression)
row_head f s h (ok, r) = let b = (starts_chain (starts_made (starts_standing (starts_unary Bare)) begun_of)).head f s h r in (b.0, b.1, b.2, class_expr b.0.lexeme b.3)

row_each : (t : Placed) → starts_expr t.lexeme ≡ true → (m : ℕ) × Opens (Only complete Row) m (t ∷ [])
row_each t e =
    let k = (starts_unary Bare).each t e in
    let o = k.1 in
    (k.0 + 2, finish (k.0 + 2) (t ∷ []) o.rest (Begun t.place o.value) (o.nest + 1) (omega arith) (first (t ∷ o.rest) (Begun t.place o.value) (o.nest + 1) ((t.place, o.value), o.nest, refl, refl, (refl, o.reads))) (omega (arith, o.fits)))

simple_branches : (n : ℕ) (c : First) → Branch lexeme (λ k. simple_class k ≡ Some c) (suc n) (simple_low c) (λ d. simple_part d c) (Simples c) SimpleEnd
simple_branches n Word' = headed_branch (λ t e. exact_made (detach_of t.place) SimpleEnd (detached_exact n) (λ w k q. tt) (λ w k q. tt))
simple_branches n (Step op) = headed_branch (λ t e. exact_made (before_of t.place op) SimpleEnd (shape_exact n Never Unary) (λ w k q. q) (λ w k q. q))
simple_branches n Expression = branch (record { head = row_head; each = λ t e. row_each t (expr_class t.lexeme e) }) (expression_exact n)

simple_lowest : (c : First) → 1 ≤ simple_low c
simple_lowest Word' = omega arith
simple_lowest (Step op) = omega arith
simple_lowest Expression = omega arith

simple_opens : Opens Simply 1 []
simple_opens = let o = (detached_exact 0).sample in record {
  rest = word here K.CpcDetached ∷ o.rest;
  value = detach_of here o.value;
  nest = o.nest + 1;
  reads = (Word', (word here K.CpcDetached, o.rest, refl, refl, (o.value, o.nest, refl, refl, o.reads)));
  fits = omega (arith, o.fits);
}

simple_some : (n : ℕ) → Exact lexeme (suc n) 1 (λ d. simple_at d) Simply SimpleEnd
simple_some n = exact_one_of simple_class (simple_branches n) simple_lowest simple_opens

-- Simple statements are read exactly.
pub simple_exact : (n : ℕ) → Exact lexeme n 1 (λ d. simple_at d) Simply SimpleEnd
simple_exact n = exact_within (omega arith) (simple_some n)

some_of : (o : Option First) → is_some o ≡ true → (c : First) × (o ≡ Some c)
some_of (Some c) e = (c, refl)
some_of None e = absurd cc

-- how they begin
pub starts_simply : Starts lexeme (λ k. is_some (simple_class k) ≡ true) Simply
starts_simply = starts_as (starts_one_of simple_class (λ c. (simple_branches 0 c).starts)) (λ k e. rw e.1 refl) (λ k e. some_of (simple_class k) e) (λ f v h q. q) (λ f v h q. q)

-- One that begins with a name nests two at least.
pub simply_solid : (f : List Placed) (s : Simple) (h : ℕ) → Simply f s h → (t : Placed) × (g : List Placed) × (f ≡ t ∷ g) × (is_name t.lexeme ≡ true → 2 ≤ h)
simply_solid f s h (Word', (t, g, e, p, r)) = (t, g, e, λ n. let i : is_name (Word K.CpcDetached) ≡ true = subst (λ k. is_name k ≡ true) (word_class t.lexeme p) n in absurd cc)
simply_solid f s h (Step op, (t, g, e, p, r)) = (t, g, e, λ n. let m = step_says t.lexeme op p in let i : is_name (Mark m.0) ≡ true = subst (λ k. is_name k ≡ true) m.1 n in absurd cc)
simply_solid f s h (Expression, r) = let b = row_head f s h r in (b.0, b.1, b.2, λ n. (expression_exact 0).least f s h r)
