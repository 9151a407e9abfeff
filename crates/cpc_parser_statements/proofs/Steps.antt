-- Single steps of the readers, as the code takes them.
use Rattle.std.proofs.Common.{◌≡◌, ℕ, zero, suc, ◌+◌, ◌-◌, ◌≤◌, ◌<◌, true, List, [], ◌∷◌, Option, Some, None, max, refl, ap, subst, ◌∙◌, arith, nat_lt}
use Rattle.cpc_base.specs.declared.stop.Place.{Place}
use Rattle.cpc_base.proofs.Truth.{lt_fails, lt_holds}
use Rattle.cpc_num.specs.declared.kinds.Op.{Op}
use Rattle.cpc_num.specs.declared.kinds.Op.TheVariants as O
use Rattle.cpc_tree.specs.Tokens.{Lexeme, Placed}
use Rattle.cpc_tree.specs.Located.{LExpr, LStmt}
use Rattle.cpc_tree.specs.StmtGrammar.{Right, begin, given, stepped}
use Rattle.cpc_tree.specs.Located as L
use Rattle.cpc_tree.specs.ExprGrammar.{Unary}
use Rattle.cpc_parser_reading.specs.Reading.{Reading, Read, Fault, Deep, Reader, ◌>>=◌, allowed, below, mapped, one_of}
use Rattle.cpc_parser_reading.specs.Chain.{links}
use Rattle.cpc_parser_reading.proofs.Readers.{links_end, links_stop, links_deep, links_on}
use Rattle.cpc_parser_expressions.specs.Shapes.{Bare, Shape, Calling, Postfixed, Other, whole, extra}
use Rattle.cpc_parser_expressions.specs.ExprReaders.{shape_at, expr_at}
use Rattle.cpc_parser_statements.specs.SimpleReaders.{right_at, Simple, Begun, begun_of, Given, Updated, SteppedBehind, stmt_of, complete, More, Sets, Updates, Steps, more_class, right_side, new_value, more_part, more_make, more_left, more_links, expression_at}
use Rattle.cpc_parser_statements.specs.CodeViews.{of_first, is_calling, behind_at, alone_at}
use Rattle.cpc_parser_statements.proofs.Simples.{grown}
use Rattle.cpc_parser_statements.proofs.SimpleExact.{joint, pieces, reach, piece_is}

-- a choice by the first token
pub choice_none : {C A : Type 0} (class : Lexeme → Option C) (low : C → ℕ) (d : ℕ) (F : C → Reader Placed A) (ts : List Placed) → of_first class ts ≡ None → one_of (λ t. class t.lexeme) low d F ts ≡ Fault ts
choice_none class low d F [] e = refl
choice_none class low d F (t ∷ rest) e = rw e refl

pub choice_deep : {C A : Type 0} (class : Lexeme → Option C) (low : C → ℕ) (d : ℕ) (F : C → Reader Placed A) (ts : List Placed) (c : C) → of_first class ts ≡ Some c → d < low c → one_of (λ t. class t.lexeme) low d F ts ≡ Deep ts
choice_deep class low d F [] c e le = absurd cc
choice_deep class low d F (t ∷ rest) c e le = let f : nat_lt d (low c) ≡ true = grind arith in rw (e, f) refl

pub choice_some : {C A : Type 0} (class : Lexeme → Option C) (low : C → ℕ) (d : ℕ) (F : C → Reader Placed A) (ts : List Placed) (c : C) → of_first class ts ≡ Some c → low c ≤ d → one_of (λ t. class t.lexeme) low d F ts ≡ F c ts
choice_some class low d F [] c e le = absurd cc
choice_some class low d F (t ∷ rest) c e le = rw (e, lt_fails d (low c) le) refl

-- What follows a first expression.
not_more : (d : ℕ) (v : Simple) (h : ℕ) (ts : List Placed) → ((k : Lexeme) → more_class v k ≡ None) → links (more_links d) v h ts ≡ Read (v, h, ts)
not_more d v h [] e = links_end (more_links d) v h
not_more d v h (t ∷ rest) e = links_stop (more_links d) v h t rest (e t.lexeme)

-- nothing
no_more : (d : ℕ) (q : Place) (s : Shape) (h : ℕ) (ts : List Placed) → of_first (more_class (Begun q s)) ts ≡ None → links (more_links d) (Begun q s) h ts ≡ Read (Begun q s, h, ts)
no_more d q s h [] e = links_end (more_links d) (Begun q s) h
no_more d q s h (t ∷ rest) e = links_stop (more_links d) (Begun q s) h t rest e

-- only a call is a statement alone
pub behind_none : (d : ℕ) (q : Place) (s : Shape) (h : ℕ) (ts : List Placed) → of_first (more_class (Begun q s)) ts ≡ None → behind_at d q s h ts ≡ alone_at q s h ts
behind_none d q (Calling o v vs) h ts e = rw (no_more d q (Calling o v vs) (h + 1) ts e) refl
behind_none d q (Postfixed v) h ts e = rw (no_more d q (Postfixed v) (h + 1) ts e) refl
behind_none d q (Other v) h ts e = rw (no_more d q (Other v) (h + 1) ts e) refl

left_of : (s : Shape) (op : Op) → (more_left (Sets (is_calling s)) ≡ extra s) × (more_left (Updates op (is_calling s)) ≡ extra s) × (more_left (Steps op (is_calling s)) ≡ extra s)
left_of (Calling q v vs) op = (refl, refl, refl)
left_of (Postfixed v) op = (refl, refl, refl)
left_of (Other v) op = (refl, refl, refl)

-- no room for more
pub behind_deep : (d : ℕ) (q : Place) (s : Shape) (h : ℕ) (t : Placed) (rest : List Placed) (c : More) → more_class (Begun q s) t.lexeme ≡ Some c → d < (h + 1) + more_left c → behind_at d q s h (t ∷ rest) ≡ Deep (t ∷ rest)
behind_deep d q s h t rest c e le = rw (links_deep (more_links d) (Begun q s) (h + 1) t rest c e (lt_holds d ((h + 1) + more_left c) le)) refl

-- a part more
on : (n d : ℕ) (q : Place) (s : Shape) (h : ℕ) (t : Placed) (rest : List Placed) (c : More) → d ≤ suc n → 1 ≤ h → (h + 1) + more_left c ≤ d → more_class (Begun q s) t.lexeme ≡ Some c
    → links (more_links d) (Begun q s) (h + 1) (t ∷ rest) ≡ (more_part (below d) c (t ∷ rest) >>= λ z. links (more_links d) (more_make c (Begun q s) z.0) (grown c (h + 1) z.1) z.2)
on n d q s h t rest c le lo hi e =
    links_on (joint n) (pieces n) (reach n) (λ d c. more_part (below d) c) (λ d c t rest a b i. piece_is d c t rest) d le c (Begun q s) (h + 1) t rest (omega (arith, lo)) (omega (arith, hi)) e (lt_fails d ((h + 1) + more_left c) hi)

-- the room inside
pub below_is : (d : ℕ) → below d ≡ d - 1
below_is zero = refl
below_is (suc d) = omega arith

nest_is : (h l x j : ℕ) → l ≡ x → max ((h + 1) + l) (j + 1) ≡ max (h + x) j + 1
nest_is h l x j e = omega (arith, e)

after_right : (d : ℕ) (q o : Place) (s : Shape) (h : ℕ) (r : Reading Placed Right)
    → (((r >>= λ x. Read (right_side o x.0, x.1, x.2)) >>= λ z. links (more_links d) (more_make (Sets (is_calling s)) (Begun q s) z.0) (grown (Sets (is_calling s)) (h + 1) z.1) z.2) >>= λ x. allowed (complete x.0) x)
    ≡ (r >>= λ z. Read (Given q o (whole s) z.0, max (h + extra s) z.1 + 1, z.2))
after_right d q o s h (Read z) =
    let m : grown (Sets (is_calling s)) (h + 1) z.1 ≡ max (h + extra s) z.1 + 1 = nest_is h (more_left (Sets (is_calling s))) (extra s) z.1 (left_of s O.Add).0 in
    rw (not_more d (Given q o (whole s) z.0) (grown (Sets (is_calling s)) (h + 1) z.1) z.2 (λ k. refl), m) refl
after_right d q o s h (Fault left) = refl
after_right d q o s h (Deep left) = refl

seen_right : (q o : Place) (v : LExpr) (h : ℕ) (r : Reading Placed Right)
    → ((r >>= λ z. Read (Given q o v z.0, max h z.1 + 1, z.2)) >>= λ x. Read (stmt_of x.0, x.1, x.2)) ≡ (r >>= λ z. Read (given q o v z.0, max h z.1 + 1, z.2))
seen_right q o v h (Read z) = refl
seen_right q o v h (Fault left) = refl
seen_right q o v h (Deep left) = refl

-- = and what is written
pub behind_sets : (d : ℕ) (q : Place) (s : Shape) (h : ℕ) (t : Placed) (rest : List Placed) → 1 ≤ h → h + extra s < d → more_class (Begun q s) t.lexeme ≡ Some (Sets (is_calling s))
    → behind_at d q s h (t ∷ rest) ≡ (right_at (d - 1) rest >>= λ z. Read (given q t.place (whole s) z.0, max (h + extra s) z.1 + 1, z.2))
behind_sets d q s h t rest lo hi e =
    let fits : (h + 1) + more_left (Sets (is_calling s)) ≤ d = let a = (left_of s O.Add).0 in omega (arith, a, hi) in
    subst (λ x. behind_at d q s h (t ∷ rest) ≡ (right_at x rest >>= λ z. Read (given q t.place (whole s) z.0, max (h + extra s) z.1 + 1, z.2))) (below_is d)
    (rw (on d d q s h t rest (Sets (is_calling s)) (omega arith) lo fits e) (ap (λ r. r >>= λ x. Read (stmt_of x.0, x.1, x.2)) (after_right d q t.place s h (right_at (below d) rest)) ∙ seen_right q t.place (whole s) (h + extra s) (right_at (below d) rest)))

after_value : (d : ℕ) (q o : Place) (op : Op) (s : Shape) (h : ℕ) (r : Reading Placed LExpr)
    → ((((r >>= λ x. Read (new_value o op x.0, x.1, x.2)) >>= λ z. links (more_links d) (more_make (Updates op (is_calling s)) (Begun q s) z.0) (grown (Updates op (is_calling s)) (h + 1) z.1) z.2) >>= λ x. allowed (complete x.0) x)
    >>= λ x. Read (stmt_of x.0, x.1, x.2)) ≡ (r >>= λ z. Read (L.Assign q o (whole s) (Some op) z.0, max (h + extra s) z.1 + 1, z.2))
after_value d q o op s h (Read z) =
    let m : grown (Updates op (is_calling s)) (h + 1) z.1 ≡ max (h + extra s) z.1 + 1 = nest_is h (more_left (Updates op (is_calling s))) (extra s) z.1 (left_of s op).1 in
    rw (not_more d (Updated q o (whole s) op z.0) (grown (Updates op (is_calling s)) (h + 1) z.1) z.2 (λ k. refl), m) refl
after_value d q o op s h (Fault left) = refl
after_value d q o op s h (Deep left) = refl

-- a compound assignment and the value
pub behind_updates : (d : ℕ) (q : Place) (s : Shape) (op : Op) (h : ℕ) (t : Placed) (rest : List Placed) → 1 ≤ h → h + extra s < d → more_class (Begun q s) t.lexeme ≡ Some (Updates op (is_calling s))
    → behind_at d q s h (t ∷ rest) ≡ (expr_at (d - 1) rest >>= λ z. Read (L.Assign q t.place (whole s) (Some op) z.0, max (h + extra s) z.1 + 1, z.2))
behind_updates d q s op h t rest lo hi e =
    let fits : (h + 1) + more_left (Updates op (is_calling s)) ≤ d = let a = (left_of s op).1 in omega (arith, a, hi) in
    subst (λ x. behind_at d q s h (t ∷ rest) ≡ (expr_at x rest >>= λ z. Read (L.Assign q t.place (whole s) (Some op) z.0, max (h + extra s) z.1 + 1, z.2))) (below_is d)
    (rw (on d d q s h t rest (Updates op (is_calling s)) (omega arith) lo fits e) (after_value d q t.place op s h (expr_at (below d) rest)))

-- ++ and --
pub behind_steps : (d : ℕ) (q : Place) (s : Shape) (op : Op) (h : ℕ) (t : Placed) (rest : List Placed) → 1 ≤ h → h + extra s < d → more_class (Begun q s) t.lexeme ≡ Some (Steps op (is_calling s))
    → behind_at d q s h (t ∷ rest) ≡ Read (stepped q t.place (whole s) op, (h + extra s) + 1, rest)
behind_steps d q s op h t rest lo hi e =
    let fits : (h + 1) + more_left (Steps op (is_calling s)) ≤ d = let a = (left_of s op).2 in omega (arith, a, hi) in
    let m : grown (Steps op (is_calling s)) (h + 1) 0 ≡ (h + extra s) + 1 = let a = (left_of s op).2 in omega (arith, a) in
    rw (on d d q s h t rest (Steps op (is_calling s)) (omega arith) lo fits e, not_more d (SteppedBehind q t.place (whole s) op) (grown (Steps op (is_calling s)) (h + 1) 0) rest (λ k. refl), m) refl

after_first : (d : ℕ) (q : Place) (r : Reading Placed Shape)
    → (((((r >>= λ x. Read ((q, x.0), x.1, x.2)) >>= λ x. Read (begun_of x.0, x.1 + 1, x.2)) >>= λ x. links (more_links d) x.0 x.1 x.2) >>= λ x. allowed (complete x.0) x) >>= λ x. Read (stmt_of x.0, x.1, x.2))
    ≡ (r >>= λ x. behind_at d q x.0 x.1 x.2)
after_first d q (Read z) = refl
after_first d q (Fault left) = refl
after_first d q (Deep left) = refl

-- what begins with an expression
pub expression_is : (d : ℕ) (ts : List Placed) → mapped stmt_of (expression_at d) ts ≡ (shape_at (d - 1) Bare Unary ts >>= λ x. behind_at d (begin ts) x.0 x.1 x.2)
expression_is d ts = subst (λ x. mapped stmt_of (expression_at d) ts ≡ (shape_at x Bare Unary ts >>= λ x. behind_at d (begin ts) x.0 x.1 x.2)) (below_is d) (after_first d (begin ts) (shape_at (below d) Bare Unary ts))
