-- How the code of simple statements follows their reader.
use Rattle.std.proofs.Common.{◌≡◌, ℕ, ◌+◌, ◌-◌, ◌≤◌, ◌<◌, List, [], ◌∷◌, length, Option, Some, None, Err, refl, ap, subst, ◌∙◌, arith}
use Rattle.std.proofs.lemmas.List.{length-map}
use Rattle.cpc_base.specs.declared.stop.Place.{Place}
use Rattle.cpc_num.specs.declared.kinds.Op.{Op}
use Rattle.cpc_tree.specs.declared.token.Token.{Token}
use Rattle.cpc_tree.specs.Erase.{Names}
use Rattle.cpc_tree.specs.Tokens.{Lexeme, Placed, placed_of}
use Rattle.cpc_tree.specs.Located.{LExpr}
use Rattle.cpc_tree.specs.StmtGrammar.{stepped}
use Rattle.cpc_tree.specs.ExprGrammar.{Unary}
use Rattle.cpc_parser_reading.specs.Reading.{Reading, Read, Fault, Deep, ◌>>=◌, mapped, made}
use Rattle.cpc_parser_reading.proofs.Readers.{read_nest}
use Rattle.cpc_parser_types.specs.Views.{placed, Gives}
use Rattle.cpc_parser_types.specs.declared.refusal.Refusal as GRefusal
use Rattle.cpc_parser_types.specs.declared.refusal.Refusal.TheVariants as R
use Rattle.cpc_parser_expressions.specs.Shapes.{Apart, Never, Bare, Shape, Calling, Postfixed, Other, whole, extra}
use Rattle.cpc_parser_expressions.specs.ExprReaders.{shape_at}
use Rattle.cpc_parser_expressions.proofs.ExprExact.{shape_exact}
use Rattle.cpc_parser_statements.specs.SimpleReaders.{Begun, stmt_of, More, Sets, Updates, Steps, more_class, more_left, Word', Step, Expression, simple_class, simple_low, simple_part, detach_of, detached_at, before_of}
use Rattle.cpc_parser_statements.specs.CodeViews.{of_first, is_calling, more_seen, plain_at, behind_at, assigned_at, updated_at}
use Rattle.cpc_parser_statements.specs.declared.class.More as GMore
use Rattle.cpc_parser_statements.specs.declared.class.More.TheVariants as M
use Rattle.cpc_parser_statements.proofs.Steps.{below_is, choice_none, choice_deep, choice_some, behind_deep, behind_sets, behind_updates, behind_steps, expression_is}
use Rattle.cpc_parser_statements.proofs.LocalSteps.{begin_at}

-- A refusal where the code stands.
pub deep_at : {A : Type 0} (names : Names) (ts : List Token) (r : Reading Placed A) → r ≡ Deep (placed names ts) → (left : List Placed) × (length left ≡ length ts) × (r ≡ Deep left)
deep_at names ts r e = (placed names ts, length-map ts (placed_of names), e)

-- What was refused before is refused.
pub gives_then : {X Y A B : Type 0} (view : X → A × ℕ × List Placed) (see : Y → B × ℕ × List Placed) (e : GRefusal.Refusal) (r : Reading Placed A) (f : A × ℕ × List Placed → Reading Placed B) → Gives view (Err e) r → Gives see (Err e) (r >>= f)
gives_then view see R.Memory r f g = tt
gives_then view see (R.Syntax n) r f g = (g.0, g.1, rw g.2 refl)
gives_then view see (R.Deep n) r f g = (g.0, g.1, rw g.2 refl)

-- at the end stands nothing
pub no_first : {C : Type 0} (f : Lexeme → Option C) (names : Names) (ts : List Token) (c : C) → length ts ≡ 0 → of_first f (placed names ts) ≡ Some c → ⊥
no_first f names [] c e i = cc
no_first f names (t ∷ rest) c e i = absurd (omega arith)

more_count : (s : Shape) (m : GMore.More) → more_left (more_seen s m) ≡ extra s
more_count (Calling q v vs) M.Sets = refl
more_count (Calling q v vs) (M.Updates op) = refl
more_count (Calling q v vs) (M.Steps op) = refl
more_count (Postfixed v) M.Sets = refl
more_count (Postfixed v) (M.Updates op) = refl
more_count (Postfixed v) (M.Steps op) = refl
more_count (Other v) M.Sets = refl
more_count (Other v) (M.Updates op) = refl
more_count (Other v) (M.Steps op) = refl

full : (d : ℕ) (q : Place) (s : Shape) (h : ℕ) (ts : List Placed) (c : More) → of_first (more_class (Begun q s)) ts ≡ Some c → d < (h + 1) + more_left c → behind_at d q s h ts ≡ Deep ts
full d q s h [] c e le = absurd cc
full d q s h (t ∷ rest) c e le = behind_deep d q s h t rest c e le

pub behind_full : (d : ℕ) (q : Place) (s : Shape) (h : ℕ) (ts : List Placed) (m : GMore.More) → of_first (more_class (Begun q s)) ts ≡ Some (more_seen s m) → d ≤ h + extra s → behind_at d q s h ts ≡ Deep ts
behind_full d q s h ts m e le = full d q s h ts (more_seen s m) e (let a = more_count s m in omega (arith, a, le))

pub sets_is : (names : Names) (d : ℕ) (q : Place) (s : Shape) (h : ℕ) (ts : List Token) (t : Token) (rest : List Token) (v : LExpr) (m : ℕ) → ts ≡ t ∷ rest → v ≡ whole s → m ≡ h + extra s → 0 < h → m < d
    → of_first (more_class (Begun q s)) (placed names ts) ≡ Some (Sets (is_calling s)) → behind_at d q s h (placed names ts) ≡ assigned_at (d - 1) q t.place v m (placed names rest)
sets_is names d q s h ts t rest v m e w n lo hi c =
    rw (e, w, n) (behind_sets d q s h (placed_of names t) (placed names rest) lo (omega (arith, n, hi)) (subst (λ z. of_first (more_class (Begun q s)) (placed names z) ≡ Some (Sets (is_calling s))) e c))

pub updates_is : (names : Names) (d : ℕ) (q : Place) (s : Shape) (h : ℕ) (ts : List Token) (t : Token) (rest : List Token) (op : Op) (v : LExpr) (m : ℕ) → ts ≡ t ∷ rest → v ≡ whole s → m ≡ h + extra s → 0 < h → m < d
    → of_first (more_class (Begun q s)) (placed names ts) ≡ Some (Updates op (is_calling s)) → behind_at d q s h (placed names ts) ≡ updated_at (d - 1) q t.place op v m (placed names rest)
updates_is names d q s h ts t rest op v m e w n lo hi c =
    rw (e, w, n) (behind_updates d q s op h (placed_of names t) (placed names rest) lo (omega (arith, n, hi)) (subst (λ z. of_first (more_class (Begun q s)) (placed names z) ≡ Some (Updates op (is_calling s))) e c))

pub steps_is : (names : Names) (d : ℕ) (q : Place) (s : Shape) (h : ℕ) (ts : List Token) (t : Token) (rest : List Token) (op : Op) (v : LExpr) (m : ℕ) → ts ≡ t ∷ rest → v ≡ whole s → m ≡ h + extra s → 0 < h → m < d
    → of_first (more_class (Begun q s)) (placed names ts) ≡ Some (Steps op (is_calling s)) → behind_at d q s h (placed names ts) ≡ Read (stepped q t.place v op, m + 1, placed names rest)
steps_is names d q s h ts t rest op v m e w n lo hi c =
    rw (e, w, n) (behind_steps d q s op h (placed_of names t) (placed names rest) lo (omega (arith, n, hi)) (subst (λ z. of_first (more_class (Begun q s)) (placed names z) ≡ Some (Steps op (is_calling s))) e c))

-- an expression nests one at least
pub unary_least : (d : ℕ) (a : Apart) (ts : List Placed) (z : Shape × ℕ × List Placed) → 1 ≤ d → shape_at d a Unary ts ≡ Read z → 0 < z.1
unary_least d a ts z le e = (read_nest (shape_exact d a Unary) d le (omega arith) ts z e).0

pub simple_word : (names : Names) (d : ℕ) (ts : List Token) (t : Token) (rest : List Token) → ts ≡ t ∷ rest → of_first simple_class (placed names ts) ≡ Some Word' → 0 < d
    → plain_at d (placed names ts) ≡ mapped stmt_of (made (detach_of t.place) (detached_at (d - 1))) (placed names rest)
simple_word names d ts t rest e c le = rw (choice_some simple_class simple_low d (simple_part d) (placed names ts) Word' c le, e, below_is d) refl

pub simple_step : (names : Names) (d : ℕ) (ts : List Token) (t : Token) (rest : List Token) (op : Op) → ts ≡ t ∷ rest → of_first simple_class (placed names ts) ≡ Some (Step op) → 2 ≤ d
    → plain_at d (placed names ts) ≡ mapped stmt_of (made (before_of t.place op) (shape_at (d - 1) Never Unary)) (placed names rest)
simple_step names d ts t rest op e c le = rw (choice_some simple_class simple_low d (simple_part d) (placed names ts) (Step op) c le, e, below_is d) refl

pub simple_expression : (names : Names) (d : ℕ) (ts : List Token) (t : Token) (rest : List Token) → ts ≡ t ∷ rest → of_first simple_class (placed names ts) ≡ Some Expression → 2 ≤ d
    → plain_at d (placed names ts) ≡ (shape_at (d - 1) Bare Unary (placed names ts) >>= λ x. behind_at d t.place x.0 x.1 x.2)
simple_expression names d ts t rest e c le =
    ap (λ r. r >>= λ x. Read (stmt_of x.0, x.1, x.2)) (choice_some simple_class simple_low d (simple_part d) (placed names ts) Expression c le) ∙ subst (λ z. mapped stmt_of (simple_part d Expression) (placed names ts) ≡ (shape_at (d - 1) Bare Unary (placed names ts) >>= λ x. behind_at d z x.0 x.1 x.2)) (begin_at names ts t rest e) (expression_is d (placed names ts))

pub simple_read : (names : Names) (d : ℕ) (ts : List Token) (t : Token) (rest : List Token) (s : Shape) (h : ℕ) (left : List Placed) → ts ≡ t ∷ rest → of_first simple_class (placed names ts) ≡ Some Expression → 2 ≤ d
    → shape_at (d - 1) Bare Unary (placed names ts) ≡ Read (s, h, left) → plain_at d (placed names ts) ≡ behind_at d t.place s h left
simple_read names d ts t rest s h left e c le r = simple_expression names d ts t rest e c le ∙ rw r refl

pub simple_none : (d : ℕ) (ts : List Placed) → of_first simple_class ts ≡ None → plain_at d ts ≡ Fault ts
simple_none d ts e = rw (choice_none simple_class simple_low d (simple_part d) ts e) refl

pub step_deep : (d : ℕ) (ts : List Placed) (op : Op) → of_first simple_class ts ≡ Some (Step op) → d < 2 → plain_at d ts ≡ Deep ts
step_deep d ts op e le = rw (choice_deep simple_class simple_low d (simple_part d) ts (Step op) e le) refl

pub expression_deep : (d : ℕ) (ts : List Placed) → of_first simple_class ts ≡ Some Expression → d < 2 → plain_at d ts ≡ Deep ts
expression_deep d ts e le = rw (choice_deep simple_class simple_low d (simple_part d) ts Expression e le) refl
