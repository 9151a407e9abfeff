-- How the code follows the readers of expressions.
use Rattle.std.proofs.Common.{◌≡◌, ℕ, zero, suc, ◌-◌, ◌≤◌, ◌<◌, Bool, true, false, List, [], ◌∷◌, Some, None, Result, Err, refl, sym, subst, ◌∙◌, arith}
use Rattle.cpc_tree.specs.Tokens.{Placed}
use Rattle.cpc_tree.specs.ExprGrammar.{Postfix, Tier, Whole, top_tier, Operator}
use Rattle.cpc_parser_reading.specs.Reading.{Reading, Read, Fault, Deep, ◌>>=◌, below}
use Rattle.cpc_parser_reading.specs.Chain.{Linking, links}
use Rattle.cpc_parser_reading.specs.Lists.{if_so}
use Rattle.cpc_parser_reading.proofs.Chain.{links_end, links_stop, links_deep}
use Rattle.cpc_parser_types.specs.Views.{Gives}
use Rattle.cpc_parser_types.specs.declared.refusal.Refusal.{Refusal}
use Rattle.cpc_parser_types.specs.declared.refusal.Refusal.TheVariants as R
use Rattle.cpc_parser_expressions.specs.Shapes.{Apart, Shape}
use Rattle.cpc_parser_expressions.specs.ExprReaders.{was_call, flagged, Behind, postfix_class, operator_at, is_ask, tier_links, choice_links, postfix_links, cast_at, atom_at, rank_expr_at, expr_at, args_at, shape_at}
use Rattle.cpc_parser_expressions.specs.Steps.{first_of, stepped, inner_of, args_room, within_at}
use Rattle.cpc_parser_expressions.proofs.ExprExact.{shape_is, tier_on, choice_on, postfix_on}

-- what one reading gives another one gives that is the same
pub gives_as : {X A : Type 0} (view : X → A × ℕ × List Placed) (r : Result X Refusal) (from to : Reading Placed A) → to ≡ from → Gives view r from → Gives view r to
gives_as view r from to e g = subst (λ z. Gives view r z) (sym e) g

-- a refusal of the first part is one of all
pub err_on : {X Y A B : Type 0} (view : X → A × ℕ × List Placed) (view' : Y → B × ℕ × List Placed) (e : Refusal) (r : Reading Placed A) (f : A × ℕ × List Placed → Reading Placed B) → Gives view (Err e) r → Gives view' (Err e) (r >>= f)
err_on view view' R.Memory r f g = tt
err_on view view' (R.Syntax n) r f (left, k, e) = (left, k, rw e refl)
err_on view view' (R.Deep n) r f (left, k, e) = (left, k, rw e refl)

pub err_from : {X Y A B : Type 0} (view : X → A × ℕ × List Placed) (view' : Y → B × ℕ × List Placed) (e : Refusal) (r : Reading Placed A) (f : A × ℕ × List Placed → Reading Placed B) (to : Reading Placed B)
    → to ≡ (r >>= f) → Gives view (Err e) r → Gives view' (Err e) to
err_from view view' e r f to i g = gives_as view' (Err e) (r >>= f) to i (err_on view view' e r f g)

-- want of memory says nothing
pub memory : {X A : Type 0} (view : X → A × ℕ × List Placed) (e : Refusal) (r : Reading Placed A) → e ≡ R.Memory → Gives view (Err e) r
memory view e r i = rw i tt

pub assoc : {A B C : Type 0} (r : Reading Placed A) (f : A × ℕ × List Placed → Reading Placed B) (g : B × ℕ × List Placed → Reading Placed C) → ((r >>= f) >>= g) ≡ (r >>= λ x. f x >>= g)
assoc (Read x) f g = refl
assoc (Fault left) f g = refl
assoc (Deep left) f g = refl

-- one part more, or a refusal
step_by : {C A B : Type 0} (l : Linking Placed C A B) (v : A) (h : ℕ) (t : Placed) (rest : List Placed) (c : C) (b : Bool) → l.class v t ≡ Some c → l.full c h ≡ b
    → (l.full c h ≡ false → links l v h (t ∷ rest) ≡ (l.part c (t ∷ rest) >>= λ z. links l (l.make c v z.0) (l.nest c h z.1) z.2))
    → links l v h (t ∷ rest) ≡ (stepped l c v h (t ∷ rest) >>= λ x. links l x.0 x.1 x.2)
step_by l v h t rest c true e f on = links_deep l v h t rest c e f ∙ rw f refl
step_by l v h t rest c false e f on = on f ∙ rw f (sym (assoc (l.part c (t ∷ rest)) (λ x. Read (l.make c v x.0, l.nest c h x.1, x.2)) (λ x. links l x.0 x.1 x.2)))

pub minus_is : (d : ℕ) → d - 1 ≡ below d
minus_is zero = omega arith
minus_is (suc d) = omega arith

pub tier_next : (a : Apart) (d n : ℕ) (s : Shape) (h : ℕ) (ts : List Placed) (x : ℕ × Operator) → 0 < h → h ≤ d → first_of (operator_at n) ts ≡ Some x
    → links (tier_links (rank_expr_at (d - 1)) d n) s h ts ≡ (stepped (tier_links (rank_expr_at (d - 1)) d n) (x, was_call s) s h ts >>= λ z. links (tier_links (rank_expr_at (d - 1)) d n) z.0 z.1 z.2)
tier_next a d n s h [] x lo hi e = absurd cc
tier_next a d n s h (t ∷ rest) x lo hi e =
    let k : flagged (was_call s) (operator_at n t.lexeme) ≡ Some (x, was_call s) = rw e refl in
    rw (minus_is d) (step_by (tier_links (rank_expr_at (below d)) d n) s h t rest (x, was_call s) _ k refl (λ f. tier_on a d n (x, was_call s) s h t rest (omega (arith, lo)) hi k f))

pub tier_stop : (d n : ℕ) (s : Shape) (h : ℕ) (ts : List Placed) → first_of (operator_at n) ts ≡ None → links (tier_links (rank_expr_at (d - 1)) d n) s h ts ≡ Read (s, h, ts)
tier_stop d n s h [] e = links_end (tier_links (rank_expr_at (d - 1)) d n) s h
tier_stop d n s h (t ∷ rest) e = links_stop (tier_links (rank_expr_at (d - 1)) d n) s h t rest (rw e refl)

pub tier_start : (a : Apart) (d n : ℕ) (ts : List Placed) → 0 < d → shape_at d a (Tier n) ts ≡ (cast_at (inner_of a d) d a ts >>= λ x. links (tier_links (rank_expr_at (d - 1)) d n) x.0 x.1 x.2)
tier_start a d n ts l = rw (minus_is d) (sym (shape_is d a (Tier n) ts (omega (arith, l))))

pub postfix_next : (a : Apart) (d : ℕ) (s : Shape) (h : ℕ) (ts : List Placed) (c : Behind) → 0 < h → h ≤ d → first_of postfix_class ts ≡ Some c
    → links (postfix_links (expr_at (d - 1)) (args_at (args_room a d)) d a) s h ts ≡ (stepped (postfix_links (expr_at (d - 1)) (args_at (args_room a d)) d a) (c, was_call s) s h ts >>= λ z. links (postfix_links (expr_at (d - 1)) (args_at (args_room a d)) d a) z.0 z.1 z.2)
postfix_next a d s h [] c lo hi e = absurd cc
postfix_next a d s h (t ∷ rest) c lo hi e =
    let k : flagged (was_call s) (postfix_class t.lexeme) ≡ Some (c, was_call s) = rw e refl in
    rw (minus_is d) (step_by (postfix_links (expr_at (below d)) (args_at (args_room a d)) d a) s h t rest (c, was_call s) _ k refl (λ f. postfix_on a d (c, was_call s) s h t rest (omega (arith, lo)) hi k f))

pub postfix_stop : (a : Apart) (d : ℕ) (s : Shape) (h : ℕ) (ts : List Placed) → first_of postfix_class ts ≡ None → links (postfix_links (expr_at (d - 1)) (args_at (args_room a d)) d a) s h ts ≡ Read (s, h, ts)
postfix_stop a d s h [] e = links_end (postfix_links (expr_at (d - 1)) (args_at (args_room a d)) d a) s h
postfix_stop a d s h (t ∷ rest) e = links_stop (postfix_links (expr_at (d - 1)) (args_at (args_room a d)) d a) s h t rest (rw e refl)

pub postfix_start : (a : Apart) (d : ℕ) (ts : List Placed) → 0 < d → shape_at d a Postfix ts ≡ (atom_at (within_at a d) d ts >>= λ x. links (postfix_links (expr_at (d - 1)) (args_at (args_room a d)) d a) x.0 x.1 x.2)
postfix_start a d ts l = rw (minus_is d) (sym (shape_is d a Postfix ts (omega (arith, l))))

pub choice_next : (a : Apart) (d : ℕ) (s : Shape) (h : ℕ) (ts : List Placed) → 0 < h → h ≤ d → first_of (λ k. if_so (is_ask k)) ts ≡ Some tt
    → links (choice_links (expr_at (d - 1)) d) s h ts ≡ (stepped (choice_links (expr_at (d - 1)) d) (tt, was_call s) s h ts >>= λ z. links (choice_links (expr_at (d - 1)) d) z.0 z.1 z.2)
choice_next a d s h [] lo hi e = absurd cc
choice_next a d s h (t ∷ rest) lo hi e =
    let k : flagged (was_call s) (if_so (is_ask t.lexeme)) ≡ Some (tt, was_call s) = rw e refl in
    rw (minus_is d) (step_by (choice_links (expr_at (below d)) d) s h t rest (tt, was_call s) _ k refl (λ f. choice_on a d (tt, was_call s) s h t rest (omega (arith, lo)) hi k f))

pub choice_stop : (d : ℕ) (s : Shape) (h : ℕ) (ts : List Placed) → first_of (λ k. if_so (is_ask k)) ts ≡ None → links (choice_links (expr_at (d - 1)) d) s h ts ≡ Read (s, h, ts)
choice_stop d s h [] e = links_end (choice_links (expr_at (d - 1)) d) s h
choice_stop d s h (t ∷ rest) e = links_stop (choice_links (expr_at (d - 1)) d) s h t rest (rw e refl)

pub whole_start : (a : Apart) (d : ℕ) (ts : List Placed) → 0 < d → shape_at d a Whole ts ≡ (shape_at d a (Tier top_tier) ts >>= λ x. links (choice_links (expr_at (d - 1)) d) x.0 x.1 x.2)
whole_start a d ts l = rw (minus_is d, ← shape_is d a (Tier top_tier) ts (omega (arith, l))) (sym (shape_is d a Whole ts (omega (arith, l))))
