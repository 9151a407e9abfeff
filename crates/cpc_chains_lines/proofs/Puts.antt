-- Statements that are written one after the other.
use Rattle.std.proofs.Common.{◌≡◌, ℕ, zero, suc, ◌<◌, ◌≤◌, true, false, Bool, List, [], ◌∷◌, ◌++◌, map, length, drop, get_or, Option, if◌then◌else◌, arith, refl, sym, ap, ◌∙◌}
use Rattle.cpc_base.proofs.Lists.{get_or_within}
use Rattle.cpc_tree.specs.Syntax.{Stmt, Empty, Goto}
use Rattle.cpc_forms_code.specs.declared.boxed.Variable.{Variable}
use Rattle.cpc_convert_routines.specs.Names.{node_label}
use Rattle.cpc_chains_event.specs.Lines.{Goes, Passes, all_do}
use Rattle.cpc_chains_event.specs.Rows.{is_next, Plain, Jump, put_statement}
use Rattle.cpc_chains_lines.specs.Puts.{statements_before}
use Rattle.cpc_forms_code.specs.Lifts.{unless}
use Rattle.cpc_convert_needs.specs.Known.{boxes_among}
use Rattle.cpc_chains_lines.specs.Written.{Written, put, puts}

-- two rows, one behind the other
pub puts_both : (w : Written) (xs ys : List Stmt) → puts w (xs ++ ys) ≡ puts (puts w xs) ys
puts_both w [] ys = refl
puts_both w (x ∷ xs) ys = puts_both (put w x) xs ys

-- ---- ways

pub goes_jump : (o : Option ℕ) (n : ℕ) → is_next n o ≡ false → statements_before o (Goes n ∷ []) ≡ Goto (node_label n) ∷ []
goes_jump o n e = ap (λ b. map put_statement ((if b then [] else Jump n ∷ []) ++ [])) e

pub passes_jump : (o : Option ℕ) (n : ℕ) → is_next n o ≡ false → statements_before o (Passes n ∷ []) ≡ Goto (node_label n) ∷ []
passes_jump o n e = ap (λ b. map put_statement ((if b then Plain Empty ∷ [] else Jump n ∷ []) ++ [])) e

-- ---- rows that are written by a loop

-- what is left from a place on begins with what stands there
pub next : {X : Type 0} (xs : List X) (i j : ℕ) (x : X) → x ≡ get_or xs i x → i < length xs → j ≡ suc i → drop i xs ≡ x ∷ drop j xs
next [] i j x is lt e = absurd (omega (arith, lt))
next (y ∷ ys) zero j x is lt e = ap (λ u. u ∷ ys) (sym is) ∙ ap (λ n. x ∷ drop n (y ∷ ys)) (sym e)
next (y ∷ ys) (suc i) j x is lt e = next ys i (suc i) x is (omega (arith, lt)) refl ∙ ap (λ n. x ∷ drop n (y ∷ ys)) (sym e)

-- nothing is left behind the end
pub ended : {X : Type 0} (xs : List X) (i : ℕ) → length xs ≤ i → drop i xs ≡ []
ended [] zero le = refl
ended [] (suc i) le = refl
ended (x ∷ xs) zero le = absurd (omega (arith, le))
ended (x ∷ xs) (suc i) le = ended xs i (omega (arith, le))

-- one is written, and the others are left
pub one_put : {X : Type 0} (g : X → Stmt) (xs : List X) (i j : ℕ) (x : X) (w v u : Written) → x ≡ get_or xs i x → i < length xs → j ≡ suc i
    → puts w (map g (drop i xs)) ≡ u → v ≡ puts w (g x ∷ []) → puts v (map g (drop j xs)) ≡ u
one_put g xs i j x w v u is lt e so p = ap (λ t. puts t (map g (drop j xs))) p ∙ (ap (λ l. puts w (map g l)) (sym (next xs i j x is lt e)) ∙ so)

pub put_at : {X : Type 0} (g : X → Stmt) (xs : List X) (i j : ℕ) (d : X) (w v u : Written) → i < length xs → j ≡ suc i
    → puts w (map g (drop i xs)) ≡ u → v ≡ puts w (g (get_or xs i d) ∷ []) → puts v (map g (drop j xs)) ≡ u
put_at g xs i j d w v u lt e so p = one_put g xs i j (get_or xs i d) w v u (get_or_within xs i d (get_or xs i d) lt) lt e so p

-- all are written
pub all_put : {X : Type 0} (g : X → Stmt) (xs : List X) (i : ℕ) (w u : Written) → length xs ≤ i → puts w (map g (drop i xs)) ≡ u → w ≡ u
all_put g xs i w u le so = ap (λ l. puts w (map g l)) (sym (ended xs i le)) ∙ so

-- ---- rows of boxes

boxes_first : (b : Bool) (k : ℕ) (ks : List ℕ) → unless b k ks ≡ unless b k [] ++ ks
boxes_first true k ks = refl
boxes_first false k ks = refl

-- the rows of numbers, one behind the other
abbrev pub Rows : (List ℕ → List Stmt) → Type 0
Rows F = (xs ys : List ℕ) → F (xs ++ ys) ≡ F xs ++ F ys

-- the row of one variable is written, and the others are left
pub box_put : (F : List ℕ → List Stmt) → Rows F → (vs : List Variable) (i j : ℕ) (v : Variable) (w t u : Written) → v ≡ get_or vs i v → i < length vs → j ≡ suc i
    → puts w (F (boxes_among i (drop i vs))) ≡ u → t ≡ puts w (F (unless v.is_register i [])) → puts t (F (boxes_among j (drop j vs))) ≡ u
box_put F rows vs i j v w t u is lt e so p =
    let ks = boxes_among (suc i) (drop j vs) in
    ap (λ x. puts x (F (boxes_among j (drop j vs)))) p
    ∙ (ap (λ n. puts (puts w (F (unless v.is_register i []))) (F (boxes_among n (drop j vs)))) e
    ∙ (sym (puts_both w (F (unless v.is_register i [])) (F ks))
    ∙ (ap (puts w) (sym (rows (unless v.is_register i []) ks))
    ∙ (ap (λ l. puts w (F l)) (sym (boxes_first v.is_register i ks))
    ∙ (ap (λ l. puts w (F (boxes_among i l))) (sym (next vs i j v is lt e)) ∙ so)))))

-- all are written
pub boxes_put : (F : List ℕ → List Stmt) → F [] ≡ [] → (vs : List Variable) (i : ℕ) (w u : Written) → length vs ≤ i → puts w (F (boxes_among i (drop i vs))) ≡ u → w ≡ u
boxes_put F none vs i w u le so = ap (puts w) (sym none) ∙ (ap (λ l. puts w (F (boxes_among i l))) (sym (ended vs i le)) ∙ so)

-- ---- rows that are put together

-- a row, and another behind it
pub behind : (u v w : Written) (xs ys : List Stmt) → v ≡ puts u xs → w ≡ puts v ys → w ≡ puts u (xs ++ ys)
behind u v w xs ys e f = f ∙ (ap (λ t. puts t ys) e ∙ sym (puts_both u xs ys))

pub map_both : {X Y : Type 0} (f : Y → Stmt) (g : X → Y) (xs : List X) → map f (map g xs) ≡ map (λ x. f (g x)) xs
map_both f g [] = refl
map_both f g (x ∷ xs) = ap (λ l. f (g x) ∷ l) (map_both f g xs)

-- lines that are all statements
pub all_done : (o : Option ℕ) (ss : List Stmt) → statements_before o (all_do ss) ≡ ss
all_done o [] = refl
all_done o (s ∷ ss) = ap (λ l. s ∷ l) (all_done o ss)
