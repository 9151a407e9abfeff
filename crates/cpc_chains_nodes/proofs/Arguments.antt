-- The arguments of calls: those of the driver, and those that go into the fields of a frame.
use Rattle.std.proofs.Common.{◌≡◌, ℕ, zero, suc, ◌<◌, ◌≤◌, List, [], ◌∷◌, ◌++◌, map, length, drop, get_or, slice_get, Some, None, option_map, refl, sym, ap, ◌∙◌}
use Rattle.std.proofs.lemmas.Option.{slice_get-map}
use Rattle.cpc_base.specs.Bytes.{Text}
use Rattle.cpc_tree.specs.declared.program.Expr as GExpr
use Rattle.cpc_tree.specs.Erase.{Names, expr_of, exprs_of}
use Rattle.cpc_tree.specs.Syntax.{Expr, EArrow, Exprs, NoExpr, AndExpr, Stmt, Assign, Variable}
use Rattle.cpc_convert_image_laws.specs.Images.{Readings, image, followed}
use Rattle.cpc_chains_store_laws.specs.Frames.{Give, frame_through, gives_one}
use Rattle.cpc_convert_routines.specs.Names.{to_name, variable_name}
use Rattle.cpc_chains_event.specs.Lines.{gives_from}
use Rattle.cpc_chains_lines.specs.Written.{Written, puts}
use Rattle.cpc_chains_lines.specs.Puts.{gives}
use Rattle.cpc_chains_lines.proofs.Puts.{next, ended, puts_both}

-- two more arguments behind a row
pub followed_by : (names : Names) (es : List GExpr.Expr) (a b : GExpr.Expr) → exprs_of names ((es ++ a ∷ []) ++ b ∷ []) ≡ followed (exprs_of names es) (expr_of names a) (expr_of names b)
followed_by names [] a b = refl
followed_by names (e ∷ es) a b = ap (AndExpr (expr_of names e)) (followed_by names es a b)

-- no argument goes into no field
pub gives_none : (k : ℕ) (xs : List Variable) (names : Readings) → gives_from k xs names NoExpr ≡ []
gives_none k [] names = refl
gives_none k (x ∷ xs) names = refl

pub gives_nowhere : (k : ℕ) (names : Readings) (es : Exprs) → gives_from k [] names es ≡ []
gives_nowhere k names NoExpr = refl
gives_nowhere k names (AndExpr e es) = refl

-- the first argument, and then the others
gives_first : (tag : Text) (k : ℕ) (xs : List Variable) (names : Readings) (e : Expr) (es : Exprs)
    → gives tag k xs names (AndExpr e es) ≡ gives tag k xs names (AndExpr e NoExpr) ++ gives tag (suc k) (drop 1 xs) names es
gives_first tag k [] names e es = ap (map (gives_one (frame_through to_name tag))) (sym (gives_nowhere (suc k) names es))
gives_first tag k (x ∷ xs) names e es =
    ap (λ (gs : List Give). gives_one (frame_through to_name tag) (record { field = variable_name k x.called; expression = image names e }) ∷ (map (gives_one (frame_through to_name tag)) gs ++ gives tag (suc k) xs names es)) (sym (gives_none (suc k) xs names))

one_less : {X : Type 0} (k : ℕ) (xs : List X) → drop 1 (drop k xs) ≡ drop (suc k) xs
one_less zero xs = refl
one_less (suc k) [] = refl
one_less (suc k) (x ∷ xs) = one_less k xs

-- ---- arguments that are given by a loop

-- one is given, and the others are left
pub give_put : (tag : Text) (vs : List Variable) (names : Readings) (from : Names) (es : List GExpr.Expr) (i j : ℕ) (e : GExpr.Expr) (w v u : Written) → e ≡ get_or es i e → i < length es → j ≡ suc i
    → puts w (gives tag i (drop i vs) names (exprs_of from (drop i es))) ≡ u → v ≡ puts w (gives tag i (drop i vs) names (AndExpr (expr_of from e) NoExpr))
    → puts v (gives tag j (drop j vs) names (exprs_of from (drop j es))) ≡ u
give_put tag vs names from es i j e w v u is lt more before one =
    let left : List Stmt = gives tag i (drop i vs) names (AndExpr (expr_of from e) NoExpr) in
    let rest : Exprs = exprs_of from (drop j es) in
    let first : exprs_of from (drop i es) ≡ AndExpr (expr_of from e) rest = ap (exprs_of from) (next es i j e is lt more) in
    let split : gives tag i (drop i vs) names (exprs_of from (drop i es)) ≡ left ++ gives tag j (drop j vs) names rest =
    ap (gives tag i (drop i vs) names) first
    ∙ (gives_first tag i (drop i vs) names (expr_of from e) rest
    ∙ (ap (λ (xs : List Variable). left ++ gives tag (suc i) xs names rest) (one_less i vs) ∙ ap (λ (n : ℕ). left ++ gives tag n (drop n vs) names rest) (sym more))) in
    ap (λ (t : Written). puts t (gives tag j (drop j vs) names rest)) one ∙ (sym (puts_both w left (gives tag j (drop j vs) names rest)) ∙ (ap (puts w) (sym split) ∙ before))

-- all are given
pub all_given : (tag : Text) (vs : List Variable) (names : Readings) (from : Names) (es : List GExpr.Expr) (i : ℕ) (w u : Written) → length es ≤ i
    → puts w (gives tag i (drop i vs) names (exprs_of from (drop i es))) ≡ u → w ≡ u
all_given tag vs names from es i w u le before =
    let none : gives tag i (drop i vs) names (exprs_of from (drop i es)) ≡ [] =
    ap (λ (l : List GExpr.Expr). gives tag i (drop i vs) names (exprs_of from l)) (ended es i le) ∙ ap (map (gives_one (frame_through to_name tag))) (gives_none i (drop i vs) names) in
    ap (puts w) (sym none) ∙ before

-- ---- one argument

-- what is left from a place on begins with what is there
from_there : {X : Type 0} (xs : List X) (k : ℕ) (x : X) → slice_get xs k ≡ Some x → drop k xs ≡ x ∷ drop (suc k) xs
from_there [] k x at = cc
from_there (y ∷ ys) zero x at = let same : y ≡ x = cc in ap (λ z. z ∷ ys) same
from_there (y ∷ ys) (suc k) x at = from_there ys k x at

-- it goes into the field of its parameter
pub given_at : {X : Type 0} (f : X → Variable) (tag : Text) (vs : List X) (k : ℕ) (v : X) (names : Readings) (e : Expr) → slice_get vs k ≡ Some v
    → gives tag k (drop k (map f vs)) names (AndExpr e NoExpr) ≡ Assign (EArrow (frame_through to_name tag) (variable_name k (f v).called)) None (image names e) ∷ []
given_at f tag vs k v names e at =
    let there : drop k (map f vs) ≡ f v ∷ drop (suc k) (map f vs) = from_there (map f vs) k (f v) (slice_get-map f vs k ∙ ap (option_map f) at) in
    ap (λ (xs : List Variable). gives tag k xs names (AndExpr e NoExpr)) there
    ∙ ap (λ (gs : List Give). Assign (EArrow (frame_through to_name tag) (variable_name k (f v).called)) None (image names e) ∷ map (gives_one (frame_through to_name tag)) gs) (gives_none (suc k) (drop (suc k) (map f vs)) names)
