-- Rows of expressions.
use Rattle.std.proofs.Common.{◌≡◌, Option, Some, option_map, Box, Vec, Global, ℕ, zero, suc, ◌+◌, ◌<◌, List, [], ◌∷◌, ◌++◌, take, get_or, length, add-one, arith, refl, sym, ap, ◌∙◌}
use Rattle.std.proofs.Math.Seq.{take-suc}
use Rattle.cpc_base.specs.declared.stop.Place.{Place}
use Rattle.cpc_eval_variables.proofs.Nodes.{call_seen}
use Rattle.cpc_tree.specs.declared.program.Expr as GExpr
use Rattle.cpc_tree.specs.declared.program.Expr.TheVariants as E
use Rattle.cpc_tree.specs.Syntax as S
use Rattle.cpc_tree.specs.Syntax.{Exprs, NoExpr, AndExpr}
use Rattle.cpc_tree.specs.Erase.{Names, expr_of, exprs_of}
use Rattle.cpc_convert_image_laws.specs.Images as I

-- a row with one more behind it
abbrev pub and_last : Exprs → S.Expr → Exprs
and_last NoExpr e = AndExpr e NoExpr
and_last (AndExpr x xs) e = AndExpr x (and_last xs e)

pub row_last : (names : Names) (xs : List GExpr.Expr) (x : GExpr.Expr) → exprs_of names (xs ++ x ∷ []) ≡ and_last (exprs_of names xs) (expr_of names x)
row_last names [] x = refl
row_last names (y ∷ ys) x = ap (AndExpr (expr_of names y)) (row_last names ys x)

pub images_last : (r : I.Readings) (xs : Exprs) (x : S.Expr) → I.images r (and_last xs x) ≡ and_last (I.images r xs) (I.image r x)
images_last r NoExpr x = refl
images_last r (AndExpr y ys) x = ap (AndExpr (I.image r y)) (images_last r ys x)

-- rows that are read alike have elements that are
pub alike_at : (a b : Names) (row : List GExpr.Expr) (i : ℕ) (e : GExpr.Expr) → exprs_of a row ≡ exprs_of b row → i < length row → e ≡ get_or row i e → expr_of a e ≡ expr_of b e
alike_at a b [] i e same lt is = absurd (omega (arith, lt))
alike_at a b (x ∷ xs) zero e same lt is = let h : expr_of a x ≡ expr_of b x = cc in ap (expr_of a) is ∙ (h ∙ ap (expr_of b) (sym is))
alike_at a b (x ∷ xs) (suc i) e same lt is = let h : exprs_of a xs ≡ exprs_of b xs = cc in alike_at a b xs i e h (omega (arith, lt)) is

-- one more image
pub images_more : (from to : Names) (r : I.Readings) (row done new : List GExpr.Expr) (i : ℕ) (e x : GExpr.Expr) → new ≡ done ++ x ∷ [] → exprs_of to done ≡ I.images r (exprs_of from (take i row)) → i < length row → e ≡ get_or row i e
    → expr_of to x ≡ I.image r (expr_of from e) → exprs_of to new ≡ I.images r (exprs_of from (take (i + 1) row))
images_more from to r row done new i e x is before lt at one =
    let more : take (i + 1) row ≡ take i row ++ e ∷ [] = rw add-one (take-suc row i e lt ∙ ap (λ y. take i row ++ y ∷ []) (sym at)) in
    ap (exprs_of to) is ∙ (row_last to done x ∙ (ap (λ l. and_last l (expr_of to x)) before ∙ (ap (and_last (I.images r (exprs_of from (take i row)))) one
    ∙ (sym (images_last r (exprs_of from (take i row)) (expr_of from e)) ∙ ap (I.images r) (sym (ap (exprs_of from) more ∙ row_last from (take i row) e))))))

-- ---- what holds expressions

pub call_image : (from to : Names) (r : I.Readings) (e : GExpr.Expr) (place : Place) (f f' : Box GExpr.Expr Global) (es es' : Vec GExpr.Expr Global) (g : GExpr.Expr) (gs : List GExpr.Expr) → e ≡ E.CallIn place f es → g ≡ f.value → gs ≡ es.items
    → expr_of from e ≡ expr_of to e → (expr_of from g ≡ expr_of to g → expr_of to f'.value ≡ I.image r (expr_of from g)) → (exprs_of from gs ≡ exprs_of to gs → exprs_of to es'.items ≡ I.images r (exprs_of from gs))
    → expr_of to (E.CallIn place f' es') ≡ I.image r (expr_of from e)
call_image from to r e place f f' es es' g gs is is_f is_es alike one all =
    let at_from : expr_of from e ≡ S.ECall (expr_of from f.value) (exprs_of from es.items) = call_seen from e place f es is in
    let at_to : expr_of to e ≡ S.ECall (expr_of to f.value) (exprs_of to es.items) = call_seen to e place f es is in
    let same_f : expr_of from f.value ≡ expr_of to f.value = cc in
    let same_es : exprs_of from es.items ≡ exprs_of to es.items = cc in
    let image_f : expr_of to f'.value ≡ I.image r (expr_of from f.value) = one (ap (expr_of from) is_f ∙ (same_f ∙ ap (expr_of to) (sym is_f))) ∙ ap (λ u. I.image r (expr_of from u)) is_f in
    let image_es : exprs_of to es'.items ≡ I.images r (exprs_of from es.items) = all (ap (exprs_of from) is_es ∙ (same_es ∙ ap (exprs_of to) (sym is_es))) ∙ ap (λ (u : List GExpr.Expr). I.images r (exprs_of from u)) is_es in
    call_seen to (E.CallIn place f' es') place f' es' refl ∙ (ap (λ u. S.ECall u (exprs_of to es'.items)) image_f ∙ (ap (S.ECall (I.image r (expr_of from f.value))) image_es ∙ sym (ap (I.image r) at_from)))

pub if_image : (from to : Names) (r : I.Readings) (o : Option GExpr.Expr) (e x : GExpr.Expr) → o ≡ Some e → option_map (expr_of from) o ≡ option_map (expr_of to) o → (expr_of from e ≡ expr_of to e → expr_of to x ≡ I.image r (expr_of from e))
    → Some (expr_of to x) ≡ I.image_if r (option_map (expr_of from) o)
if_image from to r o e x is alike one =
    let both : Some (expr_of from e) ≡ Some (expr_of to e) = sym (ap (option_map (expr_of from)) is) ∙ (alike ∙ ap (option_map (expr_of to)) is) in
    let same : expr_of from e ≡ expr_of to e = cc in
    ap Some (one same) ∙ sym (ap (λ u. I.image_if r (option_map (expr_of from) u)) is)
