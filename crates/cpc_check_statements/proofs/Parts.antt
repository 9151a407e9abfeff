-- What plain statements break, by their parts.
use Rattle.std.proofs.Common.{◌≡◌, Bool, false, ◌||◌, not, ◌++◌, Option, Some, None, option_map, refl, sym, ap, ◌∙◌}
use Rattle.cpc_base.specs.declared.stop.Place.{Place}
use Rattle.cpc_base.proofs.Truth.{or_with_false}
use Rattle.cpc_num.specs.declared.kinds.Op.{Op}
use Rattle.cpc_tree.specs.Syntax.{Ty, Expr}
use Rattle.cpc_tree.specs.Typing as T
use Rattle.cpc_tree.specs.Typing.{Typed, AValue, APlace, used}
use Rattle.cpc_tree.specs.Located.{LExpr, LExprs, Ident, bare_expr}
use Rattle.cpc_check_rules.specs.declared.rule.Rule.{Rule}
use Rattle.cpc_check_rules.specs.declared.rule.Rule.TheVariants.{Disagree, CpsInNative, BadReturn, CpsForm}
use Rattle.cpc_check_rules.specs.Rule.{Broken, at_if}
use Rattle.cpc_check_rules.specs.Noted.{noted}
use Rattle.cpc_check_rules.specs.Scopes.{Scope, meant}
use Rattle.cpc_check_rules.specs.Operators.{Where, typed_at, first, is_cps, binary_breaks}
use Rattle.cpc_check_rules.specs.Calls as C
use Rattle.cpc_check_rules.specs.ExprRules.{expr_breaks, call_breaks}
use Rattle.cpc_check_rules.specs.StmtRules as S
use Rattle.cpc_check_rules.proofs.Firsts.{noted_both}
use Rattle.cpc_shapes.specs.Forms as F
use Rattle.cpc_check_statements.specs.Plain.{is_unfit, value_type}
use Rattle.cpc_check_statements.proofs.Order.{noted_swap}

abbrev Firsts : Type 0
Firsts = Option (Place × Rule)

-- ---- rows behind one another

pub after_one : (o : Firsts) (a b : Broken) → noted (noted o a) b ≡ noted o (a ++ b)
after_one o a b = sym (noted_both o a b)

pub after_two : (o : Firsts) (a b c : Broken) → noted (noted (noted o a) b) c ≡ noted o (a ++ (b ++ c))
after_two o a b c = sym (noted_both o a (b ++ c) ∙ noted_both (noted o a) b c)

pub after_three : (o : Firsts) (a b c d : Broken) → noted (noted (noted (noted o a) b) c) d ≡ noted o (a ++ (b ++ (c ++ d)))
after_three o a b c d = after_two (noted o a) b c d ∙ sym (noted_both o a (b ++ (c ++ d)))

-- ---- what is written to, and what is written

pub target_noted : (w : Where) (o : Firsts) (v : LExpr) → noted (noted o (expr_breaks w v)) (S.place_breaks (typed_at w v) (first v)) ≡ noted o (S.target_breaks w v)
target_noted w o v = after_one o (expr_breaks w v) (S.place_breaks (typed_at w v) (first v))

pub test_noted : (w : Where) (o : Firsts) (v : LExpr) → noted (noted o (expr_breaks w v)) (S.tested_breaks (typed_at w v) (first v)) ≡ noted o (S.test_breaks w v)
test_noted w o v = after_one o (expr_breaks w v) (S.tested_breaks (typed_at w v) (first v))

fit_same : (p : Typed) (d : Option Typed) (e : LExpr) (q : Place) → at_if (is_unfit (S.type_of p) (bare_expr e) d) q Disagree ≡ S.fits_breaks (Some p) e d q
fit_same p None e q = refl
fit_same p (Some d) e q = refl

pub fit_is : (p d : Option Typed) (t : Ty) (e : LExpr) (x : Expr) (q : Place) → Some t ≡ option_map S.type_of p → bare_expr e ≡ x → at_if (is_unfit t x d) q Disagree ≡ S.fits_breaks p e d q
fit_is None d t e x q h k = cc
fit_is (Some p) d t e x q h k =
    let s : t ≡ S.type_of p = cc in
    ap (λ u. at_if (is_unfit u x d) q Disagree) s ∙ ap (λ y. at_if (is_unfit (S.type_of p) y d) q Disagree) (sym k) ∙ fit_same p d e q

pub start_noted : (w : Where) (o : Firsts) (x : Ident) (t : Ty) (e : LExpr) (y : Expr) → bare_expr e ≡ y
    → noted (noted o (expr_breaks w e)) (at_if (is_unfit t y (typed_at w e)) x.place Disagree) ≡ noted o (S.start_breaks w x t (Some e))
start_noted w o x t e y k =
    ap (noted (noted o (expr_breaks w e))) (fit_is (Some (APlace t)) (typed_at w e) t e y x.place refl k)
    ∙ after_one o (expr_breaks w e) (S.fits_breaks (Some (APlace t)) e (typed_at w e) x.place)

-- ---- assignments

pub set_noted : (w : Where) (o : Firsts) (q : Place) (v e : LExpr)
    → noted (noted (noted o (S.target_breaks w v)) (expr_breaks w e)) (S.fits_breaks (typed_at w v) e (typed_at w e) q) ≡ noted o (S.target_breaks w v ++ (expr_breaks w e ++ S.assign_breaks w q v None e))
set_noted w o q v e = after_two o (S.target_breaks w v) (expr_breaks w e) (S.fits_breaks (typed_at w v) e (typed_at w e) q)

given_same : (a b : Option Typed) (q : Place) → S.given_breaks a (value_type b) q ≡ S.result_breaks a b q
given_same None None q = refl
given_same None (Some (AValue t)) q = refl
given_same None (Some (APlace t)) q = refl
given_same (Some p) None q = refl
given_same (Some p) (Some (AValue t)) q = refl
given_same (Some p) (Some (APlace t)) q = refl

pub result_noted : (o : Firsts) (row : Broken) (a b : Option Typed) (q : Place) → noted (noted o row) (S.given_breaks a (value_type b) q) ≡ noted o (row ++ S.result_breaks a b q)
result_noted o row a b q = ap (noted (noted o row)) (given_same a b q) ∙ after_one o row (S.result_breaks a b q)

pub update_noted : (w : Where) (o : Firsts) (q : Place) (op : Op) (v e : LExpr) (x y : Expr) → bare_expr v ≡ x → bare_expr e ≡ y
    → noted (noted (noted o (S.target_breaks w v)) (expr_breaks w e))
    (binary_breaks w.scope op (typed_at w v) (typed_at w e) (F.binary_of w.scope.items op (T.is_null x) (T.is_null y) (typed_at w v) (typed_at w e)) q
    ++ S.result_breaks (typed_at w v) (F.binary_of w.scope.items op (T.is_null x) (T.is_null y) (typed_at w v) (typed_at w e)) q)
    ≡ noted o (S.target_breaks w v ++ (expr_breaks w e ++ S.assign_breaks w q v (Some op) e))
update_noted w o q op v e x y h k =
    let whole = λ (m n : Bool). F.binary_of w.scope.items op m n (typed_at w v) (typed_at w e) in
    let row = λ (m n : Bool). noted (noted (noted o (S.target_breaks w v)) (expr_breaks w e)) (binary_breaks w.scope op (typed_at w v) (typed_at w e) (whole m n) q ++ S.result_breaks (typed_at w v) (whole m n) q) in
    ap (λ z. row (T.is_null z) (T.is_null y)) (sym h) ∙ ap (λ z. row (T.is_null (bare_expr v)) (T.is_null z)) (sym k)
    ∙ after_two o (S.target_breaks w v) (expr_breaks w e) (S.assign_breaks w q v (Some op) e)

-- ---- calls and sections

pub performed_noted : (w : Where) (o : Firsts) (q : Place) (v f : LExpr) (es : LExprs)
    → noted (noted (noted o (S.target_breaks w v)) (call_breaks w f es)) (S.given_breaks (typed_at w v) (C.result (C.callee w f es)) q)
    ≡ noted o (S.to_breaks w (Some v) q (C.result (C.callee w f es)) ++ call_breaks w f es)
performed_noted w o q v f es =
    let given = S.given_breaks (typed_at w v) (C.result (C.callee w f es)) q in
    noted_swap (noted o (S.target_breaks w v)) (call_breaks w f es) given
    ∙ ap (λ z. noted z (call_breaks w f es)) (after_one o (S.target_breaks w v) given)
    ∙ after_one o (S.target_breaks w v ++ given) (call_breaks w f es)

pub given_noted : (w : Where) (o : Firsts) (q : Place) (v : LExpr) (t : Option Ty) → noted (noted o (S.target_breaks w v)) (S.given_breaks (typed_at w v) t q) ≡ noted o (S.to_breaks w (Some v) q t)
given_noted w o q v t = after_one o (S.target_breaks w v) (S.given_breaks (typed_at w v) t q)

-- ---- returns

pub unfit_is : (w : Where) (e : LExpr) (d : Option Typed) (x : Expr) → bare_expr e ≡ x → (S.is_void w.result || is_unfit w.result x d) ≡ S.unfit_return w e d
unfit_is w e None x k = or_with_false (S.is_void w.result)
unfit_is w e (Some d) x k = ap (λ y. S.is_void w.result || is_unfit w.result y (Some d)) (sym k)

pub returned_noted : (w : Where) (o : Firsts) (q : Place) (e : LExpr) → noted (noted o (expr_breaks w e)) (at_if (S.unfit_return w e (typed_at w e)) q BadReturn) ≡ noted o (S.return_breaks w q (Some e))
returned_noted w o q e = after_one o (expr_breaks w e) (at_if (S.unfit_return w e (typed_at w e)) q BadReturn)

-- ---- the same by what the code finds

pub found_result : (s : Scope) (op : Op) (m n : Bool) (q : Place) (o x y : Firsts) (a left b whole : Option Typed) (t : Option Ty) → left ≡ a → whole ≡ F.binary_of s.items op m n left b
    → x ≡ noted o (binary_breaks s op left b (F.binary_of s.items op m n left b) q) → t ≡ value_type whole → y ≡ noted x (S.given_breaks a t q)
    → y ≡ noted o (binary_breaks s op a b (F.binary_of s.items op m n a b) q ++ S.result_breaks a (F.binary_of s.items op m n a b) q)
found_result s op m n q o x y a left b whole t l k e v g =
    let row = λ (z : Option Typed). binary_breaks s op z b (F.binary_of s.items op m n z b) q in
    g
    ∙ ap (λ z. noted z (S.given_breaks a t q)) (e ∙ ap (λ z. noted o (row z)) l)
    ∙ ap (λ z. noted (noted o (row a)) (S.given_breaks a z q)) (v ∙ ap value_type (k ∙ ap (λ z. F.binary_of s.items op m n z b) l))
    ∙ result_noted o (row a) a (F.binary_of s.items op m n a b) q

pub found_update : (w : Where) (q : Place) (op : Op) (ops : Option Op) (v e : LExpr) (x y : Expr) (m n : Bool) (p d : Option Typed) (o o1 o2 o3 : Firsts) → ops ≡ Some op → bare_expr v ≡ x → bare_expr e ≡ y → m ≡ T.is_null x → n ≡ T.is_null y
    → p ≡ typed_at w v → o1 ≡ noted o (S.target_breaks w v) → d ≡ typed_at w e → o2 ≡ noted o1 (expr_breaks w e)
    → o3 ≡ noted o2 (binary_breaks w.scope op p d (F.binary_of w.scope.items op m n p d) q ++ S.result_breaks p (F.binary_of w.scope.items op m n p d) q)
    → o3 ≡ noted o (S.target_breaks w v ++ (expr_breaks w e ++ S.assign_breaks w q v ops e))
found_update w q op ops v e x y m n p d o o1 o2 o3 i h k a b t r s c g =
    let row = λ (m' n' : Bool) (p' d' : Option Typed). binary_breaks w.scope op p' d' (F.binary_of w.scope.items op m' n' p' d') q ++ S.result_breaks p' (F.binary_of w.scope.items op m' n' p' d') q in
    let all = noted (noted o (S.target_breaks w v)) (expr_breaks w e) in
    g
    ∙ ap (λ z. noted z (row m n p d)) (c ∙ ap (λ z. noted z (expr_breaks w e)) r)
    ∙ ap (λ z. noted all (row z n p d)) a
    ∙ ap (λ z. noted all (row (T.is_null x) z p d)) b
    ∙ ap (λ z. noted all (row (T.is_null x) (T.is_null y) z d)) t
    ∙ ap (λ z. noted all (row (T.is_null x) (T.is_null y) (typed_at w v) z)) s
    ∙ update_noted w o q op v e x y h k
    ∙ ap (λ z. noted o (S.target_breaks w v ++ (expr_breaks w e ++ S.assign_breaks w q v z e))) (sym i)

pub found_set : (w : Where) (q : Place) (ops : Option Op) (v e : LExpr) (p d : Option Typed) (o o1 o2 o3 : Firsts) → ops ≡ None
    → p ≡ typed_at w v → o1 ≡ noted o (S.target_breaks w v) → d ≡ typed_at w e → o2 ≡ noted o1 (expr_breaks w e) → o3 ≡ noted o2 (S.fits_breaks p e d q)
    → o3 ≡ noted o (S.target_breaks w v ++ (expr_breaks w e ++ S.assign_breaks w q v ops e))
found_set w q ops v e p d o o1 o2 o3 i t r s c g =
    let all = noted (noted o (S.target_breaks w v)) (expr_breaks w e) in
    g
    ∙ ap (λ z. noted z (S.fits_breaks p e d q)) (c ∙ ap (λ z. noted z (expr_breaks w e)) r)
    ∙ ap (λ z. noted all (S.fits_breaks z e d q)) t
    ∙ ap (λ z. noted all (S.fits_breaks (typed_at w v) e z q)) s
    ∙ set_noted w o q v e
    ∙ ap (λ z. noted o (S.target_breaks w v ++ (expr_breaks w e ++ S.assign_breaks w q v z e))) (sym i)

pub found_performed : (w : Where) (q : Place) (to : Option LExpr) (v f : LExpr) (es : LExprs) (p : Option Typed) (t : Option Ty) (o o1 o2 o3 : Firsts) → to ≡ Some v
    → p ≡ typed_at w v → o1 ≡ noted o (S.target_breaks w v) → t ≡ C.result (C.callee w f es) → o2 ≡ noted o1 (call_breaks w f es) → o3 ≡ noted o2 (S.given_breaks p t q)
    → o3 ≡ noted o (S.to_breaks w to q (C.result (C.callee w f es)) ++ call_breaks w f es)
found_performed w q to v f es p t o o1 o2 o3 i d r s c g =
    let all = noted (noted o (S.target_breaks w v)) (call_breaks w f es) in
    g
    ∙ ap (λ z. noted z (S.given_breaks p t q)) (c ∙ ap (λ z. noted z (call_breaks w f es)) r)
    ∙ ap (λ z. noted all (S.given_breaks z t q)) d
    ∙ ap (λ z. noted all (S.given_breaks (typed_at w v) z q)) s
    ∙ performed_noted w o q v f es
    ∙ ap (λ z. noted o (S.to_breaks w z q (C.result (C.callee w f es)) ++ call_breaks w f es)) (sym i)

pub found_section : (w : Where) (k : Place) (f : Ident) (es : LExprs) (row : Broken) (a b : Bool) (o o1 o2 o3 o4 : Firsts) → o1 ≡ noted o row → a ≡ is_cps w.mode → o2 ≡ noted o1 (at_if (not a) k CpsInNative) → b ≡ C.is_event w.dialect
    → o3 ≡ noted o2 (at_if b k CpsForm) → o4 ≡ noted o3 (S.started_breaks w f (C.section_callee w.scope (meant w.scope f.text)) es) → o4 ≡ noted o (row ++ S.section_breaks w k f es)
found_section w k f es row a b o o1 o2 o3 o4 e x g y h i =
    let started = S.started_breaks w f (C.section_callee w.scope (meant w.scope f.text)) es in
    i
    ∙ ap (λ z. noted z started) (h ∙ ap (λ z. noted o2 (at_if z k CpsForm)) y ∙ ap (λ z. noted z (at_if (C.is_event w.dialect) k CpsForm)) (g ∙ ap (λ z. noted o1 (at_if (not z) k CpsInNative)) x ∙ ap (λ z. noted z (at_if (not (is_cps w.mode)) k CpsInNative)) e))
    ∙ after_three o row (at_if (not (is_cps w.mode)) k CpsInNative) (at_if (C.is_event w.dialect) k CpsForm) started

pub found_unfit : (w : Where) (e : LExpr) (d : Option Typed) (x : Expr) (v u : Bool) → v ≡ S.is_void w.result → v ≡ false → u ≡ is_unfit w.result x d → bare_expr e ≡ x → u ≡ S.unfit_return w e d
found_unfit w e d x v u i f h k = h ∙ ap (λ b. b || is_unfit w.result x d) (sym f ∙ i) ∙ unfit_is w e d x k
