-- What arguments break, one by one, and how many there are.
use Rattle.std.proofs.Common.{◌≡◌, ℕ, zero, suc, ◌+◌, ◌<◌, ◌≤◌, Bool, true, false, List, [], ◌∷◌, ◌++◌, length, get_or, drop, add-one, Option, Some, refl, sym, ap, ◌∙◌, Vec, Box, Global}
use Rattle.std.specs.Prelude.{slice_get, not, ◌==◌, Result, Ok, Err, OnOk}
use Rattle.std.proofs.lemmas.List.{drop_more, drop_all}
use Rattle.cpc_base.specs.declared.stop.Place.{Place}
use Rattle.cpc_tree.specs.declared.program.Expr.{Expr}
use Rattle.cpc_tree.specs.declared.program.Expr.TheVariants as E
use Rattle.cpc_tree.specs.Erase.{Names}
use Rattle.cpc_tree.specs.Located.{LExpr, LText, LExprs, AndLExpr}
use Rattle.cpc_tree.specs.Typing.{Typed}
use Rattle.cpc_tree.proofs.LocatedClauses.{located_call_is}
use Rattle.cpc_tree.specs.Locate.{located_expr, located_exprs}
use Rattle.cpc_check_rules.specs.declared.rule.Rule.{Rule}
use Rattle.cpc_check_rules.specs.declared.rule.Rule.TheVariants.{WrongNumber, NotClosed, CallInside}
use Rattle.cpc_check_rules.specs.Rule.{at_if}
use Rattle.cpc_check_rules.specs.Noted.{earlier, noted}
use Rattle.cpc_check_rules.specs.Operators.{Where, typed_at, first, is_detached}
use Rattle.cpc_check_rules.specs.Calls as C
use Rattle.cpc_check_rules.specs.ExprRules.{args_breaks, called_breaks, call_breaks, expr_breaks}
use Rattle.cpc_check_rules.proofs.Firsts.{noted_both}
use Rattle.cpc_check_values.specs.Walked.{count_breaks, inside_breaks, wanted_breaks, is_wanted_text}

abbrev Firsts : Type 0
Firsts = Option (Place × Rule)

pub counted : (names : Names) (es : List Expr) → length (C.count (located_exprs names es)) ≡ length es
counted names [] = refl
counted names (e ∷ es) = ap suc (counted names es)

pub number_is : (names : Names) (c : C.Callee) (es : List Expr) (q : Place) → count_breaks c (length es) q ≡ C.number_breaks c (located_exprs names es) q
number_is names C.NoCallee es q = refl
number_is names (C.Takes ws r) es q = ap (λ n. at_if (not (n == length ws)) q WrongNumber) (sym (counted names es))

-- an argument and those behind it
args_cons : (w : Where) (ws : List C.Wanted) (e : LExpr) (es : LExprs) → args_breaks w ws (AndLExpr e es) ≡ wanted_breaks w (slice_get ws 0) e ++ args_breaks w (drop 1 ws) es
args_cons w [] e es = refl
args_cons w (t ∷ ts) e es = refl

get_dropped : {A : Type 0} (xs : List A) (i : ℕ) → slice_get (drop i xs) 0 ≡ slice_get xs i
get_dropped xs zero = refl
get_dropped [] (suc i) = refl
get_dropped (x ∷ xs) (suc i) = get_dropped xs i

drop_once : {A : Type 0} (xs : List A) (i : ℕ) → drop 1 (drop i xs) ≡ drop (suc i) xs
drop_once xs zero = refl
drop_once [] (suc i) = refl
drop_once (x ∷ xs) (suc i) = drop_once xs i

args_more : (names : Names) (w : Where) (o : Firsts) (ws : List C.Wanted) (es : List Expr) (i : ℕ) (x : Expr) → i < length es → x ≡ get_or es i x
    → noted o (args_breaks w (drop i ws) (located_exprs names (drop i es)))
    ≡ noted (noted o (wanted_breaks w (slice_get ws i) (located_expr names x))) (args_breaks w (drop (i + 1) ws) (located_exprs names (drop (i + 1) es)))
args_more names w o ws es i x h is =
    let d : drop i es ≡ x ∷ drop (i + 1) es = drop_more es i x h ∙ ap (λ y. y ∷ drop (i + 1) es) (sym is) in
    let rest = located_exprs names (drop (i + 1) es) in
    let row = wanted_breaks w (slice_get ws i) (located_expr names x) in
    ap (λ l. noted o (args_breaks w (drop i ws) (located_exprs names l))) d
    ∙ ap (noted o) (args_cons w (drop i ws) (located_expr names x) rest)
    ∙ ap (λ t. noted o (wanted_breaks w t (located_expr names x) ++ args_breaks w (drop 1 (drop i ws)) rest)) (get_dropped ws i)
    ∙ ap (λ l. noted o (row ++ args_breaks w l rest)) (drop_once ws i ∙ ap (λ n. drop n ws) (sym (add-one i)))
    ∙ noted_both o row (args_breaks w (drop (i + 1) ws) rest)

-- one more argument is noted
pub args_step : (names : Names) (w : Where) (o p : Firsts) (ws : List C.Wanted) (es : List Expr) (i : ℕ) (x : Expr) (u : Option C.Wanted) → i < length es → x ≡ get_or es i x → u ≡ slice_get ws i
    → p ≡ noted o (wanted_breaks w u (located_expr names x))
    → noted p (args_breaks w (drop (i + 1) ws) (located_exprs names (drop (i + 1) es))) ≡ noted o (args_breaks w (drop i ws) (located_exprs names (drop i es)))
args_step names w o p ws es i x u h is e k =
    ap (λ z. noted z (args_breaks w (drop (i + 1) ws) (located_exprs names (drop (i + 1) es)))) (k ∙ ap (λ z. noted o (wanted_breaks w z (located_expr names x))) e)
    ∙ sym (args_more names w o ws es i x h is)

-- none is left
pub args_end : (names : Names) (w : Where) (o : Firsts) (ws : List C.Wanted) (es : List Expr) (i : ℕ) → length es ≤ i → noted o (args_breaks w ws (located_exprs names (drop i es))) ≡ o
args_end names w o ws es i h = ap (λ l. noted o (args_breaks w ws (located_exprs names l))) (drop_all i es h)

-- what is called, the number of arguments, and these
pub call_noted : (w : Where) (o : Firsts) (f : LExpr) (es : LExprs)
    → noted (noted (noted o (called_breaks w f (expr_breaks w f))) (C.number_breaks (C.callee w f es) es (first f))) (args_breaks w (C.wanted (C.callee w f es)) es) ≡ noted o (call_breaks w f es)
call_noted w o f es =
    sym (noted_both o (called_breaks w f (expr_breaks w f)) (C.number_breaks (C.callee w f es) es (first f) ++ args_breaks w (C.wanted (C.callee w f es)) es)
    ∙ noted_both (noted o (called_breaks w f (expr_breaks w f))) (C.number_breaks (C.callee w f es) es (first f)) (args_breaks w (C.wanted (C.callee w f es)) es))

-- a call, by what was noted of its parts
pub call_told : (names : Names) (w : Where) (f : Expr) (es : List Expr) (c : C.Callee) (place : Place) (o l m n : Firsts)
    → c ≡ C.callee w (located_expr names f) (located_exprs names es) → place ≡ first (located_expr names f)
    → l ≡ noted o (called_breaks w (located_expr names f) (expr_breaks w (located_expr names f)))
    → m ≡ noted l (count_breaks c (length es) place) → n ≡ noted m (args_breaks w (C.wanted c) (located_exprs names es))
    → n ≡ noted o (call_breaks w (located_expr names f) (located_exprs names es))
call_told names w f es c place o l m n is at g h k =
    let F = located_expr names f in
    let ES = located_exprs names es in
    let K = C.callee w F ES in
    let O = noted o (called_breaks w F (expr_breaks w F)) in
    k
    ∙ ap (λ z. noted z (args_breaks w (C.wanted c) ES)) (h ∙ ap (λ z. noted z (count_breaks c (length es) place)) g)
    ∙ ap (λ z. noted (noted O (count_breaks c (length es) z)) (args_breaks w (C.wanted c) ES)) at
    ∙ ap (λ z. noted (noted O (count_breaks z (length es) (first F))) (args_breaks w (C.wanted z) ES)) is
    ∙ ap (λ z. noted (noted O z) (args_breaks w (C.wanted K) ES)) (number_is names K es (first F))
    ∙ call_noted w o F ES

-- what holds whatever came out
pub holds_on_ok : {T E P : Type 0} (r : Result T E) → P → OnOk r P
holds_on_ok (Ok x) p = p
holds_on_ok (Err e) p = tt

-- ---- one argument

string_row : (w : Where) (o : Option C.Wanted) (e : LExpr) → is_wanted_text o e ≡ true → [] ≡ wanted_breaks w o e
string_row w (Some C.String) (LText q bytes) h = refl
string_row w o e h = absurd cc

other_row : (w : Where) (t : C.Wanted) (e : LExpr) → is_wanted_text (Some t) e ≡ false → wanted_breaks w (Some t) e ≡ expr_breaks w e ++ C.suit_breaks w.scope t e (typed_at w e)
other_row w C.String (LText q bytes) h = absurd cc
other_row w t e h = refl

-- a string that is wanted
pub string_told : (w : Where) (o : Firsts) (u : Option C.Wanted) (e : LExpr) (b : Bool) → b ≡ is_wanted_text u e → b ≡ true → o ≡ noted o (wanted_breaks w u e)
string_told w o u e b h t = ap (noted o) (string_row w u e (sym h ∙ t))

-- another argument
pub argument_told : (w : Where) (e : LExpr) (t : C.Wanted) (u : Option C.Wanted) (d : Option Typed) (b : Bool) (o l m : Firsts) → u ≡ Some t → b ≡ is_wanted_text u e → b ≡ false
    → d ≡ typed_at w e → l ≡ noted o (expr_breaks w e) → m ≡ noted l (C.suit_breaks w.scope t e d) → m ≡ noted o (wanted_breaks w u e)
argument_told w e t u d b o l m is h f g k n =
    n
    ∙ ap (λ z. noted l (C.suit_breaks w.scope t e z)) g
    ∙ ap (λ z. noted z (C.suit_breaks w.scope t e (typed_at w e))) k
    ∙ sym (noted_both o (expr_breaks w e) (C.suit_breaks w.scope t e (typed_at w e)))
    ∙ ap (noted o) (sym (other_row w t e (ap (λ z. is_wanted_text z e) (sym is) ∙ sym h ∙ f)))
    ∙ ap (λ z. noted o (wanted_breaks w z e)) (sym is)

-- ---- what is called

-- by a pointer
pub pointer_told : (w : Where) (f : LExpr) (place : Place) (d : Option Typed) (o l m : Firsts) → place ≡ first f → d ≡ typed_at w f → l ≡ noted o (expr_breaks w f)
    → m ≡ noted l (at_if (is_detached w.mode) place NotClosed ++ C.no_code d place) → C.pointer_breaks w f (expr_breaks w f) ≡ called_breaks w f (expr_breaks w f)
    → m ≡ noted o (called_breaks w f (expr_breaks w f))
pointer_told w f place d o l m e g h k is =
    let row = λ (q : Place) (c : Option Typed). at_if (is_detached w.mode) q NotClosed ++ C.no_code c q in
    k
    ∙ ap (λ z. noted l (row z d)) e
    ∙ ap (λ z. noted l (row (first f) z)) g
    ∙ ap (λ z. noted z (row (first f) (typed_at w f))) h
    ∙ sym (noted_both o (expr_breaks w f) (row (first f) (typed_at w f)))
    ∙ ap (noted o) is

-- a call in an expression
pub inside_told : (names : Names) (w : Where) (e : Expr) (q : Place) (f : Box Expr Global) (vs : Vec Expr Global) (x : Expr) (es : List Expr) (c : C.Callee) (place : Place) (o i l m n : Firsts) → e ≡ E.CallIn q f vs → x ≡ f.value → es ≡ vs.items
    → place ≡ first (located_expr names x) → c ≡ C.callee w (located_expr names x) (located_exprs names es) → i ≡ earlier o (place, CallInside)
    → l ≡ noted i (called_breaks w (located_expr names x) (expr_breaks w (located_expr names x)))
    → m ≡ noted l (count_breaks c (length es) place) → n ≡ noted m (args_breaks w (C.wanted c) (located_exprs names es))
    → n ≡ noted o (inside_breaks w (located_expr names e))
inside_told names w e q f vs x es c place o i l m n is ex el at seen k g h j =
    let F = located_expr names f.value in
    call_told names w x es c place i l m n seen at g h j
    ∙ ap (λ z. noted z (call_breaks w (located_expr names x) (located_exprs names es))) (k ∙ ap (λ z. earlier o (z, CallInside)) (at ∙ ap (λ z. first (located_expr names z)) ex))
    ∙ ap (λ z. noted (earlier o (first F, CallInside)) (call_breaks w (located_expr names z) (located_exprs names es))) ex
    ∙ ap (λ z. noted (earlier o (first F, CallInside)) (call_breaks w F (located_exprs names z))) el
    ∙ ap (λ z. noted o (inside_breaks w z)) (sym (ap (located_expr names) is ∙ located_call_is names q f vs))
