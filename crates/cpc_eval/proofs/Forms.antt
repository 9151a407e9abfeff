-- The forms of expressions that the code finds, by their parts as it sees these.
use Rattle.std.proofs.Common.{◌≡◌, Bool, Result, Ok, Err, ap, sym, ◌∙◌, Box, Global, length, map, ◌<◌, ◌^◌, subst, ℕ}
use Rattle.std.specs.Result.{IsErrAnd}
use Rattle.std.proofs.lemmas.Result.{err_from_is_err_and}
use Rattle.std.proofs.lemmas.List.{length-map}
use Rattle.cpc_base.specs.declared.stop.Place.{Place}
use Rattle.cpc_num.specs.declared.kinds.Fault.{Fault}
use Rattle.cpc_num.specs.declared.kinds.Op.{Op}
use Rattle.cpc_tree.specs.declared.program.CType.{CType}
use Rattle.cpc_tree.specs.declared.program.UnaryOp.{UnaryOp}
use Rattle.cpc_tree.specs.declared.program.Word.{Word}
use Rattle.cpc_tree.specs.declared.program.Expr.{Expr}
use Rattle.cpc_tree.specs.declared.program.Expr.TheVariants as G
use Rattle.cpc_tree.specs.Erase.{Names, type_of, expr_of}
use Rattle.cpc_tree.specs.Syntax as S
use Rattle.cpc_meaning.specs.Answer.{Answer}
use Rattle.cpc_eval_values.specs.Meets.{Meets}
use Rattle.cpc_eval.specs.Around.{slot_of}
use Rattle.cpc_eval.specs.declared.around.Around.{Around}

-- a fault through an early return of a result that is no value of the program
pub meets_same : {A : Type 0} (x : Result A Fault) (fault : Fault) (a : Answer A) → IsErrAnd x (λ e. e ≡ fault) → Meets {A = A} (Err fault) a → Meets x a
meets_same x fault a i h = let p = err_from_is_err_and x i in rw (p.1, p.2) h

-- a test whose value is known
pub test_is : (b x : Bool) (a : Answer Bool) → b ≡ x → Meets (Ok b) a → Meets (Ok x) a
test_is b x a h g = let P : Bool → Type 0 = λ y. Meets (Ok y) a in subst P h g

-- there are as many variables as slots
pub few_slots : (names : Names) (a : Around) → length a.slots.now < 2 ^ 64 → length (map (slot_of names) a.slots.now) < 2 ^ 64
few_slots names a h = let P : ℕ → Type 0 = λ n. n < 2 ^ 64 in subst P (sym (length-map a.slots.now (slot_of names))) h

module _ (names : Names) where
  module _ (e : Expr) where
    pub name_seen : (w : Word) → e ≡ G.Name w → expr_of names e ≡ S.ENamed (names w.name)
    name_seen w is = ap (expr_of names) is

    pub unary_seen : (p : Place) (op : UnaryOp) (b : Box Expr Global) (x : Expr) → e ≡ G.Unary p op b → x ≡ b.value → expr_of names e ≡ S.EUnary op (expr_of names x)
    unary_seen p op b x is h = ap (expr_of names) is ∙ ap (λ z. S.EUnary op (expr_of names z)) (sym h)

    pub cast_seen : (p : Place) (t : CType) (b : Box Expr Global) (x : Expr) → e ≡ G.Cast p t b → x ≡ b.value → expr_of names e ≡ S.ECast (type_of names t) (expr_of names x)
    cast_seen p t b x is h = ap (expr_of names) is ∙ ap (λ z. S.ECast (type_of names t) (expr_of names z)) (sym h)

    pub binary_seen : (p : Place) (op : Op) (a b : Box Expr Global) (x y : Expr) → e ≡ G.Binary p op a b → x ≡ a.value → y ≡ b.value → expr_of names e ≡ S.EBinary op (expr_of names x) (expr_of names y)
    binary_seen p op a b x y is h g = ap (expr_of names) is ∙ ap (λ z. S.EBinary op (expr_of names z) (expr_of names b.value)) (sym h) ∙ ap (λ z. S.EBinary op (expr_of names x) (expr_of names z)) (sym g)

    pub and_seen : (p : Place) (a b : Box Expr Global) (x y : Expr) → e ≡ G.And p a b → x ≡ a.value → y ≡ b.value → expr_of names e ≡ S.EAnd (expr_of names x) (expr_of names y)
    and_seen p a b x y is h g = ap (expr_of names) is ∙ ap (λ z. S.EAnd (expr_of names z) (expr_of names b.value)) (sym h) ∙ ap (λ z. S.EAnd (expr_of names x) (expr_of names z)) (sym g)

    pub or_seen : (p : Place) (a b : Box Expr Global) (x y : Expr) → e ≡ G.Or p a b → x ≡ a.value → y ≡ b.value → expr_of names e ≡ S.EOr (expr_of names x) (expr_of names y)
    or_seen p a b x y is h g = ap (expr_of names) is ∙ ap (λ z. S.EOr (expr_of names z) (expr_of names b.value)) (sym h) ∙ ap (λ z. S.EOr (expr_of names x) (expr_of names z)) (sym g)

    pub index_seen : (p : Place) (a b : Box Expr Global) (x y : Expr) → e ≡ G.Index p a b → x ≡ a.value → y ≡ b.value → expr_of names e ≡ S.EIndex (expr_of names x) (expr_of names y)
    index_seen p a b x y is h g = ap (expr_of names) is ∙ ap (λ z. S.EIndex (expr_of names z) (expr_of names b.value)) (sym h) ∙ ap (λ z. S.EIndex (expr_of names x) (expr_of names z)) (sym g)

    pub choose_seen : (p : Place) (t a b : Box Expr Global) (x y z : Expr) → e ≡ G.Choose p t a b → x ≡ t.value → y ≡ a.value → z ≡ b.value → expr_of names e ≡ S.EChoose (expr_of names x) (expr_of names y) (expr_of names z)
    choose_seen p t a b x y z is h g k =
        ap (expr_of names) is ∙ ap (λ u. S.EChoose (expr_of names u) (expr_of names a.value) (expr_of names b.value)) (sym h) ∙ ap (λ u. S.EChoose (expr_of names x) (expr_of names u) (expr_of names b.value)) (sym g)
        ∙ ap (λ u. S.EChoose (expr_of names x) (expr_of names y) (expr_of names u)) (sym k)

    pub member_seen : (p : Place) (b : Box Expr Global) (w : Word) (x : Expr) → e ≡ G.Member p b w → x ≡ b.value → expr_of names e ≡ S.EMember (expr_of names x) (names w.name)
    member_seen p b w x is h = ap (expr_of names) is ∙ ap (λ z. S.EMember (expr_of names z) (names w.name)) (sym h)

    pub arrow_seen : (p : Place) (b : Box Expr Global) (w : Word) (x : Expr) → e ≡ G.Arrow p b w → x ≡ b.value → expr_of names e ≡ S.EArrow (expr_of names x) (names w.name)
    arrow_seen p b w x is h = ap (expr_of names) is ∙ ap (λ z. S.EArrow (expr_of names z) (names w.name)) (sym h)
