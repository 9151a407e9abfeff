-- Scopes of the same items in which each name stands for the same: expressions break the same there.
use Rattle.std.proofs.Common.{◌≡◌, Bool, true, false, ◌&&◌, not, List, [], ◌∷◌, ◌++◌, map, Option, Some, None, is_some, refl, ap, ◌∙◌, length}
use Rattle.std.specs.Prelude.{bytes_eq}
use Rattle.cpc_base.specs.Bytes.{Text}
use Rattle.cpc_base.specs.declared.stop.Place.{Place}
use Rattle.cpc_num.specs.declared.kinds.Op.TheVariants.{Add}
use Rattle.cpc_tree.specs.declared.program.UnaryOp.TheVariants.{AddressOf}
use Rattle.cpc_tree.specs.Syntax.{Ty, Variable, Program}
use Rattle.cpc_tree.specs.Located.{Ident, LExpr, LNamed, LInteger, LCharacter, LText, LUnary, LBinary, LAnd, LOr, LChoose, LCast, LSizeOf, LIndex, LMember, LArrow, LCall, LExprs, NoLExpr, AndLExpr, bare_expr}
use Rattle.cpc_tree.specs.Primitives.{Primitive, RtDetach, primitive_named, takes_first}
use Rattle.cpc_tree.specs.Typing.{Meant, ALocal, AGlobal, AFunction, NotMeant, Typed, APlace, typing_of}
use Rattle.cpc_check_rules.specs.declared.rule.Rule.TheVariants.{Disagree, NotClosed, CallInside}
use Rattle.cpc_check_rules.specs.Rule.{Broken, at_if}
use Rattle.cpc_check_rules.specs.Scopes.{Block, meant, takes_typed, with_name, with_block}
use Rattle.cpc_check_rules.specs.Operators.{Where, typed_at, used_of, first, is_detached, name_breaks, no_rule, binary_breaks, address_breaks, member_breaks, arrow_breaks}
use Rattle.cpc_check_rules.specs.Calls as C
use Rattle.cpc_check_rules.specs.ExprRules.{called_breaks, arg_breaks, expr_breaks, args_breaks}
use Rattle.cpc_check_rules.specs.StmtRules.{in_scope, start_breaks, fits_breaks}

two : {a b c d : Broken} → a ≡ b → c ≡ d → a ++ c ≡ b ++ d
two {b = b} {c = c} e f = ap (λ z. z ++ c) e ∙ ap (λ z. b ++ z) f

two_types : (f : Option Typed → Option Typed → Broken) {a b c d : Option Typed} → a ≡ b → c ≡ d → f a c ≡ f b d
two_types f {b = b} {c = c} e g = ap (λ z. f z c) e ∙ ap (f b) g

three_types : (f : Option Typed → Option Typed → Option Typed → Broken) {a b c d e g : Option Typed} → a ≡ b → c ≡ d → e ≡ g → f a c e ≡ f b d g
three_types f {b = b} {c = c} {d = d} {e = e} h k l = ap (λ z. f z c e) h ∙ ap (λ z. f b z e) k ∙ ap (f b d) l

abbrev at : Where → Program → List Block → Where
at w i bs = in_scope w (record { items = i; blocks = bs })

module _ (u : Where) (i : Program) (bs cs : List Block) (same : (x : Text) → meant (record { items = i; blocks = bs }) x ≡ meant (record { items = i; blocks = cs }) x) where
  abbrev w : Where
  w = at u i bs

  abbrev v : Where
  v = at u i cs

  type_same : (e : LExpr) → typed_at w e ≡ typed_at v e
  type_same e = let all : meant w.scope ≡ meant v.scope = (λ j x. same x j) in ap (λ (m : Text → Meant). typing_of m i (bare_expr e)) all

  section_same : (o : Option LExpr) → C.section_of w.scope o ≡ C.section_of v.scope o
  section_same (Some (LNamed x)) = ap (C.section_callee w.scope) (same x.text)
  section_same o = refl

  wants_same : (p : Primitive) (es : LExprs) → C.wants w.scope p es ≡ C.wants v.scope p es
  wants_same RtDetach es = ap (λ c. map C.wanted_of (takes_first RtDetach) ++ C.detached_wants (length (C.count es)) c) (section_same (C.third es))
  wants_same p es = refl

  code_same : (f : LExpr) → C.code_callee (used_of (typed_at w f)) ≡ C.code_callee (used_of (typed_at v f))
  code_same f = ap (λ t. C.code_callee (used_of t)) (type_same f)

  named_callee_same : (f : LExpr) (es : LExprs) (m : Meant) (o : Option Primitive) → C.named_callee w f es m o ≡ C.named_callee v f es m o
  named_callee_same f es (ALocal n t) o = code_same f
  named_callee_same f es (AGlobal n t) o = code_same f
  named_callee_same f es (AFunction k r ps) o = refl
  named_callee_same f es NotMeant None = refl
  named_callee_same f es NotMeant (Some p) = ap (λ ws. C.Takes ws (C.gives p)) (wants_same p es)

  callee_same : (f : LExpr) (es : LExprs) → C.callee w f es ≡ C.callee v f es
  callee_same (LNamed x) es = ap (λ m. C.named_callee w (LNamed x) es m (primitive_named x.text)) (same x.text) ∙ named_callee_same (LNamed x) es (meant v.scope x.text) (primitive_named x.text)
  callee_same f es = code_same f

  pointer_same : (f : LExpr) (parts : Broken) → C.pointer_breaks w f parts ≡ C.pointer_breaks v f parts
  pointer_same f parts = ap (λ t. parts ++ (at_if (is_detached u.mode) (first f) NotClosed ++ C.no_code t (first f))) (type_same f)

  named_same : (f : LExpr) (q : Place) (parts : Broken) (m : Meant) (o : Option Primitive) → C.named_breaks w f q parts m o ≡ C.named_breaks v f q parts m o
  named_same f q parts (ALocal n t) o = pointer_same f parts
  named_same f q parts (AGlobal n t) o = pointer_same f parts
  named_same f q parts (AFunction k r ps) o = refl
  named_same f q parts NotMeant None = refl
  named_same f q parts NotMeant (Some p) = refl

  called_same : (f : LExpr) (a b : Broken) → a ≡ b → called_breaks w f a ≡ called_breaks v f b
  called_same (LNamed x) a b e =
      ap (λ z. C.named_breaks w (LNamed x) x.place z (meant w.scope x.text) (primitive_named x.text)) e
      ∙ ap (λ m. C.named_breaks w (LNamed x) x.place b m (primitive_named x.text)) (same x.text)
      ∙ named_same (LNamed x) x.place b (meant v.scope x.text) (primitive_named x.text)
  called_same f a b e = ap (C.pointer_breaks w f) e ∙ pointer_same f b

  suits_same : (t : C.Wanted) (e : LExpr) (d : Typed) → C.suits w.scope t e d ≡ C.suits v.scope t e d
  suits_same (C.Callback t) (LNamed x) d = ap (λ m. C.is_function m && takes_typed t (bare_expr (LNamed x)) d) (same x.text)
  suits_same C.ForSection e d = ap C.is_callee (section_same (Some e))
  suits_same t e d = refl

  suit_same : (t : C.Wanted) (e : LExpr) (o : Option Typed) → C.suit_breaks w.scope t e o ≡ C.suit_breaks v.scope t e o
  suit_same t e None = refl
  suit_same t e (Some d) = ap (λ b. at_if (not b) (first e) Disagree) (suits_same t e d)

  suited_same : (t : C.Wanted) (e : LExpr) (a b : Broken) → a ≡ b → a ++ C.suit_breaks w.scope t e (typed_at w e) ≡ b ++ C.suit_breaks v.scope t e (typed_at v e)
  suited_same t e a b h = two h (ap (C.suit_breaks w.scope t e) (type_same e) ∙ suit_same t e (typed_at v e))

  arg_same : (t : C.Wanted) (e : LExpr) (a b : Broken) → a ≡ b → arg_breaks w t e a ≡ arg_breaks v t e b
  arg_same C.String (LText q bytes) a b h = refl
  arg_same t e a b h = suited_same t e a b h

  mutual
    expr_same : (e : LExpr) → expr_breaks w e ≡ expr_breaks v e
    expr_same (LNamed x) = ap (name_breaks u.mode x.place) (same x.text)
    expr_same (LInteger q kind z) = refl
    expr_same (LCharacter q z) = refl
    expr_same (LText q bytes) = refl
    expr_same (LUnary q AddressOf a) = two (expr_same a) (two_types (λ s t. address_breaks s t (first a)) (type_same a) (type_same (LUnary q AddressOf a)))
    expr_same (LUnary q op a) = two (expr_same a) (two_types (λ s t. no_rule (is_some s) t q) (type_same a) (type_same (LUnary q op a)))
    expr_same (LBinary q op a b) = two (expr_same a) (two (expr_same b) (three_types (λ s t z. binary_breaks w.scope op s t z q) (type_same a) (type_same b) (type_same (LBinary q op a b))))
    expr_same (LAnd q a b) = two (expr_same a) (two (expr_same b) (three_types (λ s t z. no_rule (is_some s && is_some t) z q) (type_same a) (type_same b) (type_same (LAnd q a b))))
    expr_same (LOr q a b) = two (expr_same a) (two (expr_same b) (three_types (λ s t z. no_rule (is_some s && is_some t) z q) (type_same a) (type_same b) (type_same (LOr q a b))))
    expr_same (LChoose q c a b) = two (expr_same c) (two (expr_same a) (two (expr_same b)
        (ap (λ r. no_rule (is_some r && (is_some (typed_at w a) && is_some (typed_at w b))) (typed_at w (LChoose q c a b)) q) (type_same c)
        ∙ three_types (λ s t z. no_rule (is_some (typed_at v c) && (is_some s && is_some t)) z q) (type_same a) (type_same b) (type_same (LChoose q c a b)))))
    expr_same (LCast q t a) = two (expr_same a) (two_types (λ s z. no_rule (is_some s) z q) (type_same a) (type_same (LCast q t a)))
    expr_same (LSizeOf q t) = refl
    expr_same (LIndex q a b) = two (expr_same a) (two (expr_same b) (three_types (λ s t z. binary_breaks w.scope Add s t z q) (type_same a) (type_same b) (type_same (LIndex q a b))))
    expr_same (LMember q a x) = two (expr_same a) (two_types (λ s z. member_breaks w.scope s q x z) (type_same a) (type_same (LMember q a x)))
    expr_same (LArrow q a x) = two (expr_same a) (two_types (λ s z. arrow_breaks w.scope s q x z) (type_same a) (type_same (LArrow q a x)))
    expr_same (LCall q f es) = ap (λ z. (first f, CallInside) ∷ z) (two (called_same f (expr_breaks w f) (expr_breaks v f) (expr_same f)) (two (ap (λ c. C.number_breaks c es (first f)) (callee_same f es))
        (ap (λ c. args_breaks w (C.wanted c) es) (callee_same f es) ∙ args_same (C.wanted (C.callee v f es)) es)))

    args_same : (ts : List C.Wanted) (es : LExprs) → args_breaks w ts es ≡ args_breaks v ts es
    args_same ts NoLExpr = refl
    args_same [] (AndLExpr e es) = two (expr_same e) (args_same [] es)
    args_same (t ∷ ts) (AndLExpr e es) = two (arg_same t e (expr_breaks w e) (expr_breaks v e) (expr_same e)) (args_same ts es)

  start_same : (x : Ident) (t : Ty) (o : Option LExpr) → start_breaks w x t o ≡ start_breaks v x t o
  start_same x t None = refl
  start_same x t (Some e) = two (expr_same e) (ap (λ d. fits_breaks (Some (APlace t)) e d x.place) (type_same e))

-- a name in a block of its own, and in the innermost block
meant_alone : (i : Program) (bs : List Block) (y : Variable) (x : Text) → meant (with_name (with_block (record { items = i; blocks = bs })) y) x ≡ meant (with_name (record { items = i; blocks = bs }) y) x
meant_alone i [] y x = refl
meant_alone i (b ∷ bs) y x = go (bytes_eq y.called x) refl where
  go : (t : Bool) → bytes_eq y.called x ≡ t → meant (with_name (with_block (record { items = i; blocks = b ∷ bs })) y) x ≡ meant (with_name (record { items = i; blocks = b ∷ bs }) y) x
  go true e = rw e refl
  go false e = rw e refl

pub start_alone : (w : Where) (y : Variable) (x : Ident) (t : Ty) (o : Option LExpr) → start_breaks (in_scope w (with_name (with_block w.scope) y)) x t o ≡ start_breaks (in_scope w (with_name w.scope y)) x t o
start_alone w y x t o = start_same w w.scope.items (with_name (with_block w.scope) y).blocks (with_name w.scope y).blocks (meant_alone w.scope.items w.scope.blocks y) x t o
