-- Where no name is in scope, an image is the expression itself.
use Rattle.std.proofs.Common.{◌≡◌, Option, Some, None, refl, ap, ◌∙◌}
use Rattle.cpc_base.specs.Bytes.{Text}
use Rattle.cpc_tree.specs.Syntax.{Expr, ENamed, EInteger, ECharacter, EText, EUnary, EBinary, EAnd, EOr, EChoose, ECast, ESizeOf, EIndex, EMember, EArrow, ECall, Exprs, NoExpr, AndExpr}
use Rattle.cpc_convert_image_laws.specs.Images.{Readings, image_named, image, images, image_if}

module _ (r : Readings) (none : (x : Text) → r x ≡ None) where
  mutual
    pub same : (e : Expr) → image r e ≡ e
    same (ENamed x) = ap (λ o. image_named o x) (none x)
    same (EInteger kind z) = refl
    same (ECharacter z) = refl
    same (EText bytes) = refl
    same (EUnary sign e) = ap (EUnary sign) (same e)
    same (EBinary op a b) = ap (λ u. EBinary op u (image r b)) (same a) ∙ ap (EBinary op a) (same b)
    same (EAnd a b) = ap (λ u. EAnd u (image r b)) (same a) ∙ ap (EAnd a) (same b)
    same (EOr a b) = ap (λ u. EOr u (image r b)) (same a) ∙ ap (EOr a) (same b)
    same (EChoose t a b) = ap (λ u. EChoose u (image r a) (image r b)) (same t) ∙ (ap (λ u. EChoose t u (image r b)) (same a) ∙ ap (EChoose t a) (same b))
    same (ECast t e) = ap (ECast t) (same e)
    same (ESizeOf t) = refl
    same (EIndex a i) = ap (λ u. EIndex u (image r i)) (same a) ∙ ap (EIndex a) (same i)
    same (EMember e x) = ap (λ u. EMember u x) (same e)
    same (EArrow e x) = ap (λ u. EArrow u x) (same e)
    same (ECall f es) = ap (λ u. ECall u (images r es)) (same f) ∙ ap (ECall f) (same_all es)

    pub same_all : (es : Exprs) → images r es ≡ es
    same_all NoExpr = refl
    same_all (AndExpr e es) = ap (λ u. AndExpr u (images r es)) (same e) ∙ ap (AndExpr e) (same_all es)

  pub same_if : (o : Option Expr) → image_if r o ≡ o
  same_if None = refl
  same_if (Some e) = ap Some (same e)
