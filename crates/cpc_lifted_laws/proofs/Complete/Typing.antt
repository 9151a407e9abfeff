-- Images have the types of what they are images of.
use Rattle.std.proofs.Common.{◌≡◌, ℕ, Option, Some, sym, ◌∙◌, ap}
use Rattle.cpc_base.specs.Bytes.{Text}
use Rattle.cpc_base.proofs.Lists.{some_is}
use Rattle.cpc_tree.specs.declared.program.UnaryOp.TheVariants.{AddressOf}
use Rattle.cpc_tree.specs.Syntax.{Ty, Expr, ENamed, EInteger, ECharacter, EText, EUnary, EBinary, EAnd, EOr, EChoose, ECast, ESizeOf, EIndex, EMember, EArrow, ECall}
use Rattle.cpc_tree.specs.Typing.{Meant, Typed, APlace, type_named, used, size, sign_type, tested_type, test_type, address_type, typing_of}
use Rattle.cpc_tree.proofs.Options.{then_some}
use Rattle.cpc_check_rules.specs.Scopes.{meant, typed}
use Rattle.cpc_check_rules.specs.Operators.{Where, typed_at}
use Rattle.cpc_check_laws.proofs.Native.OnePlace.{expr_here, expr_again}
use Rattle.cpc_check_laws.proofs.Sound.Answers.{no_some}
use Rattle.cpc_check_laws.proofs.Sound.Options.{then_of}
use Rattle.cpc_check_laws.proofs.Sound.Agreement.{Grows, sizes_grow}
use Rattle.cpc_check_laws.proofs.Sound.Expressions.{sign_some}
use Rattle.cpc_check_laws.proofs.Sound.More.{tested_more, typing_more}
use Rattle.cpc_convert_image_laws.specs.Images.{Reading, Readings, image_named, image}
use Rattle.cpc_convert_image_laws.proofs.Types.{same_null}
use Rattle.cpc_lifted_laws.specs.Complete.Reads.{Reads, ReadsLocal, ReadsField, StaysLocal, StaysGlobal, StaysFunction, IsCps, StaysNothing, Carries}

-- at one place an expression has the type that it has without places
pub type_again : (w : Where) (e : Expr) → typed_at w (expr_here e) ≡ typed w.scope e
type_again w e = ap (typed w.scope) (expr_again e)

module _ (w v : Where) (r : Readings) (c : Carries w v r) where
  pub grows : Grows w.scope.items v.scope.items
  grows = record { cells = c.cells; fields = c.fields }

  pub sizes : (t : Ty) (n : ℕ) → size w.scope.items t ≡ Some n → size v.scope.items t ≡ Some n
  sizes t n e = sizes_grow w.scope.items v.scope.items grows t n e

  -- the type of a name, and of its address
  named_image : (x : Text) (o : Option Reading) (m : Meant) → Reads v.scope x o m → (d : Typed) → type_named m ≡ Some d → typed v.scope (image_named o x) ≡ Some d
  named_image x _ _ (ReadsLocal y j k t e) d h = ap type_named e ∙ h
  named_image x _ _ (ReadsField y f tag j k n t e g) d h = simp (e, g) h
  named_image x _ _ (StaysLocal j k t e) d h = ap type_named e ∙ h
  named_image x _ _ (StaysGlobal j k t e) d h = ap type_named e ∙ h
  named_image x _ _ (StaysFunction mode u ts e) d h = ap type_named e ∙ h
  named_image x _ _ (IsCps o u ts) d h = no_some d h
  named_image x _ _ (StaysNothing e) d h = no_some d h

  address_image : (x : Text) (o : Option Reading) (m : Meant) → Reads v.scope x o m → (b d : Typed) → type_named m ≡ Some b → Some (address_type b) ≡ Some d → typed v.scope (EUnary AddressOf (image_named o x)) ≡ Some d
  address_image x _ _ (ReadsLocal y j k t e) b d g h = then_of (type_named (meant v.scope y)) _ b d (ap type_named e ∙ g) h
  address_image x _ _ (ReadsField y f tag j k n t e i) b d g h =
      let same : APlace t ≡ b = some_is (APlace t) b g in
      simp (e, i) (ap (λ b. Some (address_type b)) same ∙ h)
  address_image x _ _ (StaysLocal j k t e) b d g h = then_of (type_named (meant v.scope x)) _ b d (ap type_named e ∙ g) h
  address_image x _ _ (StaysGlobal j k t e) b d g h = then_of (type_named (meant v.scope x)) _ b d (ap type_named e ∙ g) h
  address_image x _ _ (StaysFunction mode u ts e) b d g h = then_of (type_named (meant v.scope x)) _ b d (ap type_named e ∙ g) h
  address_image x _ _ (IsCps o u ts) b d g h = no_some b g
  address_image x _ _ (StaysNothing e) b d g h = no_some b g

  tests : (a b : Expr) (d : Typed) → test_type (typing_of (meant w.scope) v.scope.items a) (typing_of (meant w.scope) v.scope.items b) ≡ Some d
      → ((d : Typed) → typing_of (meant w.scope) v.scope.items a ≡ Some d → typed v.scope (image r a) ≡ Some d) → ((d : Typed) → typing_of (meant w.scope) v.scope.items b ≡ Some d → typed v.scope (image r b) ≡ Some d)
      → test_type (typed v.scope (image r a)) (typed v.scope (image r b)) ≡ Some d
  tests a b d h f g =
      let k = then_some (tested_type (typing_of (meant w.scope) v.scope.items a)) _ d h in
      let l = then_some (tested_type (typing_of (meant w.scope) v.scope.items b)) _ d k.2 in
      then_of (tested_type (typed v.scope (image r a))) _ k.0 d (tested_more _ _ k.0 f k.1) (then_of (tested_type (typed v.scope (image r b))) _ l.0 d (tested_more _ _ l.0 g l.1) l.2)

  -- where more is declared, images have the types of what they are images of
  read_image : (e : Expr) (d : Typed) → typing_of (meant w.scope) v.scope.items e ≡ Some d → typed v.scope (image r e) ≡ Some d
  read_image (ENamed x) d h = named_image x (r x) (meant w.scope x) (c.names x) d h
  read_image (EInteger kind z) d h = h
  read_image (ECharacter z) d h = h
  read_image (EText bytes) d h = h
  read_image (EUnary AddressOf (ENamed x)) d h =
      let k = then_some (type_named (meant w.scope x)) _ d h in
      address_image x (r x) (meant w.scope x) (c.names x) k.0 d k.1 k.2
  read_image (EUnary sign e) d h =
      let k = sign_some sign (typing_of (meant w.scope) v.scope.items e) d h in
      ap (sign_type sign) (read_image e k.0 k.1) ∙ k.2
  read_image (EBinary op a b) d h =
      let k = then_some (typing_of (meant w.scope) v.scope.items a) _ d h in
      let l = then_some (used k.0) _ d k.2 in
      let m = then_some (typing_of (meant w.scope) v.scope.items b) _ d l.2 in
      let n = then_some (used m.0) _ d m.2 in
      then_of (typed v.scope (image r a)) _ k.0 d (read_image a k.0 k.1) (then_of (used k.0) _ l.0 d l.1 (then_of (typed v.scope (image r b)) _ m.0 d (read_image b m.0 m.1) (then_of (used m.0) _ n.0 d n.1
      (rw (same_null r a, same_null r b) n.2))))
  read_image (EAnd a b) d h = tests a b d h (λ d h. read_image a d h) (λ d h. read_image b d h)
  read_image (EOr a b) d h = tests a b d h (λ d h. read_image a d h) (λ d h. read_image b d h)
  read_image (EChoose t a b) d h =
      let o = then_some (tested_type (typing_of (meant w.scope) v.scope.items t)) _ d h in
      let k = then_some (typing_of (meant w.scope) v.scope.items a) _ d o.2 in
      let l = then_some (used k.0) _ d k.2 in
      let m = then_some (typing_of (meant w.scope) v.scope.items b) _ d l.2 in
      let n = then_some (used m.0) _ d m.2 in
      then_of (tested_type (typed v.scope (image r t))) _ o.0 d (tested_more _ _ o.0 (λ d h. read_image t d h) o.1) (then_of (typed v.scope (image r a)) _ k.0 d (read_image a k.0 k.1) (then_of (used k.0) _ l.0 d l.1
      (then_of (typed v.scope (image r b)) _ m.0 d (read_image b m.0 m.1) (then_of (used m.0) _ n.0 d n.1 (rw (same_null r a, same_null r b) n.2)))))
  read_image (ECast t e) d h =
      let k = then_some (typing_of (meant w.scope) v.scope.items e) _ d h in
      then_of (typed v.scope (image r e)) _ k.0 d (read_image e k.0 k.1) (rw (same_null r e) k.2)
  read_image (ESizeOf t) d h = h
  read_image (EIndex a i) d h =
      let k = then_some (typing_of (meant w.scope) v.scope.items a) _ d h in
      let l = then_some (used k.0) _ d k.2 in
      let m = then_some (typing_of (meant w.scope) v.scope.items i) _ d l.2 in
      then_of (typed v.scope (image r a)) _ k.0 d (read_image a k.0 k.1) (then_of (used k.0) _ l.0 d l.1 (then_of (typed v.scope (image r i)) _ m.0 d (read_image i m.0 m.1) m.2))
  read_image (EMember e x) d h =
      let k = then_some (typing_of (meant w.scope) v.scope.items e) _ d h in
      then_of (typed v.scope (image r e)) _ k.0 d (read_image e k.0 k.1) k.2
  read_image (EArrow e x) d h =
      let k = then_some (typing_of (meant w.scope) v.scope.items e) _ d h in
      then_of (typed v.scope (image r e)) _ k.0 d (read_image e k.0 k.1) k.2
  read_image (ECall f es) d h = h

  pub typed_image : (e : Expr) (d : Typed) → typed w.scope e ≡ Some d → typed v.scope (image r e) ≡ Some d
  typed_image e d h = read_image e d (typing_more w.scope.items v.scope.items sizes c.fields (meant w.scope) (meant w.scope) (λ x d h. h) e d h)

  -- at one place
  pub here_image : (e : Expr) (d : Typed) → typed_at w (expr_here e) ≡ Some d → typed_at v (expr_here (image r e)) ≡ Some d
  here_image e d h = type_again v (image r e) ∙ typed_image e d (sym (type_again w e) ∙ h)
