-- What the walk notes of an expression with one operand, by what was found and noted of its parts.
use Rattle.std.proofs.Common.{◌≡◌, Bool, Option, is_some, ap, sym, ◌∙◌, Box, Global}
use Rattle.cpc_base.specs.declared.stop.Place.{Place}
use Rattle.cpc_tree.specs.declared.program.UnaryOp.{UnaryOp}
use Rattle.cpc_tree.specs.declared.program.CType.{CType}
use Rattle.cpc_tree.specs.declared.program.Word.{Word}
use Rattle.cpc_tree.specs.declared.program.Expr.{Expr}
use Rattle.cpc_tree.specs.declared.program.Expr.TheVariants as E
use Rattle.cpc_tree.specs.Erase.{Names, type_of, expr_of}
use Rattle.cpc_tree.specs.Located.{LExpr, LUnary, LCast, LMember, LArrow, bare_expr}
use Rattle.cpc_tree.specs.Locate.{ident, located_expr}
use Rattle.cpc_tree.specs.Typing as T
use Rattle.cpc_tree.specs.Typing.{Typed}
use Rattle.cpc_tree.proofs.Places.{bare_located}
use Rattle.cpc_check_rules.specs.declared.rule.Rule.{Rule}
use Rattle.cpc_check_rules.specs.Rule.{Broken}
use Rattle.cpc_check_rules.specs.Noted.{noted}
use Rattle.cpc_check_rules.specs.Operators as O
use Rattle.cpc_check_rules.specs.Operators.{Where, typed_at, first}
use Rattle.cpc_check_rules.specs.ExprRules.{expr_breaks}
use Rattle.cpc_shapes.specs.Forms as F
use Rattle.cpc_check_values.specs.Parts.{unary_breaks}
use Rattle.cpc_check_values.specs.Walked.{narrow_typed, narrow_breaks}
use Rattle.cpc_check_values.proofs.Walks.{unary_whole, unary_noted, cast_noted, member_noted, arrow_noted}

abbrev Firsts : Type 0
Firsts = Option (Place × Rule)

-- what is said of an expression that is read by a reference
pub at : {X : Type 0} (f : LExpr → X) (names : Names) (x y : Expr) (d : X) → x ≡ y → d ≡ f (located_expr names x) → d ≡ f (located_expr names y)
at f names x y d e h = h ∙ ap (λ z. f (located_expr names z)) e

-- the same, where it is said of the expression without its places
pub bare_at : {X : Type 0} (f : _ → X) (names : Names) (x y : Expr) (d : X) → x ≡ y → d ≡ f (expr_of names x) → d ≡ f (bare_expr (located_expr names y))
bare_at f names x y d e h = h ∙ ap (λ z. f (expr_of names z)) e ∙ ap f (sym (bare_located names y))

module _ (names : Names) (w : Where) (e : Expr) where
  -- ---- one operand

  -- the row of an operand, and one behind it
  pub one_noted : (le : LExpr) (G : LExpr → Broken) (R : Option Typed → Broken) (b : Box Expr Global) (x : Expr) (d : Option Typed) (o m n : Firsts)
      → located_expr names e ≡ le → x ≡ b.value → d ≡ typed_at w (located_expr names x) → m ≡ noted o (expr_breaks w (located_expr names x)) → n ≡ noted m (R d)
      → noted (noted o (expr_breaks w (located_expr names b.value))) (R (typed_at w (located_expr names b.value))) ≡ noted o (G le)
      → n ≡ noted o (G (located_expr names e))
  one_noted le G R b x d o m n is ex f h k l =
      k
      ∙ ap (λ a. noted a (R d)) (at (λ v. noted o (expr_breaks w v)) names x b.value m ex h)
      ∙ ap (λ c. noted (noted o (expr_breaks w (located_expr names b.value))) (R c)) (at (typed_at w) names x b.value d ex f)
      ∙ l
      ∙ sym (ap (λ v. noted o (G v)) is)

  pub unary_found : (q : Place) (op : UnaryOp) (b : Box Expr Global) (x y : Expr) (named : Bool) (d : Option Typed) → e ≡ E.Unary q op b → x ≡ b.value → y ≡ b.value
      → named ≡ F.is_named (expr_of names y) → d ≡ typed_at w (located_expr names x) → F.unary_of op named d ≡ narrow_typed w (located_expr names e)
  unary_found q op b x y named d is ex ey g f =
      let v = located_expr names b.value in
      ap (λ c. F.unary_of op c d) (bare_at F.is_named names y b.value named ey g)
      ∙ ap (F.unary_of op (F.is_named (bare_expr v))) (at (typed_at w) names x b.value d ex f)
      ∙ unary_whole w q op v
      ∙ sym (ap (λ z. narrow_typed w (located_expr names z)) is)

  pub unary_told : (q : Place) (op : UnaryOp) (b : Box Expr Global) (x y z : Expr) (named : Bool) (p : Place) (d : Option Typed) (o m n : Firsts) → e ≡ E.Unary q op b → x ≡ b.value → y ≡ b.value → z ≡ b.value
      → named ≡ F.is_named (expr_of names y) → p ≡ first (located_expr names z) → d ≡ typed_at w (located_expr names x) → m ≡ noted o (expr_breaks w (located_expr names x))
      → n ≡ noted m (unary_breaks op d (F.unary_of op named d) q p) → n ≡ noted o (narrow_breaks w (located_expr names e))
  unary_told q op b x y z named p d o m n is ex ey ez g r f h k =
      let v = located_expr names b.value in
      let t = typed_at w v in
      one_noted (LUnary q op v) (narrow_breaks w) (λ c. unary_breaks op c (F.unary_of op named c) q p) b x d o m n (ap (located_expr names) is) ex f h k
      (ap (λ c. noted (noted o (expr_breaks w v)) (unary_breaks op t (F.unary_of op c t) q p)) (bare_at F.is_named names y b.value named ey g)
      ∙ ap (λ c. noted (noted o (expr_breaks w v)) (unary_breaks op t (F.unary_of op (F.is_named (bare_expr v)) t) q c)) (at first names z b.value p ez r)
      ∙ unary_noted w o q op v)

  pub cast_found : (q : Place) (t : CType) (b : Box Expr Global) (x y : Expr) (null : Bool) (d : Option Typed) → e ≡ E.Cast q t b → x ≡ b.value → y ≡ b.value
      → null ≡ T.is_null (expr_of names y) → d ≡ typed_at w (located_expr names x) → F.cast_of null (type_of names t) d ≡ narrow_typed w (located_expr names e)
  cast_found q t b x y null d is ex ey g f =
      let v = located_expr names b.value in
      ap (λ c. F.cast_of c (type_of names t) d) (bare_at T.is_null names y b.value null ey g)
      ∙ ap (F.cast_of (T.is_null (bare_expr v)) (type_of names t)) (at (typed_at w) names x b.value d ex f)
      ∙ sym (ap (λ z. narrow_typed w (located_expr names z)) is)

  pub cast_told : (q : Place) (t : CType) (b : Box Expr Global) (x y : Expr) (null : Bool) (d : Option Typed) (o m n : Firsts) → e ≡ E.Cast q t b → x ≡ b.value → y ≡ b.value
      → null ≡ T.is_null (expr_of names y) → d ≡ typed_at w (located_expr names x) → m ≡ noted o (expr_breaks w (located_expr names x))
      → n ≡ noted m (O.no_rule (is_some d) (F.cast_of null (type_of names t) d) q) → n ≡ noted o (narrow_breaks w (located_expr names e))
  cast_told q t b x y null d o m n is ex ey g f h k =
      let v = located_expr names b.value in
      let u = typed_at w v in
      one_noted (LCast q (type_of names t) v) (narrow_breaks w) (λ c. O.no_rule (is_some c) (F.cast_of null (type_of names t) c) q) b x d o m n (ap (located_expr names) is) ex f h k
      (ap (λ c. noted (noted o (expr_breaks w v)) (O.no_rule (is_some u) (F.cast_of c (type_of names t) u) q)) (bare_at T.is_null names y b.value null ey g)
      ∙ cast_noted w o q (type_of names t) v)

  pub member_told : (q : Place) (b : Box Expr Global) (x : Expr) (field : Word) (d : Option Typed) (o m n : Firsts) → e ≡ E.Member q b field → x ≡ b.value
      → d ≡ typed_at w (located_expr names x) → m ≡ noted o (expr_breaks w (located_expr names x))
      → n ≡ noted m (O.member_breaks w.scope d q (ident names field) (F.member_of w.scope.items d (names field.name))) → n ≡ noted o (narrow_breaks w (located_expr names e))
  member_told q b x field d o m n is ex f h k =
      one_noted (LMember q (located_expr names b.value) (ident names field)) (narrow_breaks w) (λ c. O.member_breaks w.scope c q (ident names field) (F.member_of w.scope.items c (names field.name))) b x d o m n
      (ap (located_expr names) is) ex f h k (member_noted w o q (located_expr names b.value) (ident names field))

  pub arrow_told : (q : Place) (b : Box Expr Global) (x : Expr) (field : Word) (d : Option Typed) (o m n : Firsts) → e ≡ E.Arrow q b field → x ≡ b.value
      → d ≡ typed_at w (located_expr names x) → m ≡ noted o (expr_breaks w (located_expr names x))
      → n ≡ noted m (O.arrow_breaks w.scope d q (ident names field) (F.arrow_of w.scope.items d (names field.name))) → n ≡ noted o (narrow_breaks w (located_expr names e))
  arrow_told q b x field d o m n is ex f h k =
      one_noted (LArrow q (located_expr names b.value) (ident names field)) (narrow_breaks w) (λ c. O.arrow_breaks w.scope c q (ident names field) (F.arrow_of w.scope.items c (names field.name))) b x d o m n
      (ap (located_expr names) is) ex f h k (arrow_noted w o q (located_expr names b.value) (ident names field))
