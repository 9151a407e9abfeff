-- The types of expressions by their forms.
use Rattle.std.proofs.Common.{◌≡◌, Bool, Option, ap, sym, ◌∙◌, Box, Global}
use Rattle.cpc_tree.specs.Erase.{Names, type_of, expr_of}
use Rattle.cpc_base.specs.declared.stop.Place.{Place}
use Rattle.cpc_num.specs.declared.kinds.Op.{Op}
use Rattle.cpc_tree.specs.declared.program.UnaryOp.{UnaryOp}
use Rattle.cpc_tree.specs.declared.program.CType.{CType}
use Rattle.cpc_tree.specs.declared.program.Word.{Word}
use Rattle.cpc_tree.specs.declared.program.Expr.{Expr}
use Rattle.cpc_tree.specs.declared.program.Expr.TheVariants as E
use Rattle.cpc_tree.specs.Syntax as S
use Rattle.cpc_tree.specs.Typing as T
use Rattle.cpc_check_rules.specs.Scopes as R
use Rattle.cpc_shapes.specs.Forms.{is_named, unary_of, binary_of, choice_of, cast_of, index_of, member_of, arrow_of, narrow_typed, wide_typed, logical_typed}
use Rattle.cpc_shapes.proofs.FormParts.{unary_typed}

-- ---- the forms, by what was found of their parts

-- what was found of a part, where the part is read by a reference
found_at : {X : Type 0} (f : S.Expr → X) (names : Names) (x y : Expr) (d : X) → x ≡ y → d ≡ f (expr_of names x) → d ≡ f (expr_of names y)
found_at f names x y d e h = h ∙ ap (λ z. f (expr_of names z)) e

module _ (names : Names) (e : Expr) (s : R.Scope) where
  pub unary_at : (p : Place) (op : UnaryOp) (b : Box Expr Global) (x y : Expr) (named : Bool) (d : Option T.Typed) → e ≡ E.Unary p op b → x ≡ b.value → y ≡ b.value
      → named ≡ is_named (expr_of names x) → d ≡ R.typed s (expr_of names y) → unary_of op named d ≡ narrow_typed s (expr_of names e)
  unary_at p op b x y named d is ex ey n f =
      ap (λ m. unary_of op m d) (found_at is_named names x b.value named ex n)
      ∙ ap (unary_of op (is_named (expr_of names b.value))) (found_at (R.typed s) names y b.value d ey f)
      ∙ sym (ap (narrow_typed s) (ap (expr_of names) is))

  pub cast_at : (p : Place) (t : CType) (b : Box Expr Global) (x y : Expr) (null : Bool) (d : Option T.Typed) → e ≡ E.Cast p t b → x ≡ b.value → y ≡ b.value
      → null ≡ T.is_null (expr_of names x) → d ≡ R.typed s (expr_of names y) → cast_of null (type_of names t) d ≡ narrow_typed s (expr_of names e)
  cast_at p t b x y null d is ex ey n f =
      ap (λ m. cast_of m (type_of names t) d) (found_at T.is_null names x b.value null ex n)
      ∙ ap (cast_of (T.is_null (expr_of names b.value)) (type_of names t)) (found_at (R.typed s) names y b.value d ey f)
      ∙ sym (ap (narrow_typed s) (ap (expr_of names) is))

  pub member_at : (p : Place) (b : Box Expr Global) (w : Word) (y : Expr) (d : Option T.Typed) → e ≡ E.Member p b w → y ≡ b.value → d ≡ R.typed s (expr_of names y)
      → member_of s.items d (names w.name) ≡ narrow_typed s (expr_of names e)
  member_at p b w y d is ey f = ap (λ x. member_of s.items x (names w.name)) (found_at (R.typed s) names y b.value d ey f) ∙ sym (ap (narrow_typed s) (ap (expr_of names) is))

  pub arrow_at : (p : Place) (b : Box Expr Global) (w : Word) (y : Expr) (d : Option T.Typed) → e ≡ E.Arrow p b w → y ≡ b.value → d ≡ R.typed s (expr_of names y)
      → arrow_of s.items d (names w.name) ≡ narrow_typed s (expr_of names e)
  arrow_at p b w y d is ey f = ap (λ x. arrow_of s.items x (names w.name)) (found_at (R.typed s) names y b.value d ey f) ∙ sym (ap (narrow_typed s) (ap (expr_of names) is))

  pub binary_at : (p : Place) (op : Op) (a b : Box Expr Global) (v w x y : Expr) (m n : Bool) (c d : Option T.Typed) → e ≡ E.Binary p op a b
      → v ≡ a.value → w ≡ b.value → x ≡ a.value → y ≡ b.value
      → m ≡ T.is_null (expr_of names v) → n ≡ T.is_null (expr_of names w) → c ≡ R.typed s (expr_of names x) → d ≡ R.typed s (expr_of names y)
      → binary_of s.items op m n c d ≡ wide_typed s (expr_of names e)
  binary_at p op a b v w x y m n c d is ev ew ex ey f g h i =
      let k = T.is_null (expr_of names a.value) in
      let l = T.is_null (expr_of names b.value) in
      ap (λ z. binary_of s.items op z n c d) (found_at T.is_null names v a.value m ev f)
      ∙ ap (λ z. binary_of s.items op k z c d) (found_at T.is_null names w b.value n ew g)
      ∙ ap (λ z. binary_of s.items op k l z d) (found_at (R.typed s) names x a.value c ex h)
      ∙ ap (binary_of s.items op k l (R.typed s (expr_of names a.value))) (found_at (R.typed s) names y b.value d ey i)
      ∙ sym (ap (wide_typed s) (ap (expr_of names) is))

  test_parts : (a b x y : Expr) (c d : Option T.Typed) → x ≡ a → y ≡ b → c ≡ R.typed s (expr_of names x) → d ≡ R.typed s (expr_of names y)
      → T.test_type c d ≡ T.test_type (R.typed s (expr_of names a)) (R.typed s (expr_of names b))
  test_parts a b x y c d ex ey h i = ap (λ k. T.test_type k d) (found_at (R.typed s) names x a c ex h) ∙ ap (T.test_type (R.typed s (expr_of names a))) (found_at (R.typed s) names y b d ey i)

  pub and_at : (p : Place) (a b : Box Expr Global) (x y : Expr) (c d : Option T.Typed) → e ≡ E.And p a b → x ≡ a.value → y ≡ b.value
      → c ≡ R.typed s (expr_of names x) → d ≡ R.typed s (expr_of names y) → T.test_type c d ≡ logical_typed s (expr_of names e)
  and_at p a b x y c d is ex ey h i = test_parts a.value b.value x y c d ex ey h i ∙ sym (ap (logical_typed s) (ap (expr_of names) is))

  pub or_at : (p : Place) (a b : Box Expr Global) (x y : Expr) (c d : Option T.Typed) → e ≡ E.Or p a b → x ≡ a.value → y ≡ b.value
      → c ≡ R.typed s (expr_of names x) → d ≡ R.typed s (expr_of names y) → T.test_type c d ≡ logical_typed s (expr_of names e)
  or_at p a b x y c d is ex ey h i = test_parts a.value b.value x y c d ex ey h i ∙ sym (ap (logical_typed s) (ap (expr_of names) is))

  pub choose_at : (p : Place) (t a b : Box Expr Global) (v w z x y : Expr) (m n : Bool) (k c d : Option T.Typed) → e ≡ E.Choose p t a b
      → v ≡ a.value → w ≡ b.value → z ≡ t.value → x ≡ a.value → y ≡ b.value
      → m ≡ T.is_null (expr_of names v) → n ≡ T.is_null (expr_of names w) → k ≡ R.typed s (expr_of names z) → c ≡ R.typed s (expr_of names x) → d ≡ R.typed s (expr_of names y)
      → choice_of m n k c d ≡ logical_typed s (expr_of names e)
  choose_at p t a b v w z x y m n k c d is ev ew ez ex ey f g j h i =
      let r = T.is_null (expr_of names a.value) in
      let l = T.is_null (expr_of names b.value) in
      let q = R.typed s (expr_of names t.value) in
      ap (λ u. choice_of u n k c d) (found_at T.is_null names v a.value m ev f)
      ∙ ap (λ u. choice_of r u k c d) (found_at T.is_null names w b.value n ew g)
      ∙ ap (λ u. choice_of r l u c d) (found_at (R.typed s) names z t.value k ez j)
      ∙ ap (λ u. choice_of r l q u d) (found_at (R.typed s) names x a.value c ex h)
      ∙ ap (choice_of r l q (R.typed s (expr_of names a.value))) (found_at (R.typed s) names y b.value d ey i)
      ∙ sym (ap (logical_typed s) (ap (expr_of names) is))

  pub index_at : (p : Place) (a b : Box Expr Global) (x y : Expr) (c d : Option T.Typed) → e ≡ E.Index p a b → x ≡ a.value → y ≡ b.value
      → c ≡ R.typed s (expr_of names x) → d ≡ R.typed s (expr_of names y) → index_of s.items c d ≡ wide_typed s (expr_of names e)
  index_at p a b x y c d is ex ey h i =
      ap (λ k. index_of s.items k d) (found_at (R.typed s) names x a.value c ex h)
      ∙ ap (index_of s.items (R.typed s (expr_of names a.value))) (found_at (R.typed s) names y b.value d ey i)
      ∙ sym (ap (wide_typed s) (ap (expr_of names) is))

  -- an operator on one operand, as the rules have it
  pub narrow_unary : (p : Place) (op : UnaryOp) (b : Box Expr Global) → e ≡ E.Unary p op b → narrow_typed s (expr_of names e) ≡ R.typed s (expr_of names e)
  narrow_unary p op b is = ap (λ x. narrow_typed s (expr_of names x)) is ∙ sym (unary_typed (R.meant s) s.items op (expr_of names b.value)) ∙ sym (ap (λ x. R.typed s (expr_of names x)) is)
