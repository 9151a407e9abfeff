-- What the walk notes of an expression with two or three operands, by what was found and noted of its parts.
use Rattle.std.proofs.Common.{◌≡◌, Bool, ◌&&◌, ◌++◌, Option, is_some, ap, sym, ◌∙◌, Box, Global}
use Rattle.cpc_base.specs.declared.stop.Place.{Place}
use Rattle.cpc_num.specs.declared.kinds.Op.{Op}
use Rattle.cpc_num.specs.declared.kinds.Op.TheVariants.{Add}
use Rattle.cpc_tree.specs.declared.program.Expr.{Expr}
use Rattle.cpc_tree.specs.declared.program.Expr.TheVariants as E
use Rattle.cpc_tree.specs.Erase.{Names, expr_of}
use Rattle.cpc_tree.specs.Located.{LAnd, bare_expr}
use Rattle.cpc_tree.specs.Locate.{located_expr}
use Rattle.cpc_tree.specs.Typing as T
use Rattle.cpc_tree.specs.Typing.{Typed}
use Rattle.cpc_check_rules.specs.declared.rule.Rule.{Rule}
use Rattle.cpc_check_rules.specs.Rule.{Broken}
use Rattle.cpc_check_rules.specs.Noted.{noted}
use Rattle.cpc_check_rules.specs.Operators as O
use Rattle.cpc_check_rules.specs.Operators.{Where, typed_at}
use Rattle.cpc_check_rules.specs.ExprRules.{expr_breaks}
use Rattle.cpc_shapes.specs.Forms as F
use Rattle.cpc_check_values.specs.Walked.{wide_typed, wide_breaks, logical_typed, logical_breaks}
use Rattle.cpc_check_values.proofs.Walks.{after_two, after_three}
use Rattle.cpc_check_values.proofs.Steps.{at, bare_at}

abbrev Firsts : Type 0
Firsts = Option (Place × Rule)

module _ (names : Names) (w : Where) (e : Expr) where
  -- ---- two operands

  -- what is found of two operands
  two_found : {X : Type 0} (R : Option Typed → Option Typed → X) (a b : Box Expr Global) (x y : Expr) (c d : Option Typed) → x ≡ a.value → y ≡ b.value
      → c ≡ typed_at w (located_expr names x) → d ≡ typed_at w (located_expr names y) → R c d ≡ R (typed_at w (located_expr names a.value)) (typed_at w (located_expr names b.value))
  two_found R a b x y c d ex ey f g =
      ap (λ z. R z d) (at (typed_at w) names x a.value c ex f) ∙ ap (R (typed_at w (located_expr names a.value))) (at (typed_at w) names y b.value d ey g)

  -- the rows of two operands, and one behind them
  two_noted : (R : Option Typed → Option Typed → Broken) (a b : Box Expr Global) (x y : Expr) (c d : Option Typed) (o l m n : Firsts) → x ≡ a.value → y ≡ b.value
      → c ≡ typed_at w (located_expr names x) → d ≡ typed_at w (located_expr names y) → l ≡ noted o (expr_breaks w (located_expr names x)) → m ≡ noted l (expr_breaks w (located_expr names y)) → n ≡ noted m (R c d)
      → n ≡ noted (noted (noted o (expr_breaks w (located_expr names a.value))) (expr_breaks w (located_expr names b.value))) (R (typed_at w (located_expr names a.value)) (typed_at w (located_expr names b.value)))
  two_noted R a b x y c d o l m n ex ey f g h i k =
      k
      ∙ ap (λ z. noted z (R c d)) (at (λ v. noted l (expr_breaks w v)) names y b.value m ey i ∙ ap (λ z. noted z (expr_breaks w (located_expr names b.value))) (at (λ v. noted o (expr_breaks w v)) names x a.value l ex h))
      ∙ ap (noted (noted (noted o (expr_breaks w (located_expr names a.value))) (expr_breaks w (located_expr names b.value)))) (two_found R a b x y c d ex ey f g)

  pub binary_found : (q : Place) (op : Op) (a b : Box Expr Global) (x y u v : Expr) (i j : Bool) (c d : Option Typed) → e ≡ E.Binary q op a b → x ≡ a.value → y ≡ b.value → u ≡ a.value → v ≡ b.value
      → i ≡ T.is_null (expr_of names u) → j ≡ T.is_null (expr_of names v) → c ≡ typed_at w (located_expr names x) → d ≡ typed_at w (located_expr names y)
      → F.binary_of w.scope.items op i j c d ≡ wide_typed w (located_expr names e)
  binary_found q op a b x y u v i j c d is ex ey eu ev r s f g =
      ap (λ z. F.binary_of w.scope.items op z j c d) (bare_at T.is_null names u a.value i eu r)
      ∙ ap (λ z. F.binary_of w.scope.items op (T.is_null (bare_expr (located_expr names a.value))) z c d) (bare_at T.is_null names v b.value j ev s)
      ∙ two_found (F.binary_of w.scope.items op (T.is_null (bare_expr (located_expr names a.value))) (T.is_null (bare_expr (located_expr names b.value)))) a b x y c d ex ey f g
      ∙ sym (ap (λ z. wide_typed w (located_expr names z)) is)

  pub binary_told : (q : Place) (op : Op) (a b : Box Expr Global) (x y u v : Expr) (i j : Bool) (c d : Option Typed) (o l m n : Firsts) → e ≡ E.Binary q op a b → x ≡ a.value → y ≡ b.value → u ≡ a.value → v ≡ b.value
      → i ≡ T.is_null (expr_of names u) → j ≡ T.is_null (expr_of names v) → c ≡ typed_at w (located_expr names x) → d ≡ typed_at w (located_expr names y)
      → l ≡ noted o (expr_breaks w (located_expr names x)) → m ≡ noted l (expr_breaks w (located_expr names y)) → n ≡ noted m (O.binary_breaks w.scope op c d (F.binary_of w.scope.items op i j c d) q)
      → n ≡ noted o (wide_breaks w (located_expr names e))
  binary_told q op a b x y u v i j c d o l m n is ex ey eu ev r s f g h k t =
      let A = located_expr names a.value in
      let B = located_expr names b.value in
      let R = λ (k1 k2 : Bool) (c1 d1 : Option Typed). O.binary_breaks w.scope op c1 d1 (F.binary_of w.scope.items op k1 k2 c1 d1) q in
      let I = T.is_null (bare_expr A) in
      let J = T.is_null (bare_expr B) in
      two_noted (R i j) a b x y c d o l m n ex ey f g h k t
      ∙ ap (λ z. noted (noted (noted o (expr_breaks w A)) (expr_breaks w B)) (R z j (typed_at w A) (typed_at w B))) (bare_at T.is_null names u a.value i eu r)
      ∙ ap (λ z. noted (noted (noted o (expr_breaks w A)) (expr_breaks w B)) (R I z (typed_at w A) (typed_at w B))) (bare_at T.is_null names v b.value j ev s)
      ∙ after_two o (expr_breaks w A) (expr_breaks w B) (R I J (typed_at w A) (typed_at w B))
      ∙ sym (ap (λ z. noted o (wide_breaks w (located_expr names z))) is)

  pub index_told : (q : Place) (a b : Box Expr Global) (x y : Expr) (c d : Option Typed) (o l m n : Firsts) → e ≡ E.Index q a b → x ≡ a.value → y ≡ b.value
      → c ≡ typed_at w (located_expr names x) → d ≡ typed_at w (located_expr names y)
      → l ≡ noted o (expr_breaks w (located_expr names x)) → m ≡ noted l (expr_breaks w (located_expr names y)) → n ≡ noted m (O.binary_breaks w.scope Add c d (F.index_of w.scope.items c d) q)
      → n ≡ noted o (wide_breaks w (located_expr names e))
  index_told q a b x y c d o l m n is ex ey f g h k t =
      let A = located_expr names a.value in
      let B = located_expr names b.value in
      let R = λ (c1 d1 : Option Typed). O.binary_breaks w.scope Add c1 d1 (F.index_of w.scope.items c1 d1) q in
      two_noted R a b x y c d o l m n ex ey f g h k t
      ∙ after_two o (expr_breaks w A) (expr_breaks w B) (R (typed_at w A) (typed_at w B))
      ∙ sym (ap (λ z. noted o (wide_breaks w (located_expr names z))) is)

  pub and_found : (q : Place) (a b : Box Expr Global) (x y : Expr) (c d : Option Typed) → e ≡ E.And q a b → x ≡ a.value → y ≡ b.value
      → c ≡ typed_at w (located_expr names x) → d ≡ typed_at w (located_expr names y) → T.test_type c d ≡ logical_typed w (located_expr names e)
  and_found q a b x y c d is ex ey f g = two_found T.test_type a b x y c d ex ey f g ∙ sym (ap (λ z. logical_typed w (located_expr names z)) is)

  pub or_found : (q : Place) (a b : Box Expr Global) (x y : Expr) (c d : Option Typed) → e ≡ E.Or q a b → x ≡ a.value → y ≡ b.value
      → c ≡ typed_at w (located_expr names x) → d ≡ typed_at w (located_expr names y) → T.test_type c d ≡ logical_typed w (located_expr names e)
  or_found q a b x y c d is ex ey f g = two_found T.test_type a b x y c d ex ey f g ∙ sym (ap (λ z. logical_typed w (located_expr names z)) is)

  test_told : (q : Place) (a b : Box Expr Global) (x y : Expr) (c d : Option Typed) (o l m n : Firsts) → x ≡ a.value → y ≡ b.value
      → c ≡ typed_at w (located_expr names x) → d ≡ typed_at w (located_expr names y)
      → l ≡ noted o (expr_breaks w (located_expr names x)) → m ≡ noted l (expr_breaks w (located_expr names y)) → n ≡ noted m (O.no_rule (is_some c && is_some d) (T.test_type c d) q)
      → n ≡ noted o (logical_breaks w (LAnd q (located_expr names a.value) (located_expr names b.value)))
  test_told q a b x y c d o l m n ex ey f g h k t =
      let A = located_expr names a.value in
      let B = located_expr names b.value in
      let R = λ (c1 d1 : Option Typed). O.no_rule (is_some c1 && is_some d1) (T.test_type c1 d1) q in
      two_noted R a b x y c d o l m n ex ey f g h k t
      ∙ after_two o (expr_breaks w A) (expr_breaks w B) (R (typed_at w A) (typed_at w B))

  pub and_told : (q : Place) (a b : Box Expr Global) (x y : Expr) (c d : Option Typed) (o l m n : Firsts) → e ≡ E.And q a b → x ≡ a.value → y ≡ b.value
      → c ≡ typed_at w (located_expr names x) → d ≡ typed_at w (located_expr names y)
      → l ≡ noted o (expr_breaks w (located_expr names x)) → m ≡ noted l (expr_breaks w (located_expr names y)) → n ≡ noted m (O.no_rule (is_some c && is_some d) (T.test_type c d) q)
      → n ≡ noted o (logical_breaks w (located_expr names e))
  and_told q a b x y c d o l m n is ex ey f g h k t = test_told q a b x y c d o l m n ex ey f g h k t ∙ sym (ap (λ z. noted o (logical_breaks w (located_expr names z))) is)

  pub or_told : (q : Place) (a b : Box Expr Global) (x y : Expr) (c d : Option Typed) (o l m n : Firsts) → e ≡ E.Or q a b → x ≡ a.value → y ≡ b.value
      → c ≡ typed_at w (located_expr names x) → d ≡ typed_at w (located_expr names y)
      → l ≡ noted o (expr_breaks w (located_expr names x)) → m ≡ noted l (expr_breaks w (located_expr names y)) → n ≡ noted m (O.no_rule (is_some c && is_some d) (T.test_type c d) q)
      → n ≡ noted o (logical_breaks w (located_expr names e))
  or_told q a b x y c d o l m n is ex ey f g h k t = test_told q a b x y c d o l m n ex ey f g h k t ∙ sym (ap (λ z. noted o (logical_breaks w (located_expr names z))) is)

  -- ---- a test and two arms

  three_found : {X : Type 0} (R : Option Typed → Option Typed → Option Typed → X) (t a b : Box Expr Global) (z x y : Expr) (k c d : Option Typed) → z ≡ t.value → x ≡ a.value → y ≡ b.value
      → k ≡ typed_at w (located_expr names z) → c ≡ typed_at w (located_expr names x) → d ≡ typed_at w (located_expr names y)
      → R k c d ≡ R (typed_at w (located_expr names t.value)) (typed_at w (located_expr names a.value)) (typed_at w (located_expr names b.value))
  three_found R t a b z x y k c d ez ex ey h f g =
      ap (λ s. R s c d) (at (typed_at w) names z t.value k ez h) ∙ two_found (R (typed_at w (located_expr names t.value))) a b x y c d ex ey f g

  pub choose_found : (q : Place) (t a b : Box Expr Global) (z x y u v : Expr) (i j : Bool) (k c d : Option Typed) → e ≡ E.Choose q t a b → z ≡ t.value → x ≡ a.value → y ≡ b.value → u ≡ a.value → v ≡ b.value
      → i ≡ T.is_null (expr_of names u) → j ≡ T.is_null (expr_of names v) → k ≡ typed_at w (located_expr names z) → c ≡ typed_at w (located_expr names x) → d ≡ typed_at w (located_expr names y)
      → F.choice_of i j k c d ≡ logical_typed w (located_expr names e)
  choose_found q t a b z x y u v i j k c d is ez ex ey eu ev r s h f g =
      ap (λ n. F.choice_of n j k c d) (bare_at T.is_null names u a.value i eu r)
      ∙ ap (λ n. F.choice_of (T.is_null (bare_expr (located_expr names a.value))) n k c d) (bare_at T.is_null names v b.value j ev s)
      ∙ three_found (F.choice_of (T.is_null (bare_expr (located_expr names a.value))) (T.is_null (bare_expr (located_expr names b.value)))) t a b z x y k c d ez ex ey h f g
      ∙ sym (ap (λ y. logical_typed w (located_expr names y)) is)

  -- the rows of three operands, and one behind them
  three_noted : (R : Option Typed → Option Typed → Option Typed → Broken) (t a b : Box Expr Global) (z x y : Expr) (k c d : Option Typed) (o l m n r : Firsts) → z ≡ t.value → x ≡ a.value → y ≡ b.value
      → k ≡ typed_at w (located_expr names z) → c ≡ typed_at w (located_expr names x) → d ≡ typed_at w (located_expr names y)
      → l ≡ noted o (expr_breaks w (located_expr names z)) → m ≡ noted l (expr_breaks w (located_expr names x)) → n ≡ noted m (expr_breaks w (located_expr names y)) → r ≡ noted n (R k c d)
      → r ≡ noted o (expr_breaks w (located_expr names t.value) ++ (expr_breaks w (located_expr names a.value) ++ (expr_breaks w (located_expr names b.value) ++ R (typed_at w (located_expr names t.value)) (typed_at w (located_expr names a.value)) (typed_at w (located_expr names b.value)))))
  three_noted R t a b z x y k c d o l m n r ez ex ey h f g i1 i2 i3 i4 =
      let K = located_expr names t.value in
      let A = located_expr names a.value in
      let B = located_expr names b.value in
      two_noted (R k) a b x y c d l m n r ex ey f g i2 i3 i4
      ∙ ap (λ s. noted (noted (noted s (expr_breaks w A)) (expr_breaks w B)) (R k (typed_at w A) (typed_at w B))) (at (λ v. noted o (expr_breaks w v)) names z t.value l ez i1)
      ∙ ap (λ s. noted (noted (noted (noted o (expr_breaks w K)) (expr_breaks w A)) (expr_breaks w B)) (R s (typed_at w A) (typed_at w B))) (at (typed_at w) names z t.value k ez h)
      ∙ after_three o (expr_breaks w K) (expr_breaks w A) (expr_breaks w B) (R (typed_at w K) (typed_at w A) (typed_at w B))

  pub choose_told : (q : Place) (t a b : Box Expr Global) (z x y u v : Expr) (i j : Bool) (k c d : Option Typed) (o l m n r : Firsts) → e ≡ E.Choose q t a b → z ≡ t.value → x ≡ a.value → y ≡ b.value → u ≡ a.value → v ≡ b.value
      → i ≡ T.is_null (expr_of names u) → j ≡ T.is_null (expr_of names v) → k ≡ typed_at w (located_expr names z) → c ≡ typed_at w (located_expr names x) → d ≡ typed_at w (located_expr names y)
      → l ≡ noted o (expr_breaks w (located_expr names z)) → m ≡ noted l (expr_breaks w (located_expr names x)) → n ≡ noted m (expr_breaks w (located_expr names y))
      → r ≡ noted n (O.no_rule (is_some k && (is_some c && is_some d)) (F.choice_of i j k c d) q)
      → r ≡ noted o (logical_breaks w (located_expr names e))
  choose_told q t a b z x y u v i j k c d o l m n r is ez ex ey eu ev p s h f g i1 i2 i3 i4 =
      let I = T.is_null (bare_expr (located_expr names a.value)) in
      let J = T.is_null (bare_expr (located_expr names b.value)) in
      let R = λ (i0 j0 : Bool) (k1 c1 d1 : Option Typed). O.no_rule (is_some k1 && (is_some c1 && is_some d1)) (F.choice_of i0 j0 k1 c1 d1) q in
      three_noted (R I J) t a b z x y k c d o l m n r ez ex ey h f g i1 i2 i3
      (i4 ∙ ap (λ i0. noted n (R i0 j k c d)) (bare_at T.is_null names u a.value i eu p) ∙ ap (λ j0. noted n (R I j0 k c d)) (bare_at T.is_null names v b.value j ev s))
      ∙ sym (ap (λ y. noted o (logical_breaks w (located_expr names y))) is)
