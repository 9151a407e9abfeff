-- The types of expressions by those of their parts.
use Rattle.std.proofs.Common.{◌≡◌, Bool, true, ◌&&◌, false, [], ◌∷◌, Option, Some, None, refl, ap, sym, subst, ◌∙◌, Box, Global, bytes_eq, if◌then◌else◌, ℕ, ℤ}
use Rattle.cpc_base.specs.Bytes.{Text}
use Rattle.cpc_base.specs.declared.stop.Place.{Place}
use Rattle.cpc_num.specs.declared.kinds.Kind.{Kind}
use Rattle.cpc_num.specs.declared.kinds.Kind.TheVariants as K
use Rattle.cpc_num.specs.declared.kinds.Op.{Op}
use Rattle.cpc_tree.specs.declared.program.UnaryOp.{UnaryOp}
use Rattle.cpc_tree.specs.declared.program.UnaryOp.TheVariants as U
use Rattle.cpc_tree.specs.declared.program.CType.{CType}
use Rattle.cpc_tree.specs.declared.program.Word.{Word}
use Rattle.cpc_tree.specs.declared.program.Expr.{Expr}
use Rattle.cpc_tree.specs.declared.program.Expr.TheVariants as G
use Rattle.cpc_tree.specs.Erase.{Names, type_of, expr_of}
use Rattle.cpc_tree.specs.Syntax as S
use Rattle.cpc_tree.specs.Syntax.{Ty, TyInt, Program}
use Rattle.cpc_tree.specs.Typing as T
use Rattle.cpc_tree.specs.Typing.{◌>>=◌, AValue, Scope}
use Rattle.cpc_meaning.specs.Eval as E
use Rattle.cpc_shapes.specs.Found.{used_of}
use Rattle.cpc_shapes.specs.Forms.{is_named, unary_of, binary_of, choice_of, index_of, member_of, arrow_of}
use Rattle.cpc_shapes.proofs.FormParts.{unary_typed}
use Rattle.cpc_eval_locals.specs.Held.{Held, local_in, capped_held}
use Rattle.cpc_eval.specs.Around.{meant_or, meant_in, type_in, type_within}
use Rattle.cpc_eval.specs.Shapes.{Agrees}
use Rattle.cpc_eval.proofs.Types.{agrees_same, agrees_by, agrees_through}

-- ---- names

pub named_or : (p : Program) (scope : Scope) (x : Text) → T.named p scope x ≡ meant_or (local_in scope x) (T.item_named 0 p x)
named_or p [] x = refl
named_or p (l ∷ scope) x = pick (bytes_eq l.called x) (named_or p scope x)
  where
    pick : (b : Bool) → T.named p scope x ≡ meant_or (local_in scope x) (T.item_named 0 p x)
        → (if b then T.ALocal l.slot l.type else T.named p scope x) ≡ meant_or (if b then Some (l.slot, l.type) else local_in scope x) (T.item_named 0 p x)
    pick true h = refl
    pick false h = h

held_type : (o : Held) (m : T.Meant) → T.type_named (meant_or (capped_held o) m) ≡ T.type_named (meant_or o m)
held_type None m = refl
held_type (Some f) m = refl

-- the number of a local has no part in its type
pub name_typed : (c : E.Context) (x : Text) → T.type_named (meant_in c x) ≡ type_in c (S.ENamed x)
name_typed c x = held_type (local_in c.scope x) (T.item_named 0 c.program x) ∙ ap T.type_named (sym (named_or c.program c.scope x))

-- ---- tests and sizes

test_agrees : (a b : Option T.Typed) (r : Option T.Typed) → r ≡ Some (AValue (TyInt K.Int)) → Agrees r (T.test_type a b)
test_agrees a b r g = left (T.tested_type a)
  where
    right : (o : Option Ty) → Agrees r (o >>= (λ (u : Ty). Some (AValue (TyInt K.Int))))
    right None = tt
    right (Some u) = g

    left : (o : Option Ty) → Agrees r (o >>= (λ (t : Ty). T.tested_type b >>= (λ (u : Ty). Some (AValue (TyInt K.Int)))))
    left None = tt
    left (Some t) = right (T.tested_type b)

size_agrees : (o : Option ℕ) (r : Option T.Typed) → r ≡ Some (AValue (TyInt K.ULong)) → Agrees r (o >>= (λ (n : ℕ). Some (AValue (TyInt K.ULong))))
size_agrees None r g = tt
size_agrees (Some n) r g = g

cast_if : (b : Bool) (t : Ty) → Agrees (Some (AValue t)) ((if b then Some t else None) >>= (λ (r : Ty). Some (AValue r)))
cast_if true t = refl
cast_if false t = tt

cast_kind : (m : Bool) (t u : Ty) → Agrees (Some (AValue t)) (T.cast_type m t u >>= (λ (r : Ty). Some (AValue r)))
cast_kind m (TyInt j) (TyInt k) = refl
cast_kind m (S.TyPointer t) (S.TyPointer u) = refl
cast_kind m t u = cast_if (m && T.is_reference t) t

cast_agrees : (m : Bool) (t : Ty) (o : Option T.Typed) → Agrees (Some (AValue t)) (o >>= (λ d. T.used d >>= (λ u. T.cast_type m t u >>= (λ (r : Ty). Some (AValue r)))))
cast_agrees m t None = tt
cast_agrees m t (Some d) = go (T.used d)
  where
    go : (o : Option Ty) → Agrees (Some (AValue t)) (o >>= (λ u. T.cast_type m t u >>= (λ (r : Ty). Some (AValue r))))
    go None = tt
    go (Some u) = cast_kind m t u

-- ---- forms that give nothing where a part has no type

unary_strict : (op : UnaryOp) (named : Bool) → unary_of op named None ≡ None
unary_strict U.AddressOf true = refl
unary_strict U.AddressOf false = refl
unary_strict U.Minus named = refl
unary_strict U.Plus named = refl
unary_strict U.Not named = refl
unary_strict U.Complement named = refl
unary_strict U.Dereference named = refl

abbrev nothing : Option T.Typed
nothing = None

ends : (a : Option T.Typed) → (a >>= (λ (d : T.Typed). T.used d >>= (λ (t : Ty). nothing))) ≡ None
ends None = refl
ends (Some d) = go (T.used d)
  where
    go : (o : Option Ty) → (o >>= (λ (t : Ty). nothing)) ≡ None
    go None = refl
    go (Some t) = refl

choice_ends : (k : Option Ty) (a : Option T.Typed) → (k >>= (λ (v : Ty). a >>= (λ (d : T.Typed). T.used d >>= (λ (t : Ty). nothing)))) ≡ None
choice_ends None a = refl
choice_ends (Some v) a = ends a

choice_begins : (k : Option Ty) → (k >>= (λ (v : Ty). nothing)) ≡ None
choice_begins None = refl
choice_begins (Some v) = refl

null_int : (c : E.Context) (a : S.Expr) → T.is_null a ≡ true → type_in c a ≡ Some (AValue (TyInt K.Int))
null_int c (S.EInteger K.Int z) e = refl
null_int c _ e = cc

-- ---- types that agree with those of the parts

module _ (c : E.Context) where
  -- the same expression
  pub typed_as : (e x : S.Expr) (r : Option T.Typed) → e ≡ x → Agrees r (type_in c x) → Agrees r (type_in c e)
  typed_as e x r is h = let P : S.Expr → Type 0 = λ y. Agrees r (type_in c y) in subst P (sym is) h

  pub unary_by : (op : UnaryOp) (a : S.Expr) (named : Bool) (d r : Option T.Typed) → named ≡ is_named a → Agrees d (type_in c a) → Agrees r (unary_of op named d) → Agrees r (type_in c (S.EUnary op a))
  unary_by op a named d r n h g = agrees_by r _ _ (unary_typed (T.named c.program c.scope) c.program op a) (agrees_through (unary_of op (is_named a)) r d (type_in c a) (unary_strict op (is_named a)) h (rw n at g))

  pub binary_by : (op : Op) (a b : S.Expr) (d f r : Option T.Typed) → Agrees d (type_in c a) → Agrees f (type_in c b) → ((m n : Bool) → Agrees r (binary_of c.program op m n d f)) → Agrees r (type_in c (S.EBinary op a b))
  binary_by op a b d f r h k g =
      let form = binary_of c.program op (T.is_null a) (T.is_null b) in
      agrees_through (λ q. form q (type_in c b)) r d (type_in c a) refl h (agrees_through (form d) r f (type_in c b) (ends d) k (g (T.is_null a) (T.is_null b)))

  pub index_by : (a b : S.Expr) (d f r : Option T.Typed) → Agrees d (type_in c a) → Agrees f (type_in c b) → Agrees r (index_of c.program d f) → Agrees r (type_in c (S.EIndex a b))
  index_by a b d f r h k g =
      agrees_through (λ q. index_of c.program q (type_in c b)) r d (type_in c a) refl h (agrees_through (index_of c.program d) r f (type_in c b) (ends d) k g)

  pub choose_by : (t a b : S.Expr) (d f r : Option T.Typed) → Agrees d (type_in c a) → Agrees f (type_in c b)
      → ((m n : Bool) (o : Option T.Typed) → (m ≡ true → d ≡ Some (AValue (TyInt K.Int))) → Agrees r (choice_of m n o d f)) → Agrees r (type_in c (S.EChoose t a b))
  choose_by t a b d f r h i g =
      let o = type_in c t in
      let P : Option T.Typed → Type 0 = λ q. Agrees d q in
      let zero : T.is_null a ≡ true → d ≡ Some (AValue (TyInt K.Int)) = λ n. subst P (null_int c a n) h in
      agrees_through (λ q. choice_of (T.is_null a) (T.is_null b) o q (type_in c b)) r d (type_in c a) (choice_begins (T.tested_type o)) h
      (agrees_through (choice_of (T.is_null a) (T.is_null b) o d) r f (type_in c b) (choice_ends (T.tested_type o) d) i (g (T.is_null a) (T.is_null b) o zero))

  -- a field whose type was found by that of its struct
  pub member_by : (a : S.Expr) (x : Text) (d r : Option T.Typed) (of : Option Ty) → Agrees d (type_in c a) → of ≡ E.and_then d T.typed_place → Agrees r (T.field_type c.program of x) → Agrees r (type_in c (S.EMember a x))
  member_by a x d r of h i g = agrees_through (λ q. member_of c.program q x) r d (type_in c a) refl h (go d i)
    where
      go : (o : Option T.Typed) → of ≡ E.and_then o T.typed_place → Agrees r (member_of c.program o x)
      go None j = tt
      go (Some y) j = let P : Option Ty → Type 0 = λ q. Agrees r (T.field_type c.program q x) in subst P j g

  pub arrow_by : (a : S.Expr) (x : Text) (d r : Option T.Typed) (s of : Option Ty) → Agrees d (type_in c a) → s ≡ used_of d → of ≡ E.and_then s T.target → Agrees r (T.field_type c.program of x)
      → Agrees r (type_in c (S.EArrow a x))
  arrow_by a x d r s of h i j g = agrees_through (λ q. arrow_of c.program q x) r d (type_in c a) refl h (go d i)
    where
      at : (o : Option Ty) → s ≡ o → Agrees r (o >>= (λ (t : Ty). T.field_type c.program (T.target t) x))
      at None k = tt
      at (Some t) k = let P : Option Ty → Type 0 = λ q. Agrees r (T.field_type c.program q x) in subst P (j ∙ ap (λ q. E.and_then q T.target) k) g

      go : (o : Option T.Typed) → s ≡ used_of o → Agrees r (arrow_of c.program o x)
      go None k = tt
      go (Some y) k = at (T.used y) k

module _ (names : Names) (c : E.Context) (e : Expr) where
  at : (x y : Expr) (d : Option T.Typed) → x ≡ y → Agrees d (type_in c (expr_of names x)) → Agrees d (type_in c (expr_of names y))
  at x y d h g = let P : Expr → Type 0 = λ z. Agrees d (type_in c (expr_of names z)) in subst P h g

  pub unary_at : (p : Place) (op : UnaryOp) (b : Box Expr Global) (x y : Expr) (named : Bool) (d r : Option T.Typed) → e ≡ G.Unary p op b → x ≡ b.value → y ≡ b.value
      → named ≡ is_named (expr_of names x) → Agrees d (type_in c (expr_of names y)) → Agrees r (unary_of op named d) → Agrees r (type_within c (expr_of names e))
  unary_at p op b x y named d r is ex ey n h g = rw is (unary_by c op (expr_of names b.value) named d r (n ∙ ap (λ z. is_named (expr_of names z)) ex) (at y b.value d ey h) g)

  pub binary_at : (p : Place) (op : Op) (a b : Box Expr Global) (x y : Expr) (d f r : Option T.Typed) → e ≡ G.Binary p op a b → x ≡ a.value → y ≡ b.value
      → Agrees d (type_in c (expr_of names x)) → Agrees f (type_in c (expr_of names y)) → ((m n : Bool) → Agrees r (binary_of c.program op m n d f)) → Agrees r (type_within c (expr_of names e))
  binary_at p op a b x y d f r is ex ey h k g = rw is (binary_by c op (expr_of names a.value) (expr_of names b.value) d f r (at x a.value d ex h) (at y b.value f ey k) g)

  pub index_at : (p : Place) (a b : Box Expr Global) (x y : Expr) (d f r : Option T.Typed) → e ≡ G.Index p a b → x ≡ a.value → y ≡ b.value
      → Agrees d (type_in c (expr_of names x)) → Agrees f (type_in c (expr_of names y)) → Agrees r (index_of c.program d f) → Agrees r (type_within c (expr_of names e))
  index_at p a b x y d f r is ex ey h k g = rw is (index_by c (expr_of names a.value) (expr_of names b.value) d f r (at x a.value d ex h) (at y b.value f ey k) g)

  pub choose_at : (p : Place) (k a b : Box Expr Global) (x y : Expr) (d f r : Option T.Typed) → e ≡ G.Choose p k a b → x ≡ a.value → y ≡ b.value
      → Agrees d (type_in c (expr_of names x)) → Agrees f (type_in c (expr_of names y)) → ((m n : Bool) (o : Option T.Typed) → (m ≡ true → d ≡ Some (AValue (TyInt K.Int))) → Agrees r (choice_of m n o d f))
      → Agrees r (type_within c (expr_of names e))
  choose_at p k a b x y d f r is ex ey h i g = rw is (choose_by c (expr_of names k.value) (expr_of names a.value) (expr_of names b.value) d f r (at x a.value d ex h) (at y b.value f ey i) g)

  -- ---- what stands alone

  pub name_at : (w : Word) (r : Option T.Typed) → e ≡ G.Name w → r ≡ T.type_named (meant_in c (names w.name)) → Agrees r (type_in c (expr_of names e))
  name_at w r is g = rw is (agrees_same r _ (g ∙ name_typed c (names w.name)))

  pub size_at : (p : Place) (t : CType) (r : Option T.Typed) → e ≡ G.SizeOf p t → r ≡ Some (AValue (TyInt K.ULong)) → Agrees r (type_in c (expr_of names e))
  size_at p t r is g = rw is (size_agrees (T.size c.program (type_of names t)) r g)

  pub and_at : (p : Place) (a b : Box Expr Global) (r : Option T.Typed) → e ≡ G.And p a b → r ≡ Some (AValue (TyInt K.Int)) → Agrees r (type_in c (expr_of names e))
  and_at p a b r is g = rw is (test_agrees (type_in c (expr_of names a.value)) (type_in c (expr_of names b.value)) r g)

  pub or_at : (p : Place) (a b : Box Expr Global) (r : Option T.Typed) → e ≡ G.Or p a b → r ≡ Some (AValue (TyInt K.Int)) → Agrees r (type_in c (expr_of names e))
  or_at p a b r is g = rw is (test_agrees (type_in c (expr_of names a.value)) (type_in c (expr_of names b.value)) r g)

  pub cast_at : (p : Place) (t : CType) (b : Box Expr Global) → e ≡ G.Cast p t b → Agrees (Some (AValue (type_of names t))) (type_in c (expr_of names e))
  cast_at p t b is = rw is (cast_agrees (T.is_null (expr_of names b.value)) (type_of names t) (type_in c (expr_of names b.value)))

  pub integer_at : (p : Place) (kind : Kind) (z : ℤ) (r : Option T.Typed) → e ≡ G.Integer p kind z → r ≡ Some (AValue (TyInt kind)) → Agrees r (type_in c (expr_of names e))
  integer_at p kind z r is g = rw is g

  pub character_at : (p : Place) (z : ℤ) (r : Option T.Typed) → e ≡ G.Character p z → r ≡ Some (AValue (TyInt K.Int)) → Agrees r (type_in c (expr_of names e))
  character_at p z r is g = rw is g
