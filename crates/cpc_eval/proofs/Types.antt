-- Types that agree, by those of their parts.
use Rattle.std.proofs.Common.{◌≡◌, Bool, true, false, ◌&&◌, ◌||◌, ◌⊎◌, inl, inr, if◌then◌else◌, Option, Some, None, option_map, is_some, refl, ap, sym, ◌∙◌, subst}
use Rattle.cpc_num.specs.Number as N
use Rattle.cpc_num.specs.declared.kinds.Kind.{Kind}
use Rattle.cpc_num.specs.declared.kinds.Kind.TheVariants as K
use Rattle.cpc_num.specs.declared.kinds.Op.{Op}
use Rattle.cpc_num.specs.declared.kinds.Op.TheVariants as O
use Rattle.cpc_tree.specs.declared.program.UnaryOp.{UnaryOp}
use Rattle.cpc_tree.specs.declared.program.UnaryOp.TheVariants as U
use Rattle.cpc_tree.specs.Syntax.{Ty, TyInt, TyPointer, TyVoid, TyCondvar, TyCode, TyStruct, TyArray, Program}
use Rattle.cpc_tree.specs.Typing as T
use Rattle.cpc_tree.specs.Typing.{◌>>=◌, AValue, APlace}
use Rattle.cpc_shapes.specs.Found.{used_of}
use Rattle.cpc_shapes.specs.Forms.{choice_of, index_of, unary_of}
use Rattle.cpc_shapes.proofs.OperatorParts.{sum_common}
use Rattle.cpc_eval.specs.Shapes.{Agrees}

pub agrees_absent : {A : Type 0} (r o : Option A) → o ≡ None → Agrees r o
agrees_absent r o e = rw e tt

pub agrees_same : {A : Type 0} (r o : Option A) → r ≡ o → Agrees r o
agrees_same r None e = tt
agrees_same r (Some x) e = e

pub agrees_of : {A : Type 0} (r q o : Option A) → r ≡ q → Agrees q o → Agrees r o
agrees_of r q o e h = rw e h

pub agrees_by : {A : Type 0} (r o q : Option A) → q ≡ o → Agrees r o → Agrees r q
agrees_by r o q e h = rw e h

-- a part that agrees, in a form that gives nothing where the part has no type
pub agrees_through : {A B : Type 0} (f : Option A → Option B) (res : Option B) (r o : Option A) → f None ≡ None → Agrees r o → Agrees res (f r) → Agrees res (f o)
agrees_through f res r None strict h g = rw strict tt
agrees_through {A = A} f res r (Some x) strict h g = let P : Option A → Type 0 = λ y. Agrees res (f y) in subst P h g

-- ---- operators on types

signed_kind : (i : Option Kind) (k : Kind) (r : Option T.Typed) → Some k ≡ i → r ≡ Some (AValue (TyInt (N.promoted k))) → Agrees r (i >>= (λ (j : Kind). Some (AValue (TyInt (N.promoted j)))))
signed_kind None k r f g = cc
signed_kind (Some j) k r f g = let d : k ≡ j = cc in g ∙ ap (λ v. Some (AValue (TyInt (N.promoted v)))) d

signed_by : (o : Option Ty) (i : Option Kind) (t : Ty) (k : Kind) (r : Option T.Typed) → Some t ≡ o → Some k ≡ T.integer t → r ≡ Some (AValue (TyInt (N.promoted k)))
    → Agrees r (o >>= (λ (w : Ty). T.integer w >>= (λ (j : Kind). Some (AValue (TyInt (N.promoted j))))))
signed_by None i t k r e f g = cc
signed_by (Some w) i t k r e f g = let d : t ≡ w = cc in let P : Ty → Type 0 = λ v. Agrees r (T.integer v >>= (λ (j : Kind). Some (AValue (TyInt (N.promoted j))))) in subst P d (signed_kind (T.integer t) k r f g)

pub sign_agrees : (d : T.Typed) (t : Ty) (k j : Kind) (r : Option T.Typed) → Some t ≡ T.used d → Some k ≡ T.integer t → r ≡ Some (AValue (TyInt (N.promoted k))) → Agrees r (T.unary_type U.Minus d)
sign_agrees d t k j r e f g = signed_by (T.used d) (T.integer t) t k r e f g

moved_agrees : (p : Program) (t : Ty) (b : Bool) → Agrees (Some (AValue (TyPointer t))) (option_map AValue (if b then Some (TyPointer t) else None))
moved_agrees p t true = refl
moved_agrees p t false = tt

pub sum_left : (p : Program) (t u to : Ty) → Some to ≡ T.target t → Agrees (Some (AValue t)) (option_map AValue (T.sum_type p t u))
sum_left p (TyPointer t) (TyInt k) to e = moved_agrees p t (is_some (T.size p t))
sum_left p (TyPointer t) _ to e = tt
sum_left p _ u to e = cc

pub sum_right : (p : Program) (t u to : Ty) → None ≡ T.target t → Some to ≡ T.target u → Agrees (Some (AValue u)) (option_map AValue (T.sum_type p t u))
sum_right p (TyPointer t) u to e f = cc
sum_right p (TyInt j) (TyPointer t) to e f = moved_agrees p t (is_some (T.size p t))
sum_right p TyVoid (TyPointer t) to e f = tt
sum_right p TyCondvar (TyPointer t) to e f = tt
sum_right p (TyCode r ps) (TyPointer t) to e f = tt
sum_right p (TyStruct x) (TyPointer t) to e f = tt
sum_right p (TyArray t n) (TyPointer v) to e f = tt
sum_right p t _ to e f = cc

pub sum_plain : (p : Program) (t u : Ty) (r : Option T.Typed) → None ≡ T.target t → None ≡ T.target u → r ≡ option_map AValue (T.common_type t u) → Agrees r (option_map AValue (T.sum_type p t u))
sum_plain p t u r e f g = agrees_same r _ (g ∙ ap (option_map AValue) (sym (sum_common p t u e f)))

apart_agrees : (b : Bool) → Agrees (Some (AValue (TyInt K.Long))) (option_map AValue (if b then Some (TyInt K.Long) else None))
apart_agrees true = refl
apart_agrees false = tt

pub difference_far : (p : Program) (t u to other : Ty) (r : Option T.Typed) → Some to ≡ T.target t → Some other ≡ T.target u → r ≡ Some (AValue (TyInt K.Long)) → Agrees r (option_map AValue (T.difference_type p t u))
difference_far p (TyPointer t) (TyPointer u) to other r e f g = rw g (apart_agrees (T.same_type t u && is_some (T.size p t)))
difference_far p (TyPointer t) _ to other r e f g = cc
difference_far p _ u to other r e f g = cc

pub difference_moved : (p : Program) (t u to : Ty) → Some to ≡ T.target t → None ≡ T.target u → Agrees (Some (AValue t)) (option_map AValue (T.difference_type p t u))
difference_moved p (TyPointer t) (TyInt k) to e f = moved_agrees p t (is_some (T.size p t))
difference_moved p (TyPointer t) (TyPointer u) to e f = cc
difference_moved p (TyPointer t) _ to e f = tt
difference_moved p _ u to e f = cc

pub difference_plain : (p : Program) (t u : Ty) (r : Option T.Typed) → None ≡ T.target t → r ≡ option_map AValue (T.common_type t u) → Agrees r (option_map AValue (T.difference_type p t u))
difference_plain p (TyPointer t) u r e g = cc
difference_plain p _ u r e g = agrees_same r _ g

pub shift_agrees : (t u : Ty) (k : Kind) (r : Option T.Typed) → Some k ≡ T.integer t → r ≡ Some (AValue (TyInt (N.promoted k))) → Agrees r (option_map AValue (T.shift_type t u))
shift_agrees (TyInt j) (TyInt i) k r e g = let f : k ≡ j = cc in rw (← f) g
shift_agrees (TyInt j) _ k r e g = tt
shift_agrees _ u k r e g = cc

truth_agrees : (b : Bool) (r : Option T.Typed) → r ≡ Some (AValue (TyInt K.Int)) → Agrees r (option_map AValue (if b then Some (TyInt K.Int) else None))
truth_agrees true r g = g
truth_agrees false r g = tt

order_agrees : (t u : Ty) (r : Option T.Typed) → r ≡ Some (AValue (TyInt K.Int)) → Agrees r (option_map AValue (T.order_type t u))
order_agrees (TyInt j) (TyInt k) r g = g
order_agrees (TyPointer t) (TyPointer u) r g = truth_agrees (T.same_type t u) r g
order_agrees _ _ r g = tt

-- comparisons
pub compared : (p : Program) (op : Op) (m n : Bool) (t u : Ty) (r : Option T.Typed) → r ≡ Some (AValue (TyInt K.Int))
    → (op ≡ O.Lt) ⊎ ((op ≡ O.Le) ⊎ ((op ≡ O.Gt) ⊎ ((op ≡ O.Ge) ⊎ ((op ≡ O.Eq) ⊎ (op ≡ O.Ne))))) → Agrees r (option_map AValue (T.binary_type p op m n t u))
compared p op m n t u r g (inl e) = rw e (order_agrees t u r g)
compared p op m n t u r g (inr (inl e)) = rw e (order_agrees t u r g)
compared p op m n t u r g (inr (inr (inl e))) = rw e (order_agrees t u r g)
compared p op m n t u r g (inr (inr (inr (inl e)))) = rw e (order_agrees t u r g)
compared p op m n t u r g (inr (inr (inr (inr (inl e))))) = rw e (truth_agrees (T.are_comparable t u || (m && T.is_reference u) || (n && T.is_reference t)) r g)
compared p op m n t u r g (inr (inr (inr (inr (inr e))))) = rw e (truth_agrees (T.are_comparable t u || (m && T.is_reference u) || (n && T.is_reference t)) r g)

-- ---- `?:`

pub choice_value : (m n : Bool) (c a b : Option T.Typed) (r : Option T.Typed) → ((t u : Ty) → used_of a ≡ Some t → used_of b ≡ Some u → Agrees r (option_map AValue (T.choice_type m n t u))) → Agrees r (choice_of m n c a b)
choice_value m n c a b r h = go (T.tested_type c) a b h
  where
    give : (o : Option Ty) → Agrees r (option_map AValue o) → Agrees r (o >>= (λ (w : Ty). Some (AValue w)))
    give None g = tt
    give (Some w) g = g

    right : (t : Ty) (o : Option Ty) → ((u : Ty) → o ≡ Some u → Agrees r (option_map AValue (T.choice_type m n t u))) → Agrees r (o >>= (λ (u : Ty). T.choice_type m n t u >>= (λ (w : Ty). Some (AValue w))))
    right t None g = tt
    right t (Some u) g = give (T.choice_type m n t u) (g u refl)

    second : (t : Ty) (y : Option T.Typed) → ((u : Ty) → used_of y ≡ Some u → Agrees r (option_map AValue (T.choice_type m n t u))) → Agrees r (y >>= (λ (e : T.Typed). T.used e >>= (λ (u : Ty). T.choice_type m n t u >>= (λ (w : Ty). Some (AValue w)))))
    second t None g = tt
    second t (Some e) g = right t (T.used e) g

    left : (o : Option Ty) (y : Option T.Typed) → ((t u : Ty) → o ≡ Some t → used_of y ≡ Some u → Agrees r (option_map AValue (T.choice_type m n t u)))
        → Agrees r (o >>= (λ (t : Ty). y >>= (λ (e : T.Typed). T.used e >>= (λ (u : Ty). T.choice_type m n t u >>= (λ (w : Ty). Some (AValue w))))))
    left None y g = tt
    left (Some t) y g = second t y (λ u h. g t u refl h)

    go : (k : Option Ty) (x y : Option T.Typed) → ((t u : Ty) → used_of x ≡ Some t → used_of y ≡ Some u → Agrees r (option_map AValue (T.choice_type m n t u)))
        → Agrees r (k >>= (λ (v : Ty). x >>= (λ (d : T.Typed). T.used d >>= (λ (t : Ty). y >>= (λ (e : T.Typed). T.used e >>= (λ (u : Ty). T.choice_type m n t u >>= (λ (w : Ty). Some (AValue w))))))))
    go None x y g = tt
    go (Some v) None y g = tt
    go (Some v) (Some d) y g = left (T.used d) y g

common_int : (j k : Kind) → T.common_type (TyInt j) (TyInt k) ≡ Some (TyInt (N.common j k))
common_int j k = refl

-- a reference of the two arms, and else the common type; an arm that is the literal 0 is an integer
pub choice_left : (m n : Bool) (t u : Ty) → None ≡ T.integer t → (m ≡ true → t ≡ TyInt K.Int) → Agrees (Some (AValue t)) (option_map AValue (T.choice_type m n t u))
choice_left true n t u e h = let f : t ≡ TyInt K.Int = h refl in let P : Ty → Type 0 = λ v. None ≡ T.integer v in let g : None ≡ Some K.Int = subst P f e in cc
choice_left false n (TyInt j) u e h = cc
choice_left false n TyVoid u e h = tt
choice_left false n TyCondvar u e h = tt
choice_left false n (TyStruct x) u e h = tt
choice_left false n (TyArray t k) u e h = tt
choice_left false n (TyPointer t) u e h = pick (T.same_type (TyPointer t) u || n) (TyPointer t)
  where
    pick : (b : Bool) (w : Ty) → Agrees (Some (AValue w)) (option_map AValue (if b then Some w else None))
    pick true w = refl
    pick false w = tt
choice_left false n (TyCode r ps) u e h = pick (T.same_type (TyCode r ps) u || n) (TyCode r ps)
  where
    pick : (b : Bool) (w : Ty) → Agrees (Some (AValue w)) (option_map AValue (if b then Some w else None))
    pick true w = refl
    pick false w = tt

right_agrees : (b : Bool) (u : Ty) → Agrees (Some (AValue u)) (option_map AValue (if b then Some u else None))
right_agrees true u = refl
right_agrees false u = tt

pub choice_right : (m n : Bool) (t u : Ty) (k : Kind) → Some k ≡ T.integer t → None ≡ T.integer u → Agrees (Some (AValue u)) (option_map AValue (T.choice_type m n t u))
choice_right m n (TyInt j) (TyInt k) i e f = cc
choice_right m n (TyInt j) TyVoid i e f = right_agrees (m && false) TyVoid
choice_right m n (TyInt j) TyCondvar i e f = right_agrees (m && false) TyCondvar
choice_right m n (TyInt j) (TyStruct x) i e f = right_agrees (m && false) (TyStruct x)
choice_right m n (TyInt j) (TyArray t k) i e f = right_agrees (m && false) (TyArray t k)
choice_right m n (TyInt j) (TyPointer t) i e f = right_agrees (m && true) (TyPointer t)
choice_right m n (TyInt j) (TyCode r ps) i e f = right_agrees (m && true) (TyCode r ps)
choice_right m n _ u i e f = cc

pub choice_plain : (m n : Bool) (t u : Ty) (j k : Kind) (r : Option T.Typed) → Some j ≡ T.integer t → Some k ≡ T.integer u → r ≡ option_map AValue (T.common_type t u) → Agrees r (option_map AValue (T.choice_type m n t u))
choice_plain m n (TyInt a) (TyInt b) j k r e f g = g
choice_plain m n (TyInt a) _ j k r e f g = cc
choice_plain m n _ u j k r e f g = cc

pub choice_absent : (m n : Bool) (c a b : Option T.Typed) → None ≡ used_of a → Agrees None (choice_of m n c a b)
choice_absent m n c a b e = choice_value m n c a b None (λ t u f g. let h : None ≡ Some t = e ∙ f in cc)

pub choice_missing : (m n : Bool) (c a b : Option T.Typed) → None ≡ used_of b → Agrees None (choice_of m n c a b)
choice_missing m n c a b e = choice_value m n c a b None (λ t u f g. let h : None ≡ Some u = e ∙ g in cc)

pub choice_here : (m n : Bool) (c a b r : Option T.Typed) (t u : Ty) → Some t ≡ used_of a → Some u ≡ used_of b → Agrees r (option_map AValue (T.choice_type m n t u)) → Agrees r (choice_of m n c a b)
choice_here m n c a b r t u e f h = choice_value m n c a b r (λ v w g i.
    let d : t ≡ v = cc in
    let k : u ≡ w = cc in
    let P : Ty → Type 0 = λ x. Agrees r (option_map AValue (T.choice_type m n x u)) in
    let Q : Ty → Type 0 = λ x. Agrees r (option_map AValue (T.choice_type m n v x)) in
    subst Q k (subst P d h))

-- an arm that is the literal 0 is an integer
pub zero_kind : (m : Bool) (a : Option T.Typed) (t : Ty) → Some t ≡ used_of a → (m ≡ true → a ≡ Some (AValue (TyInt K.Int))) → m ≡ true → t ≡ TyInt K.Int
zero_kind m a t e h is = let f : used_of a ≡ Some (TyInt K.Int) = ap used_of (h is) in let g : Some t ≡ Some (TyInt K.Int) = e ∙ f in cc

-- ---- elements

element : (p : Program) (t u to : Ty) → Some to ≡ T.target t → Agrees (Some (APlace to)) (T.sum_type p t u >>= (λ (r : Ty). T.target r >>= (λ (v : Ty). Some (APlace v))))
element p (TyPointer t) (TyInt k) to e = pick (is_some (T.size p t))
  where
    f : to ≡ t
    f = cc

    pick : (b : Bool) → Agrees (Some (APlace to)) ((if b then Some (TyPointer t) else None) >>= (λ (r : Ty). T.target r >>= (λ (v : Ty). Some (APlace v))))
    pick true = ap (λ w. Some (APlace w)) f
    pick false = tt
element p (TyPointer t) _ to e = tt
element p _ u to e = cc

element_right : (p : Program) (t u to : Ty) → None ≡ T.target t → Some to ≡ T.target u → Agrees (Some (APlace to)) (T.sum_type p t u >>= (λ (r : Ty). T.target r >>= (λ (v : Ty). Some (APlace v))))
element_right p (TyPointer t) u to e f = cc
element_right p (TyInt j) (TyPointer t) to e f = pick (is_some (T.size p t))
  where
    g : to ≡ t
    g = cc

    pick : (b : Bool) → Agrees (Some (APlace to)) ((if b then Some (TyPointer t) else None) >>= (λ (r : Ty). T.target r >>= (λ (v : Ty). Some (APlace v))))
    pick true = ap (λ w. Some (APlace w)) g
    pick false = tt
element_right p TyVoid (TyPointer t) to e f = tt
element_right p TyCondvar (TyPointer t) to e f = tt
element_right p (TyCode r ps) (TyPointer t) to e f = tt
element_right p (TyStruct x) (TyPointer t) to e f = tt
element_right p (TyArray t n) (TyPointer v) to e f = tt
element_right p t _ to e f = cc

element_none : (p : Program) (t u : Ty) → None ≡ T.target t → None ≡ T.target u → (T.sum_type p t u >>= (λ (r : Ty). T.target r >>= (λ (v : Ty). Some (APlace v)))) ≡ None
element_none p t u e f = ap (λ (o : Option Ty). o >>= (λ (r : Ty). T.target r >>= (λ (v : Ty). Some (APlace v)))) (sum_common p t u e f) ∙ none t u
  where
    none : (a b : Ty) → (T.common_type a b >>= (λ (r : Ty). T.target r >>= (λ (v : Ty). Some (APlace v)))) ≡ None
    none (TyInt j) (TyInt k) = refl
    none _ _ = refl

index_value : (p : Program) (a b r : Option T.Typed) → ((t u : Ty) → used_of a ≡ Some t → used_of b ≡ Some u → Agrees r (T.sum_type p t u >>= (λ (w : Ty). T.target w >>= (λ (v : Ty). Some (APlace v))))) → Agrees r (index_of p a b)
index_value p None b r h = tt
index_value p (Some d) b r h = left (T.used d) b h
  where
    right : (t : Ty) (o : Option Ty) → ((u : Ty) → o ≡ Some u → Agrees r (T.sum_type p t u >>= (λ (w : Ty). T.target w >>= (λ (v : Ty). Some (APlace v))))) → Agrees r (o >>= (λ (u : Ty). T.sum_type p t u >>= (λ (w : Ty). T.target w >>= (λ (v : Ty). Some (APlace v)))))
    right t None g = tt
    right t (Some u) g = g u refl

    second : (t : Ty) (y : Option T.Typed) → ((u : Ty) → used_of y ≡ Some u → Agrees r (T.sum_type p t u >>= (λ (w : Ty). T.target w >>= (λ (v : Ty). Some (APlace v)))))
        → Agrees r (y >>= (λ (e : T.Typed). T.used e >>= (λ (u : Ty). T.sum_type p t u >>= (λ (w : Ty). T.target w >>= (λ (v : Ty). Some (APlace v))))))
    second t None g = tt
    second t (Some e) g = right t (T.used e) g

    left : (o : Option Ty) (y : Option T.Typed) → ((t u : Ty) → o ≡ Some t → used_of y ≡ Some u → Agrees r (T.sum_type p t u >>= (λ (w : Ty). T.target w >>= (λ (v : Ty). Some (APlace v)))))
        → Agrees r (o >>= (λ (t : Ty). y >>= (λ (e : T.Typed). T.used e >>= (λ (u : Ty). T.sum_type p t u >>= (λ (w : Ty). T.target w >>= (λ (v : Ty). Some (APlace v)))))))
    left None y g = tt
    left (Some t) y g = second t y (λ u k. g t u refl k)

pub index_pointer : (p : Program) (a b : Option T.Typed) (t to : Ty) → Some t ≡ used_of a → Some to ≡ T.target t → Agrees (Some (APlace to)) (index_of p a b)
index_pointer p a b t to e f = index_value p a b (Some (APlace to)) (λ v u g h. let d : t ≡ v = cc in element p v u to (f ∙ ap T.target d))

pub index_other : (p : Program) (a b r : Option T.Typed) (t : Ty) (u : Ty) → Some t ≡ used_of a → None ≡ T.target t → Some u ≡ used_of b → r ≡ option_map APlace (T.target u) → Agrees r (index_of p a b)
index_other p a b r t u e f g h = index_value p a b r (λ v w i j.
    let d : t ≡ v = cc in
    let k : u ≡ w = cc in
    other v w (T.target w) refl (f ∙ ap T.target d) (h ∙ ap (λ x. option_map APlace (T.target x)) k))
  where
    other : (v w : Ty) (o : Option Ty) → T.target w ≡ o → None ≡ T.target v → r ≡ option_map APlace (T.target w) → Agrees r (T.sum_type p v w >>= (λ (x : Ty). T.target x >>= (λ (y : Ty). Some (APlace y))))
    other v w None q n m = agrees_absent r _ (element_none p v w n (sym q))
    other v w (Some to) q n m = let z : r ≡ Some (APlace to) = m ∙ ap (option_map APlace) q in rw z (element_right p v w to n (sym q))

-- what a pointer points to is a place
pub dereferenced : (u : Ty) → T.unary_type U.Dereference (AValue u) ≡ option_map APlace (T.target u)
dereferenced (TyPointer t) = refl
dereferenced _ = refl

-- ---- operators on one operand

pub minus_agrees : (op : UnaryOp) (named : Bool) (o r : Option T.Typed) → (op ≡ U.Minus) ⊎ ((op ≡ U.Plus) ⊎ (op ≡ U.Complement)) → ((d : T.Typed) → used_of o ≡ T.used d → Agrees r (T.unary_type U.Minus d)) → Agrees r (unary_of op named o)
minus_agrees op named None r (inl e) h = rw e tt
minus_agrees op named None r (inr (inl e)) h = rw e tt
minus_agrees op named None r (inr (inr e)) h = rw e tt
minus_agrees op named (Some d) r (inl e) h = rw e (h d refl)
minus_agrees op named (Some d) r (inr (inl e)) h = rw e (h d refl)
minus_agrees op named (Some d) r (inr (inr e)) h = rw e (h d refl)

not_agrees_if : (t : Ty) (b : Bool) (r : Option T.Typed) → r ≡ Some (AValue (TyInt K.Int)) → Agrees r ((if b then Some t else None) >>= (λ (v : Ty). Some (AValue (TyInt K.Int))))
not_agrees_if t true r g = g
not_agrees_if t false r g = tt

not_agrees_used : (o : Option Ty) (r : Option T.Typed) → r ≡ Some (AValue (TyInt K.Int)) → Agrees r ((o >>= (λ (t : Ty). if T.is_testable t then Some t else None)) >>= (λ (v : Ty). Some (AValue (TyInt K.Int))))
not_agrees_used None r g = tt
not_agrees_used (Some t) r g = not_agrees_if t (T.is_testable t) r g

pub not_agrees : (op : UnaryOp) (named : Bool) (o r : Option T.Typed) → op ≡ U.Not → r ≡ Some (AValue (TyInt K.Int)) → Agrees r (unary_of op named o)
not_agrees op named None r e g = rw e tt
not_agrees op named (Some d) r e g = rw e (not_agrees_used (T.used d) r g)

pub star_agrees : (op : UnaryOp) (named : Bool) (o r : Option T.Typed) → op ≡ U.Dereference → ((d : T.Typed) → used_of o ≡ T.used d → r ≡ T.unary_type U.Dereference d) → Agrees r (unary_of op named o)
star_agrees op named None r e h = rw e tt
star_agrees op named (Some d) r e h = rw e (agrees_same r _ (h d refl))
