-- What is not said of expressions of other forms.
use Rattle.std.proofs.Common.{◌≡◌, refl, subst, sym, Box, Global, Result}
use Rattle.cpc_base.specs.declared.stop.Place.{Place}
use Rattle.cpc_num.specs.declared.kinds.Fault.{Fault}
use Rattle.cpc_num.specs.declared.kinds.Op.{Op}
use Rattle.cpc_tree.specs.declared.program.CType.{CType}
use Rattle.cpc_tree.specs.declared.program.UnaryOp.{UnaryOp}
use Rattle.cpc_tree.specs.declared.program.UnaryOp.TheVariants as U
use Rattle.cpc_tree.specs.declared.program.Word.{Word}
use Rattle.cpc_tree.specs.declared.program.Expr.{Expr}
use Rattle.cpc_tree.specs.declared.program.Expr.TheVariants as G
use Rattle.cpc_tree.specs.Erase.{Names, expr_of}
use Rattle.cpc_tree.specs.Syntax as S
use Rattle.cpc_store.specs.Store.{Value}
use Rattle.cpc_meaning.specs.Answer.{Answer, NoAnswer}
use Rattle.cpc_meaning.specs.Eval as E
use Rattle.cpc_eval_values.specs.Meets.{Meets}
use Rattle.cpc_eval.specs.Values.{unary_value, operator_value, branch_value}

module _ (names : Names) (c : E.Context) where
  -- `&` of what is no name
  address_there : (e : Expr) → ((w : Word) → e ≡ G.Name w → ⊥) → E.address (E.place c (expr_of names e)) ≡ E.value c (S.EUnary U.AddressOf (expr_of names e))
  address_there (G.Name w) h = absurd (h w refl)
  address_there (G.Integer p kind v) h = refl
  address_there (G.Character p v) h = refl
  address_there (G.Text p bytes) h = refl
  address_there (G.Unary' p op q e) h = refl
  address_there (G.Binary' p op q a r b) h = refl
  address_there (G.And' p q a r b) h = refl
  address_there (G.Or' p q a r b) h = refl
  address_there (G.Choose' p q t r a s b) h = refl
  address_there (G.Cast' p t q e) h = refl
  address_there (G.SizeOf p t) h = refl
  address_there (G.Index' p q a r i) h = refl
  address_there (G.Member' p q e field) h = refl
  address_there (G.Arrow' p q e field) h = refl
  address_there (G.CallIn' p q f shape row) h = refl

  pub address_met : (e : Expr) (r : Result Value Fault) → ((w : Word) → e ≡ G.Name w → ⊥) → Meets r (E.address (E.place c (expr_of names e))) → Meets r (E.value c (S.EUnary U.AddressOf (expr_of names e)))
  address_met e r h g = let P : Answer Value → Type 0 = λ y. Meets r y in subst P (address_there e h) g

  other_unary : (e : Expr) → ((p : Place) (op : UnaryOp) (b : Box Expr Global) → e ≡ G.Unary p op b → ⊥) → NoAnswer ≡ unary_value c (expr_of names e)
  other_unary (G.Name w) h = refl
  other_unary (G.Integer p kind v) h = refl
  other_unary (G.Character p v) h = refl
  other_unary (G.Text p bytes) h = refl
  other_unary (G.Unary' p op q e) h = absurd (h p op (record { ptr = q.ptr; alloc = q.alloc; value = e }) refl)
  other_unary (G.Binary' p op q a r b) h = refl
  other_unary (G.And' p q a r b) h = refl
  other_unary (G.Or' p q a r b) h = refl
  other_unary (G.Choose' p q t r a s b) h = refl
  other_unary (G.Cast' p t q e) h = refl
  other_unary (G.SizeOf p t) h = refl
  other_unary (G.Index' p q a r i) h = refl
  other_unary (G.Member' p q e field) h = refl
  other_unary (G.Arrow' p q e field) h = refl
  other_unary (G.CallIn' p q f shape row) h = refl

  pub unary_other : (e : Expr) (r : Result Value Fault) → ((p : Place) (op : UnaryOp) (b : Box Expr Global) → e ≡ G.Unary p op b → ⊥) → Meets r (unary_value c (expr_of names e))
  unary_other e r h = let P : Answer Value → Type 0 = λ y. Meets r y in subst P (other_unary e h) tt

  other_operator : (e : Expr) → ((p : Place) (op : Op) (a b : Box Expr Global) → e ≡ G.Binary p op a b → ⊥) → ((p : Place) (t : CType) (b : Box Expr Global) → e ≡ G.Cast p t b → ⊥) → NoAnswer ≡ operator_value c (expr_of names e)
  other_operator (G.Name w) h i = refl
  other_operator (G.Integer p kind v) h i = refl
  other_operator (G.Character p v) h i = refl
  other_operator (G.Text p bytes) h i = refl
  other_operator (G.Unary' p op q e) h i = refl
  other_operator (G.Binary' p op q a r b) h i = absurd (h p op (record { ptr = q.ptr; alloc = q.alloc; value = a }) (record { ptr = r.ptr; alloc = r.alloc; value = b }) refl)
  other_operator (G.And' p q a r b) h i = refl
  other_operator (G.Or' p q a r b) h i = refl
  other_operator (G.Choose' p q t r a s b) h i = refl
  other_operator (G.Cast' p t q e) h i = absurd (i p t (record { ptr = q.ptr; alloc = q.alloc; value = e }) refl)
  other_operator (G.SizeOf p t) h i = refl
  other_operator (G.Index' p q a r k) h i = refl
  other_operator (G.Member' p q e field) h i = refl
  other_operator (G.Arrow' p q e field) h i = refl
  other_operator (G.CallIn' p q f shape row) h i = refl

  pub operator_other : (e : Expr) (r : Result Value Fault) → ((p : Place) (op : Op) (a b : Box Expr Global) → e ≡ G.Binary p op a b → ⊥) → ((p : Place) (t : CType) (b : Box Expr Global) → e ≡ G.Cast p t b → ⊥) → Meets r (operator_value c (expr_of names e))
  operator_other e r h i = let P : Answer Value → Type 0 = λ y. Meets r y in subst P (other_operator e h i) tt

  other_branch : (e : Expr) → ((p : Place) (a b : Box Expr Global) → e ≡ G.And p a b → ⊥) → ((p : Place) (a b : Box Expr Global) → e ≡ G.Or p a b → ⊥) → ((p : Place) (t a b : Box Expr Global) → e ≡ G.Choose p t a b → ⊥)
      → NoAnswer ≡ branch_value c (expr_of names e)
  other_branch (G.Name w) h i j = refl
  other_branch (G.Integer p kind v) h i j = refl
  other_branch (G.Character p v) h i j = refl
  other_branch (G.Text p bytes) h i j = refl
  other_branch (G.Unary' p op q e) h i j = refl
  other_branch (G.Binary' p op q a r b) h i j = refl
  other_branch (G.And' p q a r b) h i j = absurd (h p (record { ptr = q.ptr; alloc = q.alloc; value = a }) (record { ptr = r.ptr; alloc = r.alloc; value = b }) refl)
  other_branch (G.Or' p q a r b) h i j = absurd (i p (record { ptr = q.ptr; alloc = q.alloc; value = a }) (record { ptr = r.ptr; alloc = r.alloc; value = b }) refl)
  other_branch (G.Choose' p q t r a s b) h i j = absurd (j p (record { ptr = q.ptr; alloc = q.alloc; value = t }) (record { ptr = r.ptr; alloc = r.alloc; value = a }) (record { ptr = s.ptr; alloc = s.alloc; value = b }) refl)
  other_branch (G.Cast' p t q e) h i j = refl
  other_branch (G.SizeOf p t) h i j = refl
  other_branch (G.Index' p q a r k) h i j = refl
  other_branch (G.Member' p q e field) h i j = refl
  other_branch (G.Arrow' p q e field) h i j = refl
  other_branch (G.CallIn' p q f shape row) h i j = refl

  pub branch_other : (e : Expr) (r : Result Value Fault) → ((p : Place) (a b : Box Expr Global) → e ≡ G.And p a b → ⊥) → ((p : Place) (a b : Box Expr Global) → e ≡ G.Or p a b → ⊥) → ((p : Place) (t a b : Box Expr Global) → e ≡ G.Choose p t a b → ⊥)
      → Meets r (branch_value c (expr_of names e))
  branch_other e r h i j = let P : Answer Value → Type 0 = λ y. Meets r y in subst P (other_branch e h i j) tt

  other_place : (e : Expr) → ((w : Word) → e ≡ G.Name w → ⊥) → ((p : Place) (op : UnaryOp) (b : Box Expr Global) → e ≡ G.Unary p op b → ⊥) → ((p : Place) (a b : Box Expr Global) → e ≡ G.Index p a b → ⊥)
      → ((p : Place) (b : Box Expr Global) (x : Word) → e ≡ G.Member p b x → ⊥) → ((p : Place) (b : Box Expr Global) (x : Word) → e ≡ G.Arrow p b x → ⊥) → NoAnswer ≡ E.place c (expr_of names e)
  other_place (G.Name w) f g h i j = absurd (f w refl)
  other_place (G.Integer p kind v) f g h i j = refl
  other_place (G.Character p v) f g h i j = refl
  other_place (G.Text p bytes) f g h i j = refl
  other_place (G.Unary' p op q e) f g h i j = absurd (g p op (record { ptr = q.ptr; alloc = q.alloc; value = e }) refl)
  other_place (G.Binary' p op q a r b) f g h i j = refl
  other_place (G.And' p q a r b) f g h i j = refl
  other_place (G.Or' p q a r b) f g h i j = refl
  other_place (G.Choose' p q t r a s b) f g h i j = refl
  other_place (G.Cast' p t q e) f g h i j = refl
  other_place (G.SizeOf p t) f g h i j = refl
  other_place (G.Index' p q a r k) f g h i j = absurd (h p (record { ptr = q.ptr; alloc = q.alloc; value = a }) (record { ptr = r.ptr; alloc = r.alloc; value = k }) refl)
  other_place (G.Member' p q e field) f g h i j = absurd (i p (record { ptr = q.ptr; alloc = q.alloc; value = e }) field refl)
  other_place (G.Arrow' p q e field) f g h i j = absurd (j p (record { ptr = q.ptr; alloc = q.alloc; value = e }) field refl)
  other_place (G.CallIn' p q f' shape row) f g h i j = refl

  pub place_other : (e : Expr) (r : Result E.Spot Fault) → ((w : Word) → e ≡ G.Name w → ⊥) → ((p : Place) (op : UnaryOp) (b : Box Expr Global) → e ≡ G.Unary p op b → ⊥) → ((p : Place) (a b : Box Expr Global) → e ≡ G.Index p a b → ⊥)
      → ((p : Place) (b : Box Expr Global) (x : Word) → e ≡ G.Member p b x → ⊥) → ((p : Place) (b : Box Expr Global) (x : Word) → e ≡ G.Arrow p b x → ⊥) → Meets r (E.place c (expr_of names e))
  place_other e r f g h i j = let P : Answer E.Spot → Type 0 = λ y. Meets r y in subst P (other_place e f g h i j) tt

  -- no place is what another operator than `*` gives
  pub place_sign : (e : Expr) (p : Place) (op : UnaryOp) (b : Box Expr Global) (r : Result E.Spot Fault) → e ≡ G.Unary p op b → (op ≡ U.Dereference → ⊥) → Meets r (E.place c (expr_of names e))
  place_sign e p op b r is h = let P : Expr → Type 0 = λ y. Meets r (E.place c (expr_of names y)) in subst P (sym is) (go op h)
    where
      go : (o : UnaryOp) → (o ≡ U.Dereference → ⊥) → Meets r (E.place c (S.EUnary o (expr_of names b.value)))
      go U.Dereference k = absurd (k refl)
      go U.Minus k = tt
      go U.Plus k = tt
      go U.Not k = tt
      go U.Complement k = tt
      go U.AddressOf k = tt
