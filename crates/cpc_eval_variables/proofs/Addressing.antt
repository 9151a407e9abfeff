-- What is added for an expression, by the form that the code finds.
use Rattle.std.proofs.Common.{◌≡◌, ◌⊎◌, inl, inr, ℕ, ◌+◌, ◌<◌, List, ◌++◌, length, get_or, drop, Option, None, Some, refl, sym, ap, ◌∙◌, append_assoc, Vec, Box, Global}
use Rattle.cpc_base.specs.declared.stop.Place.{Place}
use Rattle.cpc_base.specs.declared.names.Name.{Name}
use Rattle.cpc_base.proofs.Lists.{drop_to_item}
use Rattle.cpc_tree.specs.declared.program.Word.{Word}
use Rattle.cpc_tree.specs.declared.program.UnaryOp.{UnaryOp}
use Rattle.cpc_tree.specs.declared.program.UnaryOp.TheVariants.{AddressOf}
use Rattle.cpc_eval_variables.specs.Addressed.{addresses_by_name}
use Rattle.cpc_tree.specs.declared.program.Expr as GExpr
use Rattle.cpc_tree.specs.declared.program.Expr.TheVariants as E
use Rattle.cpc_tree.specs.Syntax as S
use Rattle.cpc_tree.specs.Erase.{Names, expr_of, exprs_of}
use Rattle.cpc_tree.specs.Typing.{Scope}
use Rattle.cpc_tree.specs.Registers.{slot_of, addresses, addresses_all}
use Rattle.cpc_eval_variables.proofs.Nodes.{call_seen, unary_seen}

pub unary_taken : (names : Names) (scope : Scope) (e : GExpr.Expr) (place : Place) (op : UnaryOp) (operand : Box GExpr.Expr Global) → e ≡ E.Unary place op operand
    → addresses scope (expr_of names e) ≡ addresses scope (S.EUnary op (expr_of names operand.value))
unary_taken names scope e place op operand h = ap (addresses scope) (unary_seen names e place op operand h)

pub call_taken : (names : Names) (scope : Scope) (e : GExpr.Expr) (place : Place) (function : Box GExpr.Expr Global) (arguments : Vec GExpr.Expr Global) → e ≡ E.CallIn place function arguments
    → addresses scope (expr_of names e) ≡ addresses scope (expr_of names function.value) ++ addresses_all scope (exprs_of names arguments.items)
call_taken names scope e place function arguments h = ap (addresses scope) (call_seen names e place function arguments h)

-- added one after the other
pub both_added : {A : Type 0} (x a b all y z : List A) → y ≡ x ++ a → z ≡ y ++ b → all ≡ a ++ b → z ≡ x ++ all
both_added x a b all y z k m e = m ∙ (ap (λ v. v ++ b) k ∙ (append_assoc x a b ∙ ap (λ v. x ++ v) (sym e)))

pub unary_plain : (names : Names) (scope : Scope) (e : GExpr.Expr) (place : Place) (op : UnaryOp) (operand : Box GExpr.Expr Global) (x y : GExpr.Expr) (o : Option Name) → e ≡ E.Unary place op operand
    → x ≡ operand.value → y ≡ operand.value → addresses scope (S.EUnary op (expr_of names x)) ≡ addresses_by_name names scope o (expr_of names x) → o ≡ None
    → addresses scope (expr_of names y) ≡ addresses scope (expr_of names e)
unary_plain names scope e place op operand x y o h u v n i =
    ap (λ (z : GExpr.Expr). addresses scope (expr_of names z)) (v ∙ sym u)
    ∙ (ap (λ q. addresses_by_name names scope q (expr_of names x)) (sym i)
    ∙ (sym n ∙ (ap (λ (z : GExpr.Expr). addresses scope (S.EUnary op (expr_of names z))) u ∙ sym (unary_taken names scope e place op operand h))))

-- `&` of a name
pub unary_named : (names : Names) (scope : Scope) (e : GExpr.Expr) (place : Place) (op : UnaryOp) (operand : Box GExpr.Expr Global) (x : GExpr.Expr) (name : Name) (o : Option Name) → e ≡ E.Unary place op operand
    → x ≡ operand.value → addresses scope (S.EUnary op (expr_of names x)) ≡ addresses_by_name names scope o (expr_of names x) → o ≡ Some name
    → slot_of scope (names name) ≡ addresses scope (expr_of names e)
unary_named names scope e place op operand x name o h u n i =
    ap (λ q. addresses_by_name names scope q (expr_of names x)) (sym i)
    ∙ (sym n ∙ (ap (λ (z : GExpr.Expr). addresses scope (S.EUnary op (expr_of names z))) u ∙ sym (unary_taken names scope e place op operand h)))

-- `&` of what is no name
pub no_name : (names : Names) (scope : Scope) (e : GExpr.Expr) → ((w : Word) → e ≡ E.Name w → ⊥) → addresses scope (S.EUnary AddressOf (expr_of names e)) ≡ addresses scope (expr_of names e)
no_name names scope (E.Name w) h = absurd (h w refl)
no_name names scope (E.Integer p kind v) h = refl
no_name names scope (E.Character p v) h = refl
no_name names scope (E.Text p bytes) h = refl
no_name names scope (E.Unary' p op q e) h = refl
no_name names scope (E.Binary' p op q a r b) h = refl
no_name names scope (E.And' p q a r b) h = refl
no_name names scope (E.Or' p q a r b) h = refl
no_name names scope (E.Choose' p q t r a s b) h = refl
no_name names scope (E.Cast' p t q e) h = refl
no_name names scope (E.SizeOf p t) h = refl
no_name names scope (E.Index' p q a r i) h = refl
no_name names scope (E.Member' p q e field) h = refl
no_name names scope (E.Arrow' p q e field) h = refl
no_name names scope (E.CallIn' p q f shape row) h = refl

-- what is added for parts that the code reads by references
module _ (names : Names) (scope : Scope) (e : GExpr.Expr) where
  pub index_added : (place : Place) (a b : Box GExpr.Expr Global) (v w : GExpr.Expr) (x y z : List ℕ) → e ≡ E.Index place a b → v ≡ a.value → w ≡ b.value
      → y ≡ x ++ addresses scope (expr_of names v) → z ≡ y ++ addresses scope (expr_of names w) → z ≡ x ++ addresses scope (expr_of names e)
  index_added place a b v w x y z is ev ew k m =
      let A : GExpr.Expr → List ℕ = λ q. addresses scope (expr_of names q) in
      both_added x (A v) (A w) (A e) y z k m (ap A is ∙ (ap (λ q. A q ++ A b.value) (sym ev) ∙ ap (λ q. A v ++ A q) (sym ew)))

  pub choice_added : (place : Place) (t a b : Box GExpr.Expr Global) (u v w : GExpr.Expr) (x y z l : List ℕ) → e ≡ E.Choose place t a b → u ≡ t.value → v ≡ a.value → w ≡ b.value
      → y ≡ x ++ addresses scope (expr_of names u) → z ≡ y ++ addresses scope (expr_of names v) → l ≡ z ++ addresses scope (expr_of names w) → l ≡ x ++ addresses scope (expr_of names e)
  choice_added place t a b u v w x y z l is eu ev ew k m n =
      let A : GExpr.Expr → List ℕ = λ q. addresses scope (expr_of names q) in
      both_added x (A u ++ A v) (A w) (A e) z l (both_added x (A u) (A v) (A u ++ A v) y z k m refl) n
      (ap A is ∙ (ap (λ q. (A q ++ A a.value) ++ A b.value) (sym eu) ∙ (ap (λ q. (A u ++ A q) ++ A b.value) (sym ev) ∙ ap (λ q. (A u ++ A v) ++ A q) (sym ew))))

  -- in the two operands of an operator
  operands : (a b : Box GExpr.Expr Global) → ((p : Place) × (op : _) × e ≡ E.Binary p op a b) ⊎ (((p : Place) × e ≡ E.And p a b) ⊎ ((p : Place) × e ≡ E.Or p a b))
      → addresses scope (expr_of names e) ≡ addresses scope (expr_of names a.value) ++ addresses scope (expr_of names b.value)
  operands a b (inl (p, op, is)) = ap (λ q. addresses scope (expr_of names q)) is
  operands a b (inr (inl (p, is))) = ap (λ q. addresses scope (expr_of names q)) is
  operands a b (inr (inr (p, is))) = ap (λ q. addresses scope (expr_of names q)) is

  pub operands_added : (a b : Box GExpr.Expr Global) (v w : GExpr.Expr) (x y z : List ℕ)
      → ((p : Place) × (op : _) × e ≡ E.Binary p op a b) ⊎ (((p : Place) × e ≡ E.And p a b) ⊎ ((p : Place) × e ≡ E.Or p a b)) → v ≡ a.value → w ≡ b.value
      → y ≡ x ++ addresses scope (expr_of names v) → z ≡ y ++ addresses scope (expr_of names w) → z ≡ x ++ addresses scope (expr_of names e)
  operands_added a b v w x y z is ev ew k m =
      let A : GExpr.Expr → List ℕ = λ q. addresses scope (expr_of names q) in
      both_added x (A v) (A w) (A e) y z k m (operands a b is ∙ (ap (λ q. A q ++ A b.value) (sym ev) ∙ ap (λ q. A v ++ A q) (sym ew)))

-- along a row
pub all_more : (names : Names) (scope : Scope) (row : List GExpr.Expr) (i : ℕ) (e : GExpr.Expr) (xs ys : List ℕ) → i < length row → e ≡ get_or row i e → ys ≡ xs ++ addresses scope (expr_of names e)
    → ys ++ addresses_all scope (exprs_of names (drop (i + 1) row)) ≡ xs ++ addresses_all scope (exprs_of names (drop i row))
all_more names scope row i e xs ys h is k =
    let rest = addresses_all scope (exprs_of names (drop (i + 1) row)) in
    ap (λ l. l ++ rest) k
    ∙ (append_assoc xs (addresses scope (expr_of names e)) rest
    ∙ ap (λ es. xs ++ addresses_all scope (exprs_of names es)) (sym (drop_to_item row i e h is)))
