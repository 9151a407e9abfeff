-- What the cells hold that a section's pointer points to.
use Rattle.std.proofs.Common.{◌≡◌, ℕ, List, [], ◌∷◌, Option, Some, None, sym, ap, ◌∙◌}
use Rattle.cpc_base.proofs.Lists.{some_is}
use Rattle.cpc_store.specs.declared.values.Class.{Class}
use Rattle.cpc_store.specs.declared.values.Scalar.{Scalar}
use Rattle.cpc_store.specs.Store.{Value, At, Store}
use Rattle.cpc_tree.specs.Syntax.{Ty, TyVoid, TyInt, TyCondvar, TyPointer, TyCode, TyStruct, TyArray, Function, Program}
use Rattle.cpc_tree.specs.Typing.{parameter_types}
use Rattle.cpc_meaning.specs.Answer.{Answer, Gives, NoAnswer, ◌>>=◌, needed}
use Rattle.cpc_meaning.specs.Copies.{copied, copy_of, pointed_layout}
use Rattle.cpc_meaning.specs.Layout.{layout}
use Rattle.cpc_native_sections.specs.Pointed.{pointed_type}

pointed_known : (p : Program) (t : Ty) (ts : List Ty) → Some t ≡ pointed_type ts → pointed_layout p ts ≡ needed (layout p t)
pointed_known p t [] e = absurd cc
pointed_known p t (TyVoid ∷ ts) e = absurd cc
pointed_known p t (TyInt kind ∷ ts) e = absurd cc
pointed_known p t (TyCondvar ∷ ts) e = absurd cc
pointed_known p t (TyPointer u ∷ ts) e = ap (λ x. needed (layout p x)) (sym (some_is t u e))
pointed_known p t (TyCode r ps ∷ ts) e = absurd cc
pointed_known p t (TyStruct tag ∷ ts) e = absurd cc
pointed_known p t (TyArray u n ∷ ts) e = absurd cc

module _ (p : Program) (f : Function) (t : Ty) (is : Some t ≡ pointed_type (parameter_types f)) (c : Class) (n k : ℕ) (s : Store) where
  opened : (o : Option (List Scalar)) → o ≡ layout p t → copy_of p f (At c n k) s ≡ (needed o >>= λ scalars. copied scalars c n k s)
  opened o e = ap (λ a. a >>= λ scalars. copied scalars c n k s) (pointed_known p t (parameter_types f) is ∙ ap needed (sym e))

  -- its cells hold this
  pub row_pointed : (row : List Scalar) → Some row ≡ layout p t → copy_of p f (At c n k) s ≡ copied row c n k s
  row_pointed row e = opened (Some row) e

  -- its type is incomplete
  pub none_pointed : None ≡ layout p t → copy_of p f (At c n k) s ≡ NoAnswer
  none_pointed e = opened None e
