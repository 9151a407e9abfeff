-- The sizes of what operands point to.
use Rattle.std.proofs.Common.{◌≡◌, ℕ, Option, Some, None, ap, subst, ◌∙◌}
use Rattle.cpc_tree.specs.Syntax.{Ty, TyPointer, Program}
use Rattle.cpc_tree.specs.Typing as T
use Rattle.cpc_meaning.specs.Answer.{Gives, NoAnswer}
use Rattle.cpc_meaning.specs.Eval as E
use Rattle.cpc_shapes.specs.Found.{used_of}
use Rattle.cpc_eval_values.specs.Counted.{IsSize}
use Rattle.cpc_eval.specs.Shapes.{Agrees}

pub no_type : {X : Type 0} (p : Program) (o : Option Ty) (n : ℕ) → None ≡ o → E.element_size p o ≡ Gives n → X
no_type p o n e h = let g : NoAnswer ≡ Gives n = ap (E.element_size p) e ∙ h in cc

pub no_pointer : {X : Type 0} (p : Program) (o : Option Ty) (t : Ty) (n : ℕ) → Some t ≡ o → None ≡ T.target t → E.element_size p o ≡ Gives n → X
no_pointer {X = X} p o t n e f h = go t f (ap (E.element_size p) e ∙ h)
  where
    go : (u : Ty) → None ≡ T.target u → E.element_size p (Some u) ≡ Gives n → X
    go (TyPointer v) g k = cc
    go _ g k = cc

-- a type that agrees serves for the size
pub size_by : (p : Program) (size : Option ℕ) (d o : Option T.Typed) → Agrees d o → IsSize size (E.element_size p (used_of d)) → IsSize size (E.element_size p (E.and_then o T.used))
size_by p size d None h g = λ n e. let no : NoAnswer ≡ Gives n = e in cc
size_by p size d (Some x) h g = let P : Option T.Typed → Type 0 = λ y. IsSize size (E.element_size p (used_of y)) in subst P h g
