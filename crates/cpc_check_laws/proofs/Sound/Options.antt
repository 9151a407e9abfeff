-- What an option was made of.
use Rattle.std.proofs.Common.{◌≡◌, Option, Some, None, ap, ◌∙◌}
use Rattle.cpc_base.proofs.Lists.{some_is}
use Rattle.cpc_tree.specs.Typing.{◌>>=◌}
use Rattle.cpc_check_laws.proofs.Sound.Answers.{no_some}

-- and what it makes
pub then_of : {A B : Type 0} (o : Option A) (f : A → Option B) (x : A) (y : B) → o ≡ Some x → f x ≡ Some y → (o >>= f) ≡ Some y
then_of None f x y e h = no_some x e
then_of (Some z) f x y e h = ap f (some_is z x e) ∙ h
