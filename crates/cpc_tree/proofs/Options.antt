-- What may be absent.
use Rattle.std.proofs.Common.{◌≡◌, ◌&&◌, List, [], ◌∷◌, map, Option, None, Some, refl, ap₂}
use Rattle.cpc_base.proofs.Lists.{some_seen}
use Rattle.cpc_tree.specs.ItemGrammar.{all_named}
use Rattle.cpc_tree.specs.Located.{LParameter, Ident, bare_parameter}
use Rattle.cpc_tree.specs.Syntax.{Parameter}
use Rattle.cpc_tree.specs.Typing.{◌>>=◌}

-- what one thing after another gives, where both give something
pub then_some : {A B : Type 0} (o : Option A) (f : A → Option B) (y : B) → (o >>= f) ≡ Some y → (x : A) × (o ≡ Some x) × (f x ≡ Some y)
then_some None f y e = absurd (cc)
then_some (Some x) f y e = (x, refl, e)

-- names are there with their places and without
pub named_bare : (ws : List LParameter) → all_named (λ (p : Parameter). p.called) (map bare_parameter ws) ≡ all_named (λ (p : LParameter). p.called) ws
named_bare [] = refl
named_bare (w ∷ ws) = ap₂ (λ a b. a && b) (some_seen (λ (x : Ident). x.text) w.called) (named_bare ws)
