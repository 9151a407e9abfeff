-- Where variables are kept depends on their types alone.
use Rattle.std.proofs.Common.{◌≡◌, ℕ, suc, Bool, List, [], ◌∷◌, refl, ap}
use Rattle.std.specs.Prelude.{not, ◌&&◌}
use Rattle.cpc_tree.specs.Syntax.{Ty, Variable, Function}
use Rattle.cpc_tree.specs.Lists.{holds_number}
use Rattle.cpc_tree.specs.Typing.{is_scalar}
use Rattle.cpc_tree.specs.Registers.{addressed}
use Rattle.cpc_eval_variables.specs.Kept.{kept_from, kept_types, types_kept}
use Rattle.cpc_eval_variables.specs.Typed.{types_in}

pub kept_by_types : (f : Function) (n : ℕ) (xs : List Variable) → kept_types (addressed f) n (types_in xs) ≡ kept_from f n xs
kept_by_types f n [] = refl
kept_by_types f n (x ∷ xs) = ap (λ (ks : List (Ty × Bool)). (x.type, is_scalar x.type && not (holds_number (addressed f) n)) ∷ ks) (kept_by_types f (suc n) xs)

pub types_again : (addressed : List ℕ) (n : ℕ) (ts : List Ty) → types_kept (kept_types addressed n ts) ≡ ts
types_again addressed n [] = refl
types_again addressed n (t ∷ ts) = ap (λ (us : List Ty). t ∷ us) (types_again addressed (suc n) ts)
