-- Which numbers rows hold.
use Rattle.std.proofs.Common.{◌≡◌, [], ℕ, ◌==◌, ◌||◌, List, ◌∷◌, ◌++◌, refl, ap, ◌∙◌}
use Rattle.cpc_base.proofs.Truth.{or_regrouped}
use Rattle.cpc_tree.specs.Lists.{holds_number}

-- two rows hold what one of them holds
pub holds_both : (xs ys : List ℕ) (k : ℕ) → holds_number (xs ++ ys) k ≡ (holds_number xs k || holds_number ys k)
holds_both [] ys k = refl
holds_both (x ∷ xs) ys k = ap (λ b. (x == k) || b) (holds_both xs ys k) ∙ or_regrouped (x == k) (holds_number xs k) (holds_number ys k)
