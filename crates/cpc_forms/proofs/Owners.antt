-- The rows of owners of nodes.
use Rattle.std.proofs.Common.{◌≡◌, ℕ, zero, suc, length, refl, ap}
use Rattle.cpc_forms.specs.Flow.{Flow}
use Rattle.cpc_forms.specs.Split.{owners_from}

-- as many owners as nodes
pub owners_long : (flow : Flow) (n k : ℕ) → length (owners_from flow n k) ≡ k
owners_long flow n zero = refl
owners_long flow n (suc k) = ap suc (owners_long flow (suc n) k)
