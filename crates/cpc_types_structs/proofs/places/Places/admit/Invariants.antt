use Rattle.std.proofs.Common.{◌≡◌, ℕ, ◌+◌, ◌-◌, vec_len}
use Rattle.cpc_types_structs.specs.Placed.{place_at}
use Rattle.cpc_types_structs.proofs.places.Places.admit.Given as goal

-- only room was added
abbrev pub invariant-loop-name : goal.invariant-loop-name
invariant-loop-name l = (x : ℕ) → place_at l.self x ≡ place_at l.initial.self x

-- how many names have no room yet
abbrev pub decreases-loop-name : goal.decreases-loop-name
decreases-loop-name l = l.name.0 + 1 - vec_len l.self.numbers
