-- The ways from a node.
use Rattle.std.specs.Prelude.{ℕ, List, [], ◌∷◌, slice_get, Option, Some, None}
use Rattle.cpc_forms.specs.Flow.{Place}
use Rattle.cpc_forms.specs.Split.{owner_or}
use Rattle.cpc_forms_code.specs.Lifts.{owner_number}
use Rattle.cpc_lift_laws.specs.Search.{Link}

-- the way from what l owns to a node of these owners, if there is one
abbrev pub way_of : Place → List (Option Place) → Option ℕ → List Link
way_of l os None = []
way_of l os (Some m) = record { from = owner_number l; to = owner_number (owner_or l (slice_get os m)) } ∷ []
