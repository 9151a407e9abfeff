-- What has to be kept is needed: four small runs.
use Rattle.std.proofs.Common.{refl}
use Rattle.cpc_lift_laws.specs.Refusals.{WhatIsKeptIsNeeded}

pub what_is_kept_is_needed : WhatIsKeptIsNeeded
what_is_kept_is_needed = record { used = (refl, refl); along = (refl, refl); over = (refl, refl); left = (refl, refl) }
