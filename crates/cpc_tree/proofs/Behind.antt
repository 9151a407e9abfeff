-- Places behind texts.
use Rattle.std.proofs.Common.{◌≡◌, [], refl}
use Rattle.cpc_base.specs.declared.stop.Place.{Place}
use Rattle.cpc_tree.specs.Cut.{place_behind}

-- behind no text
pub behind_none : (p : Place) → place_behind p [] ≡ p
unfolding place_behind
behind_none p = refl
