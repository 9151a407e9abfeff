use Rattle.cpc_check_laws.proofs.Native.PlacesItems.{places_do_not_matter, unbroken_at_any_places}
use Rattle.cpc_check_laws.proofs.laws.places_do_not_matter.Goals as goal

pub returns : goal.returns
returns c = record { law = places_do_not_matter; unbroken = unbroken_at_any_places }
