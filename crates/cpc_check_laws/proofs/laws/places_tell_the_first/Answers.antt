use Rattle.cpc_check_laws.proofs.Native.Refusals.{places_are_told, first_is_by_places, rules_are_of_programs}
use Rattle.cpc_check_laws.proofs.laws.places_tell_the_first.Goals as goal

pub returns : goal.returns
returns c = record { told = places_are_told; first = first_is_by_places; other = rules_are_of_programs }
