use Rattle.cpc_convert_flat_laws.proofs.Flat.{passed, found_here, scope_here}
use Rattle.cpc_convert_flat_laws.proofs.AtLine.{line_next, line_goes, test_holds, test_fails}
use Rattle.cpc_convert_flat_laws.proofs.laws.flat_bodies.Goals as goal

pub returns : goal.returns
returns c = record { law = record { behind = passed; stands = found_here; scope = scope_here; goes_on = line_next; jumps = line_goes; holds = test_holds; fails = test_fails } }
