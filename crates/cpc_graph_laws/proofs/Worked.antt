-- The worked graph, by computing.
use Rattle.std.specs.Prelude.{refl}
use Rattle.cpc_graph_laws.specs.Worked.{WorkedWays, WorkedOwners}

pub worked_ways : WorkedWays
worked_ways = refl

pub worked_owners : WorkedOwners
worked_owners = (refl, refl)
