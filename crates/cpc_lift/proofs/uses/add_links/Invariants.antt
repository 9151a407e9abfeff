use Rattle.std.proofs.Common.{◌≡◌, ◌++◌, drop}
use Rattle.cpc_lift_laws.specs.Nodes.{links_to}
use Rattle.cpc_lift_closures.specs.Rows.{links_of}
use Rattle.cpc_lift.proofs.uses.add_links.Given as goal

-- with what is left, all links are there
abbrev pub invariant-loop-variable : goal.invariant-loop-variable
invariant-loop-variable l = links_of l.uses.items ++ links_to l.owner (drop l.variable-index l.variables) ≡ links_of l.initial.uses.items ++ links_to l.owner l.variables
