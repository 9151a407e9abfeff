use Rattle.std.proofs.Common.{◌≡◌, length, map}
use Rattle.cpc_hosts.specs.Tables.{shown}
use Rattle.cpc_tree.specs.Erase.{in_table, item_of}
use Rattle.cpc_run.specs.Hosts.{missing_of}
use Rattle.cpc_run.proofs.hosts.missing_host.Given as goal

abbrev pub invariant-loop-item : goal.invariant-loop-item
invariant-loop-item g l = missing_of (map (λ e. shown e.name.items e.arity) l.hosts.entries.items) (map (item_of (in_table l.program.names)) l.program.items.items) ≡ missing_of (map (λ e. shown e.name.items e.arity) l.hosts.entries.items) (map (item_of (in_table l.program.names)) l.rest)

abbrev pub decreases-loop-item : goal.decreases-loop-item
decreases-loop-item g l = length l.rest
