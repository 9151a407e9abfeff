use Rattle.std.proofs.Common.{◌≡◌, take}
use Rattle.cpc_tree.specs.Erase.{Names, Table, in_table, list_of}
use Rattle.cpc_convert_common.specs.Converted.{respawned_all}
use Rattle.cpc_convert_names.specs.Book.{IsBook}
use Rattle.cpc_convert_respawning.proofs.respawning.+respawned.Given as goal

-- the statements so far, with their spawns as calls
abbrev pub invariant-respawn_all-loop-statement : goal.invariant-respawn_all-loop-statement
invariant-respawn_all-loop-statement l = (table : Table) (to : Names) → IsBook table to l.book → list_of (in_table table) l.row ≡ list_of to l.row → list_of to l.all.items ≡ respawned_all (list_of to (take l.statement-index l.row))
