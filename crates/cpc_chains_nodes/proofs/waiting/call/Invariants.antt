use Rattle.std.proofs.Common.{◌≡◌, map, drop}
use Rattle.cpc_tree.specs.Erase.{Names, Table}
use Rattle.cpc_tree.specs.Syntax.{Program}
use Rattle.cpc_convert_routines.specs.Routines.{Routine}
use Rattle.cpc_chains_lines.specs.Written.{written, puts}
use Rattle.cpc_tree.specs.Erase.{exprs_of}
use Rattle.cpc_convert_names.specs.Called.{AreCalled, variables_in}
use Rattle.cpc_chains_lines.specs.Puts.{gives}
use Rattle.cpc_chains_lines.specs.Known.{plain_seen}
use Rattle.cpc_chains_lines.specs.Around.{Stands, reads}
use Rattle.cpc_chains_nodes.proofs.waiting.call.Given as goal

-- with the arguments that are left, all are given
abbrev pub invariant-loop-number : goal.invariant-loop-number
invariant-loop-number l = (source : Table) (from to : Names) (p : Program) (r : Routine) → Stands source from to p r l.around → AreCalled to l.callee → exprs_of from l.arguments ≡ exprs_of to l.arguments
    → puts (written to l.out) (gives (to l.callee.start) l.number (drop l.number (map (plain_seen to) (variables_in l.callee.lifted.now))) (reads from r l.around l.scope) (exprs_of from (drop l.number l.arguments)))
    ≡ puts (written to l.initial.out) (gives (to l.callee.start) 0 (map (plain_seen to) (variables_in l.callee.lifted.now)) (reads from r l.around l.scope) (exprs_of from l.arguments))
