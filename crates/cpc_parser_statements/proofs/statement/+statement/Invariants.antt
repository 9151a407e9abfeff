use Rattle.std.proofs.Common.{◌+◌, ◌*◌, ◌≤◌, length}
use Rattle.cpc_tree.specs.Erase.{Names}
use Rattle.cpc_parser_types.specs.Views.{placed}
use Rattle.cpc_parser_statements.specs.CodeViews.{seen}
use Rattle.cpc_parser_statements.proofs.EntrySteps.{Reads}
use Rattle.cpc_parser_statements.proofs.statement.+statement.Given as goal

abbrev pub decreases-labelled : goal.decreases-labelled
decreases-labelled l = 6 * l.depth

abbrev pub decreases-statement : goal.decreases-statement
decreases-statement l = 6 * l.depth + 1

abbrev pub decreases-inner : goal.decreases-inner
decreases-inner l = 6 * l.depth + 2

abbrev pub decreases-conditional : goal.decreases-conditional
decreases-conditional l = 6 * l.room + 3

abbrev pub decreases-while_loop : goal.decreases-while_loop
decreases-while_loop l = 6 * l.room + 3

abbrev pub decreases-do_loop : goal.decreases-do_loop
decreases-do_loop l = 6 * l.room + 3

abbrev pub decreases-for_loop : goal.decreases-for_loop
decreases-for_loop l = 6 * l.room + 3

abbrev pub decreases-entry : goal.decreases-entry
decreases-entry l = 6 * l.room + 2

abbrev pub decreases-entries : goal.decreases-entries
decreases-entries l = 6 * l.room + 3

abbrev pub decreases-braced : goal.decreases-braced
decreases-braced l = 6 * l.room + 4

abbrev pub decreases-inside : goal.decreases-inside
decreases-inside l = 6 * l.room + 5

-- what is read of the block, and the nesting so far
abbrev pub invariant-entries-entries : goal.invariant-entries-entries
invariant-entries-entries l = ((names : Names) → Reads l.fn.room (placed names l.fn.tokens) (seen names l.all.items) l.nest (placed names l.rest)) × (l.nest ≤ l.fn.room) × (length l.rest ≤ length l.fn.tokens)

abbrev pub decreases-entries-entries : goal.decreases-entries-entries
decreases-entries-entries l = length l.rest
