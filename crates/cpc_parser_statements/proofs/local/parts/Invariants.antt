use Rattle.std.proofs.Common.{◌≡◌, ◌≤◌, ◌<◌, ◌++◌, List, length}
use Rattle.cpc_tree.specs.Erase.{Names}
use Rattle.cpc_parser_types.specs.Views.{placed}
use Rattle.cpc_parser_types.specs.TypeViews.{base_type}
use Rattle.cpc_parser_statements.specs.LocalReaders.{Local, locals_of}
use Rattle.cpc_parser_statements.specs.CodeViews.{seen, locals_at, more_locals_at}
use Rattle.cpc_parser_statements.proofs.local.parts.Given as goal

abbrev pub invariant-parts : goal.invariant-parts
invariant-parts l =
    ((names : Names) → (xs : List Local) × (seen names l.all.items ≡ seen names l.fn.before.items ++ locals_of l.place xs)
    × (locals_at (seen names l.fn.before.items) l.place (base_type names l.base) l.depth (placed names l.tokens) ≡ more_locals_at (seen names l.fn.before.items) l.place (base_type names l.base) l.depth xs l.nest (placed names l.rest)))
    × (1 ≤ l.nest) × (l.nest ≤ l.depth) × (length l.rest < length l.tokens)

abbrev pub decreases-parts : goal.decreases-parts
decreases-parts l = length l.rest
