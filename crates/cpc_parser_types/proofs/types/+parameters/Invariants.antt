use Rattle.std.proofs.Common.{◌≡◌, ◌+◌, ◌*◌, ◌≤◌, ◌<◌, List, false, length, map}
use Rattle.cpc_tree.specs.Erase.{Names}
use Rattle.cpc_tree.specs.Locate.{located_parameter}
use Rattle.cpc_parser_reading.specs.Chain.{links}
use Rattle.cpc_parser_reading.specs.Lists.{separated, several}
use Rattle.cpc_parser_reading.specs.Reading.{after}
use Rattle.cpc_parser_types.specs.TypeReaders.{Piece, is_comma, lists, param_at, param_of}
use Rattle.cpc_parser_types.specs.Views.{placed}
use Rattle.cpc_parser_types.proofs.types.+parameters.Given as goal

abbrev pub decreases-code : goal.decreases-code
decreases-code l = 4 * length l.tokens.now

abbrev pub decreases-parameter : goal.decreases-parameter
decreases-parameter l = 4 * length l.tokens.now

abbrev pub decreases-row : goal.decreases-row
decreases-row l = 4 * length l.tokens.now + 1

abbrev pub decreases-parameters : goal.decreases-parameters
decreases-parameters l = 4 * length l.tokens.now + 2

abbrev pub invariant-row-more : goal.invariant-row-more
invariant-row-more l =
    ((names : Names) → (ps : List Piece)
    × (map param_of ps ≡ map (located_parameter names) l.all.items)
    × (links (several (λ t. is_comma t.lexeme) false (after (λ t. is_comma t.lexeme) (param_at (λ us. lists l.fn.depth us) l.fn.depth))) ps l.nest (placed names l.rest)
    ≡ separated (λ t. is_comma t.lexeme) (param_at (λ us. lists l.fn.depth us) l.fn.depth) (placed names l.fn.tokens)))
    × (l.nest ≤ l.fn.depth)
    × (length l.rest < length l.fn.tokens)

abbrev pub decreases-row-more : goal.decreases-row-more
decreases-row-more l = length l.rest
