use Rattle.std.proofs.Common.{ap, ◌∙◌}
use Rattle.cpc_tree.specs.Locate.{located_expr}
use Rattle.cpc_check_rules.specs.Noted.{noted, first_of}
use Rattle.cpc_types.specs.Found.{found_of}
use Rattle.cpc_types.specs.Scoped.{scope_of}
use Rattle.cpc_check_values.specs.Wants.{want_of}
use Rattle.cpc_check_values.proofs.Suiting.{suit_typed}
use Rattle.cpc_check_values.proofs.suits.suit_rules.Goals as goal

pub returns-in_ok-fits : goal.returns-in_ok-fits
returns-in_ok-fits c = λ names apart.
    c.note_if.ensures
    ∙ ap (noted (first_of c.args.first.now)) (suit_typed (scope_of names c.args.scope.now) (want_of names c.args.want) (located_expr names c.args.e.now) (found_of names c.args.found) _ c.in_ok-fits.fits _
    (c.is_typed.ensures names) c.if-is_typed.true (c.in_ok-fits.ensures names apart) (c.first_place.ensures names))
