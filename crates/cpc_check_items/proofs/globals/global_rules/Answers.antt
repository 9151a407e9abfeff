use Rattle.std.proofs.Common.{[], ◌∷◌, ◌++◌, not, ap, ◌∙◌}
use Rattle.cpc_tree.specs.Erase.{type_of}
use Rattle.cpc_tree.specs.Locate.{ident}
use Rattle.cpc_check_rules.specs.declared.rule.Rule.TheVariants.{Twice, Incomplete}
use Rattle.cpc_check_rules.specs.Rule.{at_if}
use Rattle.cpc_check_rules.specs.Scopes.{is_sized}
use Rattle.cpc_check_rules.specs.Noted.{noted, first_of}
use Rattle.cpc_check_rules.specs.FunctionRules.{reserved_breaks}
use Rattle.cpc_check_rules.specs.ItemRules as R
use Rattle.cpc_types.specs.Scoped.{scope_of}
use Rattle.cpc_check_items.proofs.Notes.{in_turn}
use Rattle.cpc_check_items.proofs.globals.global_rules.Goals as goal

pub returns : goal.returns
returns c = λ names s e.
    let w = c.args.word in
    let p = (scope_of names c.args.scope.now).items in
    let d = c.args.dialect in
    let twice = at_if (R.is_item (names w.name) p) w.place Twice in
    let size = at_if (not (is_sized (R.outside d p).scope (type_of names c.args.of.now))) w.place Incomplete in
    in_turn _ _ _ (reserved_breaks d (ident names w ∷ [])) (twice ++ size) (c.name_rules.ensures.spelled names s)
    (in_turn _ _ _ twice size
    (c.taken_rules.ensures names p e)
    (c.note_if.ensures ∙ ap (λ b. noted (first_of c.taken_rules.new.first) (at_if (not b) w.place Incomplete)) (c.is_sized-is_fine.ensures names s.apart)))
