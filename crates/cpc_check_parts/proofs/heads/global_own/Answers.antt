use Rattle.std.proofs.Common.{[], ◌∷◌, ◌++◌, not, ap, ◌∙◌}
use Rattle.std.specs.Prelude.{option_map}
use Rattle.cpc_tree.specs.Erase.{type_of}
use Rattle.cpc_tree.specs.Locate.{ident, located_expr}
use Rattle.cpc_check_rules.specs.declared.rule.Rule.TheVariants.{Incomplete}
use Rattle.cpc_check_rules.specs.Rule.{at_if}
use Rattle.cpc_check_rules.specs.Scopes.{is_sized}
use Rattle.cpc_check_rules.specs.Noted.{noted, first_of}
use Rattle.cpc_check_rules.specs.FunctionRules.{reserved_breaks}
use Rattle.cpc_check_rules.specs.ItemRules as R
use Rattle.cpc_check_items.proofs.Notes.{in_turn}
use Rattle.cpc_check_parts.proofs.heads.global_own.Goals as goal

pub returns : goal.returns
returns c = λ names before s entered.
    let w = c.args.word in
    let d = c.args.ground.now.dialect in
    let t = type_of names c.args.of.now in
    let size = at_if (not (is_sized (R.outside d before).scope t)) w.place Incomplete in
    let start = R.global_start (R.outside d before) (ident names w) t (option_map (located_expr names) c.args.start.now) in
    in_turn _ _ _ (reserved_breaks d (ident names w ∷ [])) (size ++ start) (c.name_rules.ensures.spelled names s)
    (in_turn _ _ _ size start
    (c.note_if.ensures ∙ ap (λ b. noted (first_of c.name_rules.new.first) (at_if (not b) w.place Incomplete)) (c.is_sized-is_fine.ensures names s.apart ∙ ap (λ x. is_sized x t) entered))
    (c.in_ok-global_start.ensures names before s entered))
