use Rattle.std.proofs.Common.{false, ◌&&◌, not, map, ap, ◌∙◌}
use Rattle.cpc_tree.specs.Erase.{type_of, item_of}
use Rattle.cpc_tree.specs.Locate.{ident}
use Rattle.cpc_check_rules.specs.declared.rule.Rule.TheVariants.{Undeclared}
use Rattle.cpc_check_rules.specs.Rule.{at_if}
use Rattle.cpc_check_rules.specs.Noted.{noted, first_of}
use Rattle.cpc_check_rules.specs.ItemRules as R
use Rattle.cpc_types.specs.Scoped.{all_items}
use Rattle.cpc_check_items.specs.Signatures.{types_of}
use Rattle.cpc_check_items.proofs.Notes.{in_turn}
use Rattle.cpc_check_parts.proofs.beside.prototype_beside.Goals as goal

pub returns : goal.returns
returns c = λ names apart before e.
    let w = c.args.word in
    let t = c.args.declared.now in
    let as' : _ → R.Signature = λ b. record { mode = t.mode; result = type_of names t.result.now; parameters = types_of names t.parameters.now; is_defined = b } in
    let declared = R.declared_breaks before (ident names w) (as' false) in
    let body = at_if (not (R.is_extern t.mode) && not (R.is_function (names w.name) (map (item_of names) (all_items c.args.scope.now)))) w.place Undeclared in
    in_turn _ _ _ declared body (c.declared_rules.ensures names apart before e ∙ ap (λ b. noted (first_of c.args.first.now) (R.declared_breaks before (ident names w) (as' b))) c.requires)
    (c.note_if.ensures ∙ ap (λ x. noted (first_of c.declared_rules.new.first) (at_if x w.place Undeclared)) (c.lacks_body-is_broken.ensures names apart))
