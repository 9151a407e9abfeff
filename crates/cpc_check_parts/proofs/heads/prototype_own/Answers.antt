use Rattle.std.proofs.Common.{◌&&◌, not, [], ◌∷◌, ◌++◌, map, ap, ◌∙◌}
use Rattle.cpc_tree.specs.Erase.{type_of}
use Rattle.cpc_tree.specs.Locate.{ident, located_parameter}
use Rattle.cpc_check_rules.specs.declared.rule.Rule.TheVariants.{Disagree}
use Rattle.cpc_check_rules.specs.Rule.{at_if}
use Rattle.cpc_check_rules.specs.Noted.{noted, first_of}
use Rattle.cpc_check_rules.specs.FunctionRules as F
use Rattle.cpc_check_rules.specs.ItemRules as R
use Rattle.cpc_check_items.specs.Signatures.{types_of}
use Rattle.cpc_check_items.proofs.Notes.{in_turn}
use Rattle.cpc_check_parts.proofs.heads.prototype_own.Goals as goal

pub returns : goal.returns
returns c = λ names s.
    let w = c.args.word in
    let d = c.args.ground.now.dialect in
    let t = c.args.declared.now in
    let cps = R.cps_breaks d t.mode c.args.place in
    let host = at_if (R.is_extern t.mode && not (R.is_host_like (type_of names t.result.now) (types_of names t.parameters.now))) w.place Disagree in
    let parameters = R.parameters_breaks d (map (located_parameter names) t.parameters.now) in
    in_turn _ _ _ (F.reserved_breaks d (ident names w ∷ [])) (cps ++ (host ++ parameters)) (c.name_rules.ensures.spelled names s)
    (in_turn _ _ _ cps (host ++ parameters) c.cps_rules.ensures
    (in_turn _ _ _ host parameters (c.note_if.ensures ∙ ap (λ x. noted (first_of c.cps_rules.new.first) (at_if x w.place Disagree)) (c.is_unlike_host-is_broken.ensures names))
    (c.in_ok-parameter_rules.ensures names s)))
