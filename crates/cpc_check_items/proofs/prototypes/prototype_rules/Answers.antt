use Rattle.std.proofs.Common.{false, ◌&&◌, not, [], ◌∷◌, ◌++◌, map, ap, ◌∙◌}
use Rattle.cpc_tree.specs.Erase.{type_of, item_of}
use Rattle.cpc_tree.specs.Locate.{ident, located_parameter}
use Rattle.cpc_check_rules.specs.declared.rule.Rule.TheVariants.{Undeclared, Disagree}
use Rattle.cpc_check_rules.specs.Rule.{at_if}
use Rattle.cpc_check_rules.specs.Noted.{noted, first_of}
use Rattle.cpc_check_rules.specs.FunctionRules as F
use Rattle.cpc_check_rules.specs.ItemRules as R
use Rattle.cpc_types.specs.Scoped.{all_items}
use Rattle.cpc_check_items.specs.Signatures.{types_of}
use Rattle.cpc_check_items.proofs.Notes.{in_turn}
use Rattle.cpc_check_items.proofs.prototypes.prototype_rules.Goals as goal

pub returns : goal.returns
returns c = λ names s before e.
    let program = map (item_of names) (all_items c.args.known.0.now) in
    let w = c.args.word in
    let q = w.place in
    let d = c.args.dialect in
    let t = c.args.declared.now in
    let r = type_of names t.result.now in
    let ts = types_of names t.parameters.now in
    let cps = R.cps_breaks d t.mode c.args.place in
    let declared = R.declared_breaks before (ident names w) (record { mode = t.mode; result = r; parameters = ts; is_defined = false }) in
    let host = at_if (R.is_extern t.mode && not (R.is_host_like r ts)) q Disagree in
    let body = at_if (not (R.is_extern t.mode) && not (R.is_function (names w.name) program)) q Undeclared in
    let parameters = R.parameters_breaks d (map (located_parameter names) t.parameters.now) in
    in_turn _ _ _ (F.reserved_breaks d (ident names w ∷ [])) (cps ++ (declared ++ (host ++ (body ++ parameters)))) (c.name_rules.ensures.spelled names s)
    (in_turn _ _ _ cps (declared ++ (host ++ (body ++ parameters))) c.cps_rules.ensures
    (in_turn _ _ _ declared (host ++ (body ++ parameters)) (c.declared_rules.ensures names s.apart before e)
    (in_turn _ _ _ host (body ++ parameters) (c.note_if.ensures ∙ ap (λ x. noted (first_of c.declared_rules.new.first) (at_if x q Disagree)) (c.is_unlike_host-is_broken.ensures names))
    (in_turn _ _ _ body parameters (c.note_if-2.ensures ∙ ap (λ x. noted (first_of c.note_if.new.self) (at_if x q Undeclared)) (c.lacks_body-is_broken.ensures names s.apart))
    (c.in_ok-parameter_rules.ensures names s)))))
