use Rattle.std.proofs.Common.{[], ◌∷◌, ◌++◌, map, ap, ◌∙◌}
use Rattle.cpc_tree.specs.Locate.{ident, located_function, located_parameter}
use Rattle.cpc_check_rules.specs.Noted.{noted, first_of}
use Rattle.cpc_check_rules.specs.FunctionRules as F
use Rattle.cpc_check_rules.specs.ItemRules as R
use Rattle.cpc_types.specs.Scoped.{scope_of}
use Rattle.cpc_check_items.proofs.Notes.{in_turn, sized_alone}
use Rattle.cpc_check_parts.proofs.heads.head_own.Goals as goal

pub returns : goal.returns
returns c = λ names s.
    let f = located_function names c.args.function.now in
    let p = (scope_of names c.args.scope.now).items in
    let d = c.args.ground.now.dialect in
    let cps = R.cps_breaks d f.mode f.place in
    let parameters = R.parameters_breaks d f.parameters in
    let sizes = R.sized_breaks (R.outside d p).scope f.parameters in
    in_turn _ _ _ (F.reserved_breaks d (ident names c.args.function.now.word ∷ [])) (cps ++ (parameters ++ sizes)) (c.name_rules.ensures.spelled names s)
    (in_turn _ _ _ cps (parameters ++ sizes) c.cps_rules.ensures
    (in_turn _ _ _ parameters sizes
    (c.in_ok-parameter_rules.ensures names s ∙ ap (λ l. noted (first_of c.cps_rules.new.first) (R.parameters_breaks d (map (located_parameter names) l))) c.deref.ensures.value)
    (c.size_rules.ensures names s.apart ∙ ap (λ l. noted (first_of c.parameter_rules.new.first) (R.sized_breaks (scope_of names c.args.scope.now) (map (located_parameter names) l))) c.deref-2.ensures.value
    ∙ ap (noted (first_of c.parameter_rules.new.first)) (sized_alone (scope_of names c.args.scope.now) f.parameters))))
