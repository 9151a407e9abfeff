use Rattle.std.proofs.Common.{ℕ, false, [], ◌∷◌, ◌++◌, map, List, sym, subst}
use Rattle.std.proofs.lemmas.List.{length-map}
use Rattle.cpc_tree.specs.Erase.{Names, function_of, parameter_of}
use Rattle.cpc_tree.specs.Registers.{as_variable, parameter_scope, outer_scope}
use Rattle.cpc_tree.specs.declared.program.Parameter.{Parameter}
use Rattle.cpc_check_rules.specs.Apart.{Spells}
use Rattle.cpc_eval_index.specs.Indexed.{items_of}
use Rattle.cpc_eval_variables.specs.Told.{IsTold}
use Rattle.cpc_box.specs.Outline.{outline, the_end}
use Rattle.cpc_box.specs.Walked.{AreSeen, Came}
use Rattle.cpc_box.proofs.Finished.{Finished, finished, stands_first}
use Rattle.cpc_box.proofs.boxing.walked.Goals as goal

whole : (c : goal.In_ok-push_end) (names : Names) → Spells c.args.known.around.texts.now names → IsTold names c.args.function.now.parameters.items
    → Finished names c.args.known.kept.now (items_of names c.args.known.around.index.now) (function_of names c.args.function.now) c.push_end.new.self
whole c names spells told =
    let ms = c.args.known.kept.now in
    let p = items_of names c.args.known.around.index.now in
    let f = function_of names c.args.function.now in
    let a = c.new-walk.result in
    let b = c.parameters.new.self in
    let P : List Parameter → Type 0 = λ ps. Came names ms a b (map as_variable (map (parameter_of names) ps)) [] c.in_ok-scope.scope (parameter_scope 0 (map (parameter_of names) ps) []) in
    let T : List Parameter → Type 0 = IsTold names in
    let came : Came names ms a b (map as_variable f.parameters) [] c.in_ok-scope.scope (outer_scope f) = subst P c.deref.ensures.value (c.in_ok-scope.ensures names (subst T (sym c.deref.ensures.value) told)) in
    let stands = stands_first names ms c.args.known.around.texts.now a b (map as_variable f.parameters) c.in_ok-scope.scope (outer_scope f) c.new-walk.ensures.variables spells came in
    finished names ms p f a b c.inside.new.self c.push_end.new.self c.in_ok-scope.scope c.new-walk.ensures.variables c.new-walk.ensures.points came (c.in_ok-inside.ensures names (outer_scope f) stands) (c.in_ok-push_end.ensures names ms)

pub returns-clause-variables : goal.returns-clause-variables
returns-clause-variables c = λ names spells told. (whole c names spells told).variables

pub returns-clause-named : goal.returns-clause-named
returns-clause-named c = λ names spells told. (whole c names spells told).named

pub returns-clause-points : goal.returns-clause-points
returns-clause-points c = λ names spells told.
    let f = function_of names c.args.function.now in
    let w = c.push_end.new.self in
    let P : ℕ → Type 0 = λ k. AreSeen names w.variables.items w.points.items (outline (items_of names c.args.known.around.index.now) false (outer_scope f) k f.body ++ the_end ∷ []) in
    subst P (length-map c.args.function.now.parameters.items (parameter_of names)) (whole c names spells told).points
