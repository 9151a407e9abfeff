use Rattle.std.proofs.Common.{List, ◌∷◌, [], ◌+◌, drop, map, arith}
use Rattle.cpc_tree.specs.declared.program.Parameter.{Parameter}
use Rattle.cpc_tree.specs.Locate.{located_parameter}
use Rattle.cpc_check_rules.specs.ItemRules as R
use Rattle.cpc_types.specs.Scoped.{scope_of}
use Rattle.cpc_check_items.proofs.Notes.{row_step, sized_first}
use Rattle.cpc_check_items.proofs.parameters.size_rules.Goals as goal

pub loop-parameter-preserved : goal.loop-parameter-preserved
loop-parameter-preserved c = λ names apart.
    let s = scope_of names c.args.scope.now in
    let xs = c.args.parameters.now in
    let i = c.loop-parameter.parameter-index in
    let x : Parameter = c.parameter-item.result in
    row_step Parameter (λ (l : List Parameter). R.sized_breaks s (map (located_parameter names) l)) (R.sized_breaks s (located_parameter names x ∷ [])) xs i x _ _ _ (omega arith) c.parameter-item.is
    (c.size_rule.ensures names apart) (sized_first s (located_parameter names x) (map (located_parameter names) (drop (i + 1) xs))) (c.loop-parameter.invariant names apart)
