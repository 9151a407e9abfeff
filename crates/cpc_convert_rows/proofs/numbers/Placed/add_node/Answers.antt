use Rattle.std.proofs.Common.{◌∙◌, ◌++◌, ◌∷◌, [], ap}
use Rattle.std.proofs.lemmas.Result.{on_ok_weaker}
use Rattle.cpc_chains_event.specs.Rows.{stub_behind}
use Rattle.cpc_convert_rows.specs.declared.steps.Step.{Step}
use Rattle.cpc_convert_rows.proofs.numbers.Placed.add_node.Goals as goal

pub returns-clause-all : goal.returns-clause-all
returns-clause-all c = on_ok_weaker c.add_some.result (λ h r stubs is m long below marks.
    h stubs m (c.in_ok-add.ensures.long ∙ long) below (c.in_ok-add.ensures.marks marks)
    ∙ (ap (λ xs. xs ++ stub_behind stubs xs c.step.result.falls) c.in_ok-add.ensures.all
    ∙ ap (λ o. (c.args.self.now.all.items ++ c.args.node ∷ []) ++ stub_behind stubs (c.args.self.now.all.items ++ c.args.node ∷ []) o) (ap (λ (s : Step). s.falls) (c.step.ensures r is)))) c.add_some.ensures.all
