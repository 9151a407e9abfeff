use Rattle.std.proofs.Common.{◌∙◌}
use Rattle.std.proofs.lemmas.Result.{IfOk-weaker}
use Rattle.cpc_types.specs.Found.{found_of}
use Rattle.cpc_types.specs.Scoped.{scope_of}
use Rattle.cpc_shapes.proofs.FormParts.{index_used}
use Rattle.cpc_types.proofs.forms.index_form.Goals as goal

pub returns : goal.returns
returns c = IfOk-weaker c.element.result _ _ (λ form h names apart. h names apart ∙ index_used (scope_of names c.args.scope.now).items (found_of names c.args.operand) (found_of names c.args.index) _ _ (c.used-t.ensures names) (c.used-u.ensures names)) c.element.ensures
