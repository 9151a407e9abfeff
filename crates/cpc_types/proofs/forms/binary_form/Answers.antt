use Rattle.std.proofs.Common.{◌∙◌}
use Rattle.std.proofs.lemmas.Result.{IfOk-weaker}
use Rattle.cpc_types.specs.Found.{found_of}
use Rattle.cpc_types.specs.Scoped.{scope_of}
use Rattle.cpc_shapes.proofs.FormParts.{binary_used}
use Rattle.cpc_types.proofs.forms.binary_form.Goals as goal

pub returns : goal.returns
returns c = IfOk-weaker c.operated.result _ _ (λ form h names apart. h names apart ∙ binary_used (scope_of names c.args.scope.now).items c.args.op c.args.nulls.0 c.args.nulls.1 (found_of names c.args.left) (found_of names c.args.right) _ _ (c.used-t.ensures names) (c.used-u.ensures names)) c.operated.ensures
