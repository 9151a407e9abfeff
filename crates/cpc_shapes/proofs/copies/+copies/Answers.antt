use Rattle.std.proofs.Common.{◌∙◌, arith}
use Rattle.std.proofs.lemmas.Grind.{common_steps}
use Rattle.cpc_shapes.proofs.CodeParts.{code_at, code_is}
use Rattle.cpc_shapes.proofs.copies.+copies.Goals as goal

pub copy_of-returns-in_ok-new-in-Code : goal.copy_of-returns-in_ok-new-in-Code
copy_of-returns-in_ok-new-in-Code t c = λ names.
    let e = code_at names c.args.of.now _ _ c.in-Code.is in
    let g = c.in_ok-given-in-Code.ensures names in
    let h = c.in_ok-parameters-in-Code.ensures names in
    code_is names c.in_ok-new-in-Code.field-0 c.in_ok-parameters-in-Code.parameters ∙ grind (arith, common_steps, e, g, h)
