use Rattle.cpc_shapes.proofs.CodeParts.{code_at}
use Rattle.cpc_shapes.proofs.shapes.signature.Goals as goal

pub returns-in-Code : goal.returns-in-Code
returns-in-Code c = λ names. let e = code_at names c.args.of.now _ _ c.in-Code.is in simp (e, c.deref.ensures, c.deref-in-Code.ensures.value)
