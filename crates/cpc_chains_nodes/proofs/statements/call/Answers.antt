use Rattle.std.proofs.Common.{◌∙◌, ap, option_map}
use Rattle.cpc_tree.specs.Erase.{expr_of, exprs_of}
use Rattle.cpc_convert_image_laws.specs.Images as I
use Rattle.cpc_convert_routines.specs.Routines.{is_plain}
use Rattle.cpc_chains_lines.specs.Written.{written}
use Rattle.cpc_chains_nodes.proofs.Read.{call_put}
use Rattle.cpc_chains_nodes.proofs.statements.call.Goals as goal

pub returns : goal.returns
returns c = λ source from to p r st target function arguments.
    call_put (written to c.args.out.now) _ _ _ _ _ _ _ (c.in_ok-call_by.ensures to)
    (c.in_ok-target.ensures from to (is_plain r) (c.readings.ensures.read source from to p r st) target ∙ ap (λ (n : I.Readings). I.image_if n (option_map (expr_of from) c.args.target.now)) (c.readings.ensures.are from r))
    (c.in_ok-function.ensures from to (is_plain r) (c.readings-2.ensures.read source from to p r st) function ∙ ap (λ (n : I.Readings). I.image n (expr_of from c.args.function.now)) (c.readings-2.ensures.are from r))
    (c.in_ok-arguments.ensures from to (is_plain r) (c.readings-3.ensures.read source from to p r st) arguments ∙ ap (λ (n : I.Readings). I.images n (exprs_of from c.args.arguments.now)) (c.readings-3.ensures.are from r))
