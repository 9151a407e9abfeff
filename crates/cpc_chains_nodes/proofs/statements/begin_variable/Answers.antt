use Rattle.std.proofs.Common.{◌∙◌, ap}
use Rattle.cpc_tree.specs.Erase.{expr_of}
use Rattle.cpc_tree.specs.Syntax as S
use Rattle.cpc_convert_image_laws.specs.Images as I
use Rattle.cpc_convert_routines.specs.Routines.{is_plain}
use Rattle.cpc_chains_lines.specs.Written.{written}
use Rattle.cpc_chains_nodes.proofs.Read.{assign_put}
use Rattle.cpc_chains_nodes.proofs.statements.begin_variable.Goals as goal

pub returns : goal.returns
returns c = λ source from to p r st name start.
    assign_put (written to c.args.out.now) _ _ _ _ _ _ (c.in_ok-assign.ensures to)
    (c.in_ok-target.ensures from to (is_plain r) (c.readings.ensures.read source from to p r st) (ap S.ENamed name) ∙ ap (λ (n : I.Readings). I.image n (S.ENamed (from c.args.word.name))) (c.readings.ensures.are from r))
    (c.in_ok-value.ensures from to (is_plain r) (c.readings-2.ensures.read source from to p r st) start ∙ ap (λ (n : I.Readings). I.image n (expr_of from c.args.start.now)) (c.readings-2.ensures.are from r))
