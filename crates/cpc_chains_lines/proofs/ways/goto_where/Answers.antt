use Rattle.std.proofs.Common.{◌∙◌, ap}
use Rattle.cpc_base.specs.Bytes.{Text}
use Rattle.cpc_tree.specs.Erase.{expr_of}
use Rattle.cpc_tree.specs.Syntax as S
use Rattle.cpc_chains_lines.specs.Written.{written, put}
use Rattle.cpc_chains_lines.proofs.ways.goto_where.Goals as goal

pub returns : goal.returns
returns c = λ source from to p r st n.
    c.in_ok-goto_if.ensures to ∙ ap (λ (l : Text). put (written to c.args.out.now) (S.If (expr_of to c.args.test) (S.Goto l) S.Absent)) (c.label.ensures source from to p r st n)
