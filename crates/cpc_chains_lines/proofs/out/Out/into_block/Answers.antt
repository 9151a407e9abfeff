use Rattle.std.proofs.Common.{ap, ◌∙◌, Vec, Global}
use Rattle.cpc_tree.proofs.Clauses.{block_is}
use Rattle.cpc_tree.specs.Erase.{list_of}
use Rattle.cpc_tree.specs.Syntax as S
use Rattle.cpc_tree.specs.declared.program.Statement.{Statement}
use Rattle.cpc_chains_lines.proofs.Listed.{listed}
use Rattle.cpc_chains_lines.proofs.out.Out.into_block.Goals as goal

pub returns : goal.returns
returns c = λ to.
    block_is to c.args.place c.swap.new.y
    ∙ (ap (λ (v : Vec Statement Global). S.Block (list_of to v.items)) c.swap.ensures.y_after ∙ ap (λ l. S.Block l) (listed to c.args.self.statements.items))
