use Rattle.std.proofs.Common.{◌∙◌, sym, ap}
use Rattle.cpc_base.proofs.Lists.{found_within}
use Rattle.cpc_tree.specs.Syntax as S
use Rattle.cpc_convert_routines.specs.Names.{variable_name}
use Rattle.cpc_convert_names.specs.Called.{variables_in}
use Rattle.cpc_chains_lines.proofs.Standing.{variable_at}
use Rattle.cpc_chains_lines.proofs.around.local.Goals as goal

pub returns : goal.returns
returns c = λ source from to p r st lt.
    let w = found_within (variables_in c.args.around.called.now.lifted.now) c.args.number lt in
    c.local.ensures to w.0 st.called w.1 ∙ ap (λ (x : S.Variable). variable_name c.args.number x.called) (sym (variable_at source from to p r c.args.around st c.args.number w.0 w.1))
