use Rattle.cpc_printer.proofs.TypeRows.{params_none}
use Rattle.cpc_printer.proofs.types.parameters.Goals as goal
use Rattle.cpc_base.proofs.Lists.{no_length}

pub returns-in-None-clause-row : goal.returns-in-None-clause-row
returns-in-None-clause-row c =
    let e = no_length c.args.list.now c.in-None.ensures.cases in
    simp (e, params_none) c.word.ensures.row
