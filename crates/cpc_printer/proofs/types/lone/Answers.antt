use Rattle.cpc_printer.proofs.TypeRows.{lone_more}
use Rattle.cpc_printer.proofs.types.lone.Goals as goal

pub returns-else-is_empty : goal.returns-else-is_empty
returns-else-is_empty c = λ names. cc (lone_more names c.args.first.now c.args.rest.now cc)
