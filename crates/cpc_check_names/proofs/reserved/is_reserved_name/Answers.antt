use Rattle.cpc_check_names.proofs.Spelled.{absent_kept}
use Rattle.cpc_check_names.proofs.reserved.is_reserved_name.Goals as goal

pub returns-in-None : goal.returns-in-None
returns-in-None c = absent_kept c.args.dialect c.args.names.now _ c.in-None.ensures.text
