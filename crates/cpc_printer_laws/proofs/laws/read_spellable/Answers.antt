use Rattle.cpc_printer_laws.proofs.FitPrograms.{read_spellable}
use Rattle.cpc_printer_laws.proofs.laws.read_spellable.Goals as goal

pub returns : goal.returns
returns c = read_spellable
