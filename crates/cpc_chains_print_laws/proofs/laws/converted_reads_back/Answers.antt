use Rattle.cpc_chains_print_laws.proofs.Back.{converted_reads_back}
use Rattle.cpc_chains_print_laws.proofs.laws.converted_reads_back.Goals as goal

pub returns : goal.returns
returns c = record { law = converted_reads_back }
