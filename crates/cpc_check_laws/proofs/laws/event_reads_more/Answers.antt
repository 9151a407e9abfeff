use Rattle.cpc_check_laws.proofs.Native.Widened.{parses_same}
use Rattle.cpc_check_laws.proofs.laws.event_reads_more.Goals as goal

pub returns : goal.returns
returns c = record { law = parses_same }
