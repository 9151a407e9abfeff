use Rattle.cpc_convert_flat_laws.proofs.InPlace.{line_enters, line_arrives, line_asks, line_replied, test_faults}
use Rattle.cpc_convert_flat_laws.proofs.laws.lines_act_in_place.Goals as goal

pub returns : goal.returns
returns c = record { law = λ q w fn g body below is_g k scope n rest slots s. record { enters = line_enters q w fn g body below is_g k scope n rest slots s; arrives = line_arrives q w fn g body below is_g k scope n rest slots s; asks = line_asks q w fn g body below is_g k scope n rest slots s; answers = line_replied q w fn g body below is_g k scope n rest slots s; faults = test_faults q w fn g body below is_g k scope n rest slots s } }
