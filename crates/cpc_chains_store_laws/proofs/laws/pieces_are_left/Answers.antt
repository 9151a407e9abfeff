use Rattle.cpc_chains_store_laws.proofs.Returns.{goes_below, ends_thread, value_below, value_ends}
use Rattle.cpc_chains_store_laws.proofs.laws.pieces_are_left.Goals as goal

pub returns : goal.returns
returns c = record { law = λ q facts w fn g body is_g gives_pointer p0 r0 k0 k scope n rest slots s all next. record { goes = goes_below q facts w fn g body is_g gives_pointer p0 r0 k0 k scope n rest slots s all next; ends = ends_thread q facts w fn g body is_g gives_pointer p0 r0 k0 k scope n rest slots s all next; gives = λ tag e l. value_below q facts w fn g body is_g gives_pointer p0 r0 k0 k scope n rest slots s all next e l tag; gives_none = λ e. value_ends q facts w fn g body is_g gives_pointer p0 r0 k0 k scope n rest slots s all next e } }
