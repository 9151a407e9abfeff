use Rattle.cpc_convert_flat_laws.proofs.Owned.{owns_put, owns_taken, owns_alone}
use Rattle.cpc_convert_flat_laws.proofs.laws.one_among_others.Goals as goal

pub returns : goal.returns
returns c = record { law = record { put = owns_put; taken = owns_taken; alone = owns_alone } }
