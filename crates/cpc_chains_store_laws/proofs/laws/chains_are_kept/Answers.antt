use Rattle.cpc_chains_store_laws.proofs.Chains.{chain_alloc, chain_set, chain_push, chain_closed, chain_taken, chain_patched}
use Rattle.cpc_chains_store_laws.proofs.AllChains.{chains_alloc, chains_set}
use Rattle.cpc_convert_flat_laws.proofs.Owned.{owns_alloc, owns_free, owns_set, owns_order, owns_apart}
use Rattle.cpc_chains_store_laws.proofs.laws.chains_are_kept.Goals as goal

pub returns : goal.returns
returns c = record {
  one = record { made = chain_alloc; changed = chain_set; put = chain_push; closed = chain_closed; taken = chain_taken; patched = chain_patched };
  all = record { made = chains_alloc; changed = chains_set };
  live = record { made = owns_alloc; freed = owns_free; written = owns_set; reordered = owns_order; apart = owns_apart };
}
