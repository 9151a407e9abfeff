-- The chains of all items: what acts on frame blocks do to them.
use Rattle.std.proofs.Common.{◌≡◌, ℕ, ◌+◌, List, [], ◌∷◌, ◌++◌, slice_set, Option, arith}
use Rattle.cpc_store.specs.Store.{Value, Blocks}
use Rattle.cpc_chains_store_laws.specs.Chains.{Saved, Chains, NoChains, AndChains}
use Rattle.cpc_convert_flat_laws.specs.Blocks.{count}
use Rattle.cpc_convert_flat_laws.proofs.Blocks.{count_append}
use Rattle.cpc_chains_store_laws.proofs.Chains.{chain_alloc, chain_set}

-- ---- the chains of items

pub chains_alloc : (bs : Blocks) (x : Option (List Value)) (stacks : List (List Saved)) (ps : List Value) (owned : List ℕ) → Chains bs stacks ps owned → Chains (bs ++ x ∷ []) stacks ps owned
chains_alloc bs x _ _ _ NoChains = NoChains
chains_alloc bs x _ _ _ (AndChains fs p owned stacks ps others h r) = AndChains fs p owned stacks ps others (chain_alloc bs x fs p owned h) (chains_alloc bs x stacks ps others r)

pub chains_set : (bs : Blocks) (c : ℕ) (x : Option (List Value)) (stacks : List (List Saved)) (ps : List Value) (owned : List ℕ) → count c owned ≡ 0 → Chains bs stacks ps owned → Chains (slice_set bs c x) stacks ps owned
chains_set bs c x _ _ _ a NoChains = NoChains
chains_set bs c x _ _ _ a (AndChains fs p owned stacks ps others h r) =
    let e = count_append c owned others in
    AndChains fs p owned stacks ps others (chain_set bs c x fs p owned (omega (arith, a, e)) h) (chains_set bs c x stacks ps others (omega (arith, a, e)) r)
