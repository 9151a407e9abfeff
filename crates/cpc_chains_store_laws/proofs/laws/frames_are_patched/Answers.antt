use Rattle.cpc_chains_store_laws.proofs.Patches.{patch_none, patch_frame}
use Rattle.cpc_chains_store_laws.proofs.laws.frames_are_patched.Goals as goal

pub returns : goal.returns
returns c = record { law = record { none = patch_none; one = patch_frame } }
