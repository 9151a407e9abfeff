use Rattle.std.specs.Prelude.{nat_eq}
use Rattle.std.specs.HashMap as hash
use Rattle.cpc_store.proofs.BlockLemmas.{made_is}
use Rattle.cpc_store.proofs.blocks.Blocks.made.Goals as goal

pub returns : goal.returns
returns c = made_is c.self.inside.made (hash.get nat_eq c.self.inside.live) c.args.self.now c.self.view_is
