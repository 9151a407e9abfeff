use Rattle.std.proofs.Common.{◌∙◌, [], ◌∷◌, map, ap}
use Rattle.std.proofs.lemmas.List.{map-append}
use Rattle.cpc_tree.specs.Erase.{item_of}
use Rattle.cpc_chains_items.proofs.items.Items.add.Goals as goal

pub returns : goal.returns
returns c = λ to. ap (map (item_of to)) c.in_ok-push.ensures.items ∙ map-append (item_of to) c.args.self.now.items.items (c.args.item ∷ [])
