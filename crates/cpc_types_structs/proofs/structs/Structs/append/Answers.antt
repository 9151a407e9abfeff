use Rattle.std.proofs.Common.{◌∙◌, ◌++◌, ◌∷◌, [], ap, map}
use Rattle.cpc_tree.specs.Erase.{item_of}
use Rattle.cpc_types_structs.specs.declared.structs.Structs.{Structs}
use Rattle.cpc_types_structs.proofs.Entering.{appended, tags_even}
use Rattle.cpc_types_structs.proofs.Known.{all_known}
use Rattle.cpc_types_structs.proofs.structs.Structs.append.Goals as goal

pub returns-clause-structs : goal.returns-clause-structs
returns-clause-structs c = λ xs d.
    let old = c.args.self.now in
    let new : Structs = record { tags = c.push.new.self; sizes = c.push-2.new.self } in
    appended xs c.args.item.now old new c.declared_size-size.result d c.in_ok-push.ensures.index
    (c.in_ok-push.ensures.names ∙ ap (λ k. old.tags.names.items ++ k ∷ []) c.tag_of.ensures)
    c.in_ok-push-2.ensures.items
    (λ names apart. c.declared_size-size.ensures names (map (item_of names) xs) (all_known names apart xs old record { structs = d; all = c.requires.all ∙ tags_even xs old d }))
