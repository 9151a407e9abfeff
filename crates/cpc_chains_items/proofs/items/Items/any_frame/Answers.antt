use Rattle.std.proofs.Common.{◌∙◌, [], ◌∷◌, ◌++◌, map, ap}
use Rattle.std.proofs.lemmas.Result.{on_ok_weaker}
use Rattle.cpc_tree.specs.Erase.{field_of}
use Rattle.cpc_tree.specs.Syntax.{StructItem}
use Rattle.cpc_chains_store_laws.specs.Driver.{frame_tag}
use Rattle.cpc_chains_items.specs.Listed.{listed}
use Rattle.cpc_chains_items.proofs.items.Items.any_frame.Goals as goal

pub returns : goal.returns
returns c = on_ok_weaker c.add_struct.result (λ h source to b.
    h to ∙ (ap (λ u. listed to c.args.self.now ++ StructItem u (map (field_of to) c.in_ok-fields.fields.items) ∷ []) b.own.any_frame
    ∙ ap (λ fs. listed to c.args.self.now ++ StructItem frame_tag fs ∷ []) (c.in_ok-fields.ensures source to b))) c.add_struct.ensures
