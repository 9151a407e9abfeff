use Rattle.std.proofs.Common.{◌∙◌, [], ◌∷◌, ◌++◌, map, ap}
use Rattle.std.proofs.lemmas.List.{map-append}
use Rattle.cpc_tree.specs.Erase.{field_of, type_of}
use Rattle.cpc_chains_event.specs.Pieces.{called_so}
use Rattle.cpc_convert_routines.specs.Routines.{local_of}
use Rattle.cpc_chains_items.proofs.structs.keep_one.Goals as goal

pub returns : goal.returns
returns c = λ source from to p r s var.
    let old = map (field_of to) c.args.fields.now.items in
    let named = c.local.ensures source from to p r s var in
    let typed = c.in_ok-of.ensures source from to p r s var in
    ap (map (field_of to)) c.in_ok-push.ensures.items ∙ (map-append (field_of to) c.args.fields.now.items (c.field.result ∷ [])
    ∙ ap (λ v. old ++ v ∷ []) (c.field.ensures to ∙ (ap (λ u. called_so u (type_of to c.in_ok-of.of)) named ∙ ap (called_so (local_of r c.args.number).called) typed)))
