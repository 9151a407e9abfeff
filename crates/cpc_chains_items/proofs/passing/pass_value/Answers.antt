use Rattle.std.proofs.Common.{◌∙◌, [], ◌∷◌, ◌++◌, map, option_map, sym, ap}
use Rattle.std.proofs.lemmas.List.{map-append}
use Rattle.std.proofs.lemmas.Option.{slice_get_within}
use Rattle.cpc_tree.specs.Erase.{field_of, type_of}
use Rattle.cpc_tree.specs.Syntax.{Variable}
use Rattle.cpc_chains_event.specs.Pieces.{called_so}
use Rattle.cpc_convert_routines.specs.Names.{variable_name}
use Rattle.cpc_chains_lines.specs.Known.{plain_seen}
use Rattle.cpc_convert_names.specs.Called.{variables_in}
use Rattle.cpc_chains_items.specs.Passed.{passed_always}
use Rattle.cpc_chains_items.proofs.Standing.{there, variable_is}
use Rattle.cpc_chains_items.proofs.passing.pass_value.Goals as goal

pub returns : goal.returns
returns c = λ source from to p r s at.
    let k = c.args.number in
    let v = c.args.variable.now in
    let old = map (field_of to) c.args.fields.now.items in
    let named = c.local.ensures source from to p r s (slice_get_within (variables_in c.args.around.called.now.lifted.now) k v at) ∙ ap (λ (x : Variable). variable_name k x.called) (variable_is source from to p r c.args.around s k v at) in
    ap (map (field_of to)) c.in_ok-push.ensures.items ∙ (map-append (field_of to) c.args.fields.now.items (c.field.result ∷ [])
    ∙ (ap (λ x. old ++ x ∷ []) (c.field.ensures to ∙ (ap (λ u. called_so u (type_of to c.in_ok-of.of)) named ∙ ap (called_so (variable_name k (plain_seen to v).called)) (c.in_ok-of.ensures to)))
    ∙ ap (λ o. old ++ passed_always k o) (sym (there source from to p r c.args.around s k ∙ ap (option_map (plain_seen to)) at))))
