use Rattle.std.proofs.Common.{◌≡◌, ◌∙◌, [], ◌∷◌, ◌++◌, List, map, option_map, sym, ap}
use Rattle.std.proofs.lemmas.Option.{slice_get_within}
use Rattle.std.proofs.lemmas.Result.{on_ok_weaker}
use Rattle.cpc_tree.specs.declared.program.Field as GField
use Rattle.cpc_tree.specs.Erase.{field_of, type_of, text_of}
use Rattle.cpc_tree.specs.Registers.{or_empty}
use Rattle.cpc_tree.specs.Syntax.{StructItem}
use Rattle.cpc_chains_event.specs.Frames.{box_of}
use Rattle.cpc_convert_routines.specs.Names.{box_tag}
use Rattle.cpc_chains_event.specs.Pieces.{called_so}
use Rattle.cpc_convert_routines.specs.Routines.{variable_of}
use Rattle.cpc_forms_code.specs.Lifts.{unless}
use Rattle.cpc_convert_names.specs.Called.{variables_in}
use Rattle.cpc_chains_items.specs.Listed.{listed}
use Rattle.cpc_chains_items.proofs.Standing.{variable_is}
use Rattle.cpc_chains_items.proofs.items.Items.box_struct.Goals as goal

pub returns-in_ok-push-in-Some : goal.returns-in_ok-push-in-Some
returns-in_ok-push-in-Some c = on_ok_weaker c.add_struct.result (λ h source from to p r s at.
    let k = c.args.number in
    let v = c.args.variable.now in
    let old = listed to c.args.self.now in
    let tagged = c.tag.ensures source from to p r s (slice_get_within (variables_in c.args.around.called.now.lifted.now) k v at) in
    let fields = ap (λ (u : List GField.Field). map (field_of to) (u ++ c.field.result ∷ [])) c.new-fields.ensures.items in
    let same : field_of to c.field.result ≡ variable_of r k =
    c.field.ensures to ∙ (ap (called_so (to c.in-Some.name)) (c.in_ok-of-in-Some.ensures to)
    ∙ (ap (λ o. called_so (or_empty (option_map (text_of to) o)) (type_of to v.of.now)) (sym c.in-Some.is) ∙ sym (variable_is source from to p r c.args.around s k v at))) in
    h to ∙ (ap (λ u. old ++ StructItem u (map (field_of to) c.push.new.self.items) ∷ []) tagged ∙ (ap (λ (u : List GField.Field). old ++ StructItem (box_tag r.function.called k) (map (field_of to) u) ∷ []) c.in_ok-push-in-Some.ensures.items
    ∙ (ap (λ fs. old ++ StructItem (box_tag r.function.called k) fs ∷ []) fields ∙ (ap (λ x. old ++ StructItem (box_tag r.function.called k) (x ∷ []) ∷ []) same
    ∙ ap (λ b. old ++ map (box_of r) (unless b k [])) (sym c.if-variable.false)))))) c.add_struct.ensures
