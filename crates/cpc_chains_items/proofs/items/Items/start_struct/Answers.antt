use Rattle.std.proofs.Common.{◌≡◌, ◌∙◌, [], ◌∷◌, ◌++◌, map, sym, ap}
use Rattle.std.proofs.lemmas.List.{map-append}
use Rattle.std.proofs.lemmas.Result.{on_ok_weaker}
use Rattle.cpc_num.specs.declared.kinds.Kind.TheVariants.{Int}
use Rattle.cpc_tree.specs.Erase.{field_of}
use Rattle.cpc_tree.specs.Syntax.{StructItem, TyInt}
use Rattle.cpc_chains_store_laws.specs.Driver.{head_fields}
use Rattle.cpc_convert_routines.specs.Names.{start_name}
use Rattle.cpc_convert_routines.specs.Routines.{passed}
use Rattle.cpc_chains_items.specs.Listed.{listed}
use Rattle.cpc_chains_items.proofs.Standing.{called_is}
use Rattle.cpc_chains_items.proofs.items.Items.start_struct.Goals as goal

pub returns : goal.returns
returns c = on_ok_weaker c.add_struct.result (λ h source from to p r s.
    let given = c.in_ok-arguments.arguments.items in
    let fields : map (field_of to) c.append.new.self.items ≡ head_fields (TyInt Int) (passed r.function) =
    ap (map (field_of to)) c.in_ok-append.ensures.items ∙ (map-append (field_of to) c.in_ok-fields.fields.items given ∙ (ap (λ u. u ++ map (field_of to) given) (c.in_ok-fields.ensures source to s.book)
    ∙ ap (λ u. head_fields (TyInt Int) [] ++ u) (c.in_ok-arguments.ensures source from to p r s))) in
    h to ∙ (ap (λ u. listed to c.args.self.now ++ StructItem u (map (field_of to) c.append.new.self.items) ∷ []) (s.called.start ∙ ap start_name (sym (called_is source from to p r c.args.around s)))
    ∙ ap (λ fs. listed to c.args.self.now ++ StructItem (start_name r.function.called) fs ∷ []) fields)) c.add_struct.ensures
