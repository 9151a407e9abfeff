use Rattle.std.proofs.Common.{◌≡◌, ◌∙◌, [], ◌∷◌, ◌++◌, map, ap}
use Rattle.std.proofs.lemmas.Result.{on_ok_weaker}
use Rattle.cpc_tree.specs.Erase.{field_of}
use Rattle.cpc_tree.specs.Syntax.{StructItem}
use Rattle.cpc_forms.specs.Flow.{At}
use Rattle.cpc_chains_store_laws.specs.Driver.{head_fields}
use Rattle.cpc_convert_routines.specs.Names.{piece_name}
use Rattle.cpc_convert_routines.specs.Arriving.{arriving_type}
use Rattle.cpc_convert_routines.specs.Routines.{locals_of, closure_of}
use Rattle.cpc_chains_items.specs.Listed.{listed}
use Rattle.cpc_chains_items.proofs.items.Items.leader_struct.Goals as goal

pub returns : goal.returns
returns c = on_ok_weaker c.add_struct.result (λ h source from to p r s node.
    let n = c.args.leader in
    let kept = locals_of r (closure_of r (At n)) in
    let fields : map (field_of to) c.keep_all.new.fields.items ≡ head_fields (arriving_type p r (At n)) kept =
    c.in_ok-keep_all.ensures source from to p r s node ∙ (ap (λ u. u ++ kept) (c.in_ok-fields.ensures source to s.book) ∙ ap (λ t. head_fields t kept) (c.in_ok-of.ensures source from to p r s)) in
    h to ∙ (ap (λ u. listed to c.args.self.now ++ StructItem u (map (field_of to) c.keep_all.new.fields.items) ∷ []) (c.piece.ensures source from to p r s node)
    ∙ ap (λ fs. listed to c.args.self.now ++ StructItem (piece_name r.function.called (At n)) fs ∷ []) fields)) c.add_struct.ensures
