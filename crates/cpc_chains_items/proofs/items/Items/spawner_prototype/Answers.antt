use Rattle.std.proofs.Common.{◌∙◌, [], ◌∷◌, ◌++◌, map, sym, ap}
use Rattle.std.proofs.lemmas.Result.{on_ok_weaker}
use Rattle.cpc_tree.specs.Erase.{parameter_of, field_of}
use Rattle.cpc_tree.specs.Syntax.{PrototypeItem, TyVoid}
use Rattle.cpc_tree.specs.declared.program.Mode.TheVariants.{Native}
use Rattle.cpc_convert_common.specs.Converted.{spawner_name}
use Rattle.cpc_chains_event.specs.Pieces as P
use Rattle.cpc_chains_items.specs.Listed.{listed}
use Rattle.cpc_chains_items.proofs.Standing.{called_is}
use Rattle.cpc_chains_items.proofs.items.Items.spawner_prototype.Goals as goal

pub returns : goal.returns
returns c = on_ok_weaker c.add_prototype.result (λ h source from to p r s.
    let named = s.called.spawner ∙ ap spawner_name (sym (called_is source from to p r c.args.around s)) in
    let given = c.in_ok-parameters.ensures to ∙ ap (map P.parameter_of) (ap (map (field_of to)) c.deref.ensures.value ∙ c.in_ok-arguments.ensures source from to p r s) in
    h to ∙ (ap (λ u. listed to c.args.self.now ++ PrototypeItem Native u TyVoid (map (parameter_of to) c.in_ok-parameters.parameters.items) ∷ []) named
    ∙ ap (λ ps. listed to c.args.self.now ++ PrototypeItem Native (spawner_name r.function.called) TyVoid ps ∷ []) given)) c.add_prototype.ensures
