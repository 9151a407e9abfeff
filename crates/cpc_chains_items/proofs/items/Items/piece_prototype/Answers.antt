use Rattle.std.proofs.Common.{◌∙◌, [], ◌∷◌, ◌++◌, map, ap}
use Rattle.std.proofs.lemmas.Result.{on_ok_weaker}
use Rattle.cpc_tree.specs.Erase.{parameter_of}
use Rattle.cpc_tree.specs.Syntax.{PrototypeItem}
use Rattle.cpc_tree.specs.declared.program.Mode.TheVariants.{Native}
use Rattle.cpc_chains_store_laws.specs.Driver.{any_pointer}
use Rattle.cpc_chains_items.specs.Listed.{listed}
use Rattle.cpc_chains_items.proofs.items.Items.piece_prototype.Goals as goal

pub returns : goal.returns
returns c = on_ok_weaker c.add_prototype.result (λ h source to b.
    h to ∙ (ap (λ t. listed to c.args.self.now ++ PrototypeItem Native (to c.args.name) t (map (parameter_of to) c.in_ok-parameters.parameters.items) ∷ []) (c.in_ok-any_pointer.ensures to)
    ∙ ap (λ ps. listed to c.args.self.now ++ PrototypeItem Native (to c.args.name) any_pointer ps ∷ []) (c.in_ok-parameters.ensures source to b))) c.add_prototype.ensures
