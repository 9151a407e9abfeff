use Rattle.std.proofs.Common.{◌∙◌, [], ◌∷◌, ◌++◌, map, ap}
use Rattle.std.proofs.lemmas.Result.{on_ok_weaker}
use Rattle.cpc_tree.specs.declared.program.Mode.TheVariants.{Native}
use Rattle.cpc_tree.specs.Erase.{parameter_of, stmt_of}
use Rattle.cpc_tree.specs.Syntax.{TyVoid, FunctionItem}
use Rattle.cpc_chains_store_laws.specs.Driver.{drive_name, drive_function}
use Rattle.cpc_chains_items.specs.Listed.{listed}
use Rattle.cpc_chains_items.proofs.items.Items.driver.Goals as goal

pub returns : goal.returns
returns c = on_ok_weaker c.add_function.result (λ h source to b.
    let old = listed to c.args.self.now in
    h to ∙ (ap (λ n. old ++ FunctionItem (record { mode = Native; called = n; result = TyVoid; parameters = map (parameter_of to) c.in_ok-parameters.parameters.items; body = stmt_of to c.in_ok-body.body }) ∷ []) b.own.drive
    ∙ (ap (λ ps. old ++ FunctionItem (record { mode = Native; called = drive_name; result = TyVoid; parameters = ps; body = stmt_of to c.in_ok-body.body }) ∷ []) (c.in_ok-parameters.ensures source to b)
    ∙ ap (λ s. old ++ FunctionItem (record { mode = Native; called = drive_name; result = TyVoid; parameters = drive_function.parameters; body = s }) ∷ []) (c.in_ok-body.ensures source to b)))) c.add_function.ensures
