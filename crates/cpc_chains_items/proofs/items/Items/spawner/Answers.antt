use Rattle.std.proofs.Common.{◌≡◌, ◌∙◌, [], ◌∷◌, ◌++◌, map, pos, None, List, sym, ap}
use Rattle.std.proofs.lemmas.Result.{on_ok_weaker}
use Rattle.cpc_num.specs.declared.kinds.Kind.TheVariants.{Int}
use Rattle.cpc_tree.specs.declared.program.Mode.TheVariants.{Native}
use Rattle.cpc_tree.specs.Erase.{stmt_of, field_of, parameter_of}
use Rattle.cpc_tree.specs.Syntax.{Stmt, Block, Declare, TyPointer, TyStruct, TyVoid, ENamed, EInteger, NoStmt, FunctionItem}
use Rattle.cpc_convert_common.specs.Converted.{spawner_name}
use Rattle.cpc_chains_store_laws.specs.Driver.{code_field, next_field, readies}
use Rattle.cpc_convert_flat_laws.specs.Flat.{before}
use Rattle.cpc_chains_store_laws.specs.Frames.{asks_block, fills_frame}
use Rattle.cpc_convert_flat_laws.specs.Locals.{saves_one}
use Rattle.cpc_chains_event.specs.Lines.{save_of}
use Rattle.cpc_convert_routines.specs.Names.{start_name, frame_name}
use Rattle.cpc_convert_routines.specs.Routines.{passed}
use Rattle.cpc_chains_event.specs.Pieces as P
use Rattle.cpc_chains_lines.specs.Written.{Written, written, puts}
use Rattle.cpc_chains_items.specs.Listed.{listed}
use Rattle.cpc_chains_items.proofs.Putting.{three_rows}
use Rattle.cpc_chains_items.proofs.Standing.{called_is}
use Rattle.cpc_chains_items.proofs.items.Items.spawner.Goals as goal

pub returns : goal.returns
returns c = on_ok_weaker c.add_function.result (λ h source from to p r s.
    let none : Written = record { done = []; label = None } in
    let f = r.function.called in
    let is = called_is source from to p r c.args.around s in
    let begins : List Stmt = Declare frame_name (TyPointer (TyStruct (start_name f))) None ∷ asks_block frame_name (start_name f) ∷ fills_frame (ENamed frame_name) (ENamed frame_name) code_field next_field (start_name f) (EInteger Int (pos 0)) [] in
    let saves : List Stmt = map (saves_one (ENamed frame_name)) (map save_of (passed r.function)) in
    let given : map (field_of to) c.in_ok-arguments.arguments.items ≡ passed r.function = c.in_ok-arguments.ensures source from to p r s in
    let seen : map (field_of to) c.deref.result.now ≡ passed r.function = ap (map (field_of to)) c.deref.ensures.value ∙ given in
    let begun : written to c.begin.new.out ≡ puts none begins =
    c.in_ok-begin.ensures source to s.book ∙ (ap (λ w. puts w (Declare frame_name (TyPointer (TyStruct (to c.args.around.called.now.start))) None ∷ asks_block frame_name (to c.args.around.called.now.start)
    ∷ fills_frame (ENamed frame_name) (ENamed frame_name) code_field next_field (to c.args.around.called.now.start) (EInteger Int (pos 0)) [])) (c.new-out.ensures to)
    ∙ ap (λ t. puts none (Declare frame_name (TyPointer (TyStruct t)) None ∷ asks_block frame_name t ∷ fills_frame (ENamed frame_name) (ENamed frame_name) code_field next_field t (EInteger Int (pos 0)) [])) (s.called.start ∙ ap start_name (sym is))) in
    let saved : written to c.save_all.new.out ≡ puts (puts none begins) saves =
    c.in_ok-save_all.ensures source to s.book ∙ (ap (λ w. puts w (map (saves_one (ENamed frame_name)) (map save_of (map (field_of to) c.deref.result.now)))) begun ∙ ap (λ vs. puts (puts none begins) (map (saves_one (ENamed frame_name)) (map save_of vs))) seen) in
    let ready : written to c.ready.new.out ≡ puts (puts (puts none begins) saves) (readies frame_name ∷ []) = c.in_ok-ready.ensures source to s.book ∙ ap (λ w. puts w (readies frame_name ∷ [])) saved in
    let body : stmt_of to c.into_block-body.result ≡ (P.spawner_function r.function).body =
    c.into_block-body.ensures to ∙ ap Block (ap (λ (w : Written). before w.done NoStmt) ready ∙ three_rows begins saves (readies frame_name ∷ [])) in
    let parameters : map (parameter_of to) c.in_ok-parameters.parameters.items ≡ map P.parameter_of (passed r.function) = c.in_ok-parameters.ensures to ∙ ap (map P.parameter_of) (ap (map (field_of to)) c.deref-2.ensures.value ∙ given) in
    let old = listed to c.args.self.now in
    h to ∙ (ap (λ n. old ++ FunctionItem (record { mode = Native; called = n; result = TyVoid; parameters = map (parameter_of to) c.in_ok-parameters.parameters.items; body = stmt_of to c.into_block-body.result }) ∷ []) (s.called.spawner ∙ ap spawner_name (sym is))
    ∙ (ap (λ ps. old ++ FunctionItem (record { mode = Native; called = spawner_name f; result = TyVoid; parameters = ps; body = stmt_of to c.into_block-body.result }) ∷ []) parameters
    ∙ ap (λ u. old ++ FunctionItem (record { mode = Native; called = spawner_name f; result = TyVoid; parameters = map P.parameter_of (passed r.function); body = u }) ∷ []) body))) c.add_function.ensures
