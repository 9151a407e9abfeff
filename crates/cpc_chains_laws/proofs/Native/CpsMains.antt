-- A cps `main`: what stands for it calls the spawner, which makes the first frame and makes it ready, and returns.
use Rattle.std.proofs.Common.{◌≡◌, suc, ◌+◌, ◌≤◌, true, List, [], ◌∷◌, map, length, Some, None, refl, sym, ◌∙◌, ap, subst, arith}
use Rattle.cpc_base.specs.Bytes.{Text}
use Rattle.cpc_store.specs.declared.values.Class.TheVariants.{Frame}
use Rattle.cpc_store.specs.Store.{Value, Unset, At as Pointer, Store}
use Rattle.cpc_tree.specs.declared.program.Mode.TheVariants.{Native}
use Rattle.cpc_tree.specs.Points.{Nth, Path, Here, Arrival, Simple}
use Rattle.cpc_tree.specs.Syntax.{TyVoid, ENamed, NoExpr, Call, Function, Program}
use Rattle.cpc_tree.specs.Typing.{AFunction, item_named, function_named, parameter_type, parameter_types}
use Rattle.cpc_meaning.specs.Agenda.{new_agenda, begin_round, ready_one}
use Rattle.cpc_meaning.specs.Answer.{Gives}
use Rattle.cpc_meaning.specs.Eval.{Slot}
use Rattle.cpc_meaning.specs.Events.{CallMain, CallWith, callbacks}
use Rattle.cpc_meaning.specs.Machine.{next}
use Rattle.cpc_meaning.specs.Plain.{Frame as CallFrame}
use Rattle.cpc_meaning.specs.Runs.{slots_registers}
use Rattle.cpc_meaning.specs.Slots.{call_slots}
use Rattle.cpc_meaning.specs.Start.{main_name}
use Rattle.cpc_meaning.specs.Threads.{is_cps_mode}
use Rattle.cpc_meaning.specs.Trees.{first_point}
use Rattle.cpc_convert_common.specs.Converted.{spawner_name}
use Rattle.cpc_forms.specs.Split.{Position}
use Rattle.std.proofs.Common.{Option}
use Rattle.cpc_convert_image_laws.specs.Held.{beside}
use Rattle.cpc_chains_store_laws.specs.Driver.{drive_name}
use Rattle.cpc_convert_flat_laws.specs.Walks.{World, Finishes, frame_at, running, idle, in_function}
use Rattle.cpc_convert_flat_laws.proofs.Steps.{step_enters, step_arrives}
use Rattle.cpc_convert_flat_laws.proofs.Walks.{rise_one, rise_more, level_cons, rise_append, rise_cons}
use Rattle.cpc_chains_event.specs.Converted.{main_function, converted}
use Rattle.cpc_convert_routines.specs.Given.{AllFit, NoneFit}
use Rattle.cpc_chains_event.specs.Lines.{save_of}
use Rattle.cpc_convert_routines.specs.Named.{IsCps}
use Rattle.cpc_chains_event.specs.Pieces.{parameter_of, spawner_function}
use Rattle.cpc_convert_routines.specs.Routines.{passed_from, passed}
use Rattle.cpc_chains_event.proofs.Lookups.{functions_found}
use Rattle.cpc_chains_event.proofs.Meanings.{items_meant}
use Rattle.cpc_tree.specs.Registers.{variables}
use Rattle.cpc_lifted_laws.specs.Related.Bounds.{Bounds}
use Rattle.cpc_chains_laws.specs.Related.Running.{Places}
use Rattle.cpc_chains_laws.proofs.Related.Joined.{MainIs, ACpsMain}
use Rattle.cpc_chains_laws.proofs.Related.Rows.{with_first}
use Rattle.cpc_chains_laws.proofs.Related.Relation.{Shared, target_state, with_main, world_of}
use Rattle.cpc_chains_laws.proofs.Related.Setting.{Setting}
use Rattle.cpc_chains_laws.proofs.Related.Spawning.{SpawnerRuns}
use Rattle.cpc_lifted_laws.specs.Native.Convertible.{Convertible}
use Rattle.cpc_chains_laws.proofs.Native.Instance.{setting_of}
use Rattle.cpc_chains_laws.proofs.Native.Spawners.{spawner_runs}

-- where the call of the spawner stands, and the return
abbrev at_call : Path
at_call = Nth 0 ∷ []

abbrev at_return : Path
at_return = Nth 1 ∷ []

-- ---- the steps of `int main(void) { main__spawn(); return 0; }`

module _ (q : Program) (is_main : function_named q main_name ≡ Some main_function) where
  -- it is called
  main_begins : (w : Shared) → next (callbacks q) (target_state w [] None (begin_round (with_main CallMain))) ≡ Some (in_function (world_of w new_agenda) main_name [] (Here at_call) [] (beside [] w.store))
  main_begins w = simp (is_main) refl

  -- the spawner is entered
  spawner_entered : (v : World) (s : Store) (g : Function) (entered : List Slot) → item_named 0 q (spawner_name main_name) ≡ AFunction Native TyVoid [] → function_named q (spawner_name main_name) ≡ Some g → parameter_types g ≡ []
      → call_slots q g [] s ≡ Gives (entered, s)
      → next (callbacks q) (in_function v main_name [] (Here at_call) [] s) ≡ Some (running v s (frame_at g.called (first_point (function_named q g.called)) entered ∷ frame_at main_name (Arrival at_call) [] ∷ []) None)
  spawner_entered v s g entered means is_g takes made =
      step_enters q v main_name main_function [] is_main [] s at_call [] refl (Simple (Call None (ENamed (spawner_name main_name)) NoExpr)) refl g [] s entered (simp (means, is_g, takes) refl) made

  -- its value arrives
  value_arrives : (v : World) (s : Store) → next (callbacks q) (running v s (frame_at main_name (Arrival at_call) [] ∷ []) (Some Unset)) ≡ Some (in_function v main_name [] (Here at_return) [] s)
  value_arrives v s = step_arrives q v main_name main_function [] is_main [] s at_call [] refl None (ENamed (spawner_name main_name)) NoExpr refl Unset s [] (Here at_return) refl refl

  -- it returns
  main_returns : (v : World) (s : Store) → next (callbacks q) (in_function v main_name [] (Here at_return) [] s) ≡ Some (idle v s)
  main_returns v s = simp (is_main) refl

-- ---- the walk

module _ (p : Program) (h : Convertible p) (there : Places) (fine : CallFrame Position → Option Value → Type 0) (given : Text → List Value → Type 0) (bounds : Bounds) (wide : 9 ≤ bounds.mains) (cps : is_cps_mode h.main.function.mode ≡ true) where
  abbrev z : Setting
  z = setting_of p there fine given

  abbrev q : Program
  q = converted p

  abbrev g : Function
  g = h.main.function

  is_cps : IsCps p g
  is_cps = record { has = (h.names.there main_name g h.main.named).0; mode = cps }

  called : g.called ≡ main_name
  called = (h.names.there main_name g h.main.named).1

  none_passed : passed g ≡ []
  none_passed = ap (λ ps. passed_from 0 (length ps) (variables g)) h.main.parameters

  module _ (w : Shared) where
    runs : (r : SpawnerRuns z (spawner_function g) main_name [] w [] new_agenda (frame_at main_name (Arrival at_call) []) []) × (r.steps ≡ 6) × (slots_registers r.entered ≡ 1)
    runs =
        let s = spawner_runs p h g is_cps [] (subst (λ xs. AllFit xs []) (sym none_passed) NoneFit) w [] new_agenda (frame_at main_name (Arrival at_call) []) [] there fine given in
        subst (λ x. (r : SpawnerRuns z (spawner_function g) x [] w [] new_agenda (frame_at main_name (Arrival at_call) []) []) × (r.steps ≡ 6) × (slots_registers r.entered ≡ 1)) called
        (s.0, s.1 ∙ ap (λ xs. suc (suc (suc (suc (length (map save_of xs)))) + 2)) none_passed, s.2 ∙ ap (λ xs. suc (length xs)) none_passed)

    means : item_named 0 q (spawner_name main_name) ≡ AFunction Native TyVoid []
    means = ap (λ x. item_named 0 q (spawner_name x)) (sym called) ∙ ((items_meant p h.named).spawners g is_cps ∙ ap (λ xs. AFunction Native TyVoid (map parameter_type (map parameter_of xs))) none_passed)

    is_spawner : function_named q (spawner_name main_name) ≡ Some (spawner_function g)
    is_spawner = ap (λ x. function_named q (spawner_name x)) (sym called) ∙ (functions_found p h.named).spawners g is_cps

    takes : parameter_types (spawner_function g) ≡ []
    takes = ap (λ xs. map parameter_type (map parameter_of xs)) none_passed

    is_main : function_named q main_name ≡ Some main_function
    is_main = (functions_found p h.named).main g is_cps called

    leads : Finishes q w.trace 9 (target_state w [] None (begin_round (with_main CallMain))) (target_state w (with_first z) None (with_main (CallWith drive_name (Pointer Frame 0 0))))
    leads =
        let r = runs in
        let walk = r.0.leads in
        let v = world_of w new_agenda in
        let v' = world_of w (ready_one (CallWith drive_name (Pointer Frame 0 0)) new_agenda) in
        let s = beside [] w.store in
        let s' = beside (with_first z) w.store in
        subst (λ n. Finishes q w.trace (suc (suc (n + 1))) (target_state w [] None (begin_round (with_main CallMain))) (target_state w (with_first z) None (with_main (CallWith drive_name (Pointer Frame 0 0))))) r.1
        (record {
          before = _;
          leads =
              rise_more (suc (suc (r.0.steps + 1))) (1 + (r.0.steps + 0)) (suc (suc (r.0.steps + 1))) _ _ (omega arith)
              (level_cons (suc (r.0.steps + 1)) (1 + (r.0.steps + 0)) _ _ _ (rise_one 0 _ _ (main_begins q is_main w) (record { is_trace = refl; goes = refl; runs = refl }) (omega arith))
              (rise_cons (r.0.steps + 1) 1 (r.0.steps + 0) _ _ _ (rise_one 1 _ _ (spawner_entered q is_main v s (spawner_function g) r.0.entered means is_spawner takes r.0.made) (record { is_trace = refl; goes = refl; runs = refl }) (let e = r.2 in omega (arith, e)))
              (rise_append r.0.steps 1 r.0.steps 0 _ _ _ walk (rise_one 0 _ _ (value_arrives q is_main v' s') (record { is_trace = refl; goes = refl; runs = refl }) (omega arith)))));
          last = main_returns q is_main v' s';
        })

  pub cps_main_is : MainIs z bounds
  cps_main_is = ACpsMain (record { steps = 9; within = wide; leads = leads })
