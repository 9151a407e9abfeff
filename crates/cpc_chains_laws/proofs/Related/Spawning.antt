-- Spawns of native code: the spawner is called, makes the first frame of the call, makes it ready, and its value arrives.
use Rattle.std.proofs.Common.{◌≡◌, ℕ, suc, ◌+◌, ◌<◌, ◌≤◌, true, List, [], ◌∷◌, ◌++◌, length, Option, Some, None, option_map, refl, sym, ◌∙◌, ap, subst, arith}
use Rattle.std.specs.List.{All}
use Rattle.cpc_base.specs.Bytes.{Text}
use Rattle.cpc_num.specs.declared.kinds.Fault.{Fault}
use Rattle.cpc_store.specs.declared.values.Class.TheVariants.{Frame}
use Rattle.cpc_store.specs.Store.{Value, Null, Unset, At as Pointer, Blocks, Store}
use Rattle.cpc_tree.specs.Points.{Point, Simple}
use Rattle.cpc_tree.specs.Syntax.{ENamed, Exprs, Call, Spawn, Function}
use Rattle.cpc_tree.specs.Trace.{Failed}
use Rattle.cpc_tree.specs.Typing.{function_named}
use Rattle.cpc_meaning_matching.proofs.Paths.{path_wider}
use Rattle.cpc_meaning.specs.Act.{Stood, AtStatement, AtArrival, Act, Enters, AsksFor, act, spawns, calls_expr}
use Rattle.cpc_meaning.specs.Agenda.{Agenda, ready_one}
use Rattle.cpc_meaning.specs.Answer.{Answer, Gives, Faults, NoAnswer, ◌>>=◌, needed}
use Rattle.cpc_meaning.specs.Eval.{Slot}
use Rattle.cpc_meaning.specs.Machine.{next, ends, settled, runs_on}
use Rattle.cpc_meaning.specs.Plain.{Frame as CallFrame, Stack, Done, Went, perform, context, asking}
use Rattle.cpc_meaning.specs.Requests.{ToSpawn}
use Rattle.cpc_meaning.specs.Slots.{call_slots}
use Rattle.cpc_meaning.specs.Runs.{slots_registers}
use Rattle.cpc_meaning.specs.Threads.{Thread, Pending, threads_of, shown_in}
use Rattle.cpc_meaning.specs.Events.{Callback, CallWith, callbacks}
use Rattle.cpc_forms.specs.Split.{Position, InTree}
use Rattle.cpc_lift_laws.specs.Lifted.{tidy}
use Rattle.cpc_convert_image_laws.specs.Held.{IsHeldSlot, beside}
use Rattle.cpc_convert_image_laws.specs.Relations.{Meets, BothGive, BothFault, Stuck, SpawnAct, Spawned}
use Rattle.cpc_convert_image_laws.specs.Stacks.{frame_of, Native}
use Rattle.cpc_convert_flat_laws.specs.Blocks.{Owns}
use Rattle.cpc_chains_store_laws.specs.Chains.{frame_cells}
use Rattle.cpc_chains_store_laws.specs.Driver.{drive_name}
use Rattle.cpc_convert_flat_laws.specs.Walks.{World, Walk, running}
use Rattle.cpc_convert_flat_laws.proofs.Walks.{stay, rise_one, rise_append, rise_cons}
use Rattle.cpc_lifted_laws.specs.Related.Bounds.{Bounds, Enough}
use Rattle.cpc_chains_laws.specs.Related.Fresh.{AllFresh}
use Rattle.cpc_chains_laws.specs.Related.Items.{first_saved}
use Rattle.cpc_lifted_laws.specs.Related.Cut.{Tagged, owned_in}
use Rattle.cpc_chains_laws.specs.Related.Running.{SamePoint, Under}
use Rattle.cpc_chains_laws.proofs.Related.Relation.{Source, Target, Shared, AgendaFor, target_state, world_of}
use Rattle.cpc_chains_laws.proofs.Related.Rows.{RowFor}
use Rattle.cpc_chains_laws.proofs.Related.Setting.{Setting, from_form, to_form, NativeFacts, KeepsFacts}
use Rattle.cpc_chains_laws.proofs.Related.Standing.{here, acts_here, comes_of, settles, steps_by, no_step, replied_by, replied_to}
use Rattle.cpc_chains_laws.proofs.Related.Walking.{Spawns, spawn_row, fault_row}

-- The spawner of g, which this function is, is entered with these arguments above a frame and others: its frame's block is made, the call
-- is ready, and its value arrives at the frame below.
pub record SpawnerRuns (z : Setting) (spawner : Function) (g : Text) (vs : List Value) (w : Shared) (bs : Blocks) (c : Agenda Callback) (frame : CallFrame Point) (others : List (CallFrame Point)) : Type 0 where
  pub entered : List Slot
  pub made : call_slots z.target spawner vs (beside bs w.store) ≡ Gives (entered, beside bs w.store)
  pub steps : ℕ
  pub leads : Walk z.target w.trace steps (running (world_of w c) (beside bs w.store) (frame_of spawner.called ((to_form z).code.first spawner.called) entered ∷ frame ∷ others) None)
      (running (world_of w (ready_one (CallWith drive_name (Pointer Frame (length bs) 0)) c)) (beside (bs ++ Some (frame_cells (first_saved z.cut g vs) Null Unset) ∷ []) w.store) (frame ∷ others) (Some Unset))

-- a spawn stands at this point of native code, and a call of the spawner in its place in the target
pub record SpawnAt (z : Setting) (bounds : Bounds) (f : Text) (b : Point) (slots : List Slot) (ys : List (CallFrame Point)) (o : Option Value) (w : Shared) (bs : Blocks) (c : Agenda Callback) : Type 0 where
  pub spawned : Text
  pub arguments : Exprs
  pub spawner : Function
  pub is_spawn : (from_form z).code.stood f (InTree b) ≡ AtStatement (Simple (Spawn spawned arguments))
  pub function : Function
  pub is_function : function_named z.target f ≡ Some function
  pub is_call : (to_form z).code.stood f b ≡ AtStatement (Simple (Call None (ENamed (z.cut.spawner spawned)) arguments))
  pub acts : Meets (SpawnAct z.codes spawned spawner) (spawns (context (from_form z) w.store (frame_of f (InTree b) slots)) spawned arguments)
      (calls_expr (context (to_form z) (beside bs w.store) (frame_of f b slots)) (ENamed (z.cut.spawner spawned)) arguments)
  -- where the value of the call arrives, and where control goes on
  pub back : Point
  pub is_back : (to_form z).code.arrival f b ≡ Some back
  pub arrives : (to_form z).code.stood f back ≡ AtArrival (Simple (Call None (ENamed (z.cut.spawner spawned)) arguments))
  pub onwards : (p : Position) → (from_form z).code.goes f (InTree b) true ≡ Some p → (q : Point) × (p ≡ InTree q) × ((to_form z).code.goes f back true ≡ Some q)
  pub runs : (vs : List Value) → spawns (context (from_form z) w.store (frame_of f (InTree b) slots)) spawned arguments ≡ Gives (AsksFor (record { asked = ToSpawn spawned; arguments = vs }))
      → (r : SpawnerRuns z spawner spawned vs w bs c (frame_of f back slots) ys) × (r.steps + 1 < bounds.leads) × (slots_registers r.entered + r.steps ≤ bounds.leads)

-- nothing is not a state
none_some : {x : Source} → ¬ (None ≡ Some x)
none_some e = absurd (cc)

some_same : {x y : Source} → Some x ≡ Some y → x ≡ y
some_same e = cc

module _ (z : Setting) (native : NativeFacts z) (keeps : KeepsFacts z) (bounds : Bounds) (most : ℕ) (enough : Enough bounds most) (f : Text) (b : Point) (slots : List Slot) (xs : List (CallFrame Position)) (ys : List (CallFrame Point)) (o : Option Value) (w : Shared) (bs : Blocks) (owned : List ℕ) (a : Agenda (Thread Position)) (tags : Agenda Tagged) (c : Agenda Callback) (h : SpawnAt z bounds f b slots ys o w bs c) (same : z.cut.whole f ≡ true) (held : All (IsHeldSlot z.codes) slots) (stacks : Native z.codes (SamePoint z.cut) (Under z.codes z.cut z.there bs owned) xs ys) (g : AgendaFor z.cut bs a tags c) (owns : Owns bs (owned ++ owned_in tags)) (fresh : AllFresh bs) where
  -- the states of both
  abbrev from : Source
  from = here z f (InTree b) slots o w a xs

  abbrev there : Stack Point
  there = record { frames = frame_of f b slots ∷ ys; arriving = o }

  abbrev to : Target
  to = target_state w bs (Some there) c

  -- what the source does, and the target
  abbrev does : Answer Act
  does = spawns (context (from_form z) w.store (frame_of f (InTree b) slots)) h.spawned h.arguments

  abbrev calls : Answer Act
  calls = calls_expr (context (to_form z) (beside bs w.store) (frame_of f b slots)) (ENamed (z.cut.spawner h.spawned)) h.arguments

  -- the step of the source
  does_here : (k : Function) → acts_here z f (InTree b) slots o w a xs k ≡ does
  does_here k = ap (λ s. act (context (from_form z) w.store (frame_of f (InTree b) slots)) k.result o s) h.is_spawn

  -- the step of the target
  abbrev by_stood : Function → Stood → Option Target
  by_stood k s = settled (callbacks z.target) to ((act (context (to_form z) (beside bs w.store) (frame_of f b slots)) k.result o s >>= perform (to_form z) (beside bs w.store) (frame_of f b slots) ys) >>= runs_on (callbacks z.target) to there)

  abbrev by_act : Answer Act → Option Target
  by_act u = settled (callbacks z.target) to ((u >>= perform (to_form z) (beside bs w.store) (frame_of f b slots) ys) >>= runs_on (callbacks z.target) to there)

  abbrev by_function : Option Function → Option Target
  by_function k =
      settled (callbacks z.target) to ((needed k >>= λ k. act (context (to_form z) (beside bs w.store) (frame_of f b slots)) k.result o ((to_form z).code.stood f b) >>= perform (to_form z) (beside bs w.store) (frame_of f b slots) ys) >>= runs_on (callbacks z.target) to there)

  target_step : (u : Answer Act) → calls ≡ u → next (callbacks z.target) to ≡ by_act u
  target_step u e = ap by_function h.is_function ∙ (ap (by_stood h.function) h.is_call ∙ ap by_act e)

  -- the spawner is entered
  enters_step : (vs : List Value) (r : SpawnerRuns z h.spawner h.spawned vs w bs c (frame_of f h.back slots) ys)
      → by_act (Gives (Enters h.spawner vs)) ≡ Some (running (world_of w c) (beside bs w.store) (frame_of h.spawner.called ((to_form z).code.first h.spawner.called) r.entered ∷ frame_of f h.back slots ∷ ys) None)
  enters_step vs r = let made = r.made in let back = h.is_back in simp (made, back) refl

  -- its value arrives, in any world and store
  arrives_step : (v : World) (t : Store) (q : Point) → (to_form z).code.goes f h.back true ≡ Some q → next (callbacks z.target) (running v t (frame_of f h.back slots ∷ ys) (Some Unset)) ≡ Some (running v t (frame_of f q slots ∷ ys) None)
  arrives_step v t q e =
      let frame = frame_of f h.back slots in
      let here : Target = running v t (frame ∷ ys) (Some Unset) in
      let runs : Done Point → Answer Target = runs_on (callbacks z.target) here (record { frames = frame ∷ ys; arriving = Some Unset }) in
      let by_stood : Function → Stood → Option Target = λ k s. settled (callbacks z.target) here ((act (context (to_form z) t frame) k.result (Some Unset) s >>= perform (to_form z) t frame ys) >>= runs) in
      let by_name : Option Function → Option Target = λ k. settled (callbacks z.target) here ((needed k >>= λ k. act (context (to_form z) t frame) k.result (Some Unset) ((to_form z).code.stood f h.back) >>= perform (to_form z) t frame ys) >>= runs) in
      let by_way : Option Point → Option Target = λ p. settled (callbacks z.target) here ((needed p >>= λ p. Gives (Went t (record { frames = frame_of f p slots ∷ ys; arriving = None }))) >>= runs) in
      ap by_name h.is_function ∙ (ap (by_stood h.function) h.arrives ∙ ap by_way e)

  module _ (x' : Source) (stepped : option_map (tidy z.kept) (next (threads_of (from_form z)) from) ≡ Some x') (k : Function) (is_k : function_named z.source f ≡ Some k) where
    -- the step of the source, where this is what it does
    is_step : (u : Answer Act) → does ≡ u → next (threads_of (from_form z)) from ≡ settles z f (InTree b) slots o w a xs (comes_of z f (InTree b) slots o w a xs u)
    is_step u e = steps_by z f (InTree b) slots o w a xs k is_k u (does_here k ∙ e)

    -- the arguments fault
    faults_row : (fault : Fault) → does ≡ Faults fault → calls ≡ Faults fault → RowFor z bounds.rise from x' most to
    faults_row fault e i =
        let same : tidy z.kept (ends (Failed fault (shown_in z.source f)) from) ≡ x' = to_same (ap (option_map (tidy z.kept)) (is_step (Faults fault) e)) in
        path_wider most (let m = enough.goes in let j : 0 + 1 ≤ most = omega arith in j)
        (subst (λ y. RowFor z bounds.rise from y (0 + 1) to) same
        (fault_row z bounds.rise from (tidy z.kept (ends (Failed fault (shown_in z.source f)) from)) to f fault refl (record { is_trace = refl; goes = refl; runs = refl }) refl (ap (λ x. Failed fault x) (sym (native.shown f same_function)))
        (record { steps = 0; grown = 0; last = to; leads = stay to; faults = target_step (Faults fault) i }) (omega arith)))
      where
        same_function : z.cut.whole f ≡ true
        same_function = same

        to_same : option_map (tidy z.kept) (next (threads_of (from_form z)) from) ≡ Some (tidy z.kept (ends (Failed fault (shown_in z.source f)) from)) → tidy z.kept (ends (Failed fault (shown_in z.source f)) from) ≡ x'
        to_same r = some_same (sym r ∙ stepped)

    -- the call is made ready
    spawned_row : (vs : List Value) → does ≡ Gives (AsksFor (record { asked = ToSpawn h.spawned; arguments = vs })) → calls ≡ Gives (Enters h.spawner vs) → RowFor z bounds.rise from x' most to
    spawned_row vs e i = go ((from_form z).code.goes f (InTree b) true) refl
      where
        spawned : Agenda (Thread Position)
        spawned = ready_one (Pending h.spawned vs) a

        asked : Option Position → Answer Source
        asked p = replied_to z f (InTree b) slots o xs w spawned Unset w.store slots p

        -- the step of the source
        asks : next (threads_of (from_form z)) from ≡ settles z f (InTree b) slots o w a xs (asked ((from_form z).code.goes f (InTree b) true))
        asks =
            is_step (Gives (AsksFor (record { asked = ToSpawn h.spawned; arguments = vs }))) e
            ∙ ap (λ s. settles z f (InTree b) slots o w a xs (replied_by z f (InTree b) slots o xs w spawned Unset (asking s))) h.is_spawn

        go : (p : Option Position) → (from_form z).code.goes f (InTree b) true ≡ p → RowFor z bounds.rise from x' most to
        go None goes = absurd (none_some (sym (ap (option_map (tidy z.kept)) (asks ∙ ap (λ p. settles z f (InTree b) slots o w a xs (asked p)) goes)) ∙ stepped))
        go (Some p) goes =
            let on = h.onwards p goes in
            let r = h.runs vs e in
            let s : Spawns z bounds.rise f b slots xs ys o w bs a c = record {
              spawned = h.spawned;
              arguments = vs;
              onwards = on.0;
              steps = r.0.steps + 1;
              grown = slots_registers r.0.entered + (r.0.steps + 0);
              few = (let m = enough.spawned in let less = r.2 in omega (arith, m, less));
              source = asks ∙ ap (λ p. settles z f (InTree b) slots o w a xs (asked p)) (goes ∙ ap (λ p. Some p) on.1);
              leads =
                  rise_cons (r.0.steps + 1) (slots_registers r.0.entered) (r.0.steps + 0) _ _ _ (rise_one (slots_registers r.0.entered) _ _ (target_step (Gives (Enters h.spawner vs)) i ∙ enters_step vs r.0) (record { is_trace = refl; goes = refl; runs = refl }) (omega arith))
                  (rise_append r.0.steps 1 r.0.steps 0 _ _ _ r.0.leads (rise_one 0 _ _ (arrives_step (world_of w (ready_one (CallWith drive_name (Pointer Frame (length bs) 0)) c)) (beside (bs ++ Some (frame_cells (first_saved z.cut h.spawned vs) Null Unset) ∷ []) w.store) on.0 on.2) (record { is_trace = refl; goes = refl; runs = refl }) (omega arith)));
            } in
            path_wider most (let m = enough.goes in let less = r.1 in let j : suc (r.0.steps + 1) ≤ most = omega arith in j)
            (spawn_row z bounds.rise native keeps f b slots xs ys o w bs owned a tags c s same held stacks g owns fresh x' stepped)

    -- whatever comes of the arguments
    acts_row : (u v : Answer Act) → does ≡ u → calls ≡ v → Meets (SpawnAct z.codes h.spawned h.spawner) u v → RowFor z bounds.rise from x' most to
    acts_row _ _ e i (BothGive _ _ (Spawned vs _)) = spawned_row vs e i
    acts_row _ _ e i (BothFault fault) = faults_row fault e i
    acts_row _ _ e i (Stuck v) = absurd (none_some (sym (ap (option_map (tidy z.kept)) (is_step NoAnswer e)) ∙ stepped))

  -- the row
  pub spawn_at_row : (x' : Source) → option_map (tidy z.kept) (next (threads_of (from_form z)) from) ≡ Some x' → RowFor z bounds.rise from x' most to
  spawn_at_row x' stepped = go (function_named z.source f) refl
    where
      go : (k : Option Function) → function_named z.source f ≡ k → RowFor z bounds.rise from x' most to
      go None e = absurd (none_some (sym (ap (option_map (tidy z.kept)) (no_step z f (InTree b) slots o w a xs e)) ∙ stepped))
      go (Some k) e = acts_row x' stepped k e does calls refl refl h.acts
