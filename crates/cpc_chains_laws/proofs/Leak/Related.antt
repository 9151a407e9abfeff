-- Where nothing runs in a state of the lifted run, nothing runs in the state that stands for it, and its frame blocks are those of the threads' frames.
use Rattle.std.proofs.Common.{◌≡◌, ℕ, ◌+◌, ◌≤◌, true, false, not, List, ◌++◌, length, slice_get, Option, None, is_some, refl, sym, ◌∙◌, ap, arith, Some}
use Rattle.std.proofs.lemmas.List.{length-map}
use Rattle.cpc_base.specs.Bytes.{Text}
use Rattle.cpc_base.proofs.Truth.{not_holds}
use Rattle.cpc_store.specs.Store.{Value, Unset, Blocks, Store, block_cells, cells_in, store_cells}
use Rattle.cpc_tree.specs.Points.{Point}
use Rattle.cpc_tree.specs.Syntax.{Function, Program}
use Rattle.cpc_tree.specs.Trace.{Going, is_over}
use Rattle.cpc_meaning.specs.Agenda.{Agenda}
use Rattle.cpc_meaning.specs.Events.{Callback}
use Rattle.cpc_meaning.specs.Runs.{slots_registers, frames_registers, registers, live_cells, most_variables}
use Rattle.cpc_meaning.specs.Plain.{Frame, Stack}
use Rattle.cpc_meaning.specs.Threads.{Thread, is_cps_mode, is_cps}
use Rattle.cpc_forms.specs.Flow.{At}
use Rattle.cpc_forms.specs.Split.{Position}
use Rattle.cpc_tree.specs.Typing.{function_named}
use Rattle.cpc_chains_store_laws.specs.Chains.{Saved}
use Rattle.cpc_convert_flat_laws.specs.Blocks.{block, one_if, Owns}
use Rattle.cpc_chains_laws.specs.Related.Items.{FramesWait, NoneWait, OneWaits, ItemFor}
use Rattle.cpc_lifted_laws.specs.Related.Cut.{value_in, Tagged, owned_in}
use Rattle.cpc_convert_image_laws.specs.Held.{beside}
use Rattle.cpc_convert_image_laws.specs.Stacks.{Native, NoMore, OneMore}
use Rattle.cpc_chains_laws.specs.Related.Running.{SamePoint, Places, InPiece, AtNode, Under, Bottom, PieceWaits, RunningFor, NothingRuns, NativeRuns, PieceRuns}
use Rattle.cpc_lifted_laws.specs.Related.Sums.{sum, total}
use Rattle.cpc_chains_laws.proofs.Related.Relation.{Source, Target, Shared, AgendaFor, source_state, target_state, Related, MainIsReady, MainIsNext, Goes, IsOver}
use Rattle.cpc_chains_laws.proofs.Related.Rows.{Near, MainWaits, with_first}
use Rattle.cpc_chains_laws.proofs.Related.Setting.{Setting}
use Rattle.cpc_meaning.proofs.Agendas.{SameAgenda}
use Rattle.cpc_lifted_laws.specs.Native.Instance.{stays_whole, cut_of, keeps_in}
use Rattle.cpc_chains_laws.proofs.Runs.Locals.{ArePlacesThin}
use Rattle.cpc_chains_laws.specs.Leak.Need.{where_so, thread_weight, stack_weight, native_registers}
use Rattle.cpc_chains_laws.specs.Leak.Held.{live_blocks}
use Rattle.cpc_chains_laws.proofs.Leak.Threads.{split_count, split_need, running_at, split_running}
use Rattle.cpc_chains_laws.proofs.Leak.Blocks.{chain_weighs}
use Rattle.cpc_chains_laws.proofs.Leak.Weights.{blocks_weigh}

-- how many registers a piece and the driver have together at most
abbrev pub wide : Program → ℕ
wide p = 10 + most_variables p

-- what is asked of a state that stands for one of the threads
pub record Bounded (p : Program) (x : Source) (y : Target) : Type 0 where
  pub trace : x.trace ≡ y.trace
  pub outcome : x.outcome ≡ y.outcome
  pub rests : x.running ≡ None → y.running ≡ None
  pub rested : y.running ≡ None → x.running ≡ None
  pub frames : live_blocks y.store.frames ≤ stack_weight (sum split_count) x.running + total (thread_weight (λ f vs. 1) split_count) x.agenda
  pub cells : cells_in y.store.frames ≤ stack_weight (split_running p) x.running + total (thread_weight (λ f vs. 8 + length vs) (split_need p)) x.agenda
  pub auto : y.store.auto ≡ x.store.auto
  pub store : y.store ≡ beside y.store.frames x.store
  pub registers : registers y.running ≤ stack_weight (sum (native_registers p)) x.running + wide p

-- the measure of a state of the lifted run
abbrev pub split_measure : Program → Source → ℕ
split_measure p x = store_cells x.store + (stack_weight (sum (native_registers p)) x.running + (stack_weight (split_running p) x.running + total (thread_weight (λ f vs. 8 + length vs) (split_need p)) x.agenda))

-- its live cells are within the measure, but for the registers of a piece and the driver
pub bounded_live : (p : Program) (x : Source) (y : Target) → Bounded p x y → live_cells y ≤ split_measure p x + wide p
bounded_live p x y b =
    let here = ap (λ (s : Store). store_cells s) b.store in
    let c = b.cells in
    let r = b.registers in
    omega (arith, here, c, r)

module _ (p : Program) where
  -- frames that wait, and what is saved of them
  waits_count : (frames : List (Frame Position)) (saved : List Saved) → FramesWait (cut_of p) frames saved → sum (λ (s : Saved). 1) saved ≤ sum split_count frames
  waits_count _ _ NoneWait = omega arith
  waits_count _ _ (OneWaits f n slots below saved waits) = let h = waits_count below saved waits in omega (arith, h)

  waits_need : (frames : List (Frame Position)) (saved : List Saved) → FramesWait (cut_of p) frames saved → sum (λ (s : Saved). 3 + length s.values) saved ≤ sum (split_need p) frames
  waits_need _ _ NoneWait = omega arith
  waits_need _ _ (OneWaits f n slots below saved waits) =
      let h = waits_need below saved waits in
      let e = length-map (keeps_in p (function_named p f) (At n)) (λ (k : ℕ). value_in (slice_get slots k)) in
      omega (arith, h, e)

  -- what the blocks of a chain weigh
  abbrev owned_count : Blocks → List ℕ → ℕ
  owned_count bs owned = sum (λ b. one_if (is_some (block bs b))) owned

  abbrev owned_cells : Blocks → List ℕ → ℕ
  owned_cells bs owned = sum (λ b. block_cells (block bs b)) owned

  module _ (bs : Blocks) (owned : List ℕ) (a : Agenda (Thread Position)) (tags : Agenda Tagged) (alike : SameAgenda (ItemFor (cut_of p) bs) a tags) (owns : Owns bs (owned ++ owned_in tags)) where
    few_blocks : (k : ℕ) → owned_count bs owned ≤ k → live_blocks bs ≤ k + total (thread_weight (λ f vs. 1) split_count) a
    few_blocks k le =
        blocks_weigh (cut_of p) (λ (o : Option (List Value)). one_if (is_some o)) refl (λ (s : Saved). 1) (λ s next v. omega arith)
        (thread_weight (λ f vs. 1) split_count) (λ x vs. omega arith) waits_count bs owned k a tags alike owns le

    few_cells : (k : ℕ) → owned_cells bs owned ≤ k → cells_in bs ≤ k + total (thread_weight (λ f vs. 8 + length vs) (split_need p)) a
    few_cells k le =
        blocks_weigh (cut_of p) block_cells refl (λ (s : Saved). 3 + length s.values) (λ s next v. omega arith)
        (thread_weight (λ f vs. 8 + length vs) (split_need p)) (λ x vs. omega arith) waits_need bs owned k a tags alike owns le

  module _ (C : Text → Type 0) (There : Places) (bs : Blocks) where
    -- the chain below what runs
    record ChainBelow (xs : List (Frame Position)) (owned : List ℕ) : Type 0 where
      few : owned_count bs owned ≤ sum split_count xs
      need : owned_cells bs owned ≤ split_running p xs

    piece_below : (xs : List (Frame Position)) (o : Option Value) (ys : List (Frame Point)) (o' : Option Value) (owned : List ℕ) → InPiece C (cut_of p) There bs xs o ys o' owned → ChainBelow xs owned
    piece_below _ _ _ _ _ (AtNode f l n slots o next piece o' there below saved owned waits chain pointer result frame) =
        let h = chain_weighs (λ (o : Option (List Value)). one_if (is_some o)) (λ (s : Saved). 1) (λ s next v. omega arith) bs saved next owned chain in
        let i = chain_weighs block_cells (λ (s : Saved). 3 + length s.values) (λ s next v. omega arith) bs saved next owned chain in
        let j = waits_count below saved waits in
        let k = waits_need below saved waits in
        record { few = omega (arith, h, j); need = omega (arith, i, k) }

    under_below : (xs : List (Frame Position)) (ys : List (Frame Point)) (owned : List ℕ) → Under C (cut_of p) There bs owned xs ys → ChainBelow xs owned
    under_below _ _ _ Bottom = record { few = omega arith; need = omega arith }
    under_below _ _ _ (PieceWaits xs ys owned r) = piece_below xs (Some Unset) ys (Some Unset) owned (r Unset tt)

    native_below : (owned : List ℕ) (xs : List (Frame Position)) (ys : List (Frame Point)) → Native C (SamePoint (cut_of p)) (Under C (cut_of p) There bs owned) xs ys → ChainBelow xs owned
    native_below owned _ _ (NoMore xs ys under) = under_below xs ys owned under
    native_below owned _ _ (OneMore f at b slots xs ys same held stacks) =
        let h = native_below owned xs ys stacks in
        let i = h.few in
        let j = h.need in
        let k = ap (λ (at : Position). running_at at (split_running p xs) (sum (split_need p) xs)) same.0 in
        record { few = omega (arith, i); need = omega (arith, j, k) }

    -- the registers of what runs
    module _ (thin : ArePlacesThin p There) where
      piece_thin : (xs : List (Frame Position)) (o : Option Value) (ys : List (Frame Point)) (o' : Option Value) (owned : List ℕ) → InPiece C (cut_of p) There bs xs o ys o' owned → frames_registers ys ≤ wide p
      piece_thin _ _ _ _ _ (AtNode f l n slots o next piece o' there below saved owned waits chain pointer result frame) = let h = thin f l n slots o next piece o' there in omega (arith, h)

      under_thin : (xs : List (Frame Position)) (ys : List (Frame Point)) (owned : List ℕ) → Under C (cut_of p) There bs owned xs ys → frames_registers ys ≤ wide p
      under_thin _ _ _ Bottom = omega arith
      under_thin _ _ _ (PieceWaits xs ys owned r) = piece_thin xs (Some Unset) ys (Some Unset) owned (r Unset tt)

      whole_native : (o : Option Function) → stays_whole o ≡ true → is_cps o ≡ false
      whole_native None e = absurd (cc)
      whole_native (Some f) e = not_holds (is_cps_mode f.mode) e

      native_thin : (owned : List ℕ) (xs : List (Frame Position)) (ys : List (Frame Point)) → Native C (SamePoint (cut_of p)) (Under C (cut_of p) There bs owned) xs ys → frames_registers ys ≤ sum (native_registers p) xs + wide p
      native_thin owned _ _ (NoMore xs ys under) = let h = under_thin xs ys owned under in omega (arith, h)
      native_thin owned _ _ (OneMore f at b slots xs ys same held stacks) =
          let h = native_thin owned xs ys stacks in
          let i = ap (λ b. where_so (not b) (slots_registers slots)) (whole_native (function_named p f) same.1) in
          omega (arith, h, i)

      running_thin : (k : Option (Stack Position)) (j : Option (Stack Point)) (owned : List ℕ) → RunningFor C (cut_of p) There bs k j owned → registers j ≤ stack_weight (sum (native_registers p)) k + wide p
      running_thin _ _ _ NothingRuns = omega arith
      running_thin _ _ _ (NativeRuns xs ys o owned stacks hold) = native_thin owned xs ys stacks
      running_thin _ _ _ (PieceRuns xs o ys o' owned r) = let h = piece_thin xs o ys o' owned r in omega (arith, h)

    -- what runs stands for what runs
    idle_too : (k : Option (Stack Position)) (j : Option (Stack Point)) (owned : List ℕ) → RunningFor C (cut_of p) There bs k j owned → k ≡ None → j ≡ None
    idle_too _ _ _ NothingRuns e = refl
    idle_too _ _ _ (NativeRuns xs ys o owned stacks hold) e = absurd (cc)
    idle_too _ _ _ (PieceRuns xs o ys o' owned r) e = absurd (cc)

    idle_back : (k : Option (Stack Position)) (j : Option (Stack Point)) (owned : List ℕ) → RunningFor C (cut_of p) There bs k j owned → j ≡ None → k ≡ None
    idle_back _ _ _ NothingRuns e = refl
    idle_back _ _ _ (NativeRuns xs ys o owned stacks hold) e = absurd (cc)
    idle_back _ _ _ (PieceRuns xs o ys o' owned r) e = absurd (cc)

    running_few : (k : Option (Stack Position)) (j : Option (Stack Point)) (owned : List ℕ) → RunningFor C (cut_of p) There bs k j owned → owned_count bs owned ≤ stack_weight (sum split_count) k
    running_few _ _ _ NothingRuns = omega arith
    running_few _ _ _ (NativeRuns xs ys o owned stacks hold) = (native_below owned xs ys stacks).few
    running_few _ _ _ (PieceRuns xs o ys o' owned r) = (piece_below xs o ys o' owned r).few

    running_need : (k : Option (Stack Position)) (j : Option (Stack Point)) (owned : List ℕ) → RunningFor C (cut_of p) There bs k j owned → owned_cells bs owned ≤ stack_weight (split_running p) k
    running_need _ _ _ NothingRuns = omega arith
    running_need _ _ _ (NativeRuns xs ys o owned stacks hold) = (native_below owned xs ys stacks).need
    running_need _ _ _ (PieceRuns xs o ys o' owned r) = (piece_below xs o ys o' owned r).need

  module _ (C : Text → Type 0) (There : Places) (thin : ArePlacesThin p There) where
    pub going_bounded : (w : Shared) (bs : Blocks) (k : Option (Stack Position)) (j : Option (Stack Point)) (owned : List ℕ) (a : Agenda (Thread Position)) (tags : Agenda Tagged) (b : Agenda Callback)
        → RunningFor C (cut_of p) There bs k j owned → AgendaFor (cut_of p) bs a tags b → Owns bs (owned ++ owned_in tags) → Bounded p (source_state w k a) (target_state w bs j b)
    going_bounded w bs k j owned a tags b runs g owns = record {
      trace = refl;
      outcome = refl;
      rests = idle_too C There bs k j owned runs;
      rested = idle_back C There bs k j owned runs;
      frames = few_blocks bs owned a tags g.items owns (stack_weight (sum split_count) k) (running_few C There bs k j owned runs);
      cells = few_cells bs owned a tags g.items owns (stack_weight (split_running p) k) (running_need C There bs k j owned runs);
      auto = refl;
      store = refl;
      registers = running_thin C There bs thin k j owned runs;
    }

    -- the first frame of `main` waits, and counts as the call of `main`
    pub main_bounded : (z : Setting) (x : Source) (y : Target) → Near z x y → MainWaits z x y → Bounded p x y
    main_bounded z x y n m =
        let blocks = ap (λ (s : Store). live_blocks s.frames) m.store in
        let cells = ap (λ (s : Store). cells_in s.frames) m.store in
        let counts = ap (λ (s : Source). stack_weight (sum split_count) s.running + total (thread_weight (λ f vs. 1) split_count) s.agenda) m.source in
        let needs = ap (λ (s : Source). stack_weight (split_running p) s.running + total (thread_weight (λ f vs. 8 + length vs) (split_need p)) s.agenda) m.source in
        record {
          trace = n.trace;
          outcome = n.outcome;
          rests = λ e. m.rests;
          rested = λ e. ap (λ (s : Source). s.running) m.source;
          frames = omega (arith, blocks, counts);
          cells = omega (arith, cells, needs);
          auto = ap (λ (s : Store). s.auto) m.store ∙ sym (ap (λ (s : Source). s.store.auto) m.source);
          store = m.store ∙ ap (λ (s : Store). beside (with_first z) s) (sym (ap (λ (s : Source). s.store) m.source)) ∙ ap (λ bs. beside bs x.store) (sym (ap (λ (s : Store). s.frames) m.store));
          registers = let e = ap (λ (k : Option (Stack Point)). registers k) m.rests in omega (arith, e);
        }

    pub related_bounded : (x : Source) (y : Target) → Related C (cut_of p) There x y → x.outcome ≡ Going → Bounded p x y
    related_bounded _ _ (MainIsReady w) going = record { trace = refl; outcome = refl; rests = λ e. refl; rested = λ e. refl; frames = omega arith; cells = omega arith; auto = refl; store = refl; registers = omega arith }
    related_bounded _ _ (MainIsNext w) going = record { trace = refl; outcome = refl; rests = λ e. refl; rested = λ e. refl; frames = omega arith; cells = omega arith; auto = refl; store = refl; registers = omega arith }
    related_bounded _ _ (Goes w bs k j owned a tags b runs g owns fresh) going = going_bounded w bs k j owned a tags b runs g owns
    related_bounded x y (IsOver _ _ over trace outcome) going = absurd (let i = ap is_over going in cc)
