-- The rows of waits and sections inside a piece: the frame of the arrival is made, the driver waits with it in the place of the thread, and nothing runs.
use Rattle.std.proofs.Common.{◌≡◌, ℕ, suc, ◌+◌, ◌≤◌, false, List, [], ◌∷◌, ◌++◌, length, Option, Some, None, option_map, Result, Ok, Err, refl, sym, ◌∙◌, ap, subst, arith}
use Rattle.cpc_base.specs.Bytes.{Text}
use Rattle.cpc_num.specs.declared.kinds.Fault.{Fault}
use Rattle.cpc_store.specs.declared.values.Class.TheVariants.{Frame}
use Rattle.cpc_store.specs.Store.{Value, Unset, Null, At as Pointer, Blocks}
use Rattle.cpc_tree.specs.Lists.{first_or, rest_of}
use Rattle.cpc_tree.specs.Points.{Point}
use Rattle.cpc_tree.specs.Syntax.{Function}
use Rattle.cpc_tree.specs.Trace.{Mark, Submitted, Failed}
use Rattle.cpc_tree.specs.Typing.{function_named}
use Rattle.cpc_meaning_matching.proofs.Paths.{path_wider}
use Rattle.cpc_meaning.specs.Act.{Act, AsksFor}
use Rattle.cpc_meaning.specs.Agenda.{Agenda, section}
use Rattle.cpc_meaning.specs.Answer.{Answer, Gives, Faults, NoAnswer, ◌>>=◌, of_result, needed}
use Rattle.cpc_meaning.specs.Copies.{copy_of}
use Rattle.cpc_meaning.specs.Eval.{Slot}
use Rattle.cpc_meaning.specs.Machine.{ends}
use Rattle.cpc_meaning.specs.Plain.{Frame as CallFrame, Stack}
use Rattle.cpc_meaning.specs.Requests.{Primitive, Builtin, Section}
use Rattle.cpc_meaning.specs.Runs.{slots_registers}
use Rattle.cpc_meaning.specs.Section.{Job}
use Rattle.cpc_meaning.specs.Threads.{Thread, Suspended, suspends, shown_in}
use Rattle.cpc_meaning.specs.Events.{Callback}
use Rattle.cpc_meaning.proofs.Agendas.{SameResult, BothOk, BothErr, sectioned}
use Rattle.cpc_forms.specs.Flow.{Place, At}
use Rattle.cpc_forms.specs.Split.{Position, InGraph}
use Rattle.cpc_lift_laws.specs.Lifted.{tidy}
use Rattle.cpc_convert_image_laws.specs.Held.{beside}
use Rattle.cpc_convert_image_laws.specs.Stacks.{frame_of}
use Rattle.cpc_convert_flat_laws.specs.Blocks.{Owns, count}
use Rattle.cpc_chains_store_laws.specs.Chains.{frame_cells}
use Rattle.cpc_chains_store_laws.specs.Driver.{driving}
use Rattle.cpc_convert_flat_laws.specs.Walks.{running, idle, FaultsAfter}
use Rattle.cpc_convert_flat_laws.proofs.Blocks.{count_append}
use Rattle.cpc_chains_store_laws.proofs.Chains.{chain_push, chain_closed}
use Rattle.cpc_convert_flat_laws.proofs.Owned.{owns_alloc, owns_order}
use Rattle.cpc_chains_store_laws.proofs.Pieces.{drive_finishes}
use Rattle.cpc_convert_flat_laws.proofs.Walks.{finishes_after}
use Rattle.cpc_lifted_laws.specs.Related.Bounds.{Bounds, Enough}
use Rattle.cpc_lifted_laws.specs.Related.Sums.{total}
use Rattle.cpc_chains_laws.specs.Related.Items.{OneWaits, saved_at, driven, ItemFor, ForSuspended}
use Rattle.cpc_lifted_laws.specs.Related.Cut.{Tagged, IsUntagged, owned_in}
use Rattle.cpc_chains_laws.specs.Related.Running.{NothingRuns}
use Rattle.cpc_chains_laws.specs.Related.Waits.{Awaited, awaited, put_waiting, wait_marks}
use Rattle.cpc_chains_laws.proofs.Related.Awaiting.{waits_by, primitive_waits, put_same, total_put}
use Rattle.cpc_chains_laws.proofs.Related.Entry.{EntryFacts}
use Rattle.cpc_chains_laws.proofs.Related.Fresh.{fresh_more}
use Rattle.cpc_chains_laws.proofs.Related.Inside.{inside, Prepares, HasAsked, FaultsAsking, WaitsFor, SubmitsSection, section_cells}
use Rattle.cpc_lifted_laws.proofs.Related.Owned.{count_owned}
use Rattle.cpc_chains_laws.proofs.Related.Onwards.{Beside}
use Rattle.cpc_chains_laws.proofs.Related.Putting.{agenda_alloc}
use Rattle.cpc_chains_laws.proofs.Related.Relation.{Source, Target, Shared, AgendaFor, source_state, world_of, Goes}
use Rattle.cpc_chains_laws.proofs.Related.Rows.{RowFor, marked_finished}
use Rattle.cpc_chains_laws.proofs.Related.Setting.{Setting, from_form, NativeFacts, KeepsFacts, is_common}
use Rattle.cpc_chains_laws.proofs.Related.Standing.{stack, here, comes_of, settles, to_state, no_state}
use Rattle.cpc_lifted_laws.proofs.Related.Sums.{total_section}
use Rattle.cpc_chains_laws.proofs.Related.Walking.{fault_row}

-- the three agendas take an item each, and no item is lost or doubled besides; or both sides refuse it
data ThreePut (z : Setting) (bs : Blocks) (t : Tagged) (tags : Agenda Tagged) : Result (Agenda (Thread Position)) Fault → Result (Agenda Callback) Fault → Type 0 where
  AllPut : (b : Agenda (Thread Position)) (more : Agenda Tagged) (d : Agenda Callback) → AgendaFor z.cut bs b more d
      → ((n : ℕ) → total (λ (x : Tagged). count n x.owned) more ≡ count n t.owned + total (λ (x : Tagged). count n x.owned) tags) → ThreePut z bs t tags (Ok b) (Ok d)
  NonePut : (fault : Fault) → ThreePut z bs t tags (Err fault) (Err fault)

three_put : (z : Setting) (bs : Blocks) (t : Tagged) (tags : Agenda Tagged) (u : Result (Agenda (Thread Position)) Fault) (v : Result (Agenda Tagged) Fault) (w : Result (Agenda Callback) Fault)
    → ((d : Agenda Tagged) → v ≡ Ok d → (n : ℕ) → total (λ (x : Tagged). count n x.owned) d ≡ count n t.owned + total (λ (x : Tagged). count n x.owned) tags)
    → SameResult (ItemFor z.cut bs) u v → SameResult IsUntagged v w → ThreePut z bs t tags u w
three_put z bs t tags _ _ _ weighs (BothOk b more g) (BothOk _ d i) = AllPut b more d (record { items = g; untagged = i }) (weighs more refl)
three_put z bs t tags _ _ _ weighs (BothErr fault) (BothErr _) = NonePut fault

module _ (z : Setting) (native : NativeFacts z) (keeps : KeepsFacts z) (bounds : Bounds) (entry : EntryFacts z bounds) (most : ℕ) (enough : Enough bounds most) (f : Text) (l : Place) (lower pointer result frame : Value) (w : Shared) (bs : Blocks) (c : Agenda Callback) (n : ℕ) (slots : List Slot) (o : Option Value) (piece : CallFrame Point) (o' : Option Value) (a : Agenda (Thread Position)) (below : List (CallFrame Position)) (h : Beside z bs a c below lower) (thin : slots_registers piece.slots ≤ bounds.piece) where
  -- the states of both
  abbrev from : Source
  from = here z f (InGraph l n) slots o w a below

  abbrev to : Target
  to = inside z bounds f l lower pointer result frame w bs c n slots o piece o'

  abbrev StepsTo : Answer Act → Source → Type 0
  StepsTo u x' = option_map (tidy z.kept) (settles z f (InGraph l n) slots o w a below (comes_of z f (InGraph l n) slots o w a below u)) ≡ Some x'

  abbrev Prepared : Type 0
  Prepared = Prepares z bounds f l lower pointer result frame w bs c n slots o piece o'

  abbrev Asked : ℕ → CallFrame Point → Shared → Agenda Callback → Type 0
  Asked back asker v d = HasAsked z bounds f l lower pointer result frame w bs c n slots o piece o' back asker v d

  abbrev Refuses : Prepared → Fault → Type 0
  Refuses p fault = FaultsAsking z bounds f l lower pointer result frame w bs c n slots o piece o' p fault

  module _ (p : Prepared) where
    -- the blocks with the frame of the arrival
    abbrev cells : List Value
    cells = frame_cells (saved_at z.cut f slots p.back) lower Unset

    abbrev more : Blocks
    more = bs ++ Some cells ∷ []

    -- the thread, and what stands for it
    abbrev waiting_stack : Stack Position
    waiting_stack = record { frames = frame_of f (InGraph (At p.back) p.back) slots ∷ below; arriving = None }

    abbrev item : Tagged
    item = driven (Pointer Frame (length bs) 0) (length bs ∷ h.owned)

    is_item : ItemFor z.cut more (Suspended waiting_stack) item
    is_item =
        ForSuspended (frame_of f (InGraph (At p.back) p.back) slots) below (saved_at z.cut f slots p.back ∷ h.saved) (Pointer Frame (length bs) 0) (length bs ∷ h.owned) (OneWaits f p.back slots below h.saved h.waits)
        (chain_closed more (saved_at z.cut f slots p.back) h.saved (length bs) lower Unset h.owned (chain_push bs (saved_at z.cut f slots p.back) Unset h.saved lower h.owned h.chain))

    abbrev Takes : Result (Agenda (Thread Position)) Fault → Result (Agenda Callback) Fault → Type 0
    Takes u v = ThreePut z more item h.tags u v

    kept : AgendaFor z.cut more a h.tags c
    kept = agenda_alloc z.cut bs (Some cells) a h.tags c h.alike

    owns_put : (tags : Agenda Tagged) → ((m : ℕ) → total (λ (x : Tagged). count m x.owned) tags ≡ count m item.owned + total (λ (x : Tagged). count m x.owned) h.tags) → Owns more (owned_in tags)
    owns_put tags weighs =
        owns_order more (length bs ∷ (h.owned ++ owned_in h.tags)) (owned_in tags)
        (λ m.
        let e1 = count_owned m tags in
        let e2 = count_owned m h.tags in
        let e3 = weighs m in
        let e4 = count_append m h.owned (owned_in h.tags) in
        omega (arith, e1, e2, e3, e4))
        (owns_alloc bs cells (h.owned ++ owned_in h.tags) h.owns)

    -- the item is taken: nothing runs
    put_row : (jobs : List Job) (trace : List Mark) (b : Agenda (Thread Position)) (tags : Agenda Tagged) (d : Agenda Callback) → AgendaFor z.cut more b tags d
        → ((m : ℕ) → total (λ (x : Tagged). count m x.owned) tags ≡ count m item.owned + total (λ (x : Tagged). count m x.owned) h.tags)
        → Asked p.back p.asker (record w { jobs = jobs; trace = trace }) d → RowFor z bounds.rise from (source_state (record w { jobs = jobs; trace = trace }) None b) most to
    put_row jobs trace b tags d alike weighs asked =
        let v : Shared = record w { jobs = jobs; trace = trace } in
        let u : Target = running (world_of v d) (beside more w.store) (asked.from ∷ alone_there) None in
        path_wider most (let i = enough.goes in let j = p.within in let l = asked.within in let k : p.steps + suc ((asked.steps + 2) + 1) ≤ most = omega arith in k)
        (marked_finished z bounds.rise from (source_state v None b) to _ u (idle (world_of v d) (beside more w.store)) p.steps (asked.steps + 2) (3 + bounds.piece) refl refl p.leads (let i = enough.spawned in let m = p.within in omega (arith, i, m)) asked.first
        (record { is_trace = refl; goes = refl; runs = refl })
        (finishes_after asked.steps 2 u (running (world_of v d) (beside more w.store) alone_there (Some Null)) (idle (world_of v d) (beside more w.store)) asked.leads (drive_finishes z.target entry.driver (world_of v d) (beside more w.store) pointer result frame))
        (let same = asked.same in omega (arith, same, thin)) (let i = enough.paused in let m = asked.within in omega (arith, i, m))
        (Goes v more None None [] b tags d NothingRuns alike (owns_put tags weighs) (fresh_more bs (Some cells) refl h.fresh)))
      where
        alone_there : List (CallFrame Point)
        alone_there = driving pointer result frame ∷ []

    -- it is refused
    refused_row : (fault : Fault) → Refuses p fault → (x' : Source) → tidy z.kept (ends (Failed fault (shown_in z.source f)) from) ≡ x' → RowFor z bounds.rise from x' most to
    refused_row fault refuses x' same =
        let r : FaultsAfter z.target w.trace p.asker.function fault to = record { steps = p.steps; grown = p.steps; last = _; leads = p.leads; faults = refuses } in
        path_wider most (let i = enough.goes in let j = p.within in let k : p.steps + 1 ≤ most = omega arith in k)
        (subst (λ y. RowFor z bounds.rise from y (p.steps + 1) to) same
        (fault_row z bounds.rise from (tidy z.kept (ends (Failed fault (shown_in z.source f)) from)) to p.asker.function fault refl (record { is_trace = refl; goes = refl; runs = refl }) refl (ap (λ x. Failed fault x) (sym p.shown)) r (let i = enough.spawned in let j = p.within in omega (arith, i, j))))

  -- ---- waits

  module _ (q : Awaited) (r : WaitsFor z bounds f l lower pointer result frame w bs c n slots o piece o' q) where
    abbrev item_here : Tagged
    item_here = item r.prepares

    three : ThreePut z (more r.prepares) item_here h.tags (put_waiting q (Suspended (waiting_stack r.prepares)) a) (put_waiting q item_here.callback c)
    three =
        three_put z (more r.prepares) item_here h.tags _ (put_waiting q item_here h.tags) _ (λ d e m. total_put (λ (x : Tagged). count m x.owned) q item_here h.tags d e)
        (put_same (ItemFor z.cut (more r.prepares)) q (Suspended (waiting_stack r.prepares)) item_here a h.tags (is_item r.prepares) (kept r.prepares).items)
        (put_same IsUntagged q item_here item_here.callback h.tags c refl (kept r.prepares).untagged)

    abbrev suspended : Result (Agenda (Thread Position)) Fault → Answer Source
    suspended u = suspends (record from { trace = wait_marks q w.trace }) u

    waits_row : (x' : Source) → option_map (tidy z.kept) (settles z f (InGraph l n) slots o w a below (suspended (put_waiting q (Suspended (waiting_stack r.prepares)) a))) ≡ Some x' → RowFor z bounds.rise from x' most to
    waits_row x' stepped = go _ _ refl refl three
      where
        go : (u : Result (Agenda (Thread Position)) Fault) (v : Result (Agenda Callback) Fault) → put_waiting q (Suspended (waiting_stack r.prepares)) a ≡ u → put_waiting q item_here.callback c ≡ v → ThreePut z (more r.prepares) item_here h.tags u v → RowFor z bounds.rise from x' most to
        go _ _ e i (AllPut b tags d alike weighs) =
            subst (λ y. RowFor z bounds.rise from y most to) (to_state z f (InGraph l n) slots o w a below x' _ (source_state (record w { trace = wait_marks q w.trace }) None b) (ap suspended e) stepped)
            (put_row r.prepares w.jobs (wait_marks q w.trace) b tags d alike weighs (r.waits d i))
        go _ _ e i (NonePut fault) =
            refused_row r.prepares fault (r.faults fault i) x'
            (let s : option_map (tidy z.kept) (settles z f (InGraph l n) slots o w a below (Faults fault)) ≡ Some x' = sym (ap (λ u. option_map (tidy z.kept) (settles z f (InGraph l n) slots o w a below (suspended u))) e) ∙ stepped in cc)

  pub pauses_row : (prim : Primitive) (vs : List Value) → is_common prim ≡ false → ((q : Awaited) → awaited prim vs ≡ Some q → WaitsFor z bounds f l lower pointer result frame w bs c n slots o piece o' q)
      → (x' : Source) → StepsTo (Gives (AsksFor (record { asked = Builtin prim; arguments = vs }))) x' → RowFor z bounds.rise from x' most to
  pauses_row prim vs own waits x' stepped = go (awaited prim vs) refl
    where
      comes : comes_of z f (InGraph l n) slots o w a below (Gives (AsksFor (record { asked = Builtin prim; arguments = vs }))) ≡ waits_by (from_form z) (stack z f (InGraph l n) slots o w a below) from (awaited prim vs)
      comes = primitive_waits (from_form z) (stack z f (InGraph l n) slots o w a below) from prim vs own

      go : (q : Option Awaited) → awaited prim vs ≡ q → RowFor z bounds.rise from x' most to
      go None e = absurd (no_state z f (InGraph l n) slots o w a below x' _ (comes ∙ ap (waits_by (from_form z) (stack z f (InGraph l n) slots o w a below) from) e) stepped)
      go (Some q) e =
          let r = waits q e in
          let arrives : Option Position → Answer Source = λ back. (needed back >>= λ back. Gives (record { frames = frame_of f back slots ∷ below; arriving = None })) >>= λ (j : Stack Position). suspended q r (put_waiting q (Suspended j) a) in
          waits_row q r x'
          (sym (ap (λ u. option_map (tidy z.kept) (settles z f (InGraph l n) slots o w a below u)) (comes ∙ (ap (waits_by (from_form z) (stack z f (InGraph l n) slots o w a below) from) e ∙ ap arrives r.prepares.is_back))) ∙ stepped)

  -- ---- sections

  module _ (g : Text) (vs : List Value) (r : SubmitsSection z bounds f l lower pointer result frame w bs c n slots o piece o' g vs) where
    abbrev item_out : Tagged
    item_out = item r.prepares

    three_out : ThreePut z (more r.prepares) item_out h.tags (section (Suspended (waiting_stack r.prepares)) a) (section item_out.callback c)
    three_out =
        three_put z (more r.prepares) item_out h.tags _ (section item_out h.tags) _ (λ d e m. total_section (λ (x : Tagged). count m x.owned) item_out h.tags d e)
        (sectioned (ItemFor z.cut (more r.prepares)) (Suspended (waiting_stack r.prepares)) item_out a h.tags (is_item r.prepares) (kept r.prepares).items)
        (sectioned IsUntagged item_out item_out.callback h.tags c refl (kept r.prepares).untagged)

    -- the section has the same number in both
    same_number : c.sections_made ≡ a.sections_made
    same_number = sym (h.alike.items.sections_made ∙ h.alike.untagged.sections_made)

    -- what is left in common, where the section has this number
    abbrev left : (number : ℕ) → (taken : List Value) → Shared
    left number taken = record w {
      jobs = w.jobs ++ record { number = number; function = g; arguments = rest_of vs; cells = taken; pointer = first_or Unset vs } ∷ [];
      trace = w.trace ++ Submitted number g ∷ [];
    }

    -- what comes of the cells, of the function, and of the agenda
    abbrev by_cells : Agenda (Thread Position) → Answer (List Value) → Answer Source
    by_cells b m = (m >>= λ taken. Gives (source_state (left a.sections_made taken) (Some (stack z f (InGraph l n) slots o w a below)) b)) >>= λ (t : Source). Gives (record t { running = None })

    abbrev by_function : Agenda (Thread Position) → Option Function → Answer Source
    by_function b k = (needed k >>= λ k. copy_of z.source k (first_or Unset vs) w.store >>= λ taken. Gives (source_state (left a.sections_made taken) (Some (stack z f (InGraph l n) slots o w a below)) b)) >>= λ (t : Source). Gives (record t { running = None })

    abbrev by_agenda : Result (Agenda (Thread Position)) Fault → Answer Source
    by_agenda u =
        (of_result u >>= λ b. needed (function_named z.source g) >>= λ k. copy_of z.source k (first_or Unset vs) w.store >>= λ taken. Gives (source_state (left a.sections_made taken) (Some (stack z f (InGraph l n) slots o w a below)) b))
        >>= λ (t : Source). Gives (record t { running = None })

    module _ (x' : Source) where
      abbrev Steps : Answer Source → Type 0
      Steps u = option_map (tidy z.kept) (settles z f (InGraph l n) slots o w a below u) ≡ Some x'

      steps_as : (u v : Answer Source) → u ≡ v → Steps u → Steps v
      steps_as u v e s = sym (ap (λ t. option_map (tidy z.kept) (settles z f (InGraph l n) slots o w a below t)) e) ∙ s

      taken_row : (b : Agenda (Thread Position)) (tags : Agenda Tagged) (d : Agenda Callback) → AgendaFor z.cut (more r.prepares) b tags d
          → ((m : ℕ) → total (λ (x : Tagged). count m x.owned) tags ≡ count m item_out.owned + total (λ (x : Tagged). count m x.owned) h.tags)
          → section item_out.callback c ≡ Ok d → (m : Answer (List Value)) → section_cells z bounds f l lower pointer result frame w bs c n slots o piece o' g vs ≡ m → Steps (by_cells b m) → RowFor z bounds.rise from x' most to
      taken_row b tags d alike weighs i (Gives taken) e stepped =
          subst (λ y. RowFor z bounds.rise from y most to) (to_state z f (InGraph l n) slots o w a below x' _ (source_state (left a.sections_made taken) None b) refl stepped)
          (put_row r.prepares (left a.sections_made taken).jobs (left a.sections_made taken).trace b tags d alike weighs
          (subst (λ m. Asked r.prepares.back r.prepares.asker (left m taken) d) same_number (r.waits d taken i e)))
      taken_row b tags d alike weighs i (Faults fault) e stepped = refused_row r.prepares fault (r.faults d fault i e) x' (cc)
      taken_row b tags d alike weighs i NoAnswer e stepped = absurd (no_state z f (InGraph l n) slots o w a below x' _ refl stepped)

      function_row : (b : Agenda (Thread Position)) (tags : Agenda Tagged) (d : Agenda Callback) → AgendaFor z.cut (more r.prepares) b tags d
          → ((m : ℕ) → total (λ (x : Tagged). count m x.owned) tags ≡ count m item_out.owned + total (λ (x : Tagged). count m x.owned) h.tags)
          → section item_out.callback c ≡ Ok d → (k : Option Function) → function_named z.source g ≡ k → Steps (by_function b k) → RowFor z bounds.rise from x' most to
      function_row b tags d alike weighs i None e stepped = absurd (no_state z f (InGraph l n) slots o w a below x' _ refl stepped)
      function_row b tags d alike weighs i (Some k) e stepped =
          taken_row b tags d alike weighs i (copy_of z.source k (first_or Unset vs) w.store) (ap (λ o. needed o >>= λ (k : Function). copy_of z.source k (first_or Unset vs) w.store) e) stepped

      out_row : (u : Result (Agenda (Thread Position)) Fault) (v : Result (Agenda Callback) Fault) → section item_out.callback c ≡ v → ThreePut z (more r.prepares) item_out h.tags u v → Steps (by_agenda u) → RowFor z bounds.rise from x' most to
      out_row _ _ i (AllPut b tags d alike weighs) stepped = function_row b tags d alike weighs i (function_named z.source g) refl stepped
      out_row _ _ i (NonePut fault) stepped = refused_row r.prepares fault (r.refused fault i) x' (cc)

  pub submits_row : (g : Text) (vs : List Value) → SubmitsSection z bounds f l lower pointer result frame w bs c n slots o piece o' g vs
      → (x' : Source) → StepsTo (Gives (AsksFor (record { asked = Section g; arguments = vs }))) x' → RowFor z bounds.rise from x' most to
  submits_row g vs r x' stepped =
      let arrives : Option Position → Answer Source = λ back. (needed back >>= λ back. Gives (record { frames = frame_of f back slots ∷ below; arriving = None })) >>= λ (j : Stack Position). by_agenda g vs r (section (Suspended j) a) in
      out_row g vs r x' (section (Suspended (waiting_stack r.prepares)) a) (section (item_out g vs r).callback c) refl (three_out g vs r)
      (steps_as g vs r x' _ (by_agenda g vs r (section (Suspended (waiting_stack r.prepares)) a)) (ap arrives r.prepares.is_back) stepped)
