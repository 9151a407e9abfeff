-- Rows inside a piece: statements and tests in place, ways, faults, what is asked and answered in place, and spawns.
use Rattle.std.proofs.Common.{◌≡◌, ℕ, suc, ◌+◌, ◌<◌, ◌≤◌, Bool, true, List, [], ◌∷◌, ◌++◌, length, Option, Some, None, option_map, refl, sym, ◌∙◌, ap, subst, arith}
use Rattle.std.specs.List.{All}
use Rattle.cpc_base.specs.Bytes.{Text}
use Rattle.cpc_num.specs.declared.kinds.Fault.{Fault}
use Rattle.cpc_store.specs.declared.values.Class.TheVariants.{Frame}
use Rattle.cpc_store.specs.Store.{Value, Unset, Null, At as Pointer, Blocks, Store, store_cells}
use Rattle.cpc_tree.specs.Points.{Point, Found}
use Rattle.cpc_tree.specs.Trace.{Going, Failed, is_over}
use Rattle.cpc_meaning_matching.specs.Simulation.{Last}
use Rattle.cpc_meaning_matching.proofs.Paths.{path_wider}
use Rattle.cpc_meaning.specs.Act.{Act, GoesOn, AsksFor}
use Rattle.cpc_meaning.specs.Agenda.{Agenda, ready_one}
use Rattle.cpc_meaning.specs.Answer.{Answer, Gives, Faults, ◌>>=◌}
use Rattle.cpc_meaning.specs.Eval.{Slot}
use Rattle.cpc_meaning.specs.Machine.{next, ends, settled, runs_on, fault_function, after_done, reply, asked_by}
use Rattle.cpc_meaning.specs.Plain.{Frame as CallFrame, Stack, Asks, frames_step, answered, asking}
use Rattle.cpc_meaning.specs.Requests.{Request, ToSpawn}
use Rattle.cpc_meaning.specs.Runs.{registers, slots_registers}
use Rattle.cpc_meaning.specs.Start.{before_underscores}
use Rattle.cpc_meaning.specs.Threads.{Thread, Pending, threads_of, shown_in}
use Rattle.cpc_meaning.specs.Events.{Callback, callbacks, callbacks_of}
use Rattle.cpc_forms.specs.Flow.{Place}
use Rattle.cpc_forms.specs.Split.{Position, InGraph}
use Rattle.cpc_lift_laws.specs.Lifted.{tidy}
use Rattle.cpc_convert_image_laws.specs.Held.{IsHeld, IsHeldStore, beside}
use Rattle.cpc_convert_image_laws.specs.Relations.{Meets, BothGive, BothFault, Stuck}
use Rattle.cpc_chains_store_laws.specs.Chains.{frame_cells}
use Rattle.cpc_convert_flat_laws.specs.Walks.{Quiet, FaultsAfter, running}
use Rattle.cpc_chains_store_laws.proofs.Chains.{chain_alloc}
use Rattle.cpc_lifted_laws.specs.Related.Bounds.{Bounds, Enough}
use Rattle.cpc_chains_laws.specs.Related.Items.{first_saved, driven}
use Rattle.cpc_lifted_laws.specs.Related.Cut.{Tagged}
use Rattle.cpc_chains_laws.proofs.Related.Asking.{Agendas, asked_alike}
use Rattle.cpc_chains_laws.proofs.Related.Entry.{EntryFacts}
use Rattle.cpc_chains_laws.proofs.Related.Fresh.{fresh_more}
use Rattle.cpc_chains_laws.proofs.Related.Inside.{over, inside, Onward, GoesTo, Replied, ReplyStuck, ReplyFaults, ReplyGoes, Replies, SpawnsCall}
use Rattle.cpc_chains_laws.proofs.Related.Onwards.{Beside, onwards, onward_reached}
use Rattle.cpc_chains_laws.proofs.Related.Putting.{agenda_alloc, agenda_ready, owns_ready, pending_put}
use Rattle.cpc_chains_laws.proofs.Related.Relation.{Source, Target, Shared, source_state, target_state, world_of, Related, IsOver}
use Rattle.cpc_chains_laws.proofs.Related.Rows.{RowFor, Reached, row_reached, row_marked}
use Rattle.cpc_chains_laws.proofs.Related.Setting.{Setting, from_form, to_form, NativeFacts, KeepsFacts, Known, is_answered}
use Rattle.cpc_chains_laws.proofs.Related.Standing.{stack, here, comes_of, settles, moved, to_state, no_state, replied_of, arrives_at, replied_by, replied_to}
use Rattle.cpc_chains_laws.proofs.Related.Walking.{fault_row}

-- ---- what follows an answer

-- a state of the target after the first step of a row, by the next state of the source: both are over; or the target shows what the source
-- shows, and some steps lead from it to where it stands for the source
pub data Then (z : Setting) (n g c : ℕ) (s : Source) (u : Target) : Type 0 where
  Ended : is_over s.outcome ≡ true → u.trace ≡ s.trace → u.outcome ≡ s.outcome → Then z n g c s u
  GoingOn : s.outcome ≡ Going → Quiet s.trace u → registers u.running ≤ c → (Known z (tidy z.kept s) → Reached z (tidy z.kept s) n g (store_cells u.store) s.trace u) → Then z n g c s u

module _ (z : Setting) (k n g c : ℕ) (fits : c + g ≤ k) (x x' : Source) (y : Target) (going : x.outcome ≡ Going) (known : Known z x') where
  then_row : (s : Source) (u : Target) → next (callbacks z.target) y ≡ Some u → Then z n g c s u → tidy z.kept s ≡ x' → RowFor z k x x' (suc n) y
  then_row s u e (Ended ended trace outcome) same = Last (suc n) y u e (omega arith) (subst (λ t. Related z.codes z.cut z.there t u) same (IsOver (tidy z.kept s) u ended trace outcome))
  then_row s u e (GoingOn goes quiet few onto) same =
      let r = onto (subst (λ t. Known z t) (sym same) known) in
      subst (λ t. RowFor z k x t (suc n) y) same (row_marked z k x (tidy z.kept s) y u n g (store_cells u.store) c e quiet r (omega (arith, few)) fits)

  -- a step of each, that settles their answers
  pub answer_row : (u : Answer Source) (v : Answer Target) → Meets (Then z n g c) u v → x.trace ≡ y.trace → before_underscores (fault_function y.running) ≡ shown_in z.source (fault_function x.running)
      → option_map (tidy z.kept) (settled (threads_of (from_form z)) x u) ≡ Some x' → next (callbacks z.target) y ≡ settled (callbacks z.target) y v → RowFor z k x x' (suc n) y
  answer_row _ _ (BothGive s u r) tr shown e i = then_row s u i r (cc)
  answer_row _ _ (BothFault fault) tr shown e i =
      let s : Source = ends (Failed fault (shown_in z.source (fault_function x.running))) x in
      let t : Target = ends (Failed fault (before_underscores (fault_function y.running))) y in
      let same : tidy z.kept s ≡ x' = cc in
      Last (suc n) y t i (omega arith) (subst (λ r. Related z.codes z.cut z.there r t) same (IsOver (tidy z.kept s) t refl (sym tr) (ap (λ f. Failed fault f) shown)))
  answer_row _ _ (Stuck v) tr shown e i = absurd (cc)

-- ---- rows

module _ (z : Setting) (native : NativeFacts z) (keeps : KeepsFacts z) (bounds : Bounds) (entry : EntryFacts z bounds) (most : ℕ) (enough : Enough bounds most) (f : Text) (l : Place) (lower pointer result frame : Value) (w : Shared) (bs : Blocks) (c : Agenda Callback) (n : ℕ) (slots : List Slot) (o : Option Value) (piece : CallFrame Point) (o' : Option Value) (a : Agenda (Thread Position)) (below : List (CallFrame Position)) (h : Beside z bs a c below lower) (thin : slots_registers piece.slots ≤ bounds.piece) where
  -- the states of both
  abbrev from : Source
  from = here z f (InGraph l n) slots o w a below

  abbrev to : Target
  to = inside z bounds f l lower pointer result frame w bs c n slots o piece o'

  -- the step of the source that this act makes
  abbrev StepsTo : Answer Act → Source → Type 0
  StepsTo u x' = option_map (tidy z.kept) (settles z f (InGraph l n) slots o w a below (comes_of z f (InGraph l n) slots o w a below u)) ≡ Some x'

  abbrev rest : ℕ
  rest = bounds.onward + (3 + bounds.resumes)

  -- how far live cells rise where control goes on
  abbrev more_cells : ℕ
  more_cells = bounds.onward + bounds.takes

  -- in place
  pub moves_row : (t : Bool) (s : Store) (changed : List Slot) → ((p : Position) → (from_form z).code.goes f (InGraph l n) t ≡ Some p → GoesTo z bounds f l lower pointer result frame w bs c n slots o piece o' s changed p)
      → (x' : Source) → StepsTo (Gives (GoesOn t s changed)) x' → Known z x' → RowFor z bounds.rise from x' most to
  moves_row t s changed goes x' stepped known = go ((from_form z).code.goes f (InGraph l n) t) refl
    where
      go : (p : Option Position) → (from_form z).code.goes f (InGraph l n) t ≡ p → RowFor z bounds.rise from x' most to
      go None e = absurd (no_state z f (InGraph l n) slots o w a below x' _ (ap (moved z f (InGraph l n) slots o w a below s changed) e) stepped)
      go (Some p) e =
          let r = goes p e in
          let same = to_state z f (InGraph l n) slots o w a below x' _ (onwards z native keeps bounds entry f l lower pointer result frame (record w { store = s }) a below changed p) (ap (moved z f (InGraph l n) slots o w a below s changed) e) stepped in
          let onto = onward_reached z native keeps bounds entry f l lower pointer result frame (record w { store = s }) bs a c below h changed r.from p r.onward (subst (λ y. Known z y) (sym same) known) in
          path_wider most (let i = enough.goes in let j : suc rest ≤ most = omega arith in j)
          (subst (λ y. RowFor z bounds.rise from y (suc rest) to) same
          (row_marked z bounds.rise from _ to (running (world_of w c) (beside bs s) (over z bounds f l lower pointer result frame r.from) None) rest more_cells (store_cells (beside bs s)) (3 + bounds.piece) r.first
          (record { is_trace = refl; goes = refl; runs = refl }) onto (let j = r.same in omega (arith, j, thin)) enough.in_place))

  -- a fault
  pub breaks_row : (fault : Fault) (name : Text) → before_underscores name ≡ shown_in z.source f → (r : FaultsAfter z.target w.trace name fault to) → r.steps < bounds.leads → r.grown ≤ bounds.leads
      → (x' : Source) → StepsTo (Faults fault) x' → RowFor z bounds.rise from x' most to
  breaks_row fault name shown r less few x' stepped =
      let same : tidy z.kept (ends (Failed fault (shown_in z.source f)) from) ≡ x' = cc in
      path_wider most (let i = enough.goes in let j : r.steps + 1 ≤ most = omega arith in j)
      (subst (λ y. RowFor z bounds.rise from y (r.steps + 1) to) same (fault_row z bounds.rise from (tidy z.kept (ends (Failed fault (shown_in z.source f)) from)) to name fault refl (record { is_trace = refl; goes = refl; runs = refl }) refl (ap (λ x. Failed fault x) (sym shown)) r (let i = enough.spawned in omega (arith, few, i))))

  -- ---- what is answered in place

  module _ (replies : Replies z bounds f l lower pointer result frame w bs c n slots o piece o') where
    abbrev there : Stack Point
    there = record { frames = over z bounds f l lower pointer result frame piece; arriving = o' }

    abbrev Meet : Answer Source → Answer Target → Type 0
    Meet = Meets (Then z rest more_cells (3 + bounds.piece))

    reply_alike : (v : Shared) (b : Agenda (Thread Position)) (tags : Agenda Tagged) (d : Agenda Callback) → IsHeldStore z.codes v.store → v.store.auto ≡ w.store.auto → Agendas z bs h.owned b tags d → (u : Value) → IsHeld z.codes u
        → Meet (reply (from_form z) (stack z f (InGraph l n) slots o w a below) u (source_state v (Some (stack z f (InGraph l n) slots o w a below)) b)) (reply (to_form z) there u (target_state v bs (Some there) d))
    reply_alike v b tags d held boxes g u is_held = go (asking ((from_form z).code.stood f (InGraph l n))) refl
      where
        answer : Answer Target
        answer = reply (to_form z) there u (target_state v bs (Some there) d)

        beside_it : Beside z bs b d below lower
        beside_it = record { tags = tags; saved = h.saved; owned = h.owned; waits = h.waits; chain = h.chain; alike = g.alike; owns = g.owns; fresh = g.fresh }

        moves : (t : Bool) (s : Store) (changed : List Slot) (first : CallFrame Point) → slots_registers first.slots ≡ slots_registers piece.slots → ((q : Position) → (from_form z).code.goes f (InGraph l n) t ≡ Some q → Onward z bounds f l lower pointer result frame bs s changed first q)
            → (p : Option Position) → (from_form z).code.goes f (InGraph l n) t ≡ p → Meet (replied_to z f (InGraph l n) slots o below v b u s changed p) (Gives (running (world_of v d) (beside bs s) (over z bounds f l lower pointer result frame first) None))
        moves t s changed first kept onward None e = Stuck _
        moves t s changed first kept onward (Some p) e =
            BothGive _ _ (GoingOn refl (record { is_trace = refl; goes = refl; runs = refl }) (omega (arith, kept, thin)) (λ known. onward_reached z native keeps bounds entry f l lower pointer result frame (record v { store = s }) bs b d below beside_it changed first p (onward p e) known))

        by : (r : Answer Act) → Replied z bounds f l lower pointer result frame w bs c n slots o piece o' v.store u r → Meet (replied_of z f (InGraph l n) slots o below v b u r) answer
        by _ ReplyStuck = Stuck _
        by _ (ReplyFaults fault e) = subst (λ x. Meet (Faults fault) (x >>= after_done (target_state v bs (Some there) d))) (sym e) (BothFault fault)
        by _ (ReplyGoes t s changed first e kept onward) =
            subst (λ x. Meet (replied_to z f (InGraph l n) slots o below v b u s changed ((from_form z).code.goes f (InGraph l n) t)) (x >>= after_done (target_state v bs (Some there) d))) (sym e)
            (moves t s changed first kept onward ((from_form z).code.goes f (InGraph l n) t) refl)

        go : (g : Option Found) → asking ((from_form z).code.stood f (InGraph l n)) ≡ g → Meet (replied_by z f (InGraph l n) slots o below v b u g) answer
        go None e = Stuck _
        go (Some g) e = by (arrives_at z f (InGraph l n) slots o below v b u g) (replies v.store u g held boxes is_held e)

    pub requests_row : (r : Request) → is_answered r.asked ≡ true → All (IsHeld z.codes) r.arguments → frames_step (to_form z) (beside bs w.store) o' (over z bounds f l lower pointer result frame piece) ≡ Gives (Asks r)
        → before_underscores piece.function ≡ shown_in z.source f → IsHeldStore z.codes w.store → (x' : Source) → StepsTo (Gives (AsksFor r)) x' → Known z x' → RowFor z bounds.rise from x' most to
    requests_row r answered held e shown source x' stepped known =
        path_wider most (let i = enough.goes in let j : suc rest ≤ most = omega arith in j)
        (answer_row z bounds.rise rest more_cells (3 + bounds.piece) enough.in_place from x' to refl known (asked_by (threads_of (from_form z)) (stack z f (InGraph l n) slots o w a below) from r.asked r.arguments) (asked_by (callbacks_of (to_form z)) there to r.asked r.arguments)
        (asked_alike z bs h.owned w.store.auto (stack z f (InGraph l n) slots o w a below) there (Then z rest more_cells (3 + bounds.piece)) (λ x y k same. Ended refl (sym same) refl) reply_alike w a h.tags c source refl
        (record { alike = h.alike; owns = h.owns; fresh = h.fresh }) r.asked answered r.arguments held)
        refl shown stepped (ap (λ u. settled (callbacks z.target) to (u >>= runs_on (callbacks z.target) to there)) e))

  -- ---- spawns

  pub spawns_row : (g : Text) (vs : List Value) → SpawnsCall z bounds f l lower pointer result frame w bs c n slots o piece o' g vs
      → (x' : Source) → StepsTo (Gives (AsksFor (record { asked = ToSpawn g; arguments = vs }))) x' → Known z x' → RowFor z bounds.rise from x' most to
  spawns_row g vs r x' stepped known = go ((from_form z).code.goes f (InGraph l n) true) refl
    where
      cells : List Value
      cells = frame_cells (first_saved z.cut g vs) Null Unset

      more : Blocks
      more = bs ++ Some cells ∷ []

      item : Tagged
      item = driven (Pointer Frame (length bs) 0) (length bs ∷ [])

      spawned : Agenda (Thread Position)
      spawned = ready_one (Pending g vs) a

      beside_it : Beside z more spawned (ready_one item.callback c) below lower
      beside_it = record {
        tags = ready_one item h.tags;
        saved = h.saved;
        owned = h.owned;
        waits = h.waits;
        chain = chain_alloc bs (Some cells) h.saved lower h.owned h.chain;
        alike = agenda_ready z.cut more (Pending g vs) item a h.tags c (pending_put z.cut bs g vs) (agenda_alloc z.cut bs (Some cells) a h.tags c h.alike);
        owns = owns_ready bs cells h.owned item.callback h.tags h.owns;
        fresh = fresh_more bs (Some cells) refl h.fresh;
      }

      asked : Option Position → Answer Source
      asked p = replied_to z f (InGraph l n) slots o below w spawned Unset w.store slots p

      comes : comes_of z f (InGraph l n) slots o w a below (Gives (AsksFor (record { asked = ToSpawn g; arguments = vs }))) ≡ asked ((from_form z).code.goes f (InGraph l n) true)
      comes = ap (λ s. replied_by z f (InGraph l n) slots o below w spawned Unset (asking s)) r.is_spawn

      go : (p : Option Position) → (from_form z).code.goes f (InGraph l n) true ≡ p → RowFor z bounds.rise from x' most to
      go None e = absurd (no_state z f (InGraph l n) slots o w a below x' _ (comes ∙ ap asked e) stepped)
      go (Some p) e =
          let same = to_state z f (InGraph l n) slots o w a below x' _ (onwards z native keeps bounds entry f l lower pointer result frame w spawned below slots p) (comes ∙ ap asked e) stepped in
          path_wider most (let i = enough.goes in let k = r.within in let j : suc r.steps + rest ≤ most = omega arith in j)
          (row_reached z bounds.rise from x' to _ r.steps r.grown rest more_cells refl r.leads
          (subst (λ y. Reached z y rest more_cells (store_cells (beside more w.store)) w.trace (running (world_of w (ready_one item.callback c)) (beside more w.store) (over z bounds f l lower pointer result frame r.from) None)) same
          (onward_reached z native keeps bounds entry f l lower pointer result frame w more spawned (ready_one item.callback c) below beside_it slots r.from p (r.onward p e) (subst (λ y. Known z y) (sym same) known))) (let i = enough.spawned in let j = r.few in omega (arith, i, j)))
