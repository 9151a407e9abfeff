-- Rows inside a piece: calls of native functions, above the piece, and of cps functions, whose first frame is given to the driver.
use Rattle.std.proofs.Common.{◌≡◌, ℕ, suc, ◌+◌, ◌≤◌, List, [], ◌∷◌, ◌++◌, length, map, slice_set, Option, Some, None, option_map, refl, sym, ◌∙◌, ap, subst, arith}
use Rattle.cpc_base.specs.Bytes.{Text}
use Rattle.cpc_store.specs.declared.values.Class.TheVariants.{Frame}
use Rattle.cpc_store.specs.Store.{Value, Unset, At as Pointer, Blocks, Store, store_cells}
use Rattle.cpc_tree.specs.Points.{Point}
use Rattle.cpc_tree.specs.Registers.{variables}
use Rattle.cpc_tree.specs.Syntax.{Function}
use Rattle.cpc_meaning_matching.proofs.Paths.{path_wider}
use Rattle.cpc_meaning.specs.Act.{Act, Enters}
use Rattle.cpc_meaning.specs.Agenda.{Agenda}
use Rattle.cpc_meaning.specs.Answer.{Answer, Gives, Faults, NoAnswer}
use Rattle.cpc_meaning.specs.Eval.{Slot}
use Rattle.cpc_meaning.specs.Plain.{Frame as CallFrame}
use Rattle.cpc_meaning.specs.Slots.{call_slots}
use Rattle.cpc_meaning.specs.Threads.{Thread}
use Rattle.cpc_meaning.specs.Events.{Callback}
use Rattle.cpc_forms.specs.Flow.{Place, At}
use Rattle.cpc_forms.specs.Split.{Position, InGraph}
use Rattle.cpc_lift_laws.specs.Lifted.{tidy, tidy_slots, tidy_frame}
use Rattle.cpc_convert_image_laws.specs.Held.{beside}
use Rattle.cpc_convert_image_laws.specs.Stacks.{frame_of, NoMore, OneMore}
use Rattle.cpc_chains_store_laws.specs.Chains.{Saved, Top, frame_cells}
use Rattle.cpc_chains_store_laws.specs.Driver.{driving}
use Rattle.cpc_convert_flat_laws.specs.Walks.{running}
use Rattle.cpc_chains_store_laws.proofs.Chains.{chain_push, chain_closed}
use Rattle.cpc_convert_flat_laws.proofs.Owned.{owns_alloc}
use Rattle.cpc_lifted_laws.specs.Related.Bounds.{Bounds, Enough}
use Rattle.cpc_chains_laws.specs.Related.Items.{OneWaits, saved_at, first_saved}
use Rattle.cpc_lifted_laws.specs.Related.Cut.{owned_in}
use Rattle.cpc_chains_laws.specs.Related.Running.{AtNode, PieceWaits, NativeRuns}
use Rattle.cpc_chains_laws.proofs.Related.Entry.{EntryFacts}
use Rattle.cpc_chains_laws.proofs.Related.Fresh.{fresh_freed, fresh_more}
use Rattle.cpc_chains_laws.proofs.Related.Idle.{fine_slots}
use Rattle.cpc_chains_laws.proofs.Related.Inside.{over, inside, CallsNative, CallsCps}
use Rattle.cpc_chains_laws.proofs.Related.Onwards.{Beside}
use Rattle.cpc_chains_laws.proofs.Related.Putting.{agenda_alloc}
use Rattle.cpc_chains_laws.proofs.Related.Relation.{Source, Target, Shared, source_state, world_of, Related, Goes}
use Rattle.cpc_chains_laws.proofs.Related.Rows.{RowFor, Reached, row_at_once, row_reached}
use Rattle.cpc_chains_laws.proofs.Related.Setting.{Setting, from_form, NativeFacts, KeepsFacts}
use Rattle.cpc_chains_laws.proofs.Related.Standing.{here, comes_of, settles, to_state, no_state}
use Rattle.cpc_chains_laws.proofs.Related.Taking.{goes_on}
use Rattle.cpc_chains_laws.proofs.Related.Tidy.{related_tidied, waits_tidied}

module _ (z : Setting) (native : NativeFacts z) (keeps : KeepsFacts z) (bounds : Bounds) (entry : EntryFacts z bounds) (most : ℕ) (enough : Enough bounds most) (f : Text) (l : Place) (lower pointer result frame : Value) (w : Shared) (bs : Blocks) (c : Agenda Callback) (n : ℕ) (slots : List Slot) (o : Option Value) (piece : CallFrame Point) (o' : Option Value) (a : Agenda (Thread Position)) (below : List (CallFrame Position)) (h : Beside z bs a c below lower) where
  -- the states of both
  abbrev from : Source
  from = here z f (InGraph l n) slots o w a below

  abbrev to : Target
  to = inside z bounds f l lower pointer result frame w bs c n slots o piece o'

  abbrev StepsTo : Answer Act → Source → Type 0
  StepsTo u x' = option_map (tidy z.kept) (settles z f (InGraph l n) slots o w a below (comes_of z f (InGraph l n) slots o w a below u)) ≡ Some x'

  -- the state of the source in the function that is entered, over the position at which the value arrives
  abbrev in_callee : Function → Position → List Slot → Store → Source
  in_callee g back entered t = source_state (record w { store = t }) (Some (record { frames = frame_of g.called ((from_form z).code.first g.called) entered ∷ frame_of f back slots ∷ below; arriving = None })) a

  module _ (g : Function) (vs : List Value) (back : Position) (is_back : (from_form z).code.arrival f (InGraph l n) ≡ Some back) where
    comes_stuck : call_slots z.source g vs w.store ≡ NoAnswer → comes_of z f (InGraph l n) slots o w a below (Gives (Enters g vs)) ≡ NoAnswer
    comes_stuck made = simp (made) refl

    comes_in : (entered : List Slot) (t : Store) → call_slots z.source g vs w.store ≡ Gives (entered, t) → comes_of z f (InGraph l n) slots o w a below (Gives (Enters g vs)) ≡ Gives (in_callee g back entered t)
    comes_in entered t made = simp (made, is_back) refl

    -- the variables are made, without a fault
    entered_row : (x' : Source) → StepsTo (Gives (Enters g vs)) x'
        → ((entered : List Slot) (t : Store) → call_slots z.source g vs w.store ≡ Gives (entered, t) → tidy z.kept (in_callee g back entered t) ≡ x' → RowFor z bounds.rise from x' most to) → RowFor z bounds.rise from x' most to
    entered_row x' stepped row = go (call_slots z.source g vs w.store) refl
      where
        go : (u : Answer (List Slot × Store)) → call_slots z.source g vs w.store ≡ u → RowFor z bounds.rise from x' most to
        go (Gives (entered, t)) made = row entered t made (to_state z f (InGraph l n) slots o w a below x' _ (in_callee g back entered t) (comes_in entered t made) stepped)
        go (Faults fault) made = absurd (fine_slots z.source g 0 (variables g) vs w.store fault made)
        go NoAnswer made = absurd (no_state z f (InGraph l n) slots o w a below x' _ (comes_stuck made) stepped)

  -- ---- native functions

  pub calls_row : (g : Function) (vs : List Value) → CallsNative z bounds f l lower pointer result frame w bs c n slots o piece o' g vs → (x' : Source) → StepsTo (Gives (Enters g vs)) x' → RowFor z bounds.rise from x' most to
  calls_row g vs r x' stepped =
      entered_row g vs (InGraph l r.back) r.is_back x' stepped
      (λ entered t made same.
      let e = r.enters entered t made in
      let last : Target = running (world_of w c) (beside bs t) (frame_of g.called e.point entered ∷ over z bounds f l lower pointer result frame r.from) None in
      let frames : List (CallFrame Position) = frame_of f (InGraph l r.back) slots ∷ below in
      path_wider most (let i = enough.goes in let j : 1 ≤ most = omega arith in j)
      (row_at_once z bounds.rise from x' to last e.first
      (subst (λ y. Related z.codes z.cut z.there y last) same
      (related_tidied z native keeps (in_callee g (InGraph l r.back) entered t) last
      (Goes (record w { store = t }) bs _ _ h.owned a h.tags c
      (NativeRuns _ _ None h.owned
      (OneMore g.called ((from_form z).code.first g.called) e.point entered frames (over z bounds f l lower pointer result frame r.from) e.same e.held
      (NoMore frames (over z bounds f l lower pointer result frame r.from)
      (PieceWaits frames (over z bounds f l lower pointer result frame r.from) h.owned
      (λ v held. AtNode f l r.back slots (Some v) lower r.from (Some v) (r.waits v held) below h.saved h.owned h.waits h.chain pointer result frame)))) tt)
      h.alike h.owns h.fresh)))))

  -- ---- cps functions

  pub enters_row : (g : Function) (vs : List Value) → CallsCps z bounds f l lower pointer result frame w bs c n slots o piece o' g vs → (x' : Source) → StepsTo (Gives (Enters g vs)) x' → RowFor z bounds.rise from x' most to
  enters_row g vs r x' stepped =
      entered_row g vs (InGraph (At r.back) r.back) r.is_back x' stepped
      (λ entered t made same.
      let opens = entry.begins (world_of w c) cs w.store t g.called g vs entered Unset waiting (length mid) (Pointer Frame (length bs) 0) (length bs ∷ h.owned) r.named r.given made top in
      let at : Position → Source = λ p. source_state (record w { store = t }) (Some (record { frames = frame_of g.called p (tidy_slots (z.kept g.called p) entered) ∷ map (tidy_frame z.kept) frames; arriving = None })) a in
      path_wider most (let i = enough.calls in let k = r.within in let j : suc r.steps + (3 + bounds.begins) ≤ most = omega arith in j)
      (row_reached z bounds.rise from x' to _ r.steps (suc r.steps) (3 + bounds.begins) bounds.opens refl r.leads
      (subst (λ y. Reached z y (3 + bounds.begins) bounds.opens (store_cells (beside (slice_set cs (length mid) None) t)) w.trace (running (world_of w c) (beside cs w.store) alone_there (Some (Pointer Frame (length mid) 0)))) (sym (ap at opens.3) ∙ same)
      (goes_on z bounds.begins bounds.opens entry.driver w a h.tags c cs first waiting (length mid) (Pointer Frame (length bs) 0) Unset (length bs ∷ h.owned) top
      (agenda_alloc z.cut mid (Some (frame_cells first (Pointer Frame (length bs) 0) Unset)) a h.tags c (agenda_alloc z.cut bs (Some (frame_cells saved lower Unset)) a h.tags c h.alike))
      (owns_alloc mid (frame_cells first (Pointer Frame (length bs) 0) Unset) _ (owns_alloc bs (frame_cells saved lower Unset) (h.owned ++ owned_in h.tags) h.owns))
      (fresh_freed cs (length mid) (fresh_more mid (Some (frame_cells first (Pointer Frame (length bs) 0) Unset)) refl (fresh_more bs (Some (frame_cells saved lower Unset)) refl h.fresh)))
      g.called opens.0 opens.1 (tidy_slots (z.kept g.called (InGraph opens.0 opens.1)) entered) None t (map (tidy_frame z.kept) frames)
      (waits_tidied z native keeps frames waiting (OneWaits f r.back slots below h.saved h.waits)) opens.4 pointer result frame)) (let i = enough.called in let m = r.within in omega (arith, i, m))))
    where
      first : Saved
      first = first_saved z.cut g.called vs

      saved : Saved
      saved = saved_at z.cut f slots r.back

      waiting : List Saved
      waiting = saved ∷ h.saved

      frames : List (CallFrame Position)
      frames = frame_of f (InGraph (At r.back) r.back) slots ∷ below

      mid : Blocks
      mid = bs ++ Some (frame_cells saved lower Unset) ∷ []

      cs : Blocks
      cs = mid ++ Some (frame_cells first (Pointer Frame (length bs) 0) Unset) ∷ []

      alone_there : List (CallFrame Point)
      alone_there = driving pointer result frame ∷ []

      top : Top cs first waiting (length mid) (Pointer Frame (length bs) 0) Unset (length bs ∷ h.owned)
      top =
          chain_push mid first Unset waiting (Pointer Frame (length bs) 0) (length bs ∷ h.owned)
          (chain_closed mid saved h.saved (length bs) lower Unset h.owned (chain_push bs saved Unset h.saved lower h.owned h.chain))
