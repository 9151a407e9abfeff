-- The start takes up the first frame of a call: its piece stands before the first node, or gives the frame of the leader that this is to the driver.
use Rattle.std.proofs.Common.{◌≡◌, inl, ℕ, suc, ◌+◌, ◌*◌, ◌≤◌, Bool, true, false, not, ◌&&◌, ◌||◌, ◌==◌, List, [], ◌∷◌, ◌++◌, length, slice_get, slice_set, Option, Some, None, refl, sym, ◌∙◌, ap, subst, arith}
use Rattle.std.proofs.lemmas.List.Sums.{sum_by_push}
use Rattle.cpc_base.specs.Bytes.{Text}
use Rattle.cpc_base.proofs.Truth.{eq_reflexive, or_by_second}
use Rattle.cpc_base.proofs.Lists.{length_of_map}
use Rattle.cpc_tree.specs.Lists.{holds_number}
use Rattle.cpc_tree.specs.Registers.{variables}
use Rattle.cpc_tree.specs.Syntax.{Ty, Function, Program}
use Rattle.cpc_store.specs.declared.values.Class.TheVariants.{Frame}
use Rattle.cpc_store.specs.Store.{Value, Unset, At as Pointer, Blocks, Store, block_cells, cells_in, store_cells}
use Rattle.cpc_meaning.specs.Answer.{Gives}
use Rattle.cpc_meaning.specs.Eval.{Slot}
use Rattle.cpc_meaning.specs.Plain.{Frame as CallFrame}
use Rattle.cpc_meaning.specs.Runs.{slots_registers}
use Rattle.cpc_meaning.specs.Slots.{call_slots}
use Rattle.cpc_meaning.specs.Ways.{ways}
use Rattle.cpc_meaning.proofs.Stores.{set_length}
use Rattle.cpc_meaning_laws.specs.Cell.Cells.{call_cells}
use Rattle.cpc_forms.specs.Flow.{Place, Start, At, is_leader, owner_by}
use Rattle.cpc_forms.specs.Graph.{graph_of}
use Rattle.cpc_forms.specs.Pieces.{is_owned_by}
use Rattle.cpc_forms.specs.Split.{Position, InGraph, first_position, owner_or, split_form}
use Rattle.cpc_graph_laws.specs.Laws.{flow_in}
use Rattle.cpc_graph_laws.proofs.Leaders.{inside}
use Rattle.cpc_graph_laws.proofs.Marked.{leaders_are_listed}
use Rattle.cpc_graph_laws.proofs.Owning.{place_self}
use Rattle.cpc_lift_laws.specs.Lifted.{tidy_slots}
use Rattle.cpc_lift_laws.specs.Search.{closure}
use Rattle.cpc_convert_image_laws.specs.Held.{beside}
use Rattle.cpc_chains_store_laws.specs.Chains.{Saved, frame_cells, Top}
use Rattle.cpc_chains_store_laws.specs.Driver.{any_pointer, DriverFacts, driving, entered}
use Rattle.cpc_meaning.specs.Eval.{Fits}
use Rattle.cpc_convert_flat_laws.specs.Walks.{World, Walk, Climbs, running, frame_at}
use Rattle.cpc_convert_flat_laws.proofs.Walks.{rise_climbs, climbs_append}
use Rattle.cpc_chains_event.specs.BoxingLaws.{VariablesHaveSizes}
use Rattle.cpc_chains_event.specs.Lines.{save_of}
use Rattle.cpc_convert_routines.specs.Named.{TheStart}
use Rattle.cpc_convert_routines.specs.Names.{piece_name}
use Rattle.cpc_convert_routines.specs.Routines.{Routine, routine_of, closure_of, is_plain, variable_of, local_of, passed, owner_number}
use Rattle.cpc_chains_event.specs.Rows.{owner_at, onwards_all, reached, stubs_of}
use Rattle.cpc_convert_routines.specs.Nodes.{is_own, rows_nodes}
use Rattle.cpc_chains_event.proofs.Heads.{pieces_begin}
use Rattle.cpc_convert_routines.proofs.Numbers.{chosen_has}
use Rattle.cpc_lifted_laws.specs.Related.Cut.{value_in, copied}
use Rattle.cpc_chains_laws.specs.Related.Items.{first_saved, saved_at}
use Rattle.cpc_chains_laws.proofs.Related.Entry.{Opens}
use Rattle.cpc_chains_laws.proofs.Related.Setting.{Setting}
use Rattle.cpc_chains_laws.proofs.Related.Starting.{StartLeads, start_opens}
use Rattle.cpc_chains_laws.proofs.Related.Tidy.{slot_kept}
use Rattle.cpc_lifted_laws.specs.Native.Instance.{cut_of}
use Rattle.cpc_lifted_laws.specs.Accepted.Lifted.{kept_of}
use Rattle.cpc_chains_laws.proofs.Native.SpawnerCall.{passed_few}
use Rattle.cpc_lifted_laws.specs.Piece.Known.{CpsKnown}
use Rattle.cpc_chains_laws.specs.Piece.Rows.{row_point}
use Rattle.cpc_chains_laws.specs.Piece.Stood.{NodeAt, NoneArrives, AtRow}
use Rattle.cpc_chains_laws.proofs.Piece.Frames.{registers_all, code, saves_of, kept_number, with_frame}
use Rattle.cpc_chains_laws.proofs.Piece.Scopes.{q}
use Rattle.cpc_chains_laws.proofs.Piece.Stubs.{stub_walk}
use Rattle.cpc_chains_laws.proofs.Piece.Tidied.{closure_kept, stood_tidied}
use Rattle.cpc_chains_laws.proofs.Piece.Ways.{is_split}
use Rattle.cpc_chains_laws.specs.Entry.Taken.{KeptIn, IsValue, IsBlock, FrameTaken, CallTaken}
use Rattle.cpc_chains_laws.proofs.Entry.Counting.{start_locals, start_number}
use Rattle.cpc_chains_laws.proofs.Entry.Leaders.{EntryAt, entry_at, entry_row}
use Rattle.cpc_chains_laws.proofs.Entry.Opening.{FirstRow, first_row, is_piece, locals_number, called_locals, is_called, call_number, opening_steps, opening_walk}
use Rattle.cpc_chains_laws.proofs.Entry.Resuming.{z, chain_fits, saved_is, leader_opens}
use Rattle.cpc_chains_laws.proofs.Entry.Starting.{all_number, owner, cells, args, loading, locals, all_kept, locals_there, pointer_there, boxed}

-- with more steps allowed
opens_wider : (z' : Setting) (a b rise : ℕ) (name : Text) (w : World) (bs : Blocks) (s : Store) (k : ℕ) (f : Text) (l : Place) (n : ℕ) (slots : List Slot) (o : Option Value) (next : Value) (t : Store) → a ≤ b → Opens z' a rise name w bs s k f l n slots o next t → Opens z' b rise name w bs s k f l n slots o next t
opens_wider z' a b rise name w bs s k f l n slots o next t h g = record {
  function = g.function;
  is_piece = g.is_piece;
  locals = g.locals;
  called = g.called;
  steps = g.steps;
  within = let i = g.within in omega (arith, h, i);
  piece = g.piece;
  more = g.more;
  taken = g.taken;
  grown = g.grown;
  few = g.few;
  leads = g.leads;
  stands = g.stands;
}

-- ---- slots that forget what they need not keep

kept_same : (slots slots' : List Slot) (t : Ty) (k : ℕ) (b : Bool) → slice_get slots' k ≡ slice_get slots k → KeptIn slots t k b → KeptIn slots' t k b
kept_same slots slots' t k _ e (IsValue v g fits) = IsValue v (e ∙ g) fits
kept_same slots slots' t k _ e (IsBlock n g) = IsBlock n (e ∙ g)

copied_same : (slots slots' : List Slot) (ks : List ℕ) → ((k : ℕ) → holds_number ks k ≡ true → slice_get slots' k ≡ slice_get slots k) → copied slots' ks ≡ copied slots ks
copied_same slots slots' [] h = refl
copied_same slots slots' (k ∷ ks) h =
    ap (λ o. value_in o ∷ copied slots' ks) (h k (ap (λ b. b || holds_number ks k) (eq_reflexive k))) ∙ ap (λ vs. value_in (slice_get slots k) ∷ vs) (copied_same slots slots' ks (λ j i. h j (or_by_second (k == j) (holds_number ks j) i)))

module _ (p : Program) (fine : CallFrame Position → Option Value → Type 0) (given : Text → List Value → Type 0) (f : Function) (known : CpsKnown p f) (sizes : VariablesHaveSizes p f) (vs : List Value) (call : CallTaken p f vs) where
  abbrev r : Routine
  r = routine_of p f

  abbrev zz : Setting
  zz = z p fine given f known

  abbrev entry : ℕ
  entry = (graph_of p f).entry

  abbrev name : Text
  name = piece_name f.called Start

  abbrev its : Function
  its = code p f known Start (owner p f known sizes vs call)

  -- the first position
  first_is : (l : Place) → slice_get r.split.owners entry ≡ Some (Some l) → (split_form p).code.first f.called ≡ InGraph l entry
  first_is l e = ap (λ o. first_position o ((ways p).code.first f.called)) (is_split p f known) ∙ ap (λ o. InGraph (owner_or Start o) entry) e

  module _ (w : World) (bs : Blocks) (s t : Store) (slots : List Slot) (made : call_slots p f vs s ≡ Gives (slots, t)) (v : Value) (below : List Saved) (b : ℕ) (next : Value) (owned : List ℕ) (top : Top bs (first_saved (cut_of p) f.called vs) below b next v owned) where
    abbrev fits : Fits any_pointer next
    fits = chain_fits bs below next owned top.below

    abbrev freed : Blocks
    freed = slice_set bs b None

    -- the locals behind the opening
    abbrev there : List Slot
    there = locals p f known sizes vs call next v fits b s t slots made

    -- the opening leads to the first row
    opens_at : (n : ℕ) (first : FirstRow p r Start n) (pointer result frame : Value)
        → Climbs (q p f known) w.trace (opening_steps p f known Start TheStart) (length (cells p f known sizes vs call next v fits)) (entered (q p f known) w (beside bs s) its (called_locals p f known Start TheStart b) pointer result frame)
        (running w (beside freed t) (frame_at name (row_point p r Start n first.row) there ∷ driving pointer result frame ∷ []) None)
    opens_at n first pointer result frame =
        opening_walk p f known Start TheStart w pointer result frame (beside bs s) b (cells p f known sizes vs call next v fits) top.cells (next ∷ args p f known sizes vs call) (loading p f known sizes vs call next v fits)
        there (beside bs t) (boxed p f known sizes vs call next v fits b s t slots made bs top.cells w pointer result frame) top.cells (pointer_there p f known sizes vs call next v fits b s t slots made) n first

    -- the cells of the first frame, and those of the call of the piece
    cells_number : length (cells p f known sizes vs call next v fits) ≤ 3 + length (variables f)
    cells_number = let a = all_number (passed f) vs call.fit in let b = passed_few f in omega (arith, a, b)

    called_number : call_cells (q p f known) its ≤ 7 + length (variables f)
    called_number = let a = call_number p f known Start TheStart in let b = start_locals p known.names f known.found.cps in omega (arith, a, b)

    abbrev keep : Place → ℕ → Bool
    keep l k = kept_of p f.called (InGraph l entry) k

    -- ---- the first node is the start's own

    own_opens : (bound rise : ℕ) → 6 + 3 * length (variables f) ≤ bound → 10 + 2 * length (variables f) ≤ rise → EntryAt p f Start → Opens zz bound rise name w bs s b f.called Start entry (tidy_slots (keep Start) slots) None next t
    own_opens bound rise wide high at = record {
      function = its;
      is_piece = is_piece p f known Start TheStart;
      locals = called_locals p f known Start TheStart b;
      called = is_called p f known Start TheStart b (beside bs s);
      steps = opening_steps p f known Start TheStart;
      within = let a = start_number p known.names f known.found.cps in omega (arith, a, wide);
      piece = frame_at name (row_point p r Start entry first.row) there;
      more = 0;
      taken = λ k. k;
      grown = length (cells p f known sizes vs call next v fits);
      few = let a = cells_number in let b = called_number in omega (arith, a, b, high);
      leads = opens_at entry first;
      stands =
          stood_tidied p known.names f.called Start entry slots None next (frame_at name (row_point p r Start entry first.row) there) None
          (AtRow f Start entry slots None next there known.found node (entry_row p f) first.row (locals_there p f known sizes vs call next v fits b s t slots made) NoneArrives);
    }
      where
        node : NodeAt p f Start entry
        node = record { owner = TheStart; keeps = ap (owner_or Start) at.owned; owned = at.owned; node = at.node; is_node = at.is_node }

        first : FirstRow p r Start entry
        first = let begins = (pieces_begin p f).own Start (ap (λ o. is_owned_by Start (owner_at o)) at.owned) (entry_row p f) in first_row p r Start entry begins.0 begins.1

    -- ---- the first node leads

    module _ (leads : is_leader (flow_in p f) entry ≡ true) (at : EntryAt p f (At entry)) where
      abbrev l : Place
      l = At entry

      abbrev tidied : List Slot
      tidied = tidy_slots (keep l) slots

      -- the start keeps what the leader keeps
      same_kept : closure_of r Start ≡ closure_of r l
      same_kept = ap (λ m. closure r.ways r.uses (length (variables f)) (owner_number m)) (ap (owner_or Start) at.owned)

      in_start : (k : ℕ) → holds_number (closure_of r l) k ≡ true → holds_number (closure_of r Start) k ≡ true
      in_start k h = ap (λ ks. holds_number ks k) same_kept ∙ h

      same_slot : (k : ℕ) → holds_number (closure_of r l) k ≡ true → slice_get tidied k ≡ slice_get slots k
      same_slot k h = slot_kept (keep l) slots k (closure_kept p known.names f known.found.cps l refl entry k h)

      leader_owns : is_own r.split l entry ≡ true
      leader_owns = ap (λ o. is_owned_by l (owner_at o)) at.owned ∙ place_self l

      -- its frame
      pub frame_taken : FrameTaken p f entry tidied None
      frame_taken = record {
        cps = known.found.cps;
        there = leader_owns;
        kept = λ k h. kept_same slots tidied (variable_of r k).type k (is_plain r k) (same_slot k h) (all_kept p f known sizes vs call next v fits b s t slots made k (in_start k h));
        arrives = λ u e. absurd (cc);
      }

      -- it has a row in the start's piece
      stub_there : holds_number (stubs_of r Start) entry ≡ true
      stub_there =
          chosen_has (λ n. holds_number (reached r Start) n && not (is_own r.split Start n)) r.split.leaders entry (leaders_are_listed (flow_in p f) (inside p f) entry ∙ leads)
          (ap (λ c. (c || holds_number (onwards_all r (rows_nodes r.split Start)) entry) && not (is_own r.split Start entry)) (eq_reflexive entry) ∙ ap (λ o. not (is_owned_by Start (owner_at o))) at.owned)

      first : FirstRow p r Start entry
      first = first_row p r Start entry [] ((pieces_begin p f).way leads)

      abbrev steps : ℕ
      steps = opening_steps p f known Start TheStart + (suc (suc (suc (length (saves_of p f known Start TheStart entry)))) + 1)

      steps_number : steps ≤ 10 + 4 * length (variables f)
      steps_number =
          let a = start_number p known.names f known.found.cps in
          let c = length_of_map (λ k. save_of (local_of r k)) (closure_of r l) in
          let d = kept_number p f known Start TheStart l in
          omega (arith, a, c, d)

      -- the frame that the row makes
      frame_is : with_frame p f known Start TheStart freed slots next entry ≡ freed ++ Some (frame_cells (saved_at (cut_of p) f.called tidied entry) next Unset) ∷ []
      frame_is =
          ap (λ us. freed ++ Some (frame_cells (record { piece = piece_name f.called l; values = us }) next Unset) ∷ []) (sym (copied_same slots tidied (closure_of r l) same_slot))
          ∙ ap (λ x. freed ++ Some (frame_cells x next Unset) ∷ []) (sym (saved_is p fine given f known tidied entry))

      -- the registers of the piece behind its opening
      there_number : slots_registers there ≤ 7 + length (variables f)
      there_number =
          let at' = locals_there p f known sizes vs call next v fits b s t slots made in
          let a = registers_all there at'.registers in
          let m = at'.number in
          let c = locals_number p f known Start TheStart in
          let d = start_locals p known.names f known.found.cps in
          omega (arith, a, m, c, d)

      abbrev saves_number : ℕ
      saves_number = suc (suc (suc (length (saves_of p f known Start TheStart entry)))) + 1

      saves_few : saves_number ≤ 4 + length (variables f)
      saves_few =
          let c = length_of_map (λ k. save_of (local_of r k)) (closure_of r l) in
          let d = kept_number p f known Start TheStart l in
          omega (arith, c, d)

      -- the leader's frame, in the place of the first
      made_cells : store_cells (beside freed t) ≤ store_cells (beside (freed ++ Some (frame_cells (saved_at (cut_of p) f.called tidied entry) next Unset) ∷ []) t)
      made_cells =
          let a : cells_in (freed ++ Some (frame_cells (saved_at (cut_of p) f.called tidied entry) next Unset) ∷ []) ≡ cells_in freed + length (frame_cells (saved_at (cut_of p) f.called tidied entry) next Unset) = sum_by_push block_cells freed (Some (frame_cells (saved_at (cut_of p) f.called tidied entry) next Unset)) in
          omega (arith, a)

      start_leads : StartLeads zz (10 + 4 * length (variables f)) (18 + 3 * length (variables f)) name w bs s b f.called entry tidied next t
      start_leads = record {
        function = its;
        is_piece = is_piece p f known Start TheStart;
        locals = called_locals p f known Start TheStart b;
        called = is_called p f known Start TheStart b (beside bs s);
        steps = steps;
        within = steps_number;
        grown = 11 + 2 * length (variables f);
        few = let a = called_number in omega (arith, a);
        leads = λ pointer result frame.
            let opened = opens_at entry first pointer result frame in
            let low = cells_number in
            let few = saves_few in
            let there_few = there_number in
            let made_few = made_cells in
            climbs_append (opening_steps p f known Start TheStart) saves_number (length (cells p f known sizes vs call next v fits)) saves_number (7 + length (variables f)) (11 + 2 * length (variables f)) _ _ _ opened (omega (arith, there_few, made_few))
            (rise_climbs saves_number saves_number _ _
            (subst (λ k. Walk (q p f known) w.trace (suc (suc (suc (length (saves_of p f known Start TheStart entry)))) + 1) (running w (beside freed t) (frame_at name (row_point p r Start entry first.row) there ∷ driving pointer result frame ∷ []) None)
            (running w (beside (freed ++ Some (frame_cells (saved_at (cut_of p) f.called tidied entry) next Unset) ∷ []) t) (driving pointer result frame ∷ []) (Some (Pointer Frame k 0)))) (set_length bs b None)
            (subst (λ cs. Walk (q p f known) w.trace (suc (suc (suc (length (saves_of p f known Start TheStart entry)))) + 1) (running w (beside freed t) (frame_at name (row_point p r Start entry first.row) there ∷ driving pointer result frame ∷ []) None)
            (running w (beside cs t) (driving pointer result frame ∷ []) (Some (Pointer Frame (length freed) 0)))) frame_is
            (stub_walk p f known Start TheStart entry stub_there first.row in_start slots there next (locals_there p f known sizes vs call next v fits b s t slots made) w freed t pointer result frame)))) (omega (arith, low)) (omega (arith, few));
      }

      start_grown : start_leads.grown ≡ 11 + 2 * length (variables f)
      unfolding start_leads
      start_grown = refl

      start_called : (rise : ℕ) → 21 + 4 * length (variables f) ≤ rise → call_cells zz.target start_leads.function + (14 + 3 * length (variables f)) ≤ rise
      unfolding start_leads
      start_called rise high = let a : call_cells zz.target its ≤ 7 + length (variables f) = called_number in let z : call_cells zz.target its + (14 + 3 * length (variables f)) ≤ rise = omega (arith, a, high) in z

      saved_number : 3 + length (saved_at (cut_of p) f.called tidied entry).values ≤ 3 + length (variables f)
      saved_number =
          let e = ap (λ (x : Saved). length x.values) (saved_is p fine given f known tidied entry) in
          let c = length_of_map (λ (k : ℕ). value_in (slice_get tidied k)) (closure_of r l) in
          let d = kept_number p f known Start TheStart l in
          omega (arith, e, c, d)

      pub leader_first : (driver : DriverFacts zz.target) (bound rise : ℕ) → 21 + 5 * length (variables f) ≤ bound → 21 + 4 * length (variables f) ≤ rise → Opens zz bound rise name w bs s b f.called l entry tidied None next t
      leader_first driver bound rise wide high =
          opens_wider zz ((10 + 4 * length (variables f)) + (3 + (8 + length (variables f)))) bound rise name w bs s b f.called l entry tidied None next t (omega (arith, wide))
          (start_opens zz driver (10 + 4 * length (variables f)) (8 + length (variables f)) (18 + 3 * length (variables f)) (10 + 2 * length (variables f)) (3 + length (variables f)) (14 + 3 * length (variables f)) rise name w bs s b f.called entry tidied next t below owned v (first_saved (cut_of p) f.called vs) top start_leads
          (λ cs top'. leader_opens p fine given f known (8 + length (variables f)) (10 + 2 * length (variables f)) (omega arith) (omega arith) w cs t entry tidied None Unset below (length bs) next owned frame_taken (inl refl) (λ e. refl) top')
          (let a = saved_number in omega (arith, a)) (let a = start_grown in omega (arith, a)) (omega arith) (start_called rise high))

    -- ---- either

    abbrev pub Begun : (bound rise : ℕ) → Type 0
    Begun bound rise = (l : Place) × (n : ℕ) × ((split_form p).code.first f.called ≡ InGraph l n) × Opens zz bound rise name w bs s b f.called l n (tidy_slots (kept_of p f.called (InGraph l n)) slots) None next t

    pub call_opens : (driver : DriverFacts zz.target) (bound rise : ℕ) → 21 + 5 * length (variables f) ≤ bound → 21 + 4 * length (variables f) ≤ rise → Begun bound rise
    call_opens driver bound rise wide high = go (is_leader (flow_in p f) entry) refl (entry_at p f)
      where
        go : (c : Bool) → is_leader (flow_in p f) entry ≡ c → EntryAt p f (owner_by c Start entry) → Begun bound rise
        go true e at = (At entry, entry, first_is (At entry) at.owned, leader_first e at driver bound rise wide high)
        go false e at = (Start, entry, first_is Start at.owned, own_opens bound rise (omega (arith, wide)) (omega (arith, high)) at)
