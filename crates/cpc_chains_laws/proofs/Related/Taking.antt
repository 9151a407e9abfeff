-- A frame is taken up by its piece: where a thread is taken, and where a piece gives a frame to the driver.
use Rattle.std.proofs.Common.{◌≡◌, ℕ, ◌+◌, ◌≤◌, List, [], ◌∷◌, ◌++◌, slice_set, Option, Some, None, refl, arith}
use Rattle.cpc_base.specs.Bytes.{Text}
use Rattle.cpc_num.specs.declared.kinds.Kind.TheVariants.{Int}
use Rattle.cpc_store.specs.declared.values.Class.TheVariants.{Frame}
use Rattle.cpc_store.specs.Store.{Value, Unset, At as Pointer, Blocks, Store, store_cells}
use Rattle.cpc_tree.specs.Syntax.{TyInt}
use Rattle.cpc_meaning.specs.Answer.{Gives}
use Rattle.cpc_meaning.specs.Agenda.{Agenda, Due}
use Rattle.cpc_meaning.specs.Eval.{Slot, assigned}
use Rattle.cpc_meaning.specs.Plain.{Frame as CallFrame}
use Rattle.cpc_meaning.specs.Threads.{Thread}
use Rattle.cpc_meaning.specs.Events.{Callback, CallWith}
use Rattle.cpc_meaning.proofs.Both.{Both}
use Rattle.cpc_meaning.proofs.Agendas.{SameDue}
use Rattle.cpc_forms.specs.Flow.{Place}
use Rattle.cpc_forms.specs.Split.{Position, InGraph}
use Rattle.cpc_convert_image_laws.specs.Held.{beside}
use Rattle.cpc_convert_image_laws.specs.Stacks.{frame_of}
use Rattle.cpc_chains_store_laws.specs.Chains.{Saved, Top, frame_cells}
use Rattle.cpc_convert_flat_laws.specs.Blocks.{Owns, count}
use Rattle.cpc_chains_store_laws.specs.Driver.{DriverFacts, drive_name, driving, entered, with_round}
use Rattle.cpc_convert_flat_laws.specs.Walks.{running}
use Rattle.cpc_convert_flat_laws.proofs.Blocks.{same_number, count_append}
use Rattle.cpc_chains_store_laws.proofs.Chains.{chain_set, chain_patched, chain_taken}
use Rattle.cpc_convert_flat_laws.proofs.Owned.{lives_there, owns_free, owns_set, owns_order, owns_once}
use Rattle.cpc_chains_store_laws.proofs.Pieces.{drive_begins, drive_goes_on}
use Rattle.cpc_chains_laws.specs.Related.Fresh.{AllFresh, beyond}
use Rattle.cpc_lifted_laws.specs.Related.Sums.{total}
use Rattle.cpc_lifted_laws.specs.Related.Cut.{Cut, Tagged, IsUntagged, owned_in}
use Rattle.cpc_chains_laws.specs.Related.Items.{FramesWait, ItemFor}
use Rattle.cpc_chains_laws.specs.Related.Running.{AtNode, PieceRuns}
use Rattle.cpc_chains_laws.proofs.Related.Fresh.{beyond_cells, agenda_beyond, chain_beyond, owns_beyond, fresh_beyond, fresh_taken, set_same}
use Rattle.cpc_lifted_laws.proofs.Related.Owned.{count_owned, with_rest, owned_rest}
use Rattle.cpc_chains_laws.proofs.Related.Items.{agenda_changed, item_kept}
use Rattle.cpc_chains_laws.proofs.Related.Relation.{Source, Shared, AgendaFor, source_state, target_state, world_of, Goes}
use Rattle.cpc_meaning_laws.specs.Cell.Cells.{call_cells}
use Rattle.cpc_chains_laws.proofs.Related.Rows.{RowFor, few_cells, Reached, reached_after, reached_within, row_reached}
use Rattle.cpc_chains_laws.proofs.Related.Setting.{Setting}
use Rattle.cpc_chains_laws.proofs.Related.Entry.{Opens}

-- the frame blocks where a value was given to a frame
abbrev pub given_value : Blocks → ℕ → Saved → (next value : Value) → Blocks
given_value bs b f next v = slice_set bs b (Some (frame_cells f next v))

-- nothing is changed where the value is unset, as it is at a frame that waits
pub unset_given : (bs : Blocks) (f : Saved) (fs : List Saved) (b : ℕ) (next : Value) (owned : List ℕ) → Top bs f fs b next Unset owned → given_value bs b f next Unset ≡ bs
unset_given bs f fs b next owned top = set_same bs b (frame_cells f next Unset) top.cells

-- ---- the agenda without the first of its round

pub rest_alike : (cut : Cut) (bs : Blocks) (a : Agenda (Thread Position)) (tags : Agenda Tagged) (b : Agenda Callback) (ds : List (Due (Thread Position))) (ts : List (Due Tagged)) (es : List (Due Callback))
    → Both (SameDue (ItemFor cut bs)) ds ts → Both (SameDue IsUntagged) ts es → AgendaFor cut bs a tags b → AgendaFor cut bs (with_rest a ds) (with_rest tags ts) (with_rest b es)
rest_alike cut bs a tags b ds ts es h i g = record {
  items = record {
    ready = g.items.ready;
    round = h;
    waiters = g.items.waiters;
    descriptors = g.items.descriptors;
    timers = g.items.timers;
    sections = g.items.sections;
    live = g.items.live;
    now = g.items.now;
    conditions_made = g.items.conditions_made;
    timers_made = g.items.timers_made;
    sections_made = g.items.sections_made;
  };
  untagged = record {
    ready = g.untagged.ready;
    round = i;
    waiters = g.untagged.waiters;
    descriptors = g.untagged.descriptors;
    timers = g.untagged.timers;
    sections = g.untagged.sections;
    live = g.untagged.live;
    now = g.untagged.now;
    conditions_made = g.untagged.conditions_made;
    timers_made = g.untagged.timers_made;
    sections_made = g.untagged.sections_made;
  };
}

-- ---- the rows

module _ (z : Setting) (bound rise : ℕ) (driver : DriverFacts z.target) (w : Shared) (a : Agenda (Thread Position)) (tags : Agenda Tagged) (c : Agenda Callback) where
  -- a frame that a piece takes up: the piece goes to where it stands for this frame of the source
  module _ (cs : Blocks) (f : Saved) (fs : List Saved) (b : ℕ) (below v : Value) (owned : List ℕ) (top : Top cs f fs b below v owned) (g : AgendaFor z.cut cs a tags c) (owns : Owns cs (b ∷ (owned ++ owned_in tags))) (fresh : AllFresh (slice_set cs b None)) (x : Text) (l : Place) (n : ℕ) (slots : List Slot) (o : Option Value) (t : Store) (frames : List (CallFrame Position)) (waits : FramesWait z.cut frames fs) (opens : Opens z bound rise f.piece (world_of w c) cs w.store b x l n slots o below t) where
    -- the state of the source
    abbrev pub resumed_state : Source
    resumed_state = source_state (record w { store = t }) (Some (record { frames = frame_of x (InGraph l n) slots ∷ frames; arriving = o })) a

    -- the blocks once the frame is freed
    abbrev freed_blocks : Blocks
    freed_blocks = beyond opens.more (slice_set cs b None)

    apart : total (λ (t : Tagged). count b t.owned) tags ≡ 0
    apart =
        let once = owns_once cs (b ∷ (owned ++ owned_in tags)) owns b in
        let h = count_owned b tags in
        let i = count_append b owned (owned_in tags) in
        let j = same_number b in
        omega (arith, once, h, i, j)

    pub opened : (pointer result frame : Value) → Reached z resumed_state bound opens.grown (store_cells (beside (slice_set cs b None) t)) w.trace (entered z.target (world_of w c) (beside cs w.store) opens.function opens.locals pointer result frame)
    opened pointer result frame = record {
      steps = opens.steps;
      within = opens.within;
      last = running (world_of w c) (beside freed_blocks t) (opens.piece ∷ driving pointer result (opens.taken frame) ∷ []) None;
      leads = opens.leads pointer result frame;
      goes = refl;
      shows = refl;
      kept = few_cells (store_cells (beside (slice_set cs b None) t)) (store_cells (beside freed_blocks t)) _ (let e = beyond_cells opens.more (slice_set cs b None) in omega (arith, e));
      ends =
          Goes (record w { store = t }) freed_blocks _ _ owned a tags c
          (PieceRuns _ o _ None owned (AtNode x l n slots o below opens.piece None opens.stands frames fs owned waits (chain_beyond opens.more (slice_set cs b None) fs below owned (chain_taken cs f fs b below v owned top)) pointer result (opens.taken frame)))
          (agenda_beyond opens.more z.cut (slice_set cs b None) a tags c
          (record { items = agenda_changed (λ (t : Tagged). count b t.owned) (λ i t r e. item_kept z.cut cs (slice_set cs b None) i t (λ p saved h. chain_set cs b None saved p t.owned e h) r) a tags apart g.items; untagged = g.untagged }))
          (owns_beyond opens.more (slice_set cs b None) (owned ++ owned_in tags) (owns_free cs b (owned ++ owned_in tags) owns))
          (fresh_beyond opens.more (slice_set cs b None) fresh);
    }

    -- the driver takes the frame that a piece returned
    pub goes_on : (pointer result frame : Value) → Reached z resumed_state (3 + bound) rise (store_cells (beside (slice_set cs b None) t)) w.trace (running (world_of w c) (beside cs w.store) (driving pointer result frame ∷ []) (Some (Pointer Frame b 0)))
    goes_on pointer result frame =
        reached_within z resumed_state (3 + bound) (3 + bound) (call_cells z.target opens.function + opens.grown) rise (store_cells (beside (slice_set cs b None) t)) (store_cells (beside (slice_set cs b None) t)) w.trace _ (omega arith) opens.few (omega arith)
        (reached_after z resumed_state 3 (call_cells z.target opens.function) bound opens.grown (store_cells (beside (slice_set cs b None) t)) w.trace (running (world_of w c) (beside cs w.store) (driving pointer result frame ∷ []) (Some (Pointer Frame b 0))) (entered z.target (world_of w c) (beside cs w.store) opens.function opens.locals pointer result (Pointer Frame b 0))
        (drive_goes_on z.target driver (world_of w c) (beside cs w.store) f fs b below v owned top opens.function opens.is_piece pointer result frame opens.locals (beside cs w.store) opens.called) (opened pointer result (Pointer Frame b 0)))

module _ (z : Setting) (k bound rise : ℕ) (fits : 3 + rise ≤ k) (driver : DriverFacts z.target) (w : Shared) (bs : Blocks) (a : Agenda (Thread Position)) (tags : Agenda Tagged) (c : Agenda Callback) (g : AgendaFor z.cut bs a tags c) (owns : Owns bs (owned_in tags)) (fresh : AllFresh bs) where
  module _ (ds : List (Due (Thread Position))) (ts : List (Due Tagged)) (es : List (Due Callback)) (both : Both (SameDue (ItemFor z.cut bs)) ds ts) (bare : Both (SameDue IsUntagged) ts es) (v : Value) (is_int : assigned (TyInt Int) v ≡ Gives v) (f : Saved) (fs : List Saved) (b : ℕ) (below old : Value) (owned : List ℕ) (top : Top bs f fs b below old owned) (first : tags.round ≡ record { item = record { callback = CallWith drive_name (Pointer Frame b 0); owned = b ∷ owned }; result = v } ∷ ts) (is_round : c.round ≡ record { item = CallWith drive_name (Pointer Frame b 0); result = v } ∷ es) where
    -- the block is owned by this item alone
    others_apart : total (λ (t : Tagged). count b t.owned) (with_rest tags ts) ≡ 0
    others_apart =
        let once = owns_once bs (owned_in tags) owns b in
        let e = owned_rest tags _ ts first b in
        let h = count_owned b (with_rest tags ts) in
        let i = count_append b (b ∷ owned) (owned_in (with_rest tags ts)) in
        let j = same_number b in
        omega (arith, once, e, h, i, j)

    owns_rest : Owns bs (b ∷ (owned ++ owned_in (with_rest tags ts)))
    owns_rest = owns_order bs (owned_in tags) (b ∷ (owned ++ owned_in (with_rest tags ts))) (owned_rest tags _ ts first) owns

    -- the frame is taken up, and its piece goes to where it stands for this frame of the source
    pub takes_up : (x : Text) (l : Place) (n : ℕ) (slots : List Slot) (o : Option Value) (t : Store) (frames : List (CallFrame Position)) → FramesWait z.cut frames fs
        → Opens z bound rise f.piece (world_of w (with_rest c es)) (given_value bs b f below v) w.store b x l n slots o below t
        → RowFor z k (source_state w None a) (source_state (record w { store = t }) (Some (record { frames = frame_of x (InGraph l n) slots ∷ frames; arriving = o })) (with_rest a ds)) (5 + bound) (target_state w bs None c)
    takes_up x l n slots o t frames waits opens =
        row_reached z k (source_state w None a) _ (target_state w bs None c) (entered z.target (with_round (world_of w c) es) (beside cs w.store) opens.function opens.locals (Pointer Frame b 0) v (Pointer Frame b 0)) 4 (3 + call_cells z.target opens.function) bound opens.grown refl
        (drive_begins z.target driver (world_of w c) (beside bs w.store) f fs b below old owned top opens.function opens.is_piece es v v is_round is_int opens.locals (beside cs w.store) opens.called)
        (opened z bound rise driver w (with_rest a ds) (with_rest tags ts) (with_rest c es) cs f fs b below v owned (chain_patched bs f fs b below old v owned top) kept
        (owns_set bs b (frame_cells f below v) (b ∷ (owned ++ owned_in (with_rest tags ts))) (lives_there bs b (frame_cells f below old) top.cells) owns_rest)
        (fresh_taken bs b (Some (frame_cells f below v)) fresh) x l n slots o t frames waits opens (Pointer Frame b 0) v (Pointer Frame b 0)) (let h = opens.few in omega (arith, h, fits))
      where
        cs : Blocks
        cs = given_value bs b f below v

        kept : AgendaFor z.cut cs (with_rest a ds) (with_rest tags ts) (with_rest c es)
        kept =
            let r = rest_alike z.cut bs a tags c ds ts es both bare g in
            record {
              items = agenda_changed (λ (t : Tagged). count b t.owned) (λ i t r e. item_kept z.cut bs cs i t (λ p saved h. chain_set bs b (Some (frame_cells f below v)) saved p t.owned e h) r) (with_rest a ds) (with_rest tags ts) others_apart r.items;
              untagged = r.untagged;
            }
