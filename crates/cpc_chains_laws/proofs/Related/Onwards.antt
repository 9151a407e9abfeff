-- Where control goes on in a piece: to where it stands for the frame of the source, or through the driver to the piece of another leader.
use Rattle.std.proofs.Common.{◌≡◌, ℕ, ◌+◌, ◌≤◌, List, [], ◌∷◌, ◌++◌, length, map, slice_set, Option, Some, None, refl, sym, ap, subst, arith}
use Rattle.std.proofs.lemmas.List.Sums.{sum_by_push}
use Rattle.cpc_base.specs.Bytes.{Text}
use Rattle.cpc_store.specs.declared.values.Class.TheVariants.{Frame}
use Rattle.cpc_store.specs.Store.{Value, Unset, At as Pointer, Blocks, Store, block_cells, cells_in, store_cells}
use Rattle.cpc_tree.specs.Points.{Point}
use Rattle.cpc_meaning.specs.Agenda.{Agenda}
use Rattle.cpc_meaning.specs.Eval.{Slot}
use Rattle.cpc_meaning.specs.Plain.{Frame as CallFrame}
use Rattle.cpc_meaning.specs.Threads.{Thread}
use Rattle.cpc_meaning.specs.Events.{Callback}
use Rattle.cpc_meaning.proofs.Stores.{set_last}
use Rattle.cpc_forms.specs.Flow.{Place, At}
use Rattle.cpc_forms.specs.Split.{Position, InGraph}
use Rattle.cpc_lift_laws.specs.Lifted.{tidy, tidy_slots, tidy_frame}
use Rattle.cpc_convert_image_laws.specs.Held.{beside}
use Rattle.cpc_convert_image_laws.specs.Stacks.{frame_of}
use Rattle.cpc_chains_store_laws.specs.Chains.{Saved, Chain, Top, frame_cells}
use Rattle.cpc_convert_flat_laws.specs.Blocks.{Owns}
use Rattle.cpc_convert_flat_laws.specs.Walks.{Walk, running}
use Rattle.cpc_chains_store_laws.proofs.Chains.{chain_push}
use Rattle.cpc_convert_flat_laws.proofs.Owned.{owns_alloc}
use Rattle.cpc_convert_flat_laws.proofs.Walks.{rise_climbs, climbs_more}
use Rattle.cpc_lifted_laws.specs.Related.Bounds.{Bounds}
use Rattle.cpc_chains_laws.specs.Related.Fresh.{AllFresh, beyond}
use Rattle.cpc_chains_laws.specs.Related.Items.{FramesWait, saved_at}
use Rattle.cpc_lifted_laws.specs.Related.Cut.{Tagged, owned_in}
use Rattle.cpc_chains_laws.specs.Related.Running.{AtNode, PieceRuns}
use Rattle.cpc_chains_laws.proofs.Related.Fresh.{fresh_freed, fresh_more, beyond_cells}
use Rattle.cpc_chains_laws.proofs.Related.Inside.{over, alone, Onward, Stays, Jumps}
use Rattle.cpc_chains_laws.proofs.Related.Putting.{agenda_alloc}
use Rattle.cpc_chains_laws.proofs.Related.Relation.{Source, Shared, AgendaFor, source_state, world_of, Goes}
use Rattle.cpc_chains_laws.proofs.Related.Rows.{few_cells, Reached, reached_after, reached_within, reached_tidied}
use Rattle.cpc_chains_laws.proofs.Related.Setting.{Setting, NativeFacts, KeepsFacts, Known}
use Rattle.cpc_chains_laws.proofs.Related.Entry.{EntryFacts, Opens}
use Rattle.cpc_chains_laws.proofs.Related.Taking.{goes_on}
use Rattle.cpc_chains_laws.proofs.Related.Tidy.{saved_tidied, waits_tidied}

-- What there is beside a running piece: the frames below, which are the chain of this pointer, and the agendas of both, which stand for each
-- other. The blocks of all chains are just the live ones, and no value has arrived at a frame.
pub record Beside (z : Setting) (bs : Blocks) (a : Agenda (Thread Position)) (c : Agenda Callback) (below : List (CallFrame Position)) (lower : Value) : Type 0 where
  pub tags : Agenda Tagged
  pub saved : List Saved
  pub owned : List ℕ
  pub waits : FramesWait z.cut below saved
  pub chain : Chain bs saved lower owned
  pub alike : AgendaFor z.cut bs a tags c
  pub owns : Owns bs (owned ++ owned_in tags)
  pub fresh : AllFresh bs

-- a block that was made and freed has no cells, nor have others
left_cells : (bs : Blocks) (x : Option (List Value)) (n : ℕ) (s : Store) → store_cells (beside (beyond n (slice_set (bs ++ x ∷ []) (length bs) None)) s) ≡ store_cells (beside bs s)
left_cells bs x n s =
    let a = beyond_cells n (slice_set (bs ++ x ∷ []) (length bs) None) in
    let b = ap (λ (cs : Blocks). cells_in cs) (set_last bs x None) in
    let c : cells_in (bs ++ None ∷ []) ≡ cells_in bs + 0 = sum_by_push block_cells bs None in
    omega (arith, a, b, c)

module _ (z : Setting) (native : NativeFacts z) (keeps : KeepsFacts z) (bounds : Bounds) (entry : EntryFacts z bounds) (f : Text) (l : Place) (lower pointer result frame : Value) where
  -- the state of the source at this position
  abbrev pub onwards : Shared → Agenda (Thread Position) → List (CallFrame Position) → List Slot → Position → Source
  onwards w a below slots to = source_state w (Some (record { frames = frame_of f to slots ∷ below; arriving = None })) a

  module _ (w : Shared) (bs : Blocks) (a : Agenda (Thread Position)) (c : Agenda Callback) (below : List (CallFrame Position)) (h : Beside z bs a c below lower) (slots : List Slot) (from : CallFrame Point) where
    -- the piece of the leader takes up its frame
    jumps_reached : (n steps : ℕ) → steps ≤ bounds.onward
        → Walk z.target w.trace steps (running (world_of w c) (beside bs w.store) (over z bounds f l lower pointer result frame from) None)
        (running (world_of w c) (beside (bs ++ Some (frame_cells (saved_at z.cut f slots n) lower Unset) ∷ []) w.store) (alone z bounds f l lower pointer result frame) (Some (Pointer Frame (length bs) 0)))
        → Known z (tidy z.kept (onwards w a below slots (InGraph (At n) n)))
        → Reached z (tidy z.kept (onwards w a below slots (InGraph (At n) n))) (bounds.onward + (3 + bounds.resumes)) (bounds.onward + bounds.takes) (store_cells (beside bs w.store)) w.trace (running (world_of w c) (beside bs w.store) (over z bounds f l lower pointer result frame from) None)
    jumps_reached n steps within walk known =
        reached_within z _ (steps + (3 + bounds.resumes)) (bounds.onward + (3 + bounds.resumes)) (steps + bounds.takes) (bounds.onward + bounds.takes) (store_cells (beside bs w.store)) freed_cells w.trace _ (omega arith) (omega arith)
        (let e = left_cells bs (Some (frame_cells saved lower Unset)) 0 w.store in omega (arith, e)) (reached_after z _ steps steps (3 + bounds.resumes) bounds.takes freed_cells w.trace _ _ walked there)
      where
        tidied : List Slot
        tidied = tidy_slots (z.kept f (InGraph (At n) n)) slots

        saved : Saved
        saved = saved_at z.cut f tidied n

        cs : Blocks
        cs = bs ++ Some (frame_cells saved lower Unset) ∷ []

        top : Top cs saved h.saved (length bs) lower Unset h.owned
        top = chain_push bs saved Unset h.saved lower h.owned h.chain

        -- the live blocks once the leader's frame is freed
        freed_cells : ℕ
        freed_cells = store_cells (beside (slice_set cs (length bs) None) w.store)

        opens : Opens z bounds.resumes bounds.takes (z.cut.piece f (At n)) (world_of w c) cs w.store (length bs) f (At n) n tidied None lower w.store
        opens = entry.jumps (world_of w c) cs w.store f n tidied h.saved (length bs) lower h.owned (known.running (frame_of f (InGraph (At n) n) tidied) (map (tidy_frame z.kept) below) None refl) top

        walked : Walk z.target w.trace steps (running (world_of w c) (beside bs w.store) (over z bounds f l lower pointer result frame from) None)
            (running (world_of w c) (beside cs w.store) (alone z bounds f l lower pointer result frame) (Some (Pointer Frame (length bs) 0)))
        walked =
            subst (λ (x : Saved). Walk z.target w.trace steps (running (world_of w c) (beside bs w.store) (over z bounds f l lower pointer result frame from) None)
            (running (world_of w c) (beside (bs ++ Some (frame_cells x lower Unset) ∷ []) w.store) (alone z bounds f l lower pointer result frame) (Some (Pointer Frame (length bs) 0)))) (sym (saved_tidied z native keeps f n slots)) walk

        there : Reached z (tidy z.kept (onwards w a below slots (InGraph (At n) n))) (3 + bounds.resumes) bounds.takes freed_cells w.trace (running (world_of w c) (beside cs w.store) (alone z bounds f l lower pointer result frame) (Some (Pointer Frame (length bs) 0)))
        there =
            goes_on z bounds.resumes bounds.takes entry.driver w a h.tags c cs saved h.saved (length bs) lower Unset h.owned top
            (agenda_alloc z.cut bs (Some (frame_cells saved lower Unset)) a h.tags c h.alike)
            (owns_alloc bs (frame_cells saved lower Unset) (h.owned ++ owned_in h.tags) h.owns)
            (fresh_freed cs (length bs) (fresh_more bs (Some (frame_cells saved lower Unset)) refl h.fresh))
            f (At n) n tidied None w.store (map (tidy_frame z.kept) below) (waits_tidied z native keeps below h.saved h.waits) opens
            pointer result frame

    -- control goes on
    pub onward_reached : (to : Position) → Onward z bounds f l lower pointer result frame bs w.store slots from to → Known z (tidy z.kept (onwards w a below slots to))
        → Reached z (tidy z.kept (onwards w a below slots to)) (bounds.onward + (3 + bounds.resumes)) (bounds.onward + bounds.takes) (store_cells (beside bs w.store)) w.trace (running (world_of w c) (beside bs w.store) (over z bounds f l lower pointer result frame from) None)
    onward_reached _ (Stays n piece steps within walk there) known =
        reached_within z _ bounds.onward (bounds.onward + (3 + bounds.resumes)) bounds.onward (bounds.onward + bounds.takes) (store_cells (beside bs w.store)) (store_cells (beside bs w.store)) w.trace _ (omega arith) (omega arith) (omega arith)
        (reached_tidied z native keeps (onwards w a below slots (InGraph l n)) bounds.onward bounds.onward (store_cells (beside bs w.store)) w.trace _
        (record {
          steps = steps;
          within = within;
          last = running (world_of w c) (beside bs w.store) (over z bounds f l lower pointer result frame piece) None;
          leads = climbs_more steps steps bounds.onward _ _ within (rise_climbs steps steps _ _ (walk (world_of w c)));
          ends =
              Goes w bs _ _ h.owned a h.tags c
              (PieceRuns _ None _ None h.owned (AtNode f l n slots None lower piece None there below h.saved h.owned h.waits h.chain pointer result frame)) h.alike h.owns h.fresh;
          goes = refl;
          shows = refl;
          kept = few_cells (store_cells (beside bs w.store)) (store_cells (beside bs w.store)) _ (omega arith);
        }))
    onward_reached _ (Jumps n steps within walk) known = jumps_reached n steps within (walk (world_of w c)) known
