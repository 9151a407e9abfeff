-- The row of a return inside a piece: the frame below is given to the driver with the value, or the thread is over.
use Rattle.std.proofs.Common.{◌≡◌, ℕ, suc, ◌+◌, ◌≤◌, List, [], ◌∷◌, ◌++◌, map, slice_set, Option, Some, None, option_map, refl, sym, ◌∙◌, ap, subst, arith}
use Rattle.cpc_base.specs.Bytes.{Text}
use Rattle.cpc_store.specs.declared.values.Class.TheVariants.{Frame}
use Rattle.cpc_store.specs.Store.{Value, Unset, Null, At as Pointer, Blocks, Store, store_cells}
use Rattle.cpc_tree.specs.Points.{Point}
use Rattle.cpc_meaning_matching.proofs.Paths.{path_wider}
use Rattle.cpc_meaning.specs.Act.{Leaves}
use Rattle.cpc_meaning.specs.Agenda.{Agenda}
use Rattle.cpc_meaning.specs.Answer.{Answer, Gives}
use Rattle.cpc_meaning.specs.Eval.{Slot}
use Rattle.cpc_meaning.specs.Machine.{runs_on}
use Rattle.cpc_meaning.specs.Plain.{Frame as CallFrame, returned_to}
use Rattle.cpc_meaning.specs.Threads.{Thread, threads_of}
use Rattle.cpc_meaning.specs.Events.{Callback}
use Rattle.cpc_forms.specs.Flow.{Place, At}
use Rattle.cpc_forms.specs.Split.{Position, InGraph}
use Rattle.cpc_lift_laws.specs.Lifted.{tidy, tidy_slots, tidy_frame}
use Rattle.cpc_convert_image_laws.specs.Held.{beside}
use Rattle.cpc_convert_image_laws.specs.Stacks.{frame_of}
use Rattle.cpc_chains_store_laws.specs.Chains.{Saved, Chain, Top, frame_cells}
use Rattle.cpc_convert_flat_laws.specs.Blocks.{Owns, count}
use Rattle.cpc_chains_store_laws.specs.Driver.{driving}
use Rattle.cpc_convert_flat_laws.specs.Walks.{Walk, running, idle}
use Rattle.cpc_convert_flat_laws.proofs.Blocks.{same_number, count_append}
use Rattle.cpc_chains_store_laws.proofs.Chains.{chain_set, chain_opened, chain_ended, chain_patched, Opened}
use Rattle.cpc_convert_flat_laws.proofs.Owned.{lives_there, owns_set, owns_once}
use Rattle.cpc_chains_store_laws.proofs.Pieces.{drive_finishes}
use Rattle.cpc_lifted_laws.specs.Related.Bounds.{Bounds, Enough}
use Rattle.cpc_lifted_laws.specs.Related.Sums.{total}
use Rattle.cpc_lifted_laws.specs.Related.Cut.{Cut, Tagged, owned_in}
use Rattle.cpc_chains_laws.specs.Related.Items.{FramesWait, NoneWait, OneWaits, saved_at}
use Rattle.cpc_chains_laws.specs.Related.Running.{NothingRuns}
use Rattle.cpc_chains_laws.proofs.Related.Entry.{EntryFacts}
use Rattle.cpc_chains_laws.proofs.Related.Fresh.{fresh_top, fresh_taken}
use Rattle.cpc_chains_laws.proofs.Related.Inside.{inside, GivesBack, ReturnsValue}
use Rattle.cpc_lifted_laws.proofs.Related.Owned.{count_owned}
use Rattle.cpc_chains_laws.proofs.Related.Items.{agenda_changed, item_kept}
use Rattle.cpc_chains_laws.proofs.Related.Onwards.{Beside}
use Rattle.cpc_chains_laws.proofs.Related.Relation.{Source, Target, Shared, AgendaFor, source_state, world_of, Related, Goes}
use Rattle.cpc_chains_laws.proofs.Related.Rows.{RowFor, Reached, row_reached, row_finished}
use Rattle.cpc_chains_laws.proofs.Related.Setting.{Setting, from_form, NativeFacts, KeepsFacts, Known}
use Rattle.cpc_chains_laws.proofs.Related.Standing.{stack, here, comes_of, settles, to_state}
use Rattle.cpc_chains_laws.proofs.Related.Taking.{given_value, goes_on}
use Rattle.cpc_chains_laws.proofs.Related.Tidy.{saved_tidied, waits_tidied}

-- frames that wait: none, or one at a leader over others
data Lowest (cut : Cut) (below : List (CallFrame Position)) (saved : List Saved) : Type 0 where
  Nothing : below ≡ [] → saved ≡ [] → Lowest cut below saved
  Something : (f : Text) (n : ℕ) (slots : List Slot) (others : List (CallFrame Position)) (more : List Saved) → below ≡ frame_of f (InGraph (At n) n) slots ∷ others → saved ≡ saved_at cut f slots n ∷ more → FramesWait cut others more → Lowest cut below saved

lowest : (cut : Cut) (below : List (CallFrame Position)) (saved : List Saved) → FramesWait cut below saved → Lowest cut below saved
lowest cut _ _ NoneWait = Nothing refl refl
lowest cut _ _ (OneWaits f n slots others more waits) = Something f n slots others more refl refl waits

module _ (z : Setting) (native : NativeFacts z) (keeps : KeepsFacts z) (bounds : Bounds) (entry : EntryFacts z bounds) (most : ℕ) (enough : Enough bounds most) (f : Text) (l : Place) (lower pointer result frame : Value) (w : Shared) (bs : Blocks) (c : Agenda Callback) (n : ℕ) (slots : List Slot) (o : Option Value) (piece : CallFrame Point) (o' : Option Value) (a : Agenda (Thread Position)) (below : List (CallFrame Position)) (h : Beside z bs a c below lower) where
  -- the states of both
  abbrev from : Source
  from = here z f (InGraph l n) slots o w a below

  abbrev to : Target
  to = inside z bounds f l lower pointer result frame w bs c n slots o piece o'

  abbrev alone_there : List (CallFrame Point)
  alone_there = driving pointer result frame ∷ []

  module _ (v : Value) (t : Store) (r : ReturnsValue z bounds f l lower pointer result frame w bs c n slots o piece o' v t) (x' : Source) (known : Known z x') where
    abbrev returned : List (CallFrame Position) → Answer Source
    returned xs = runs_on (threads_of (from_form z)) from (stack z f (InGraph l n) slots o w a below) (returned_to xs v t)

    abbrev Stepped : Type 0
    Stepped = option_map (tidy z.kept) (settles z f (InGraph l n) slots o w a below (returned below)) ≡ Some x'

    -- nothing is below: the thread is over
    over_row : Stepped → below ≡ [] → h.saved ≡ [] → RowFor z bounds.rise from x' most to
    over_row stepped none bare =
        let ended = chain_ended bs lower h.owned (subst (λ fs. Chain bs fs lower h.owned) bare h.chain) in
        let same = to_state z f (InGraph l n) slots o w a below x' (returned below) (source_state (record w { store = t }) None a) (ap returned none) stepped in
        let g = r.ends ended.0 in
        path_wider most (let i = enough.goes in let k = g.within in let j : suc g.steps + (2 + 1) ≤ most = omega arith in j)
        (row_finished z bounds.rise from x' to (running (world_of w c) (beside bs t) alone_there (Some Null)) (idle (world_of w c) (beside bs t)) (suc g.steps) 2 refl
        (subst (λ p. Walk z.target w.trace (suc g.steps) to (running (world_of w c) (beside bs t) alone_there (Some p))) ended.0 g.leads)
        (drive_finishes z.target entry.driver (world_of w c) (beside bs t) pointer result frame) (let i = enough.ended in let m = g.within in omega (arith, i, m))
        (subst (λ y. Related z.codes z.cut z.there y (idle (world_of w c) (beside bs t))) same
        (Goes (record w { store = t }) bs None None [] a h.tags c NothingRuns h.alike (subst (λ ns. Owns bs (ns ++ owned_in h.tags)) ended.1 h.owns) h.fresh)))

    -- a frame is below: its piece takes it up, with the value
    module _ (stepped : Stepped) (y : Text) (m : ℕ) (its : List Slot) (others : List (CallFrame Position)) (more : List Saved) (is_below : below ≡ frame_of y (InGraph (At m) m) its ∷ others) (is_saved : h.saved ≡ saved_at z.cut y its m ∷ more) (waits : FramesWait z.cut others more) where
      abbrev tidied : List Slot
      tidied = tidy_slots (z.kept y (InGraph (At m) m)) its

      abbrev saved : Saved
      saved = saved_at z.cut y tidied m

      opened : Opened bs saved more lower h.owned
      opened = chain_opened bs saved more lower h.owned (subst (λ fs. Chain bs fs lower h.owned) (is_saved ∙ ap (λ (x : Saved). x ∷ more) (sym (saved_tidied z native keeps y m its))) h.chain)

      abbrev b : ℕ
      b = opened.number

      top : Top bs saved more b opened.next Unset opened.rest
      top = subst (λ u. Top bs saved more b opened.next u opened.rest) (fresh_top bs saved more b opened.next opened.arriving opened.rest opened.top h.fresh) opened.top

      abbrev cs : Blocks
      cs = given_value bs b saved opened.next v

      owns : Owns bs (b ∷ (opened.rest ++ owned_in h.tags))
      owns = subst (λ ns. Owns bs (ns ++ owned_in h.tags)) opened.is_owned h.owns

      apart : total (λ (x : Tagged). count b x.owned) h.tags ≡ 0
      apart =
          let once = owns_once bs (b ∷ (opened.rest ++ owned_in h.tags)) owns b in
          let e = count_owned b h.tags in
          let i = count_append b opened.rest (owned_in h.tags) in
          let j = same_number b in
          omega (arith, once, e, i, j)

      alike : AgendaFor z.cut cs a h.tags c
      alike = record {
        items = agenda_changed (λ (x : Tagged). count b x.owned) (λ i x r e. item_kept z.cut bs cs i x (λ p saves chain. chain_set bs b (Some (frame_cells saved opened.next v)) saves p x.owned e chain) r) a h.tags apart h.alike.items;
        untagged = h.alike.untagged;
      }

      patched : Top cs saved more b opened.next v opened.rest
      patched = chain_patched bs saved more b opened.next Unset v opened.rest top

      given : GivesBack z bounds f l lower pointer result frame w bs c n slots o piece o' cs t
      given = r.goes saved more b opened.next opened.rest opened.is_pointer top

      abbrev resumed : Source
      resumed = source_state (record w { store = t }) (Some (record { frames = frame_of y (InGraph (At m) m) its ∷ others; arriving = Some v })) a

      same : tidy z.kept resumed ≡ x'
      same = to_state z f (InGraph l n) slots o w a below x' (returned below) resumed (ap returned is_below) stepped

      below_row : RowFor z bounds.rise from x' most to
      below_row =
          path_wider most (let i = enough.goes in let k = given.within in let j : suc given.steps + (3 + bounds.resumes) ≤ most = omega arith in j)
          (row_reached z bounds.rise from x' to (running (world_of w c) (beside cs t) alone_there (Some (Pointer Frame b 0))) given.steps (suc given.steps) (3 + bounds.resumes) bounds.takes refl
          (subst (λ p. Walk z.target w.trace (suc given.steps) to (running (world_of w c) (beside cs t) alone_there (Some p))) opened.is_pointer given.leads)
          (subst (λ s. Reached z s (3 + bounds.resumes) bounds.takes (store_cells (beside (slice_set cs b None) t)) w.trace (running (world_of w c) (beside cs t) alone_there (Some (Pointer Frame b 0)))) same
          (goes_on z bounds.resumes bounds.takes entry.driver (record w { store = t }) a h.tags c cs saved more b opened.next v opened.rest patched alike
          (owns_set bs b (frame_cells saved opened.next v) (b ∷ (opened.rest ++ owned_in h.tags)) (lives_there bs b (frame_cells saved opened.next Unset) top.cells) owns)
          (fresh_taken bs b (Some (frame_cells saved opened.next v)) h.fresh)
          y (At m) m tidied (Some v) t (map (tidy_frame z.kept) others) (waits_tidied z native keeps others more waits)
          (entry.resumes (world_of w c) cs t y m tidied v more b opened.next opened.rest
          (known.running (frame_of y (InGraph (At m) m) tidied) (map (tidy_frame z.kept) others) (Some v) (sym (ap (λ (s : Source). s.running) same))) patched)
          pointer result frame)) (let i = enough.spawned in let m = given.within in omega (arith, i, m)))

    pub returns_row : option_map (tidy z.kept) (settles z f (InGraph l n) slots o w a below (comes_of z f (InGraph l n) slots o w a below (Gives (Leaves v t)))) ≡ Some x' → RowFor z bounds.rise from x' most to
    returns_row stepped = go (lowest z.cut below h.saved h.waits)
      where
        go : Lowest z.cut below h.saved → RowFor z bounds.rise from x' most to
        go (Nothing none bare) = over_row stepped none bare
        go (Something y m its others more is_below is_saved waits) = below_row stepped y m its others more is_below is_saved waits
