-- The start of a function whose first node is a leader: its piece makes the frame of the leader, whose piece takes it up.
use Rattle.std.proofs.Common.{◌≡◌, ℕ, suc, ◌+◌, ◌≤◌, List, [], ◌∷◌, ◌++◌, length, slice_set, Some, None, sym, ◌∙◌, ap, subst, arith}
use Rattle.std.proofs.lemmas.List.Sums.{sum_by_push}
use Rattle.cpc_base.specs.Bytes.{Text}
use Rattle.cpc_store.specs.declared.values.Class.TheVariants.{Frame}
use Rattle.cpc_store.specs.Store.{Value, Unset, At as Pointer, Blocks, Store, block_cells, cells_in, store_cells}
use Rattle.cpc_tree.specs.Syntax.{Function}
use Rattle.cpc_meaning.specs.Answer.{Gives}
use Rattle.cpc_meaning.specs.Eval.{Slot}
use Rattle.cpc_meaning.specs.Slots.{call_slots}
use Rattle.cpc_meaning.proofs.Stores.{set_length, set_last}
use Rattle.cpc_forms.specs.Flow.{At}
use Rattle.cpc_convert_image_laws.specs.Held.{beside}
use Rattle.cpc_chains_store_laws.specs.Chains.{Saved, Top, frame_cells}
use Rattle.cpc_chains_store_laws.specs.Driver.{DriverFacts, IsPiece, driving, entered}
use Rattle.cpc_meaning_laws.specs.Cell.Cells.{call_cells}
use Rattle.cpc_convert_flat_laws.specs.Walks.{World, Here, Climbs, running}
use Rattle.cpc_chains_store_laws.proofs.Chains.{chain_push, chain_taken}
use Rattle.cpc_chains_store_laws.proofs.Pieces.{drive_goes_on}
use Rattle.cpc_convert_flat_laws.proofs.Walks.{rise_then, climbs_append}
use Rattle.cpc_chains_laws.specs.Related.Fresh.{beyond}
use Rattle.cpc_chains_laws.specs.Related.Items.{saved_at}
use Rattle.cpc_chains_laws.proofs.Related.Fresh.{beyond_cells}
use Rattle.cpc_chains_laws.proofs.Related.Entry.{Opens}
use Rattle.cpc_chains_laws.proofs.Related.Setting.{Setting}

-- The start of f is entered with the pointer to block b. Some steps make its variables, free its frame, and give the frame of the leader n
-- to the driver, over the frames below. The registers with which it is entered, and the live cells that there are above those at the ends, are at most so many together.
pub record StartLeads (z : Setting) (bound rise : ℕ) (name : Text) (w : World) (bs : Blocks) (s : Store) (b : ℕ) (f : Text) (n : ℕ) (slots : List Slot) (next : Value) (t : Store) : Type 0 where
  pub function : Function
  pub is_piece : IsPiece z.target name function
  pub locals : List Slot
  pub called : call_slots z.target function (Pointer Frame b 0 ∷ []) (beside bs s) ≡ Gives (locals, beside bs s)
  pub steps : ℕ
  pub within : steps ≤ bound
  pub grown : ℕ
  pub few : call_cells z.target function + grown ≤ rise
  pub leads : (pointer result frame : Value) → Climbs z.target w.trace steps grown (entered z.target w (beside bs s) function locals pointer result frame)
      (running w (beside (slice_set bs b None ++ Some (frame_cells (saved_at z.cut f slots n) next Unset) ∷ []) t) (driving pointer result frame ∷ []) (Some (Pointer Frame (length bs) 0)))

-- the live cells where the driver is given a new frame, and where that is freed, whatever was made and freed besides
given_cells : (freed : Blocks) (cells : List Value) (n : ℕ) (t : Store) → store_cells (beside (freed ++ Some cells ∷ []) t) ≡ store_cells (beside (beyond n (freed ++ None ∷ [])) t) + length cells
given_cells freed cells n t =
    let a : cells_in (freed ++ Some cells ∷ []) ≡ cells_in freed + length cells = sum_by_push block_cells freed (Some cells) in
    let b : cells_in (freed ++ None ∷ []) ≡ cells_in freed + 0 = sum_by_push block_cells freed None in
    let c = beyond_cells n (freed ++ None ∷ []) in
    omega (arith, a, b, c)

-- then the leader's piece takes it up; the frame has at most c cells
pub start_opens : (z : Setting) (facts : DriverFacts z.target) (first bound high low c g top : ℕ) (name : Text) (w : World) (bs : Blocks) (s : Store) (b : ℕ) (f : Text) (n : ℕ) (slots : List Slot) (next : Value) (t : Store) (below : List Saved) (owned : List ℕ) (v : Value) (f' : Saved)
    → Top bs f' below b next v owned → (start : StartLeads z first high name w bs s b f n slots next t)
    → ((cs : Blocks) → Top cs (saved_at z.cut f slots n) below (length bs) next Unset owned → Opens z bound low (z.cut.piece f (At n)) w cs t (length bs) f (At n) n slots None next t)
    → 3 + length (saved_at z.cut f slots n).values ≤ c → start.grown + c ≤ g → low + c ≤ g → call_cells z.target start.function + g ≤ top
    → Opens z (first + (3 + bound)) top name w bs s b f (At n) n slots None next t
start_opens z facts first bound high low c g top name w bs s b f n slots next t below owned v f' above start leader small le le' le'' =
    let o = leader cs there in
    let last : Blocks → (pointer result frame : Value) → Here = λ bs p r k. running w (beside (beyond o.more bs) t) (o.piece ∷ driving p r (o.taken k) ∷ []) None in
    record {
      function = start.function;
      is_piece = start.is_piece;
      locals = start.locals;
      called = start.called;
      steps = start.steps + (3 + o.steps);
      within = let h = start.within in let i = o.within in omega arith;
      piece = o.piece;
      more = suc o.more;
      taken = λ k. o.taken (Pointer Frame (length bs) 0);
      grown = g;
      few = le'';
      leads = λ p r k.
          let own = start.leads p r k in
          let others = o.leads p r (Pointer Frame (length bs) 0) in
          let few = o.few in
          let given = given_cells freed (frame_cells saved next Unset) o.more t in
          climbs_append start.steps (3 + o.steps) start.grown (call_cells z.target o.function + o.grown) c g _ _ _ own (omega (arith, given, small))
          (rise_then 3 o.steps (call_cells z.target o.function) o.grown _ _ _
          (drive_goes_on z.target facts w (beside cs t) saved below (length bs) next Unset owned there o.function o.is_piece p r k o.locals (beside cs t) o.called)
          (subst (λ bs'. Climbs z.target w.trace o.steps o.grown (entered z.target w (beside cs t) o.function o.locals p r (Pointer Frame (length bs) 0)) (last bs' p r (Pointer Frame (length bs) 0))) unmade others))
          le (omega (arith, few, le'));
      stands = o.stands;
    }
  where
    saved : Saved
    saved = saved_at z.cut f slots n

    freed : Blocks
    freed = slice_set bs b None

    cs : Blocks
    cs = freed ++ Some (frame_cells saved next Unset) ∷ []

    same_length : length freed ≡ length bs
    same_length = set_length bs b None

    there : Top cs saved below (length bs) next Unset owned
    there = subst (λ k. Top cs saved below k next Unset owned) same_length (chain_push freed saved Unset below next owned (chain_taken bs f' below b next v owned above))

    -- the block of the leader's frame, once it is freed
    unmade : slice_set cs (length bs) None ≡ freed ++ None ∷ []
    unmade = sym (ap (λ k. slice_set cs k None) same_length) ∙ set_last freed (Some (frame_cells saved next Unset)) None
