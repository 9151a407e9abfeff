-- What the rows ask of a piece that stands at a node: by what the source does there, what the piece does, and where it then stands.
use Rattle.std.proofs.Common.{◌≡◌, ℕ, suc, ◌<◌, ◌≤◌, Bool, true, false, List, [], ◌∷◌, ◌++◌, length, Option, Some, None, Ok, Err}
use Rattle.std.specs.List.{All}
use Rattle.cpc_base.specs.Bytes.{Text}
use Rattle.cpc_num.specs.declared.kinds.Fault.{Fault}
use Rattle.cpc_store.specs.declared.values.Class.TheVariants.{Frame}
use Rattle.cpc_store.specs.Store.{Value, Unset, Null, At as Pointer, Blocks, Store}
use Rattle.cpc_tree.specs.Lists.{first_or, rest_of}
use Rattle.cpc_tree.specs.Points.{Point, Found, Simple}
use Rattle.cpc_tree.specs.Syntax.{Exprs, Spawn, Function}
use Rattle.cpc_tree.specs.Trace.{Submitted, Failed}
use Rattle.cpc_tree.specs.Typing.{function_named}
use Rattle.cpc_meaning.specs.Act.{AtStatement, Act, GoesOn, Enters, Leaves, AsksFor, act, arrives}
use Rattle.cpc_meaning.specs.Agenda.{Agenda, ready_one, section}
use Rattle.cpc_meaning.specs.Answer.{Answer, Gives, Faults, NoAnswer, ◌>>=◌, needed}
use Rattle.cpc_meaning.specs.Copies.{copy_of}
use Rattle.cpc_meaning.specs.Eval.{Slot}
use Rattle.cpc_meaning.specs.Machine.{next, ends}
use Rattle.cpc_meaning.specs.Plain.{Frame as CallFrame, Went, Asks, context, frames_step, answered, asking}
use Rattle.cpc_meaning.specs.Requests.{Request, Primitive, Builtin, ToSpawn, Section}
use Rattle.cpc_meaning.specs.Runs.{slots_registers}
use Rattle.cpc_meaning.specs.Slots.{call_slots}
use Rattle.cpc_meaning.specs.Start.{before_underscores}
use Rattle.cpc_meaning.specs.Threads.{shown_in}
use Rattle.cpc_meaning.specs.Events.{Callback, CallWith, callbacks}
use Rattle.cpc_forms.specs.Flow.{Place, At}
use Rattle.cpc_forms.specs.Split.{Position, InGraph}
use Rattle.cpc_convert_image_laws.specs.Held.{IsHeld, IsHeldSlot, IsHeldStore, beside}
use Rattle.cpc_convert_image_laws.specs.Stacks.{frame_of}
use Rattle.cpc_chains_store_laws.specs.Chains.{Saved, Top, frame_cells}
use Rattle.cpc_chains_store_laws.specs.Driver.{drive_name, driving}
use Rattle.cpc_convert_flat_laws.specs.Walks.{World, Rise, Walk, FaultsAfter, running}
use Rattle.cpc_lifted_laws.specs.Related.Bounds.{Bounds}
use Rattle.cpc_chains_laws.specs.Related.Items.{saved_at, first_saved}
use Rattle.cpc_chains_laws.specs.Related.Running.{SamePoint}
use Rattle.cpc_chains_laws.specs.Related.Waits.{Awaited, awaited, put_waiting, wait_marks}
use Rattle.cpc_chains_laws.proofs.Related.Relation.{Target, Shared, target_state, world_of}
use Rattle.cpc_chains_laws.proofs.Related.Setting.{Setting, from_form, to_form, is_common, is_answered}
use Rattle.cpc_chains_laws.proofs.Related.Taking.{given_value}

-- A piece of f, for the owner l, runs above the driver, which has these values; `lower` is the pointer to the frames below. The walks below
-- keep to the bounds.
module _ (z : Setting) (bounds : Bounds) (f : Text) (l : Place) (lower pointer result frame : Value) where
  -- its stack, and the driver's while no piece runs
  abbrev pub over : CallFrame Point → List (CallFrame Point)
  over piece = piece ∷ driving pointer result frame ∷ []

  abbrev pub alone : List (CallFrame Point)
  alone = driving pointer result frame ∷ []

  -- the new frame of a leader, or of an arrival, where these variables are saved
  abbrev pub with_leader : Blocks → List Slot → ℕ → Blocks
  with_leader bs slots n = bs ++ Some (frame_cells (saved_at z.cut f slots n) lower Unset) ∷ []

  -- Control goes on from here to a position of the source, with these variables and this store: the piece comes to where it stands there; or
  -- it gives the frame of another leader, in a new block, to the driver.
  pub data Onward (bs : Blocks) (t : Store) (slots : List Slot) (from : CallFrame Point) : Position → Type 0 where
    Stays : (n : ℕ) (piece : CallFrame Point) (steps : ℕ) → steps ≤ bounds.onward
        → ((w : World) → Walk z.target w.trace steps (running w (beside bs t) (over from) None) (running w (beside bs t) (over piece) None))
        → z.there f l n slots None lower piece None → Onward bs t slots from (InGraph l n)
    Jumps : (n : ℕ) (steps : ℕ) → steps ≤ bounds.onward
        → ((w : World) → Walk z.target w.trace steps (running w (beside bs t) (over from) None) (running w (beside (with_leader bs slots n) t) alone (Some (Pointer Frame (length bs) 0))))
        → Onward bs t slots from (InGraph (At n) n)

  -- The frame of f stands at node n with these variables, and this value may be arriving at it; the piece stands there too. The two have
  -- this in common, and the target has these frame blocks and this agenda.
  module _ (w : Shared) (bs : Blocks) (c : Agenda Callback) (n : ℕ) (slots : List Slot) (o : Option Value) (piece : CallFrame Point) (o' : Option Value) where
    -- the state of the target
    abbrev pub inside : Target
    inside = target_state w bs (Some (record { frames = over piece; arriving = o' })) c

    -- ---- in place

    -- the first step of the piece is that of the source, and keeps its registers; and then control goes on
    pub record GoesTo (t : Store) (changed : List Slot) (to : Position) : Type 0 where
      pub from : CallFrame Point
      pub first : next (callbacks z.target) inside ≡ Some (running (world_of w c) (beside bs t) (over from) None)
      pub same : slots_registers from.slots ≡ slots_registers piece.slots
      pub onward : Onward bs t changed from to

    -- what the piece does where a value is the answer to what it asked, in a store with the same boxes: by what the source does
    pub data Replied (s : Store) (v : Value) : Answer Act → Type 0 where
      ReplyStuck : Replied s v NoAnswer
      ReplyFaults : (fault : Fault) → answered (to_form z) (beside bs s) (record { frames = over piece; arriving = o' }) v ≡ Faults fault → Replied s v (Faults fault)
      ReplyGoes : (h : Bool) (t : Store) (changed : List Slot) (from : CallFrame Point)
          → answered (to_form z) (beside bs s) (record { frames = over piece; arriving = o' }) v ≡ Gives (Went (beside bs t) (record { frames = over from; arriving = None }))
          → slots_registers from.slots ≡ slots_registers piece.slots → ((to : Position) → (from_form z).code.goes f (InGraph l n) h ≡ Some to → Onward bs t changed from to) → Replied s v (Gives (GoesOn h t changed))

    -- for each answer that may come
    abbrev pub Replies : Type 0
    Replies = (s : Store) (v : Value) (g : Found) → IsHeldStore z.codes s → s.auto ≡ w.store.auto → IsHeld z.codes v → asking ((from_form z).code.stood f (InGraph l n)) ≡ Some g
        → Replied s v (arrives (context (from_form z) s (frame_of f (InGraph l n) slots)) g (Some v))

    -- ---- calls

    -- a native function is entered with these variables
    pub record EntersNative (g : Function) (from : CallFrame Point) (entered : List Slot) (t : Store) : Type 0 where
      pub point : Point
      pub same : SamePoint z.cut g.called ((from_form z).code.first g.called) point
      pub held : All (IsHeldSlot z.codes) entered
      pub first : next (callbacks z.target) inside ≡ Some (running (world_of w c) (beside bs t) (frame_of g.called point entered ∷ over from) None)

    -- a call of a native function: it is entered, and its value arrives where the piece then stands
    pub record CallsNative (g : Function) (vs : List Value) : Type 0 where
      pub back : ℕ
      pub is_back : (from_form z).code.arrival f (InGraph l n) ≡ Some (InGraph l back)
      pub from : CallFrame Point
      pub waits : (v : Value) → IsHeld z.codes v → z.there f l back slots (Some v) lower from (Some v)
      pub enters : (entered : List Slot) (t : Store) → call_slots z.source g vs w.store ≡ Gives (entered, t) → EntersNative g from entered t

    -- the blocks with the frame of the arrival and the first frame of the call above it
    abbrev pub with_call : ℕ → Function → List Value → Blocks
    with_call back g vs = with_leader bs slots back ++ Some (frame_cells (first_saved z.cut g.called vs) (Pointer Frame (length bs) 0) Unset) ∷ []

    -- a call of a cps function: the frame of the arrival is made, the first frame of the call over it, and this is given to the driver
    pub record CallsCps (g : Function) (vs : List Value) : Type 0 where
      pub named : function_named z.source g.called ≡ Some g
      pub given : z.given g.called vs
      pub back : ℕ
      pub is_back : (from_form z).code.arrival f (InGraph l n) ≡ Some (InGraph (At back) back)
      pub steps : ℕ
      pub within : steps < bounds.leads
      pub leads : Walk z.target w.trace (suc steps) inside (running (world_of w c) (beside (with_call back g vs) w.store) alone (Some (Pointer Frame (length (with_leader bs slots back)) 0)))

    -- ---- returns

    -- the piece gives the frame below to the driver, over these frame blocks
    pub record GivesBack (cs : Blocks) (t : Store) : Type 0 where
      pub steps : ℕ
      pub within : steps < bounds.leads
      pub leads : Walk z.target w.trace (suc steps) inside (running (world_of w c) (beside cs t) alone (Some lower))

    -- a return with a value: where there is a frame below, the value is written to it
    pub record ReturnsValue (v : Value) (t : Store) : Type 0 where
      pub ends : lower ≡ Null → GivesBack bs t
      pub goes : (h : Saved) (hs : List Saved) (b : ℕ) (below : Value) (owned : List ℕ) → lower ≡ Pointer Frame b 0 → Top bs h hs b below Unset owned → GivesBack (given_value bs b h below v) t

    -- ---- spawns

    -- the first frame of the call is made in a new block, the call is ready, and control goes on
    abbrev pub with_spawned : Text → List Value → Blocks
    with_spawned g vs = bs ++ Some (frame_cells (first_saved z.cut g vs) Null Unset) ∷ []

    pub record SpawnsCall (g : Text) (vs : List Value) : Type 0 where
      pub arguments : Exprs
      pub is_spawn : (from_form z).code.stood f (InGraph l n) ≡ AtStatement (Simple (Spawn g arguments))
      pub steps : ℕ
      pub within : steps < bounds.leads
      pub from : CallFrame Point
      pub grown : ℕ
      pub few : grown ≤ bounds.leads
      pub leads : Rise z.target w.trace (suc steps) grown inside (running (world_of w (ready_one (CallWith drive_name (Pointer Frame (length bs) 0)) c)) (beside (with_spawned g vs) w.store) (over from) None)
      pub onward : (to : Position) → (from_form z).code.goes f (InGraph l n) true ≡ Some to → Onward (with_spawned g vs) w.store slots from to

    -- ---- waits

    -- the driver with the frame of the arrival
    abbrev pub waiting_item : Callback
    waiting_item = CallWith drive_name (Pointer Frame (length bs) 0)

    -- where the piece asks to wait, over this frame
    abbrev pub asks_wait : ℕ → CallFrame Point → Target
    asks_wait back asker = running (world_of w c) (beside (with_leader bs slots back) w.store) (over asker) None

    -- it asked, which left this in common and this agenda, and it gives null to the driver; it has the registers that it had
    pub record HasAsked (back : ℕ) (asker : CallFrame Point) (v : Shared) (d : Agenda Callback) : Type 0 where
      pub from : CallFrame Point
      pub first : next (callbacks z.target) (asks_wait back asker) ≡ Some (running (world_of v d) (beside (with_leader bs slots back) w.store) (over from) None)
      pub same : slots_registers from.slots ≡ slots_registers piece.slots
      pub steps : ℕ
      pub within : steps ≤ bounds.onward
      pub leads : Walk z.target v.trace steps (running (world_of v d) (beside (with_leader bs slots back) w.store) (over from) None) (running (world_of v d) (beside (with_leader bs slots back) w.store) alone (Some Null))

    -- the frame of the arrival is made, and then the piece asks
    pub record Prepares : Type 0 where
      pub back : ℕ
      pub is_back : (from_form z).code.arrival f (InGraph l n) ≡ Some (InGraph (At back) back)
      pub steps : ℕ
      pub within : steps ≤ bounds.leads
      pub asker : CallFrame Point
      pub leads : Walk z.target w.trace steps inside (asks_wait back asker)
      pub shown : before_underscores asker.function ≡ shown_in z.source f

    -- it faults where it asks
    abbrev pub FaultsAsking : Prepares → Fault → Type 0
    FaultsAsking p fault = next (callbacks z.target) (asks_wait p.back p.asker) ≡ Some (ends (Failed fault (before_underscores p.asker.function)) (asks_wait p.back p.asker))

    -- a wait
    pub record WaitsFor (q : Awaited) : Type 0 where
      pub prepares : Prepares
      pub waits : (d : Agenda Callback) → put_waiting q waiting_item c ≡ Ok d → HasAsked prepares.back prepares.asker (record w { trace = wait_marks q w.trace }) d
      pub faults : (fault : Fault) → put_waiting q waiting_item c ≡ Err fault → FaultsAsking prepares fault

    -- what is left in common where a section is submitted
    abbrev pub submitted : Text → List Value → (cells : List Value) → Shared
    submitted g vs cells = record w {
      jobs = w.jobs ++ record { number = c.sections_made; function = g; arguments = rest_of vs; cells = cells; pointer = first_or Unset vs } ∷ [];
      trace = w.trace ++ Submitted c.sections_made g ∷ [];
    }

    -- the cells that a section takes
    abbrev pub section_cells : Text → List Value → Answer (List Value)
    section_cells g vs = needed (function_named z.source g) >>= λ (h : Function). copy_of z.source h (first_or Unset vs) w.store

    -- a section
    pub record SubmitsSection (g : Text) (vs : List Value) : Type 0 where
      pub prepares : Prepares
      pub waits : (d : Agenda Callback) (cells : List Value) → section waiting_item c ≡ Ok d → section_cells g vs ≡ Gives cells → HasAsked prepares.back prepares.asker (submitted g vs cells) d
      pub refused : (fault : Fault) → section waiting_item c ≡ Err fault → FaultsAsking prepares fault
      pub faults : (d : Agenda Callback) (fault : Fault) → section waiting_item c ≡ Ok d → section_cells g vs ≡ Faults fault → FaultsAsking prepares fault

    -- ---- by what the source does

    pub data Does : Answer Act → Type 0 where
      Sticks : Does NoAnswer
      Breaks : (fault : Fault) (name : Text) → before_underscores name ≡ shown_in z.source f → (a : FaultsAfter z.target w.trace name fault inside) → a.steps < bounds.leads → a.grown ≤ bounds.leads → Does (Faults fault)
      Moves : (h : Bool) (t : Store) (changed : List Slot) → ((to : Position) → (from_form z).code.goes f (InGraph l n) h ≡ Some to → GoesTo t changed to) → Does (Gives (GoesOn h t changed))
      Requests : (r : Request) → is_answered r.asked ≡ true → All (IsHeld z.codes) r.arguments → frames_step (to_form z) (beside bs w.store) o' (over piece) ≡ Gives (Asks r) → Replies → Does (Gives (AsksFor r))
      SpawnsOne : (g : Text) (vs : List Value) → SpawnsCall g vs → Does (Gives (AsksFor (record { asked = ToSpawn g; arguments = vs })))
      Pauses : (prim : Primitive) (vs : List Value) → is_common prim ≡ false → ((q : Awaited) → awaited prim vs ≡ Some q → WaitsFor q) → Does (Gives (AsksFor (record { asked = Builtin prim; arguments = vs })))
      Submits : (g : Text) (vs : List Value) → SubmitsSection g vs → Does (Gives (AsksFor (record { asked = Section g; arguments = vs })))
      EntersWhole : (g : Function) (vs : List Value) → z.cut.whole g.called ≡ true → CallsNative g vs → Does (Gives (Enters g vs))
      EntersCut : (g : Function) (vs : List Value) → CallsCps g vs → Does (Gives (Enters g vs))
      GivesUp : (v : Value) (t : Store) → ReturnsValue v t → Does (Gives (Leaves v t))

    -- what is known where the piece stands
    pub record PieceAt : Type 0 where
      pub shown : before_underscores piece.function ≡ shown_in z.source f
      pub does : (g : Function) → function_named z.source f ≡ Some g
          → Does (act (context (from_form z) w.store (frame_of f (InGraph l n) slots)) g.result o ((from_form z).code.stood f (InGraph l n)))
