-- What holds of a state of threads holds of the states that meet it: over other positions, in whose code nothing need be known but that the codes meet.
use Rattle.std.proofs.Common.{inl, inr, Bool, true, false, ◌≡◌, ℕ, zero, suc, List, [], Option, Some, None, refl, subst}
use Rattle.std.specs.List.{All}
use Rattle.std.proofs.lemmas.List.Elements.{All-nil, All-cons, All-head, All-tail}
use Rattle.cpc_base.specs.Bytes.{Text}
use Rattle.cpc_tree.specs.Syntax.{Program}
use Rattle.cpc_tree.specs.Trace.{Going}
use Rattle.cpc_store.specs.Store.{Value, Store}
use Rattle.cpc_meaning_matching.specs.Systems.{run}
use Rattle.cpc_meaning.specs.Plain.{Code, Form, Frame, Stack}
use Rattle.cpc_meaning.specs.Agenda.{Due, OnCondition, OnDescriptor, Timer, OnSection, Agenda}
use Rattle.cpc_meaning.specs.History.{History}
use Rattle.cpc_meaning.specs.Machine.{State, next}
use Rattle.cpc_meaning.specs.Start.{opening, main_name}
use Rattle.cpc_meaning.specs.Threads.{Thread, Pending, threads_of}
use Rattle.cpc_meaning.specs.Matching.{thread_system}
use Rattle.cpc_meaning.specs.Trees.{tree_code}
use Rattle.cpc_meaning.specs.Ways.{way_code}
use Rattle.cpc_meaning.proofs.Both as B
use Rattle.cpc_meaning.proofs.Agendas.{SameDue, SameAgenda}
use Rattle.cpc_meaning.proofs.Meeting.{BothSome, SomeBoth, NoneBoth, FramesMeet, FrameMeets, ListsMeet, NoFrames as NoneMeet, AndFrame, StacksMeet, StackMeets, CodesMeet}
use Rattle.cpc_meaning.proofs.Machines.{ThreadsMeet, PendingBoth, SuspendedBoth, StatesMeet, Meet}
use Rattle.cpc_meaning.proofs.Steps.{next_meet}
use Rattle.cpc_meaning.proofs.Positions.{positions_go}
use Rattle.cpc_meaning.proofs.Ways.{AtWay, ways_meet}
use Rattle.cpc_meaning_laws.specs.Pointer.Made.{IsMadeFrame}
use Rattle.cpc_check_laws.specs.Kept.Codes.{IsCodeFrame}
use Rattle.cpc_check_laws.specs.Kept.Fits.{FitsFrame, IsInt}
use Rattle.cpc_check_laws.specs.Kept.Kept.{IsSteady, KeptStack, KeptThread, KeptAgenda, Kept}
use Rattle.cpc_check_laws.specs.Kept.Layers.{KeepsModes, IsOfMode, AllCps, IsLayered, IsLayeredThread, Layered, Holds}
use Rattle.cpc_check_laws.specs.Kept.Laws.{WaysHold}
use Rattle.cpc_check_laws.proofs.Kept.Along.{Along, along_goes, along_stays}
use Rattle.cpc_check_laws.proofs.Kept.LayerRuns.{threads_hold}

-- ---- lists

pub all_both : {X Y : Type 0} {R : X → Y → Type 0} (U : X → Type 0) (V : Y → Type 0) → ((x : X) (y : Y) → R x y → U x → V y) → (xs : List X) (ys : List Y) → B.Both R xs ys → All U xs → All V ys
all_both U V f _ _ B.Ends h = All-nil V
all_both U V f _ _ (B.Goes x y xs ys r b) h = All-cons V y ys (f x y r (All-head U x xs h)) (all_both U V f xs ys b (All-tail U x xs h))

module _ {P Q : Type 0} (R : Text → P → Q → Type 0) where
  all_meet : (U : Frame P → Type 0) (V : Frame Q → Type 0) → ((x : Frame P) (y : Frame Q) → FramesMeet R x y → U x → V y) → (xs : List (Frame P)) (ys : List (Frame Q)) → ListsMeet R xs ys → All U xs → All V ys
  all_meet U V f _ _ NoneMeet h = All-nil V
  all_meet U V f _ _ (AndFrame x y xs ys r rs) h = All-cons V y ys (f x y r (All-head U x xs h)) (all_meet U V f xs ys rs (All-tail U x xs h))

  -- what holds of all items of an agenda, and of the results that are due
  lists_meet : (U : Thread P → Type 0) (V : Thread Q → Type 0) (Good : Value → Type 0) → ((x : Thread P) (y : Thread Q) → ThreadsMeet (StacksMeet R) x y → U x → V y)
      → (a : Agenda (Thread P)) (b : Agenda (Thread Q)) → SameAgenda (ThreadsMeet (StacksMeet R)) a b → KeptAgenda U Good a → KeptAgenda V Good b
  lists_meet U V Good f a b r h = record {
    ready = all_both (λ (d : Due (Thread P)). U d.item × Good d.result) (λ (d : Due (Thread Q)). V d.item × Good d.result) dues a.ready b.ready r.ready h.ready;
    round = all_both (λ (d : Due (Thread P)). U d.item × Good d.result) (λ (d : Due (Thread Q)). V d.item × Good d.result) dues a.round b.round r.round h.round;
    waiters = all_both (λ (w : OnCondition (Thread P)). U w.item) (λ (w : OnCondition (Thread Q)). V w.item) (λ x y i k. f x.item y.item i.item k) a.waiters b.waiters r.waiters h.waiters;
    descriptors = all_both (λ (w : OnDescriptor (Thread P)). U w.item) (λ (w : OnDescriptor (Thread Q)). V w.item) (λ x y i k. f x.item y.item i.item k) a.descriptors b.descriptors r.descriptors h.descriptors;
    timers = all_both (λ (w : Timer (Thread P)). U w.item) (λ (w : Timer (Thread Q)). V w.item) (λ x y i k. f x.item y.item i.item k) a.timers b.timers r.timers h.timers;
    sections = all_both (λ (w : OnSection (Thread P)). U w.item) (λ (w : OnSection (Thread Q)). V w.item) (λ x y i k. f x.item y.item i.item k) a.sections b.sections r.sections h.sections;
  }
    where
      dues : (d : Due (Thread P)) (e : Due (Thread Q)) → SameDue (ThreadsMeet (StacksMeet R)) d e → U d.item × Good d.result → V e.item × Good e.result
      dues d e r h = (f d.item e.item r.item h.0, subst Good r.result h.1)

  -- ---- states that meet

  module _ (p : Program) (s : Store) where
    made_passes : (x : Frame P) (y : Frame Q) → FramesMeet R x y → IsMadeFrame s x → IsMadeFrame s y
    made_passes _ _ (FrameMeets f u w slots r) h = h

    codes_pass : (x : Frame P) (y : Frame Q) → FramesMeet R x y → IsCodeFrame p x → IsCodeFrame p y
    codes_pass _ _ (FrameMeets f u w slots r) h = h

    fits_passes : (x : Frame P) (y : Frame Q) → FramesMeet R x y → FitsFrame p x → FitsFrame p y
    fits_passes _ _ (FrameMeets f u w slots r) h = record { function = h.function; is_function = h.is_function; slots = h.slots }

    stack_passes : (k : Stack P) (j : Stack Q) → StacksMeet R k j → KeptStack p s k → KeptStack p s j
    stack_passes _ _ (StackMeets xs ys o rs) h = record {
      code = record { store = h.code.store; frames = all_meet (IsMadeFrame s) (IsMadeFrame s) made_passes xs ys rs h.code.frames; arriving = h.code.arriving };
      fits = all_meet (FitsFrame p) (FitsFrame p) fits_passes xs ys rs h.fits;
      codes = record { frames = all_meet (IsCodeFrame p) (IsCodeFrame p) codes_pass xs ys rs h.codes.frames; arriving = h.codes.arriving };
    }

    thread_passes : (x : Thread P) (y : Thread Q) → ThreadsMeet (StacksMeet R) x y → KeptThread p s x → KeptThread p s y
    thread_passes _ _ (PendingBoth f vs) h = h
    thread_passes _ _ (SuspendedBoth k j r) h = stack_passes k j r h

    running_passes : (k : Option (Stack P)) (j : Option (Stack Q)) → BothSome (StacksMeet R) k j → ((i : Stack P) → k ≡ Some i → KeptStack p s i) → (i : Stack Q) → j ≡ Some i → KeptStack p s i
    running_passes _ _ NoneBoth h i e = absurd (cc)
    running_passes _ _ (SomeBoth k j r) h i e = let same : j ≡ i = cc in subst (KeptStack p s) same (stack_passes k j r (h k refl))

  -- what holds of a state holds of the one that meets it
  pub passes : (p : Program) (x : State P (Thread P)) (y : State Q (Thread Q)) → StatesMeet (StacksMeet R) x y → Kept p x → Kept p y
  passes p _ _ (Meet s k j a b jobs h tr o r g) kept = record {
    no_frames = kept.no_frames;
    store = kept.store;
    codes = kept.codes;
    running = running_passes p s k j r kept.running;
    agenda = lists_meet (KeptThread p s) (KeptThread p s) IsInt (thread_passes p s) a b g kept.agenda;
    jobs = kept.jobs;
  }

  -- ---- layers

  module _ (p : Program) where
    modes_pass : (b : Bool) (x : Frame P) (y : Frame Q) → FramesMeet R x y → IsOfMode p b x → IsOfMode p b y
    modes_pass b _ _ (FrameMeets f u w slots r) h = h

    cps_pass : (xs : List (Frame P)) (ys : List (Frame Q)) → ListsMeet R xs ys → AllCps p xs → AllCps p ys
    cps_pass xs ys r h = all_meet (IsOfMode p true) (IsOfMode p true) (modes_pass true) xs ys r h

    layers_pass : (xs : List (Frame P)) (ys : List (Frame Q)) → ListsMeet R xs ys → IsLayered p xs → IsLayered p ys
    layers_pass _ _ NoneMeet h = tt
    layers_pass _ _ (AndFrame x y xs ys r rs) (inl h) = inl (modes_pass false x y r h.0, layers_pass xs ys rs h.1)
    layers_pass _ _ (AndFrame x y xs ys r rs) (inr h) = inr (modes_pass true x y r h.0, cps_pass xs ys rs h.1)

    running_layers : (k : Option (Stack P)) (j : Option (Stack Q)) → BothSome (StacksMeet R) k j → ((i : Stack P) → k ≡ Some i → IsLayered p i.frames) → (i : Stack Q) → j ≡ Some i → IsLayered p i.frames
    running_layers _ _ NoneBoth h i e = absurd (cc)
    running_layers _ _ (SomeBoth k j r) h i e = let same : j ≡ i = cc in subst (λ (i : Stack Q). IsLayered p i.frames) same (stack_layers k j r (h k refl))
      where
        stack_layers : (k : Stack P) (j : Stack Q) → StacksMeet R k j → IsLayered p k.frames → IsLayered p j.frames
        stack_layers _ _ (StackMeets xs ys o rs) h = layers_pass xs ys rs h

    thread_layers : (x : Thread P) (y : Thread Q) → ThreadsMeet (StacksMeet R) x y → IsLayeredThread p x → IsLayeredThread p y
    thread_layers _ _ (PendingBoth f vs) h = h
    thread_layers _ _ (SuspendedBoth _ _ (StackMeets xs ys o rs)) h = cps_pass xs ys rs h

  -- the layers of a state are those of the one that meets it
  layered_passes : (p : Program) (x : State P (Thread P)) (y : State Q (Thread Q)) → StatesMeet (StacksMeet R) x y → Layered p x → Layered p y
  layered_passes p _ _ (Meet s k j a b jobs h tr o r g) layered = record {
    running = running_layers p k j r layered.running;
    agenda = lists_meet (IsLayeredThread p) (IsLayeredThread p) (λ v. Unit {0}) (thread_layers p) a b g layered.agenda;
  }

  pub holds_passes : (p : Program) (x : State P (Thread P)) (y : State Q (Thread Q)) → StatesMeet (StacksMeet R) x y → Holds p x → Holds p y
  holds_passes p x y r h = record { kept = passes p x y r h.kept; layered = layered_passes p x y r h.layered }

  -- ---- runs

  -- a state that a state meets of which it holds: what a proof about the other code may carry along
  abbrev pub HoldsBeside : Program → State Q (Thread Q) → Type 0
  HoldsBeside p y = Along (StatesMeet (StacksMeet R)) (Holds p) y

  pub beside_holds : (p : Program) (y : State Q (Thread Q)) → HoldsBeside p y → Holds p y
  beside_holds p y h = holds_passes p h.state y h.related h.holds

  module _ (prog : Program) (code : Code P) (other : Code Q) (meet : CodesMeet R prog code other) (steady : IsSteady (record { program = prog; code = code })) (modes : KeepsModes (record { program = prog; code = code })) (h : History) where
    abbrev p : Form P
    p = record { program = prog; code = code }

    abbrev q : Form Q
    q = record { program = prog; code = other }

    pub beside_opens : HoldsBeside prog (opening prog (Pending main_name []) h)
    beside_opens = record { state = opening prog (Pending main_name []) h; related = opens; holds = (threads_hold p steady modes h).opens }
      where
        opens : StatesMeet (StacksMeet R) (opening prog (Pending main_name []) h) (opening prog (Pending main_name []) h)
        opens = Meet _ None None _ _ [] h [] Going NoneBoth
            (record {
              ready = B.Goes _ _ [] [] (record { item = PendingBoth main_name []; result = refl }) B.Ends;
              round = B.Ends;
              waiters = B.Ends;
              descriptors = B.Ends;
              timers = B.Ends;
              sections = B.Ends;
              live = refl;
              now = refl;
              conditions_made = refl;
              timers_made = refl;
              sections_made = refl;
            })

    -- each step of the other machine keeps it
    pub beside_goes : (y t : State Q (Thread Q)) → HoldsBeside prog y → next (threads_of q) y ≡ Some t → HoldsBeside prog t
    beside_goes = along_goes (StatesMeet (StacksMeet R)) (Holds prog) (next (threads_of p)) (next (threads_of q)) (next_meet (StacksMeet R) prog code other (positions_go R prog code other meet)) (threads_hold p steady modes h).goes

    pub beside_runs : (n : ℕ) → HoldsBeside prog (run (thread_system q h) n)
    beside_runs zero = beside_opens
    beside_runs (suc n) = along_stays (StatesMeet (StacksMeet R)) (Holds prog) (next (threads_of p)) (next (threads_of q)) (next_meet (StacksMeet R) prog code other (positions_go R prog code other meet)) (threads_hold p steady modes h).goes (run (thread_system q h) n) (beside_runs n)

    -- so it holds of each state of the threads over the other code
    pub runs_hold_too : (n : ℕ) → Holds prog (run (thread_system q h) n)
    runs_hold_too n = beside_holds prog (run (thread_system q h) n) (beside_runs n)

-- the ways that are taken meet all ways
pub ways_hold : WaysHold
ways_hold p steady modes h n = runs_hold_too (AtWay p) p (tree_code p) (way_code p) (ways_meet p) steady modes h n
