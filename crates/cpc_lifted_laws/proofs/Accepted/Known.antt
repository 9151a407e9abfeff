-- Each state of the lifted run agrees with one of the threads over split graphs, so what these keep holds of it.
use Rattle.std.proofs.Common.{◌≡◌, ◌⊎◌, inl, inr, ℕ, suc, Bool, true, false, List, [], ◌∷◌, length, map, slice_get, Option, Some, None, refl, sym, ◌∙◌, ap, subst}
use Rattle.std.specs.List.{All}
use Rattle.std.proofs.lemmas.List.Elements.{All-nil, All-cons, All-head, All-tail}
use Rattle.cpc_base.specs.Bytes.{Text}
use Rattle.cpc_store.specs.declared.values.Class.TheVariants.{Static, Auto, Heap, Frame as FrameClass}
use Rattle.cpc_store.specs.Store.{Value, Unset, Whole, Null, At, Code, Cond, Store}
use Rattle.cpc_base.specs.declared.stop.Dialect.TheVariants as D
use Rattle.cpc_tree.specs.declared.program.Mode.TheVariants.{Native, Detached}
use Rattle.cpc_tree.specs.Located.{bare}
use Rattle.cpc_tree.specs.Registers.{variables}
use Rattle.cpc_tree.specs.Points.{Simple}
use Rattle.cpc_tree.specs.Syntax.{Spawn, Variable, Function, FunctionItem, Program}
use Rattle.cpc_tree.specs.Typing.{Meant, AFunction, item_named, function_named, parameter_type, parameter_types}
use Rattle.cpc_meaning_matching.specs.Systems.{run}
use Rattle.cpc_meaning.specs.Agenda.{Agenda, Due, OnCondition, OnDescriptor, Timer, OnSection}
use Rattle.cpc_meaning.specs.Eval.{Slot, Register, Boxed}
use Rattle.cpc_meaning.specs.History.{History}
use Rattle.cpc_meaning.specs.Machine.{State}
use Rattle.cpc_meaning.specs.Matching.{thread_system}
use Rattle.cpc_meaning.specs.Plain.{Frame, Stack}
use Rattle.cpc_meaning.specs.Section.{Job}
use Rattle.cpc_meaning.specs.Start.{main_name}
use Rattle.cpc_meaning.specs.Threads.{Thread}
use Rattle.cpc_meaning.proofs.Agendas.{SameDue, SameAgenda}
use Rattle.cpc_meaning.proofs.Both as B
use Rattle.cpc_meaning.proofs.Machines.{ThreadsMeet, PendingBoth, SuspendedBoth, StatesMeet, Meet}
use Rattle.cpc_meaning.proofs.Meeting.{BothSome, SomeBoth, NoneBoth}
use Rattle.cpc_meaning_laws.specs.Pointer.Made.{IsMade, IsMadeIf, IsMadeSlot, IsMadeStore, IsMadeFrame}
use Rattle.cpc_meaning_laws.proofs.Pointer.Blocks.{element}
use Rattle.cpc_forms.specs.Split.{Position, split_form}
use Rattle.cpc_lift_laws.specs.Boxes.{is_box}
use Rattle.cpc_lift_laws.specs.Lifted.{TidyFrame, TidyFrames, TidyRunning}
use Rattle.cpc_lift_laws.proofs.Boxes.{programs_have_marks}
use Rattle.cpc_lift_laws.proofs.Frames.{FramesAgree, FrameAgrees, StacksAgree, StackAgrees}
use Rattle.cpc_lift_laws.proofs.Lifting.{lifted_is_tidy}
use Rattle.cpc_lift_laws.proofs.Slots.{SlotsMeet, same_slot}
use Rattle.cpc_lift_laws.proofs.Standing.{run_agrees, one_length}
use Rattle.cpc_convert_image_laws.specs.Held.{IsHeld, IsHeldSlot, IsHeldStore}
use Rattle.cpc_convert_image_laws.specs.InPlace.{is_cps}
use Rattle.cpc_convert_image_laws.specs.Native.{IsHeldIf}
use Rattle.cpc_check_laws.specs.Kept.Codes.{IsNative, IsCode, IsCodeIf, IsCodeSlot, IsCodeStore, IsCodeFrame}
use Rattle.cpc_check_laws.specs.Kept.Fits.{types_of, FitAll, FitsFrame, IsInt}
use Rattle.cpc_check_laws.specs.Kept.Kept.{KeptStack, KeptThread, KeptJob, KeptAgenda}
use Rattle.cpc_check_laws.specs.Kept.Laws.{Cleared, Slotted, IsRegister as SlottedRegister, IsBox as SlottedBox}
use Rattle.cpc_check_laws.specs.Kept.Layers.{IsOfMode, AllCps, IsLayered, IsLayeredThread, Holds}
use Rattle.cpc_check_laws.proofs.Kept.Runs.{nothing_points_to_frames}
use Rattle.cpc_check_laws.proofs.Kept.Slots.{cleared_fit, slots_are_known}
use Rattle.cpc_check_laws.proofs.Sound.Accepted.{accepted_facts}
use Rattle.cpc_check_laws.proofs.Kept.Trees.{native_there, accepted_is_steady}
use Rattle.cpc_check_laws.proofs.Kept.Passing.{all_both}
use Rattle.cpc_convert_common.specs.Marks.{has_marks}
use Rattle.cpc_convert_routines.specs.ClosureLaws.{lifting}
use Rattle.cpc_lifted_laws.specs.Accepted.Known.{AreScalar, Stays, HoldsOfNatives, AcceptedCodesStay, KeptSlot, IsRegister, IsBox, FineFrame, FineStack, BeginsWell, FineThread, FineJob, FineState, AcceptedIsFine}
use Rattle.cpc_lifted_laws.specs.Accepted.Lifted.{kept_of, lifted_after}
use Rattle.cpc_lifted_laws.specs.Accepted.Functions.{HasMain}
use Rattle.cpc_lifted_laws.specs.Accepted.Points.{PositionsKnown}
use Rattle.cpc_lifted_laws.specs.Arrival.Arrivals.{AnyValue}
use Rattle.cpc_lifted_laws.proofs.Accepted.Begins.{CodedJob, Begun, SpawnsScalars, run_begun}
use Rattle.cpc_lifted_laws.proofs.Accepted.Functions.{accepted_has_main}
use Rattle.cpc_lifted_laws.proofs.Accepted.Lifted.{programs_are_closed}
use Rattle.cpc_lifted_laws.proofs.Accepted.Names.{accepted_has_names}
use Rattle.cpc_lifted_laws.proofs.Accepted.Pieces.{all_scalar}
use Rattle.cpc_lifted_laws.proofs.Accepted.Points.{accepted_positions_known}
use Rattle.cpc_lifted_laws.proofs.Accepted.Steady.{splits_steady, accepted_splits_hold}

-- ---- lists

all_with : {X : Type 0} (P Q R : X → Type 0) → ((x : X) → P x → Q x → R x) → (xs : List X) → All P xs → All Q xs → All R xs
all_with P Q R f [] h k = All-nil R
all_with P Q R f (x ∷ xs) h k = All-cons R x xs (f x (All-head P x xs h) (All-head Q x xs k)) (all_with P Q R f xs (All-tail P x xs h) (All-tail Q x xs k))

all_beside : {X Y : Type 0} {R : X → Y → Type 0} (U V : X → Type 0) (W : Y → Type 0) → ((x : X) (y : Y) → R x y → U x → V x → W y) → (xs : List X) (ys : List Y) → B.Both R xs ys → All U xs → All V xs → All W ys
all_beside U V W f _ _ B.Ends h k = All-nil W
all_beside U V W f _ _ (B.Goes x y xs ys r b) h k = All-cons W y ys (f x y r (All-head U x xs h) (All-head V x xs k)) (all_beside U V W f xs ys b (All-tail U x xs h) (All-tail V x xs k))

-- what holds of all items of an agenda, and what else does
both_hold : {T : Type 0} (F G : T → Type 0) (a : Agenda T) → KeptAgenda F AnyValue a → KeptAgenda G AnyValue a → KeptAgenda (λ x. F x × G x) AnyValue a
both_hold {T = T} F G a h l = record {
  ready = all_with (λ (d : Due T). F d.item × AnyValue d.result) (λ (d : Due T). G d.item × AnyValue d.result) (λ (d : Due T). (F d.item × G d.item) × AnyValue d.result) (λ d u v. ((u.0, v.0), tt)) a.ready h.ready l.ready;
  round = all_with (λ (d : Due T). F d.item × AnyValue d.result) (λ (d : Due T). G d.item × AnyValue d.result) (λ (d : Due T). (F d.item × G d.item) × AnyValue d.result) (λ d u v. ((u.0, v.0), tt)) a.round h.round l.round;
  waiters = all_with (λ (w : OnCondition T). F w.item) (λ (w : OnCondition T). G w.item) (λ (w : OnCondition T). F w.item × G w.item) (λ w u v. (u, v)) a.waiters h.waiters l.waiters;
  descriptors = all_with (λ (w : OnDescriptor T). F w.item) (λ (w : OnDescriptor T). G w.item) (λ (w : OnDescriptor T). F w.item × G w.item) (λ w u v. (u, v)) a.descriptors h.descriptors l.descriptors;
  timers = all_with (λ (w : Timer T). F w.item) (λ (w : Timer T). G w.item) (λ (w : Timer T). F w.item × G w.item) (λ w u v. (u, v)) a.timers h.timers l.timers;
  sections = all_with (λ (w : OnSection T). F w.item) (λ (w : OnSection T). G w.item) (λ (w : OnSection T). F w.item × G w.item) (λ w u v. (u, v)) a.sections h.sections l.sections;
}

-- ---- slots

-- slots that are unset where they are not kept are the others, some of them cleared
cleared : (keep box : ℕ → Bool) (xs ys : List Slot) → SlotsMeet keep box xs ys → ((k : ℕ) (slot : Slot) → slice_get ys k ≡ Some slot → keep k ≡ false → slot ≡ Register Unset) → Cleared xs ys
cleared keep box [] [] m t = tt
cleared keep box (x ∷ xs) (y ∷ ys) m t = (go (keep 0) refl, cleared (λ k. keep (suc k)) (λ k. box (suc k)) xs ys m.1 (λ k slot e f. t (suc k) slot e f))
  where
    go : (b : Bool) → keep 0 ≡ b → (y ≡ x) ⊎ (y ≡ Register Unset)
    go true e = let i : Some x ≡ Some y = same_slot keep box (x ∷ xs) (y ∷ ys) m 0 e in inl (cc)
    go false e = inr (t 0 y refl e)
cleared keep box [] (y ∷ ys) m t = absurd m
cleared keep box (x ∷ xs) [] m t = absurd m

-- calls that are to begin and sections, after so many steps of the threads of split graphs
abbrev BegunAt : Program → History → ℕ → Type 0
BegunAt p h n = let s = run (thread_system (split_form p) h) n in Begun (split_form p) s.store s.running s.agenda s.jobs

-- ---- values

module _ (p : Program) (C : Text → Type 0) (natives : HoldsOfNatives p C) where
  module _ (s : Store) (none : s.frames ≡ []) where
    held : (v : Value) → IsMade s v → IsCode p v → IsHeld C v
    held (At Static n k) m c = tt
    held (At Auto n k) m c = tt
    held (At Heap n k) m c = tt
    held (At FrameClass n k) m c = absurd (nothing_points_to_frames s n k none m)
    held (Code x) m c = natives x c
    held Unset m c = tt
    held (Whole kind z) m c = tt
    held Null m c = tt
    held (Cond n) m c = tt

    held_if : (o : Option Value) → IsMadeIf s o → IsCodeIf p o → IsHeldIf C o
    held_if None m c = tt
    held_if (Some v) m c = held v m c

    held_slot : (slot : Slot) → IsMadeSlot s slot → IsCodeSlot p slot → IsHeldSlot C slot
    held_slot (Register v) m c = held v m c
    held_slot (Boxed n) m c = tt

    held_values : (vs : List Value) → All (IsMade s) vs → All (IsCode p) vs → All (IsHeld C) vs
    held_values vs m c = all_with (IsMade s) (IsCode p) (IsHeld C) held vs m c

    held_store : IsMadeStore s → IsCodeStore p s → IsHeldStore C s
    held_store m c class n k cells v e i = held v (m class n k cells v e i) (element (IsCode p) cells k v (c class n cells e) i)

    -- ---- frames

    kept_slot : (f : Function) (k : ℕ) (x : Variable) (slot : Slot) → IsCodeSlot p slot → Slotted s f k x slot → KeptSlot C f k x slot
    kept_slot f k x _ c (SlottedRegister v wanted r sc fits suits made) = IsRegister v wanted r sc fits suits (held v made c)
    kept_slot f k x _ c (SlottedBox n b less) = IsBox n b

    abbrev FramesMeet : Frame Position → Frame Position → Type 0
    FramesMeet = FramesAgree p (is_box p) (lifting p).there (kept_of p)

    fine_frame : (x y : Frame Position) → FramesMeet x y → TidyFrame (kept_of p) y → FitsFrame p x → IsMadeFrame s x → IsCodeFrame p x → FineFrame p C y
    fine_frame _ _ (FrameAgrees f a xs ys t size m) tidy fits made code =
        let keep = kept_of p f a in
        let part = cleared_fit (types_of fits.function) s xs ys (cleared keep (is_box p f) xs ys m tidy) in
        let same : size.function ≡ fits.function = let e : Some size.function ≡ Some fits.function = sym size.named ∙ fits.is_function in cc in
        record {
          function = fits.function;
          named = fits.is_function;
          there = t;
          number = one_length keep (is_box p f) xs ys m ∙ size.number ∙ ap (λ g. length (variables g)) same;
          kept = λ k x e g.
              let w = slots_are_known s fits.function xs fits.slots made k x e in
              (w.0, sym (same_slot keep (is_box p f) xs ys m k g) ∙ w.1, kept_slot fits.function k x w.0 (element (IsCodeSlot p) xs k w.0 code w.1) w.2);
          cleared = tidy;
          fits = part.fits fits.slots.fits;
          held = all_with (IsMadeSlot s) (IsCodeSlot p) (IsHeldSlot C) held_slot ys (part.made made) (part.codes p code);
        }

    fine_frames : (us ws : List (Frame Position)) → B.Both FramesMeet us ws → TidyFrames (kept_of p) ws → All (FitsFrame p) us → All (IsMadeFrame s) us → All (IsCodeFrame p) us → All (FineFrame p C) ws
    fine_frames _ _ B.Ends tidy f m c = All-nil (FineFrame p C)
    fine_frames _ _ (B.Goes x y us ws r rs) tidy f m c =
        All-cons (FineFrame p C) y ws (fine_frame x y r tidy.0 (All-head (FitsFrame p) x us f) (All-head (IsMadeFrame s) x us m) (All-head (IsCodeFrame p) x us c))
        (fine_frames us ws rs tidy.1 (All-tail (FitsFrame p) x us f) (All-tail (IsMadeFrame s) x us m) (All-tail (IsCodeFrame p) x us c))

    -- ---- layers

    of_mode : (b : Bool) (x y : Frame Position) → FramesMeet x y → IsOfMode p b x → IsOfMode p b y
    of_mode b _ _ (FrameAgrees f a xs ys t size m) h = h

    all_cps : (us ws : List (Frame Position)) → B.Both FramesMeet us ws → AllCps p us → AllCps p ws
    all_cps us ws r h = all_both (IsOfMode p true) (IsOfMode p true) (of_mode true) us ws r h

    layers : (us ws : List (Frame Position)) → B.Both FramesMeet us ws → IsLayered p us → IsLayered p ws
    layers _ _ B.Ends h = tt
    layers _ _ (B.Goes x y us ws r rs) (inl h) = inl (of_mode false x y r h.0, layers us ws rs h.1)
    layers _ _ (B.Goes x y us ws r rs) (inr h) = inr (of_mode true x y r h.0, all_cps us ws rs h.1)

    abbrev StacksMeet : Stack Position → Stack Position → Type 0
    StacksMeet = StacksAgree p (is_box p) (lifting p).there (kept_of p)

    fine_stack : (k j : Stack Position) → StacksMeet k j → TidyFrames (kept_of p) j.frames → KeptStack p s k → IsLayered p k.frames → FineStack p C j
    fine_stack _ _ (StackAgrees us ws o rs) tidy h l = record {
      frames = fine_frames us ws rs tidy h.fits h.code.frames h.codes.frames;
      layered = layers us ws rs l;
      arriving = held_if o h.code.arriving h.codes.arriving;
    }

    fine_running : (k j : Option (Stack Position)) → BothSome StacksMeet k j → TidyRunning (kept_of p) j → ((i : Stack Position) → k ≡ Some i → KeptStack p s i) → ((i : Stack Position) → k ≡ Some i → IsLayered p i.frames)
        → (i : Stack Position) → j ≡ Some i → FineStack p C i
    fine_running _ _ NoneBoth tidy h l i e = absurd (cc)
    fine_running _ _ (SomeBoth k j r) tidy h l i e = let same : j ≡ i = cc in subst (FineStack p C) same (fine_stack k j r tidy (h k refl) (l k refl))

    -- ---- sections

    fine_job : (j : Job) → KeptJob p s j → CodedJob p j → FineJob C j
    fine_job j h c = record { arguments = held_values j.arguments h.arguments c.arguments; cells = held_values j.cells h.cells c.cells; pointer = held j.pointer h.pointer c.pointer }

    -- ---- threads

    fine_thread : (x y : Thread Position) → ThreadsMeet StacksMeet x y → KeptThread p s x → IsLayeredThread p x × BeginsWell p x → FineThread p C y
    fine_thread _ _ (PendingBoth f vs) h l = (l.1, held_values vs h.0 h.1, l.0)
    fine_thread _ _ (SuspendedBoth _ _ (StackAgrees us ws o rs)) h l = all_cps us ws rs l.0

    fine_due : (d e : Due (Thread Position)) → SameDue (ThreadsMeet StacksMeet) d e → KeptThread p s d.item × IsInt d.result → (IsLayeredThread p d.item × BeginsWell p d.item) × AnyValue d.result → FineThread p C e.item × IsInt e.result
    fine_due d e r h l = (fine_thread d.item e.item r.item h.0 l.0, subst IsInt r.result h.1)

    fine_agenda : (a b : Agenda (Thread Position)) → SameAgenda (ThreadsMeet StacksMeet) a b → KeptAgenda (KeptThread p s) IsInt a → KeptAgenda (λ x. IsLayeredThread p x × BeginsWell p x) AnyValue a → KeptAgenda (FineThread p C) IsInt b
    fine_agenda a b r h l = record {
      ready = all_beside _ _ _ fine_due a.ready b.ready r.ready h.ready l.ready;
      round = all_beside _ _ _ fine_due a.round b.round r.round h.round l.round;
      waiters = all_beside _ _ _ (λ x y i. fine_thread x.item y.item i.item) a.waiters b.waiters r.waiters h.waiters l.waiters;
      descriptors = all_beside _ _ _ (λ x y i. fine_thread x.item y.item i.item) a.descriptors b.descriptors r.descriptors h.descriptors l.descriptors;
      timers = all_beside _ _ _ (λ x y i. fine_thread x.item y.item i.item) a.timers b.timers r.timers h.timers l.timers;
      sections = all_beside _ _ _ (λ x y i. fine_thread x.item y.item i.item) a.sections b.sections r.sections h.sections l.sections;
    }

  -- ---- states

  fine_state : (x y : State Position (Thread Position)) → StatesMeet (StacksAgree p (is_box p) (lifting p).there (kept_of p)) x y → TidyRunning (kept_of p) y.running → Holds p x → Begun (split_form p) x.store x.running x.agenda x.jobs → FineState p C y
  fine_state _ _ (Meet s k j a b jobs h tr o r g) tidy holds begun = record {
    no_frames = holds.kept.no_frames;
    store = held_store s holds.kept.no_frames holds.kept.store holds.kept.codes;
    running = fine_running s holds.kept.no_frames k j r tidy holds.kept.running holds.layered.running;
    agenda = fine_agenda s holds.kept.no_frames a b g holds.kept.agenda (both_hold (IsLayeredThread p) (BeginsWell p) a holds.layered.agenda begun.0);
    jobs = all_with (KeptJob p s) (CodedJob p) (FineJob C) (fine_job s holds.kept.no_frames) jobs holds.kept.jobs begun.1;
  }

  -- so it is of each state of the lifted run
  pub runs_are_fine : (h : History) → ((n : ℕ) → Holds p (run (thread_system (split_form p) h) n)) → ((n : ℕ) → BegunAt p h n) → (n : ℕ) → FineState p C (lifted_after p h n)
  runs_are_fine h holds begun n =
      fine_state (run (thread_system (split_form p) h) n) (lifted_after p h n)
      (run_agrees (split_form p) (is_box p) (lifting p).there (kept_of p) (programs_have_marks p) (programs_are_closed p) h n)
      (lifted_is_tidy Position (split_form p) (kept_of p) h n) (holds n) (begun n)

-- ---- accepted programs

native_stays : (m : Meant) → IsNative m → is_cps m ≡ false
native_stays (AFunction Native r ps) h = refl
native_stays (AFunction Detached r ps) h = refl
native_stays _ h = absurd h

pub accepted_codes_stay : AcceptedCodesStay
accepted_codes_stay list end p read unbroken x h =
    let names = accepted_has_names list end p read unbroken in
    let g = native_there (bare p) (accepted_facts D.Cpc list end p read unbroken) x h in
    let there = names.there x g.0 g.1 in
    record { unmarked = subst (λ y. has_marks y ≡ false) there.1 (names.items (FunctionItem g.0) there.0).unmarked; not_cps = native_stays (item_named 0 (bare p) x) h }

-- `main` takes no arguments
main_begins : (p : Program) → HasMain p → (g : Function) → function_named p main_name ≡ Some g → FitAll (parameter_types g) [] × AreScalar (parameter_types g)
main_begins p main g e =
    let same : main.function ≡ g = let i : Some main.function ≡ Some g = sym main.named ∙ e in cc in
    let none : g.parameters ≡ [] = ap (λ (f : Function). f.parameters) (sym same) ∙ main.parameters in
    subst (λ ps. FitAll (map parameter_type ps) [] × AreScalar (map parameter_type ps)) (sym none) (tt, tt)

-- and what is spawned takes scalars
spawns_scalars : (p : Program) → PositionsKnown p → SpawnsScalars (split_form p)
spawns_scalars p known f w g e =
    let t = known.typed w.name w.function w.at (Simple (Spawn f w.arguments)) w.named w.stood in
    let same : t.1.0 ≡ g = let i : Some t.1.0 ≡ Some g = sym t.1.1 ∙ e in cc in
    subst (λ (k : Function). AreScalar (parameter_types k)) same (all_scalar p _ (parameter_types t.1.0) w.arguments t.1.2)

pub accepted_is_fine : AcceptedIsFine
accepted_is_fine list end p read unbroken h n =
    let split = accepted_splits_hold list end p read unbroken h in
    let steady = splits_steady (bare p) (accepted_is_steady list end p read unbroken).1 in
    runs_are_fine (bare p) (Stays (bare p)) (accepted_codes_stay list end p read unbroken) h split.runs
    (run_begun (split_form (bare p)) steady (spawns_scalars (bare p) (accepted_positions_known list end p read unbroken)) (main_begins (bare p) (accepted_has_main list end p read unbroken)) h split.runs) n
