-- What the rows of the conversion ask of states of the lifted run, from what is kept along the run of the split form beside it.
use Rattle.std.proofs.Common.{◌≡◌, ℕ, zero, suc, ◌<◌, Bool, List, [], ◌∷◌, length, Option, Some, option_map, refl, ap, subst, arith}
use Rattle.std.specs.List.{All}
use Rattle.std.proofs.lemmas.List.Elements.{All-nil, All-cons, All-head, All-tail}
use Rattle.cpc_base.specs.Bytes.{Text}
use Rattle.cpc_num.specs.declared.kinds.Kind.TheVariants.{Int}
use Rattle.cpc_store.specs.declared.values.Class.TheVariants.{Static, Auto, Heap, Frame}
use Rattle.cpc_store.specs.Store.{Value, Unset, Whole, Null, At, Code, Cond, Store}
use Rattle.cpc_tree.specs.Syntax.{TyInt}
use Rattle.cpc_tree.specs.Trace.{is_over}
use Rattle.cpc_meaning_matching.specs.Simulation.{Follows, one}
use Rattle.cpc_meaning_matching.specs.Steps.{or_stay}
use Rattle.cpc_meaning_matching.specs.Systems.{run}
use Rattle.cpc_meaning.specs.Agenda.{Due}
use Rattle.cpc_meaning.specs.Answer.{Gives}
use Rattle.cpc_meaning.specs.Eval.{assigned}
use Rattle.cpc_meaning.specs.History.{History}
use Rattle.cpc_meaning.specs.Machine.{next}
use Rattle.cpc_meaning.specs.Matching.{thread_system, event_system}
use Rattle.cpc_meaning.specs.Plain.{Frame as CallFrame, Stack}
use Rattle.cpc_meaning.specs.Section.{Job}
use Rattle.cpc_meaning.specs.Threads.{Thread, Pending, threads_of}
use Rattle.cpc_meaning.proofs.Both.{Both, Ends, Goes}
use Rattle.cpc_meaning.proofs.Agendas.{SameDue}
use Rattle.cpc_meaning.proofs.Follow.{opens}
use Rattle.cpc_meaning.proofs.Machines.{ThreadsMeet, PendingBoth, StatesMeet, Meet}
use Rattle.cpc_meaning.proofs.Meeting.{BothSome, SomeBoth, NoneBoth}
use Rattle.cpc_meaning.proofs.Steps.{next_meet}
use Rattle.cpc_meaning_laws.specs.Pointer.Made.{IsMade}
use Rattle.cpc_meaning_laws.proofs.Pointer.Blocks.{element}
use Rattle.cpc_check_laws.specs.Kept.Codes.{IsCode}
use Rattle.cpc_check_laws.specs.Kept.Kept.{KeptThread, KeptJob, NoFrames}
use Rattle.cpc_check_laws.specs.Kept.Layers.{Holds}
use Rattle.cpc_forms.specs.Split.{Position}
use Rattle.cpc_lift_laws.specs.Boxes.{Marks}
use Rattle.cpc_lift_laws.specs.Closed.{Closed}
use Rattle.cpc_lift_laws.specs.Lifted.{tidy, lifted_system, TidyRunning}
use Rattle.cpc_lift_laws.proofs.Frames.{StacksAgree, stacks_go}
use Rattle.cpc_lift_laws.proofs.Lifting.{tidied, run_tidy}
use Rattle.cpc_convert_image_laws.specs.Held.{IsHeld}
use Rattle.cpc_lifted_laws.specs.Related.Boxes.{OwnsBoxes}
use Rattle.cpc_lifted_laws.specs.Related.Bounds.{Bounds, Enough}
use Rattle.cpc_chains_laws.proofs.Related.Joined.{RowFacts}
use Rattle.cpc_chains_laws.proofs.Related.Pass.{follows_lifted}
use Rattle.cpc_chains_laws.proofs.Related.Relation.{Source}
use Rattle.cpc_chains_laws.proofs.Related.Setting.{Setting, from_form, to_form, HeldJob, Known}
use Rattle.cpc_lifted_laws.specs.Known.Jobs.{SectionsTake, IsNoCode, JobsFine}
use Rattle.cpc_lifted_laws.proofs.Known.BoxRuns.{lifted_boxes_stay}
use Rattle.cpc_lifted_laws.proofs.Known.JobRuns.{jobs_fine}

-- the first of two lists whose elements correspond, where the second has one
first_of : {X Y : Type 0} (R : X → Y → Type 0) (xs : List X) (ys : List Y) (y : Y) (us : List Y) → Both R xs ys → ys ≡ y ∷ us → (x : X) × (ws : List X) × (xs ≡ x ∷ ws) × R x y
first_of R _ _ y us Ends e = absurd (cc)
first_of R _ _ y us (Goes x z xs ys r rs) e = let same : z ≡ y = cc in (x, xs, refl, subst (R x) same r)

stays : {X Y : Type 0} (R : X → Y → Type 0) (x : X) (y : Y) (o : Option X) (u : Option Y) → R x y → BothSome R o u → R (or_stay x o) (or_stay y u)
stays R x y _ _ r NoneBoth = r
stays R x y _ _ r (SomeBoth a b s) = s

-- a value of a state without heap frames
made_held : (z : Setting) → ((x : Text) → IsCode z.source (Code x) → z.codes x) → (s : Store) → NoFrames s → (v : Value) → IsMade s v → IsCode z.source v → IsHeld z.codes v
made_held z codes s none Unset made code = tt
made_held z codes s none (Whole kind n) made code = tt
made_held z codes s none Null made code = tt
made_held z codes s none (At Static n k) made code = tt
made_held z codes s none (At Auto n k) made code = tt
made_held z codes s none (At Heap n k) made code = tt
made_held z codes s none (At Frame n k) made code = absurd (let e = ap length none in let h : n < length s.frames = made in omega (arith, e, h))
made_held z codes s none (Code f) made code = codes f code
made_held z codes s none (Cond n) made code = tt

-- the pointer of a section
pointer_held : (z : Setting) (s : Store) → NoFrames s → (v : Value) → IsMade s v → IsNoCode v → IsHeld z.codes v
pointer_held z s none Unset made code = tt
pointer_held z s none (Whole kind n) made code = tt
pointer_held z s none Null made code = tt
pointer_held z s none (At Static n k) made code = tt
pointer_held z s none (At Auto n k) made code = tt
pointer_held z s none (At Heap n k) made code = tt
pointer_held z s none (At Frame n k) made code = absurd (let e = ap length none in let h : n < length s.frames = made in omega (arith, e, h))
pointer_held z s none (Code f) made code = absurd code
pointer_held z s none (Cond n) made code = tt

jobs_held : (z : Setting) (s : Store) → NoFrames s → (js : List Job) → All (KeptJob z.source s) js → JobsFine z.sections js → All (HeldJob z) js
jobs_held z s none [] kept fine = All-nil (HeldJob z)
jobs_held z s none (j ∷ js) kept fine =
    All-cons (HeldJob z) j js
    (record { function = fine.0.function; arguments = fine.0.arguments; cells = fine.0.cells; pointer = pointer_held z s none j.pointer (All-head (KeptJob z.source s) j js kept).pointer fine.0.pointer })
    (jobs_held z s none js (All-tail (KeptJob z.source s) j js kept) fine.1)

module _ (z : Setting) (box : Text → ℕ → Bool) (there : Text → Position → Bool) where
  abbrev pub Stacks : Stack Position → Stack Position → Type 0
  Stacks = StacksAgree z.source box there z.kept

  abbrev pub Agree : Source → Source → Type 0
  Agree = StatesMeet Stacks

  -- what is to be shown of the setting: what holds along the run of the split form says what the setting takes for known
  pub record KnownFacts : Type 0 where
    pub holds : (h : History) (n : ℕ) → Holds z.source (run (thread_system (from_form z) h) n)
    pub sections : SectionsTake (from_form z) z.sections
    pub codes : (x : Text) → IsCode z.source (Code x) → z.codes x
    pub given : (s : Store) (f : Text) (vs : List Value) → KeptThread {P = Position} z.source s (Pending f vs) → z.given f vs
    pub fine : (x y : Source) → Agree x y → Holds z.source x → TidyRunning z.kept y.running
        → (frame : CallFrame Position) (below : List (CallFrame Position)) (o : Option Value) → y.running ≡ Some (record { frames = frame ∷ below; arriving = o }) → z.fine frame o

  module _ (marks : Marks z.source box) (closed : Closed (from_form z) box there z.kept) where
    -- the two runs go side by side
    pub beside_runs : (h : History) (n : ℕ) → Agree (run (thread_system (from_form z) h) n) (run (lifted_system z.kept (from_form z) h) n)
    beside_runs h zero = opens Stacks z.source (from_form z).code (from_form z).code (stacks_go z.source (from_form z).code box there z.kept marks closed.inside) h
    beside_runs h (suc n) =
        let x = run (thread_system (from_form z) h) n in
        let y = run (lifted_system z.kept (from_form z) h) n in
        stays Agree x y (next (threads_of (from_form z)) x) (option_map (tidy z.kept) (next (threads_of (from_form z)) y)) (beside_runs h n)
        (tidied z.source box there z.kept (next (threads_of (from_form z)) x) (next (threads_of (from_form z)) y)
        (next_meet Stacks z.source (from_form z).code (from_form z).code (stacks_go z.source (from_form z).code box there z.kept marks closed.inside) x y (beside_runs h n)))

    -- what is known of a state of the lifted run that agrees with one of the split form
    known_by : KnownFacts → (x y : Source) → Agree x y → Holds z.source x → OwnsBoxes y → JobsFine z.sections y.jobs → TidyRunning z.kept y.running → Known z y
    known_by facts _ _ (Meet s k j a b jobs h tr o r g) holds boxes fine tidy =
        let kept = holds.kept in
        record {
          store = λ class n k cells v e i. made_held z facts.codes s kept.no_frames v (kept.store class n k cells v e i) (element (IsCode z.source) cells k v (kept.codes class n cells e) i);
          jobs = jobs_held z s kept.no_frames jobs kept.jobs fine;
          boxes = boxes;
          running = λ frame below p e. facts.fine _ _ (Meet s k j a b jobs h tr o r g) holds tidy frame below p e;
          result = λ d ds e.
              let f = first_of (SameDue (ThreadsMeet Stacks)) a.round b.round d ds g.round e in
              let all = subst (λ xs. All DueSo xs) f.2 kept.agenda.round in
              subst (λ v. assigned (TyInt Int) v ≡ Gives v) f.3.result (All-head DueSo f.0 f.1 all).1;
          arguments = λ y vs v ds e.
              let d : Due (Thread Position) = record { item = Pending y vs; result = v } in
              let f = first_of (SameDue (ThreadsMeet Stacks)) a.round b.round d ds g.round e in
              let all = subst (λ xs. All DueSo xs) f.2 kept.agenda.round in
              facts.given s y vs (subst (λ t. KeptThread z.source s t) (pending_is f.0.item y vs f.3.item) (All-head DueSo f.0 f.1 all).0);
        }
      where
        DueSo : Due (Thread Position) → Type 0
        DueSo d = KeptThread z.source s d.item × (assigned (TyInt Int) d.result ≡ Gives d.result)

        pending_is : (t : Thread Position) (y : Text) (vs : List Value) → ThreadsMeet Stacks t (Pending y vs) → t ≡ Pending y vs
        pending_is _ y vs (PendingBoth _ _) = refl

    -- so of each
    pub known_stays : KnownFacts → (h : History) (n : ℕ) → Known z (run (lifted_system z.kept (from_form z) h) n)
    known_stays facts h n =
        known_by facts _ _ (beside_runs h n) (facts.holds h n) (lifted_boxes_stay (from_form z) z.kept h n) (jobs_fine (from_form z) z.sections facts.sections z.kept h n) (run_tidy (from_form z) z.kept h n)

    -- so the event program follows the lifted run
    pub converted_follows : KnownFacts → (bounds : Bounds) → RowFacts z bounds → (most : ℕ) (enough : Enough bounds most)
        → Follows is_over (lifted_system z.kept (from_form z)) (event_system (to_form z)) (λ (x : Source). most) one
    converted_follows facts bounds rows most enough = follows_lifted z bounds rows most enough (λ h n live. known_stays facts h n)
