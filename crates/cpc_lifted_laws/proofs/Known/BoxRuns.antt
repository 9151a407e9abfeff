-- Each step of threads keeps the boxes of all frames live, each no more than once; so does a frame that forgets variables.
use Rattle.std.proofs.Common.{◌≡◌, ℕ, ◌+◌, ◌≤◌, Bool, List, [], ◌∷◌, map, Option, Some, None, refl, ◌∙◌, subst, arith}
use Rattle.cpc_base.specs.Bytes.{Text}
use Rattle.cpc_store.specs.Store.{Value, Store}
use Rattle.cpc_meaning_matching.specs.Systems.{run}
use Rattle.cpc_meaning.specs.Agenda.{Agenda, ready_one, poll}
use Rattle.cpc_meaning.specs.Answer.{Gives}
use Rattle.cpc_meaning.specs.History.{History}
use Rattle.cpc_meaning.specs.Machine.{State}
use Rattle.cpc_meaning.specs.Plain.{Form, Frame, Stack, Went, Returned, waiting}
use Rattle.cpc_meaning.specs.Requests.{Asked}
use Rattle.cpc_meaning.specs.Section.{Job}
use Rattle.cpc_meaning.specs.Threads.{Thread, Pending, Suspended}
use Rattle.cpc_meaning_laws.proofs.Pointer.Blocks.{Only}
use Rattle.cpc_lift_laws.specs.Lifted.{tidy_frame, tidy_running, tidy, lifted_system}
use Rattle.cpc_convert_flat_laws.specs.Blocks.{count}
use Rattle.cpc_convert_flat_laws.proofs.Blocks.{count_append}
use Rattle.cpc_lifted_laws.specs.Accepted.Moves.{Shuffled, MadeCondition, FreedCondition, Signalled, SignalledAll, BeganRound, WasPolled, Added, IsReady, Sleeps, AwaitsIo, WaitsOn, AwaitsSection, IsKept}
use Rattle.cpc_lifted_laws.specs.Arrival.Arrivals.{AnyValue}
use Rattle.cpc_lifted_laws.specs.Related.Boxes.{running_boxes, thread_boxes, boxes_of}
use Rattle.cpc_lifted_laws.specs.Related.Sums.{total, all_joined}
use Rattle.cpc_lifted_laws.proofs.Accepted.Walk.{run_so}
use Rattle.cpc_lifted_laws.proofs.Related.Owned.{count_all}
use Rattle.cpc_lifted_laws.proofs.Related.Sums.{total_ready, total_begins, total_wait, total_signal, total_signal_all, total_freed, total_sleep, total_io, total_section, total_polled, round_polled}
use Rattle.cpc_lifted_laws.proofs.Related.Owned.{total_rest}
use Rattle.cpc_lifted_laws.specs.Known.Laws.{LiftedBoxesStay}
use Rattle.cpc_lifted_laws.proofs.Known.BoxActs.{DoneHeld, plain_held, answered_held, SameBoxes, waiting_held, frame_held}
use Rattle.cpc_lifted_laws.proofs.Known.BoxStores.{live_in, held, frames_held, frames_count, held_tidied}

module _ {P : Type 0} (p : Form P) (b : ℕ) where
  -- how often the block is a box of a thread that waits, of those of an agenda, and of the one that runs
  abbrev waits_in : Thread P → ℕ
  waits_in x = count b (thread_boxes x)

  abbrev all_in : Agenda (Thread P) → ℕ
  all_in a = total waits_in a

  abbrev runs_in : Option (Stack P) → ℕ
  runs_in None = 0
  runs_in (Some k) = frames_held b k.frames

  -- the block is live if it is a box at all, and it is one once
  abbrev HeldIn : Store → Option (Stack P) → Agenda (Thread P) → List Job → Type 0
  HeldIn s o a jobs = runs_in o + all_in a ≤ live_in b s

  -- whatever is asked
  abbrev Anything : Store → Stack P → Asked → List Value → Type 0
  Anything s k asked vs = Unit {0}

  -- ---- agendas

  -- a thread that waits with this stack
  waits_so : (k : Stack P) → waits_in (Suspended k) ≡ frames_held b k.frames
  waits_so k = frames_count b k.frames

  waits_same : (k j : Stack P) → waiting p k ≡ Gives j → waits_in (Suspended j) ≡ frames_held b k.frames
  waits_same k j e = waits_so j ∙ subst (Only (SameBoxes b p k)) e (waiting_held b p k)

  shuffled_count : (a d : Agenda (Thread P)) → Shuffled a d → all_in d ≡ all_in a
  shuffled_count _ _ (MadeCondition a) = refl
  shuffled_count _ _ (FreedCondition c a d e) = total_freed waits_in c a d e
  shuffled_count _ _ (Signalled c a d e) = total_signal waits_in c a d e
  shuffled_count _ _ (SignalledAll c a d e) = total_signal_all waits_in c a d e
  shuffled_count _ _ (BeganRound a none) = total_begins waits_in a none
  shuffled_count _ _ (WasPolled told vs a none) = total_begins waits_in (poll told vs a) (round_polled waits_in told vs a ∙ none) ∙ total_polled waits_in told vs a

  added_count : (item : Thread P) (a d : Agenda (Thread P)) → Added item a d → all_in d ≡ waits_in item + all_in a
  added_count item _ _ (IsReady a) = let t = total_ready waits_in (item ∷ []) a in omega (arith, t)
  added_count item _ _ (Sleeps z a d e) = total_sleep waits_in z item a d e
  added_count item _ _ (AwaitsIo fd way a) = total_io waits_in fd way item a
  added_count item _ _ (WaitsOn c a d e) = total_wait waits_in c item a d e
  added_count item _ _ (AwaitsSection a d e) = total_section waits_in item a d e

  -- ---- moves

  kept : IsKept p HeldIn Anything AnyValue
  kept = record {
    went = λ s t k j a jobs e h. let i : DoneHeld b p s k.frames (Went t j) = subst (Only (DoneHeld b p s k.frames)) e (plain_held b p s k) in omega (arith, h, i);
    returned = λ s t k v a jobs e h. let i : DoneHeld b p s k.frames (Returned v t) = subst (Only (DoneHeld b p s k.frames)) e (plain_held b p s k) in omega (arith, h, i);
    answered = λ s t k j v a jobs e h. let i : DoneHeld b p s k.frames (Went t j) = subst (Only (DoneHeld b p s k.frames)) e (answered_held b p s k v) in omega (arith, h, i);
    stores = λ s t o a jobs same h. let e : live_in b t ≡ live_in b s = same b in omega (arith, h, e);
    shuffled = λ s o a d jobs move h. let e = shuffled_count a d move in omega (arith, h, e);
    spawned = λ s k a jobs f vs asks h. let e = added_count (Pending f vs) a (ready_one (Pending f vs) a) (IsReady a) in omega (arith, h, e);
    suspended = λ s k j a d jobs prim vs gives asks e add h. let i = added_count (Suspended j) a d add in let m = waits_same k j e in omega (arith, h, i, m);
    submitted = λ s k j a d jobs f g vs cells e add is asks copy h. let i = added_count (Suspended j) a d add in let m = waits_same k j e in omega (arith, h, i, m);
    begun = λ s t a jobs f g vs v ds frame e is made h.
        let i : held b frame.slots + live_in b s ≡ live_in b t = subst (Only (λ (r : Frame P × Store). held b r.0.slots + live_in b s ≡ live_in b r.1)) made (frame_held b p g vs s) in
        let m = total_rest waits_in a (record { item = Pending f vs; result = v }) ds e in
        omega (arith, h, i, m);
    resumed = λ s k v a jobs ds e due h. let i = waits_so k in let m = total_rest waits_in a (record { item = Suspended k; result = v }) ds e in omega (arith, h, i, m);
  }

  -- ---- runs of the lifted machine

  module _ (keeps : Text → P → ℕ → Bool) where
    frames_tidied : (frames : List (Frame P)) → frames_held b (map (tidy_frame keeps) frames) ≤ frames_held b frames
    frames_tidied [] = omega arith
    frames_tidied (frame ∷ frames) = let e = held_tidied b (keeps frame.function frame.point) frame.slots in let f = frames_tidied frames in omega (arith, e, f)

    abbrev HeldState : State P (Thread P) → Type 0
    HeldState s = HeldIn s.store s.running s.agenda s.jobs

    tidy_held : (s : State P (Thread P)) → HeldState s → HeldState (tidy keeps s)
    tidy_held s h = go s.running h
      where
        go : (o : Option (Stack P)) → runs_in o + all_in s.agenda ≤ live_in b s.store → runs_in (tidy_running keeps o) + all_in s.agenda ≤ live_in b s.store
        go None i = i
        go (Some k) i = let e = frames_tidied k.frames in omega (arith, i, e)

    pub run_held : (h : History) (n : ℕ) → HeldState (run (lifted_system keeps p h) n)
    run_held h n = run_so p HeldIn Anything AnyValue kept keeps tidy_held h (omega arith) (λ n k e asked vs i. tt) (λ n d ds e. tt) n

-- ---- the law

boxes_count : {P : Type 0} (p : Form P) (b : ℕ) (s : State P (Thread P)) → count b (boxes_of s) ≡ runs_in p b s.running + all_in p b s.agenda
boxes_count {P = P} p b s =
    let e = count_append b (running_boxes s.running) (all_joined thread_boxes s.agenda) in
    let f = count_all thread_boxes b s.agenda in
    let g = runs_count s.running in
    omega (arith, e, f, g)
  where
    runs_count : (o : Option (Stack P)) → count b (running_boxes o) ≡ runs_in p b o
    runs_count None = refl
    runs_count (Some k) = frames_count b k.frames

pub lifted_boxes_stay : {P : Type 0} → LiftedBoxesStay P
lifted_boxes_stay p kept h n = record {
  each = λ b.
      let s = run (lifted_system kept p h) n in
      let e = boxes_count p b s in
      let f = run_held p b kept h n in
      omega (arith, e, f);
}
