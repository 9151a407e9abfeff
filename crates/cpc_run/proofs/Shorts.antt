-- The live cells of the next state, where the step is made and where it is not.
use Rattle.std.proofs.Common.{◌≡◌, ℕ, ◌+◌, ◌-◌, ◌<◌, ◌≤◌, ◌^◌, min, Bool, true, false, List, [], ◌∷◌, Option, Some, None, Result, Ok, Err, IfErr, OnOk, refl, sym, ap, subst, ◌∙◌, arith}
use Rattle.std.specs.Result.{IsErrAnd}
use Rattle.cpc_base.specs.Bytes.{Text}
use Rattle.cpc_tree.specs.Lists.{is_empty}
use Rattle.cpc_tree.specs.Trace as T
use Rattle.cpc_meaning.specs.Agenda as A
use Rattle.cpc_meaning.specs.Copies.{Collected, AllGave, OneFailed, NotClear, collect}
use Rattle.cpc_num.specs.declared.kinds.Fault.{Fault}
use Rattle.cpc_num.specs.declared.kinds.Kind.TheVariants.{Int}
use Rattle.cpc_tree.specs.Erase.{Names}
use Rattle.cpc_tree.specs.Points.{Point}
use Rattle.cpc_tree.specs.Syntax.{TyInt, Function, Program}
use Rattle.cpc_tree.specs.Typing.{function_named}
use Rattle.cpc_store.specs.Store as S
use Rattle.cpc_store.specs.Store.{store_cells}
use Rattle.cpc_meaning.specs.Answer.{Answer, Gives, Faults, NoAnswer, ◌>>=◌, needed}
use Rattle.cpc_meaning.specs.Eval.{assigned}
use Rattle.cpc_meaning.specs.Events.{Callback, CallWith, callbacks, starts_callback}
use Rattle.cpc_meaning.specs.Machine.{Machine, settled, step_running, code_step, runs, try_step, turns, turns_where, next_poll, next_round, takes_poll, polled, told_state}
use Rattle.cpc_meaning.specs.Plain.{Frame, make_frame, stack_of}
use Rattle.cpc_meaning.specs.Runs.{live_cells, frames_registers, registers}
use Rattle.cpc_meaning.specs.Trees.{trees}
use Rattle.cpc_meaning_laws.specs.Cell.Cells.{call_cells}
use Rattle.cpc_meaning_laws.proofs.Cell.Steps.{taking_adds}
use Rattle.cpc_run.specs.declared.looped.Loop.{Loop}
use Rattle.cpc_run_code.specs.declared.short.Short.{Short}
use Rattle.cpc_run_code.specs.declared.short.Short.TheVariants as W
use Rattle.cpc_run_code.specs.Code.{store_in, stack_in}
use Rattle.cpc_run.specs.Shorts.{Counts, IsBeyond}
use Rattle.cpc_run_code.specs.Shorts.{IsAbove}
use Rattle.cpc_run.specs.States.{States, Within, settles, program_in}
use Rattle.cpc_meaning_laws.specs.Pointer.Made.{IsMadeStore}
use Rattle.cpc_run_code.proofs.Stepping.{frame_never_fails}
use Rattle.cpc_run_code.proofs.Written.{Collects, collects}

-- ---- numbers

-- a number that is told is no greater one
beyond : (cap cells n : ℕ) (short : Short) → IsAbove cap cells short → cells ≡ min n (2 ^ 64 - 1) → IsBeyond cap short n
beyond cap cells n W.Memory above is = tt
beyond cap cells n (W.Beyond told) (e, more, ne) is = (omega (arith, e, ne, is), omega (arith, e, more))

-- a number that is told within the cap is within it
within : (cap cells n : ℕ) → cap < 2 ^ 62 → cells ≤ cap → cells ≡ min n (2 ^ 64 - 1) → n ≤ cap
within cap cells n small le is = omega (arith, small, le, is)

-- what holds of one number holds of the same
pub counts_more : (P Q : ℕ → Type 0) (o : Option States) → ((n : ℕ) → P n → Q n) → Counts P o → Counts Q o
counts_more P Q None f h = tt
counts_more P Q (Some t) f h = f (live_cells t) h

-- ---- a function that is taken up

module _ (names : Names) (l : Loop) (s : States) (f : Text) (vs : List S.Value) (cells : ℕ) where
  abbrev program : Program
  program = program_in names l

  -- what taking it up comes to, by the function
  abbrev begun : Function → Answer States
  begun g = make_frame (trees program) g vs s.store >>= λ m. Gives (record s { store = m.1; running = Some (stack_of m.0) })

  runs_is : (o : Option Function) → function_named program f ≡ o → runs (trees program) f vs s ≡ (needed o >>= begun)
  runs_is o e = ap (λ o. needed o >>= begun) e

  no_fault : (g : Function) (fault : Fault) → begun g ≡ Faults fault → ⊥
  no_fault g fault e = go (make_frame (trees program) g vs s.store) (frame_never_fails program g vs s.store) e
    where
      go : (a : Answer (Frame Point × S.Store)) → ((other : Fault) → a ≡ Faults other → ⊥) → (a >>= λ m. Gives (record s { store = m.1; running = Some (stack_of m.0) })) ≡ Faults fault → ⊥
      go (Gives m) h e = cc e
      go (Faults other) h e = h other refl
      go NoAnswer h e = cc e

  -- the cells that were told, where the function is one of the program
  abbrev Told : Type 0
  Told = (g : Function) → function_named program f ≡ Some g → cells ≡ min (store_cells (store_in names l.machine) + frames_registers (stack_in names l.machine).frames + call_cells program g) (2 ^ 64 - 1)

  counted : (P : ℕ → Type 0) → s.store ≡ store_in names l.machine → frames_registers (stack_in names l.machine).frames ≡ 0 → Told
      → ((n : ℕ) → cells ≡ min n (2 ^ 64 - 1) → P n) → Counts P (settles names l s (runs (trees program) f vs s))
  counted P store idle told h = by_function (function_named program f) refl
    where
      by_answer : (g : Function) → function_named program f ≡ Some g → (a : Answer States) → runs (trees program) f vs s ≡ a → Counts P (settles names l s a)
      by_answer g e NoAnswer i = tt
      by_answer g e (Faults fault) i = absurd (no_fault g fault (sym (runs_is (Some g) e) ∙ i))
      by_answer g e (Gives t) i =
          let adds : live_cells t ≡ store_cells s.store + call_cells program g = taking_adds Point _ (trees program) f g vs s t e i in
          let stored : store_cells s.store ≡ store_cells (store_in names l.machine) = ap store_cells store in
          let same : store_cells (store_in names l.machine) + frames_registers (stack_in names l.machine).frames + call_cells program g ≡ live_cells t = omega (arith, adds, stored, idle) in
          h (live_cells t) (told g e ∙ ap (λ k. min k (2 ^ 64 - 1)) same)

      by_function : (o : Option Function) → function_named program f ≡ o → Counts P (settles names l s (runs (trees program) f vs s))
      by_function None e = subst (λ a. Counts P (settles names l s a)) (sym (runs_is None e)) tt
      by_function (Some g) e = by_answer g e (runs (trees program) f vs s) refl

  pub starts_short : (cap : ℕ) (short : Short) → s.store ≡ store_in names l.machine → frames_registers (stack_in names l.machine).frames ≡ 0 → IsAbove cap cells short → Told
      → Counts (IsBeyond cap short) (settles names l s (runs (trees program) f vs s))
  starts_short cap short store idle above told = counted (IsBeyond cap short) store idle told (λ n is. beyond cap cells n short above is)

  pub starts_capped : (cap : ℕ) → cap < 2 ^ 62 → cells ≤ cap → s.store ≡ store_in names l.machine → frames_registers (stack_in names l.machine).frames ≡ 0 → Told
      → Counts (λ n. n ≤ cap) (settles names l s (runs (trees program) f vs s))
  starts_capped cap small le store idle told = counted (λ n. n ≤ cap) store idle told (λ n is. within cap cells n small le is)

-- ---- a callback

pub calls_count : (P : ℕ → Type 0) (names : Names) (l : Loop) (s : States) (f : Text) (pointer v w : S.Value) → ((x : S.Value) → assigned (TyInt Int) v ≡ Gives x → w ≡ x)
    → Counts P (settles names l s (runs (trees (program_in names l)) f (pointer ∷ w ∷ []) s))
    → Counts P (settles names l s (starts_callback (trees (program_in names l)) (CallWith f pointer) v s))
calls_count P names l s f pointer S.Unset w e h = subst (λ x. Counts P (settles names l s (runs (trees (program_in names l)) f (pointer ∷ x ∷ []) s))) (e S.Unset refl) h
calls_count P names l s f pointer (S.Whole kind z) w e h = subst (λ x. Counts P (settles names l s (runs (trees (program_in names l)) f (pointer ∷ x ∷ []) s))) (e _ refl) h
calls_count P names l s f pointer S.Null w e h = tt
calls_count P names l s f pointer (S.At c n k) w e h = tt
calls_count P names l s f pointer (S.Code g) w e h = tt
calls_count P names l s f pointer (S.Cond n) w e h = tt

-- ---- a turn

-- a turn leaves as many live cells, also where sections write what they came to
module _ (names : Names) (l : Loop) (s : States) where
  abbrev m : Machine Point Callback
  m = callbacks (program_in names l)

  abbrev Same : Option States → Type 0
  Same o = Counts (λ n. n ≡ live_cells s) o

  polled_counts : (told : T.Told) (polls : List T.Told) (c : Collected) → Collects s.store c → Same (settled m s (polled m told (told_state told polls s) c))
  polled_counts told polls (AllGave vs t) h = ap (λ n. n + registers s.running) h.1
  polled_counts told polls (OneFailed fault f) h = refl
  polled_counts told polls NotClear h = tt

  taken_so : IsMadeStore s.store → (told : T.Told) (polls : List T.Told) (o : Option ℕ) → Same (settled m s (takes_poll m s told polls o))
  taken_so made told polls (Some n) = refl
  taken_so made told polls None =
      polled_counts told polls (collect m.form s.history.section_bound s.jobs (A.completed told.events) s.store) (collects m.form s.history.section_bound s.jobs (A.completed told.events) s.store made)

  poll_counts : IsMadeStore s.store → (polls : List T.Told) → Same (settled m s (next_poll m s polls))
  poll_counts made [] = refl
  poll_counts made (told ∷ polls) = taken_so made told polls (A.not_out (A.completed told.events) (A.out s.agenda))

  round_counts : (b : Bool) → Same (settled m s (Gives (next_round s b)))
  round_counts true = refl
  round_counts false = refl

  turns_count : IsMadeStore s.store → (b : Bool) → Same (settled m s (turns_where m s b))
  turns_count made true = poll_counts made s.history.polls
  turns_count made false = round_counts (is_empty s.agenda.ready)

  pub turn_counts : (cap : ℕ) → Within cap s → Counts (λ n. n ≤ cap) (settles names l s (turns m s))
  turn_counts cap within = counts_more (λ n. n ≡ live_cells s) (λ n. n ≤ cap) (settled m s (turns m s)) (λ n e. subst (λ k. k ≤ cap) (sym e) within.live) (turns_count within.made.store (A.needs_poll s.agenda))

-- of want of memory nothing is told
pub memory_counts : (cap : ℕ) (short : Short) (o : Option States) → short ≡ W.Memory → Counts (IsBeyond cap short) o
memory_counts cap short None e = tt
memory_counts cap short (Some t) e = subst (λ x. IsBeyond cap x (live_cells t)) (sym e) tt

-- ---- a step of the running code

pub goes_count : (P : ℕ → Type 0) (names : Names) (l : Loop) (s : States) → s.running ≡ Some (stack_in names l.machine)
    → ((t : States) → try_step (callbacks (program_in names l)) s ≡ Some t → P (live_cells t))
    → Counts P (settles names l s (code_step (callbacks (program_in names l)) s (stack_in names l.machine)))
goes_count P names l s running h =
    let m = callbacks (program_in names l) in
    go (settles names l s (code_step m s (stack_in names l.machine))) (ap (λ o. settled m s (step_running m s o)) running)
  where
    go : (o : Option States) → try_step (callbacks (program_in names l)) s ≡ o → Counts P o
    go None e = tt
    go (Some t) e = h t e

-- what is told of each next state, from one with no more cells than the cap
pub by_more : (cap cells : ℕ) (short : Short) (before after : ℕ) → IsAbove cap cells short → before ≤ cap → (before < cells → cells ≡ min after (2 ^ 64 - 1)) → IsBeyond cap short after
by_more cap cells W.Memory before after above le h = tt
by_more cap cells (W.Beyond told) before after above le h =
    let more = above.1 in
    beyond cap cells after (W.Beyond told) above (h (omega (arith, more, le)))

-- ---- results

-- what holds of an error, and what follows of it
pub err_more : {A E : Type 0} (P Q : E → Type 0) (r : Result A E) → ((e : E) → P e → Q e) → IfErr r P → IfErr r Q
err_more P Q (Ok x) f h = tt
err_more P Q (Err e) f h = f e h

pub err_is : {A E : Type 0} (P : E → Type 0) (r : Result A E) (e : E) → IsErrAnd r (λ other. other ≡ e) → P e → IfErr r P
err_is P (Ok x) e is h = absurd is
err_is P (Err other) e is h = subst P (sym is) h

pub ok_more : {A E : Type 0} (P Q : Type 0) (r : Result A E) → (P → Q) → OnOk r P → OnOk r Q
ok_more P Q (Ok x) f h = f h
ok_more P Q (Err e) f h = tt
