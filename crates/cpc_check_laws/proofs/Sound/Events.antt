-- The callbacks of a typed program are never stuck.
use Rattle.std.proofs.Common.{◌≡◌, ℕ, true, false, List, [], ◌∷◌, Ok, refl, sym, ◌∙◌, ap, subst}
use Rattle.cpc_base.specs.Bytes.{Text}
use Rattle.cpc_base.specs.declared.stop.Dialect.TheVariants as D
use Rattle.cpc_base.proofs.Truth.{by_false_true}
use Rattle.cpc_num.specs.declared.kinds.Kind.TheVariants.{Int}
use Rattle.cpc_tree.specs.Syntax.{Ty, TyVoid, TyInt, TyPointer, Program}
use Rattle.cpc_tree.specs.Typing.{parameter_types, code_parameters}
use Rattle.cpc_tree.specs.Points.{Point}
use Rattle.cpc_tree.specs.Primitives.{Primitive, Yield, Sleep, IoWait, Wait, RtFrame, RtBox, RtFrameFree, RtUnbox, RtReady, RtWait, RtSleep, RtIo, RtDetach}
use Rattle.cpc_tree.specs.Registers.{variables}
use Rattle.cpc_tree.specs.Trace.{Sleeping, Waiting as WaitingMark, Awaiting}
use Rattle.cpc_tree.proofs.TypeRows.{list_back}
use Rattle.cpc_store.specs.declared.values.Class.TheVariants.{Auto, Frame as FrameClass}
use Rattle.cpc_store.specs.Store.{Value, Unset, Whole, Code}
use Rattle.cpc_meaning.specs.Answer.{NoAnswer}
use Rattle.cpc_meaning.specs.Eval.{assigned}
use Rattle.cpc_meaning.specs.Plain.{Stack}
use Rattle.cpc_meaning.specs.Trees.{trees}
use Rattle.cpc_meaning.specs.Agenda.{ready_one, wait, sleep, io}
use Rattle.cpc_meaning.specs.Section.{allocated, freed}
use Rattle.cpc_meaning.specs.Machine.{State, marks, submits, direction_of}
use Rattle.cpc_meaning.specs.Events.{Callback, CallMain, CallWith, starts_callback, event_primitive, callbacks}
use Rattle.cpc_meaning.specs.Start.{main_name, before_underscores}
use Rattle.cpc_check_rules.specs.Calls.{gives}
use Rattle.cpc_check_laws.specs.Sound.Suits.{Comes, Suits}
use Rattle.cpc_check_laws.specs.Sound.Typed.{TypedProgram, is_for}
use Rattle.cpc_check_laws.specs.Sound.Promises.{TypedCallbacksNeverStuck}
use Rattle.cpc_check_laws.proofs.Sound.Answers.{comes_then}
use Rattle.cpc_check_laws.proofs.Sound.Conversions.{assigned_comes}
use Rattle.cpc_check_laws.proofs.Sound.Requests.{AllSuit, PrimitiveGiven, IsCallback, callback_type}
use Rattle.cpc_check_laws.proofs.Sound.Frames.{given, Asking, given_none}
use Rattle.cpc_check_laws.proofs.Sound.Agendas.{ready_one_ok, wait_ok, sleep_ok, io_ok}
use Rattle.cpc_check_laws.proofs.Sound.Sections.{HasJob, allocated_comes, freed_comes}
use Rattle.cpc_check_laws.proofs.Sound.Machines.{whole_is, cond_is, RestOk, StateOk, reply_comes, replies_come, acts_come, runs_come, submits_come, is_shared, OwnOk, runs_on_and_on}

module _ (p : Program) (typed : TypedProgram D.Event p) where
  -- a callback is a function of its type, with a pointer
  abbrev CallbackOk : Callback → Type 0
  CallbackOk CallMain = Unit {0}
  CallbackOk (CallWith f pointer) = IsCallback p callback_type (Code f) × Suits (TyPointer TyVoid) pointer

  abbrev Good : State Point Callback → Type 0
  Good = StateOk D.Event p typed CallbackOk

  abbrev Rest : State Point Callback → Type 0
  Rest s = RestOk D.Event p typed CallbackOk s.agenda s.jobs

  abbrev Known : State Point Callback → ℕ → Type 0
  Known s = HasJob D.Event p typed s.jobs

  starts_come : (item : Callback) (v : Value) (s : State Point Callback) → CallbackOk item → Suits (TyInt Int) v → Rest s → Comes Good (starts_callback (trees p) item v s)
  starts_come CallMain v s h i rest = runs_come D.Event p typed CallbackOk main_name typed.main [] s typed.is_main (given_none (variables typed.main)) rest
  starts_come (CallWith f pointer) v s h i rest =
      comes_then (Suits (TyInt Int)) Good (assigned (TyInt Int) v) _ (assigned_comes (TyInt Int) (TyInt Int) v refl i) λ w j.
      runs_come D.Event p typed CallbackOk f h.0.0 (pointer ∷ w ∷ []) s h.0.1
      (given h.0.0 (pointer ∷ w ∷ []) (subst (λ us. AllSuit us (pointer ∷ w ∷ [])) (ap code_parameters h.0.2 ∙ list_back (parameter_types h.0.0)) (h.1, (j, tt)))) rest

  -- the code of a callback
  code_is : (P : Value → Type 0) (v : Value) → IsCallback p callback_type v → ((f : Text) → IsCallback p callback_type (Code f) → P (Code f)) → P v
  code_is P (Code f) h g = g f h
  code_is P _ h g = absurd h

  owns_come : (R : Ty) (prim : Primitive) (vs : List Value) (k : Stack Point) (s : State Point Callback) → is_shared prim ≡ false → is_for D.Event prim ≡ true → PrimitiveGiven p prim vs
      → Asking D.Event p false R (gives prim) k.frames → Rest s → Comes Good (event_primitive (trees p) prim vs k s)
  owns_come R RtFrame (v ∷ []) k s e f g h rest = replies_come D.Event p typed CallbackOk R (TyPointer TyVoid) (TyPointer TyVoid) k (allocated FrameClass v s.store) s rest h (λ v i. i) (allocated_comes FrameClass v s.store refl g.0)
  owns_come R RtFrame [] k s e f g h rest = absurd g
  owns_come R RtFrame (v ∷ w ∷ vs) k s e f g h rest = absurd g.1
  owns_come R RtBox (v ∷ []) k s e f g h rest = replies_come D.Event p typed CallbackOk R (TyPointer TyVoid) (TyPointer TyVoid) k (allocated Auto v s.store) s rest h (λ v i. i) (allocated_comes Auto v s.store refl g.0)
  owns_come R RtBox [] k s e f g h rest = absurd g
  owns_come R RtBox (v ∷ w ∷ vs) k s e f g h rest = absurd g.1
  owns_come R RtFrameFree (v ∷ []) k s e f g h rest = replies_come D.Event p typed CallbackOk R TyVoid TyVoid k (freed FrameClass v s.store) s rest h (λ v i. i) (freed_comes FrameClass v s.store refl)
  owns_come R RtFrameFree [] k s e f g h rest = absurd g
  owns_come R RtFrameFree (v ∷ w ∷ vs) k s e f g h rest = absurd g.1
  owns_come R RtUnbox (v ∷ []) k s e f g h rest = replies_come D.Event p typed CallbackOk R TyVoid TyVoid k (freed Auto v s.store) s rest h (λ v i. i) (freed_comes Auto v s.store refl)
  owns_come R RtUnbox [] k s e f g h rest = absurd g
  owns_come R RtUnbox (v ∷ w ∷ vs) k s e f g h rest = absurd g.1
  owns_come R RtReady (v ∷ x ∷ []) k s e f g h rest =
      code_is (λ v. Comes Good (event_primitive (trees p) RtReady (v ∷ x ∷ []) k s)) v g.0 λ c i.
      acts_come D.Event p typed CallbackOk R k (Ok (ready_one (CallWith c x) s.agenda)) s rest h (ready_one_ok CallbackOk (Known s) (CallWith c x) s.agenda (i, g.1.0) rest.agenda)
  owns_come R RtReady [] k s e f g h rest = absurd g
  owns_come R RtReady (v ∷ []) k s e f g h rest = absurd g.1
  owns_come R RtReady (v ∷ x ∷ w ∷ vs) k s e f g h rest = absurd g.1.1
  owns_come R RtWait (v ∷ b ∷ x ∷ []) k s e f g h rest =
      code_is (λ b. Comes Good (event_primitive (trees p) RtWait (v ∷ b ∷ x ∷ []) k s)) b g.1.0 λ c i.
      cond_is (λ v. Comes Good (event_primitive (trees p) RtWait (v ∷ Code c ∷ x ∷ []) k s)) v g.0 λ n.
      acts_come D.Event p typed CallbackOk R k (wait n (CallWith c x) s.agenda) (marks (WaitingMark n) s) rest h (wait_ok CallbackOk (Known s) n (CallWith c x) s.agenda (i, g.1.1.0) rest.agenda)
  owns_come R RtWait [] k s e f g h rest = absurd g
  owns_come R RtWait (v ∷ []) k s e f g h rest = absurd g.1
  owns_come R RtWait (v ∷ b ∷ []) k s e f g h rest = absurd g.1.1
  owns_come R RtWait (v ∷ b ∷ x ∷ w ∷ vs) k s e f g h rest = absurd g.1.1.1
  owns_come R RtSleep (v ∷ b ∷ x ∷ []) k s e f g h rest =
      code_is (λ b. Comes Good (event_primitive (trees p) RtSleep (v ∷ b ∷ x ∷ []) k s)) b g.1.0 λ c i.
      whole_is (λ v. Comes Good (event_primitive (trees p) RtSleep (v ∷ Code c ∷ x ∷ []) k s)) v g.0 λ kind z.
      acts_come D.Event p typed CallbackOk R k (sleep z (CallWith c x) s.agenda) (marks (Sleeping z) s) rest h (sleep_ok CallbackOk (Known s) z (CallWith c x) s.agenda (i, g.1.1.0) rest.agenda)
  owns_come R RtSleep [] k s e f g h rest = absurd g
  owns_come R RtSleep (v ∷ []) k s e f g h rest = absurd g.1
  owns_come R RtSleep (v ∷ b ∷ []) k s e f g h rest = absurd g.1.1
  owns_come R RtSleep (v ∷ b ∷ x ∷ w ∷ vs) k s e f g h rest = absurd g.1.1.1
  owns_come R RtIo (v ∷ w ∷ b ∷ x ∷ []) k s e f g h rest =
      code_is (λ b. Comes Good (event_primitive (trees p) RtIo (v ∷ w ∷ b ∷ x ∷ []) k s)) b g.1.1.0 λ c i.
      whole_is (λ v. Comes Good (event_primitive (trees p) RtIo (v ∷ w ∷ Code c ∷ x ∷ []) k s)) v g.0 λ kind z.
      whole_is (λ w. Comes Good (event_primitive (trees p) RtIo (Whole kind z ∷ w ∷ Code c ∷ x ∷ []) k s)) w g.1.0 λ kind2 y.
      acts_come D.Event p typed CallbackOk R k (Ok (io z (direction_of y) (CallWith c x) s.agenda)) (marks (Awaiting z (direction_of y)) s) rest h
      (io_ok CallbackOk (Known s) z (direction_of y) (CallWith c x) s.agenda (i, g.1.1.1.0) rest.agenda)
  owns_come R RtIo [] k s e f g h rest = absurd g
  owns_come R RtIo (v ∷ []) k s e f g h rest = absurd g.1
  owns_come R RtIo (v ∷ w ∷ []) k s e f g h rest = absurd g.1.1
  owns_come R RtIo (v ∷ w ∷ b ∷ []) k s e f g h rest = absurd g.1.1.1
  owns_come R RtIo (v ∷ w ∷ b ∷ x ∷ y ∷ vs) k s e f g h rest = absurd g.1.1.1.1
  owns_come R RtDetach (b ∷ x ∷ Code c ∷ vs) k s e f g h rest =
      code_is (λ b. Comes Good (event_primitive (trees p) RtDetach (b ∷ x ∷ Code c ∷ vs) k s)) b g.0 λ a i.
      comes_then (λ (t : State Point Callback). (t.running ≡ s.running) × (t.store ≡ s.store) × RestOk D.Event p typed CallbackOk t.agenda t.jobs) Good (submits (trees p) c vs (CallWith a x) s) _
      (submits_come D.Event p typed CallbackOk c vs (CallWith a x) s g.2 (i, g.1) rest) (λ t j. reply_comes D.Event p typed CallbackOk R TyVoid k Unset t j.2 h tt)
  owns_come R RtDetach _ k s e f g h rest = absurd g
  owns_come R Yield vs k s e f g h rest = by_false_true f
  owns_come R Sleep vs k s e f g h rest = by_false_true f
  owns_come R IoWait vs k s e f g h rest = by_false_true f
  owns_come R Wait vs k s e f g h rest = by_false_true f
  owns_come R _ vs k s e f g h rest = by_false_true (sym e)

  own_ok : OwnOk D.Event p typed CallbackOk (callbacks p)
  own_ok = record {
    starts = starts_come;
    owns = owns_come;
    spawns = λ R x vs k s g e is_g w h rest. absurd (cc);
    detaches = λ R x vs k s e g h rest. absurd (cc);
  }

pub callbacks_never_stuck : TypedCallbacksNeverStuck
callbacks_never_stuck p typed h =
    runs_on_and_on D.Event p typed (CallbackOk p typed) (starts_callback (trees p)) (event_primitive (trees p)) (λ f vs k s. NoAnswer) (λ f vs k s. NoAnswer) before_underscores (own_ok p typed) CallMain tt h
