-- Where nothing runs, and the next step of the threads ends the run with nothing running: the event program ends in one step too, with the same blocks.
use Rattle.std.proofs.Common.{◌≡◌, true, List, [], ◌∷◌, Option, Some, None, refl, sym, ◌∙◌, ap, subst}
use Rattle.cpc_base.specs.Bytes.{Text}
use Rattle.cpc_store.specs.Store.{Value, Blocks, Store}
use Rattle.cpc_tree.specs.Registers.{variables}
use Rattle.cpc_tree.specs.Syntax.{Function}
use Rattle.cpc_tree.specs.Trace.{Failed, is_over}
use Rattle.cpc_tree.specs.Typing.{function_named}
use Rattle.cpc_meaning.specs.Agenda.{Agenda, Due}
use Rattle.cpc_meaning.specs.Answer.{Answer, Gives, Faults, NoAnswer}
use Rattle.cpc_meaning.specs.Eval.{Slot}
use Rattle.cpc_meaning.specs.Events.{Callback, callbacks}
use Rattle.cpc_meaning.specs.Machine.{next, settled, schedules, turns, runs, ends}
use Rattle.cpc_meaning.specs.Plain.{Stack}
use Rattle.cpc_meaning.specs.Slots.{call_slots}
use Rattle.cpc_meaning.specs.Start.{before_underscores}
use Rattle.cpc_meaning.specs.Threads.{Thread, Pending, Suspended, starts_thread, shown_in, threads_of}
use Rattle.cpc_meaning.proofs.Both.{Both, Ends, Goes as And}
use Rattle.cpc_meaning.proofs.Agendas.{SameDue}
use Rattle.cpc_meaning_laws.proofs.Pointer.Blocks.{Only}
use Rattle.cpc_forms.specs.Split.{Position}
use Rattle.cpc_convert_image_laws.specs.Held.{beside}
use Rattle.cpc_convert_image_laws.specs.Relations.{Meets, BothGive, BothFault, Stuck}
use Rattle.cpc_convert_image_laws.specs.Stacks.{frame_of}
use Rattle.cpc_convert_flat_laws.specs.Blocks.{Owns}
use Rattle.cpc_chains_laws.specs.Related.Fresh.{AllFresh}
use Rattle.cpc_lifted_laws.specs.Related.Cut.{Tagged, IsUntagged, owned_in}
use Rattle.cpc_chains_laws.specs.Related.Items.{ItemFor}
use Rattle.cpc_chains_laws.proofs.Related.Idle.{fine_slots}
use Rattle.cpc_chains_laws.proofs.Related.Pass.{related_shows}
use Rattle.cpc_chains_laws.proofs.Related.Relation.{Source, Target, Shared, AgendaFor, source_state, target_state, Related, IsOver}
use Rattle.cpc_chains_laws.proofs.Related.Setting.{Setting, from_form, NativeFacts, Known}
use Rattle.cpc_chains_laws.proofs.Related.Turns.{turns_meet}
use Rattle.cpc_lifted_laws.proofs.Leak.Ended.{KeptIfOver, IsKept, turns_kept}

-- an item that is taken runs
module _ (z : Setting) (w : Shared) (a : Agenda (Thread Position)) (s : Source) (none : s.running ≡ None) where
  abbrev from : Source
  from = source_state w None a

  abbrev rest : List (Due (Thread Position)) → Source
  rest ds = source_state w None (record a { round = ds })

  abbrev Leads : Answer Source → Type 0
  Leads u = settled (threads_of (from_form z)) from u ≡ Some s

  no_gives : (t : Source) (k : Stack Position) → t.running ≡ Some k → ¬ (Leads (Gives t))
  no_gives t k is e = absurd (let i : t ≡ s = cc in let j : Some k ≡ None = sym is ∙ (ap (λ (u : Source). u.running) i ∙ none) in cc)

  no_answer : (u : Answer Source) → u ≡ NoAnswer → ¬ (Leads u)
  no_answer u i e = absurd (let j : None ≡ Some s = ap (λ u. settled (threads_of (from_form z)) from u) (sym i) ∙ e in cc)

  runs_none : (f : Text) (vs : List Value) (ds : List (Due (Thread Position))) → function_named z.source f ≡ None → runs (from_form z) f vs (rest ds) ≡ NoAnswer
  runs_none f vs ds named = simp (named) refl

  runs_stuck : (f : Text) (vs : List Value) (ds : List (Due (Thread Position))) (h : Function) → function_named z.source f ≡ Some h → call_slots z.source h vs w.store ≡ NoAnswer → runs (from_form z) f vs (rest ds) ≡ NoAnswer
  runs_stuck f vs ds h named made = simp (named, made) refl

  runs_gives : (f : Text) (vs : List Value) (ds : List (Due (Thread Position))) (h : Function) (slots : List Slot) (t : Store) → function_named z.source f ≡ Some h → call_slots z.source h vs w.store ≡ Gives (slots, t)
      → runs (from_form z) f vs (rest ds) ≡ Gives (source_state (record w { store = t }) (Some (record { frames = frame_of h.called ((from_form z).code.first h.called) slots ∷ []; arriving = None })) (record a { round = ds }))
  runs_gives f vs ds h slots t named made = simp (named, made) refl

  taken_runs : (item : Thread Position) (v : Value) (ds : List (Due (Thread Position))) → ¬ (Leads (starts_thread (from_form z) item v (rest ds)))
  taken_runs (Suspended k) v ds e = no_gives _ _ refl e
  taken_runs (Pending f vs) v ds e = named (function_named z.source f) refl
    where
      made : (h : Function) → function_named z.source f ≡ Some h → (u : Answer (List Slot × Store)) → call_slots z.source h vs w.store ≡ u → ⊥
      made h m (Gives (slots, t)) q = no_gives _ _ refl (ap (λ u. settled (threads_of (from_form z)) from u) (sym (runs_gives f vs ds h slots t m q)) ∙ e)
      made h m (Faults fault) q = absurd (fine_slots z.source h 0 (variables h) vs w.store fault q)
      made h m NoAnswer q = no_answer _ (runs_stuck f vs ds h m q) e

      named : (o : Option Function) → function_named z.source f ≡ o → ⊥
      named None m = no_answer _ (runs_none f vs ds m) e
      named (Some h) m = made h m _ refl

  -- so the round was over
  pub round_over : (round : List (Due (Thread Position))) → Leads (schedules (threads_of (from_form z)) from round) → round ≡ []
  round_over [] e = refl
  round_over (d ∷ ds) e = absurd (taken_runs d.item d.result ds e)

module _ (z : Setting) (native : NativeFacts z) (w : Shared) (bs : Blocks) (a : Agenda (Thread Position)) (tags : Agenda Tagged) (c : Agenda Callback) (g : AgendaFor z.cut bs a tags c) (owns : Owns bs (owned_in tags)) (fresh : AllFresh bs) (known : Known z (source_state w None a)) where
  abbrev x : Source
  x = source_state w None a

  abbrev y : Target
  y = target_state w bs None c

  -- the event program ends too, and nothing but the trace, the history and the outcome differs
  pub record EndsBoth (s : Source) : Type 0 where
    pub last : Target
    pub steps : next (callbacks z.target) y ≡ Some last
    pub stand : Related z.codes z.cut z.there s last
    pub agenda : s.agenda ≡ a
    pub source : s.store ≡ w.store
    pub store : last.store ≡ beside bs w.store
    pub rests : last.running ≡ None

  turned : (s : Source) (u : Answer Source) (v : Answer Target) → turns (threads_of (from_form z)) x ≡ u → turns (callbacks z.target) y ≡ v → Meets (Related z.codes z.cut z.there) u v
      → next (callbacks z.target) y ≡ settled (callbacks z.target) y v → settled (threads_of (from_form z)) x u ≡ Some s → is_over s.outcome ≡ true → EndsBoth s
  turned s _ _ i j (BothGive s' t r) e f over =
      let same : s' ≡ s = cc in
      let over' : is_over s'.outcome ≡ true = ap (λ (u : Source). is_over u.outcome) same ∙ over in
      let kx : IsKept x s' = subst (Only (KeptIfOver x)) i (turns_kept (threads_of (from_form z)) x refl) over' in
      let ky : IsKept y t = subst (Only (KeptIfOver y)) j (turns_kept (callbacks z.target) y refl) (ap is_over (sym (related_shows z s' t r).outcome) ∙ over') in
      subst EndsBoth same (record { last = t; steps = e; stand = r; agenda = kx.agenda; source = kx.store; store = ky.store; rests = ky.running })
  turned s _ _ i j (BothFault fault) e f over =
      let s' : Source = ends (Failed fault (shown_in z.source [])) x in
      let t : Target = ends (Failed fault (before_underscores [])) y in
      let same : s' ≡ s = cc in
      subst EndsBoth same (record { last = t; steps = e; stand = IsOver s' t refl refl (ap (λ name. Failed fault name) native.nobody); agenda = refl; source = refl; store = refl; rests = refl })
  turned s _ _ i j (Stuck v) e f over = absurd (cc)

  to_next : (round : List (Due Callback)) → c.round ≡ round → next (callbacks z.target) y ≡ settled (callbacks z.target) y (schedules (callbacks z.target) y round)
  to_next round e = ap (λ r. settled (callbacks z.target) y (schedules (callbacks z.target) y r)) e

  rounds : (xs : List (Due (Thread Position))) (ys : List (Due Tagged)) (zs : List (Due Callback)) → xs ≡ [] → Both (SameDue (ItemFor z.cut bs)) xs ys → Both (SameDue IsUntagged) ys zs → (ys ≡ []) × (zs ≡ [])
  rounds _ _ _ e Ends Ends = (refl, refl)
  rounds _ _ _ e (And d t ds ts r rs) other = absurd (cc)

  -- where the step leads to a state in which nothing runs and that is over
  pub ends_both : (s : Source) → next (threads_of (from_form z)) x ≡ Some s → s.running ≡ None → is_over s.outcome ≡ true → EndsBoth s
  ends_both s e none over =
      let empty : a.round ≡ [] = round_over z w a s none a.round e in
      let others = rounds a.round tags.round c.round empty g.items.round g.untagged.round in
      turned s (turns (threads_of (from_form z)) x) (turns (callbacks z.target) y) refl refl (turns_meet z native w bs a tags c others.0 g owns fresh known) (to_next [] others.1)
      (ap (λ r. settled (threads_of (from_form z)) x (schedules (threads_of (from_form z)) x r)) (sym empty) ∙ e) over
