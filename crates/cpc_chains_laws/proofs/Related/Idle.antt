-- The row where nothing runs: a turn of both schedulers, or a thread that is taken up to where its first piece stands for it.
use Rattle.std.proofs.Common.{◌≡◌, ℕ, suc, ◌+◌, ◌≤◌, Bool, List, [], ◌∷◌, map, Option, Some, None, option_map, refl, sym, ◌∙◌, ap, subst, arith}
use Rattle.cpc_base.specs.Bytes.{Text}
use Rattle.cpc_num.specs.declared.kinds.Fault.{Fault}
use Rattle.cpc_num.specs.declared.kinds.Kind.TheVariants.{Int}
use Rattle.cpc_store.specs.Store.{Value, Unset, Blocks, Store}
use Rattle.cpc_tree.specs.Lists.{first_or, rest_of}
use Rattle.cpc_tree.specs.Syntax.{TyInt, Variable, Function, Program}
use Rattle.cpc_tree.specs.Registers.{variables, is_register}
use Rattle.cpc_tree.specs.Typing.{function_named, size}
use Rattle.cpc_meaning_matching.proofs.Paths.{path_wider}
use Rattle.cpc_meaning.specs.Answer.{Answer, Gives, Faults, NoAnswer, ◌>>=◌, needed}
use Rattle.cpc_meaning.specs.Agenda.{Agenda, Due}
use Rattle.cpc_meaning.specs.Eval.{Slot, assigned}
use Rattle.cpc_meaning.specs.Slots.{make_slot, make_slots, call_slots}
use Rattle.cpc_meaning.specs.Machine.{next, settled, schedules, turns, runs}
use Rattle.cpc_meaning.specs.Plain.{Frame as CallFrame}
use Rattle.cpc_meaning.specs.Threads.{Thread, threads_of}
use Rattle.cpc_meaning.specs.Events.{Callback, CallWith, callbacks}
use Rattle.cpc_meaning.proofs.Both.{Both, Ends, Goes as And}
use Rattle.cpc_meaning.proofs.Agendas.{SameDue}
use Rattle.cpc_forms.specs.Flow.{At}
use Rattle.cpc_forms.specs.Split.{Position, InGraph}
use Rattle.cpc_lift_laws.specs.Lifted.{tidy, tidy_slots, tidy_frame}
use Rattle.cpc_convert_image_laws.specs.Stacks.{frame_of}
use Rattle.cpc_chains_store_laws.specs.Chains.{Saved, Chain, AndChain, Top}
use Rattle.cpc_convert_flat_laws.specs.Blocks.{Owns}
use Rattle.cpc_chains_store_laws.specs.Driver.{drive_name, with_round}
use Rattle.cpc_chains_store_laws.proofs.Chains.{chain_patched}
use Rattle.cpc_lifted_laws.specs.Related.Bounds.{Bounds}
use Rattle.cpc_chains_laws.specs.Related.Fresh.{AllFresh}
use Rattle.cpc_chains_laws.specs.Related.Items.{FramesWait, NoneWait, OneWaits, saved_at, first_saved, driven, ItemFor, ForPending, ForSuspended}
use Rattle.cpc_lifted_laws.specs.Related.Cut.{Tagged, IsUntagged, owned_in}
use Rattle.cpc_chains_laws.proofs.Related.Relation.{Source, Target, Shared, AgendaFor, source_state, target_state}
use Rattle.cpc_chains_laws.proofs.Related.Setting.{Setting, from_form, NativeFacts, KeepsFacts, Known}
use Rattle.cpc_chains_laws.proofs.Related.Entry.{EntryFacts}
use Rattle.cpc_chains_laws.proofs.Related.Rows.{RowFor, settled_alike, one_step}
use Rattle.cpc_chains_laws.proofs.Related.Turns.{turns_meet}
use Rattle.cpc_chains_laws.proofs.Related.Tidy.{saved_tidied, waits_tidied}
use Rattle.cpc_chains_laws.proofs.Related.Taking.{given_value, takes_up}
use Rattle.cpc_lifted_laws.proofs.Related.Owned.{with_rest}

-- ---- the variables of a call are made without a fault

-- a slot before others
abbrev and_slot : Slot → List Slot × Store → Answer (List Slot × Store)
and_slot slot r = Gives (slot ∷ r.0, r.1)

pub fine_slots : (p : Program) (f : Function) (n : ℕ) (xs : List Variable) (vs : List Value) (s : Store) (fault : Fault) → ¬ (make_slots p f n xs vs s ≡ Faults fault)
fine_slots p f n [] vs s fault e = absurd (cc)
fine_slots p f n (x ∷ xs) vs s fault e = sized (λ t g. fine_slots p f (suc n) xs (rest_of vs) t g) (size p x.type) e
  where
    made : ℕ → Slot × Store
    made cells = make_slot (is_register f n x) cells (first_or Unset vs) s

    Others : Type 0
    Others = (t : Store) (g : Fault) → ¬ (make_slots p f (suc n) xs (rest_of vs) t ≡ Faults g)

    rest : Others → (cells : ℕ) (a : Answer (List Slot × Store)) → make_slots p f (suc n) xs (rest_of vs) (made cells).1 ≡ a → (a >>= and_slot (made cells).0) ≡ Faults fault → ⊥
    rest others cells (Gives r) i j = absurd (cc)
    rest others cells (Faults g) i j = others (made cells).1 g i
    rest others cells NoAnswer i j = absurd (cc)

    sized : Others → (o : Option ℕ) → (needed o >>= λ cells. make_slots p f (suc n) xs (rest_of vs) (made cells).1 >>= and_slot (made cells).0) ≡ Faults fault → ⊥
    sized others None i = absurd (cc)
    sized others (Some cells) i = rest others cells _ refl i

module _ (z : Setting) (native : NativeFacts z) (keeps : KeepsFacts z) (bounds : Bounds) (entry : EntryFacts z bounds) (most rise : ℕ) (fits : 5 + bounds.begins ≤ most) (few : 3 + bounds.opens ≤ rise) (taken : bounds.takes ≤ bounds.opens) (less : bounds.resumes ≤ bounds.begins) (w : Shared) (bs : Blocks) (a : Agenda (Thread Position)) (tags : Agenda Tagged) (c : Agenda Callback) (g : AgendaFor z.cut bs a tags c) (owns : Owns bs (owned_in tags)) (fresh : AllFresh bs) where
  abbrev from : Source
  from = source_state w None a

  abbrev to : Target
  to = target_state w bs None c

  -- a step of each, where the round is this
  from_next : (ds : List (Due (Thread Position))) → a.round ≡ ds → next (threads_of (from_form z)) from ≡ settled (threads_of (from_form z)) from (schedules (threads_of (from_form z)) from ds)
  from_next ds e = ap (λ r. settled (threads_of (from_form z)) from (schedules (threads_of (from_form z)) from r)) e

  to_next : (es : List (Due Callback)) → c.round ≡ es → next (callbacks z.target) to ≡ settled (callbacks z.target) to (schedules (callbacks z.target) to es)
  to_next es e = ap (λ r. settled (callbacks z.target) to (schedules (callbacks z.target) to r)) e

  -- the round is over
  turn_row : (x' : Source) → a.round ≡ [] → tags.round ≡ [] → c.round ≡ [] → Known z from → option_map (tidy z.kept) (next (threads_of (from_form z)) from) ≡ Some x' → RowFor z rise from x' 1 to
  turn_row x' i j k known e =
      one_step z native keeps from x' to _ _
      (settled_alike z from to refl (sym native.nobody) (turns (threads_of (from_form z)) from) (turns (callbacks z.target) to) (turns_meet z native w bs a tags c j g owns fresh known))
      (sym (ap (option_map (tidy z.kept)) (from_next [] i)) ∙ e) (to_next [] k)

  module _ (v : Value) (ds : List (Due (Thread Position))) (ts : List (Due Tagged)) (es : List (Due Callback)) (both : Both (SameDue (ItemFor z.cut bs)) ds ts) (bare : Both (SameDue IsUntagged) ts es) (is_int : assigned (TyInt Int) v ≡ Gives v) where
    -- a thread that waited is taken
    resumed : (x' : Source) (f : Text) (n : ℕ) (slots : List Slot) (below : List (CallFrame Position)) (saved : List Saved) (p : Value) (owned : List ℕ) → FramesWait z.cut (map (tidy_frame z.kept) below) saved
        → Chain bs (saved_at z.cut f (tidy_slots (z.kept f (InGraph (At n) n)) slots) n ∷ saved) p owned
        → tags.round ≡ record { item = driven p owned; result = v } ∷ ts → c.round ≡ record { item = CallWith drive_name p; result = v } ∷ es
        → source_state w (Some (record { frames = map (tidy_frame z.kept) (frame_of f (InGraph (At n) n) slots ∷ below); arriving = Some v })) (with_rest a ds) ≡ x' → Known z x' → RowFor z rise from x' most to
    resumed x' f n slots below _ _ _ waits (AndChain _ saved b under old owned cells apart chain) first is_round e known =
        let keep : ℕ → Bool = z.kept f (InGraph (At n) n) in
        let top : Top bs (saved_at z.cut f (tidy_slots keep slots) n) saved b under old owned = record { cells = cells; apart = apart; below = chain } in
        let fine = known.running (frame_of f (InGraph (At n) n) (tidy_slots keep slots)) (map (tidy_frame z.kept) below) (Some v) (sym (ap (λ (s : Source). s.running) e)) in
        path_wider most (let e : 5 + bounds.resumes ≤ most = omega arith in e) (subst (λ x. RowFor z rise from x (5 + bounds.resumes) to) e
        (takes_up z rise bounds.resumes bounds.takes (omega (arith, few, taken)) entry.driver w bs a tags c g owns fresh ds ts es both bare v is_int (saved_at z.cut f (tidy_slots keep slots) n) saved b under old owned top first is_round
        f (At n) n (tidy_slots keep slots) (Some v) w.store (map (tidy_frame z.kept) below) waits
        (entry.resumes _ (given_value bs b (saved_at z.cut f (tidy_slots keep slots) n) under v) w.store f n (tidy_slots keep slots) v saved b under owned fine (chain_patched bs (saved_at z.cut f (tidy_slots keep slots) n) saved b under old v owned top))))

    -- a call is begun
    begun : (x' : Source) (f : Text) (vs : List Value) (p : Value) (owned : List ℕ) → Chain bs (first_saved z.cut f vs ∷ []) p owned → z.given f vs
        → tags.round ≡ record { item = driven p owned; result = v } ∷ ts → c.round ≡ record { item = CallWith drive_name p; result = v } ∷ es
        → (h : Function) → function_named z.source f ≡ Some h → (slots : List Slot) (t : Store) → call_slots z.source h vs w.store ≡ Gives (slots, t)
        → tidy z.kept (source_state (record w { store = t }) (Some (record { frames = frame_of h.called ((from_form z).code.first h.called) slots ∷ []; arriving = None })) (with_rest a ds)) ≡ x' → RowFor z rise from x' most to
    begun x' f vs _ _ (AndChain _ _ b under old owned cells apart chain) given first is_round h named slots t made e =
        let saved = first_saved z.cut f vs in
        let top : Top bs saved [] b under old owned = record { cells = cells; apart = apart; below = chain } in
        let r = entry.begins (with_round (record { agenda = c; jobs = w.jobs; history = w.history; trace = w.trace }) es) (given_value bs b saved under v) w.store t f h vs slots v [] b under owned named given made (chain_patched bs saved [] b under old v owned top) in
        let at : Text → Position → Source = λ name point. source_state (record w { store = t }) (Some (record { frames = frame_of name point (tidy_slots (z.kept name point) slots) ∷ []; arriving = None })) (with_rest a ds) in
        let same : at f (InGraph r.0 r.1) ≡ x' = sym (ap (λ name. at name ((from_form z).code.first name)) r.2 ∙ ap (at f) r.3) ∙ e in
        path_wider most fits (subst (λ x. RowFor z rise from x (5 + bounds.begins) to) same
        (takes_up z rise bounds.begins bounds.opens few entry.driver w bs a tags c g owns fresh ds ts es both bare v is_int saved [] b under old owned top first is_round
        f r.0 r.1 (tidy_slots (z.kept f (InGraph r.0 r.1)) slots) None t [] NoneWait r.4))

    -- what a call that is taken comes to
    abbrev rest : Source
    rest = source_state w None (with_rest a ds)

    runs_none : (f : Text) (vs : List Value) → function_named z.source f ≡ None → runs (from_form z) f vs rest ≡ NoAnswer
    runs_none f vs named = simp (named) refl

    runs_stuck : (f : Text) (vs : List Value) (h : Function) → function_named z.source f ≡ Some h → call_slots z.source h vs w.store ≡ NoAnswer → runs (from_form z) f vs rest ≡ NoAnswer
    runs_stuck f vs h named made = simp (named, made) refl

    runs_gives : (f : Text) (vs : List Value) (h : Function) (slots : List Slot) (t : Store) → function_named z.source f ≡ Some h → call_slots z.source h vs w.store ≡ Gives (slots, t)
        → runs (from_form z) f vs rest ≡ Gives (source_state (record w { store = t }) (Some (record { frames = frame_of h.called ((from_form z).code.first h.called) slots ∷ []; arriving = None })) (with_rest a ds))
    runs_gives f vs h slots t named made = simp (named, made) refl

    -- where it comes to nothing there is no such step
    no_run : (x' : Source) (u : Answer Source) → u ≡ NoAnswer → ¬ (option_map (tidy z.kept) (settled (threads_of (from_form z)) from u) ≡ Some x')
    no_run x' _ i e = absurd (let h : option_map (tidy z.kept) (settled (threads_of (from_form z)) from NoAnswer) ≡ Some x' = ap (λ u. option_map (tidy z.kept) (settled (threads_of (from_form z)) from u)) (sym i) ∙ e in cc)

    taken_row : (x' : Source) (x : Thread Position) (t : Tagged) → ItemFor z.cut bs x t → a.round ≡ record { item = x; result = v } ∷ ds → tags.round ≡ record { item = t; result = v } ∷ ts → c.round ≡ record { item = t.callback; result = v } ∷ es
        → Known z from → Known z x' → option_map (tidy z.kept) (next (threads_of (from_form z)) from) ≡ Some x' → RowFor z rise from x' most to
    taken_row x' _ _ (ForSuspended _ _ _ p owned (OneWaits f n slots below saved waits) chain) i j k known known' e =
        let h : Some (tidy z.kept (source_state w (Some (record { frames = frame_of f (InGraph (At n) n) slots ∷ below; arriving = Some v })) (with_rest a ds))) ≡ Some x' = sym (ap (option_map (tidy z.kept)) (from_next _ i)) ∙ e in
        resumed x' f n slots below saved p owned (waits_tidied z native keeps below saved waits)
        (subst (λ s. Chain bs (s ∷ saved) p owned) (sym (saved_tidied z native keeps f n slots)) chain) j k (cc) known'
    taken_row x' _ _ (ForPending f vs p owned chain) i j k known known' e = named (function_named z.source f) refl
      where
        stepped : option_map (tidy z.kept) (settled (threads_of (from_form z)) from (runs (from_form z) f vs rest)) ≡ Some x'
        stepped = sym (ap (option_map (tidy z.kept)) (from_next _ i)) ∙ e

        made : (h : Function) → function_named z.source f ≡ Some h → (u : Answer (List Slot × Store)) → call_slots z.source h vs w.store ≡ u → RowFor z rise from x' most to
        made h m (Gives (slots, t)) q =
            begun x' f vs p owned chain (known.arguments f vs v ds i) j k h m slots t q
            (let r : Some (tidy z.kept (source_state (record w { store = t }) (Some (record { frames = frame_of h.called ((from_form z).code.first h.called) slots ∷ []; arriving = None })) (with_rest a ds))) ≡ Some x'
            = ap (λ u. option_map (tidy z.kept) (settled (threads_of (from_form z)) from u)) (sym (runs_gives f vs h slots t m q)) ∙ stepped in cc)
        made h m (Faults fault) q = absurd (fine_slots z.source h 0 (variables h) vs w.store fault q)
        made h m NoAnswer q = absurd (no_run x' _ (runs_stuck f vs h m q) stepped)

        named : (o : Option Function) → function_named z.source f ≡ o → RowFor z rise from x' most to
        named None m = absurd (no_run x' _ (runs_none f vs m) stepped)
        named (Some h) m = made h m _ refl

  -- the row where nothing runs
  pub idle_row : (x' : Source) → Known z from → Known z x' → option_map (tidy z.kept) (next (threads_of (from_form z)) from) ≡ Some x' → RowFor z rise from x' most to
  idle_row x' known known' e = go a.round tags.round c.round refl refl refl g.items.round g.untagged.round
    where
      go : (xs : List (Due (Thread Position))) (ys : List (Due Tagged)) (zs : List (Due Callback)) → a.round ≡ xs → tags.round ≡ ys → c.round ≡ zs
          → Both (SameDue (ItemFor z.cut bs)) xs ys → Both (SameDue IsUntagged) ys zs → RowFor z rise from x' most to
      go _ _ _ i j k Ends Ends = path_wider most (let e : 1 ≤ most = omega arith in e) (turn_row x' i j k known e)
      go _ _ _ i j k (And d t ds ts r rs) (And _ u _ es q qs) =
          taken_row d.result ds ts es rs qs (known.result d ds i) x' d.item t.item r.item i
          (j ∙ ap (λ (v : Value). record { item = t.item; result = v } ∷ ts) (sym r.result))
          (k ∙ (ap (λ (cb : Callback). record { item = cb; result = u.result } ∷ es) (sym q.item) ∙ ap (λ (v : Value). record { item = t.item.callback; result = v } ∷ es) (sym (r.result ∙ q.result))))
          known known' e
