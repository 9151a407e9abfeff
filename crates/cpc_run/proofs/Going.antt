-- What a step that goes on tells of what its code asked for.
use Rattle.std.proofs.Common.{◌≡◌, ℕ, ◌<◌, ◌^◌, inl, inr, true, List, [], ◌∷◌, length, None, Some, Ok, sym, ap, subst, ◌∙◌}
use Rattle.std.proofs.lemmas.Bool.{cases_lt}
use Rattle.cpc_base.specs.Bytes.{Text}
use Rattle.cpc_base.specs.declared.names.Name.{Name}
use Rattle.cpc_base.proofs.Lists.{length_of_map, some_is}
use Rattle.cpc_check_rules.specs.Apart.{Spells}
use Rattle.cpc_hosts.specs.Tables.{is_there}
use Rattle.cpc_tree.specs.Erase.{Names, Table}
use Rattle.cpc_tree.specs.Points.{Point}
use Rattle.cpc_tree.specs.Primitives as P
use Rattle.cpc_tree.specs.Syntax.{Program}
use Rattle.cpc_store.proofs.CodeLemmas.{store_cells-map}
use Rattle.cpc_store.specs.Store.{Store, store_cells}
use Rattle.cpc_store.specs.declared.values.Value as V
use Rattle.cpc_store.specs.declared.values.Value.TheVariants as W
use Rattle.cpc_meaning.specs.Answer.{Answer, Gives, Faults, NoAnswer, ◌>>=◌}
use Rattle.cpc_meaning.specs.Events.{callbacks}
use Rattle.cpc_meaning.specs.Machine.{asked_by, code_step, primitive, runs_on, settled, step_running}
use Rattle.cpc_meaning.specs.Plain.{Asks, Done, Stack, plain, running_function}
use Rattle.cpc_meaning.specs.Requests.{Request}
use Rattle.cpc_meaning.specs.Runs.{live_cells}
use Rattle.cpc_meaning.specs.Start.{before_underscores}
use Rattle.cpc_meaning.specs.Trees.{trees}
use Rattle.cpc_meaning_laws.specs.Pointer.Made.{IsMadeCode}
use Rattle.cpc_eval_values.specs.Shown.{value_of, values_of}
use Rattle.cpc_run_code.specs.Stacks.{request_of}
use Rattle.cpc_run_code.specs.Request as N
use Rattle.cpc_run_code.specs.Stepped.TheVariants as X
use Rattle.cpc_tree.specs.PrimitiveNames.{primitive_of}
use Rattle.cpc_native_builtins.specs.Builtins.{asked_of}
use Rattle.cpc_native_builtins.specs.declared.call.Call.{Call}
use Rattle.cpc_native_builtins.specs.declared.call.Call.TheVariants as C
use Rattle.cpc_run_code.specs.Laws.{AreOthers}
use Rattle.cpc_run_code.specs.declared.code.Code.{Code}
use Rattle.cpc_run.specs.declared.looped.Loop.{Loop}
use Rattle.cpc_run_shown.specs.declared.outcome.Ended.TheVariants as E
use Rattle.cpc_run_shown.specs.declared.outcome.Outcome.{Outcome}
use Rattle.cpc_run_shown.specs.declared.outcome.Outcome.TheVariants as O
use Rattle.cpc_run_code.specs.Code.{AskedIn, Runs, Same, items_in, store_in, stack_in}
use Rattle.cpc_run.specs.Hosts.{HasHosts}
use Rattle.cpc_run.specs.Going.{Goes, HasCallback, CallsBack, CallsThere, IsKnownCode, KnowsSection, KnowsNames, HasBlock, CallHasBlock}
use Rattle.cpc_run_shown.specs.Outcomes.{outcome_of}
use Rattle.cpc_run_shown.specs.Known.{IsInTable}
use Rattle.cpc_run.specs.States.{States, Fits, Acted, settles, program_in, where_running}

-- ---- answers

-- code asks for one thing
asks_same : (a : Answer (Done Point)) (r u : Request) → a ≡ Gives (Asks r) → a ≡ Gives (Asks u) → r ≡ u
asks_same a r u e f = cc (e, f)

-- where a step that asks goes on, its code came to what it asks for
asks_is : (q : Program) (s t : States) (k : Stack Point) (r : Request) (a : Answer (Done Point)) → Same (Ok (Asks r)) a → settled (callbacks q) s (a >>= runs_on (callbacks q) s k) ≡ Some t → a ≡ Gives (Asks r)
asks_is q s t k r (Gives x) e h = let same : Asks r ≡ x = cc e in ap Gives (sym same)
asks_is q s t k r (Faults fault) e h = absurd (cc e)
asks_is q s t k r NoAnswer e h = absurd (cc h)

-- and so did the loop's answer
asked_goes : (q : Program) (s t : States) (k : Stack Point) (r : Request) → plain (trees q) s.store k ≡ Gives (Asks r) → settled (callbacks q) s (code_step (callbacks q) s k) ≡ Some t
    → settled (callbacks q) s (asked_by (callbacks q) k s r.asked r.arguments) ≡ Some t
asked_goes q s t k r e h = sym (ap (λ a. settled (callbacks q) s (a >>= runs_on (callbacks q) s k)) e) ∙ h

-- ---- names

module _ (table : Table) (names other : Names) (others : AreOthers table names other) where
  -- what both tell alike is in the table
  shown_in : (x : Name) → before_underscores (names x) ≡ before_underscores (other x) → x.0 < length table
  shown_in x e = elim (cases_lt x.0 (length table)) [ inl h ↦ h | inr h ↦ absurd (others.differ x h e) ]

  told_in : (x : Name) → names x ≡ other x → x.0 < length table
  told_in x e = shown_in x (ap before_underscores e)

  code_known : (v : V.Value) (vs : List V.Value) (u w : V.Value) → values_of names (u ∷ w ∷ v ∷ vs) ≡ values_of other (u ∷ w ∷ v ∷ vs) → IsKnownCode table v
  code_known (W.Code x) vs u w e = let same : names x ≡ other x = cc e in told_in x same
  code_known W.Unset vs u w e = tt
  code_known (W.Int kind z) vs u w e = tt
  code_known W.Null vs u w e = tt
  code_known (W.At block offset) vs u w e = tt
  code_known (W.Cond n) vs u w e = tt

  section_known : (vs : List V.Value) → values_of names vs ≡ values_of other vs → KnowsSection table vs
  section_known [] e = tt
  section_known (u ∷ []) e = tt
  section_known (u ∷ w ∷ []) e = tt
  section_known (u ∷ w ∷ v ∷ vs) e = code_known v vs u w e

  call_known : (c : Call) (vs : List V.Value) → asked_of names c ≡ asked_of other c → values_of names vs ≡ values_of other vs → KnowsNames table c vs
  call_known (C.Builtin b) vs e f = section_known vs f
  call_known (C.Host x) vs e f = let same : names x ≡ other x = cc e in told_in x same

  -- a request that both tell alike
  request_known : (r : N.Request) → request_of names r ≡ request_of other r → KnowsNames table r.call r.args.items
  request_known r e = call_known r.call r.args.items (ap (λ (u : Request). u.asked) e) (ap (λ (u : Request). u.arguments) e)

  -- an end that both tell alike
  pub end_known : (o : Outcome) → outcome_of names o ≡ outcome_of other o → IsInTable table (E.Over o)
  end_known (O.Ended n) e = tt
  end_known (O.Exited z) e = tt
  end_known (O.Failed fault f) e = let same : before_underscores (names f) ≡ before_underscores (other f) = cc e in shown_in f same
  end_known O.HistoryEnded e = tt
  end_known (O.BadHistory n) e = tt

-- ---- functions of the host

-- a function of the host that is called is there
call_there : (table : Table) (names : Names) (there : List (Text × ℕ)) (q : Program) (s : Store) (k : Stack Point) (c : Call) (vs : List V.Value) → Spells table names → HasHosts there q → KnowsNames table c vs
    → plain (trees q) s k ≡ Gives (Asks (record { asked = asked_of names c; arguments = values_of names vs })) → CallsThere there table c vs
call_there table names there q s k (C.Builtin b) vs spells hosts known e = tt
call_there table names there q s k (C.Host x) vs spells hosts known e =
    subst (λ text. is_there text (length vs) there ≡ true) (spells.inside x known) (subst (λ n. is_there (names x) n there ≡ true) (length_of_map (value_of names) vs) (hosts s k (names x) (values_of names vs) e))

-- ---- callbacks

-- no state comes of nothing
no_state : (t : States) → None ≡ Some t → ⊥
no_state t h = cc h

module _ (names : Names) (q : Program) (k : Stack Point) (s t : States) where
  -- what a primitive is asked for goes on
  abbrev Answered : P.Primitive → List V.Value → Type 0
  Answered prim vs = settled (callbacks q) s (primitive (callbacks q) prim (values_of names vs) k s) ≡ Some t

  ready_back : (vs : List V.Value) → Answered P.RtReady vs → HasCallback P.RtReady vs
  ready_back [] h = absurd (no_state t h)
  ready_back (W.Code f ∷ vs) h = tt
  ready_back (W.Unset ∷ vs) h = absurd (no_state t h)
  ready_back (W.Int kind z ∷ vs) h = absurd (no_state t h)
  ready_back (W.Null ∷ vs) h = absurd (no_state t h)
  ready_back (W.At block offset ∷ vs) h = absurd (no_state t h)
  ready_back (W.Cond n ∷ vs) h = absurd (no_state t h)

  wait_back : (vs : List V.Value) → Answered P.RtWait vs → HasCallback P.RtWait vs
  wait_back [] h = absurd (no_state t h)
  wait_back (c ∷ []) h = absurd (no_state t h)
  wait_back (c ∷ W.Code f ∷ vs) h = tt
  wait_back (c ∷ W.Unset ∷ vs) h = absurd (no_state t h)
  wait_back (c ∷ W.Int kind z ∷ vs) h = absurd (no_state t h)
  wait_back (c ∷ W.Null ∷ vs) h = absurd (no_state t h)
  wait_back (c ∷ W.At block offset ∷ vs) h = absurd (no_state t h)
  wait_back (c ∷ W.Cond n ∷ vs) h = absurd (no_state t h)

  sleep_back : (vs : List V.Value) → Answered P.RtSleep vs → HasCallback P.RtSleep vs
  sleep_back [] h = absurd (no_state t h)
  sleep_back (l ∷ []) h = absurd (no_state t h)
  sleep_back (l ∷ W.Code f ∷ vs) h = tt
  sleep_back (l ∷ W.Unset ∷ vs) h = absurd (no_state t h)
  sleep_back (l ∷ W.Int kind z ∷ vs) h = absurd (no_state t h)
  sleep_back (l ∷ W.Null ∷ vs) h = absurd (no_state t h)
  sleep_back (l ∷ W.At block offset ∷ vs) h = absurd (no_state t h)
  sleep_back (l ∷ W.Cond n ∷ vs) h = absurd (no_state t h)

  io_back : (vs : List V.Value) → Answered P.RtIo vs → HasCallback P.RtIo vs
  io_back [] h = absurd (no_state t h)
  io_back (fd ∷ []) h = absurd (no_state t h)
  io_back (fd ∷ way ∷ []) h = absurd (no_state t h)
  io_back (fd ∷ way ∷ W.Code f ∷ vs) h = tt
  io_back (fd ∷ way ∷ W.Unset ∷ vs) h = absurd (no_state t h)
  io_back (fd ∷ way ∷ W.Int kind z ∷ vs) h = absurd (no_state t h)
  io_back (fd ∷ way ∷ W.Null ∷ vs) h = absurd (no_state t h)
  io_back (fd ∷ way ∷ W.At block offset ∷ vs) h = absurd (no_state t h)
  io_back (fd ∷ way ∷ W.Cond n ∷ vs) h = absurd (no_state t h)

  alone : (v : V.Value) → Answered P.RtDetach (v ∷ []) → ⊥
  alone (W.Code f) h = no_state t h
  alone W.Unset h = no_state t h
  alone (W.Int kind z) h = no_state t h
  alone W.Null h = no_state t h
  alone (W.At block offset) h = no_state t h
  alone (W.Cond n) h = no_state t h

  paired : (v w : V.Value) → Answered P.RtDetach (v ∷ w ∷ []) → ⊥
  paired (W.Code f) w h = no_state t h
  paired W.Unset w h = no_state t h
  paired (W.Int kind z) w h = no_state t h
  paired W.Null w h = no_state t h
  paired (W.At block offset) w h = no_state t h
  paired (W.Cond n) w h = no_state t h

  detach_back : (vs : List V.Value) → Answered P.RtDetach vs → HasCallback P.RtDetach vs
  detach_back [] h = absurd (no_state t h)
  detach_back (v ∷ []) h = absurd (alone v h)
  detach_back (v ∷ w ∷ []) h = absurd (paired v w h)
  detach_back (W.Code f ∷ w ∷ g ∷ vs) h = tt
  detach_back (W.Unset ∷ w ∷ g ∷ vs) h = absurd (no_state t h)
  detach_back (W.Int kind z ∷ w ∷ g ∷ vs) h = absurd (no_state t h)
  detach_back (W.Null ∷ w ∷ g ∷ vs) h = absurd (no_state t h)
  detach_back (W.At block offset ∷ w ∷ g ∷ vs) h = absurd (no_state t h)
  detach_back (W.Cond n ∷ w ∷ g ∷ vs) h = absurd (no_state t h)

  has_callback : (prim : P.Primitive) (vs : List V.Value) → Answered prim vs → HasCallback prim vs
  has_callback P.RtReady vs h = ready_back vs h
  has_callback P.RtWait vs h = wait_back vs h
  has_callback P.RtSleep vs h = sleep_back vs h
  has_callback P.RtIo vs h = io_back vs h
  has_callback P.RtDetach vs h = detach_back vs h
  has_callback prim vs h = tt

  calls_back : (c : Call) (vs : List V.Value) → settled (callbacks q) s (asked_by (callbacks q) k s (asked_of names c) (values_of names vs)) ≡ Some t → CallsBack c vs
  calls_back (C.Builtin b) vs h = has_callback (primitive_of b) vs h
  calls_back (C.Host x) vs h = tt

-- ---- blocks

module _ (names : Names) (l : Loop) (f : Name) (printed : Text) (s t : States) (fits : Fits names l) (made : IsMadeCode s.store (stack_in names l.machine)) (acted : Acted names l f printed s s) (small : live_cells t < 2 ^ 62) where
  abbrev Blocks : P.Primitive → List V.Value → Type 0
  Blocks prim vs = settles names l s (primitive (callbacks (program_in names l)) prim (values_of names vs) (stack_in names l.machine) s) ≡ Some t

  has_block : (prim : P.Primitive) (vs : List V.Value) → Blocks prim vs → HasBlock l f prim vs
  has_block P.Malloc [] h = tt
  has_block P.Malloc (v ∷ []) h = record { names = names; fits = fits; printed = printed; state = s; made = made; acted = acted; next = t; goes = h; within = small }
  has_block P.Malloc (v ∷ w ∷ vs) h = tt
  has_block P.RtFrame [] h = tt
  has_block P.RtFrame (v ∷ []) h = record { names = names; fits = fits; printed = printed; state = s; made = made; acted = acted; next = t; goes = h; within = small }
  has_block P.RtFrame (v ∷ w ∷ vs) h = tt
  has_block P.RtBox [] h = tt
  has_block P.RtBox (v ∷ []) h = record { names = names; fits = fits; printed = printed; state = s; made = made; acted = acted; next = t; goes = h; within = small }
  has_block P.RtBox (v ∷ w ∷ vs) h = tt
  has_block prim vs h = tt

  call_has_block : (c : Call) (vs : List V.Value) → settles names l s (asked_by (callbacks (program_in names l)) (stack_in names l.machine) s (asked_of names c) (values_of names vs)) ≡ Some t → CallHasBlock l f c vs
  call_has_block (C.Builtin b) vs h = has_block (primitive_of b) vs h
  call_has_block (C.Host x) vs h = tt

-- the cells of a store are as many by whatever texts
pub cells_alike : (names other : Names) (m : Code) → store_cells (store_in names m) ≡ store_cells (store_in other m)
unfolding store_in
cells_alike names other m = store_cells-map names m.machine.store ∙ sym (store_cells-map other m.machine.store)

-- ---- what a step asks for

module _ (table : Table) {there : List (Text × ℕ)} (cap : ℕ) (l : Loop) (g : Goes table there cap l) (running : l.running ≡ true) (m : Code) (r : N.Request)
    (items : (names : Names) → items_in names m ≡ items_in names l.machine) (runs : (names : Names) → Runs names l.machine → Runs names m) (told : (names : Names) → AskedIn names l.machine m (X.Asked r))
    (did : (names : Names) → Runs names l.machine → Same (Ok (Asks (request_of names r))) (plain (trees (program_in names l)) (store_in names l.machine) (stack_in names l.machine))) where
  abbrev mid : Loop
  mid = record l { machine = m }

  abbrev q : Program
  q = program_in g.names l

  abbrev k : Stack Point
  k = stack_in g.names l.machine

  runs_so : g.state.running ≡ Some k
  runs_so = g.stands.running ∙ ap (λ b. where_running b k) running

  same_stack : stack_in g.other l.machine ≡ k
  same_stack = some_is (stack_in g.other l.machine) k (sym (g.stands_other.running ∙ ap (λ b. where_running b (stack_in g.other l.machine)) running) ∙ runs_so)

  step_goes : settled (callbacks q) g.state (code_step (callbacks q) g.state k) ≡ Some g.next
  step_goes = sym (ap (λ o. settled (callbacks q) g.state (step_running (callbacks q) g.state o)) runs_so) ∙ g.goes

  asks_so : plain (trees q) g.state.store k ≡ Gives (Asks (request_of g.names r))
  asks_so =
      asks_is q g.state g.next k (request_of g.names r) (plain (trees q) g.state.store k)
      (subst (λ t. Same (Ok (Asks (request_of g.names r))) (plain (trees q) t k)) (sym g.stands.store) (did g.names g.fits.runs)) step_goes

  asks_other : plain (trees q) g.state.store k ≡ Gives (Asks (request_of g.other r))
  asks_other =
      let u = request_of g.other r in
      asks_is q g.state g.next k u (plain (trees q) g.state.store k)
      (subst (λ p. Same (Ok (Asks u)) (plain (trees p) g.state.store k)) g.programs
      (subst (λ j. Same (Ok (Asks u)) (plain (trees (program_in g.other l)) g.state.store j)) same_stack
      (subst (λ t. Same (Ok (Asks u)) (plain (trees (program_in g.other l)) t (stack_in g.other l.machine))) (sym g.stands_other.store) (did g.other g.fits_other.runs)))) step_goes

  -- the names that are looked up for it are in the table
  pub asks_known : KnowsNames table r.call r.args.items
  asks_known =
      request_known table g.names g.other g.others r (asks_same (plain (trees q) g.state.store k) (request_of g.names r) (request_of g.other r) asks_so asks_other)

  -- and so is the function of the host
  pub asks_there : CallsThere there table r.call r.args.items
  asks_there = call_there table g.names there q g.state.store k r.call r.args.items g.spells g.hosts asks_known asks_so

  answer_goes : settled (callbacks q) g.state (asked_by (callbacks q) k g.state (asked_of g.names r.call) (values_of g.names r.args.items)) ≡ Some g.next
  answer_goes = asked_goes q g.state g.next k (request_of g.names r) asks_so step_goes

  -- its callback is a function's code
  pub asks_back : CallsBack r.call r.args.items
  asks_back = calls_back g.names q k g.state g.next r.call r.args.items answer_goes

  fits_mid : Fits g.names mid
  fits_mid = record { runs = runs g.names g.fits.runs; main = g.fits.main; serves = g.fits.serves; items = g.fits.items ∙ sym (items g.names) }

  acted_mid : Acted g.names mid r.function g.sent g.state g.state
  acted_mid =
      let t = told g.names in record {
        store = g.stands.store ∙ sym t.1;
        asks = runs_so ∙ ap Some (sym t.0);
        name = t.2 ∙ sym (ap (λ j. running_function j) t.0);
        lists = g.stands.lists;
        printed_so = g.stands.printed_so;
        going = g.stands.going;
      }

  answer_mid : settles g.names mid g.state (asked_by (callbacks (program_in g.names mid)) (stack_in g.names m) g.state (asked_of g.names r.call) (values_of g.names r.args.items)) ≡ Some g.next
  answer_mid =
      subst (λ p. settled (callbacks p) g.state (asked_by (callbacks p) (stack_in g.names m) g.state (asked_of g.names r.call) (values_of g.names r.args.items)) ≡ Some g.next) (sym (items g.names))
      (subst (λ j. settled (callbacks q) g.state (asked_by (callbacks q) j g.state (asked_of g.names r.call) (values_of g.names r.args.items)) ≡ Some g.next) (sym (told g.names).0) answer_goes)

  -- the block that it asks for is within the cap
  pub asks_room : live_cells g.next < 2 ^ 62 → CallHasBlock mid r.function r.call r.args.items
  asks_room small =
      call_has_block g.names mid r.function g.sent g.state g.next fits_mid (subst (λ j. IsMadeCode g.state.store j) (sym (told g.names).0) (g.within.made.running k runs_so)) acted_mid small r.call r.args.items answer_mid
