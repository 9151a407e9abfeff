-- What the loop's requests and steps come to, with the answers of hosts.
use Rattle.std.proofs.Common.{◌≡◌, ◌⊎◌, inl, inr, ℤ, List, [], ◌∷◌, ◌++◌, Option, Some, None, Result, Ok, Err, IfOk, refl, sym, ap, subst, ◌∙◌}
use Rattle.std.proofs.lemmas.List.{append-nil}
use Rattle.std.specs.Prelude.{slice_get}
use Rattle.cpc_base.specs.Bytes.{Text}
use Rattle.cpc_base.specs.declared.names.Name.{Name}
use Rattle.cpc_check_rules.specs.Apart.{Spells}
use Rattle.cpc_num.specs.declared.kinds.Fault.{Fault}
use Rattle.cpc_num.specs.declared.kinds.Kind.TheVariants.{Long}
use Rattle.cpc_tree.specs.Erase.{Names, Table}
use Rattle.cpc_tree.specs.Lists.{rest_of}
use Rattle.cpc_tree.specs.Points.{Point}
use Rattle.cpc_tree.specs.Syntax.{Program}
use Rattle.cpc_tree.specs.Trace as T
use Rattle.cpc_tree.specs.Trace.{HostCall}
use Rattle.cpc_store.specs.Store.{Value, Whole}
use Rattle.cpc_meaning.specs.Answer.{Answer, Gives, Faults, NoAnswer, ◌>>=◌}
use Rattle.cpc_meaning.specs.Events.{callbacks}
use Rattle.cpc_meaning.specs.Machine.{after_done, asked_by, code_step, first_answer, host_call, ints_of, marks, reply, runs_on, settled}
use Rattle.cpc_meaning.specs.Plain.{Asks, Done, Returned, Stack, Went, answered, plain}
use Rattle.cpc_meaning.specs.Requests.{Request}
use Rattle.cpc_meaning.specs.Trees.{trees}
use Rattle.cpc_run.specs.declared.looped.Loop.{Loop}
use Rattle.cpc_run_shown.specs.declared.outcome.Outcome.{Outcome}
use Rattle.cpc_run.specs.Answers.{Allows, Answered, CameAnswered, HasAnswers}
use Rattle.cpc_run_code.specs.Code.{Same, store_in, stack_in}
use Rattle.cpc_run.specs.Hosts.{HostsMeet, answers_of}
use Rattle.cpc_run_shown.specs.Shown.{shown_of}
use Rattle.cpc_run.specs.States.{States, Acted, Came, settles, program_in}
use Rattle.cpc_run.proofs.Asks.{marked, not_going}
use Rattle.cpc_run.proofs.Ends.{text_is}
use Rattle.cpc_run.proofs.Hosting.{Beside, Both, Broken, BothWent, Neither, NoFault, answered_beside, call_answered, call_first, call_is, told_with}

-- ---- results

-- what holds of a value, and what follows of it
pub ok_answers : {A E : Type 0} (P Q : A → Type 0) (r : Result A E) → ((x : A) → P x → Q x) → IfOk r P → IfOk r Q
ok_answers P Q (Ok x) f h = f x h
ok_answers P Q (Err e) f h = tt

pub ok_is : {A E : Type 0} (P : A → Type 0) (r : Result A E) → ((x : A) → r ≡ Ok x → P x) → IfOk r P
ok_is P (Ok x) f = f x refl
ok_is P (Err e) f = tt

-- ---- the step of the code, by what it came to

pub done_by : (T : Option States → Type 0) (q : Program) (s : States) (k : Stack Point) (d : Done Point) → T None → (a : Answer (Done Point)) → Same (Ok d) a
    → T (settled (callbacks q) s (runs_on (callbacks q) s k d)) → T (settled (callbacks q) s (a >>= runs_on (callbacks q) s k))
done_by T q s k d none NoAnswer e h = none
done_by T q s k d none (Faults fault) e h = absurd (cc e)
done_by T q s k d none (Gives x) e h =
    let same : d ≡ x = cc e in
    subst (λ y. T (settled (callbacks q) s (runs_on (callbacks q) s k y))) same h

pub code_by : (T : Option States → Type 0) (names : Names) (l : Loop) (s : States) (d : Done Point) → T None → s.store ≡ store_in names l.machine
    → Same (Ok d) (plain (trees (program_in names l)) (store_in names l.machine) (stack_in names l.machine))
    → T (settles names l s (runs_on (callbacks (program_in names l)) s (stack_in names l.machine) d)) → T (settles names l s (code_step (callbacks (program_in names l)) s (stack_in names l.machine)))
code_by T names l s d none store e h =
    let k = stack_in names l.machine in
    done_by T (program_in names l) s k d none (plain (trees (program_in names l)) s.store k) (subst (λ t. Same (Ok d) (plain (trees (program_in names l)) t k)) (sym store) e) h

-- a request that the code asks in a loop in the middle, where program and stack are the same
pub asked_by_mid : (T : Option States → Type 0) (names : Names) (l mid : Loop) (s : States) (request : Request) → program_in names mid ≡ program_in names l → stack_in names mid.machine ≡ stack_in names l.machine
    → T (settles names mid s (asked_by (callbacks (program_in names mid)) (stack_in names mid.machine) s request.asked request.arguments))
    → T (settles names l s (asked_by (callbacks (program_in names l)) (stack_in names l.machine) s request.asked request.arguments))
asked_by_mid T names l mid s request program stack h =
    subst (λ p. T (settled (callbacks p) s (asked_by (callbacks p) (stack_in names l.machine) s request.asked request.arguments))) program
    (subst (λ j. T (settled (callbacks (program_in names mid)) s (asked_by (callbacks (program_in names mid)) j s request.asked request.arguments))) stack h)

-- a step that shows nothing and takes no answer
pub none_said : (allows : Allows) (rest : List ℤ) (s t : States) → t.trace ≡ s.trace → t.history.answers ≡ rest → HasAnswers allows [] rest s t
none_said allows rest s t e left = record {
  said_so = ap answers_of e ∙ sym (append-nil (answers_of s.trace));
  left = left;
  meets = λ h. subst (HostsMeet allows) (sym e) h;
}

-- a step that faults
pub faulted_says : (allows : Allows) (q : Program) (rest : List ℤ) (s : States) (k : Stack Point) (fault : Fault) (a : Answer (Done Point)) → Same (Err fault) a → s.history.answers ≡ rest
    → Answered allows [] rest s (settled (callbacks q) s (a >>= runs_on (callbacks q) s k))
faulted_says allows q rest s k fault NoAnswer e left = tt
faulted_says allows q rest s k fault (Gives d) e left = absurd (cc e)
faulted_says allows q rest s k fault (Faults other) e left = none_said allows rest s _ refl left

-- ---- a call of a function of the host

module _ (allows : Allows) (names : Names) (l new : Loop) (x : Text) (vs : List Value) (zs : List ℤ) (numbers : ints_of vs ≡ Gives zs) (z : ℤ) (printed : Text) (s : States) (going : s.outcome ≡ T.Going) where
  abbrev q : Program
  q = program_in names l

  abbrev k : Stack Point
  k = stack_in names l.machine

  -- what the answer that was given came to, whatever the history has
  abbrev pub CameWith : Option Outcome → Type 0
  CameWith r = Came names r new printed s (settles names l s (reply (trees q) k (Whole Long z) (told_with allows q x vs zs numbers k s z)))

  -- it arrived
  still : (a : Answer (Done Point)) → Came names None new printed s (settles names l s (a >>= after_done (told_with allows q x vs zs numbers k s z))) → NoFault a
  still (Gives d) h = tt
  still (Faults fault) h = absurd (let g = h.going in cc g)
  still NoAnswer h = tt

  pub call_came : (rest : List ℤ) → s.history.answers ≡ z ∷ rest → allows x zs z → CameWith None → CameAnswered names allows (z ∷ []) rest None new printed s (settles names l s (host_call (trees q) x vs k s))
  call_came rest first may h = (
    subst (λ a. Came names None new printed s (settles names l s a)) (sym (call_first allows q x vs zs numbers k s z rest first may)) h,
    call_answered allows q x vs zs numbers k s z rest first may (still (answered (trees q) s.store k (Whole Long z)) h),
  )

  -- it could not arrive, and no other can
  module _ (y : ℤ) (o : Outcome) where
    lost : (a b : Answer (Done Point)) → Beside BothWent a b → Came names (Some o) new printed s (settles names l s (a >>= after_done (told_with allows q x vs zs numbers k s z)))
        → CameAnswered names allows [] s.history.answers (Some o) new printed s (settles names l s (b >>= after_done (told_with allows q x vs zs numbers k s y)))
    lost _ _ (Both (Went t j) (Went u i) e) h = absurd (not_going names o (sym (ap (λ (w : States). w.outcome) h) ∙ going))
    lost _ _ (Both (Went t j) (Returned v u) e) h = absurd e
    lost _ _ (Both (Went t j) (Asks r) e) h = absurd e
    lost _ _ (Both (Returned v t) d e) h = absurd e
    lost _ _ (Both (Asks r) d e) h = absurd e
    lost _ _ (Broken fault) h = (h, none_said allows s.history.answers s _ refl refl)
    lost _ _ Neither h = (tt, tt)

  pub call_lost : (o : Outcome) → CameWith (Some o) → CameAnswered names allows [] s.history.answers (Some o) new printed s (settles names l s (host_call (trees q) x vs k s))
  call_lost o h =
      let y = first_answer s.history.answers in
      subst (λ a. CameAnswered names allows [] s.history.answers (Some o) new printed s (settles names l s a)) (sym (call_is allows q x vs zs numbers k s))
      (lost y o (answered (trees q) s.store k (Whole Long z)) (answered (trees q) s.store k (Whole Long y)) (answered_beside Long z y (trees q) s.store k) h)

-- the call of a function of the host, which gave this answer to these numbers, by what came of the answer
module _ (allows : Allows) (names : Names) (l new : Loop) (f x : Name) (table : Table) (text : Text) (vs : List Value) (zs : List ℤ) (z : ℤ) (sent old after : Text) where
  -- the state before, with one answer less, is as good for the loop
  acted_next : (s : States) → Acted names l f (sent ++ old) s s → Acted names l f (sent ++ old) s (record s { history = record s.history { answers = rest_of s.history.answers } })
  acted_next s h = record { store = h.store; asks = h.asks; name = h.name; lists = h.lists; printed_so = h.printed_so; going = h.going }

  pub call_says : (r : Option Outcome) (said : List ℤ) → ((r ≡ None) × (said ≡ z ∷ [])) ⊎ ((o : Outcome) × (r ≡ Some o) × (said ≡ []))
      → ints_of vs ≡ Gives zs → Spells table names → slice_get table x.0 ≡ Some text → allows text zs z → after ≡ old ++ shown_of l.trace (HostCall text zs z)
      → (s : States) → Acted names l f (sent ++ old) s s
      → ((t : States) → Acted names l f (sent ++ after) s t → Came names r new (sent ++ after) s (settles names l s (reply (trees (program_in names l)) (stack_in names l.machine) (Whole Long z) t)))
      → (rest : List ℤ) → s.history.answers ≡ said ++ rest
      → CameAnswered names allows said rest r new (sent ++ after) s (settles names l s (host_call (trees (program_in names l)) (names x) vs (stack_in names l.machine) s))
  call_says r said which numbers spells there may shows s acted came rest left =
      let named = text_is names table x text spells there in
      let q = program_in names l in
      let k = stack_in names l.machine in
      let here = marked names l f sent old after s (record s { history = record s.history { answers = rest_of s.history.answers } }) (HostCall text zs z) shows (acted_next s acted) in
      subst (λ y. CameAnswered names allows said rest r new (sent ++ after) s (settles names l s (host_call (trees q) y vs k s))) (sym named) (go r said which (came (marks (HostCall text zs z) (record s { history = record s.history { answers = rest_of s.history.answers } })) here) left)
    where
      go : (r : Option Outcome) (said : List ℤ) → ((r ≡ None) × (said ≡ z ∷ [])) ⊎ ((o : Outcome) × (r ≡ Some o) × (said ≡ []))
          → CameWith allows names l new text vs zs numbers z (sent ++ after) s acted.going r → s.history.answers ≡ said ++ rest
          → CameAnswered names allows said rest r new (sent ++ after) s (settles names l s (host_call (trees (program_in names l)) text vs (stack_in names l.machine) s))
      go r said (inl e) h left =
          subst (λ ys. CameAnswered names allows ys rest r new (sent ++ after) s (settles names l s (host_call (trees (program_in names l)) text vs (stack_in names l.machine) s))) (sym e.1)
          (subst (λ o. CameAnswered names allows (z ∷ []) rest o new (sent ++ after) s (settles names l s (host_call (trees (program_in names l)) text vs (stack_in names l.machine) s))) (sym e.0)
          (call_came allows names l new text vs zs numbers z (sent ++ after) s acted.going rest (left ∙ ap (λ ys. ys ++ rest) e.1) may (subst (CameWith allows names l new text vs zs numbers z (sent ++ after) s acted.going) e.0 h)))
      go r said (inr e) h left =
          subst (λ ys. CameAnswered names allows ys rest r new (sent ++ after) s (settles names l s (host_call (trees (program_in names l)) text vs (stack_in names l.machine) s))) (sym e.2)
          (subst (λ o. CameAnswered names allows [] rest o new (sent ++ after) s (settles names l s (host_call (trees (program_in names l)) text vs (stack_in names l.machine) s))) (sym e.1)
          (subst (λ ys. CameAnswered names allows [] ys (Some e.0) new (sent ++ after) s (settles names l s (host_call (trees (program_in names l)) text vs (stack_in names l.machine) s))) (left ∙ ap (λ ys. ys ++ rest) e.2)
          (call_lost allows names l new text vs zs numbers z (sent ++ after) s acted.going e.0 (subst (CameWith allows names l new text vs zs numbers z (sent ++ after) s acted.going) e.1 h))))

-- what is said of a call: its answer, or nothing where that could not arrive
pub said_for : (r : Option Outcome) (z : ℤ) → (said : List ℤ) × (((r ≡ None) × (said ≡ z ∷ [])) ⊎ ((o : Outcome) × (r ≡ Some o) × (said ≡ [])))
said_for None z = (z ∷ [], inl (refl, refl))
said_for (Some o) z = ([], inr (o, refl, refl))
