-- Steps of a section, by what the code came to.
use Rattle.std.proofs.Common.{◌≡◌, Bool, Option, Some, None, Result, Ok, Err, refl, ap, subst}
use Rattle.cpc_base.specs.Bytes.{Text}
use Rattle.cpc_base.specs.declared.names.Name.{Name}
use Rattle.cpc_num.specs.declared.kinds.Fault.{Fault}
use Rattle.cpc_tree.specs.Erase.{Names}
use Rattle.cpc_tree.specs.Points.{Point}
use Rattle.cpc_tree.specs.Syntax.{Program}
use Rattle.cpc_store.specs.Store.{Store, Value}
use Rattle.cpc_meaning.specs.Answer.{Answer, Gives, Faults, NoAnswer, ◌>>=◌, of_result}
use Rattle.cpc_meaning.specs.Plain.{Form, Stack, Done, Went, Returned, Asks, plain, answered, running_function}
use Rattle.cpc_meaning.specs.Section.{SectionEnd, Broke, NoEnd, section_asks, section_done, section_gave, section_next, copy_left}
use Rattle.cpc_meaning.specs.Trees.{trees}
use Rattle.cpc_eval_values.specs.Meets.{Meets}
use Rattle.cpc_eval_values.specs.Shown.{store_of}
use Rattle.cpc_eval_index.specs.Indexed.{items_of}
use Rattle.cpc_native.specs.declared.machine.Machine.{Machine}
use Rattle.cpc_native.specs.declared.machine.Request.{Request}
use Rattle.cpc_native.specs.Stacks.{stack_of, request_of}
use Rattle.cpc_native.specs.Well.{IsSame}
use Rattle.cpc_sections.specs.Jobs.{EndsAs}
use Rattle.cpc_sections.specs.declared.job.SectionEnd as E
use Rattle.cpc_sections.specs.declared.job.SectionEnd.TheVariants as D
use Rattle.cpc_native_sections.specs.Led.{Rest, LeadsTo, step_of, asking_of, answer_of}

-- a fact about an answer, by the result that meets it
pub by_meeting : {A : Type 0} (P : Answer A → Type 0) (r : Result A Fault) (a : Answer A) → Meets r a → P NoAnswer → P (of_result r) → P a
by_meeting P r (Gives x) m none some = subst P (ap of_result m) some
by_meeting P r (Faults fault) m none some = subst P (ap of_result m) some
by_meeting P r NoAnswer m none some = none

-- of a section that has no end nothing is said
pub led_nowhere : (names : Names) (new : Machine) (o : Option E.SectionEnd) → LeadsTo names new o (λ rest. NoEnd)
led_nowhere names new (Some end) = λ rest. tt
led_nowhere names new None = λ rest end h. tt

-- ---- a step

module _ (names : Names) (old new : Machine) (f : Text) (no_copy : Bool) where
  abbrev p : Form Point
  p = trees (items_of names old.index)

  abbrev s : Store
  s = store_of names old.store

  abbrev k : Stack Point
  k = stack_of names old

  -- what the section comes to by the answer of its step
  abbrev after : Answer (Done Point) → Rest → SectionEnd
  after a rest = section_next rest f no_copy (running_function k) (a >>= section_done p s k)

  stepped : (o : Option E.SectionEnd) (r : Result (Done Point) Fault) → Meets r (plain p s k) → LeadsTo names new o (after (of_result r)) → LeadsTo names new o (step_of names old f no_copy)
  stepped o r m h = by_meeting (λ a. LeadsTo names new o (after a)) r (plain p s k) m (led_nowhere names new o) h

  pub step_went : Meets (Ok (Went (store_of names new.store) (stack_of names new))) (plain p s k) → LeadsTo names new None (step_of names old f no_copy)
  step_went m = stepped None (Ok (Went (store_of names new.store) (stack_of names new))) m (λ rest end h. h)

  pub step_returned : (v : Value) (end : E.SectionEnd) → Meets (Ok (Returned v (store_of names new.store))) (plain p s k) → EndsAs names end (section_gave f v (copy_left no_copy (store_of names new.store)))
      → LeadsTo names new (Some end) (step_of names old f no_copy)
  step_returned v end m h = stepped (Some end) (Ok (Returned v (store_of names new.store))) m (λ rest. h)

  pub step_faulted : (fault : Fault) (x : Name) → Meets (Err fault) (plain p s k) → names x ≡ running_function k → LeadsTo names new (Some (D.Faulted fault x)) (step_of names old f no_copy)
  step_faulted fault x m e = stepped (Some (D.Faulted fault x)) (Err fault) m (λ rest. ap (Broke fault) e)

  -- what the code asks for is answered in a program, a store and a stack
  abbrev Answers : Option E.SectionEnd → Request → Program → Store → Stack Point → Text → Type 0
  Answers o r i t j x = LeadsTo names new o (λ rest. section_next rest f no_copy x (section_asks (trees i) t j (request_of names r).asked (request_of names r).arguments))

  -- a request is acted on by a machine that stands as before
  pub step_asked : (r : Request) (mid : Machine) (o : Option E.SectionEnd) → Meets (Ok (Asks (request_of names r))) (plain p s k) → names r.function ≡ running_function k → IsSame old mid → mid.index ≡ old.index
      → LeadsTo names new o (asking_of names mid f no_copy (names r.function) (request_of names r)) → LeadsTo names new o (step_of names old f no_copy)
  step_asked r mid o m told same index h =
      let a = subst (λ i. Answers o r i (store_of names mid.store) (stack_of names mid) (names r.function)) (ap (items_of names) index) h in
      let b = subst (λ t. Answers o r (items_of names old.index) t (stack_of names mid) (names r.function)) (ap (store_of names) same.store) a in
      let c = subst (λ j. Answers o r (items_of names old.index) s j (names r.function)) (same.stack names) b in
      stepped o (Ok (Asks (request_of names r))) m (subst (λ x. Answers o r (items_of names old.index) s k x) told c)

-- ---- an answer

module _ (names : Names) (old new : Machine) (f : Text) (no_copy : Bool) (function : Name) (v : Value) where
  pub answer_went : Meets (Ok (Went (store_of names new.store) (stack_of names new))) (answered (trees (items_of names old.index)) (store_of names old.store) (stack_of names old) v)
      → LeadsTo names new None (answer_of names old f no_copy (names function) v)
  answer_went m =
      by_meeting (λ a. LeadsTo names new None (λ rest. section_next rest f no_copy (names function) a)) (Ok (Went (store_of names new.store) (stack_of names new)))
      (answered (trees (items_of names old.index)) (store_of names old.store) (stack_of names old) v) m (λ rest end h. tt) (λ rest end h. h)

  pub answer_faulted : (fault : Fault) → Meets (Err fault) (answered (trees (items_of names old.index)) (store_of names old.store) (stack_of names old) v)
      → LeadsTo names new (Some (D.Faulted fault function)) (answer_of names old f no_copy (names function) v)
  answer_faulted fault m =
      by_meeting (λ a. LeadsTo names new (Some (D.Faulted fault function)) (λ rest. section_next rest f no_copy (names function) a)) (Err fault)
      (answered (trees (items_of names old.index)) (store_of names old.store) (stack_of names old) v) m (λ rest. tt) (λ rest. refl)
