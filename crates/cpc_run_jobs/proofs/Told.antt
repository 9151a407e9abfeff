-- An event that is told.
use Rattle.std.proofs.Common.{◌≡◌, ℕ, true, cond, List, [], ◌∷◌, ◌++◌, length, Option, Some, None, Result, Ok, Err, refl, sym, ap, subst, ◌∙◌, arith}
use Rattle.std.specs.Prelude.{◌==◌, IsSome}
use Rattle.std.specs.BTreeMap.{is_at}
use Rattle.std.specs.Ordering.{nat_cmp}
use Rattle.std.proofs.lemmas.List.{map-append}
use Rattle.cpc_base.specs.Waiting.{without}
use Rattle.cpc_base.specs.declared.names.Name.{Name}
use Rattle.cpc_base.specs.declared.poll.Event.{Event}
use Rattle.cpc_base.specs.declared.poll.Event.TheVariants.{Done, Ready}
use Rattle.cpc_num.specs.declared.kinds.Fault.{Fault}
use Rattle.cpc_tree.specs.Erase.{Names}
use Rattle.cpc_tree.specs.Lists.{holds_number}
use Rattle.cpc_tree.specs.Points.{Point}
use Rattle.cpc_tree.specs.declared.program.Program.{Program}
use Rattle.cpc_store.specs.Store.{Store, Value}
use Rattle.cpc_store.specs.declared.values.Value as V
use Rattle.cpc_meaning.specs.Agenda.{completed}
use Rattle.cpc_meaning.specs.Copies as C
use Rattle.cpc_meaning.specs.Plain.{Form}
use Rattle.cpc_meaning.specs.Section as M
use Rattle.cpc_eval_values.specs.Shown.{value_of, values_of}
use Rattle.cpc_run_sections.specs.NativeSectionsEnds.{IsEndOf}
use Rattle.cpc_run_sections.specs.Ends.{MayEnd}
use Rattle.cpc_sections.specs.Backs.{CollectsAs, one_collected}
use Rattle.cpc_sections.specs.Jobs.{job_of, end_of, EndsAs, IsLawfulEnd}
use Rattle.cpc_sections.specs.declared.job.Job.{Job}
use Rattle.cpc_sections.specs.declared.job.SectionEnd.{SectionEnd}
use Rattle.cpc_run_jobs.specs.Held.{IsJob, AreHeld, are_out, left_out}
use Rattle.cpc_run_jobs.specs.Telling.{behind, Reached}
use Rattle.cpc_run_jobs.specs.Under.{under}
use Rattle.cpc_run_jobs.proofs.Collecting.{collects_through, behind_both, behind_more, behind_all, behind_failed, ended_so}
use Rattle.cpc_run_jobs.proofs.Held.{held_taken, is_out, not_held}
use Rattle.cpc_run_jobs.proofs.AreOut.{first_out, first_not_out}

-- the end of a section of this program
pub end_is : (o : Option Program) (bound : ℕ) (job : Job) (end : SectionEnd) (p : Program) → o ≡ Some p → MayEnd o bound job (Ok end) → IsEndOf p bound job end
end_is o bound job end p e h = subst (λ x. MayEnd x bound job (Ok end)) e h

-- it is lawful, whatever program that is
pub end_lawful : (o : Option Program) (bound : ℕ) (job : Job) (end : SectionEnd) → IsSome o → MayEnd o bound job (Ok end) → IsLawfulEnd end
end_lawful (Some p) bound job end some h = h.lawful
end_lawful None bound job end some h = absurd (cc some)

module _ (names : Names) (p : Form Point) (bound : ℕ) (jobs : List M.Job) (made : ℕ) (whole : C.Collected) (last : List ℕ) where
  abbrev At : List (ℕ × Job) → List Value → Store → List Event → Type 0
  At held vs s rest = Reached names p bound jobs made whole last held vs s rest

  -- nothing was told yet
  pub begun : (held : List (ℕ × Job)) (out : List ℕ) (s : Store) (events : List Event) → AreHeld names held jobs made out → left_out (completed events) out ≡ last
      → CollectsAs (C.collect p bound jobs (are_out (completed events) out) s) whole → At held [] s events
  begun held out s events h left c = record { out = out; holds = h; left = left; collects = c }

  -- a descriptor is told
  pub passed : (held : List (ℕ × Job)) (vs : List Value) (s : Store) (event : Event) (rest : List Event) → ((n : ℕ) → event ≡ Done n → ⊥) → At held vs s (event ∷ rest) → At held vs s rest
  passed held vs s (Done n) rest not h = absurd (not n refl)
  passed held vs s (Ready fd way) rest not h = record { out = h.out; holds = h.holds; left = h.left; collects = h.collects }

  -- a section is told that is not out
  pub passed_over : (held after : List (ℕ × Job)) (vs : List Value) (s : Store) (n : ℕ) (rest : List Event) → At held vs s (Done n ∷ rest) → under n held ≡ None
      → ((m : ℕ) → under m after ≡ cond (is_at (nat_cmp n) m) None (under m held)) → At after vs s rest
  passed_over held after vs s n rest h missing taken = record {
    out = without (λ m. m == n) h.out;
    holds = held_taken names held after jobs made h.out h.holds n taken;
    left = h.left;
    collects = subst (λ ns. CollectsAs (behind vs (C.collect p bound jobs ns s)) whole) (first_not_out n (completed rest) h.out (not_held names held held jobs made h.out h.holds n missing)) h.collects;
  }

  module _ (held after : List (ℕ × Job)) (vs : List Value) (s t : Store) (n : ℕ) (rest : List Event) (h : At held vs s (Done n ∷ rest)) (x : Job) (there : under n held ≡ Some x) (end : SectionEnd)
      (ends : EndsAs names end (M.section_end p (job_of names x) bound)) (r : Result V.Value (Fault × Name))
      (collected : (more : Store → C.Collected) → C.collected more (job_of names x) s (end_of names end) ≡ one_collected names more t r) where
    abbrev left : List ℕ
    left = are_out (completed rest) (without (λ m. m == n) h.out)

    abbrev more : Store → C.Collected
    more t = C.collect p bound jobs left t

    its_turn : holds_number h.out n ≡ true
    its_turn = is_out names held held jobs made h.out h.holds n x there

    its_job : C.job_numbered jobs n ≡ Some (job_of names x)
    its_job = subst (λ o. IsJob names o (C.job_numbered jobs n)) there (h.holds.each n its_turn)

    stands : CollectsAs (one_collected names more t r) (C.collect p bound jobs (n ∷ left) s)
    stands =
        subst (λ o. CollectsAs (one_collected names more t r) (C.collect_one p bound more s o)) (sym its_job)
        (ended_so names more (job_of names x) s end (M.section_end p (job_of names x) bound) (one_collected names more t r) ends (collected more))

    behind_stands : CollectsAs (behind vs (one_collected names more t r)) whole
    behind_stands =
        collects_through (behind vs (one_collected names more t r)) (behind vs (C.collect p bound jobs (n ∷ left) s)) whole
        (behind_both vs (one_collected names more t r) (C.collect p bound jobs (n ∷ left) s) stands)
        (subst (λ ns. CollectsAs (behind vs (C.collect p bound jobs ns s)) whole) (first_out n (completed rest) h.out its_turn) h.collects)

    -- its section gave a value
    pub gave : (v : V.Value) → r ≡ Ok v → ((m : ℕ) → under m after ≡ cond (is_at (nat_cmp n) m) None (under m held)) → At after (vs ++ value_of names v ∷ []) t rest
    gave v e taken = record {
      out = without (λ m. m == n) h.out;
      holds = held_taken names held after jobs made h.out h.holds n taken;
      left = h.left;
      collects = subst (λ c. CollectsAs c whole) (ap (λ q. behind vs (one_collected names more t q)) e ∙ sym (behind_more vs (value_of names v) (more t))) behind_stands;
    }

    -- it failed
    pub failed : (e : Fault × Name) → r ≡ Err e → CollectsAs (C.OneFailed e.0 (names e.1)) whole
    failed e is = subst (λ c. CollectsAs c whole) (ap (λ q. behind vs (one_collected names more t q)) is ∙ behind_failed vs e.0 (names e.1)) behind_stands

  -- all were told
  pub all_gave : (held : List (ℕ × Job)) (vs : List Value) (s : Store) (rest : List Event) → length rest ≡ 0 → At held vs s rest → CollectsAs (C.AllGave vs s) whole × AreHeld names held jobs made last
  all_gave held vs s [] e h = (subst (λ c. CollectsAs c whole) (behind_all vs s) h.collects, subst (λ out. AreHeld names held jobs made out) h.left h.holds)
  all_gave held vs s (x ∷ rest) e h = absurd (omega (arith, e))

-- one value more
pub more_values : (names : Names) (vs ws : List V.Value) (v : V.Value) → ws ≡ vs ++ v ∷ [] → values_of names ws ≡ values_of names vs ++ value_of names v ∷ []
more_values names vs ws v e = ap (values_of names) e ∙ map-append (value_of names) vs (v ∷ [])
