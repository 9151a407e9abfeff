-- A job that is submitted.
use Rattle.std.proofs.Common.{◌≡◌, ℕ, suc, cond, List, [], ◌∷◌, ◌++◌, Some, Result, Ok, Err, refl, sym, subst}
use Rattle.std.specs.BTreeMap.{is_at}
use Rattle.std.specs.Ordering.{nat_cmp}
use Rattle.std.specs.Result.{IsErrAnd}
use Rattle.cpc_base.specs.declared.stop.Stop.{Stop}
use Rattle.cpc_base.specs.declared.stop.Stop.TheVariants.{Memory, Fault as Faulted}
use Rattle.cpc_num.specs.declared.kinds.Fault.{Fault}
use Rattle.cpc_tree.specs.Erase.{Names}
use Rattle.cpc_store.specs.Store.{Value}
use Rattle.cpc_meaning.specs.Answer.{Answer, Gives, Faults, NoAnswer}
use Rattle.cpc_meaning.specs.Section as M
use Rattle.cpc_run_sections.specs.Stops.{MeetsOr, row_shown}
use Rattle.cpc_eval_values.specs.Shown.{values_of}
use Rattle.cpc_sections.specs.Jobs.{job_of}
use Rattle.cpc_sections.specs.declared.job.Job.{Job}
use Rattle.cpc_run_jobs.specs.Held.{AreHeld}
use Rattle.cpc_run_jobs.specs.Holding.{Holds, SubmitsAs}
use Rattle.cpc_run_jobs.specs.Under.{under}
use Rattle.cpc_run_jobs.specs.declared.jobs.Jobs.{Jobs}
use Rattle.cpc_run_jobs.proofs.Held.{held_put}

same_row : {X : Type 0} (xs ys : X) (r : Result X Fault) → r ≡ Ok xs → r ≡ Ok ys → xs ≡ ys
same_row xs ys r e f = cc

module _ (names : Names) (new : Jobs) (jobs : List M.Job) (number : ℕ) (outs : List ℕ) (job : List Value → M.Job) where
  -- the copy failed
  failed : (e : Stop Fault) (a : Answer (List Value)) → MeetsOr (row_shown names (Err e)) a → SubmitsAs names new (Err e) jobs number outs job a
  failed Memory a h = tt
  failed (Faulted fault) (Gives cells) h = absurd (cc)
  failed (Faulted fault) (Faults other) h = cc
  failed (Faulted fault) NoAnswer h = tt

  pub not_submitted : (r : Result (Unit {0}) (Stop Fault)) (e : Stop Fault) (a : Answer (List Value)) → IsErrAnd r (λ other. other ≡ e) → MeetsOr (row_shown names (Err e)) a → SubmitsAs names new r jobs number outs job a
  not_submitted (Ok u) e a is h = absurd is
  not_submitted (Err other) e a is h = subst (λ x. SubmitsAs names new (Err x) jobs number outs job a) (sym is) (failed e a h)

  -- it stands behind the others
  pub submitted : (held : List (ℕ × Job)) (x : Job) (a : Answer (List Value)) → AreHeld names held jobs number outs → x.number ≡ number
      → ((n : ℕ) → under n new.out ≡ cond (is_at (nat_cmp x.number) n) (Some x) (under n held))
      → job_of names x ≡ job (values_of names x.cells.items) → MeetsOr (row_shown names (Ok x.cells)) a → SubmitsAs names new (Ok tt) jobs number outs job a
  submitted held x (Gives cells) h is put same m =
      subst (λ cs. Holds names new (jobs ++ job cs ∷ []) (suc number) (outs ++ number ∷ [])) (same_row (values_of names x.cells.items) cells (Ok (values_of names x.cells.items)) refl m)
      (subst (λ y. Holds names new (jobs ++ y ∷ []) (suc number) (outs ++ number ∷ [])) same (held_put names held new.out jobs number outs h x is put))
  submitted held x (Faults fault) h is put same m = absurd (cc)
  submitted held x NoAnswer h is put same m = tt
