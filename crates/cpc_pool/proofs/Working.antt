-- What a worker took and pushed, job by job.
use Rattle.std.proofs.Common.{◌≡◌, ◌⊎◌, inl, inr, ℕ, [], ◌∷◌, ◌++◌, ap, sym, ◌∙◌, append-nil, append_assoc}
use Rattle.cpc_pool_jobs.specs.declared.views.View.{View}
use Rattle.cpc_pool_ends.specs.declared.done.Done.{Done}
use Rattle.cpc_pool_ends.specs.declared.views.DoneView.{DoneView}
use Rattle.cpc_pool.specs.Acts.{Brought, Worked, none, ran_by, run, unrun}

module _ {J E : Type 0} (number : J → ℕ) (ends : J → E → Type 0) (n : ℕ) where
  -- nothing so far
  pub works_none : (v : View) (p : DoneView J E) → Worked number ends n v v p p
  works_none v p = ([], [], none, sym (append-nil v.taken), sym (append-nil p.pushed))

  -- the same, where the views stay
  pub works_still : (v w x : View) (p q r : DoneView J E) → Worked number ends n v w p q → x.taken ≡ w.taken → r ≡ q → Worked number ends n v x p r
  works_still v w x p q r (took, pushed, works, taken, left) same still = (took, pushed, works, same ∙ taken, ap (λ d. d.pushed) still ∙ left)

  -- one job more was taken, and run, or not
  pub works_more : (v w x : View) (p q r : DoneView J E) (j : J) → Worked number ends n v w p q → x.taken ≡ w.taken ++ number j ∷ []
      → (r ≡ q) ⊎ Brought ends n j q r → Worked number ends n v x p r
  works_more v w x p q r j (took, pushed, works, taken, left) next (inl still) =
      (took ++ number j ∷ [], pushed, unrun (number j) works, next ∙ ap (λ l. l ++ number j ∷ []) taken ∙ append_assoc v.taken took (number j ∷ []), ap (λ d. d.pushed) still ∙ left)
  works_more v w x p q r j (took, pushed, works, taken, left) next (inr (e, its, done)) =
      let d : Done J E = ran_by n j e in (
        took ++ number j ∷ [],
        pushed ++ d ∷ [],
        run j e works its,
        next ∙ ap (λ l. l ++ number j ∷ []) taken ∙ append_assoc v.taken took (number j ∷ []),
        ap (λ a. a.pushed) done ∙ ap (λ l. l ++ d ∷ []) left ∙ append_assoc p.pushed pushed (d ∷ []),
      )
