-- Jobs that are put and taken.
use Rattle.std.proofs.Common.{◌≡◌, ℕ, suc, true, false, cond, List, [], ◌∷◌, ◌++◌, Option, Some, None, inl, inr, sym, ap, subst, ◌∙◌, arith}
use Rattle.std.specs.Prelude.{◌==◌}
use Rattle.std.specs.BTreeMap.{is_at}
use Rattle.std.specs.Ordering.{nat_cmp}
use Rattle.std.proofs.lemmas.Bool.Decides.{nat_tests}
use Rattle.cpc_base.specs.Waiting.{without}
use Rattle.cpc_base.proofs.Truth.{true_or_false, by_false_true, same_number}
use Rattle.cpc_tree.specs.Erase.{Names}
use Rattle.cpc_tree.specs.Lists.{holds_number}
use Rattle.cpc_meaning.specs.Copies.{job_numbered}
use Rattle.cpc_meaning.specs.Section as M
use Rattle.cpc_sections.specs.Jobs.{job_of}
use Rattle.cpc_sections.specs.declared.job.Job.{Job}
use Rattle.cpc_run_jobs.specs.Held.{IsJob, AreHeld}
use Rattle.cpc_run_jobs.specs.Under.{under}
use Rattle.cpc_run_jobs.proofs.Numbered.{put_out, put_not_out, left_is_out, left_not_out, left_is_other, numbered_before, numbered_last, below_next}

-- the job of a number, by what is found
more_jobs : (names : Names) (o : Option Job) (jobs : List M.Job) (y : M.Job) (n : ℕ) → IsJob names o (job_numbered jobs n) → IsJob names o (job_numbered (jobs ++ y ∷ []) n)
more_jobs names None jobs y n h = h
more_jobs names (Some x) jobs y n h = numbered_before jobs (job_of names x) y n h

module _ (names : Names) (held after : List (ℕ × Job)) (jobs : List M.Job) (made : ℕ) (out : List ℕ) (h : AreHeld names held jobs made out) where
  -- a job is put under the next number
  pub held_put : (x : Job) → x.number ≡ made → ((n : ℕ) → under n after ≡ cond (is_at (nat_cmp x.number) n) (Some x) (under n held))
      → AreHeld names after (jobs ++ job_of names x ∷ []) (suc made) (out ++ made ∷ [])
  held_put x is put = record { below = below_next jobs (job_of names x) made h.below is; each = each; none = none }
    where
      last : (n : ℕ) → (n == x.number) ≡ true → IsJob names (under n after) (job_numbered (jobs ++ job_of names x ∷ []) n)
      last n t =
          let here : under n after ≡ Some x = put n ∙ ap (λ b. cond b (Some x) (under n held)) (same_number x.number n ∙ t) in
          let same : (made == n) ≡ true = grind (arith, nat_tests) in
          subst (λ o. IsJob names o (job_numbered (jobs ++ job_of names x ∷ []) n)) (sym here) (numbered_last jobs (job_of names x) made n h.below is same)

      before : (n : ℕ) → (n == x.number) ≡ false → holds_number (out ++ made ∷ []) n ≡ true → IsJob names (under n after) (job_numbered (jobs ++ job_of names x ∷ []) n)
      before n f outs =
          let there : under n after ≡ under n held = put n ∙ ap (λ b. cond b (Some x) (under n held)) (same_number x.number n ∙ f) in
          let other : (made == n) ≡ false = grind (arith, nat_tests) in
          subst (λ o. IsJob names o (job_numbered (jobs ++ job_of names x ∷ []) n)) (sym there) (more_jobs names (under n held) jobs (job_of names x) n (h.each n (put_out out n made other outs)))

      each : (n : ℕ) → holds_number (out ++ made ∷ []) n ≡ true → IsJob names (under n after) (job_numbered (jobs ++ job_of names x ∷ []) n)
      each n outs = elim (true_or_false (n == x.number)) [ inl t ↦ last n t | inr f ↦ before n f outs ]

      none : (n : ℕ) → holds_number (out ++ made ∷ []) n ≡ false → under n after ≡ None
      none n not =
          let both = put_not_out out n made not in
          let made_not = both.1 in
          let other : (n == x.number) ≡ false = grind (arith, nat_tests) in
          put n ∙ ap (λ b. cond b (Some x) (under n held)) (same_number x.number n ∙ other) ∙ h.none n both.0

  -- the job of a number is taken out
  pub held_taken : (number : ℕ) → ((n : ℕ) → under n after ≡ cond (is_at (nat_cmp number) n) None (under n held)) → AreHeld names after jobs made (without (λ m. m == number) out)
  held_taken number taken = record { below = h.below; each = each; none = none }
    where
      each : (n : ℕ) → holds_number (without (λ m. m == number) out) n ≡ true → IsJob names (under n after) (job_numbered jobs n)
      each n left = elim (true_or_false (n == number)) [
        | inl t ↦ by_false_true (sym (left_is_other out n number t) ∙ left)
        | inr f ↦ (
            let there : under n after ≡ under n held = taken n ∙ ap (λ b. cond b None (under n held)) (same_number number n ∙ f) in
            subst (λ o. IsJob names o (job_numbered jobs n)) (sym there) (h.each n (left_is_out out n number left))
            )
      ]

      none : (n : ℕ) → holds_number (without (λ m. m == number) out) n ≡ false → under n after ≡ None
      none n left = elim (true_or_false (n == number)) [
        | inl t ↦ taken n ∙ ap (λ b. cond b None (under n held)) (same_number number n ∙ t)
        | inr f ↦ taken n ∙ ap (λ b. cond b None (under n held)) (same_number number n ∙ f) ∙ h.none n (left_not_out out n number f left)
      ]

  -- what is held is out, and what is not held is not
  pub is_out : (n : ℕ) (x : Job) → under n held ≡ Some x → holds_number out n ≡ true
  is_out n x there = elim (true_or_false (holds_number out n)) [
    | inl t ↦ t
    | inr f ↦ absurd (let e : Some x ≡ None = sym there ∙ h.none n f in cc)
  ]

  pub not_held : (n : ℕ) → under n held ≡ None → holds_number out n ≡ false
  not_held n missing = elim (true_or_false (holds_number out n)) [
    | inl t ↦ absurd (subst (λ o. IsJob names o (job_numbered jobs n)) missing (h.each n t))
    | inr f ↦ f
  ]
