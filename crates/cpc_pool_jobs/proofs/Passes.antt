-- A pass that is split off, a pass that is joined, and what the submitter learns.
use Rattle.std.proofs.Common.{◌≡◌, ◌≢◌, ℕ, ◌+◌, ◌<◌, Bool, true, cond, eqb, List, [], ◌∷◌, ◌++◌, length, map, set, sym, refl, ap, ◌∙◌, subst, ⊎_elim, eq-eqb, ne_eqb, arith}
use Rattle.std.specs.List.{AllByRecursion}
use mathlib.Core.Option.{some, none, some-injective, some-ne-none}
use lib.ListN.{get_elem?}
use Rattle.crossbeam_channel.specs.Fifo.{Forks, Merges, Learns}
use Rattle.crossbeam_queue.proofs.Lists.{at_set}
use Rattle.cpc_pool_jobs.specs.declared.views.Kept.{Kept}
use Rattle.cpc_pool_jobs.specs.declared.views.Taken.{Taken}
use Rattle.cpc_pool_jobs.specs.declared.views.View.{View}
use Rattle.cpc_pool_jobs.specs.Views.{spent, kept_of, hiring, hired, keeping, Rises, numbers, of, jobs_in, Sees, Settled}
use Rattle.cpc_pool_jobs.specs.Rule.{State, Contains, IsKept, Fits, Ruled}
use Rattle.cpc_pool_jobs.proofs.Lists.{differ_kept, each_of, each_weaker, had_none, jobs_are, at_end, All, all_set}
use Rattle.cpc_pool_jobs.proofs.Seats.{seat_old, stays_gone}
use Rattle.cpc_pool_jobs.proofs.Steps.{never, fits_spent}

-- one worker more, with the pass q
abbrev with_worker : State → ℕ → State
with_worker s q = record { chief = s.chief; sent = s.sent; log = s.log; stops = s.stops; workers = s.workers + 1; seat = λ k. cond (eqb k s.workers) (some q) (s.seat k) }

kept_on : (s : State) (q : ℕ) (k : Kept) → IsKept s k → IsKept (with_worker s q) k
kept_on s q k is = (let a = is.0 in omega arith, seat_old s.seat s.workers q k.worker is.0 ∙ is.1, is.2)

module _ {J : Type 0} (number : J → ℕ) (meets : J → Type 0) where
  pub forks : (pass : ℕ) (v : View) → v.submits ≡ true → Forks (Ruled number meets) pass v (hiring v) (hired v)
  forks pass v may items views h at =
      let s = h.0 in
      let c = h.1 in
      let mine = (h.2 pass v at).0 may in
      let vs : List View = set views pass (hiring v) in
      let q : ℕ = length vs in
      let t : State = with_worker s q in
      let d : Contains number meets t items = record {
        jobs = c.jobs;
        left = c.left;
        channel = c.channel;
        order = c.order;
        rises = c.rises;
        meet = c.meet;
        fewer = c.fewer;
        known = each_weaker (λ (k : Taken). k.worker < s.workers) (λ (k : Taken). k.worker < s.workers + 1) (λ k lt. omega arith) s.log c.known;
      } in
      let old : All (Fits t) vs = all_set (Fits t) views pass (hiring v)
      ((λ _. (mine.0, mine.1, mine.2, ap (λ (k : ℕ). k + 1) mine.3, each_weaker (IsKept s) (IsKept t) (kept_on s q) v.kept mine.4, mine.5)), λ e. never e)
      (λ j u other e. let f = h.2 j u e in (
        (λ a. absurd (other ((f.0 a).0 ∙ sym mine.0))),
        λ a. let g = f.1 a in (let lt = g.0 in omega arith, seat_old s.seat s.workers q u.number g.0 ∙ g.1, g.2, g.3),
      )) in
      let new : Fits t q (hired v) = (
        (λ e. never e),
        λ _. (
          let a = mine.3 in omega arith,
          ap (λ (b : Bool). cond b (some q) (s.seat v.workers)) (eq-eqb v.workers s.workers mine.3),
          sym (ap (λ (k : ℕ). of k s.log) mine.3 ∙ had_none (λ (k : Taken). k.worker) (λ (k : Taken). k.number) s.workers s.log c.known),
          (s.log, refl),
        ),
      ) in (
        t,
        d,
        λ j u e. ⊎_elim (λ (x : get_elem? vs j ≡ some u). old j u x)
            (λ (x : (j ≡ q) × (hired v ≡ u)). subst (λ (y : ℕ × View). Fits t y.0 y.1) (λ i. (sym x.0 i, x.1 i)) new) (at_end vs (hired v) u j e),
      )

-- one worker less
abbrev without : State → ℕ → State
without s w = record { chief = s.chief; sent = s.sent; log = s.log; stops = s.stops; workers = s.workers; seat = λ k. cond (eqb k w) none (s.seat k) }

kept_still : (s : State) (w : ℕ) (k : Kept) → IsKept s k → IsKept (without s w) k
kept_still s w k is = (is.0, stays_gone (eqb k.worker w) (s.seat k.worker) is.1, is.2)

module _ {J : Type 0} (number : J → ℕ) (meets : J → Type 0) where
  pub merges : (pass : ℕ) (v : View) (other : ℕ) (u : View) → v.submits ≡ true → u.works ≡ true → Merges (Ruled number meets) pass v other u (keeping v u) spent
  merges pass v other u may works items views h at two at' =
      let s = h.0 in
      let c = h.1 in
      let mine = (h.2 pass v at).0 may in
      let was : get_elem? views other ≡ some u = ⊎_elim (λ x. absurd (two x.0)) (λ x. x.1) (at_set views pass other (keeping v u) u at') in
      let theirs = (h.2 other u was).1 works in
      let t : State = without s u.number in
      let vs : List View = set views pass (keeping v u) in
      let d : Contains number meets t items = record { jobs = c.jobs; left = c.left; channel = c.channel; order = c.order; rises = c.rises; meet = c.meet; fewer = c.fewer; known = c.known } in
      let now_kept : IsKept t (kept_of u.number u.taken) = (theirs.0, ap (λ (b : Bool). cond b none (s.seat u.number)) (eq-eqb u.number u.number refl), theirs.2) in
      let others_differ : AllByRecursion (λ (k : Kept). k.worker ≢ u.number) v.kept =
      each_weaker (IsKept s) (λ (k : Kept). k.worker ≢ u.number) (λ k is e. some-ne-none other (sym theirs.1 ∙ ap s.seat (sym e) ∙ is.1)) v.kept mine.4 in
      let Now : ℕ → View → Type 0 = λ j y. j ≢ other → Fits t j y in
      let now : All Now vs = all_set Now views pass (keeping v u)
      (λ _. ((λ _. (mine.0, mine.1, mine.2, mine.3, each_of (IsKept t) v.kept (kept_of u.number u.taken ∷ []) (each_weaker (IsKept s) (IsKept t) (kept_still s u.number) v.kept mine.4) (now_kept, tt), differ_kept (λ (k : Kept). k.worker) v.kept (kept_of u.number u.taken) mine.5 others_differ)), λ e. never e))
      (λ j y far e away. let f = h.2 j y e in (
        (λ a. absurd (far ((f.0 a).0 ∙ sym mine.0))),
        λ a. let g = f.1 a in (
          g.0,
          ap (λ (b : Bool). cond b none (s.seat y.number)) (ne_eqb y.number u.number (λ e'. away (some-injective j other (sym g.1 ∙ ap s.seat e' ∙ theirs.1)))) ∙ g.1,
          g.2,
          g.3,
        ),
      )) in
      (t, d, all_set (Fits t) vs other spent (fits_spent t other) (λ j y away e. now j y e away))

  pub learns : (pass : ℕ) (v : View) → v.submits ≡ true → Learns (Ruled number meets) pass v (Settled number v)
  learns pass v may items views h at =
      let s = h.0 in
      let c = h.1 in
      let mine = (h.2 pass v at).0 may in (
        s.log,
        mine.1 ∙ sym c.order ∙ ap (λ (l : List ℕ). numbers s.log ++ l) (sym (jobs_are number c.jobs c.left) ∙ ap (jobs_in number) (sym c.channel)),
        subst Rises (sym mine.1) c.rises,
        subst (λ (k : ℕ). AllByRecursion (λ (t : Taken). t.worker < k) s.log) (sym mine.3) c.known,
        each_weaker (IsKept s) (λ (k : Kept). (k.worker < v.workers) × (k.taken ≡ of k.worker s.log)) (λ k is. (subst (λ (n : ℕ). k.worker < n) (sym mine.3) is.0, is.2)) v.kept mine.4,
        mine.5,
      )

  pub sees : (pass : ℕ) (v : View) → v.works ≡ true → Learns (Ruled number meets) pass v (Sees number v)
  sees pass v works items views h at =
      let s = h.0 in
      let c = h.1 in
      let mine = (h.2 pass v at).1 works in
      let held : jobs_in number items ≡ map number c.jobs = ap (jobs_in number) c.channel ∙ jobs_are number c.jobs c.left in
      (s.log, mine.3, mine.2, subst Rises (sym (ap (λ (l : List ℕ). numbers s.log ++ l) held ∙ c.order)) c.rises)
