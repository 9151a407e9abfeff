-- A pass that is split off, a pass that is joined, and what the loop learns.
use Rattle.std.proofs.Common.{◌≡◌, ◌≢◌, ℕ, ◌+◌, ◌<◌, Bool, true, cond, eqb, List, [], ◌∷◌, ◌++◌, length, set, sym, refl, ap, ◌∙◌, subst, ⊎_elim, eq-eqb, ne_eqb, arith}
use Rattle.std.specs.List.{AllByRecursion}
use mathlib.Core.Option.{some, none, some-injective, some-ne-none}
use lib.ListN.{get_elem?}
use Rattle.crossbeam_queue.specs.Fifo.{Forks, Merges, Learns}
use Rattle.crossbeam_queue.proofs.Lists.{at_set}
use Rattle.cpc_pool_jobs.proofs.Lists.{differ_kept, each_of, each_weaker, at_end, All, all_set}
use Rattle.cpc_pool_jobs.proofs.Seats.{seat_old, stays_gone}
use Rattle.cpc_pool_jobs.proofs.Steps.{never}
use Rattle.cpc_pool_ends.specs.declared.done.Done.{Done}
use Rattle.cpc_pool_ends.specs.declared.views.DoneKept.{DoneKept}
use Rattle.cpc_pool_ends.specs.declared.views.DoneView.{DoneView}
use Rattle.cpc_pool_ends.specs.Views.{spent, kept_of, hiring, hired, keeping, by, Settled}
use Rattle.cpc_pool_ends.specs.Rule.{State, Contains, IsKept, Fits, Ruled}
use Rattle.cpc_pool_ends.proofs.Lists.{by_none}
use Rattle.cpc_pool_ends.proofs.Steps.{fits_spent}

module _ {J E : Type 0} where
  -- one worker more, with the pass q
  abbrev with_worker : State J E → ℕ → State J E
  with_worker s q = record { chief = s.chief; popped = s.popped; all = s.all; workers = s.workers + 1; seat = λ k. cond (eqb k s.workers) (some q) (s.seat k) }

  kept_on : (s : State J E) (q : ℕ) (k : DoneKept J E) → IsKept s k → IsKept (with_worker s q) k
  kept_on s q k is = (let a = is.0 in omega arith, seat_old s.seat s.workers q k.worker is.0 ∙ is.1, is.2)

  -- one worker less
  abbrev without : State J E → ℕ → State J E
  without s w = record { chief = s.chief; popped = s.popped; all = s.all; workers = s.workers; seat = λ k. cond (eqb k w) none (s.seat k) }

  kept_still : (s : State J E) (w : ℕ) (k : DoneKept J E) → IsKept s k → IsKept (without s w) k
  kept_still s w k is = (is.0, stays_gone (eqb k.worker w) (s.seat k.worker) is.1, is.2)

module _ {J E : Type 0} (ends : J → E → Type 0) where
  pub forks : (pass : ℕ) (v : DoneView J E) → v.pops ≡ true → Forks (Ruled ends) pass v (hiring v) (hired v)
  forks pass v may items views h at =
      let s = h.0 in
      let c = h.1 in
      let mine = (h.2 pass v at).0 may in
      let vs : List (DoneView J E) = set views pass (hiring v) in
      let q : ℕ = length vs in
      let t : State J E = with_worker s q in
      let d : Contains ends t items = record {
        order = c.order;
        known = each_weaker (λ (x : Done J E). x.worker < s.workers) (λ (x : Done J E). x.worker < s.workers + 1) (λ x lt. omega arith) s.all c.known;
        ends = c.ends;
      } in
      let old : All (Fits t) vs = all_set (Fits t) views pass (hiring v)
      ((λ _. (mine.0, mine.1, ap (λ (k : ℕ). k + 1) mine.2, each_weaker (IsKept s) (IsKept t) (kept_on s q) v.kept mine.3, mine.4)), λ e. never e)
      (λ j u other e. let f = h.2 j u e in (
        (λ a. absurd (other ((f.0 a).0 ∙ sym mine.0))),
        λ a. let g = f.1 a in (let lt = g.0 in omega arith, seat_old s.seat s.workers q u.number g.0 ∙ g.1, g.2),
      )) in
      let new : Fits t q (hired v) = (
        (λ e. never e),
        λ _. (
          let a = mine.2 in omega arith,
          ap (λ (b : Bool). cond b (some q) (s.seat v.workers)) (eq-eqb v.workers s.workers mine.2),
          sym (ap (λ (k : ℕ). by k s.all) mine.2 ∙ by_none s.workers s.all c.known),
        ),
      ) in (
        t,
        d,
        λ j u e. ⊎_elim (λ (x : get_elem? vs j ≡ some u). old j u x)
            (λ (x : (j ≡ q) × (hired v ≡ u)). subst (λ (y : ℕ × DoneView J E). Fits t y.0 y.1) (λ i. (sym x.0 i, x.1 i)) new) (at_end vs (hired v) u j e),
      )

  pub merges : (pass : ℕ) (v : DoneView J E) (other : ℕ) (u : DoneView J E) → v.pops ≡ true → u.pushes ≡ true → Merges (Ruled ends) pass v other u (keeping v u) spent
  merges pass v other u may works items views h at two at' =
      let s = h.0 in
      let c = h.1 in
      let mine = (h.2 pass v at).0 may in
      let was : get_elem? views other ≡ some u = ⊎_elim (λ x. absurd (two x.0)) (λ x. x.1) (at_set views pass other (keeping v u) u at') in
      let theirs = (h.2 other u was).1 works in
      let t : State J E = without s u.number in
      let vs : List (DoneView J E) = set views pass (keeping v u) in
      let d : Contains ends t items = record { order = c.order; known = c.known; ends = c.ends } in
      let now_kept : IsKept t (kept_of u.number u.pushed) = (theirs.0, ap (λ (b : Bool). cond b none (s.seat u.number)) (eq-eqb u.number u.number refl), theirs.2) in
      let others_differ : AllByRecursion (λ (k : DoneKept J E). k.worker ≢ u.number) v.kept =
      each_weaker (IsKept s) (λ (k : DoneKept J E). k.worker ≢ u.number) (λ k is e. some-ne-none other (sym theirs.1 ∙ ap s.seat (sym e) ∙ is.1)) v.kept mine.3 in
      let Now : ℕ → DoneView J E → Type 0 = λ j y. j ≢ other → Fits t j y in
      let now : All Now vs = all_set Now views pass (keeping v u)
      (λ _. ((λ _. (mine.0, mine.1, mine.2, each_of (IsKept t) v.kept (kept_of u.number u.pushed ∷ []) (each_weaker (IsKept s) (IsKept t) (kept_still s u.number) v.kept mine.3) (now_kept, tt), differ_kept (λ (k : DoneKept J E). k.worker) v.kept (kept_of u.number u.pushed) mine.4 others_differ)), λ e. never e))
      (λ j y far e away. let f = h.2 j y e in (
        (λ a. absurd (far ((f.0 a).0 ∙ sym mine.0))),
        λ a. let g = f.1 a in (
          g.0,
          ap (λ (b : Bool). cond b none (s.seat y.number)) (ne_eqb y.number u.number (λ e'. away (some-injective j other (sym g.1 ∙ ap s.seat e' ∙ theirs.1)))) ∙ g.1,
          g.2,
        ),
      )) in
      (t, d, all_set (Fits t) vs other spent (fits_spent t other) (λ j y away e. now j y e away))

  pub learns : (pass : ℕ) (v : DoneView J E) → v.pops ≡ true → Learns (Ruled ends) pass v (Settled v)
  learns pass v may items views h at =
      let s = h.0 in
      let c = h.1 in
      let mine = (h.2 pass v at).0 may in
      let all_is : s.all ≡ v.popped ++ items = sym c.order ∙ ap (λ (l : List (Done J E)). l ++ items) (sym mine.1) in (
        each_weaker (IsKept s) (λ (k : DoneKept J E). (k.worker < v.workers) × (k.pushed ≡ by k.worker (v.popped ++ items)))
            (λ k is. (subst (λ (n : ℕ). k.worker < n) (sym mine.2) is.0, is.2 ∙ ap (by k.worker) all_is)) v.kept mine.3,
        mine.4,
      )
