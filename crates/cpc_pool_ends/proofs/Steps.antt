-- The first pass, a push and a pop keep the rule.
use Rattle.std.proofs.Common.{◌≡◌, ◌≢◌, ℕ, zero, suc, ◌<◌, true, List, [], ◌∷◌, ◌++◌, sym, refl, ap, ◌∙◌, subst, append_assoc}
use Rattle.std.specs.List.{AllByRecursion}
use mathlib.Core.Option.{some, none, some-ne-none}
use lib.ListN.{get_elem?}
use Rattle.crossbeam_queue.specs.Fifo.{Pushes, Pops}
use Rattle.cpc_pool_jobs.proofs.Lists.{each_of, each_at, each_weaker, all_set}
use Rattle.cpc_pool_jobs.proofs.Seats.{apart, gone}
use Rattle.cpc_pool_jobs.proofs.Steps.{never}
use Rattle.cpc_pool_ends.specs.declared.done.Done.{Done}
use Rattle.cpc_pool_ends.specs.declared.views.DoneKept.{DoneKept}
use Rattle.cpc_pool_ends.specs.declared.views.DoneView.{DoneView}
use Rattle.cpc_pool_ends.specs.Views.{loops, worker, spent, after_push, Arrives}
use Rattle.cpc_pool_ends.specs.Rule.{State, Contains, IsKept, Fits, Ruled}
use Rattle.cpc_pool_ends.proofs.Lists.{by_mine, by_other}

module _ {J E : Type 0} where
  pub fits_spent : (s : State J E) (q : ℕ) → Fits s q spent
  fits_spent s q = (λ e. never e, λ e. never e)

  alone : (s : State J E) → (j : ℕ) (u : DoneView J E) → j ≢ 0 → get_elem? (loops [] 0 [] ∷ []) j ≡ some u → Fits s j u
  alone s zero u other e = absurd (other refl)
  alone s (suc j) u other e = absurd (some-ne-none u (sym e))

  -- one completion more was pushed
  abbrev longer : State J E → Done J E → State J E
  longer s d = record { chief = s.chief; popped = s.popped; all = s.all ++ d ∷ []; workers = s.workers; seat = s.seat }

  kept_stays : (s : State J E) (d : Done J E) (q : ℕ) → s.seat d.worker ≡ some q → (k : DoneKept J E) → IsKept s k → IsKept (longer s d) k
  kept_stays s d q at k is = (is.0, is.1, is.2 ∙ sym (by_other k.worker s.all d (gone s.seat k.worker d.worker q is.1 at)))

  others : (s : State J E) (d : Done J E) (q : ℕ) → s.seat d.worker ≡ some q → (j : ℕ) (u : DoneView J E) → j ≢ q → Fits s j u → Fits (longer s d) j u
  others s d q at j u other f = (
    (λ a. let g = f.0 a in (g.0, g.1, g.2, each_weaker (IsKept s) (IsKept (longer s d)) (kept_stays s d q at) u.kept g.3, g.4)),
    λ a. let g = f.1 a in (g.0, g.1, g.2 ∙ sym (by_other u.number s.all d (apart s.seat u.number d.worker q j g.1 at other))),
  )

module _ {J E : Type 0} (ends : J → E → Type 0) where
  -- the end is that of the job
  abbrev Own : Done J E → Type 0
  Own d = ends d.job d.end

  pub begins : Ruled ends [] (loops [] 0 [] ∷ [])
  begins =
      let s : State J E = record { chief = 0; popped = []; all = []; workers = 0; seat = λ w. none } in
      let c : Contains ends s [] = record { order = refl; known = tt; ends = tt } in
      (s, c, all_set (Fits s) (loops [] 0 [] ∷ []) 0 (loops [] 0 []) ((λ _. (refl, refl, refl, tt, tt)), λ e. never e) (alone s))

  pub pushes : (n pass : ℕ) (v : DoneView J E) (d : Done J E) → v.pushes ≡ true → d.worker ≡ v.number → ends d.job d.end
      → Pushes (Ruled ends) n pass v d (λ w. w ≡ after_push v d)
  pushes n pass v d may is own items views room h at =
      let s = h.0 in
      let c = h.1 in
      let mine = (h.2 pass v at).1 may in
      let w : DoneView J E = worker v.number (v.pushed ++ d ∷ []) in
      let t : State J E = longer s d in
      let has_seat : s.seat d.worker ≡ some pass = ap s.seat is ∙ mine.1 in
      let e : Contains ends t (items ++ d ∷ []) = record {
        order = sym (append_assoc s.popped items (d ∷ [])) ∙ ap (λ (l : List (Done J E)). l ++ d ∷ []) c.order;
        known = each_of (λ (x : Done J E). x.worker < s.workers) s.all (d ∷ []) c.known (subst (λ (k : ℕ). k < s.workers) (sym is) mine.0, tt);
        ends = each_of Own s.all (d ∷ []) c.ends (own, tt);
      } in (
        w,
        (
          t,
          e,
          all_set (Fits t) views pass w ((λ x. never x), λ _. (mine.0, mine.1, ap (λ (l : List (Done J E)). l ++ d ∷ []) mine.2 ∙ sym (by_mine v.number s.all d is)))
              (λ j u other x. others s d pass has_seat j u other (h.2 j u x)),
        ),
        refl,
      )

  pub pops : (pass : ℕ) (v : DoneView J E) → v.pops ≡ true → Pops (Ruled ends) pass v (Arrives ends v)
  pops pass v may d items views h at =
      let s = h.0 in
      let c = h.1 in
      let mine = (h.2 pass v at).0 may in
      let w : DoneView J E = loops (v.popped ++ d ∷ []) v.workers v.kept in
      let t : State J E = record { chief = s.chief; popped = s.popped ++ d ∷ []; all = s.all; workers = s.workers; seat = s.seat } in
      let e : Contains ends t items = record { order = append_assoc s.popped (d ∷ []) items ∙ c.order; known = c.known; ends = c.ends } in (
        w,
        (
          t,
          e,
          all_set (Fits t) views pass w ((λ _. (mine.0, ap (λ (l : List (Done J E)). l ++ d ∷ []) mine.1, mine.2, mine.3, mine.4)), λ x. never x)
              (λ j u other x. let f = h.2 j u x in ((λ a. absurd (other ((f.0 a).0 ∙ sym mine.0))), f.1)),
        ),
        (
          refl,
          subst (λ (k : ℕ). d.worker < k) (sym mine.2) (each_at (λ (x : Done J E). x.worker < s.workers) s.popped d items (subst (AllByRecursion (λ (x : Done J E). x.worker < s.workers)) (sym c.order) c.known)),
          each_at Own s.popped d items (subst (AllByRecursion Own) (sym c.order) c.ends),
        ),
      )
