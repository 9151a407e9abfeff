-- Each kind of step keeps the rule.
use Rattle.std.proofs.Common.{◌≡◌, ◌≢◌, ℕ, zero, suc, ◌+◌, ◌<◌, true, false, true≢false, List, [], ◌∷◌, ◌++◌, map, replicate, sym, refl, ap, ◌∙◌, subst, append_assoc, append-nil, arith}
use Rattle.std.specs.List.{AllByRecursion}
use Rattle.std.proofs.lemmas.List.{map-append}
use mathlib.Core.Option.{Option, some, none, some-ne-none}
use lib.ListN.{get_elem?}
use Rattle.crossbeam_channel.specs.Fifo.{Pushes}
use Rattle.cpc_pool_jobs.specs.declared.message.Message.{Message}
use Rattle.cpc_pool_jobs.specs.declared.message.Message.TheVariants as M
use Rattle.cpc_pool_jobs.specs.declared.views.Taken.{Taken}
use Rattle.cpc_pool_jobs.specs.declared.views.View.{View}
use Rattle.cpc_pool_jobs.specs.Views.{submitter, spent, after_send, numbers, of, StartsWith}
use Rattle.cpc_pool_jobs.specs.Rule.{State, Contains, Fits, Ruled}
use Rattle.cpc_pool_jobs.proofs.Lists.{each_of, rises_more, stops_more, all_set}

pub never : {X : Type 0} → false ≡ true → X
never e = absurd (true≢false (sym e))

-- a view with no role fits everything
pub fits_spent : (s : State) (q : ℕ) → Fits s q spent
fits_spent s q = (λ e. never e, λ e. never e)

alone : (s : State) → (j : ℕ) (u : View) → j ≢ 0 → get_elem? (submitter [] 0 0 [] ∷ []) j ≡ some u → Fits s j u
alone s zero u other e = absurd (other refl)
alone s (suc j) u other e = absurd (some-ne-none u (sym e))

-- others stay as they were where the step is the submitter's, and only its own part of the state changes
others_stay : (s t : State) (pass : ℕ) → pass ≡ s.chief → s.workers ≡ t.workers → s.log ≡ t.log → s.seat ≡ t.seat → (j : ℕ) (u : View) → j ≢ pass → Fits s j u → Fits t j u
others_stay s t pass is ws log seat j u other f = (
  (λ a. absurd (other ((f.0 a).0 ∙ sym is))),
  λ a. let g = f.1 a in
      (subst (λ (k : ℕ). u.number < k) ws g.0, ap (λ (f : ℕ → Option ℕ). f u.number) (sym seat) ∙ g.1, g.2 ∙ ap (of u.number) log, subst (λ (l : List Taken). StartsWith l u.seen) log g.3),
)

module _ {J : Type 0} (number : J → ℕ) (meets : J → Type 0) where
  pub begins : Ruled number meets [] (submitter [] 0 0 [] ∷ [])
  begins =
      let s : State = record { chief = 0; sent = []; log = []; stops = 0; workers = 0; seat = λ w. none } in
      let c : Contains number meets s [] = record { jobs = []; left = 0; channel = refl; order = refl; rises = tt; meet = tt; fewer = omega arith; known = tt } in
      (s, c, all_set (Fits s) (submitter [] 0 0 [] ∷ []) 0 (submitter [] 0 0 []) ((λ _. (refl, refl, refl, refl, tt, tt)), λ e. never e) (alone s))

  -- with no stop, a job at the back
  job_behind : (jobs : List J) (left : ℕ) (items : List (Message J)) (j : J) → items ≡ map M.Work jobs ++ replicate left M.Stop → left ≡ 0 → items ++ M.Work j ∷ [] ≡ map M.Work (jobs ++ j ∷ []) ++ []
  job_behind jobs left items j e none_left =
      ap (λ (l : List (Message J)). l ++ M.Work j ∷ []) (e ∙ ap (λ (k : ℕ). map M.Work jobs ++ replicate k M.Stop) none_left ∙ append-nil (map M.Work jobs))
      ∙ sym (map-append M.Work jobs (j ∷ []))
      ∙ sym (append-nil (map M.Work (jobs ++ j ∷ [])))

  sent_behind : (before : List ℕ) (jobs : List J) (sent : List ℕ) (j : J) → before ++ map number jobs ≡ sent → before ++ map number (jobs ++ j ∷ []) ≡ sent ++ number j ∷ []
  sent_behind before jobs sent j e =
      ap (λ (l : List ℕ). before ++ l) (map-append number jobs (j ∷ []))
      ∙ sym (append_assoc before (map number jobs) (number j ∷ []))
      ∙ ap (λ (l : List ℕ). l ++ number j ∷ []) e

  pub sends : (n pass : ℕ) (v : View) (j : J) → v.submits ≡ true → v.stops ≡ 0 → AllByRecursion (λ k. k < number j) v.sent → meets j
      → Pushes (Ruled number meets) n pass v (M.Work j) (λ w. w ≡ after_send number v (M.Work j))
  sends n pass v j may no_stop above allowed items views room h at =
      let s = h.0 in
      let c = h.1 in
      let mine = (h.2 pass v at).0 may in
      let w : View = submitter (v.sent ++ number j ∷ []) v.stops v.workers v.kept in
      let t : State = record { chief = s.chief; sent = s.sent ++ number j ∷ []; log = s.log; stops = s.stops; workers = s.workers; seat = s.seat } in
      let none_left : c.left ≡ 0 = let a = c.fewer in let b = mine.2 in omega arith in
      let d : Contains number meets t (items ++ M.Work j ∷ []) = record {
        jobs = c.jobs ++ j ∷ [];
        left = 0;
        channel = job_behind c.jobs c.left items j c.channel none_left;
        order = sent_behind (numbers s.log) c.jobs s.sent j c.order;
        rises = rises_more s.sent (number j) c.rises (subst (AllByRecursion (λ k. k < number j)) mine.1 above);
        meet = each_of meets c.jobs (j ∷ []) c.meet (allowed, tt);
        fewer = omega arith;
        known = c.known;
      } in (
        w,
        (
          t,
          d,
          all_set (Fits t) views pass w ((λ _. (mine.0, ap (λ (l : List ℕ). l ++ number j ∷ []) mine.1, mine.2, mine.3, mine.4, mine.5)), λ e. never e)
              (λ i u other e. others_stay s t pass mine.0 refl refl refl i u other (h.2 i u e)),
        ),
        refl,
      )

  stop_behind : (jobs : List J) (left : ℕ) (items : List (Message J)) → items ≡ map M.Work jobs ++ replicate left M.Stop → items ++ M.Stop ∷ [] ≡ map M.Work jobs ++ replicate (suc left) M.Stop
  stop_behind jobs left items e =
      ap (λ (l : List (Message J)). l ++ M.Stop ∷ []) e ∙ append_assoc (map M.Work jobs) (replicate left M.Stop) (M.Stop ∷ []) ∙ ap (λ (l : List (Message J)). map M.Work jobs ++ l) (stops_more left)

  pub stops : (n pass : ℕ) (v : View) → v.submits ≡ true → Pushes (Ruled number meets) n pass v M.Stop (λ w. w ≡ after_send number v M.Stop)
  stops n pass v may items views room h at =
      let s = h.0 in
      let c = h.1 in
      let mine = (h.2 pass v at).0 may in
      let w : View = submitter v.sent (v.stops + 1) v.workers v.kept in
      let t : State = record { chief = s.chief; sent = s.sent; log = s.log; stops = s.stops + 1; workers = s.workers; seat = s.seat } in
      let d : Contains number meets t (items ++ M.Stop ∷ []) = record {
        jobs = c.jobs;
        left = suc c.left;
        channel = stop_behind c.jobs c.left items c.channel;
        order = c.order;
        rises = c.rises;
        meet = c.meet;
        fewer = let a = c.fewer in omega arith;
        known = c.known;
      } in (
        w,
        (
          t,
          d,
          all_set (Fits t) views pass w ((λ _. (mine.0, mine.1, ap (λ (k : ℕ). k + 1) mine.2, mine.3, mine.4, mine.5)), λ e. never e)
              (λ i u other e. others_stay s t pass mine.0 refl refl refl i u other (h.2 i u e)),
        ),
        refl,
      )
