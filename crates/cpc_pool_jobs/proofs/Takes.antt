-- A receive keeps the rule, and tells the worker that the job is the next one.
use Rattle.std.proofs.Common.{◌≡◌, ◌≢◌, ℕ, suc, ◌<◌, ◌≤◌, true, List, [], ◌∷◌, ◌++◌, map, set, replicate, sym, refl, ap, ◌∙◌, subst, ⊎_elim, append_assoc, append-nil, arith}
use Rattle.std.specs.List.{AllByRecursion}
use mathlib.Core.Option.{some}
use lib.ListN.{get_elem?}
use Rattle.crossbeam_channel.specs.Fifo.{Pops}
use Rattle.cpc_pool_jobs.specs.declared.message.Message.{Message}
use Rattle.cpc_pool_jobs.specs.declared.message.Message.TheVariants as M
use Rattle.cpc_pool_jobs.specs.declared.views.Kept.{Kept}
use Rattle.cpc_pool_jobs.specs.declared.views.Taken.{Taken}
use Rattle.cpc_pool_jobs.specs.declared.views.View.{View}
use Rattle.cpc_pool_jobs.specs.Views.{worker, taken_by, Rises, numbers, of, StartsWith, TakesJob, Takes}
use Rattle.cpc_pool_jobs.specs.Rule.{State, Contains, IsKept, Fits, Ruled}
use Rattle.cpc_pool_jobs.proofs.Lists.{each_of, each_weaker, rises_first, of_mine, of_other, numbers_more, front, All, all_set}
use Rattle.cpc_pool_jobs.proofs.Seats.{apart, gone}
use Rattle.cpc_pool_jobs.proofs.Steps.{never}

-- the log, longer by a job of the worker w
abbrev after : State → ℕ → ℕ → State
after s w n = record { chief = s.chief; sent = s.sent; log = s.log ++ taken_by w n ∷ []; stops = s.stops; workers = s.workers; seat = s.seat }

kept_stays : (s : State) (w n q : ℕ) → s.seat w ≡ some q → (k : Kept) → IsKept s k → IsKept (after s w n) k
kept_stays s w n q at k is = (is.0, is.1, is.2 ∙ sym (of_other k.worker w n s.log (gone s.seat k.worker w q is.1 at)))

begins_more : (log seen : List Taken) (t : Taken) → StartsWith log seen → StartsWith (log ++ t ∷ []) seen
begins_more log seen t h = (h.0 ++ t ∷ [], ap (λ (l : List Taken). l ++ t ∷ []) h.1 ∙ append_assoc seen h.0 (t ∷ []))

others : (s : State) (w n q : ℕ) → s.seat w ≡ some q → (j : ℕ) (u : View) → j ≢ q → Fits s j u → Fits (after s w n) j u
others s w n q at j u other f = (
  (λ a. let g = f.0 a in (g.0, g.1, g.2, g.3, each_weaker (IsKept s) (IsKept (after s w n)) (kept_stays s w n q at) u.kept g.4, g.5)),
  λ a. let g = f.1 a in
      (g.0, g.1, g.2 ∙ sym (of_other u.number w n s.log (apart s.seat u.number w q j g.1 at other)), begins_more s.log u.seen (taken_by w n) g.3),
)

module _ {J : Type 0} (number : J → ℕ) (meets : J → Type 0) where
  pub took : (pass : ℕ) (v : View) → v.works ≡ true
      → (items : List (Message J)) (views : List View) (s : State) (j : J) (rest : List J) (left : ℕ)
      → items ≡ map M.Work rest ++ replicate left M.Stop → numbers s.log ++ map number (j ∷ rest) ≡ s.sent → Rises s.sent
      → AllByRecursion (meets) (j ∷ rest) → left ≤ s.stops → AllByRecursion (λ (t : Taken). t.worker < s.workers) s.log
      → All (Fits s) views → get_elem? views pass ≡ some v
      → (w : View) × Ruled number meets items (set views pass w) × TakesJob number meets v j w
  took pass v may items views s j rest left channel order rises meet fewer known fit at =
      let mine = (fit pass v at).1 may in
      let t : State = after s v.number (number j) in
      let seen : List Taken = (v.seen ++ mine.3.0) ++ taken_by v.number (number j) ∷ [] in
      let w : View = worker v.number (v.taken ++ (number j) ∷ []) seen v.stopped in
      let log_is : t.log ≡ seen = ap (λ (l : List Taken). l ++ taken_by v.number (number j) ∷ []) mine.3.1 in
      let order' : numbers t.log ++ map number rest ≡ s.sent =
      ap (λ (l : List ℕ). l ++ map number rest) (numbers_more s.log v.number (number j)) ∙ append_assoc (numbers s.log) ((number j) ∷ []) (map number rest) ∙ order in
      let rises' : Rises (numbers t.log) = rises_first (numbers t.log) (map number rest) (subst Rises (sym order') rises) in
      let list_is : v.taken ++ (number j) ∷ [] ≡ of v.number t.log = ap (λ (l : List ℕ). l ++ (number j) ∷ []) mine.2 ∙ sym (of_mine v.number (number j) s.log) in
      let d : Contains number meets t items = record {
        jobs = rest;
        left = left;
        channel = channel;
        order = order';
        rises = rises;
        meet = meet.1;
        fewer = fewer;
        known = each_of (λ (k : Taken). k.worker < s.workers) s.log (taken_by v.number (number j) ∷ []) known (mine.0, tt);
      } in (
        w,
        (
          t,
          d,
          all_set (Fits t) views pass w ((λ e. never e), λ _. (mine.0, mine.1, list_is, ([], log_is ∙ sym (append-nil seen))))
              (λ i u other e. others s v.number (number j) pass mine.1 i u other (fit i u e)),
        ),
        (mine.3.0, refl, subst (λ (l : List Taken). Rises (numbers l)) log_is rises', ap (of v.number) (sym log_is) ∙ sym list_is, meet.0),
      )

  pub stopped : (pass : ℕ) (v : View) → v.works ≡ true
      → (items : List (Message J)) (views : List View) (s : State) (l : ℕ)
      → items ≡ replicate l M.Stop → numbers s.log ++ [] ≡ s.sent → Rises s.sent
      → suc l ≤ s.stops → AllByRecursion (λ (t : Taken). t.worker < s.workers) s.log
      → All (Fits s) views → get_elem? views pass ≡ some v
      → (w : View) × Ruled number meets items (set views pass w) × Takes number meets v M.Stop w
  stopped pass v may items views s l channel order rises fewer known fit at =
      let mine = (fit pass v at).1 may in
      let w : View = worker v.number v.taken v.seen true in
      let d : Contains number meets s items = record { jobs = []; left = l; channel = channel; order = order; rises = rises; meet = tt; fewer = omega arith; known = known } in
      (w, (s, d, all_set (Fits s) views pass w ((λ e. never e), λ _. mine) (λ i u other e. fit i u e)), refl)

  pub takes : (pass : ℕ) (v : View) → v.works ≡ true → Pops (Ruled number meets) pass v (Takes number meets v)
  takes pass v may x items views h at =
      let s = h.0 in
      let c = h.1 in
      let Goal : Message J → Type 0 = λ y. (w : View) × Ruled number meets items (set views pass w) × Takes number meets v y w in
      ⊎_elim
      (λ (f : (j : J) × (rest : List J) × (c.jobs ≡ j ∷ rest) × (x ≡ M.Work j) × (items ≡ map M.Work rest ++ replicate c.left M.Stop)).
      subst Goal (sym f.3) (took pass v may items views s f.0 f.1 c.left f.4 (ap (λ (l : List J). numbers s.log ++ map number l) (sym f.2) ∙ c.order) c.rises
      (subst (AllByRecursion meets) f.2 c.meet) c.fewer c.known h.2 at))
      (λ (f : (l : ℕ) × (c.jobs ≡ []) × (c.left ≡ suc l) × (x ≡ M.Stop) × (items ≡ replicate l M.Stop)).
      subst Goal (sym f.3) (stopped pass v may items views s f.0 f.4 (ap (λ (l : List J). numbers s.log ++ map number l) (sym f.1) ∙ c.order) c.rises
      (subst (λ (k : ℕ). k ≤ s.stops) f.2 c.fewer) c.known h.2 at))
      (front c.jobs c.left x items c.channel)
