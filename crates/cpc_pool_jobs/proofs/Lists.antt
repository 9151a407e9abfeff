-- Lists that rise, what one worker has of a list, and what stands where in a list that was changed.
use Rattle.std.proofs.Common.{◌≡◌, ◌≢◌, ◌⊎◌, ℕ, zero, suc, ◌<◌, Bool, true, false, cond, eqb, List, [], ◌∷◌, ◌++◌, map, length, set, replicate, sym, refl, ap, ◌∙◌, subst, inl, inr, ⊎_elim, append-nil, eq-eqb, ne_eqb, arith}
use Rattle.std.specs.List.{AllByRecursion}
use Rattle.std.proofs.lemmas.List.{map-append}
use mathlib.Core.Option.{some, some-injective, some-ne-none}
use mathlib.Core.List.{cons≢nil, head-eq_of_cons-eq, tail-eq_of_cons-eq}
use lib.ListN.{get_elem?}
use Rattle.crossbeam_queue.proofs.Lists.{at_set}
use Rattle.cpc_pool_jobs.specs.declared.message.Message.{Message}
use Rattle.cpc_pool_jobs.specs.declared.message.Message.TheVariants as M
use Rattle.cpc_pool_jobs.specs.declared.views.Taken.{Taken}
use Rattle.cpc_pool_jobs.specs.Views.{Rises, Differ, had_by, numbers, of, taken_by, jobs_in}

module _ {X : Type 0} (P : X → Type 0) where
  pub each_of : (xs ys : List X) → AllByRecursion P xs → AllByRecursion P ys → AllByRecursion P (xs ++ ys)
  each_of [] ys a b = b
  each_of (x ∷ xs) ys a b = (a.0, each_of xs ys a.1 b)

  pub each_first : (xs ys : List X) → AllByRecursion P (xs ++ ys) → AllByRecursion P xs
  each_first [] ys a = tt
  each_first (x ∷ xs) ys a = (a.0, each_first xs ys a.1)

  pub each_at : (xs : List X) (x : X) (ys : List X) → AllByRecursion P (xs ++ x ∷ ys) → P x
  each_at [] x ys a = a.0
  each_at (y ∷ xs) x ys a = each_at xs x ys a.1

  pub each_weaker : (Q : X → Type 0) → ((x : X) → P x → Q x) → (xs : List X) → AllByRecursion P xs → AllByRecursion Q xs
  each_weaker Q f [] a = tt
  each_weaker Q f (x ∷ xs) a = (f x a.0, each_weaker Q f xs a.1)

-- one worker more has ended, who is none of those before
module _ {K : Type 0} (whose : K → ℕ) where
  kept_more : (P : ℕ → Type 0) (ks : List K) (k : K) → AllByRecursion P (map whose ks) → P (whose k) → AllByRecursion P (map whose (ks ++ k ∷ []))
  kept_more P [] k a p = (p, tt)
  kept_more P (j ∷ ks) k a p = (a.0, kept_more P ks k a.1 p)

  pub differ_kept : (ks : List K) (k : K) → Differ (map whose ks) → AllByRecursion (λ j. whose j ≢ whose k) ks → Differ (map whose (ks ++ k ∷ []))
  differ_kept [] k d a = (tt, tt)
  differ_kept (j ∷ ks) k d a = (kept_more (λ m. whose j ≢ m) ks k d.0 a.0, differ_kept ks k d.1 a.1)

pub rises_more : (ns : List ℕ) (n : ℕ) → Rises ns → AllByRecursion (λ m. m < n) ns → Rises (ns ++ n ∷ [])
rises_more [] n r b = (tt, tt)
rises_more (m ∷ ns) n r b = (each_of (λ k. m < k) ns (n ∷ []) r.0 (b.0, tt), rises_more ns n r.1 b.1)

pub rises_first : (ns ms : List ℕ) → Rises (ns ++ ms) → Rises ns
rises_first [] ms r = tt
rises_first (n ∷ ns) ms r = (each_first (λ k. n < k) ns ms r.0, rises_first ns ms r.1)

-- what one worker has of a list, where an item comes at its end
module _ {X Y : Type 0} (whose : X → ℕ) (told : X → Y) where
  abbrev had : ℕ → List X → List Y
  had w xs = had_by whose told w xs

  joined : (b : Bool) (y : Y) (xs ys : List Y) → cond b (y ∷ (xs ++ ys)) (xs ++ ys) ≡ cond b (y ∷ xs) xs ++ ys
  joined true y xs ys = refl
  joined false y xs ys = refl

  had_append : (w : ℕ) (xs ys : List X) → had w (xs ++ ys) ≡ had w xs ++ had w ys
  had_append w [] ys = refl
  had_append w (x ∷ xs) ys = ap (λ (l : List Y). cond (eqb (whose x) w) (told x ∷ l) l) (had_append w xs ys) ∙ joined (eqb (whose x) w) (told x) (had w xs) (had w ys)

  pub had_mine : (w : ℕ) (xs : List X) (x : X) → whose x ≡ w → had w (xs ++ x ∷ []) ≡ had w xs ++ told x ∷ []
  had_mine w xs x is = had_append w xs (x ∷ []) ∙ ap (λ (b : Bool). had w xs ++ cond b (told x ∷ []) []) (eq-eqb (whose x) w is)

  pub had_other : (w : ℕ) (xs : List X) (x : X) → whose x ≢ w → had w (xs ++ x ∷ []) ≡ had w xs
  had_other w xs x other = had_append w xs (x ∷ []) ∙ ap (λ (b : Bool). had w xs ++ cond b (told x ∷ []) []) (ne_eqb (whose x) w other) ∙ append-nil (had w xs)

  pub had_none : (w : ℕ) (xs : List X) → AllByRecursion (λ x. whose x < w) xs → had w xs ≡ []
  had_none w [] a = refl
  had_none w (x ∷ xs) a = let lt = a.0 in ap (λ (b : Bool). cond b (told x ∷ had w xs) (had w xs)) (ne_eqb (whose x) w (λ e. omega arith)) ∙ had_none w xs a.1

-- of a log
pub of_mine : (w n : ℕ) (ts : List Taken) → of w (ts ++ taken_by w n ∷ []) ≡ of w ts ++ n ∷ []
of_mine w n ts = had_mine (λ (t : Taken). t.worker) (λ (t : Taken). t.number) w ts (taken_by w n) refl

pub of_other : (w u n : ℕ) (ts : List Taken) → u ≢ w → of w (ts ++ taken_by u n ∷ []) ≡ of w ts
of_other w u n ts other = had_other (λ (t : Taken). t.worker) (λ (t : Taken). t.number) w ts (taken_by u n) other

pub numbers_more : (ts : List Taken) (w n : ℕ) → numbers (ts ++ taken_by w n ∷ []) ≡ numbers ts ++ n ∷ []
numbers_more ts w n = map-append (λ (t : Taken). t.number) ts (taken_by w n ∷ [])

module _ {J : Type 0} (number : J → ℕ) where
  pub jobs_are : (js : List J) (l : ℕ) → jobs_in number (map M.Work js ++ replicate l M.Stop) ≡ map number js
  jobs_are [] zero = refl
  jobs_are [] (suc l) = jobs_are [] l
  jobs_are (j ∷ js) l = ap (λ (ns : List ℕ). number j ∷ ns) (jobs_are js l)

module _ {J : Type 0} where
  abbrev stop : Message J
  stop = M.Stop

  pub stops_more : (l : ℕ) → replicate l stop ++ stop ∷ [] ≡ stop ∷ replicate l stop
  stops_more zero = refl
  stops_more (suc l) = ap (λ (ms : List (Message J)). stop ∷ ms) (stops_more l)

  -- what stands in front of jobs and then stops
  abbrev pub InFront : List J → ℕ → Message J → List (Message J) → Type 0
  InFront jobs left x items =
      ((j : J) × (rest : List J) × (jobs ≡ j ∷ rest) × (x ≡ M.Work j) × (items ≡ map M.Work rest ++ replicate left M.Stop))
      ⊎ ((l : ℕ) × (jobs ≡ []) × (left ≡ suc l) × (x ≡ M.Stop) × (items ≡ replicate l M.Stop))

  pub front : (jobs : List J) (left : ℕ) (x : Message J) (items : List (Message J)) → x ∷ items ≡ map M.Work jobs ++ replicate left M.Stop → InFront jobs left x items
  front [] zero x items e = absurd (cons≢nil e)
  front [] (suc l) x items e = inr (l, refl, refl, head-eq_of_cons-eq e, tail-eq_of_cons-eq e)
  front (j ∷ rest) left x items e = inl (j, rest, refl, head-eq_of_cons-eq e, tail-eq_of_cons-eq e)

module _ {V : Type 0} where
  pub at_end : (l : List V) (a b : V) (j : ℕ) → get_elem? (l ++ a ∷ []) j ≡ some b → (get_elem? l j ≡ some b) ⊎ ((j ≡ length l) × (a ≡ b))
  at_end [] a b zero e = inr (refl, some-injective a b e)
  at_end [] a b (suc j) e = absurd (some-ne-none b (sym e))
  at_end (x ∷ xs) a b zero e = inl e
  at_end (x ∷ xs) a b (suc j) e = ⊎_elim (λ t. inl t) (λ t. inr (ap suc t.0, t.1)) (at_end xs a b j e)

  abbrev pub All : (ℕ → V → Type 0) → List V → Type 0
  All F views = (q : ℕ) (v : V) → get_elem? views q ≡ some v → F q v

  pub all_set : (F : ℕ → V → Type 0) (views : List V) (q : ℕ) (w : V) → F q w → ((j : ℕ) (u : V) → j ≢ q → get_elem? views j ≡ some u → F j u) → All F (set views q w)
  all_set F views q w mine others j u e = ⊎_elim (λ (x : (j ≡ q) × (w ≡ u)). subst (λ (y : ℕ × V). F y.0 y.1) (λ i. (sym x.0 i, x.1 i)) mine)
      (λ (x : (j ≢ q) × (get_elem? views j ≡ some u)). others j u x.0 x.1) (at_set views q j w u e)
