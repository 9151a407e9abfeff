-- Rows: at least one step of the target, and at most so many, to a state that stands for the next one of the source.
use Rattle.std.proofs.Common.{◌≡◌, ◌⊎◌, inl, inr, ⊎_elim, ℕ, zero, suc, ◌+◌, ◌≤◌, true, List, [], ◌∷◌, Option, Some, None, is_some, option_map, refl, sym, ◌∙◌, ap, subst, arith}
use Rattle.cpc_store.specs.Store.{Null, Unset, Blocks}
use Rattle.cpc_tree.specs.Trace.{Mark, Going, Failed}
use Rattle.cpc_meaning_matching.specs.Simulation.{one, Path, Last, More}
use Rattle.cpc_meaning_matching.proofs.Paths.{path_wider}
use Rattle.cpc_meaning.specs.Agenda.{begin_round}
use Rattle.cpc_meaning.specs.Answer.{Answer}
use Rattle.cpc_meaning.specs.Machine.{next, settled, fault_function}
use Rattle.cpc_meaning.specs.Runs.{live_cells}
use Rattle.cpc_meaning.specs.Start.{before_underscores, main_name}
use Rattle.cpc_meaning.specs.Threads.{Pending, threads_of, shown_in}
use Rattle.cpc_meaning.specs.Events.{callbacks}
use Rattle.cpc_lift_laws.specs.Lifted.{tidy}
use Rattle.cpc_convert_image_laws.specs.Held.{beside}
use Rattle.cpc_convert_image_laws.specs.Relations.{Meets, BothGive, BothFault, Stuck}
use Rattle.cpc_chains_store_laws.specs.Chains.{frame_cells}
use Rattle.cpc_convert_flat_laws.specs.Walks.{Quiet, Climb, Rest, Go, Rise, Walk, Climbs, Finishes}
use Rattle.cpc_convert_flat_laws.proofs.Walks.{rise_then, climbs_more, climb_then, climb_ends, whole_climb, walk_append}
use Rattle.cpc_chains_laws.specs.Related.Items.{first_saved}
use Rattle.cpc_chains_laws.proofs.Related.Relation.{Source, Target, Shared, source_state, with_main, Related, IsOver}
use Rattle.cpc_chains_laws.proofs.Related.Setting.{Setting, from_form, NativeFacts, KeepsFacts}
use Rattle.cpc_chains_laws.proofs.Related.Tidy.{related_tidied}

-- a state of the target shows what a state of the source shows
pub record Shows (x : Source) (y : Target) : Type 0 where
  pub trace : x.trace ≡ y.trace
  pub outcome : x.outcome ≡ y.outcome

-- the blocks with the first frame of `main`
abbrev pub with_first : Setting → Blocks
with_first z = Some (frame_cells (first_saved z.cut main_name []) Null Unset) ∷ []

-- a cps `main` is about to be called in x; in t nothing runs, and the first frame of `main` is there
pub record MainWaits (z : Setting) (x : Source) (t : Target) : Type 0 where
  pub shared : Shared
  pub source : x ≡ source_state shared None (begin_round (with_main (Pending main_name [])))
  pub rests : t.running ≡ None
  pub store : t.store ≡ beside (with_first z) shared.store

-- a state of the target inside a row: it shows what x shows, and something runs in it, but where `main` waits
pub record Near (z : Setting) (x : Source) (t : Target) : Type 0 where
  pub trace : x.trace ≡ t.trace
  pub outcome : x.outcome ≡ t.outcome
  pub runs : (is_some t.running ≡ true) ⊎ MainWaits z x t

pub near_quiet : (z : Setting) (x : Source) (t : Target) → x.outcome ≡ Going → Quiet x.trace t → Near z x t
near_quiet z x t going q = record { trace = sym q.is_trace; outcome = going ∙ sym q.goes; runs = inl q.runs }

-- A state of the target inside a row from y: it is near x, and has at most so many live cells more than y; or it is near x', and has at most so many more than a state that
-- stands for x', which goes on.
pub data Midway (z : Setting) (k : ℕ) (x x' : Source) (y t : Target) : Type 0 where
  AtFirst : Near z x t → live_cells t ≤ live_cells y + k → Midway z k x x' y t
  AtLast : Near z x' t → (last : Target) → Related z.codes z.cut z.there x' last → x'.outcome ≡ Going → live_cells t ≤ live_cells last + k → Midway z k x x' y t

pub midway_near : (z : Setting) (k : ℕ) (x x' : Source) (y t : Target) → Midway z k x x' y t → Near z x t ⊎ Near z x' t
midway_near z k x x' y t (AtFirst near less) = inl near
midway_near z k x x' y t (AtLast near last stands goes less) = inr near

-- a row: at least one step, at most so many, from y to a state that stands for x', over states that are near x or x', with at most k more live cells than at its ends
abbrev pub RowFor : Setting → (k : ℕ) → (x x' : Source) → ℕ → Target → Type 0
RowFor z k x x' n y = Path (next (callbacks z.target)) one (Related z.codes z.cut z.there x') (Midway z k x x' y) n y

-- what both machines come to in a step, where the source has one
pub data BothStep (R : Source → Target → Type 0) : Option Source → Option Target → Type 0 where
  BothTo : (s : Source) (t : Target) → R s t → BothStep R (Some s) (Some t)
  NoStep : (o : Option Target) → BothStep R None o

-- an answer that is settled
pub settled_alike : (z : Setting) (x : Source) (y : Target) → x.trace ≡ y.trace
    → shown_in z.source (fault_function x.running) ≡ before_underscores (fault_function y.running)
    → (u : Answer Source) (v : Answer Target) → Meets (Related z.codes z.cut z.there) u v
    → BothStep (Related z.codes z.cut z.there) (settled (threads_of (from_form z)) x u) (settled (callbacks z.target) y v)
settled_alike z x y tr e _ _ (BothGive s t r) = BothTo s t r
settled_alike z x y tr e _ _ (BothFault fault) = BothTo _ _ (IsOver _ _ refl (sym tr) (ap (λ f. Failed fault f) (sym e)))
settled_alike z x y tr e _ _ (Stuck v) = NoStep _

-- a row of one step
pub one_step : {k : ℕ} (z : Setting) → NativeFacts z → KeepsFacts z → (x x' : Source) (y : Target) (u : Option Source) (v : Option Target) → BothStep (Related z.codes z.cut z.there) u v
    → option_map (tidy z.kept) u ≡ Some x' → next (callbacks z.target) y ≡ v → RowFor z k x x' 1 y
one_step z native keeps x x' y _ _ (BothTo s t r) e i = let j : tidy z.kept s ≡ x' = cc in Last 1 y t i (omega arith) (subst (λ s. Related z.codes z.cut z.there s t) j (related_tidied z native keeps s t r))
one_step z native keeps x x' y _ _ (NoStep o) e i = absurd (cc)

-- ---- rows that end in a walk

-- a number is at most another, or the other way round
either : (m n : ℕ) → (m ≤ n) ⊎ (n ≤ m)
either zero n = inl (omega arith)
either (suc m) zero = inr (omega arith)
either (suc m) (suc n) = ⊎_elim (λ h. inl (omega (arith, h))) (λ h. inr (omega (arith, h))) (either m n)

-- more than so many
pub few_cells : (a b n : ℕ) → a ≤ b → a ≤ b + n
few_cells a b n h = omega (arith, h)

-- a walk of at most so many steps leads from y to a state that stands for x', which goes on, and has so many live cells at least; the live cells rise at most g above
-- those of its ends
pub record Reached (z : Setting) (x' : Source) (n g base : ℕ) (trace : List Mark) (y : Target) : Type 0 where
  pub steps : ℕ
  pub within : steps ≤ n
  pub last : Target
  pub leads : Climbs z.target trace steps g y last
  pub ends : Related z.codes z.cut z.there x' last
  pub goes : x'.outcome ≡ Going
  pub shows : x'.trace ≡ trace
  pub kept : base ≤ live_cells last

-- after some more steps
pub reached_after : (z : Setting) (x' : Source) (m g n h base : ℕ) (trace : List Mark) (y t : Target) → Rise z.target trace m g y t → Reached z x' n h base trace t → Reached z x' (m + n) (g + h) base trace y
reached_after z x' m g n h base trace y t walk r = record {
  steps = m + r.steps;
  within = let h = r.within in omega arith;
  last = r.last;
  leads = rise_then m r.steps g h y t r.last walk r.leads;
  ends = r.ends;
  goes = r.goes;
  shows = r.shows;
  kept = r.kept;
}

-- within more steps, and more live cells
pub reached_within : (z : Setting) (x' : Source) (m n g h low base : ℕ) (trace : List Mark) (y : Target) → m ≤ n → g ≤ h → low ≤ base → Reached z x' m g base trace y → Reached z x' n h low trace y
reached_within z x' m n g h low base trace y le le' le'' r = record { steps = r.steps; within = let h = r.within in omega arith; last = r.last; leads = climbs_more r.steps g h y r.last le' r.leads; ends = r.ends; goes = r.goes; shows = r.shows; kept = let k = r.kept in omega (arith, k, le'') }

-- the source may forget what it need not keep
pub reached_tidied : (z : Setting) → NativeFacts z → KeepsFacts z → (s : Source) (n g base : ℕ) (trace : List Mark) (y : Target) → Reached z s n g base trace y → Reached z (tidy z.kept s) n g base trace y
reached_tidied z native keeps s n g base trace y r = record { steps = r.steps; within = r.within; last = r.last; leads = r.leads; ends = related_tidied z native keeps s r.last r.ends; goes = r.goes; shows = r.shows; kept = r.kept }

-- a row that rises above its first state
pub row_rises : (z : Setting) (k : ℕ) (x x' : Source) (y last : Target) (n g : ℕ) → x.outcome ≡ Going → Rise z.target x.trace (suc n) g y last → g ≤ k → Related z.codes z.cut z.there x' last → RowFor z k x x' (suc n) y
row_rises z k x x' y last n g going walk le r =
    climb_ends {q = z.target} {trace = x.trace} (Related z.codes z.cut z.there x') (Midway z k x x' y) (λ u q few. AtFirst (near_quiet z x u going q) (omega (arith, few, le))) n y last (whole_climb (suc n) g y last walk) r

-- a row that rises above its first or its last state
pub row_climbs : (z : Setting) (k : ℕ) (x x' : Source) (y last : Target) (n g : ℕ) → x.outcome ≡ Going → x'.outcome ≡ Going → x'.trace ≡ x.trace → Climbs z.target x.trace (suc n) g y last → g ≤ k → Related z.codes z.cut z.there x' last
    → RowFor z k x x' (suc n) y
row_climbs z k x x' y last n g going goes shows walk le r = ⊎_elim by_last by_first (either (live_cells y) (live_cells last))
  where
    quiet_as : {u : Target} → Quiet x.trace u → Quiet x'.trace u
    quiet_as q = record { is_trace = q.is_trace ∙ sym shows; goes = q.goes; runs = q.runs }

    by_last : live_cells y ≤ live_cells last → RowFor z k x x' (suc n) y
    by_last few =
        climb_ends {q = z.target} {trace = x.trace} (Related z.codes z.cut z.there x') (Midway z k x x' y) (λ u q less. AtLast (near_quiet z x' u goes (quiet_as q)) last r goes (omega (arith, less, le))) n y last
        (walk.climb (live_cells last + g) (omega (arith, few)) (omega arith)) r

    by_first : live_cells last ≤ live_cells y → RowFor z k x x' (suc n) y
    by_first few =
        climb_ends {q = z.target} {trace = x.trace} (Related z.codes z.cut z.there x') (Midway z k x x' y) (λ u q less. AtFirst (near_quiet z x u going q) (omega (arith, less, le))) n y last
        (walk.climb (live_cells y + g) (omega arith) (omega (arith, few))) r

-- some steps over states that show what x shows, and the rest of a walk
pub row_reached : {base : ℕ} (z : Setting) (k : ℕ) (x x' : Source) (y t : Target) (m g n h : ℕ) → x.outcome ≡ Going → Rise z.target x.trace (suc m) g y t → Reached z x' n h base x.trace t → g + h ≤ k → RowFor z k x x' (suc m + n) y
row_reached z k x x' y t m g n h going walk r le =
    path_wider (suc m + n) (let h = r.within in let e : suc (m + r.steps) ≤ suc m + n = omega arith in e)
    (row_climbs z k x x' y r.last (m + r.steps) (g + h) going r.goes r.shows
    (subst (λ j. Climbs z.target x.trace j (g + h) y r.last) (let e : suc m + r.steps ≡ suc (m + r.steps) = omega arith in e) (rise_then (suc m) r.steps g h y t r.last walk r.leads)) le r.ends)

-- a row of one step, after which both have more in common than that
pub row_at_once : (z : Setting) (k : ℕ) (x x' : Source) (y last : Target) → next (callbacks z.target) y ≡ Some last → Related z.codes z.cut z.there x' last → RowFor z k x x' 1 y
row_at_once z k x x' y last e r = Last 1 y last e (omega arith) r

-- a walk over states that show what x' shows, with few live cells beside the last of them
after_mark : (z : Setting) (k : ℕ) (x x' : Source) (y end : Target) (most : ℕ) (s u last : Target) (n : ℕ) → x'.outcome ≡ Going → Related z.codes z.cut z.there x' end → most ≤ live_cells end + k → next (callbacks z.target) s ≡ Some u → Quiet x'.trace u → live_cells u ≤ most
    → Climb z.target x'.trace most n u last → Related z.codes z.cut z.there x' last → Path (next (callbacks z.target)) one (Related z.codes z.cut z.there x') (Midway z k x x' y) (suc n) s
after_mark z k x x' y end most s _ last _ going stands le e quiet few (Rest _) r = Last 1 s last e (omega arith) r
after_mark z k x x' y end most s u last _ going stands le e quiet few (Go n _ t _ e' quiet' few' walk) r =
    More (suc (suc n)) (suc n) s u e (omega arith) (AtLast (near_quiet z x' u going quiet) end stands going (omega (arith, few, le)))
    (after_mark z k x x' y end most u t last n going stands le e' quiet' few' walk r)

-- one step to what x' shows, with at most c more live cells than the last state, and the rest of a walk
pub row_marked : (z : Setting) (k : ℕ) (x x' : Source) (y u : Target) (n h base c : ℕ) → next (callbacks z.target) y ≡ Some u → Quiet x'.trace u → Reached z x' n h base x'.trace u → live_cells u ≤ base + c → c + h ≤ k → RowFor z k x x' (suc n) y
row_marked z k x x' y u n h base c e quiet r few le =
    let low = r.kept in
    path_wider (suc n) (let h = r.within in let i : suc r.steps ≤ suc n = omega arith in i)
    (after_mark z k x x' y r.last (live_cells r.last + (c + h)) y u r.last r.steps r.goes r.ends (omega (arith, le)) e quiet (omega (arith, few, low)) (r.leads.climb (live_cells r.last + (c + h)) (omega (arith, few, low)) (omega arith)) r.ends)

-- ---- rows that end where nothing runs

-- some steps over states that show what x shows, and a last one
pub row_finished : (z : Setting) (k : ℕ) (x x' : Source) (y s u : Target) (m n : ℕ) → x.outcome ≡ Going → Walk z.target x.trace m y s → Finishes z.target x.trace n s u → m + n ≤ k → Related z.codes z.cut z.there x' u → RowFor z k x x' (m + (n + 1)) y
row_finished z k x x' y s u m n going walk f le end =
    path_wider (m + (n + 1)) (omega arith)
    (climb_then {q = z.target} {trace = x.trace} (Related z.codes z.cut z.there x') (Midway z k x x' y) (λ t q few. AtFirst (near_quiet z x t going q) (omega (arith, few, le))) (m + n) 1 y f.before
    (whole_climb (m + n) (m + n) y f.before (walk_append m n y s f.before walk f.leads)) (Last 1 f.before u f.last (omega arith) end))

-- some steps over states that show what x shows, one to what x' shows, with at most c more live cells than the last state, some more, and a last one
pub marked_finished : (z : Setting) (k : ℕ) (x x' : Source) (y s u t : Target) (m n c : ℕ) → x.outcome ≡ Going → x'.outcome ≡ Going → Walk z.target x.trace m y s → m ≤ k → next (callbacks z.target) s ≡ Some u → Quiet x'.trace u → Finishes z.target x'.trace n u t
    → live_cells u ≤ live_cells t + c → c + n ≤ k → Related z.codes z.cut z.there x' t → RowFor z k x x' (m + suc (n + 1)) y
marked_finished z k x x' y s u t m n c going going' walk le e quiet f few le' end =
    climb_then {q = z.target} {trace = x.trace} (Related z.codes z.cut z.there x') (Midway z k x x' y) (λ u q less. AtFirst (near_quiet z x u going q) (omega (arith, less, le))) m (suc (n + 1)) y s (whole_climb m m y s walk)
    (More (suc (n + 1)) (n + 1) s u e (omega arith) (AtLast (near_quiet z x' u going' quiet) t end going' (omega (arith, few, le')))
    (climb_then {q = z.target} {trace = x'.trace} (Related z.codes z.cut z.there x') (Midway z k x x' y) (λ v q less. AtLast (near_quiet z x' v going' q) t end going' (omega (arith, less, few, le'))) n 1 u f.before
    (whole_climb n n u f.before f.leads) (Last 1 f.before t f.last (omega arith) end)))
