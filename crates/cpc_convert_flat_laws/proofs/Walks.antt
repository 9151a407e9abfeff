-- Walks one after the other, and as paths.
use Rattle.std.proofs.Common.{◌≡◌, ℕ, zero, suc, ◌+◌, ◌≤◌, List, Some, subst, arith}
use Rattle.cpc_tree.specs.Syntax.{Program}
use Rattle.cpc_tree.specs.Trace.{Mark}
use Rattle.cpc_meaning_matching.specs.Simulation.{one, Path, Last, More}
use Rattle.cpc_meaning.specs.Machine.{next}
use Rattle.cpc_meaning.specs.Events.{callbacks}
use Rattle.cpc_meaning.specs.Runs.{live_cells}
use Rattle.cpc_convert_flat_laws.specs.Walks.{Here, Quiet, Climb, Rest, Go, Rise, Walk, Climbs, Swell, Finishes}

module _ {q : Program} {trace : List Mark} where
  -- ---- climbs

  pub climb_append : {most : ℕ} (m n : ℕ) (s t u : Here) → Climb q trace most m s t → Climb q trace most n t u → Climb q trace most (m + n) s u
  climb_append {most = most} _ n s _ u (Rest _) v = subst (λ k. Climb q trace most k s u) (let e : n ≡ 0 + n = omega arith in e) v
  climb_append {most = most} _ n s t u (Go m _ r _ e quiet few w) v = subst (λ k. Climb q trace most k s u) (let f : suc (m + n) ≡ suc m + n = omega arith in f) (Go (m + n) s r u e quiet few (climb_append m n r t u w v))

  -- the last state of a climb
  pub climb_few : {most : ℕ} (n : ℕ) (s u : Here) → live_cells s ≤ most → Climb q trace most n s u → live_cells u ≤ most
  climb_few _ s _ few (Rest _) = few
  climb_few _ s u few (Go n _ r _ e quiet few' w) = climb_few n r u few' w

  -- a climb, and then a path
  pub climb_then : {most : ℕ} (End Mid : Here → Type 0) → ((z : Here) → Quiet trace z → live_cells z ≤ most → Mid z) → (n d : ℕ) (s t : Here) → Climb q trace most n s t → Path (next (callbacks q)) one End Mid d t → Path (next (callbacks q)) one End Mid (n + d) s
  climb_then End Mid mid _ d s _ (Rest _) p = subst (λ k. Path (next (callbacks q)) one End Mid k s) (let e : d ≡ 0 + d = omega arith in e) p
  climb_then End Mid mid _ d s t (Go n _ r _ e quiet few w) p = More (suc n + d) (n + d) s r e (omega arith) (mid r quiet few) (climb_then End Mid mid n d r t w p)

  after_first : {most : ℕ} (End Mid : Here → Type 0) → ((z : Here) → Quiet trace z → live_cells z ≤ most → Mid z) → (n : ℕ) (s r t : Here) → next (callbacks q) s ≡ Some r → Quiet trace r → live_cells r ≤ most → Climb q trace most n r t → End t → Path (next (callbacks q)) one End Mid (suc n) s
  after_first End Mid mid _ s r _ e quiet few (Rest _) end = Last 1 s r e (omega arith) end
  after_first End Mid mid _ s r t e quiet few (Go n _ r' _ e' quiet' few' w) end = More (suc (suc n)) (suc n) s r e (omega arith) (mid r quiet few) (after_first End Mid mid n r r' t e' quiet' few' w end)

  -- a climb to the end of a row
  pub climb_ends : {most : ℕ} (End Mid : Here → Type 0) → ((z : Here) → Quiet trace z → live_cells z ≤ most → Mid z) → (n : ℕ) (s t : Here) → Climb q trace most (suc n) s t → End t → Path (next (callbacks q)) one End Mid (suc n) s
  climb_ends End Mid mid n s t (Go _ _ r _ e quiet few w) end = after_first End Mid mid n s r t e quiet few w end

  -- ---- rises

  -- the last state of a rise
  pub rise_few : (n grown : ℕ) (s u : Here) → Rise q trace n grown s u → live_cells u ≤ live_cells s + grown
  rise_few n grown s u r = climb_few n s u (omega arith) (r.climb (live_cells s + grown) (omega arith))

  pub rise_append : (m n g h : ℕ) (s t u : Here) → Rise q trace m g s t → Rise q trace n h t u → Rise q trace (m + n) (g + h) s u
  rise_append m n g h s t u r v = record {
    climb = λ most room.
        let few = rise_few m g s t r in
        climb_append m n s t u (r.climb most (omega (arith, room))) (v.climb most (omega (arith, room, few)));
  }

  pub rise_more : (n g h : ℕ) (s u : Here) → g ≤ h → Rise q trace n g s u → Rise q trace n h s u
  rise_more n g h s u le r = record { climb = λ most room. r.climb most (omega (arith, room, le)) }

  -- one step
  pub rise_one : (g : ℕ) (s t : Here) → next (callbacks q) s ≡ Some t → Quiet trace t → live_cells t ≤ live_cells s + g → Rise q trace 1 g s t
  rise_one g s t e quiet few = record { climb = λ most room. Go 0 s t t e quiet (omega (arith, room, few)) (Rest t) }

  pub rise_steps : (m n g : ℕ) (s t : Here) → m ≡ n → Rise q trace m g s t → Rise q trace n g s t
  rise_steps m n g s t e r = subst (λ k. Rise q trace k g s t) e r

  -- one step, and then a rise
  pub rise_cons : (n g h : ℕ) (s t u : Here) → Rise q trace 1 g s t → Rise q trace n h t u → Rise q trace (suc n) (g + h) s u
  rise_cons n g h s t u r v = rise_steps (1 + n) (suc n) (g + h) s u (omega arith) (rise_append 1 n g h s t u r v)

  -- one that keeps the live cells
  pub level_cons : (n g : ℕ) (s t u : Here) → Rise q trace 1 0 s t → Rise q trace n g t u → Rise q trace (suc n) g s u
  level_cons n g s t u r v = rise_more (suc n) (0 + g) g s u (omega arith) (rise_cons n 0 g s t u r v)

  -- a rise, and then steps that keep the live cells
  pub rise_then_level : (m n g : ℕ) (s t u : Here) → Rise q trace m g s t → Rise q trace n 0 t u → Rise q trace (m + n) g s u
  rise_then_level m n g s t u r v = rise_more (m + n) (g + 0) g s u (omega arith) (rise_append m n g 0 s t u r v)

  -- no step
  pub stay : (s : Here) → Walk q trace 0 s s
  stay s = record { climb = λ most room. Rest s }

  -- a rise after which the live cells are as many
  pub rise_level : (m n g h : ℕ) (s t u : Here) → Rise q trace m g s t → live_cells t ≤ live_cells s → Rise q trace n h t u → g ≤ h → Rise q trace (m + n) h s u
  rise_level m n g h s t u r few v le = record {
    climb = λ most room. climb_append m n s t u (r.climb most (omega (arith, room, le))) (v.climb most (omega (arith, room, few)));
  }

  -- ---- walks

  pub walk_append : (m n : ℕ) (s t u : Here) → Walk q trace m s t → Walk q trace n t u → Walk q trace (m + n) s u
  walk_append m n s t u w v = rise_append m n m n s t u w v

  -- a walk of one step
  pub walk_one : (s t : Here) → next (callbacks q) s ≡ Some t → Quiet trace t → live_cells t ≤ live_cells s + 1 → Walk q trace 1 s t
  walk_one s t e quiet few = rise_one 1 s t e quiet few

  -- one step, and then a walk
  pub walk_cons : (n : ℕ) (s t u : Here) → Walk q trace 1 s t → Walk q trace n t u → Walk q trace (suc n) s u
  walk_cons n s t u w v = subst (λ k. Walk q trace k s u) (let e : 1 + n ≡ suc n = omega arith in e) (walk_append 1 n s t u w v)

  -- a walk with another number of steps
  pub walk_as : (m n : ℕ) (s t : Here) → m ≡ n → Walk q trace m s t → Walk q trace n s t
  walk_as m n s t e w = subst (λ k. Walk q trace k s t) e w

  -- a rise as a climb
  pub whole_climb : (n g : ℕ) (s t : Here) → Rise q trace n g s t → Climb q trace (live_cells s + g) n s t
  whole_climb n g s t r = r.climb (live_cells s + g) (omega arith)

  -- a walk, and then a path
  pub walk_then : {g : ℕ} (End Mid : Here → Type 0) → ((z : Here) → Quiet trace z → Mid z) → (n d : ℕ) (s t : Here) → Rise q trace n g s t → Path (next (callbacks q)) one End Mid d t → Path (next (callbacks q)) one End Mid (n + d) s
  walk_then {g = g} End Mid mid n d s t w p = climb_then End Mid (λ z quiet few. mid z quiet) n d s t (whole_climb n g s t w) p

  -- a walk to the end of a row
  pub walk_ends : {g : ℕ} (End Mid : Here → Type 0) → ((z : Here) → Quiet trace z → Mid z) → (n : ℕ) (s t : Here) → Rise q trace (suc n) g s t → End t → Path (next (callbacks q)) one End Mid (suc n) s
  walk_ends {g = g} End Mid mid n s t w end = climb_ends End Mid (λ z quiet few. mid z quiet) n s t (whole_climb (suc n) g s t w) end

  -- some steps before a finish
  pub finishes_after : (m n : ℕ) (s t u : Here) → Walk q trace m s t → Finishes q trace n t u → Finishes q trace (m + n) s u
  finishes_after m n s t u walk f = record { before = f.before; leads = walk_append m n s t f.before walk f.leads; last = f.last }

  -- a finish is the end of a row
  pub finishes_path : (End Mid : Here → Type 0) → ((z : Here) → Quiet trace z → Mid z) → (n : ℕ) (s u : Here) → Finishes q trace n s u → End u → Path (next (callbacks q)) one End Mid (n + 1) s
  finishes_path End Mid mid n s u f end = walk_then End Mid mid n 1 s f.before f.leads (Last 1 f.before u f.last (omega arith) end)

  -- ---- swells

  pub swell_stay : (s : Here) → Swell q trace 0 s s
  swell_stay s = record { grown = 0; rise = stay s; full = omega arith }

  pub swell_cons : (n : ℕ) (s t u : Here) → Swell q trace 1 s t → Swell q trace n t u → Swell q trace (suc n) s u
  swell_cons n s t u a b = record {
    grown = a.grown + b.grown;
    rise = rise_cons n a.grown b.grown s t u a.rise b.rise;
    full = let e = a.full in let f = b.full in omega (arith, e, f);
  }

  -- ---- between the first and the last

  pub rise_climbs : (n g : ℕ) (s u : Here) → Rise q trace n g s u → Climbs q trace n g s u
  rise_climbs n g s u r = record { climb = λ most room room'. r.climb most room }

  pub climbs_more : (n g h : ℕ) (s u : Here) → g ≤ h → Climbs q trace n g s u → Climbs q trace n h s u
  climbs_more n g h s u le r = record { climb = λ most room room'. r.climb most (omega (arith, room, le)) (omega (arith, room', le)) }

  -- a swell rises no further than to its last state
  pub swell_climbs : (n : ℕ) (s u : Here) → Swell q trace n s u → Climbs q trace n 0 s u
  swell_climbs n s u a = record { climb = λ most room room'. let e = a.full in a.rise.climb most (omega (arith, room', e)) }

  -- some steps that rise, and then others
  pub rise_then : (m n g h : ℕ) (s t u : Here) → Rise q trace m g s t → Climbs q trace n h t u → Climbs q trace (m + n) (g + h) s u
  rise_then m n g h s t u r v = record {
    climb = λ most room room'.
        let few = rise_few m g s t r in
        climb_append m n s t u (r.climb most (omega (arith, room))) (v.climb most (omega (arith, room, few)) (omega (arith, room')));
  }

  -- some steps to a state that has at most so many more than the last has, and then others
  pub climbs_append : (m n g h c k : ℕ) (s t u : Here) → Climbs q trace m g s t → live_cells t ≤ live_cells u + c → Climbs q trace n h t u → g + c ≤ k → h + c ≤ k → Climbs q trace (m + n) k s u
  climbs_append m n g h c k s t u r few v le le' = record {
    climb = λ most room room'.
        climb_append m n s t u (r.climb most (omega (arith, room, le)) (omega (arith, room', few, le))) (v.climb most (omega (arith, room', few, le')) (omega (arith, room', le')));
  }
