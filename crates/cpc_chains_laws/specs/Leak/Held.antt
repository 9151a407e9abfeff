-- States of the event program that hold no more frames than the threads need.
use Rattle.std.specs.Prelude.{◌≡◌, ℕ, ◌+◌, ◌≤◌, ◌⊎◌, None, is_some}
use Rattle.std.specs.List.{sum_by}
use Rattle.cpc_tree.specs.Points.{Point}
use Rattle.cpc_tree.specs.Syntax.{Program}
use Rattle.cpc_tree.specs.Trace.{Going}
use Rattle.cpc_store.specs.Store.{BlocksOf, cells_in}
use Rattle.cpc_meaning.specs.Machine.{State}
use Rattle.cpc_meaning.specs.Runs.{live_cells, cost}
use Rattle.cpc_meaning.specs.Threads.{Thread}
use Rattle.cpc_meaning.specs.Events.{Callback}
use Rattle.cpc_convert_flat_laws.specs.Blocks.{one_if}
use Rattle.cpc_chains_laws.specs.Leak.Need.{frames_in, need, measure}

-- how many blocks of a class are live
abbrev pub live_blocks : {C : Type 0} → BlocksOf C → ℕ
live_blocks bs = sum_by (λ block. one_if (is_some block)) bs

-- the run goes on, or nothing runs
abbrev pub GoesOrRests : {P T : Type 0} → State P T → Type 0
GoesOrRests s = (s.outcome ≡ Going) ⊎ (s.running ≡ None)

-- The event program shows what the threads show, and nothing runs in it just where nothing runs in them. Its live frame blocks are at most as many as the cps frames of
-- all threads, and have at most the cells that these need; its `auto` blocks are those of the threads.
pub record FramesHeld (p : Program) (s : State Point (Thread Point)) (t : State Point Callback) : Type 0 where
  pub trace : s.trace ≡ t.trace
  pub outcome : s.outcome ≡ t.outcome
  pub rests : s.running ≡ None → t.running ≡ None
  pub rested : t.running ≡ None → s.running ≡ None
  pub frames : live_blocks t.store.frames ≤ frames_in p s
  pub cells : cells_in t.store.frames ≤ need p s
  pub auto : t.store.auto ≡ s.store.auto
  -- its live cells are at most the measure of the threads, and as many more as a step of them costs; none more where nothing runs
  pub live : live_cells t ≤ measure p s + cost p
  pub idle : t.running ≡ None → live_cells t ≤ measure p s
