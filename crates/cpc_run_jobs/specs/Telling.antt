-- How far the sections that a poll tells have been collected.
use Rattle.std.specs.Prelude.{◌≡◌, ℕ, List, [], ◌∷◌, Option, Some, None}
use Rattle.cpc_base.specs.declared.names.Name.{Name}
use Rattle.cpc_base.specs.declared.poll.Event.{Event}
use Rattle.cpc_num.specs.declared.kinds.Fault.{Fault}
use Rattle.cpc_tree.specs.Erase.{Names}
use Rattle.cpc_tree.specs.Points.{Point}
use Rattle.cpc_store.specs.Store.{Value, Store}
use Rattle.cpc_meaning.specs.Agenda.{completed}
use Rattle.cpc_meaning.specs.Copies as C
use Rattle.cpc_meaning.specs.Plain.{Form}
use Rattle.cpc_meaning.specs.Section as M
use Rattle.cpc_sections.specs.Backs.{CollectsAs}
use Rattle.cpc_sections.specs.declared.job.Job.{Job}
use Rattle.cpc_run_jobs.specs.Held.{AreHeld, are_out, left_out}

-- these values stand before those of what comes behind
abbrev pub behind : List Value → C.Collected → C.Collected
behind [] c = c
behind (v ∷ vs) c = C.and_value v (behind vs c)

-- these values were collected, into this store; those of the events that are left, of what is out, stand behind them in the whole
pub record Reached (names : Names) (p : Form Point) (bound : ℕ) (jobs : List M.Job) (made : ℕ) (whole : C.Collected) (last : List ℕ) (held : List (ℕ × Job)) (vs : List Value) (s : Store) (rest : List Event) : Type 0 where
  pub out : List ℕ
  pub holds : AreHeld names held jobs made out
  pub left : left_out (completed rest) out ≡ last
  pub collects : CollectsAs (behind vs (C.collect p bound jobs (are_out (completed rest) out) s)) whole

-- one event more was told; or its section failed, and so did all
abbrev pub ReachedNext : Names → Option (Fault × Name) → C.Collected → (next : Type 0) → Type 0
ReachedNext names None whole next = next
ReachedNext names (Some failed) whole next = CollectsAs (C.OneFailed failed.0 (names failed.1)) whole
