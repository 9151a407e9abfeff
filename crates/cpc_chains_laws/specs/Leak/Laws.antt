-- That no frames are left over, as statements.
use Rattle.std.specs.Prelude.{◌≡◌, ◌⊎◌, ℕ, ◌+◌, ◌*◌, ◌<◌, ◌≤◌, true, None}
use Rattle.cpc_tree.specs.Syntax.{Program}
use Rattle.cpc_tree.specs.Trace.{is_over}
use Rattle.cpc_meaning.specs.Events.{event}
use Rattle.cpc_meaning.specs.History.{History}
use Rattle.cpc_meaning.specs.Runs.{cost, live_cells}
use Rattle.cpc_meaning.specs.Threads.{threaded}
use Rattle.cpc_chains_event.specs.Converted.{converted}
use Rattle.cpc_lifted_laws.specs.Accepted.Accepted.{OfAccepted}
use Rattle.cpc_chains_laws.specs.Leak.Held.{GoesOrRests, FramesHeld}
use Rattle.cpc_chains_laws.specs.Leak.Need.{measure}

-- for each state of the threads, in which the run goes on or nothing runs, the event program comes within the cost to a state that holds no more frames than they need
abbrev pub ComesTo : Program → Type 0
ComesTo p = (h : History) (m : ℕ) → GoesOrRests (threaded p h m) → (n : ℕ) × (m ≤ n) × (n ≤ cost p * (m + 1)) × FramesHeld p (threaded p h m) (event (converted p) h n)

-- and at each number of steps the event program was, less than the cost of one step ago, in such a state
abbrev pub ComesFrom : Program → Type 0
ComesFrom p = (h : History) (n : ℕ) → (m : ℕ) × (k : ℕ) × (m ≤ k) × (k ≤ n) × (n < k + cost p) × (GoesOrRests (threaded p h m) → FramesHeld p (threaded p h m) (event (converted p) h k))

-- wherever nothing runs in the event program q, nothing runs in a state of the threads of p after no more steps, and no fewer than the cost allows, and q holds no more
-- frames and cells than they need there
abbrev pub RestsHeld : (p q : Program) → Type 0
RestsHeld p q = (h : History) (n : ℕ) → (event q h n).running ≡ None → (m : ℕ) × (m ≤ n) × (n ≤ cost p * (m + 2)) × ((threaded p h m).running ≡ None) × FramesHeld p (threaded p h m) (event q h n)

-- at every number of steps there is a state of the threads, after no more steps, and until the run is over no fewer than the cost allows, that shows the same trace, and the
-- live cells of the event program are at most its measure, and as many more as one step of the threads costs
abbrev pub Measured : (p q : Program) → Type 0
Measured p q = (h : History) (n : ℕ) → (m : ℕ) × (m ≤ n) × ((n ≤ cost p * (m + 2)) ⊎ (is_over (event q h n).outcome ≡ true)) × ((threaded p h m).trace ≡ (event q h n).trace) × (live_cells (event q h n) ≤ measure p (threaded p h m) + cost p)

-- the event program q leaks nothing of the threads of p
pub record NoLeak (p q : Program) : Type 0 where
  pub rests : RestsHeld p q
  pub live : Measured p q

-- so it is for the event program of a program
abbrev pub Rests : Program → Type 0
Rests p = RestsHeld p (converted p)

abbrev pub LeaksNot : Program → Type 0
LeaksNot p = NoLeak p (converted p)

-- so it is for each accepted program
abbrev pub ConvertedComesTo : Type 0
ConvertedComesTo = OfAccepted ComesTo

abbrev pub ConvertedComesFrom : Type 0
ConvertedComesFrom = OfAccepted ComesFrom

abbrev pub ConvertedRests : Type 0
ConvertedRests = OfAccepted LeaksNot
