-- Runs over histories whose polls agree as far as they were taken.
use Rattle.std.specs.Prelude.{◌≡◌, ℕ, List, [], ◌∷◌, ◌++◌}
use Rattle.cpc_tree.specs.Syntax.{Program}
use Rattle.cpc_tree.specs.Trace.{Told, Mark, Polled, Outcome, HistoryEnded, BadHistory}
use Rattle.cpc_meaning.specs.Events.{callbacks, event}
use Rattle.cpc_meaning.specs.History.{History}
use Rattle.cpc_meaning.specs.Machine.{State, IsStuck}

-- the polls that marks show, in order
abbrev pub poll_of : Mark → List Told
poll_of (Polled told) = told ∷ []
poll_of m = []

abbrev pub polls_of : List Mark → List Told
polls_of [] = []
polls_of (m ∷ ms) = poll_of m ++ polls_of ms

-- the history with these polls
abbrev pub with_polls : History → List Told → History
with_polls h polls = record h { polls = polls }

-- the state with these polls left
abbrev pub with_left : {P T : Type 0} → List Told → State P T → State P T
with_left polls s = record s { history = with_polls s.history polls }

-- a run that did not end because of what its history has next
abbrev pub IsServed : Outcome → Type 0
IsServed HistoryEnded = ⊥
IsServed (BadHistory section) = ⊥
IsServed outcome = Unit {0}

-- the polls of a history are those that the trace shows and those that are left
abbrev pub PollsAreShown : Type 0
PollsAreShown = (q : Program) (h : History) (n : ℕ) → polls_of (event q h n).trace ++ (event q h n).history.polls ≡ h.polls

-- with these polls behind those that the trace shows, a run that never is stuck comes to the same state, with these left
abbrev pub ShownPollsSuffice : Type 0
ShownPollsSuffice =
    (q : Program) (h : History) (n : ℕ) (polls : List Told) → ((m : ℕ) → ¬ IsStuck (callbacks q) (event q h m)) → IsServed (event q h n).outcome
    → event q (with_polls h (polls_of (event q h n).trace ++ polls)) n ≡ with_left polls (event q h n)
