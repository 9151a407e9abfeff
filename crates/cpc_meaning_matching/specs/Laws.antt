-- What a simulation gives, as statements.
use Rattle.std.specs.Prelude.{◌≡◌, ℕ, ◌*◌, ◌≤◌, Bool, true}
use Rattle.cpc_meaning_matching.specs.Systems.{System, run, Alike, NeverStuck, Ends, EndsAt, RunsAlike, RunsWithin}
use Rattle.cpc_meaning_matching.specs.Simulation.{one, Matches, Follows}

-- a system matches itself
abbrev pub MatchesItself : (S M O : Type 0) → Type 0
MatchesItself S M O = (A : System S M O) (w : S → ℕ) → Matches A A w w

-- matching composes: what the middle system's rows cost is what its steps were allowed
abbrev pub MatchingComposes : (S T U M O : Type 0) → Type 0
MatchingComposes S T U M O =
    (A : System S M O) (B : System T M O) (C : System U M O) (wa : S → ℕ) (wb : T → ℕ) (wc : U → ℕ) → Matches A B wa wb → Matches B C wb wc → Matches A C wa wc

-- so does following over histories, as each system hands on that it is never stuck
abbrev pub FollowingComposes : (H S T U M O : Type 0) → Type 0
FollowingComposes H S T U M O =
    (is_over : O → Bool) (A : H → System S M O) (B : H → System T M O) (C : H → System U M O) (wa : S → ℕ) (wb : T → ℕ) (wc : U → ℕ)
    → ((h : H) → Ends is_over (A h)) → Follows is_over A B wa wb → Follows is_over B C wb wc → Follows is_over A C wa wc

-- matching makes runs alike, and leaves the target never stuck where the source never is
abbrev pub MatchingMakesRunsAlike : (S T M O : Type 0) → Type 0
MatchingMakesRunsAlike S T M O =
    (is_over : O → Bool) (A : System S M O) (B : System T M O) (wa : S → ℕ) (wb : T → ℕ)
    → Ends is_over A → Matches A B wa wb → NeverStuck is_over A → RunsAlike is_over A B

-- rows of at most c steps reach each state within c steps for each step of the source
abbrev pub MatchingBoundsRuns : (S T M O : Type 0) → Type 0
MatchingBoundsRuns S T M O =
    (A : System S M O) (B : System T M O) (wa : S → ℕ) (c : ℕ) → ((m : ℕ) → wa (run A m) ≤ c) → Matches A B wa one → RunsWithin A B c

-- a source that is over within m steps has a target that is over within c * m
abbrev pub MatchingBoundsEnds : (S T M O : Type 0) → Type 0
MatchingBoundsEnds S T M O =
    (is_over : O → Bool) (A : System S M O) (B : System T M O) (wa : S → ℕ) (c : ℕ)
    → ((m : ℕ) → wa (run A m) ≤ c) → Ends is_over B → Matches A B wa one
    → (m : ℕ) → is_over (A.outcome (run A m)) ≡ true → (n : ℕ) × (n ≤ c * m) × EndsAt is_over B n × Alike A B (run A m) (run B n)
